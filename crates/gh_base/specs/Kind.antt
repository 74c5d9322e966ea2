-- The kinds of objects, each with its number, its cost at create in units, its rights and its
-- first stage.
use Rattle.std.specs.Prelude.{ℕ, ◌+◌, ◌==◌, Option, Some, None, if◌then◌else◌}
use Rattle.gh_base.specs.declared.kind.Kind.{Kind}
use Rattle.gh_base.specs.declared.kind.Kind.TheVariants.{Partition, Cspace, Space}
use Rattle.gh_base.specs.declared.kind.Kind.TheVariants.{Extent, Bell, Queue}
use Rattle.gh_base.specs.declared.ids.TheConstants.Rights as right
use Rattle.gh_base.specs.declared.kind.Stage.{Stage}
use Rattle.gh_base.specs.declared.kind.Stage.TheVariants.{Init, Ready}

-- the number of a kind in a call and in a capability word
abbrev pub kind_number : Kind → ℕ
kind_number Partition = 1
kind_number Cspace = 2
kind_number Space = 3
kind_number Extent = 4
kind_number Bell = 5
kind_number Queue = 6

-- the kind of a number
abbrev pub kind_numbered : ℕ → Option Kind
kind_numbered n =
    if n == 1 then Some Partition
    else if n == 2 then Some Cspace
    else if n == 3 then Some Space
    else if n == 4 then Some Extent
    else if n == 5 then Some Bell
    else if n == 6 then Some Queue
    else None

-- units at create
abbrev pub kind_cost : Kind → ℕ
kind_cost Partition = 1
kind_cost Cspace = 4
kind_cost Space = 4
kind_cost Extent = 1
kind_cost Bell = 1
kind_cost Queue = 1

-- all rights of the kind, with that to activate
abbrev pub kind_rights : Kind → ℕ
kind_rights Partition = right.CREATE.0 + right.RESOURCE_MANAGER.0 + right.ACTIVATE.0
kind_rights Cspace =
    right.CREATE.0 + right.COPY.0 + right.DELETE.0 + right.REVOKE.0 + right.ACTIVATE.0
kind_rights Space = right.MAP.0 + right.LOOKUP.0 + right.ACTIVATE.0
kind_rights Extent = right.MAP.0 + right.DERIVE.0 + right.DONATE.0 + right.ACTIVATE.0
kind_rights Bell = right.SEND.0 + right.RECEIVE.0 + right.ACTIVATE.0
kind_rights Queue = right.SEND.0 + right.RECEIVE.0 + right.ACTIVATE.0

-- the stage after create
abbrev pub kind_stage : Kind → Stage
kind_stage Partition = Init
kind_stage Cspace = Ready
kind_stage Space = Ready
kind_stage Extent = Init
kind_stage Bell = Ready
kind_stage Queue = Init
