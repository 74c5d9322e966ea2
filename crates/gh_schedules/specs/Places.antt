-- Places of partitions. Each of them numbers a block of 128 indices, where the objects of one
-- partition lie; its own index lies in the block of the partition that it lives in. An object is
-- noted with the least place that no partition had as it was made, and a partition has the place
-- that it was noted with.
use Rattle.std.specs.Prelude.{◌==◌, ◌&&◌, not, ℕ, Bool, true, false, List, [], ◌∷◌, Option, Some}
use Rattle.std.specs.Prelude.{None, count_by, find, nat_lt}
use Rattle.std.specs.List.{list_any, range_with_len}
use Rattle.std.specs.Option.{unwrap_or}
use Rattle.gh_base.specs.declared.kind.Kind.{Kind}
use Rattle.gh_base.specs.declared.kind.Kind.TheVariants as kind
use Rattle.gh_base.specs.declared.limits.TheConstants.{PARTITIONS}
use Rattle.gh_events.specs.Config.{Config, put}
use Rattle.gh_invariant.specs.Events.{changes_of}
use Rattle.gh_model.specs.History as history
use Rattle.gh_model.specs.declared.change.Change.{Change}
use Rattle.gh_model.specs.declared.change.Change.TheVariants.{AddObject}
use Rattle.gh_model.specs.declared.rows.ObjectRow.{ObjectRow}
use Rattle.gh_model.specs.declared.state.State.{State}

abbrev pub is_partition_kind : Kind → Bool
is_partition_kind kind.Partition = true
is_partition_kind _ = false

-- a partition that lives has this place
abbrev pub has_place : (ℕ → ℕ) → ℕ → ObjectRow → Bool
has_place places place row = is_partition_kind row.kind && (places row.serial.0 == place)

abbrev pub is_free_place : State → (ℕ → ℕ) → ℕ → Bool
is_free_place s places place = not (list_any (has_place places place) s.objects)

-- the least place that no partition has
abbrev pub free_place : State → (ℕ → ℕ) → Option ℕ
free_place s places = find (is_free_place s places) (range_with_len 0 PARTITIONS)

-- the place that a new object is noted with, 0 where all are taken
abbrev pub new_place : State → (ℕ → ℕ) → ℕ
new_place s places = unwrap_or (free_place s places) 0

-- objects of the boot: its partitions have their places in their order
abbrev pub is_earlier_partition : ℕ → ObjectRow → Bool
is_earlier_partition serial row = nat_lt row.serial.0 serial && is_partition_kind row.kind

abbrev pub boot_place : State → ℕ → ℕ
boot_place boot serial = count_by (is_earlier_partition serial) boot.objects

-- the row of an object that changes make, the first if there are more
abbrev pub first_row : Option ObjectRow → Option ObjectRow → Option ObjectRow
first_row None others = others
first_row (Some row) others = Some row

abbrev pub adds : Change → Option ObjectRow
adds (AddObject row) = Some row
adds _ = None

abbrev pub added : List Change → Option ObjectRow
added [] = None
added (change ∷ changes) = first_row (adds change) (added changes)

-- the places behind changes: an object that they make is noted
abbrev pub places_with : State → (ℕ → ℕ) → Option ObjectRow → ℕ → ℕ
places_with s places None = places
places_with s places (Some row) = put places row.serial.0 (new_place s places)

-- the places behind the events of a history
unfoldable pub places_behind : State → (ℕ → ℕ) → List history.Event → ℕ → ℕ
places_behind s places [] = places
places_behind s places (event ∷ events) =
    places_behind (history.after_event s event)
    (places_with s places (added (changes_of s event))) events

-- the places of a configuration
abbrev pub places_of : Config → ℕ → ℕ
places_of conf = places_behind conf.boot (boot_place conf.boot) conf.history
