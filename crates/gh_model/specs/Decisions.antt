-- What the decisions of all calls share.
use Rattle.std.specs.Prelude.{ℕ, Bool, true, false, List, []}
use Rattle.std.specs.Prelude.{◌∷◌, Option, Some, None, slice_get}
use Rattle.std.specs.Option.{unwrap_or}
use Rattle.gh_base.specs.Reply.{register_reply}
use Rattle.gh_base.specs.declared.frame.Reply.{Reply}
use Rattle.gh_base.specs.declared.ids.Serial.{Serial}
use Rattle.gh_base.specs.declared.kind.Stage.{Stage}
use Rattle.gh_base.specs.declared.kind.Stage.TheVariants.{Init, Ready, Active}
use Rattle.gh_model.specs.declared.change.Change.{Change}
use Rattle.gh_model.specs.declared.change.Decision.{Decision}
use Rattle.gh_model.specs.declared.change.Decision.TheVariants.{Make}
use Rattle.gh_model.specs.declared.rows.ObjectRow.{ObjectRow}

-- the object that a call's look of this place granted
abbrev pub grant_at : List Serial → ℕ → Serial
grant_at grants at = unwrap_or (slice_get grants at) (record { 0 = 0 })

-- a reply of 0 and so many registers more
abbrev pub done : Reply
done = register_reply 0 0 0 0

-- the reply of a call that is done, with a number in x1
abbrev pub done_with : ℕ → Reply
done_with x1 = register_reply 0 x1 0 0

-- one change
abbrev pub make_one : Change → Reply → Decision
make_one change reply = Make (change ∷ []) reply

-- the stage is Init
abbrev pub is_init_stage : Stage → Bool
is_init_stage Init = true
is_init_stage Ready = false
is_init_stage Active = false

-- the object is there and at the stage Init
abbrev pub is_init_row : Option ObjectRow → Bool
is_init_row None = false
is_init_row (Some row) = is_init_stage row.stage
