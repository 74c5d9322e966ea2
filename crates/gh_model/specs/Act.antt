-- What an act comes to, and the objects that it is granted.
use Rattle.std.specs.Prelude.{◌≡◌, ◌+◌, Bool, true, false, List}
use Rattle.std.specs.Prelude.{[], length, take, Option, Some, None, map}
use Rattle.std.specs.List.{list_any, list_all}
use Rattle.gh_base.specs.Reply.{register_reply}
use Rattle.gh_base.specs.declared.call.Call.{Call}
use Rattle.gh_base.specs.declared.frame.Reply.{Reply}
use Rattle.gh_base.specs.declared.ids.Serial.{Serial}
use Rattle.gh_base.specs.declared.kind.Stage.{Stage}
use Rattle.gh_base.specs.declared.kind.Stage.TheVariants.{Init, Ready, Active}
use Rattle.gh_model.specs.declared.plain.Judged.{Judged}
use Rattle.gh_model.specs.declared.plain.Judged.TheVariants as says
use Rattle.gh_model.specs.declared.rows.ObjectRow.{ObjectRow}
use Rattle.gh_model.specs.declared.rows.CapabilityRow.{CapabilityRow}
use Rattle.gh_model.specs.declared.word.Word.{Word}
use Rattle.gh_model.specs.declared.state.State.{State}
use Rattle.gh_model.specs.Rows.{object_row}
use Rattle.gh_model.specs.References.{is_doomed}
use Rattle.gh_model.specs.Registers.{needs_of}

-- what an act comes to: a new state and a reply, or a refusal, which changes nothing
pub data Verdict : Type 0 where
  Done : State → Reply → Verdict
  Refused : Reply → Verdict

-- the machine's answer is this verdict
abbrev pub Judges : State → State → Judged → Verdict → Type 0
Judges old new (says.Done reply) verdict = verdict ≡ Done new reply
Judges old new (says.Refused reply) verdict = (verdict ≡ Refused reply) × (new ≡ old)

-- an entry of another kind than Part is made
abbrev pub counted : State → State
counted s = record s { entries = s.entries + 1; taken = [] }

-- the stage is active
abbrev pub is_active_stage : Stage → Bool
is_active_stage Init = false
is_active_stage Ready = false
is_active_stage Active = true

-- the object is there and active
abbrev pub is_active_row : Option ObjectRow → Bool
is_active_row None = false
is_active_row (Some row) = is_active_stage row.stage

-- every granted object is in use
abbrev pub all_active : State → List Serial → Bool
all_active s grants = list_all (λ (grant : Serial). is_active_row (object_row s grant.0)) grants

-- a granted object is at its end
abbrev pub any_doomed : State → List Serial → Bool
any_doomed s grants = list_any (λ (grant : Serial). is_doomed s grant.0) grants

-- identify: the interface's version and variant
abbrev pub identified : Reply
identified = register_reply 0x8001 0x46 0 0

-- the object that a word grants
abbrev pub row_serial : Option CapabilityRow → Serial
row_serial None = record { 0 = 0 }
row_serial (Some row) = row.serial

-- the object that a word grants
abbrev pub granted : Word → Serial
granted word = row_serial word.row

-- a grant for each need of a call; words beyond the needs are passed over
abbrev pub grants_of : Call → List Word → List Serial
grants_of call words = map granted (take (length (needs_of call)) words)
