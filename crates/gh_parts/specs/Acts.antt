-- Entries of calls: an act with the changes that it comes to, and a part of a revoke.
use Rattle.std.specs.Prelude.{◌≡◌, ℕ, true, List, length, find}
use Rattle.gh_base.specs.declared.frame.Reply.{Reply}
use Rattle.gh_base.specs.declared.ids.CpuNo.{CpuNo}
use Rattle.gh_base.specs.declared.ids.Serial.{Serial}
use Rattle.gh_invariant.specs.Events.{judged_by}
use Rattle.gh_invariant.specs.Grants.{MayAct}
use Rattle.gh_model.specs.Act.{grants_of}
use Rattle.gh_model.specs.History.{may_act, may_part}
use Rattle.gh_model.specs.Rows.{fills}
use Rattle.gh_model.specs.declared.change.Change.{Change}
use Rattle.gh_model.specs.declared.change.Decision.TheVariants.{Make}
use Rattle.gh_model.specs.declared.entry.Entry.TheVariants.{Acted, Part}
use Rattle.gh_model.specs.declared.state.State.{State}
use Rattle.gh_parts.specs.Past.{event_of}
use Rattle.gh_parts.specs.declared.log.Logged.{Logged}

-- the entry is the act of a call that may act, and comes to these changes
pub record IsActOf (s : State) (logged : Logged) (changes : List Change) : Type 0 where
  pub cpu : CpuNo
  pub number : ℕ
  pub entry : logged.entry ≡ Acted cpu number
  pub fits : MayAct s cpu.0 logged.call (length logged.bytes) (grants_of logged.call logged.words)
  pub allowed : may_act s cpu.0 logged.call logged.words ≡ true
  pub reply : Reply
  pub comes : judged_by s cpu.0 (event_of logged) ≡ Make changes reply

-- the entry is a part that revokes the capability of this slot, and may do so
pub record IsPartOf (s : State) (logged : Logged) (cspace : Serial) (slot : ℕ) : Type 0 where
  pub cpu : CpuNo
  pub number : ℕ
  pub entry : logged.entry ≡ Part cpu number cspace slot
  pub may : may_part (find (fills cspace.0 slot) s.caps) ≡ true
