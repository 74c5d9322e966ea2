-- An act and a part fit the rows that they come to.
use Rattle.std.proofs.Common.{sym, subst}
use Rattle.gh_base.specs.declared.ids.Serial.{Serial}
use Rattle.gh_invariant.specs.Events.{EntryFits, EventFits}
use Rattle.gh_model.specs.declared.change.Change.{Change}
use Rattle.gh_model.specs.declared.entry.Entry.{Entry}
use Rattle.gh_model.specs.declared.state.State.{State}
use Rattle.gh_parts.specs.Acts.{IsActOf, IsPartOf}
use Rattle.gh_parts.specs.Past.{event_of}
use Rattle.gh_parts.specs.declared.log.Logged.{Logged}
use Rattle.std.specs.Prelude.{ℕ, List}

pub act_fits : (s : State) (logged : Logged) (changes : List Change) → IsActOf s logged changes → EventFits s (event_of logged)
act_fits s logged changes act = subst (λ (entry : Entry). EntryFits s (event_of logged) entry) (sym act.entry) act.fits

pub part_fits : (s : State) (logged : Logged) (cspace : Serial) (slot : ℕ) → IsPartOf s logged cspace slot → EventFits s (event_of logged)
part_fits s logged cspace slot part = subst (λ (entry : Entry). EntryFits s (event_of logged) entry) (sym part.entry) tt
