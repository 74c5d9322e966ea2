-- A valid state is ready for the changes of the next entry, and its objects rise.
use Rattle.std.proofs.Common.{IsTrue, List, length, subst}
use Rattle.std.proofs.Math.Seq.{take-length}
use Rattle.gh_events.proofs.RisingRows.{objects_rising}
use Rattle.gh_events.specs.Rising.{rises, serials_of}
use Rattle.gh_invariant.proofs.EntriesKept.{begins}
use Rattle.gh_invariant.specs.Valid.{IsValidWithin}
use Rattle.gh_model.specs.Boot.{boot_state}
use Rattle.gh_model.specs.History.{Event, replay}
use Rattle.gh_parts.specs.Past.{IsPresent, Past, past_of, rows_of}
use Rattle.gh_parts.specs.declared.parts.Parts.{Parts}
use Rattle.gh_parts.proofs.ledger.Ledger.parts.Goals as goal

pub returns-clause-within : goal.returns-clause-within
returns-clause-within c =
    subst (λ (past : Past). IsValidWithin (rows_of past)) c.self.view_is
    (begins (rows_of (past_of c.self.inside.present.boot c.self.inside.present.log)) c.self.invariant.valid)

rows_rise : (past : Past) (parts : Parts) → IsPresent past parts → IsTrue (rises (serials_of (rows_of past).objects))
rows_rise past parts present =
    subst (λ (events : List Event). IsTrue (rises (serials_of (replay (boot_state past.boot) events).objects)))
    (take-length past.history)
    (objects_rising past.boot past.history (length past.history) present.boot present.fit)

pub returns-clause-rising : goal.returns-clause-rising
returns-clause-rising c =
    subst (λ (past : Past). IsTrue (rises (serials_of (rows_of past).objects))) c.self.view_is
    (rows_rise (past_of c.self.inside.present.boot c.self.inside.present.log) c.self.inside.present.parts c.self.invariant)
