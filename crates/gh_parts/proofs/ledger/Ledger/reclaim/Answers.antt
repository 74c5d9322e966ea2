-- The entry is logged where it is made, and the parts stand for the rows behind it.
use Rattle.std.proofs.Common.{◌≡◌, ◌∙◌, ◌<◌, List, ap, subst, sym, if◌then◌else◌}
use Rattle.std.specs.Prelude.{◌&&◌}
use Rattle.gh_base.specs.declared.limits.TheConstants.{HISTORY_ENTRIES}
use Rattle.gh_invariant.proofs.EntriesKept.{reclaimed_valid}
use Rattle.gh_model.proofs.EntryLemmas.{reclaimed_kept}
use Rattle.gh_model.specs.Act.{counted}
use Rattle.gh_model.specs.Changes.{reclaim_object}
use Rattle.gh_model.specs.History.{is_retired, numbered}
use Rattle.gh_model.specs.References.{is_doomed}
use Rattle.gh_model.specs.Rows.{object_row}
use Rattle.gh_model.specs.declared.boot_line.BootLine.{BootLine}
use Rattle.gh_model.specs.declared.entry.Entry.TheVariants.{Reclaimed}
use Rattle.gh_model.specs.declared.state.State.{State}
use Rattle.gh_parts.specs.Entries.{other_logged}
use Rattle.gh_parts.specs.Past.{Past, event_of, past_of, rows_of, with_event}
use Rattle.gh_parts.proofs.EntryLogged.{if_seats, logged_past, present_after}
use Rattle.gh_parts.proofs.FewObjects.{has_room}
use Rattle.gh_parts.proofs.ledger.Ledger.reclaim.Goals as goal

pub reclaim-requires : goal.reclaim-requires
reclaim-requires c =
    let past : Past = past_of c.self.inside.present.boot c.self.inside.present.log in (
      record {
        stands = c.self.invariant.stands;
        valid = c.self.invariant.valid;
        room = has_room c.self.inside.present.parts (rows_of past) c.self.invariant.stands c.self.invariant.valid
            c.self.invariant.kept c.self.invariant.seats
            (subst (λ (one : Past). (rows_of one).entries < HISTORY_ENTRIES) (sym c.self.view_is) c.requires.entries);
      },
      subst (λ (one : Past). 0 < one.room) (sym c.self.view_is) c.requires.room,
    )

pub invariant_of-self : goal.invariant_of-self
invariant_of-self c =
    let s : State = rows_of (past_of c.self.inside.present.boot c.self.inside.present.log) in
    present_after c.self.inside.present.boot c.self.inside.present.log c.self.inside.present.parts c.reclaim.new.self.parts
    (other_logged (Reclaimed c.args.serial c.args.seen)) c.self.invariant tt
    (reclaimed_valid s c.self.invariant.valid c.args.serial) (reclaimed_kept s c.args.serial c.self.invariant.kept)
    (if_seats (counted (reclaim_object c.args.serial s)) (numbered s) (is_doomed s c.args.serial.0 && is_retired (object_row s c.args.serial.0))
    (record { cpus = c.self.invariant.seats.cpus; links = c.self.invariant.seats.links })
    (record { cpus = c.self.invariant.seats.cpus; links = c.self.invariant.seats.links }))
    c.reclaim.new.self.boot c.reclaim.new.self.log c.reclaim.result c.reclaim.ensures.boot c.reclaim.ensures.log c.reclaim.ensures.parts

pub returns-clause-may : goal.returns-clause-may
returns-clause-may c =
    subst (λ (past : Past). c.reclaim.result ≡ (is_doomed (rows_of past) c.args.serial.0 && is_retired (object_row (rows_of past) c.args.serial.0)))
    c.self.view_is c.reclaim.ensures.may

pub returns-clause-made : goal.returns-clause-made
returns-clause-made c =
    ap (λ (boot : List BootLine). past_of boot c.reclaim.new.self.log) c.reclaim.ensures.boot
    ∙ ap (past_of c.self.inside.present.boot) c.reclaim.ensures.log
    ∙ logged_past c.self.inside.present.boot c.self.inside.present.log (other_logged (Reclaimed c.args.serial c.args.seen)) c.reclaim.result
    ∙ ap (λ (past : Past). if c.reclaim.result then with_event (event_of (other_logged (Reclaimed c.args.serial c.args.seen))) past else past) c.self.view_is
