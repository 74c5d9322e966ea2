-- The entry is logged where it is made, and the parts stand for the rows behind it.
use Rattle.std.proofs.Common.{◌≡◌, ◌∙◌, ◌<◌, List, ap, subst, sym, if◌then◌else◌}
use Rattle.std.specs.Prelude.{◌&&◌}
use Rattle.gh_base.specs.declared.limits.TheConstants.{HISTORY_ENTRIES}
use Rattle.gh_invariant.proofs.EntriesKept.{retired_valid}
use Rattle.gh_model.proofs.EntryLemmas.{retired_kept}
use Rattle.gh_model.specs.Act.{counted}
use Rattle.gh_model.specs.Changes.{retire_object}
use Rattle.gh_model.specs.History.{is_unretired, numbered}
use Rattle.gh_model.specs.References.{is_doomed}
use Rattle.gh_model.specs.Rows.{object_row}
use Rattle.gh_model.specs.declared.boot_line.BootLine.{BootLine}
use Rattle.gh_model.specs.declared.entry.Entry.TheVariants.{Retired}
use Rattle.gh_model.specs.declared.state.State.{State}
use Rattle.gh_parts.specs.Entries.{other_logged}
use Rattle.gh_parts.specs.Past.{Past, event_of, past_of, rows_of, with_event}
use Rattle.gh_parts.proofs.EntryLogged.{if_seats, logged_past, present_after}
use Rattle.gh_parts.proofs.FewObjects.{has_room}
use Rattle.gh_parts.proofs.ledger.Ledger.retire.Goals as goal

pub retire-requires : goal.retire-requires
retire-requires c =
    let past : Past = past_of c.self.inside.present.boot c.self.inside.present.log in (
      record {
        stands = c.self.invariant.stands;
        valid = c.self.invariant.valid;
        room = has_room c.self.inside.present.parts (rows_of past) c.self.invariant.stands c.self.invariant.valid
            c.self.invariant.kept c.self.invariant.seats
            (subst (λ (one : Past). (rows_of one).entries < HISTORY_ENTRIES) (sym c.self.view_is) c.requires.entries);
      },
      subst (λ (one : Past). 0 < one.room) (sym c.self.view_is) c.requires.room,
    )

pub invariant_of-self : goal.invariant_of-self
invariant_of-self c =
    let s : State = rows_of (past_of c.self.inside.present.boot c.self.inside.present.log) in
    present_after c.self.inside.present.boot c.self.inside.present.log c.self.inside.present.parts c.retire.new.self.parts
    (other_logged (Retired c.args.serial c.args.seen)) c.self.invariant tt
    (retired_valid s c.self.invariant.valid c.args.serial c.args.seen) (retired_kept s c.args.serial c.args.seen c.self.invariant.kept)
    (if_seats (counted (retire_object c.args.serial c.args.seen s)) (numbered s) (is_doomed s c.args.serial.0 && is_unretired (object_row s c.args.serial.0))
    (record { cpus = c.self.invariant.seats.cpus; links = c.self.invariant.seats.links })
    (record { cpus = c.self.invariant.seats.cpus; links = c.self.invariant.seats.links }))
    c.retire.new.self.boot c.retire.new.self.log c.retire.result c.retire.ensures.boot c.retire.ensures.log c.retire.ensures.parts

pub returns-clause-may : goal.returns-clause-may
returns-clause-may c =
    subst (λ (past : Past). c.retire.result ≡ (is_doomed (rows_of past) c.args.serial.0 && is_unretired (object_row (rows_of past) c.args.serial.0)))
    c.self.view_is c.retire.ensures.may

pub returns-clause-made : goal.returns-clause-made
returns-clause-made c =
    ap (λ (boot : List BootLine). past_of boot c.retire.new.self.log) c.retire.ensures.boot
    ∙ ap (past_of c.self.inside.present.boot) c.retire.ensures.log
    ∙ logged_past c.self.inside.present.boot c.self.inside.present.log (other_logged (Retired c.args.serial c.args.seen)) c.retire.result
    ∙ ap (λ (past : Past). if c.retire.result then with_event (event_of (other_logged (Retired c.args.serial c.args.seen))) past else past) c.self.view_is
