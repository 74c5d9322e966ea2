-- The part is logged, and the parts stand for the rows behind it.
use Rattle.std.proofs.Common.{◌<◌, ◌∙◌, true, List, ap, subst, sym}
use Rattle.gh_base.specs.declared.limits.TheConstants.{HISTORY_ENTRIES}
use Rattle.gh_invariant.proofs.EntriesKept.{parted_valid}
use Rattle.gh_invariant.specs.Valid.{IsValid}
use Rattle.gh_model.proofs.EntryLemmas.{parted_kept}
use Rattle.gh_model.specs.Small.{IsKept}
use Rattle.gh_model.specs.declared.boot_line.BootLine.{BootLine}
use Rattle.gh_model.specs.declared.state.State.{State}
use Rattle.gh_parts.specs.Acts.{IsPartOf}
use Rattle.gh_parts.specs.Past.{HasFewSeats, Past, event_of, past_of, rows_of, with_event}
use Rattle.gh_parts.specs.Stands.{Stands}
use Rattle.gh_parts.proofs.ActLemmas.{part_after, part_seats}
use Rattle.gh_parts.proofs.CallsFit.{part_fits}
use Rattle.gh_parts.proofs.EntryLogged.{logged_past, present_after}
use Rattle.gh_parts.proofs.FewObjects.{has_room}
use Rattle.gh_parts.proofs.TakenFew.{taken_room}
use Rattle.gh_parts.proofs.ledger.Ledger.part.Goals as goal

pub part-requires : goal.part-requires
part-requires c =
    let past : Past = past_of c.self.inside.present.boot c.self.inside.present.log in
    let part : IsPartOf (rows_of past) c.args.logged c.args.cspace c.args.slot =
    subst (λ (one : Past). IsPartOf (rows_of one) c.args.logged c.args.cspace c.args.slot) (sym c.self.view_is) c.requires.part in (
      record {
        stands = c.self.invariant.stands;
        valid = c.self.invariant.valid;
        room = has_room c.self.inside.present.parts (rows_of past) c.self.invariant.stands c.self.invariant.valid
            c.self.invariant.kept c.self.invariant.seats
            (subst (λ (one : Past). (rows_of one).entries < HISTORY_ENTRIES) (sym c.self.view_is) c.requires.entries);
      },
      (
        part.may,
        (
          taken_room past c.self.invariant.valid c.args.cspace c.args.slot part.may,
          subst (λ (one : Past). 0 < one.room) (sym c.self.view_is) c.requires.room,
        ),
      ),
    )

pub invariant_of-self : goal.invariant_of-self
invariant_of-self c =
    let s : State = rows_of (past_of c.self.inside.present.boot c.self.inside.present.log) in
    let part : IsPartOf s c.args.logged c.args.cspace c.args.slot =
    subst (λ (one : Past). IsPartOf (rows_of one) c.args.logged c.args.cspace c.args.slot) (sym c.self.view_is) c.requires.part in
    let after = part_after s c.args.logged c.args.cspace c.args.slot part in
    present_after c.self.inside.present.boot c.self.inside.present.log c.self.inside.present.parts c.part.new.self.parts
    c.args.logged c.self.invariant (part_fits s c.args.logged c.args.cspace c.args.slot part)
    (subst (λ (one : State). IsValid one) (sym after) (parted_valid s c.self.invariant.valid c.args.cspace c.args.slot))
    (subst (λ (one : State). IsKept one) (sym after) (parted_kept s c.args.cspace c.args.slot c.self.invariant.kept))
    (subst (λ (one : State). HasFewSeats one) (sym after) (part_seats s c.args.cspace c.args.slot c.self.invariant.seats))
    c.part.new.self.boot c.part.new.self.log true c.part.ensures.boot c.part.ensures.log
    (subst (λ (one : State). Stands c.part.new.self.parts one) (sym after) c.part.ensures.parts)

pub returns : goal.returns
returns c =
    ap (λ (boot : List BootLine). past_of boot c.part.new.self.log) c.part.ensures.boot
    ∙ ap (past_of c.self.inside.present.boot) c.part.ensures.log
    ∙ logged_past c.self.inside.present.boot c.self.inside.present.log c.args.logged true
    ∙ ap (with_event (event_of c.args.logged)) c.self.view_is
