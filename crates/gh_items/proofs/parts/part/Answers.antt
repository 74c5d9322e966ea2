-- The part is the one that comes next, where one does.
use Rattle.std.proofs.Common.{◌∙◌, Some, subst, sym}
use Rattle.gh_schedules.specs.Items.{part}
use Rattle.gh_schedules.specs.Trace.{after_all}
use Rattle.gh_items.specs.Stands.{Stands, with_call}
use Rattle.gh_items.specs.declared.progress.Progress.{Progress}
use Rattle.gh_items.proofs.PartLemmas.{may, part_stands, rests, room}
use Rattle.gh_items.proofs.SeatLemmas.{if_ok}
use Rattle.gh_items.proofs.parts.part.Goals as goal

pub make_part-requires-clause-entries : goal.make_part-requires-clause-entries
make_part-requires-clause-entries c =
    room c.args.progress.now c.requires.stands.conf c.args.cpu.0 c.args.call.now c.requires.stands.stands c.requires.within c.requires.stands.sound

pub make_part-requires-clause-may : goal.make_part-requires-clause-may
make_part-requires-clause-may c =
    may c.args.progress.now c.requires.stands.conf c.args.cpu.0 c.args.call.now c.requires.stands.stands c.requires.within c.requires.stands.sound c.in-Some.row
    (sym c.in_ok-part_row.ensures ∙ c.in-Some.is)

pub returns-in-None-clause-stands : goal.returns-in-None-clause-stands
returns-in-None-clause-stands c conf stands sound =
    rests c.args.progress.now conf c.args.cpu.0 c.args.call.now stands c.requires.within sound (sym c.in_ok-part_row.ensures ∙ c.in-None.is)

pub returns-in-Some-clause-stands : goal.returns-in-Some-clause-stands
returns-in-Some-clause-stands c conf stands sound =
    if_ok c.make_part.result
    (λ made.
    subst (λ (p : Progress). Stands (with_call p c.args.cpu.0 (Some c.args.call.now)) (after_all conf (part c.args.cpu.0 conf))) (sym made)
    (part_stands c.args.progress.now conf c.args.cpu.0 c.args.call.now stands c.requires.within sound c.in-Some.row
    (sym c.in_ok-part_row.ensures ∙ c.in-Some.is)))
    c.make_part.ensures
