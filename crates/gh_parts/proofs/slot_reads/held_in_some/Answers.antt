-- The slots at the place that is found are the capability space's.
use Rattle.std.proofs.Common.{◌≡◌, ◌∙◌, Some, None, position, ap, sym}
use Rattle.gh_parts.specs.SlotReads.{held_in, held_in_some}
use Rattle.gh_parts.specs.Slots.{is_home}
use Rattle.gh_parts.proofs.FoundRows.{placed_found, unplaced_none}
use Rattle.gh_parts.proofs.slot_reads.held_in_some.Goals as goal

pub returns-in-None : goal.returns-in-None
returns-in-None c =
    let none : position (is_home c.args.cspace.0) c.args.all.now ≡ None = cc in
    ap (held_in_some c.args.cspace c.args.slot) (sym (unplaced_none (is_home c.args.cspace.0) c.args.all.now none))

pub returns-in-Some : goal.returns-in-Some
returns-in-Some c =
    let found : position (is_home c.args.cspace.0) c.args.all.now ≡ Some c.in-Some.at = cc in
    c.held.ensures
    ∙ ap (held_in c.args.cspace c.args.slot) c.index-all-at.is
    ∙ ap (held_in_some c.args.cspace c.args.slot) (sym (placed_found (is_home c.args.cspace.0) c.args.all.now c.in-Some.at c.index-all-at.result found))
