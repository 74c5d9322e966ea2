-- The slots at the place that is found are the capability space's.
use Rattle.std.proofs.Common.{◌≡◌, ◌∙◌, Some, None, position, ap, sym}
use Rattle.gh_parts.specs.SlotReads.{free_slot_in}
use Rattle.gh_parts.specs.Slots.{is_home}
use Rattle.gh_parts.proofs.FoundRows.{placed_found, unplaced_none}
use Rattle.gh_parts.proofs.slot_reads.least_free.Goals as goal

pub returns-in-None : goal.returns-in-None
returns-in-None c =
    let none : position (is_home c.args.cspace.0) c.args.all.now ≡ None = cc in
    ap free_slot_in (sym (unplaced_none (is_home c.args.cspace.0) c.args.all.now none))

pub returns-in-Some : goal.returns-in-Some
returns-in-Some c =
    let found : position (is_home c.args.cspace.0) c.args.all.now ≡ Some c.in-Some.at = cc in
    c.free_slot.ensures.least
    ∙ ap free_slot_in (sym (placed_found (is_home c.args.cspace.0) c.args.all.now c.in-Some.at c.index-all-at.result found))
