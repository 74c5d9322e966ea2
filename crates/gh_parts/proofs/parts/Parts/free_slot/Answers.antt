-- The capability space's least free slot is that of its rows.
use Rattle.std.proofs.Common.{◌<◌, ◌∙◌, List, ap, arith, find}
use Rattle.gh_parts.specs.SlotReads.{free_slot_in}
use Rattle.gh_parts.specs.Slots.{is_home}
use Rattle.gh_parts.specs.declared.slots.Slots.{Slots}
use Rattle.gh_parts.proofs.SlotReadLemmas.{free_told}
use Rattle.gh_parts.proofs.parts.Parts.free_slot.Goals as goal

pub returns : goal.returns
returns c = λ s stands valid.
    let small : s.entries < 4294967296 = omega (arith, stands.numbers.entries) in
    c.least_free.ensures
    ∙ ap (λ (all : List Slots). free_slot_in (find (is_home c.args.cspace.0) all)) c.as_slice.ensures
    ∙ free_told c.args.self.now s stands valid small c.args.cspace.0
