-- The copies of the object and the slots that were taken are those of the rows.
use Rattle.std.proofs.Common.{◌<◌, ◌∙◌, List, ap, arith}
use Rattle.gh_model.specs.declared.rows.TakenSlot.{TakenSlot}
use Rattle.gh_parts.specs.SlotReads.{finished_in}
use Rattle.gh_parts.specs.declared.slots.Slots.{Slots}
use Rattle.gh_parts.proofs.SlotReadLemmas.{finished_told}
use Rattle.gh_parts.proofs.parts.Parts.finished.Goals as goal

pub returns : goal.returns
returns c = λ s stands valid.
    let small : s.entries < 4294967296 = omega (arith, stands.numbers.entries) in
    c.finished.ensures
    ∙ ap (λ (all : List Slots). finished_in all c.as_slice-2.result.now c.args.object) c.as_slice.ensures
    ∙ ap (λ (taken : List TakenSlot). finished_in c.args.self.now.journal.slots taken c.args.object)
    (c.as_slice-2.ensures ∙ stands.numbers.taken)
    ∙ finished_told c.args.self.now s stands valid small c.args.object
