-- The slot's word shows its capability and its setting.
use Rattle.std.proofs.Common.{◌<◌, ◌∙◌, List, ap, arith}
use Rattle.gh_parts.specs.SlotReads.{held}
use Rattle.gh_parts.specs.declared.slots.Slots.{Slots}
use Rattle.gh_parts.proofs.SlotReadLemmas.{word_told}
use Rattle.gh_parts.proofs.parts.Parts.word.Goals as goal

pub returns : goal.returns
returns c = λ s stands valid.
    let small : s.entries < 4294967296 = omega (arith, stands.numbers.entries) in
    c.held.ensures
    ∙ ap (λ (all : List Slots). held all c.args.cspace c.args.slot) c.as_slice.ensures
    ∙ word_told c.args.self.now s stands valid small c.args.cspace c.args.slot
