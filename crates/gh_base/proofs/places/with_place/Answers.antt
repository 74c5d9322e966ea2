-- One bit is set or cleared, and the others stay.
use Rattle.std.specs.Int.{w128}
use Rattle.std.proofs.Common.{eqb, ap, sym, ◌∙◌}
use Rattle.std.proofs.lemmas.Nat.Bits.{bit_at_set_same, bit_at_set_other}
use Rattle.std.proofs.lemmas.Nat.Bits.{bit_at_clear_same, bit_at_clear_other}
use Rattle.gh_base.proofs.places.with_place.Goals as goal

pub returns-then-free-clause-here : goal.returns-then-free-clause-here
returns-then-free-clause-here c =
    c.if-free.true ∙ sym (ap (λ bit. eqb bit 0) (bit_at_clear_same w128 c.args.bits c.args.place c.requires))

pub returns-then-free-clause-others : goal.returns-then-free-clause-others
returns-then-free-clause-others c other within apart =
    bit_at_clear_other w128 c.args.bits c.args.place c.requires other within apart

pub returns-else-free-clause-here : goal.returns-else-free-clause-here
returns-else-free-clause-here c =
    c.if-free.false ∙ sym (ap (λ bit. eqb bit 0) (bit_at_set_same w128 c.args.bits c.args.place c.requires))

pub returns-else-free-clause-others : goal.returns-else-free-clause-others
returns-else-free-clause-others c other within apart =
    bit_at_set_other w128 c.args.bits c.args.place c.requires other apart
