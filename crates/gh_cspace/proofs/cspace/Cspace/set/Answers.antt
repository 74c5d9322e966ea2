-- The bit of the place follows its word.
use Rattle.std.proofs.Common.{◌-◌, sym, ◌∙◌, arith}
use Rattle.gh_cspace.proofs.FilledLemmas.{MarksFilled-set}
use Rattle.gh_cspace.proofs.cspace.Cspace.set.Goals as goal

pub invariant_of-self : goal.invariant_of-self
invariant_of-self c =
    MarksFilled-set _ _ _ (c.args.slot - 1) c.args.word c.self.invariant (omega arith)
    (sym c.is_free.ensures ∙ c.with_place-self-inside.ensures.here)
    c.with_place-self-inside.ensures.others
