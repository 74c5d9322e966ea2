-- The entry keeps the sums small, and rings nobody.
use Rattle.gh_model.proofs.EntryLemmas.{made_or_same, reclaimed_kept}
use Rattle.gh_model.proofs.plain.Plain.reclaim.Goals as goal

pub invariant_of-self : goal.invariant_of-self
invariant_of-self c =
    made_or_same _ _ c.reclaim.new.state c.reclaim.result c.reclaim.ensures.made (reclaimed_kept _ c.args.serial c.self.invariant) c.self.invariant
