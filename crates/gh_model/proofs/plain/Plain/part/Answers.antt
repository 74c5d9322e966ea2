-- The entry keeps the sums small, and rings nobody.
use Rattle.gh_model.proofs.EntryLemmas.{parted_kept, result_kept}
use Rattle.gh_model.proofs.plain.Plain.part.Goals as goal

pub invariant_of-self : goal.invariant_of-self
invariant_of-self c =
    result_kept _ _ c.part.new.state c.part.result c.part.ensures.made c.part.ensures.no_memory (parted_kept _ c.args.space c.args.slot c.self.invariant) c.self.invariant
