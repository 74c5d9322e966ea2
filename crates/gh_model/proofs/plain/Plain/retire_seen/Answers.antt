-- The entry keeps the sums small, and rings nobody.
use Rattle.gh_model.proofs.EntryLemmas.{made_or_same, retired_kept}
use Rattle.gh_model.proofs.plain.Plain.retire_seen.Goals as goal

pub invariant_of-self : goal.invariant_of-self
invariant_of-self c =
    made_or_same _ _ c.retire.new.state c.retire.result c.retire.ensures.made (retired_kept _ c.args.serial c.args.seen c.self.invariant) c.self.invariant
