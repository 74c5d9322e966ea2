-- The counts list what the rows have.
use Rattle.std.proofs.Common.{◌∙◌}
use Rattle.gh_parts.proofs.SweepLemmas.{doomed_told}
use Rattle.gh_parts.proofs.parts.Parts.doomed_objects.Goals as goal

pub returns : goal.returns
returns c = λ s stand valid rising. c.doomed.ensures.listed ∙ doomed_told c.args.self.now s stand valid rising
