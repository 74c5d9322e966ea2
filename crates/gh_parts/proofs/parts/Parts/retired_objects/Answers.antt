-- The counts list what the rows have.
use Rattle.std.proofs.Common.{◌∙◌}
use Rattle.gh_parts.proofs.SweepLemmas.{retired_told}
use Rattle.gh_parts.proofs.parts.Parts.retired_objects.Goals as goal

pub returns : goal.returns
returns c = λ s stand valid rising. c.retired.ensures.listed ∙ retired_told c.args.self.now s stand valid rising
