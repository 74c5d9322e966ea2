-- The headers of the kind are as many as its objects.
use Rattle.std.proofs.Common.{◌∙◌}
use Rattle.gh_parts.proofs.KindCounts.{kind_told}
use Rattle.gh_parts.proofs.parts.Parts.kind_count.Goals as goal

pub returns : goal.returns
returns c = λ s stands valid. c.kind_count.ensures ∙ kind_told c.args.self.now s stands valid c.args.kind
