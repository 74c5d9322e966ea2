-- The row is gone.
use Rattle.std.proofs.lemmas.Result.{on_ok_weaker}
use Rattle.gh_parts.proofs.MappingLemmas.{unmaps}
use Rattle.gh_parts.proofs.mappings.unmap_in.Goals as goal

pub returns : goal.returns
returns c =
    unmaps c.args.row c.args.space.now c.unmap.new.self c.unmap.result c.unmap.ensures.refusal
    (on_ok_weaker c.unmap.result (λ left. left.rows) c.unmap.ensures.unmapped) c.unmap.ensures.refused c.unmap.ensures.shows
