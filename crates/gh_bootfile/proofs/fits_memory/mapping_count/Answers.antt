use Rattle.gh_bootfile.proofs.MappingLemmas.{count_of_space}
use Rattle.gh_bootfile.proofs.fits_memory.mapping_count.Goals as goal

pub returns : goal.returns
returns c =
    rw (c.mappings_at.ensures, c.as_slice.ensures) (count_of_space c.args.draft.now.mappings c.args.draft.now.state.mappings c.requires c.args.space.0)
