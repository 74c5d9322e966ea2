-- What the search finds is the serial's index.
use Rattle.gh_parts.proofs.IndexLemmas.{index_is, index_is_within}
use Rattle.gh_parts.proofs.parts.Parts.index.Goals as goal

pub returns-clause-found : goal.returns-clause-found
returns-clause-found c =
    index_is c.args.self.now.table.headers c.requires c.args.serial.0 c.index_of.result c.index_of.ensures.found c.index_of.ensures.none

pub returns-clause-within : goal.returns-clause-within
returns-clause-within c =
    index_is_within c.args.self.now.table.headers c.requires c.args.serial.0 c.index_of.result c.index_of.ensures.found
