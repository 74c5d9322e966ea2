-- What was given as indices are indices.
use Rattle.std.proofs.Common.{arith}
use Rattle.gh_core.proofs.TableLemmas.{index_within}
use Rattle.gh_core.proofs.reads.object_index.Goals as goal

pub overflow_cast-narrow : goal.overflow_cast-narrow
overflow_cast-narrow c = omega (arith, index_within c.args.first.now c.args.given.now c.args.serial.0 c.requires.first c.requires.given, c.index_of-index.ensures)

pub returns-clause-within : goal.returns-clause-within
returns-clause-within c = omega (arith, index_within c.args.first.now c.args.given.now c.args.serial.0 c.requires.first c.requires.given, c.index_of-index.ensures)
