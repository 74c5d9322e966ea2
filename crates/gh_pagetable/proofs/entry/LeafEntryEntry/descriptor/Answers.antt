-- A page by itself is uniform.
use Rattle.std.proofs.Common.{sym}
use Rattle.gh_pagetable.proofs.Uniform.{descriptor_of-one}
use Rattle.gh_pagetable.proofs.entry.LeafEntryEntry.descriptor.Goals as goal

pub returns-clause-value : goal.returns-clause-value
returns-clause-value c = rw (← c.self.view_is) (sym (descriptor_of-one c.self.inside.target))
