-- When the parts can be read.
use Rattle.std.specs.Prelude.{◌≡◌, length}
use Rattle.gh_base.specs.declared.limits.TheConstants.{OBJECT_INDICES}
use Rattle.gh_parts.specs.Index.{AreIndexed}
use Rattle.gh_parts.specs.declared.parts.Parts.{Parts}

-- no two live objects have one serial, and each index has its place among headers and retirements
pub record IsReadable (parts : Parts) : Type 0 where
  pub indexed : AreIndexed parts.table.headers
  pub retirements : length parts.journal.retirements ≡ OBJECT_INDICES
