-- A byte behind the offset is the byte of the rest.
use Rattle.std.proofs.Common.{add-zero}
use Rattle.std.proofs.lemmas.List.{get_or-drop}
use Rattle.gh_base.specs.Bytes.{u64_at}
use Rattle.gh_base.proofs.little_endian.u64_at.Goals as goal

pub returns : goal.returns
unfolding u64_at
returns c = simp (get_or-drop, add-zero) c.from_le_bytes.ensures
