-- The top table's entries are empty.
use Rattle.std.proofs.Common.{refl}
use Rattle.gh_pagetable.proofs.Maps.{run_is_empty}
use Rattle.gh_pagetable.proofs.page_table.PageTable.new.Goals as goal

pub returns : goal.returns
returns c = rw c.in_ok-top.ensures.empty (run_is_empty 4096 refl)
