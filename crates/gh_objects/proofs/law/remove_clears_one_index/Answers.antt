-- One index is cleared in either list.
use Rattle.std.proofs.Common.{None}
use Rattle.std.proofs.lemmas.List.{get_or-set_other}
use Rattle.gh_objects.proofs.ListLemmas.{set_none-here}
use Rattle.gh_objects.proofs.law.remove_clears_one_index.Goals as goal

pub returns : goal.returns
returns c = record {
  header = λ s index. set_none-here s.table.headers index;
  count = λ s index. set_none-here s.counts index;
  other_headers = λ s index other apart. get_or-set_other s.table.headers index other None None apart;
  other_counts = λ s index other apart. get_or-set_other s.counts index other None None apart;
}
