-- One index is written among the counts.
use Rattle.std.proofs.Common.{None, refl}
use Rattle.std.specs.Option.{option_map}
use Rattle.std.proofs.lemmas.List.{get_or-set_other}
use Rattle.gh_objects.specs.Counts.{count_at}
use Rattle.gh_objects.proofs.ListLemmas.{set_map-here}
use Rattle.gh_objects.proofs.law.change_changes_one_count.Goals as goal

pub returns : goal.returns
returns c = record {
  here = λ change s index. set_map-here change s.counts index;
  others = λ change s index other apart. get_or-set_other s.counts index other (option_map change (count_at s.counts index)) None apart;
  headers = λ change s index. refl;
}
