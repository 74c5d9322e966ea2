-- One index is written in either list.
use Rattle.std.proofs.Common.{Some, None}
use Rattle.std.proofs.lemmas.List.{get_or-set_other}
use Rattle.gh_objects.specs.Counts.{new_count}
use Rattle.gh_objects.specs.Headers.{new_index}
use Rattle.gh_objects.proofs.law.insert_leaves_others.Goals as goal

pub returns : goal.returns
returns c = record {
  headers = λ s header index apart. get_or-set_other s.table.headers (new_index s.table header.partition.0) index (Some header) None apart;
  counts = λ s header index apart. get_or-set_other s.counts (new_index s.table header.partition.0) index (Some (new_count header.serial)) None apart;
}
