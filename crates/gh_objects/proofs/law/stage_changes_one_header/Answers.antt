-- One index is written.
use Rattle.std.proofs.Common.{None}
use Rattle.std.specs.Option.{option_map}
use Rattle.std.proofs.lemmas.List.{get_or-set_other}
use Rattle.gh_objects.specs.Headers.{header_at, in_stage}
use Rattle.gh_objects.proofs.ListLemmas.{set_map-here}
use Rattle.gh_objects.proofs.law.stage_changes_one_header.Goals as goal

pub returns : goal.returns
returns c = record {
  here = λ stage s index. set_map-here (in_stage stage) s.headers index;
  others = λ stage s index other apart. get_or-set_other s.headers index other (option_map (in_stage stage) (header_at s.headers index)) None apart;
}
