-- The object's count is changed.
use Rattle.std.proofs.Common.{ℕ, ◌<◌, ◌-◌, sym}
use Rattle.std.specs.Prelude.{◌^◌}
use Rattle.gh_objects.specs.Counts.{with_reference}
use Rattle.gh_parts.proofs.StandsOwed.{count_found, found_recounted, unfound_recounted}
use Rattle.gh_parts.proofs.parts.Parts.owe.Goals as goal

pub raise-requires-clause-few : goal.raise-requires-clause-few
raise-requires-clause-few c =
    count_found c.args.self.now c.args.object.0 c.in-Some.index (λ (n : ℕ). n < 2 ^ 64 - 1) c.requires c.in-Some.ensures.found

pub returns-in-Some : goal.returns-in-Some
returns-in-Some c =
    sym (found_recounted c.args.self.now c.args.object.0 with_reference c.in-Some.index _ c.in-Some.ensures.found c.raise.ensures)

pub returns-in_default : goal.returns-in_default
returns-in_default c = sym (unfound_recounted c.args.self.now c.args.object.0 with_reference c.requires.bare c.in_default.ensures.found)
