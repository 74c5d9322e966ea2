-- The extent holds the pages where it holds as many from the first on.
use Rattle.std.proofs.Common.{◌≤◌, drop, length, arith}
use Rattle.std.proofs.lemmas.List.{length-drop}
use Rattle.gh_model.specs.Memory.{is_serial}
use Rattle.gh_extent.proofs.RunLemmas.{list_all-take}
use Rattle.gh_extent.proofs.runs.Runs.holds.Goals as goal

pub returns : goal.returns
returns c =
    let pages = drop c.args.first c.args.self.now in
    let within : c.args.count ≤ length pages = omega (arith, length-drop c.args.first c.args.self.now) in
    rw c.held_from.ensures (list_all-take (is_serial c.args.extent.0) pages c.args.count within)
