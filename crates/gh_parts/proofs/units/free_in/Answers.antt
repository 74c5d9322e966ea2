-- The account at the place that is found is the partition's.
use Rattle.std.proofs.Common.{◌≡◌, ◌∙◌, Some, None, position, ap, sym}
use Rattle.gh_parts.specs.Accounts.{free_of}
use Rattle.gh_parts.specs.Stands.{is_account}
use Rattle.gh_parts.proofs.FoundRows.{placed_found, unplaced_none}
use Rattle.gh_parts.proofs.units.free_in.Goals as goal

pub returns-in-None : goal.returns-in-None
returns-in-None c =
    let none : position (is_account c.args.partition.0) c.args.accounts.now ≡ None = cc in
    ap free_of (sym (unplaced_none (is_account c.args.partition.0) c.args.accounts.now none))

pub returns-in-Some : goal.returns-in-Some
returns-in-Some c =
    let found : position (is_account c.args.partition.0) c.args.accounts.now ≡ Some c.in-Some.at = cc in
    c.free.ensures.value ∙ ap free_of (sym (placed_found (is_account c.args.partition.0) c.args.accounts.now c.in-Some.at c.index-accounts-at.result found))
