-- The partition's account alone is another.
use Rattle.std.proofs.Common.{◌≡◌, Some, position}
use Rattle.gh_model.proofs.RowLemmas.{row_changed}
use Rattle.gh_parts.specs.Accounts.{using}
use Rattle.gh_parts.specs.Stands.{is_account}
use Rattle.gh_parts.proofs.units.take.Goals as goal

pub returns-in-Some : goal.returns-in-Some
returns-in-Some c =
    let found : position (is_account c.args.partition.0) c.args.accounts.now ≡ Some c.in-Some.at = cc in
    row_changed (is_account c.args.partition.0) (using c.args.cost) c.args.accounts.now _ c.in-Some.at _ _
    c.as_mut_slice.ensures.value found c.take.ensures
