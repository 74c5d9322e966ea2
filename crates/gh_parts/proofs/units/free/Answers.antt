-- The partition's account alone is another.
use Rattle.std.proofs.Common.{◌≡◌, List, Option, Some, ap, get_or, position, subst, sym}
use Rattle.std.specs.Prelude.{IfSome}
use Rattle.gh_model.proofs.RowLemmas.{row_changed}
use Rattle.gh_parts.specs.Reclaims.{HasUnits, freeing}
use Rattle.gh_parts.specs.Stands.{is_account}
use Rattle.gh_parts.specs.declared.journal.Account.{Account}
use Rattle.gh_parts.proofs.FoundRows.{placed_found}
use Rattle.gh_parts.proofs.units.free.Goals as goal

pub free-requires : goal.free-requires
free-requires c =
    let found : position (is_account c.args.partition.0) c.args.accounts.now ≡ Some c.in-Some.at = cc in
    subst (HasUnits c.args.cost c.args.quota)
    (sym (ap (λ (all : List Account). get_or all c.in-Some.at c.index-as_mut_slice-at.result) c.as_mut_slice.ensures.value))
    (subst (λ (one : Option Account). IfSome one (HasUnits c.args.cost c.args.quota))
    (placed_found (is_account c.args.partition.0) c.args.accounts.now c.in-Some.at c.index-as_mut_slice-at.result found)
    c.requires)

pub returns-in-Some : goal.returns-in-Some
returns-in-Some c =
    let found : position (is_account c.args.partition.0) c.args.accounts.now ≡ Some c.in-Some.at = cc in
    row_changed (is_account c.args.partition.0) (freeing c.args.cost c.args.quota) c.args.accounts.now _ c.in-Some.at _ _
    c.as_mut_slice.ensures.value found c.free.ensures
