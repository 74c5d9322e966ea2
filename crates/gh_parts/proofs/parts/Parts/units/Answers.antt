-- The partition's account shows its units.
use Rattle.std.proofs.Common.{◌∙◌, List, ap, find}
use Rattle.gh_parts.specs.Accounts.{units_in}
use Rattle.gh_parts.specs.Stands.{is_account}
use Rattle.gh_parts.specs.declared.journal.Account.{Account}
use Rattle.gh_parts.proofs.UnitsTold.{units_told}
use Rattle.gh_parts.proofs.parts.Parts.units.Goals as goal

pub returns : goal.returns
returns c = λ s stands valid.
    c.units_in.ensures
    ∙ ap (λ (all : List Account). units_in (find (is_account c.args.partition.0) all)) c.as_slice.ensures
    ∙ units_told c.args.self.now s stands valid c.args.partition.0
