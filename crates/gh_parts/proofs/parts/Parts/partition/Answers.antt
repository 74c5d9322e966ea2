-- The partition's account shows its row.
use Rattle.std.proofs.Common.{◌∙◌, List, ap, find}
use Rattle.gh_parts.specs.Accounts.{partition_in}
use Rattle.gh_parts.specs.Stands.{is_account}
use Rattle.gh_parts.specs.declared.journal.Account.{Account}
use Rattle.gh_parts.proofs.ReadLemmas.{partition_told}
use Rattle.gh_parts.proofs.parts.Parts.partition.Goals as goal

pub returns : goal.returns
returns c = λ s stands.
    c.partition_row.ensures
    ∙ ap (λ (all : List Account). partition_in (find (is_account c.args.partition.0) all)) c.as_slice.ensures
    ∙ partition_told c.args.self.now s stands c.args.partition.0
