-- The partition's account shows its row.
use Rattle.std.proofs.Common.{◌∙◌, List, ap, find}
use Rattle.gh_parts.specs.Accounts.{free_of}
use Rattle.gh_parts.specs.Stands.{is_account}
use Rattle.gh_parts.specs.declared.journal.Account.{Account}
use Rattle.gh_parts.proofs.ReadLemmas.{free_told}
use Rattle.gh_parts.proofs.parts.Parts.free_units.Goals as goal

pub returns : goal.returns
returns c = λ s stands.
    c.free_in.ensures
    ∙ ap (λ (all : List Account). free_of (find (is_account c.args.partition.0) all)) c.as_slice.ensures
    ∙ free_told c.args.self.now s stands c.args.partition.0
