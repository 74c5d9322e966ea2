-- The partition's account and its parent's are changed.
use Rattle.std.proofs.Common.{◌≡◌, ◌∙◌, List, ap, find, subst, sym}
use Rattle.gh_base.specs.declared.ids.Serial.{Serial}
use Rattle.gh_model.specs.Changes.{give_quota as give_quota_of}
use Rattle.gh_model.specs.Rows.{change_row}
use Rattle.gh_parts.specs.Accounts.{giver_in, giving, with_accounts}
use Rattle.gh_parts.specs.Stands.{Stands, is_account}
use Rattle.gh_parts.specs.declared.journal.Account.{Account}
use Rattle.gh_parts.proofs.StandsQuota.{parent_told, quota_stands}
use Rattle.gh_parts.proofs.parts.Parts.give_quota.Goals as goal

pub returns : goal.returns
returns g c =
    let told : c.giver-parent.result ≡ c.requires.may.row.parent =
    c.giver-parent.ensures
    ∙ ap (λ (all : List Account). giver_in (find (is_account c.args.partition.0) all)) c.as_slice.ensures
    ∙ parent_told c.args.self.now g.s c.requires.stands c.requires.valid c.args.partition c.args.quota c.requires.may in
    subst (λ (accounts : List Account). Stands (with_accounts accounts c.args.self.now) (give_quota_of c.args.partition c.args.quota g.s))
    (ap (λ (first : List Account). change_row (is_account c.requires.may.row.parent.0) (giving c.args.quota) first) (sym c.quote.ensures)
    ∙ ap (λ (parent : Serial). change_row (is_account parent.0) (giving c.args.quota) c.quote.new.accounts) (sym told)
    ∙ sym c.give.ensures)
    (quota_stands c.args.self.now g.s c.requires.stands c.requires.valid c.args.partition c.args.quota c.requires.may)
