-- All of the object goes, and then its references are counted no more.
use Rattle.std.proofs.Common.{◌∙◌, List, ap, find}
use Rattle.std.specs.Option.{option_to_list}
use Rattle.gh_model.specs.Changes.{reclaim_object}
use Rattle.gh_parts.specs.Reclaims.{quota_of}
use Rattle.gh_parts.specs.Stands.{is_account}
use Rattle.gh_parts.specs.declared.journal.Account.{Account}
use Rattle.gh_parts.proofs.StandsOwed.{owed_has, settled_next}
use Rattle.gh_parts.proofs.StandsReclaimed.{named_has, named_settled, reclaiming_found, reclaiming_may, reclaiming_owes, reclaiming_units}
use Rattle.gh_parts.proofs.parts.Parts.reclaim.Goals as goal

pub return_pages-requires-clause-may : goal.return_pages-requires-clause-may
return_pages-requires-clause-may g c =
    reclaiming_may c.args.self.now g.s c.args.object c.requires.stands c.requires.valid c.requires.may

pub return_units-requires : goal.return_units-requires
return_units-requires g c =
    reclaiming_units c.args.self.now g.s c.args.object c.requires.stands c.requires.valid c.requires.may
    c.in-Some.index c.home_at-home.result c.parent-parent.result c.cost-cost.result c.quota_in-quota.result
    c.return_pages.new.self c.close.new.self c.in-Some.ensures.found c.home_at-home.ensures c.parent-parent.ensures.parent
    c.cost-cost.ensures
    (c.quota_in-quota.ensures
    ∙ ap (λ (accounts : List Account). quota_of (find (is_account c.args.object.0) accounts)) c.as_slice.ensures)
    c.return_pages.ensures c.close.ensures

pub settle-requires : goal.settle-requires
settle-requires g c =
    owed_has c.remove.new.self (reclaim_object c.args.object g.s) (option_to_list c.parent-parent.result) c.home_at-home.result
    (reclaiming_owes c.args.self.now g.s c.args.object c.requires.stands c.requires.valid c.requires.may
    c.in-Some.index c.home_at-home.result c.parent-parent.result c.cost-cost.result c.quota_in-quota.result
    c.return_pages.new.self c.close.new.self c.in-Some.ensures.found c.home_at-home.ensures c.parent-parent.ensures.parent
    c.cost-cost.ensures
    (c.quota_in-quota.ensures
    ∙ ap (λ (accounts : List Account). quota_of (find (is_account c.args.object.0) accounts)) c.as_slice.ensures)
    c.return_pages.ensures c.close.ensures c.return_units.new.self c.remove.new.self c.return_units.ensures
    c.remove.ensures)

pub settle_some-requires : goal.settle_some-requires
settle_some-requires g c =
    named_has c.settle.new.self (reclaim_object c.args.object g.s) c.parent-parent.result
    (settled_next c.remove.new.self c.settle.new.self (reclaim_object c.args.object g.s) (option_to_list c.parent-parent.result) c.home_at-home.result
    (reclaiming_owes c.args.self.now g.s c.args.object c.requires.stands c.requires.valid c.requires.may
    c.in-Some.index c.home_at-home.result c.parent-parent.result c.cost-cost.result c.quota_in-quota.result
    c.return_pages.new.self c.close.new.self c.in-Some.ensures.found c.home_at-home.ensures c.parent-parent.ensures.parent
    c.cost-cost.ensures
    (c.quota_in-quota.ensures
    ∙ ap (λ (accounts : List Account). quota_of (find (is_account c.args.object.0) accounts)) c.as_slice.ensures)
    c.return_pages.ensures c.close.ensures c.return_units.new.self c.remove.new.self c.return_units.ensures
    c.remove.ensures)
    c.settle.ensures)

pub returns-in-Some : goal.returns-in-Some
returns-in-Some g c =
    named_settled c.settle.new.self c.settle_some.new.self (reclaim_object c.args.object g.s) c.parent-parent.result
    (settled_next c.remove.new.self c.settle.new.self (reclaim_object c.args.object g.s) (option_to_list c.parent-parent.result) c.home_at-home.result
    (reclaiming_owes c.args.self.now g.s c.args.object c.requires.stands c.requires.valid c.requires.may
    c.in-Some.index c.home_at-home.result c.parent-parent.result c.cost-cost.result c.quota_in-quota.result
    c.return_pages.new.self c.close.new.self c.in-Some.ensures.found c.home_at-home.ensures c.parent-parent.ensures.parent
    c.cost-cost.ensures
    (c.quota_in-quota.ensures
    ∙ ap (λ (accounts : List Account). quota_of (find (is_account c.args.object.0) accounts)) c.as_slice.ensures)
    c.return_pages.ensures c.close.ensures c.return_units.new.self c.remove.new.self c.return_units.ensures
    c.remove.ensures)
    c.settle.ensures)
    c.settle_some.ensures

pub returns-in_default : goal.returns-in_default
returns-in_default g c =
    absurd (reclaiming_found c.args.self.now g.s c.args.object c.requires.stands c.requires.valid c.requires.may
    c.in_default.ensures.found)
