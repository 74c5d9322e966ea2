-- The item is the act, or the end of a call that was refused or is dying.
use Rattle.std.proofs.Common.{◌∙◌, subst, sym}
use Rattle.gh_events.specs.Config.{Config}
use Rattle.gh_items.specs.Stands.{Stands}
use Rattle.gh_items.proofs.CallingLemmas.{acts_next, at_its_act, ends_section, item_acts}
use Rattle.gh_items.proofs.SeatLemmas.{if_ok}
use Rattle.gh_items.proofs.calling.last_item.Goals as goal

pub act_item-requires : goal.act_item-requires
act_item-requires g c =
    let acts = at_its_act c.args.call.now.stage (sym c.is_at_act.ensures ∙ c.if-is_at_act.true) in
    (c.requires.0, (acts_next c.args.progress.now g.conf c.args.cpu.0 c.args.call.now c.requires.0 c.requires.1.1.0 acts c.requires.1.0, acts))

pub end_of_section-requires : goal.end_of_section-requires
end_of_section-requires g c = (
  c.requires.0,
  (
    c.requires.1.0.sound,
    (c.requires.1.1.0, ends_section c.args.call.now.stage c.requires.1.1.1 (sym c.is_at_act.ensures ∙ c.if-is_at_act.false)),
  ),
)

pub returns-then-is_at_act-clause-stands : goal.returns-then-is_at_act-clause-stands
returns-then-is_at_act-clause-stands g c =
    let acts = at_its_act c.args.call.now.stage (sym c.is_at_act.ensures ∙ c.if-is_at_act.true) in
    if_ok c.act_item.result
    (subst (λ (conf : Config). Stands c.act_item.new.progress conf)
    (sym (item_acts c.args.progress.now g.conf c.args.cpu.0 c.args.call.now c.requires.0 c.requires.1.1.0 acts)))
    c.act_item.ensures.stands
