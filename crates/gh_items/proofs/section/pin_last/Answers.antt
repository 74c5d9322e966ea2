-- The item of a call that was granted an object is its pin.
use Rattle.std.proofs.Common.{◌∙◌, ap, option_map, subst, sym}
use Rattle.gh_core.specs.Running.{current_of, seen_of, stage_of}
use Rattle.gh_items.specs.Held.{HeldIn}
use Rattle.gh_items.proofs.HeldLemmas.{held_current}
use Rattle.gh_items.proofs.ItemLemmas.{last_seen, pins_next, pins_nothing}
use Rattle.gh_items.proofs.section.pin_last.Goals as goal

pub pin-requires : goal.pin-requires
pin-requires g c = (
  c.requires.0,
  (
    c.requires.1.0,
    (c.requires.1.1, last_seen c.args.call.now.seen c.last_look.result c.last_look.ensures ∙ ap (option_map seen_of) c.in-Some.is),
  ),
)

pub returns-in-Some : goal.returns-in-Some
returns-in-Some g c =
    subst (HeldIn g.from c.pin.new.call)
    (sym (pins_next g.from.conf g.from.at (current_of c.args.call.now) (held_current g.from c.args.call.now c.requires.0)
    (seen_of c.in-Some.last) (ap stage_of c.requires.1.1)
    (last_seen c.args.call.now.seen c.last_look.result c.last_look.ensures ∙ ap (option_map seen_of) c.in-Some.is)))
    c.pin.ensures

pub returns-in-None : goal.returns-in-None
returns-in-None g c =
    subst (HeldIn g.from c.args.call.now)
    (sym (pins_nothing g.from.conf g.from.at (current_of c.args.call.now) (held_current g.from c.args.call.now c.requires.0)
    (ap stage_of c.requires.1.1) (last_seen c.args.call.now.seen c.last_look.result c.last_look.ensures ∙ ap (option_map seen_of) c.in-None.is)))
    c.requires.0.stands
