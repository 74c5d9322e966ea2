-- What the call does next is its item.
use Rattle.std.proofs.Common.{◌∙◌, ap, arith, map, subst, sym}
use Rattle.std.proofs.lemmas.List.{length-map}
use Rattle.gh_core.specs.Running.{came_of, current_of, seen_of, stage_of}
use Rattle.gh_events.proofs.FewPins.{few_needs}
use Rattle.gh_items.specs.Held.{HeldIn}
use Rattle.gh_items.proofs.HeldLemmas.{held_current}
use Rattle.gh_items.proofs.ItemLemmas.{leaves_granted, leaves_refused, looks_next, wants_more}
use Rattle.gh_items.proofs.section.read.Goals as goal
use Rattle.gh_model.specs.Marks.{word_of}
use Rattle.gh_model.specs.Registers.{needs_of}

pub look-requires : goal.look-requires
look-requires g c =
    let asked = sym c.came_to.ensures ∙ ap came_of c.in-Wants.is in
    let more = wants_more (needs_of c.args.call.now.given.call) (map word_of (map seen_of c.args.call.now.seen)) c.in-Wants.slot c.in-Wants.need asked in
    let counted = length-map (map seen_of c.args.call.now.seen) word_of ∙ length-map c.args.call.now.seen seen_of in
    (c.requires.0, (c.requires.1.0, (c.requires.1.1, (asked, omega (arith, more, counted, few_needs c.args.call.now.given.call)))))

pub returns-in-Wants : goal.returns-in-Wants
returns-in-Wants g c =
    subst (HeldIn g.from c.look.new.call)
    (sym (looks_next g.from.conf g.from.at (current_of c.args.call.now) (held_current g.from c.args.call.now c.requires.0)
    c.in-Wants.slot c.in-Wants.need (ap stage_of c.requires.1.1) (sym c.came_to.ensures ∙ ap came_of c.in-Wants.is)))
    c.look.ensures

pub returns-in-Fails : goal.returns-in-Fails
returns-in-Fails g c =
    subst (HeldIn g.from c.leave.new.call)
    (sym (leaves_refused g.from.conf g.from.at (current_of c.args.call.now) (held_current g.from c.args.call.now c.requires.0)
    c.in-Fails.errno (ap stage_of c.requires.1.1) (sym c.came_to.ensures ∙ ap came_of c.in-Fails.is)))
    c.leave.ensures

pub returns-in-Grants : goal.returns-in-Grants
returns-in-Grants g c =
    subst (HeldIn g.from c.leave-in-Grants.new.call)
    (sym (leaves_granted g.from.conf g.from.at (current_of c.args.call.now) (held_current g.from c.args.call.now c.requires.0)
    (ap stage_of c.requires.1.1) (sym c.came_to.ensures ∙ ap came_of c.in-Grants.is)))
    c.leave-in-Grants.ensures
