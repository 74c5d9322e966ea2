-- The slot is changed, and then its references are counted no more.
use Rattle.std.proofs.Common.{◌∙◌, List, ap, find}
use Rattle.gh_model.specs.Changes.{revoke_capability as revoke_of}
use Rattle.gh_parts.specs.Slots.{granted_by, is_home}
use Rattle.gh_parts.specs.declared.slots.Slots.{Slots}
use Rattle.gh_parts.proofs.FilledSlots.{IsFilling, filled_slot, granted_is, row_there, slot_is}
use Rattle.gh_parts.proofs.SlotNumbers.{slot_within}
use Rattle.gh_parts.proofs.StandsDropped.{killed, named_has, named_settled}
use Rattle.gh_parts.proofs.parts.Parts.revoke_capability.Goals as goal

pub granted-object-requires : goal.granted-object-requires
granted-object-requires g c =
    let at : IsFilling c.args.self.now g.s c.args.cspace.0 c.args.slot =
    record { stand = c.requires.stands; valid = c.requires.valid; room = c.requires.room; fill = c.requires.may } in
    slot_within c.args.slot (slot_is c.args.self.now g.s c.args.cspace.0 c.args.slot at)

pub revoke-requires : goal.revoke-requires
revoke-requires g c =
    let at : IsFilling c.args.self.now g.s c.args.cspace.0 c.args.slot =
    record { stand = c.requires.stands; valid = c.requires.valid; room = c.requires.room; fill = c.requires.may } in
    filled_slot c.args.self.now g.s c.args.cspace.0 c.args.slot at

pub settle_some-requires : goal.settle_some-requires
settle_some-requires g c =
    let at : IsFilling c.args.self.now g.s c.args.cspace.0 c.args.slot =
    record { stand = c.requires.stands; valid = c.requires.valid; room = c.requires.room; fill = c.requires.may } in
    named_has c.revoke.new.self (revoke_of c.args.cspace c.args.slot g.s) (row_there c.args.self.now g.s c.args.cspace.0 c.args.slot at).it c.granted-object.result
    (c.granted-object.ensures
    ∙ ap (λ (all : List Slots). granted_by c.args.slot (find (is_home c.args.cspace.0) all)) c.as_slice.ensures
    ∙ granted_is c.args.self.now g.s c.args.cspace.0 c.args.slot at)
    (killed c.args.self.now c.revoke.new.self g.s c.args.cspace c.args.slot at c.revoke.ensures)

pub returns : goal.returns
returns g c =
    let at : IsFilling c.args.self.now g.s c.args.cspace.0 c.args.slot =
    record { stand = c.requires.stands; valid = c.requires.valid; room = c.requires.room; fill = c.requires.may } in
    named_settled c.revoke.new.self c.settle_some.new.self (revoke_of c.args.cspace c.args.slot g.s) (row_there c.args.self.now g.s c.args.cspace.0 c.args.slot at).it c.granted-object.result
    (c.granted-object.ensures
    ∙ ap (λ (all : List Slots). granted_by c.args.slot (find (is_home c.args.cspace.0) all)) c.as_slice.ensures
    ∙ granted_is c.args.self.now g.s c.args.cspace.0 c.args.slot at)
    (killed c.args.self.now c.revoke.new.self g.s c.args.cspace c.args.slot at c.revoke.ensures)
    c.settle_some.ensures
