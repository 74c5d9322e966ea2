-- The slot is changed, and then its references are counted no more.
use Rattle.std.proofs.Common.{◌∙◌, List, ap, find}
use Rattle.gh_model.specs.Changes.{drop_capability as drop_of}
use Rattle.gh_invariant.specs.Effects.{object_of}
use Rattle.gh_parts.specs.Slots.{granted_by, is_home}
use Rattle.gh_parts.specs.declared.slots.Slots.{Slots}
use Rattle.gh_parts.proofs.FilledSlots.{IsFilling, filled_slot, granted_is, row_there, slot_is}
use Rattle.gh_parts.proofs.SlotNumbers.{slot_within}
use Rattle.gh_parts.proofs.StandsDropped.{dropped, dropped_home, named_has, named_settled}
use Rattle.gh_parts.proofs.StandsOwed.{owed_has}
use Rattle.gh_parts.proofs.parts.Parts.drop_capability.Goals as goal

pub granted-object-requires : goal.granted-object-requires
granted-object-requires g c =
    let at : IsFilling c.args.self.now g.s c.args.cspace.0 c.args.slot =
    record { stand = c.requires.stands; valid = c.requires.valid; room = c.requires.room; fill = c.requires.may } in
    slot_within c.args.slot (slot_is c.args.self.now g.s c.args.cspace.0 c.args.slot at)

pub empty-requires : goal.empty-requires
empty-requires g c =
    let at : IsFilling c.args.self.now g.s c.args.cspace.0 c.args.slot =
    record { stand = c.requires.stands; valid = c.requires.valid; room = c.requires.room; fill = c.requires.may } in
    filled_slot c.args.self.now g.s c.args.cspace.0 c.args.slot at

pub settle-requires : goal.settle-requires
settle-requires g c =
    let at : IsFilling c.args.self.now g.s c.args.cspace.0 c.args.slot =
    record { stand = c.requires.stands; valid = c.requires.valid; room = c.requires.room; fill = c.requires.may } in
    owed_has c.empty.new.self (drop_of c.args.cspace c.args.slot g.s) (object_of (row_there c.args.self.now g.s c.args.cspace.0 c.args.slot at).it) c.args.cspace
    (dropped c.args.self.now c.empty.new.self g.s c.args.cspace c.args.slot at c.empty.ensures)

pub settle_some-requires : goal.settle_some-requires
settle_some-requires g c =
    let at : IsFilling c.args.self.now g.s c.args.cspace.0 c.args.slot =
    record { stand = c.requires.stands; valid = c.requires.valid; room = c.requires.room; fill = c.requires.may } in
    named_has c.settle.new.self (drop_of c.args.cspace c.args.slot g.s) (row_there c.args.self.now g.s c.args.cspace.0 c.args.slot at).it c.granted-object.result
    (c.granted-object.ensures
    ∙ ap (λ (all : List Slots). granted_by c.args.slot (find (is_home c.args.cspace.0) all)) c.as_slice.ensures
    ∙ granted_is c.args.self.now g.s c.args.cspace.0 c.args.slot at)
    (dropped_home c.args.self.now c.empty.new.self c.settle.new.self g.s c.args.cspace c.args.slot at c.empty.ensures c.settle.ensures)

pub returns : goal.returns
returns g c =
    let at : IsFilling c.args.self.now g.s c.args.cspace.0 c.args.slot =
    record { stand = c.requires.stands; valid = c.requires.valid; room = c.requires.room; fill = c.requires.may } in
    named_settled c.settle.new.self c.settle_some.new.self (drop_of c.args.cspace c.args.slot g.s) (row_there c.args.self.now g.s c.args.cspace.0 c.args.slot at).it c.granted-object.result
    (c.granted-object.ensures
    ∙ ap (λ (all : List Slots). granted_by c.args.slot (find (is_home c.args.cspace.0) all)) c.as_slice.ensures
    ∙ granted_is c.args.self.now g.s c.args.cspace.0 c.args.slot at)
    (dropped_home c.args.self.now c.empty.new.self c.settle.new.self g.s c.args.cspace c.args.slot at c.empty.ensures c.settle.ensures)
    c.settle_some.ensures
