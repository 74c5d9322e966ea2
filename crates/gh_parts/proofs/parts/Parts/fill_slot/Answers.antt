-- The slot's references are counted, and then it is filled.
use Rattle.std.proofs.Common.{◌∷◌, ◌∙◌, [], List, find, ℕ, ap, arith, subst, sym}
use Rattle.gh_model.specs.Changes.{fill_slot as fill_slot_of}
use Rattle.gh_parts.specs.Stands.{Stands, StandsOwing}
use Rattle.gh_parts.specs.declared.parts.Parts.{Parts}
use Rattle.gh_parts.specs.SlotChanges.{with_filled}
use Rattle.gh_parts.specs.Slots.{is_home, set_at_by}
use Rattle.gh_parts.specs.declared.slots.Slots.{Slots}
use Rattle.gh_parts.proofs.StandsFilled.{filled_stands, setting_told}
use Rattle.gh_parts.proofs.StandsCapabilities.{free_slot, object_below}
use Rattle.gh_parts.proofs.StandsOwed.{may_owe, owed_next}
use Rattle.gh_parts.proofs.parts.Parts.fill_slot.Goals as goal

pub owe-requires : goal.owe-requires
owe-requires g c =
    may_owe c.args.self.now g.s [] c.args.row.serial.0 c.requires.stands c.requires.room (omega arith)

pub owe-requires-2 : goal.owe-requires-2
owe-requires-2 g c =
    may_owe c.owe.new.self g.s (c.args.row.serial ∷ []) c.args.row.cspace.0
    (owed_next c.args.self.now c.owe.new.self g.s [] c.args.row.serial c.requires.stands c.owe.ensures)
    c.requires.room (omega arith)

pub fill-requires-clause-lives : goal.fill-requires-clause-lives
fill-requires-clause-lives g c =
    let first : StandsOwing (c.args.row.serial ∷ []) c.owe.new.self g.s =
    owed_next c.args.self.now c.owe.new.self g.s [] c.args.row.serial c.requires.stands c.owe.ensures in
    let second : StandsOwing (c.args.row.cspace ∷ c.args.row.serial ∷ []) c.owe-2.new.self g.s =
    owed_next c.owe.new.self c.owe-2.new.self g.s (c.args.row.serial ∷ []) c.args.row.cspace first c.owe-2.ensures in
    object_below _ c.owe-2.new.self g.s second c.args.row c.requires.may

pub fill-requires-clause-free : goal.fill-requires-clause-free
fill-requires-clause-free g c =
    let first : StandsOwing (c.args.row.serial ∷ []) c.owe.new.self g.s =
    owed_next c.args.self.now c.owe.new.self g.s [] c.args.row.serial c.requires.stands c.owe.ensures in
    let second : StandsOwing (c.args.row.cspace ∷ c.args.row.serial ∷ []) c.owe-2.new.self g.s =
    owed_next c.owe.new.self c.owe-2.new.self g.s (c.args.row.serial ∷ []) c.args.row.cspace first c.owe-2.ensures in
    free_slot _ c.owe-2.new.self g.s second c.args.row c.requires.may c.requires.valid c.requires.room

pub returns : goal.returns
returns g c =
    let first : StandsOwing (c.args.row.serial ∷ []) c.owe.new.self g.s =
    owed_next c.args.self.now c.owe.new.self g.s [] c.args.row.serial c.requires.stands c.owe.ensures in
    let second : StandsOwing (c.args.row.cspace ∷ c.args.row.serial ∷ []) c.owe-2.new.self g.s =
    owed_next c.owe.new.self c.owe-2.new.self g.s (c.args.row.serial ∷ []) c.args.row.cspace first c.owe-2.ensures in
    subst (λ (parts : Parts). Stands parts (fill_slot_of c.args.row g.s))
    (ap (λ (entry : ℕ). with_filled c.args.row entry c.owe-2.new.self)
    (sym (setting_told c.owe-2.new.self g.s c.args.row c.requires.valid c.requires.room c.requires.may second)
    ∙ ap (λ (all : List Slots). set_at_by c.args.row.slot (find (is_home c.args.row.cspace.0) all)) (sym c.as_slice.ensures)
    ∙ sym c.set_at-entry.ensures)
    ∙ sym c.fill.ensures)
    (filled_stands c.owe-2.new.self g.s c.args.row c.requires.valid c.requires.room c.requires.may second)
