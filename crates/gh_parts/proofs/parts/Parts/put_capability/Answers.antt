-- The slot's references are counted, and then it is filled.
use Rattle.std.proofs.Common.{◌+◌, ◌∷◌, [], ℕ, ap, arith, subst, sym}
use Rattle.gh_model.specs.Changes.{put_capability as put_capability_of}
use Rattle.gh_parts.specs.Stands.{Stands, StandsOwing}
use Rattle.gh_parts.specs.declared.parts.Parts.{Parts}
use Rattle.gh_parts.proofs.StandsCapabilities.{free_slot, object_below, put_stands}
use Rattle.gh_parts.proofs.StandsOwed.{may_owe, owed_next}
use Rattle.gh_parts.proofs.parts.Parts.put_capability.Goals as goal

pub owe-requires : goal.owe-requires
owe-requires g c =
    may_owe c.args.self.now g.s [] c.args.row.serial.0 c.requires.stands c.requires.room (omega arith)

pub owe-requires-2 : goal.owe-requires-2
owe-requires-2 g c =
    may_owe c.owe.new.self g.s (c.args.row.serial ∷ []) c.args.row.cspace.0
    (owed_next c.args.self.now c.owe.new.self g.s [] c.args.row.serial c.requires.stands c.owe.ensures)
    c.requires.room (omega arith)

pub fill-requires-clause-lives : goal.fill-requires-clause-lives
fill-requires-clause-lives g c =
    let first : StandsOwing (c.args.row.serial ∷ []) c.owe.new.self g.s =
    owed_next c.args.self.now c.owe.new.self g.s [] c.args.row.serial c.requires.stands c.owe.ensures in
    let second : StandsOwing (c.args.row.cspace ∷ c.args.row.serial ∷ []) c.owe-2.new.self g.s =
    owed_next c.owe.new.self c.owe-2.new.self g.s (c.args.row.serial ∷ []) c.args.row.cspace first c.owe-2.ensures in
    object_below _ c.owe-2.new.self g.s second c.args.row c.requires.may

pub fill-requires-clause-free : goal.fill-requires-clause-free
fill-requires-clause-free g c =
    let first : StandsOwing (c.args.row.serial ∷ []) c.owe.new.self g.s =
    owed_next c.args.self.now c.owe.new.self g.s [] c.args.row.serial c.requires.stands c.owe.ensures in
    let second : StandsOwing (c.args.row.cspace ∷ c.args.row.serial ∷ []) c.owe-2.new.self g.s =
    owed_next c.owe.new.self c.owe-2.new.self g.s (c.args.row.serial ∷ []) c.args.row.cspace first c.owe-2.ensures in
    free_slot _ c.owe-2.new.self g.s second c.args.row c.requires.may c.requires.valid c.requires.room

pub returns : goal.returns
returns g c =
    let first : StandsOwing (c.args.row.serial ∷ []) c.owe.new.self g.s =
    owed_next c.args.self.now c.owe.new.self g.s [] c.args.row.serial c.requires.stands c.owe.ensures in
    let second : StandsOwing (c.args.row.cspace ∷ c.args.row.serial ∷ []) c.owe-2.new.self g.s =
    owed_next c.owe.new.self c.owe-2.new.self g.s (c.args.row.serial ∷ []) c.args.row.cspace first c.owe-2.ensures in
    subst (λ (parts : Parts). Stands parts (put_capability_of c.args.row g.s)) (sym c.fill.ensures)
    (put_stands c.owe-2.new.self g.s c.args.row c.requires.valid c.requires.may
    (c.owe-2.new.self.journal.entries + 1) (ap (λ (n : ℕ). n + 1) second.numbers.entries) second)
