-- The row is taken away, and then its references are counted no more.
use Rattle.std.proofs.Common.{◌∷◌, []}
use Rattle.gh_model.specs.Changes.{drop_mapping as drop_mapping_of}
use Rattle.gh_parts.proofs.StandsMapped.{unmap_owes}
use Rattle.gh_parts.proofs.StandsOwed.{owed_has, settled_next}
use Rattle.gh_parts.proofs.parts.Parts.drop_mapping.Goals as goal

pub settle-requires : goal.settle-requires
settle-requires g c =
    owed_has c.unmap.new.self (drop_mapping_of c.args.row g.s) (c.args.row.extent ∷ []) c.args.row.space
    (unmap_owes c.args.self.now c.unmap.new.self g.s c.args.row c.requires.stands c.requires.valid c.requires.may c.unmap.ensures)

pub settle-requires-2 : goal.settle-requires-2
settle-requires-2 g c =
    owed_has c.settle.new.self (drop_mapping_of c.args.row g.s) [] c.args.row.extent
    (settled_next c.unmap.new.self c.settle.new.self (drop_mapping_of c.args.row g.s) (c.args.row.extent ∷ []) c.args.row.space
    (unmap_owes c.args.self.now c.unmap.new.self g.s c.args.row c.requires.stands c.requires.valid c.requires.may c.unmap.ensures)
    c.settle.ensures)

pub returns : goal.returns
returns g c =
    settled_next c.settle.new.self c.settle-2.new.self (drop_mapping_of c.args.row g.s) [] c.args.row.extent
    (settled_next c.unmap.new.self c.settle.new.self (drop_mapping_of c.args.row g.s) (c.args.row.extent ∷ []) c.args.row.space
    (unmap_owes c.args.self.now c.unmap.new.self g.s c.args.row c.requires.stands c.requires.valid c.requires.may c.unmap.ensures)
    c.settle.ensures)
    c.settle-2.ensures
