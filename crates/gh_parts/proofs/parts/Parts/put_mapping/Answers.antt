-- The row is mapped, and then its references are counted.
use Rattle.gh_parts.specs.Bodies.{body_of}
use Rattle.gh_parts.proofs.StandsMapping.{fits_body_in, map_counted, map_first, map_second}
use Rattle.gh_parts.proofs.parts.Parts.put_mapping.Goals as goal

pub map-requires-clause-fits : goal.map-requires-clause-fits
map-requires-clause-fits g c =
    fits_body_in g.s c.requires.valid c.args.row c.requires.may c.args.self.now.journal.memory
    (body_of c.args.self.now.table.headers c.args.self.now.shares c.args.row.space.0)
    c.requires.stands.memory.rows (c.requires.stands.spaces.mappings c.args.row.space.0)

pub owe-requires : goal.owe-requires
owe-requires g c =
    map_first c.args.self.now g.s c.requires.stands c.requires.valid c.requires.room c.args.row c.requires.may c.map.new.self
    c.in_ok-map.ensures.ok

pub owe-requires-2 : goal.owe-requires-2
owe-requires-2 g c =
    map_second c.args.self.now g.s c.requires.stands c.requires.valid c.requires.room c.args.row c.requires.may c.map.new.self
    c.in_ok-map.ensures.ok c.owe.new.self c.owe.ensures

pub returns-clause-ok : goal.returns-clause-ok
returns-clause-ok g c =
    map_counted c.args.self.now g.s c.requires.stands c.requires.valid c.requires.room c.args.row c.requires.may c.map.new.self
    c.in_ok-map.ensures.ok c.owe.new.self c.owe-2.new.self c.owe.ensures c.owe-2.ensures
