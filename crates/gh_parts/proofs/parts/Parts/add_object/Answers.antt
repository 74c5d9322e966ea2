-- The partition's reference and units are taken, and then the object is entered.
use Rattle.gh_parts.proofs.StandsAdded.{adding_counts, adding_found, adding_index, adding_place, adding_stands}
use Rattle.gh_parts.proofs.parts.Parts.add_object.Goals as goal

pub owe-requires : goal.owe-requires
owe-requires g c =
    adding_counts c.args.self.now c.open.new.self c.open.new.self c.open.new.self g.s c.args.row
    c.requires.stands c.requires.valid c.requires.may c.in_ok-open.ensures.ok c.requires.room

pub enter-requires-clause-index : goal.enter-requires-clause-index
enter-requires-clause-index g c =
    adding_index c.args.self.now c.open.new.self c.owe.new.self c.take_units.new.self g.s c.args.row
    c.requires.stands c.requires.valid c.requires.may c.in_ok-open.ensures.ok c.in-Some.home c.new_header.result
    c.in-Some.ensures.found c.owe.ensures c.take_units.ensures c.new_header.ensures

pub enter-requires-clause-place : goal.enter-requires-clause-place
enter-requires-clause-place g c =
    adding_place c.args.self.now c.open.new.self c.owe.new.self c.take_units.new.self g.s c.args.row
    c.requires.stands c.requires.valid c.requires.may c.in_ok-open.ensures.ok c.in-Some.home c.new_header.result
    c.in-Some.ensures.found c.owe.ensures c.take_units.ensures c.new_header.ensures

pub returns-in-Some-clause-ok : goal.returns-in-Some-clause-ok
returns-in-Some-clause-ok g c =
    adding_stands c.args.self.now c.open.new.self c.owe.new.self c.take_units.new.self g.s c.args.row
    c.requires.stands c.requires.valid c.requires.may c.in_ok-open.ensures.ok c.in-Some.home c.new_header.result
    c.in-Some.ensures.found c.owe.ensures c.take_units.ensures c.new_header.ensures
    c.in_ok-body.body c.enter.new.self c.in_ok-body.ensures c.enter.ensures.entered c.enter.ensures.counted

pub returns-in_default-clause-ok : goal.returns-in_default-clause-ok
returns-in_default-clause-ok g c =
    absurd (adding_found c.args.self.now c.open.new.self c.open.new.self c.open.new.self g.s c.args.row
    c.requires.stands c.requires.valid c.requires.may c.in_ok-open.ensures.ok c.in_default.ensures.found)
