-- The row is put, and then its references are counted.
use Rattle.gh_parts.proofs.StandsAttached.{cpu_first, cpu_owes, cpu_second}
use Rattle.gh_parts.proofs.parts.Parts.add_cpu.Goals as goal

pub owe-requires : goal.owe-requires
owe-requires g c =
    cpu_first g.s c.requires.valid c.args.row c.requires.may c.args.self.now c.push_cpu.new.self c.requires.stands c.requires.room
    c.in_ok-push_cpu.ensures.ok

pub owe-requires-2 : goal.owe-requires-2
owe-requires-2 g c =
    cpu_second g.s c.requires.valid c.args.row c.requires.may c.args.self.now c.push_cpu.new.self c.owe.new.self c.requires.stands
    c.requires.room c.in_ok-push_cpu.ensures.ok c.owe.ensures

pub returns-clause-ok : goal.returns-clause-ok
returns-clause-ok g c =
    cpu_owes g.s c.requires.valid c.args.row c.requires.may c.args.self.now c.push_cpu.new.self c.owe.new.self c.owe-2.new.self
    c.requires.stands c.in_ok-push_cpu.ensures.ok c.owe.ensures c.owe-2.ensures
