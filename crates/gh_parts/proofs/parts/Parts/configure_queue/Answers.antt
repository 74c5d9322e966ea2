-- The queue gets its room, and then it costs more.
use Rattle.std.proofs.Common.{subst, sym}
use Rattle.gh_model.specs.Changes.{configure_queue as configure_queue_of, set_room as set_room_of}
use Rattle.gh_parts.specs.Stands.{Stands}
use Rattle.gh_parts.specs.declared.parts.Parts.{Parts}
use Rattle.gh_parts.proofs.StandsCost.{cost_stands, may_cost}
use Rattle.gh_parts.proofs.parts.Parts.configure_queue.Goals as goal

pub returns-clause-ok : goal.returns-clause-ok
returns-clause-ok g c =
    subst (λ (parts : Parts). Stands parts (configure_queue_of c.args.queue c.args.depth c.args.size c.args.cost g.s))
    (sym c.cost_more.ensures)
    (cost_stands c.set_room.new.self (set_room_of c.args.queue c.args.depth c.args.size g.s) c.in_ok-set_room.ensures.ok
    c.args.queue c.args.cost
    (may_cost g.s _ c.requires.0.valid c.args.queue.0 c.args.depth c.args.size c.args.cost c.requires.0.may))
