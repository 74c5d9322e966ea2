-- A call that wants a look has room for it.
use Rattle.gh_core.specs.Running.{stands_for}
use Rattle.gh_core.proofs.LookRoom.{room_told}
use Rattle.gh_core.proofs.call_events.look_seat.Goals as goal

pub looked_call-requires : goal.looked_call-requires
looked_call-requires c = room_told (stands_for c.args.running.now) c.args.cpu.0 c.args.slot c.seat-seat.result.now c.in-Some.call c.requires.may c.seat-seat.ensures c.in-Some.is
