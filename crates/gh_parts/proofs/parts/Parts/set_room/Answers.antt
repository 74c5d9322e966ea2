-- The queue's body is changed with its row.
use Rattle.std.proofs.Common.{List, [], ◌∙◌, ap, subst}
use Rattle.gh_model.specs.Changes.{set_room as set_room_of, with_room}
use Rattle.gh_msgqueue.specs.Queue.{MessageQueue, empty_queue}
use Rattle.gh_parts.specs.BodyChanges.{roomed}
use Rattle.gh_parts.proofs.QueueChanges.{room_given}
use Rattle.gh_parts.specs.Bodies.{body_of}
use Rattle.gh_parts.specs.Stands.{Stands}
use Rattle.gh_parts.specs.declared.shares.Place.{Place}
use Rattle.gh_parts.proofs.BodyLemmas.{changed_shares, unfound_shares}
use Rattle.gh_parts.proofs.StandsQueues.{queue_stands}
use Rattle.gh_parts.proofs.parts.Parts.set_room.Goals as goal

pub returns-in-Some-clause-ok : goal.returns-in-Some-clause-ok
returns-in-Some-clause-ok g c =
    subst (λ (shares : List (List Place)). Stands (record c.args.self.now { shares = shares }) (set_room_of c.args.queue c.args.depth c.args.size g.s))
    (changed_shares c.args.self.now.table.headers c.args.self.now.shares c.args.queue.0 c.in-Some.index
    (roomed (empty_queue c.args.depth c.args.size)) _ _ _ _ c.in-Some.ensures.found c.take-body.ensures.before c.take-body.ensures.taken
    (c.roomed.ensures ∙ ap (λ (room : MessageQueue). roomed room c.take-body.result) c.in_ok-room.ensures) c.put.ensures)
    (queue_stands [] c.args.self.now g.s c.requires.0 c.args.queue (roomed (empty_queue c.args.depth c.args.size)) (with_room c.args.depth c.args.size)
    (room_given c.args.depth c.args.size c.args.queue.0 (body_of c.args.self.now.table.headers c.args.self.now.shares c.args.queue.0)))

pub returns-in_default-clause-ok : goal.returns-in_default-clause-ok
returns-in_default-clause-ok g c =
    subst (λ (shares : List (List Place)). Stands (record c.args.self.now { shares = shares }) (set_room_of c.args.queue c.args.depth c.args.size g.s))
    (unfound_shares c.args.self.now.table.headers c.args.self.now.shares c.args.queue.0 _
    c.requires.0.objects.indexed c.requires.0.objects.whole c.in_default.ensures.found)
    (queue_stands [] c.args.self.now g.s c.requires.0 c.args.queue (roomed (empty_queue c.args.depth c.args.size)) (with_room c.args.depth c.args.size)
    (room_given c.args.depth c.args.size c.args.queue.0 (body_of c.args.self.now.table.headers c.args.self.now.shares c.args.queue.0)))
