-- The queue's body is changed with its row.
use Rattle.std.proofs.Common.{List, [], subst}
use Rattle.gh_model.specs.Changes.{empty_queue as empty_queue_of, without_messages}
use Rattle.gh_parts.specs.BodyChanges.{on_queue, without_any}
use Rattle.gh_parts.proofs.QueueChanges.{all_dropped}
use Rattle.gh_parts.specs.Bodies.{body_of}
use Rattle.gh_parts.specs.Stands.{Stands}
use Rattle.gh_parts.specs.declared.shares.Place.{Place}
use Rattle.gh_parts.proofs.BodyLemmas.{changed_shares, unfound_shares}
use Rattle.gh_parts.proofs.StandsQueues.{queue_stands}
use Rattle.gh_parts.proofs.parts.Parts.empty_queue.Goals as goal

pub returns-in-Some : goal.returns-in-Some
returns-in-Some g c =
    subst (λ (shares : List (List Place)). Stands (record c.args.self.now { shares = shares }) (empty_queue_of c.args.queue g.s))
    (changed_shares c.args.self.now.table.headers c.args.self.now.shares c.args.queue.0 c.in-Some.index
    (on_queue without_any) _ _ _ _ c.in-Some.ensures.found c.take-body.ensures.before c.take-body.ensures.taken
    c.flushed.ensures c.put.ensures)
    (queue_stands [] c.args.self.now g.s c.requires c.args.queue (on_queue without_any) without_messages
    (all_dropped c.args.queue.0 (body_of c.args.self.now.table.headers c.args.self.now.shares c.args.queue.0)))

pub returns-in_default : goal.returns-in_default
returns-in_default g c =
    subst (λ (shares : List (List Place)). Stands (record c.args.self.now { shares = shares }) (empty_queue_of c.args.queue g.s))
    (unfound_shares c.args.self.now.table.headers c.args.self.now.shares c.args.queue.0 _
    c.requires.objects.indexed c.requires.objects.whole c.in_default.ensures.found)
    (queue_stands [] c.args.self.now g.s c.requires c.args.queue (on_queue without_any) without_messages
    (all_dropped c.args.queue.0 (body_of c.args.self.now.table.headers c.args.self.now.shares c.args.queue.0)))
