-- The queue's body is changed with its row.
use Rattle.std.proofs.Common.{List, [], subst}
use Rattle.gh_model.specs.Changes.{put_message as put_message_of, with_message}
use Rattle.gh_parts.specs.BodyChanges.{on_queue, sent_to}
use Rattle.gh_parts.proofs.QueueChanges.{one_sent}
use Rattle.gh_parts.specs.Stands.{Stands}
use Rattle.gh_parts.specs.declared.shares.Place.{Place}
use Rattle.gh_parts.proofs.BodyLemmas.{changed_shares, unfound_shares}
use Rattle.gh_parts.proofs.StandsQueues.{queue_stands}
use Rattle.gh_parts.proofs.parts.Parts.put_message.Goals as goal

pub returns-in-Some : goal.returns-in-Some
returns-in-Some g c =
    subst (λ (shares : List (List Place)). Stands (record c.args.self.now { shares = shares }) (put_message_of c.args.queue c.args.message.now g.s))
    (changed_shares c.args.self.now.table.headers c.args.self.now.shares c.args.queue.0 c.in-Some.index
    (on_queue (sent_to c.args.message.now)) _ _ _ _ c.in-Some.ensures.found c.take-body.ensures.before c.take-body.ensures.taken
    c.sent.ensures c.put.ensures)
    (queue_stands [] c.args.self.now g.s c.requires.0 c.args.queue (on_queue (sent_to c.args.message.now)) (with_message c.args.message.now)
    (one_sent c.args.self.now g.s c.requires.0 c.args.queue.0 c.args.message.now c.requires.1))

pub returns-in_default : goal.returns-in_default
returns-in_default g c =
    subst (λ (shares : List (List Place)). Stands (record c.args.self.now { shares = shares }) (put_message_of c.args.queue c.args.message.now g.s))
    (unfound_shares c.args.self.now.table.headers c.args.self.now.shares c.args.queue.0 _
    c.requires.0.objects.indexed c.requires.0.objects.whole c.in_default.ensures.found)
    (queue_stands [] c.args.self.now g.s c.requires.0 c.args.queue (on_queue (sent_to c.args.message.now)) (with_message c.args.message.now)
    (one_sent c.args.self.now g.s c.requires.0 c.args.queue.0 c.args.message.now c.requires.1))
