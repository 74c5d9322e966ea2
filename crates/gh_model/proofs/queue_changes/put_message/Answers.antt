-- The queue's row alone is another.
use Rattle.std.proofs.Common.{◌≡◌, Some, position}
use Rattle.std.proofs.lemmas.Result.{on_ok_weaker}
use Rattle.gh_model.specs.Changes.{with_message}
use Rattle.gh_model.specs.Rows.{is_queue}
use Rattle.gh_model.proofs.RowLemmas.{row_changed}
use Rattle.gh_model.proofs.queue_changes.put_message.Goals as goal

pub returns-in-Some-clause-ok : goal.returns-in-Some-clause-ok
returns-in-Some-clause-ok c =
    let found : position (is_queue c.args.queue.0) c.args.queues.now ≡ Some c.in-Some.at = cc in
    on_ok_weaker c.add_message.result (λ added. row_changed (is_queue c.args.queue.0) (with_message c.args.message) c.args.queues.now _ c.in-Some.at _ _ c.as_mut_slice.ensures.value found added) c.add_message.ensures.ok
