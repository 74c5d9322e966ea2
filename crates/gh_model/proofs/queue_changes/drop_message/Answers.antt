-- The queue's row alone is another.
use Rattle.std.proofs.Common.{◌≡◌, Some, position}
use Rattle.gh_model.specs.Changes.{without_first}
use Rattle.gh_model.specs.Rows.{is_queue}
use Rattle.gh_model.proofs.RowLemmas.{row_changed}
use Rattle.gh_model.proofs.queue_changes.drop_message.Goals as goal

pub returns-in-Some : goal.returns-in-Some
returns-in-Some c =
    let found : position (is_queue c.args.queue.0) c.args.queues.now ≡ Some c.in-Some.at = cc in
    row_changed (is_queue c.args.queue.0) without_first c.args.queues.now _ c.in-Some.at _ _ c.as_mut_slice.ensures.value found c.drop_first.ensures
