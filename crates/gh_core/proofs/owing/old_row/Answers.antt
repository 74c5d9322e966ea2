-- What is owed at the object's index.
use Rattle.std.proofs.Common.{◌≡◌, subst, IfOk, ℕ}
use Rattle.gh_core.specs.Owing.{owed_in, owing}
use Rattle.gh_core.specs.Running.{index_in}
use Rattle.gh_core.proofs.owing.old_row.Goals as goal

pub returns : goal.returns
returns c =
    subst (λ (at : ℕ). IfOk c.owed_there.result (λ written. written ≡ owing (owed_in c.args.owed.now c.args.behind.old.now c.args.behind.new.now
    (index_in c.args.behind.first.now c.args.behind.given.now) (index_in c.args.behind.first.now c.args.behind.later.now)) at))
    c.index_of-at.ensures c.owed_there.ensures
