-- What is owed so far, and at the indices of the objects that are left.
use Rattle.std.proofs.Common.{◌≡◌, ◌++◌, drop, map}
use Rattle.gh_core.specs.Owing.{owed_in, owing_row}
use Rattle.gh_core.specs.Running.{index_in}
use Rattle.gh_core.proofs.owing.put_old.Given as goal

abbrev pub invariant-loop-row : goal.invariant-loop-row
invariant-loop-row l =
    l.all ++ map (owing_row (owed_in l.owed l.behind.old.now l.behind.new.now (index_in l.behind.first.now l.behind.given.now) (index_in l.behind.first.now l.behind.later.now)) (index_in l.behind.first.now l.behind.given.now)) (drop l.row-index l.rows)
    ≡ l.initial.all ++ map (owing_row (owed_in l.owed l.behind.old.now l.behind.new.now (index_in l.behind.first.now l.behind.given.now) (index_in l.behind.first.now l.behind.later.now)) (index_in l.behind.first.now l.behind.given.now)) l.rows
