-- The runs from the one place up to the present are gone, and the room stays.
use Rattle.std.proofs.Common.{◌≡◌, ◌++◌, take, drop, vec_capacity}
use Rattle.gh_extent.proofs.run_list.replace.Given as goal

abbrev pub invariant-loop : goal.invariant-loop
invariant-loop l = record {
  items : l.runs.items ≡ take l.fn.from l.fn.runs.items ++ drop l.counter l.fn.runs.items;
  room : vec_capacity l.runs ≡ vec_capacity l.fn.runs;
}
