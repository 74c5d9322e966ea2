-- The looks of those that were passed.
use Rattle.std.proofs.Common.{◌≡◌, ◌≤◌, length, take}
use Rattle.gh_items.specs.Stands.{looks_of}
use Rattle.gh_items.proofs.end.looks.Given as goal

abbrev pub invariant-loop-one : goal.invariant-loop-one
invariant-loop-one l = record {
  passed : l.looks ≡ looks_of (take l.one-index l.items);
  counted : length l.looks ≡ l.one-index;
  few : length l.items ≤ 2;
}
