use Rattle.std.proofs.Common.{◌≡◌, ◌++◌, length, take, drop}
use Rattle.gh_base.specs.declared.limits.TheConstants.{CPUS}
use Rattle.gh_rcu.specs.Grace.{started}
use Rattle.gh_rcu.proofs.grace.Grace.start.Given as goal

abbrev pub invariant-loop-cpu : goal.invariant-loop-cpu
invariant-loop-cpu l = record {
  cpus : length l.waiting ≡ CPUS;
  rest : take l.cpu l.waiting ++ started (drop l.cpu l.counter-items) ≡ started l.counter-items;
}
