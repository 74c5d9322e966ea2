use Rattle.std.proofs.Common.{◌≡◌, ◌++◌, length, take, drop}
use Rattle.gh_base.specs.declared.limits.TheConstants.{CPUS}
use Rattle.gh_rcu.specs.Grace.{all_noted}
use Rattle.gh_rcu.proofs.grace.Grace.note_all.Given as goal

abbrev pub invariant-loop-cpu : goal.invariant-loop-cpu
invariant-loop-cpu l = record {
  cpus : length l.self-inside.waiting ≡ CPUS;
  rest :
      take l.cpu l.self-inside.waiting
      ++ all_noted (drop l.cpu l.self-inside.waiting) (drop l.cpu l.now)
      ≡ all_noted l.initial.self-inside.waiting l.now;
}
