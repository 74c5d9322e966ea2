-- Each round begins where those before it led.
use Rattle.std.proofs.Common.{◌≡◌, ◌+◌, ◌-◌, ◌∙◌, ℕ, ap, arith, false, length, refl, subst, suc, true}
use Rattle.std.specs.Prelude.{nat_lt}
use Rattle.std.proofs.lemmas.Bool.Decides.{nat_tests}
use Rattle.gh_schedules.specs.Sweep.{rounds}
use Rattle.gh_schedules.specs.Trace.{after_all}
use Rattle.gh_items.proofs.SweepLemmas.{RoundsOn, rounds_end, rounds_none, rounds_on, some_sweeps}
use Rattle.gh_items.proofs.sweep.rounds.Goals as goal

pub round-requires : goal.round-requires
round-requires g c = record { sweeps = some_sweeps c.loop-made.progress c.args.cpu.0 c.args.call.now _ _ c.loop-made.invariant.rest }

pub loop-made-init : goal.loop-made-init
loop-made-init g c = record {
  marks = refl;
  rest = record {
    conf = g.conf;
    sweeps = c.requires;
    is = ap (λ (n : ℕ). after_all g.conf (rounds c.args.cpu.0 n g.conf)) (let all : c.args.count - 0 ≡ c.args.count = omega arith in all);
  };
}

pub loop-made-preserved : goal.loop-made-preserved
loop-made-preserved g c = record {
  marks = c.in_ok-round.ensures.marks ∙ c.loop-made.invariant.marks;
  rest = (let one_more : c.args.count - c.loop-made.made ≡ suc (c.args.count - (c.loop-made.made + 1)) = omega (arith, c.loop-made-test.true) in
      let adds : nat_lt (length c.loop-made.progress.entries) (length c.round.new.progress.entries) ≡ true =
      grind (arith, nat_tests, c.if-entry_count-before.false, c.entry_count-before.ensures, c.entry_count.ensures) in
      rounds_on c.loop-made.progress c.round.new.progress c.args.cpu.0 c.args.call.now (c.args.count - c.loop-made.made)
      (c.args.count - (c.loop-made.made + 1)) (after_all g.conf (rounds c.args.cpu.0 c.args.count g.conf)) c.loop-made.invariant.rest one_more
      (c.in_ok-round.ensures.stands c.loop-made.invariant.rest.conf c.loop-made.invariant.rest.sweeps) adds);
}

pub returns-then-entry_count-before-clause-stands : goal.returns-then-entry_count-before-clause-stands
returns-then-entry_count-before-clause-stands g c =
    let one_more : c.args.count - c.loop-made.made ≡ suc (c.args.count - (c.loop-made.made + 1)) = omega (arith, c.loop-made-test.true) in
    let none : nat_lt (length c.loop-made.progress.entries) (length c.round.new.progress.entries) ≡ false =
    grind (arith, nat_tests, c.if-entry_count-before.true, c.entry_count-before.ensures, c.entry_count.ensures) in
    rounds_end c.loop-made.progress c.round.new.progress c.args.cpu.0 c.args.call.now (c.args.count - c.loop-made.made)
    (c.args.count - (c.loop-made.made + 1)) (after_all g.conf (rounds c.args.cpu.0 c.args.count g.conf)) c.loop-made.invariant.rest one_more
    (c.in_ok-round.ensures.stands c.loop-made.invariant.rest.conf c.loop-made.invariant.rest.sweeps) none

pub returns-clause-stands : goal.returns-clause-stands
returns-clause-stands g c =
    let none : c.args.count - c.loop-made.made ≡ 0 = omega (arith, c.loop-made-test.false) in
    rounds_none c.loop-made.progress c.args.cpu.0 c.args.call.now (after_all g.conf (rounds c.args.cpu.0 c.args.count g.conf))
    (subst (λ (n : ℕ). RoundsOn c.loop-made.progress c.args.cpu.0 c.args.call.now n (after_all g.conf (rounds c.args.cpu.0 c.args.count g.conf))) none
    c.loop-made.invariant.rest)
