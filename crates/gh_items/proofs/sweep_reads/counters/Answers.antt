-- The counter of one CPU more; and those of all CPUs are the configuration's.
use Rattle.std.proofs.Common.{◌≡◌, ◌++◌, ◌∙◌, ℕ, List, [], ◌∷◌, ap, arith, map, sym, take}
use Rattle.std.specs.List.{range_with_len}
use Rattle.std.proofs.Math.Seq.{take-length}
use Rattle.std.proofs.lemmas.List.{length-set, take_more_set}
use Rattle.std.proofs.lemmas.List.FromFn.{map-range_with_len_more}
use Rattle.gh_base.specs.declared.limits.TheConstants.{CPUS}
use Rattle.gh_items.specs.SweepReads.{counter_at}
use Rattle.gh_items.proofs.SweepReadLemmas.{counters_are}
use Rattle.gh_items.proofs.sweep_reads.counters.Goals as goal

pub loop-at-preserved : goal.loop-at-preserved
loop-at-preserved c = record {
  nine = length-set c.loop-at.counters c.loop-at.at c.counter.result ∙ c.loop-at.invariant.nine;
  done = take_more_set c.loop-at.counters c.loop-at.at c.counter.result (omega (arith, c.loop-at-test.true, c.loop-at.invariant.nine))
      ∙ ap (λ (seen : List ℕ). seen ++ c.counter.result ∷ []) c.loop-at.invariant.done
      ∙ ap (λ (n : ℕ). map (counter_at c.args.progress.now c.args.cpu.0 c.args.call.now) (range_with_len 0 c.loop-at.at) ++ n ∷ []) c.counter.ensures
      ∙ sym (map-range_with_len_more (counter_at c.args.progress.now c.args.cpu.0 c.args.call.now) 0 c.loop-at.at c.loop-at.at (omega arith));
}

pub returns : goal.returns
returns c conf there =
    let last : c.loop-at.at ≡ CPUS = omega (arith, c.loop-at-test.false, c.loop-at.auto.at-end) in
    sym (take-length c.loop-at.counters)
    ∙ ap (λ (n : ℕ). take n c.loop-at.counters) (c.loop-at.invariant.nine ∙ sym last)
    ∙ c.loop-at.invariant.done
    ∙ ap (λ (n : ℕ). map (counter_at c.args.progress.now c.args.cpu.0 c.args.call.now) (range_with_len 0 n)) last
    ∙ counters_are c.args.progress.now c.args.cpu.0 c.args.call.now conf there
