-- The pages of a run of another holder are passed over, and those of the extent's end the search.
use Rattle.std.proofs.Common.{◌≡◌, ◌+◌, ◌<◌, drop, length}
use Rattle.std.proofs.Common.{get_or, arith, sym, ◌∙◌}
use Rattle.std.specs.List.{position_or_len}
use Rattle.std.proofs.lemmas.Bool.{lt-ltb, le-ltb}
use Rattle.std.proofs.lemmas.List.{drop_more}
use Rattle.gh_extent.specs.Runs.{spread}
use Rattle.gh_model.specs.Memory.{is_serial}
use Rattle.gh_extent.proofs.RunLemmas.{length-first, position-passes, position-stops}
use Rattle.gh_extent.proofs.RunLemmas.{rising_first, rising_rest, spread-none}
use Rattle.gh_extent.proofs.run_list.first_held.Goals as goal

pub returns-then-eq : goal.returns-then-eq
returns-then-eq c =
    let runs = c.args.runs.now in
    let i = c.loop-run.run-index in
    let first = c.loop-run.first in
    let q = is_serial c.args.extent.0 in
    let split = drop_more runs i (record { end = 0; holder = record { 0 = 0 } }) c.loop-run-test.true in
    let r = get_or runs i (record { end = 0; holder = record { 0 = 0 } }) in
    let rest = drop (i + 1) runs in
    let some = rising_first r rest first (rw split at c.loop-run.invariant.rise) in
    let stops = position-stops q r rest first some (sym c.eq.ensures ∙ c.if-eq.true) in
    let here : position_or_len q (spread 0 runs) ≡ first = omega (arith, rw split at c.loop-run.invariant.place, stops) in
    let within : first < length (spread 0 runs) = omega (arith, rw split at c.loop-run.invariant.all, length-first r rest first, some) in
    rw (here, lt-ltb first (length (spread 0 runs)) within)

pub loop-run-preserved : goal.loop-run-preserved
loop-run-preserved c =
    let runs = c.args.runs.now in
    let i = c.loop-run.run-index in
    let first = c.loop-run.first in
    let q = is_serial c.args.extent.0 in
    let split = drop_more runs i (record { end = 0; holder = record { 0 = 0 } }) c.loop-run-test.true in
    let r = get_or runs i (record { end = 0; holder = record { 0 = 0 } }) in
    let rest = drop (i + 1) runs in
    let rise = rw split at c.loop-run.invariant.rise in
    let some = rising_first r rest first rise in
    let passes = position-passes q r rest first some (sym c.eq.ensures ∙ c.if-eq.false) in
    record {
      rise = rising_rest r rest first rise;
      all = omega (arith, rw split at c.loop-run.invariant.all, length-first r rest first, some);
      place = omega (arith, rw split at c.loop-run.invariant.place, passes, some);
    }

pub returns : goal.returns
returns c =
    let runs = c.args.runs.now in
    let none = spread-none runs c.loop-run.first c.loop-run.run-index c.loop-run-test.false in
    let all = rw none at c.loop-run.invariant.all in
    let place = rw none at c.loop-run.invariant.place in
    rw (le-ltb (position_or_len (is_serial c.args.extent.0) (spread 0 runs)) (length (spread 0 runs)) (omega (arith, all, place)))
