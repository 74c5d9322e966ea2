-- A held run leads on to the next, and any other ends the pages.
use Rattle.std.proofs.Common.{◌+◌, drop, get_or, arith, sym, ◌∙◌}
use Rattle.std.proofs.lemmas.Bool.{not-true, not-false}
use Rattle.std.proofs.lemmas.List.{drop_more}
use Rattle.gh_model.specs.Memory.{is_serial}
use Rattle.gh_extent.proofs.RunLemmas.{prefix_len-passes, prefix_len-stops}
use Rattle.gh_extent.proofs.RunLemmas.{rising_first, rising_rest, spread-none}
use Rattle.gh_extent.proofs.run_list.held_to.Goals as goal

pub returns-then-ne : goal.returns-then-ne
returns-then-ne c =
    let runs = c.args.runs.now in
    let i = c.loop-run.run-index in
    let end = c.loop-run.end in
    let split = drop_more runs i (record { end = 0; holder = record { 0 = 0 } }) c.loop-run-test.true in
    let r = get_or runs i (record { end = 0; holder = record { 0 = 0 } }) in
    let rest = drop (i + 1) runs in
    let some = rising_first r rest end (rw split at c.loop-run.invariant.rise) in
    let stops = prefix_len-stops (is_serial c.args.extent.0) r rest end some (not-true _ (sym c.ne.ensures ∙ c.if-ne.true)) in
    omega (arith, rw split at c.loop-run.invariant.held, stops)

pub loop-run-preserved : goal.loop-run-preserved
loop-run-preserved c =
    let runs = c.args.runs.now in
    let i = c.loop-run.run-index in
    let end = c.loop-run.end in
    let split = drop_more runs i (record { end = 0; holder = record { 0 = 0 } }) c.loop-run-test.true in
    let r = get_or runs i (record { end = 0; holder = record { 0 = 0 } }) in
    let rest = drop (i + 1) runs in
    let rise = rw split at c.loop-run.invariant.rise in
    let some = rising_first r rest end rise in
    let passes = prefix_len-passes (is_serial c.args.extent.0) r rest end some (not-false _ (sym c.ne.ensures ∙ c.if-ne.false)) in
    record {
      rise = rising_rest r rest end rise;
      held = omega (arith, rw split at c.loop-run.invariant.held, passes, some);
    }

pub returns : goal.returns
returns c =
    let none = spread-none c.args.runs.now c.loop-run.end c.loop-run.run-index c.loop-run-test.false in
    omega (arith, rw none at c.loop-run.invariant.held)
