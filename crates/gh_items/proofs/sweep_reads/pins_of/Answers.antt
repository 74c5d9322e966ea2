-- The pins of one CPU more; and those of all CPUs are the pins on the object, or the count of its word.
use Rattle.std.proofs.Common.{◌≡◌, ◌+◌, ◌∙◌, ℕ, List, ap, arith, sym}
use Rattle.gh_base.specs.declared.ids.ObjIndex.{ObjIndex}
use Rattle.gh_base.specs.declared.limits.TheConstants.{CPUS}
use Rattle.gh_events.specs.References.{total}
use Rattle.gh_items.specs.Stands.{index_in}
use Rattle.gh_items.specs.SweepReads.{call_at, call_pins}
use Rattle.gh_items.proofs.SweepReadLemmas.{object_count, object_pins, total_later, total_start}
use Rattle.gh_items.proofs.sweep_reads.pins_of.Goals as goal

pub loop-at-init : goal.loop-at-init
loop-at-init c = record { few = omega arith; done = sym (total_start _) }

pub loop-at-preserved : goal.loop-at-preserved
loop-at-preserved c = record {
  few = omega (arith, c.loop-at.invariant.few, c.pins_of_cpu-pins.ensures.few);
  done = ap (λ (n : ℕ). n + c.pins_of_cpu-pins.result) c.loop-at.invariant.done
      ∙ ap (λ (n : ℕ). total c.loop-at.at (λ at. call_pins c.index_of-index.result.0 (call_at c.args.progress.now c.args.cpu.0 c.args.call.now at)) + n)
      c.pins_of_cpu-pins.ensures.pins
      ∙ sym (total_later c.loop-at.at (λ at. call_pins c.index_of-index.result.0 (call_at c.args.progress.now c.args.cpu.0 c.args.call.now at)));
}

pub returns-clause-pins : goal.returns-clause-pins
returns-clause-pins c conf there alive =
    let last : c.loop-at.at ≡ CPUS = omega (arith, c.loop-at-test.false, c.loop-at.auto.at-end) in
    c.loop-at.invariant.done
    ∙ ap (λ (n : ℕ). total n (λ at. call_pins c.index_of-index.result.0 (call_at c.args.progress.now c.args.cpu.0 c.args.call.now at))) last
    ∙ object_pins c.args.progress.now c.args.cpu.0 c.args.call.now conf there c.args.serial.0 c.index_of-index.result.0
    (c.index_of-index.ensures ∙ ap (λ (places : List ObjIndex). index_in places c.args.serial.0) c.as_slice.ensures) alive

pub returns-clause-counts : goal.returns-clause-counts
returns-clause-counts c conf there alive begins doomed =
    returns-clause-pins c conf there alive ∙ sym (object_count conf c.args.cpu.0 there.sound begins c.args.serial.0 doomed alive)
