use Rattle.std.proofs.Common.{◌≡◌, ◌≤◌, ◌-◌, length, take}
use Rattle.std.specs.Io.KnownBytes.{append_known}
use Rattle.gunyah.proofs.output.write_output.Given as goal

abbrev pub invariant-loop-count : goal.invariant-loop-count
invariant-loop-count g l = record {
  within : l.count ≤ length l.output;
  taken : g.K.Sink.taken l.out ≡ append_known (g.K.Sink.taken l.fn.out) (take l.count l.output);
  faults : g.K.Sink.faults l.out ≡ g.K.Sink.faults l.fn.out;
  sure : g.K.Sink.is_sure l.out ≡ g.K.Sink.is_sure l.fn.out;
}

abbrev pub decreases-loop-count : goal.decreases-loop-count
decreases-loop-count g l = length l.output - l.count
