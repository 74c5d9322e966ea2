use Rattle.std.proofs.Common.{◌≡◌, ◌<◌, ◌≤◌, ◌-◌, length}
use Rattle.std.specs.Io.KnownBytes.{prepend_known}
use Rattle.gh_io.proofs.disk.read_by_chunks.Given as goal

abbrev pub invariant-loop-reader : goal.invariant-loop-reader
invariant-loop-reader g l = record {
  chunk : 0 < length l.chunk;
  bound : length l.bytes.items ≤ l.max;
  left : prepend_known l.bytes.items (g.R.Reader.left l.reader) ≡ g.R.Reader.left l.fn.reader;
  sure : g.R.Reader.is_sure l.reader ≡ g.R.Reader.is_sure l.fn.reader;
}

abbrev pub decreases-loop-reader : goal.decreases-loop-reader
decreases-loop-reader g l = l.max - length l.bytes.items
