use Rattle.std.proofs.Common.{◌≡◌, ◌+◌, ◌≤◌, length}
use Rattle.std.specs.List.{slice_split}
use Rattle.gh_callfile.specs.CallFile.{is_line_feed, read_from, with_lines}
use Rattle.gh_callfile.proofs.call_file.read_calls.Given as goal

abbrev pub invariant-loop-line : goal.invariant-loop-line
invariant-loop-line l = record {
  rest : with_lines l.lines (read_from l.next.number l.next.room (slice_split is_line_feed l.rest))
      ≡ read_from 1 l.fn.room (slice_split is_line_feed l.fn.text);
  few : l.next.number + length l.rest ≤ 1 + length l.fn.text;
}

abbrev pub decreases-loop-line : goal.decreases-loop-line
decreases-loop-line l = length l.rest
