use Rattle.std.proofs.Common.{◌≡◌, ◌≤◌, ◌+◌, [], length}
use Rattle.gh_bootfile.specs.BootFile.{lines_on}
use Rattle.gh_bootfile.specs.Draft.{IsDraft}
use Rattle.gh_model.specs.Pieces.{pieces_at}
use Rattle.gh_bootfile.proofs.read.read_lines.Given as goal

abbrev pub invariant-lines : goal.invariant-lines
invariant-lines l = record {
  whole : lines_on l.draft.lines (pieces_at 10 l.rest) ≡ lines_on [] (pieces_at 10 l.text);
  draft : IsDraft l.draft;
  count : l.lines ≡ length l.draft.lines;
  short : l.lines + length l.rest ≤ length l.text;
}

abbrev pub decreases-lines : goal.decreases-lines
decreases-lines l = length l.rest
