-- The reader tells the first bad line, and only that.
use Rattle.gh_bootfile.proofs.BadLineLaw.{first_bad, first_bad_told, first_bad_unique}
use Rattle.gh_bootfile.proofs.laws.bad_line_is_the_first.Goals as goal

pub returns : goal.returns
returns c = record { told = first_bad; first = first_bad_told; one = first_bad_unique }
