use Rattle.gh_bootfile.proofs.LineLaw.{line_again}
use Rattle.gh_bootfile.proofs.laws.text_of_line_is_read.Goals as goal

pub returns : goal.returns
returns c = line_again
