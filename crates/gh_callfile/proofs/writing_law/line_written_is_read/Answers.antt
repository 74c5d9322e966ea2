use Rattle.gh_callfile.proofs.WritingLemmas.{line_again}
use Rattle.gh_callfile.proofs.writing_law.line_written_is_read.Goals as goal

pub returns : goal.returns
returns c = line_again
