use Rattle.gh_callfile.proofs.WritingLemmas.{file_is_spelled}
use Rattle.gh_callfile.proofs.writing_law.file_read_is_spelled.Goals as goal

pub returns : goal.returns
returns c = file_is_spelled
