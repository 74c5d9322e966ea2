use Rattle.std.proofs.Common.{ap}
use Rattle.gh_callfile.specs.CallFile.{told_reading}
use Rattle.gh_callfile.proofs.WritingLemmas.{file_again}
use Rattle.gh_callfile.proofs.writing_law.file_written_is_read.Goals as goal

pub returns : goal.returns
returns c = λ lines room fit few. ap told_reading (file_again lines 1 room fit few)
