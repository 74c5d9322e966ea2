use Rattle.gh_callfile.proofs.SpellingLemmas.{spelled_is_read}
use Rattle.gh_callfile.proofs.law.line_spelled_is_read.Goals as goal

pub returns : goal.returns
returns c = λ written same well. rw (← same) (spelled_is_read written well)
