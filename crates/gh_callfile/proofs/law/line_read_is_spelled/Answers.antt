use Rattle.gh_callfile.proofs.SpellingLemmas.{read_is_spelled}
use Rattle.gh_callfile.proofs.law.line_read_is_spelled.Goals as goal

pub returns : goal.returns
returns c = λ line said. read_is_spelled c.args.text.now line said
