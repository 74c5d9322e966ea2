use Rattle.gh_bootfile.proofs.BadLineLaw.{answers_first}
use Rattle.gh_bootfile.proofs.FileLaw.{is_text}
use Rattle.gh_bootfile.proofs.read.read_boot.Goals as goal

pub returns-clause-text : goal.returns-clause-text
returns-clause-text c = is_text c.args.text.now c.read.result c.read.ensures

pub returns-clause-first_bad : goal.returns-clause-first_bad
returns-clause-first_bad c = λ line is. answers_first c.args.text.now line c.read.result c.read.ensures is
