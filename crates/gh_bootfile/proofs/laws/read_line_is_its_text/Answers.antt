use Rattle.gh_bootfile.proofs.LineLaw.{line_read}
use Rattle.gh_bootfile.proofs.laws.read_line_is_its_text.Goals as goal

pub returns-clause-spelled : goal.returns-clause-spelled
returns-clause-spelled c = λ text line e. (line_read text line e).text_is

pub returns-clause-fields : goal.returns-clause-fields
returns-clause-fields c = λ text line e. (line_read text line e).fields
