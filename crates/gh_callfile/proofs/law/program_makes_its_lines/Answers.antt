use Rattle.gh_callfile.proofs.ProgramLemmas.{makes_its_lines}
use Rattle.gh_callfile.proofs.law.program_makes_its_lines.Goals as goal

pub returns : goal.returns
returns c = makes_its_lines c.args.lines.now c.args.replies.now
