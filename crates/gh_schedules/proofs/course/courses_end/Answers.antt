-- The law is the lemma.
use Rattle.gh_schedules.proofs.CourseRuns.{exits_last, rest}
use Rattle.gh_schedules.proofs.course.courses_end.Goals as goal

pub returns-clause-rest : goal.returns-clause-rest
returns-clause-rest g c = λ boot programs schedule fits.
    rest g.P.Program.answer g.P.Program.after boot programs fits schedule

pub returns-clause-exits : goal.returns-clause-exits
returns-clause-exits g c = λ boot programs schedule cpu fits there.
    exits_last g.P.Program.answer g.P.Program.after boot programs fits schedule cpu there
