-- The law is the lemma.
use Rattle.gh_schedules.proofs.CourseRuns.{course_is_run}
use Rattle.gh_schedules.proofs.course.courses_are_runs.Goals as goal

pub returns : goal.returns
returns g c = λ boot programs schedule fits none.
    course_is_run g.P.Program.answer g.P.Program.after boot programs fits schedule
