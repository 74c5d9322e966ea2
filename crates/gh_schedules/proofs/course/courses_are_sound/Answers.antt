-- The law is the lemma.
use Rattle.gh_schedules.proofs.CourseRuns.{course_is, scheduled_is}
use Rattle.gh_schedules.proofs.course.courses_are_sound.Goals as goal

pub returns-clause-schedule : goal.returns-clause-schedule
returns-clause-schedule g c = λ boot programs schedule fits.
    scheduled_is g.P.Program.answer g.P.Program.after boot programs fits schedule

pub returns-clause-end : goal.returns-clause-end
returns-clause-end g c = λ boot programs schedule fits.
    course_is g.P.Program.answer g.P.Program.after boot programs fits schedule
