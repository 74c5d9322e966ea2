-- The call begins in the course's configuration.
use Rattle.gh_driver.proofs.call.begin.Given as goal

abbrev pub ghost-begin_call : goal.ghost-begin_call
ghost-begin_call g a = g.course.conf
