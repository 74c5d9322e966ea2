-- The item goes on from the course.
use Rattle.gh_driver.proofs.call.advance.Given as goal

abbrev pub ghost-advance_program : goal.ghost-advance_program
ghost-advance_program g a = g.course
