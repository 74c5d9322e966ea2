-- The item is that of the course's configuration, and a call begins there.
use Rattle.gh_driver.proofs.call.advance_program.Given as goal

abbrev pub ghost-next_item : goal.ghost-next_item
ghost-next_item g a = g.course.conf

abbrev pub ghost-begin : goal.ghost-begin
ghost-begin g a = g.course
