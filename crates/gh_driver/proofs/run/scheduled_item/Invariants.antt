-- The item's CPU is advanced from the course.
use Rattle.gh_driver.proofs.run.scheduled_item.Given as goal

abbrev pub ghost-advance : goal.ghost-advance
ghost-advance g a = g.course
