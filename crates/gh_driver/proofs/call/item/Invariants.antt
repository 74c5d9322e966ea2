-- The item is that of the course's configuration.
use Rattle.gh_driver.proofs.call.item.Given as goal

abbrev pub ghost-next_item : goal.ghost-next_item
ghost-next_item g a = g.course.conf
