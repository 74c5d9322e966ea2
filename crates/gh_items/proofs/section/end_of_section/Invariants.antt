-- Each item begins in the configuration at hand.
use Rattle.gh_items.proofs.section.end_of_section.Given as goal

abbrev pub ghost-leave_ended : goal.ghost-leave_ended
ghost-leave_ended g a = g.conf
