-- It is that of the configuration at hand.
use Rattle.gh_items.proofs.causes.cause.Given as goal

abbrev pub ghost-held_by : goal.ghost-held_by
ghost-held_by g a = g.conf
