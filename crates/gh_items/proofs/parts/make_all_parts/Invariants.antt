-- They begin in the configuration at hand.
use Rattle.gh_items.proofs.parts.make_all_parts.Given as goal

abbrev pub ghost-make_parts : goal.ghost-make_parts
ghost-make_parts g a = g.conf
