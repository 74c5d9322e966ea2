-- Both items begin where this one does.
use Rattle.gh_items.proofs.section.read.Given as goal

abbrev pub ghost-look : goal.ghost-look
ghost-look g a = g.from

abbrev pub ghost-leave : goal.ghost-leave
ghost-leave g a = g.from
