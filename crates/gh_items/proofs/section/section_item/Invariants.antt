-- The item of the call begins where this one does.
use Rattle.gh_items.proofs.section.section_item.Given as goal

abbrev pub ghost-go_on : goal.ghost-go_on
ghost-go_on g a = g.from
