use Rattle.gh_parts.proofs.parts.Parts.configure_queue.Given as goal

abbrev pub ghost-set_room : goal.ghost-set_room
ghost-set_room g a = g.s
