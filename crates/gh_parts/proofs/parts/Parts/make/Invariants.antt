-- Each change is made of the rows that the parts stand for.
use Rattle.gh_parts.proofs.parts.Parts.make.Given as goal

abbrev pub ghost-add_object : goal.ghost-add_object
ghost-add_object g a = g.s

abbrev pub ghost-add_partition : goal.ghost-add_partition
ghost-add_partition g a = g.s

abbrev pub ghost-add_root : goal.ghost-add_root
ghost-add_root g a = g.s

abbrev pub ghost-add_extent : goal.ghost-add_extent
ghost-add_extent g a = g.s

abbrev pub ghost-put_mapping : goal.ghost-put_mapping
ghost-put_mapping g a = g.s

abbrev pub ghost-set_room : goal.ghost-set_room
ghost-set_room g a = g.s

abbrev pub ghost-configure_queue : goal.ghost-configure_queue
ghost-configure_queue g a = g.s

abbrev pub ghost-add_cpu : goal.ghost-add_cpu
ghost-add_cpu g a = g.s

abbrev pub ghost-add_link : goal.ghost-add_link
ghost-add_link g a = g.s

abbrev pub ghost-make_free : goal.ghost-make_free
ghost-make_free g a = g.s
