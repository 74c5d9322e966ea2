-- Each change is made of the rows that the parts stand for.
use Rattle.gh_parts.proofs.parts.Parts.make_free.Given as goal

abbrev pub ghost-put_capability : goal.ghost-put_capability
ghost-put_capability g a = g.s

abbrev pub ghost-drop_capability : goal.ghost-drop_capability
ghost-drop_capability g a = g.s

abbrev pub ghost-revoke_capability : goal.ghost-revoke_capability
ghost-revoke_capability g a = g.s

abbrev pub ghost-fill_slot : goal.ghost-fill_slot
ghost-fill_slot g a = g.s

abbrev pub ghost-set_stage : goal.ghost-set_stage
ghost-set_stage g a = g.s

abbrev pub ghost-retire : goal.ghost-retire
ghost-retire g a = g.s

abbrev pub ghost-reclaim : goal.ghost-reclaim
ghost-reclaim g a = g.s

abbrev pub ghost-give_quota : goal.ghost-give_quota
ghost-give_quota g a = g.s

abbrev pub ghost-set_pages : goal.ghost-set_pages
ghost-set_pages g a = g.s

abbrev pub ghost-move_pages : goal.ghost-move_pages
ghost-move_pages g a = g.s

abbrev pub ghost-drop_mapping : goal.ghost-drop_mapping
ghost-drop_mapping g a = g.s

abbrev pub ghost-set_bell : goal.ghost-set_bell
ghost-set_bell g a = g.s

abbrev pub ghost-put_message : goal.ghost-put_message
ghost-put_message g a = g.s

abbrev pub ghost-drop_message : goal.ghost-drop_message
ghost-drop_message g a = g.s

abbrev pub ghost-empty_queue : goal.ghost-empty_queue
ghost-empty_queue g a = g.s

abbrev pub ghost-exit : goal.ghost-exit
ghost-exit g a = g.s

abbrev pub ghost-ring : goal.ghost-ring
ghost-ring g a = g.s
