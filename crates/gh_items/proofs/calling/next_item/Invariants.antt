-- The item begins in the configuration and the progress at hand.
use Rattle.gh_items.proofs.calling.next_item.Given as goal

abbrev pub ghost-section_item : goal.ghost-section_item
ghost-section_item g a = record { conf = g.conf; progress = a.progress.now; at = a.cpu.0 }

abbrev pub ghost-last_item : goal.ghost-last_item
ghost-last_item g a = g.conf
