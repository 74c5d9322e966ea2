-- The rows are those that the parts stand for.
use Rattle.gh_parts.proofs.parts.Parts.new_queue.Given as goal

abbrev pub ghost-boot_object : goal.ghost-boot_object
ghost-boot_object g a = g.s
