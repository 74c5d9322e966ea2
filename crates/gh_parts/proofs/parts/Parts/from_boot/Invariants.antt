-- The parts stand for the lines so far, and can make those that are left.
use Rattle.std.proofs.Common.{drop, fold, take}
use Rattle.gh_model.specs.Boot.{after_line, empty_state}
use Rattle.gh_parts.specs.BootLines.{CanAddAll}
use Rattle.gh_parts.proofs.parts.Parts.from_boot.Given as goal

abbrev pub ghost-add_line_at : goal.ghost-add_line_at
ghost-add_line_at a = fold after_line empty_state (take a.at a.lines.now)

abbrev pub invariant-loop-at : goal.invariant-loop-at
invariant-loop-at l = CanAddAll l.parts (fold after_line empty_state (take l.at l.lines)) (drop l.at l.lines)
