-- What no boot line changes: no entry is made, no slot is set by one, and no part is open.
use Rattle.std.proofs.Common.{◌≡◌, List, [], ◌∷◌, refl, fold}
use Rattle.gh_model.specs.declared.boot_line.BootLine.{BootLine}
use Rattle.gh_model.specs.declared.boot_line.BootLine.TheVariants.{Pages, Partition, Cspace}
use Rattle.gh_model.specs.declared.boot_line.BootLine.TheVariants.{Addrspace, Doorbell}
use Rattle.gh_model.specs.declared.boot_line.BootLine.TheVariants.{RootExtent, Extent, Msgqueue}
use Rattle.gh_model.specs.declared.boot_line.BootLine.TheVariants.{Map, Cap, Vm, Rm, Link}
use Rattle.gh_model.specs.declared.state.State.{State}
use Rattle.gh_model.specs.Boot.{boot_state, after_line, empty_state}

-- what no boot line changes
pub record IsFresh (s : State) : Type 0 where
  pub unset : s.set_at ≡ []
  pub none : s.entries ≡ 0
  pub empty : s.taken ≡ []

pub line_fresh : (s : State) (line : BootLine) → IsFresh s → IsFresh (after_line s line)
line_fresh s (Pages count) h = record { unset = h.unset; none = h.none; empty = h.empty }
line_fresh s (Partition quota) h = record { unset = h.unset; none = h.none; empty = h.empty }
line_fresh s (Cspace partition) h = record { unset = h.unset; none = h.none; empty = h.empty }
line_fresh s (Addrspace partition) h = record { unset = h.unset; none = h.none; empty = h.empty }
line_fresh s (Doorbell partition) h = record { unset = h.unset; none = h.none; empty = h.empty }
line_fresh s (RootExtent partition) h = record { unset = h.unset; none = h.none; empty = h.empty }
line_fresh s (Extent partition parent offset count access held_offset held_count) h = record { unset = h.unset; none = h.none; empty = h.empty }
line_fresh s (Msgqueue partition depth size) h = record { unset = h.unset; none = h.none; empty = h.empty }
line_fresh s (Map space extent base offset count access) h = record { unset = h.unset; none = h.none; empty = h.empty }
line_fresh s (Cap cspace slot object rights master) h = record { unset = h.unset; none = h.none; empty = h.empty }
line_fresh s (Vm cspace space) h = record { unset = h.unset; none = h.none; empty = h.empty }
line_fresh s (Rm cspace space partition) h = record { unset = h.unset; none = h.none; empty = h.empty }
line_fresh s (Link vm extent request reply) h = record { unset = h.unset; none = h.none; empty = h.empty }

pub lines_fresh : (s : State) (lines : List BootLine) → IsFresh s → IsFresh (fold after_line s lines)
lines_fresh s [] h = h
lines_fresh s (line ∷ lines) h = lines_fresh (after_line s line) lines (line_fresh s line h)

pub boot_fresh : (lines : List BootLine) → IsFresh (boot_state lines)
boot_fresh lines = lines_fresh empty_state lines (record { unset = refl; none = refl; empty = refl })
