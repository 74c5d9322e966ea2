-- When a line of a boot file can be made of the parts: it comes next behind the lines that they
-- stand for.
use Rattle.std.specs.Prelude.{◌+◌, ◌≤◌, ⊤, List, [], ◌∷◌, length, IsTrue}
use Rattle.gh_base.specs.declared.limits.TheConstants.{MACHINE_PAGES}
use Rattle.gh_invariant.specs.BootChanges.{changes_of_lines}
use Rattle.gh_invariant.specs.Premises.{Together}
use Rattle.gh_model.specs.Boot.{after_line, changes_of_line, first_page, line_fits}
use Rattle.gh_model.specs.Fitting.{IsFitting}
use Rattle.gh_model.specs.declared.boot_line.BootLine.{BootLine}
use Rattle.gh_model.specs.declared.boot_line.BootLine.TheVariants.{Pages}
use Rattle.gh_model.specs.declared.state.State.{State}
use Rattle.gh_parts.specs.MakingAll.{CanMakeAll}
use Rattle.gh_parts.specs.declared.extent_lines.Child.{Child}
use Rattle.gh_parts.specs.declared.parts.Parts.{Parts}

-- the line of pages fits the state of nothing, and each other one where its conditions are met
abbrev pub FitsNext : State → BootLine → Type 0
FitsNext s (Pages count) = ⊤
FitsNext s line = IsTrue (line_fits s line)

-- the line may come next
pub record ComesNext (s : State) (line : BootLine) : Type 0 where
  pub fits : FitsNext s line
  pub fitting : IsFitting s

abbrev pub ComeNext : State → List BootLine → Type 0
ComeNext s [] = ⊤
ComeNext s (line ∷ lines) = Together (ComesNext s line) (ComeNext (after_line s line) lines)

-- the parts can make the line
pub record CanAdd (parts : Parts) (s : State) (line : BootLine) : Type 0 where
  pub next : ComesNext s line
  pub can : CanMakeAll parts s (changes_of_line s line)

-- and lines in their order
pub record CanAddAll (parts : Parts) (s : State) (lines : List BootLine) : Type 0 where
  pub next : ComeNext s lines
  pub can : CanMakeAll parts s (changes_of_lines s lines)

-- the extent of a line lies in the machine, which has few pages, and the pages that its parent
-- hands over lie in its span
pub record IsChild (s : State) (new : Child) : Type 0 where
  pub pages : length s.holders ≤ MACHINE_PAGES
  pub span : first_page s new.parent.0 + new.offset + new.count ≤ length s.holders
  pub held : new.held_offset + new.held_count ≤ new.count
