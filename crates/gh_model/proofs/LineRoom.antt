-- A boot line's changes set no slot by an entry, ring no bell and give one serial at most, so that a
-- state that fits has room for them.
use Rattle.std.proofs.Common.{◌≡◌, ◌+◌, ◌<◌, ◌≤◌, ◌^◌, ◌∙◌, List, refl, ap, arith, sum_by}
use Rattle.gh_model.specs.declared.boot_line.BootLine.{BootLine}
use Rattle.gh_model.specs.declared.boot_line.BootLine.TheVariants.{Pages, Partition, Cspace, Addrspace, Doorbell, RootExtent, Extent, Msgqueue, Map, Cap, Vm, Rm, Link}
use Rattle.gh_model.specs.declared.change.Change.{Change}
use Rattle.gh_model.specs.declared.state.State.{State}
use Rattle.gh_model.specs.Boot.{changes_of_line}
use Rattle.gh_model.specs.Fitting.{IsFitting}
use Rattle.gh_model.specs.Room.{HasRoom, new_rings, new_serials, new_settings}
use Rattle.gh_model.proofs.FittingLemmas.{few_serials}

-- what the changes count
record CountsFew (changes : List Change) : Type 0 where
  settings : sum_by new_settings changes ≡ 0
  serials : sum_by new_serials changes ≤ 1
  rings : sum_by new_rings changes ≡ 0

line_counts : (s : State) (line : BootLine) → CountsFew (changes_of_line s line)
line_counts s (Pages count) = record { settings = refl; serials = omega arith; rings = refl }
line_counts s (Partition quota) = record { settings = refl; serials = omega arith; rings = refl }
line_counts s (Cspace partition) = record { settings = refl; serials = omega arith; rings = refl }
line_counts s (Addrspace partition) = record { settings = refl; serials = omega arith; rings = refl }
line_counts s (Doorbell partition) = record { settings = refl; serials = omega arith; rings = refl }
line_counts s (RootExtent partition) = record { settings = refl; serials = omega arith; rings = refl }
line_counts s (Extent partition parent offset count access held_offset held_count) =
    record { settings = refl; serials = omega arith; rings = refl }
line_counts s (Msgqueue partition depth size) = record { settings = refl; serials = omega arith; rings = refl }
line_counts s (Map space extent base offset count access) = record { settings = refl; serials = omega arith; rings = refl }
line_counts s (Cap cspace slot object rights master) = record { settings = refl; serials = omega arith; rings = refl }
line_counts s (Vm cspace space) = record { settings = refl; serials = omega arith; rings = refl }
line_counts s (Rm cspace space partition) = record { settings = refl; serials = omega arith; rings = refl }
line_counts s (Link vm extent request reply) = record { settings = refl; serials = omega arith; rings = refl }

-- the same of changes that are a line's

pub line_settings : (s : State) (line : BootLine) (changes : List Change) → changes ≡ changes_of_line s line
    → sum_by new_settings changes ≡ 0
line_settings s line changes is = ap (sum_by new_settings) is ∙ (line_counts s line).settings

pub line_rings : (s : State) (line : BootLine) (changes : List Change) → changes ≡ changes_of_line s line
    → sum_by new_rings changes ≡ 0
line_rings s line changes is = ap (sum_by new_rings) is ∙ (line_counts s line).rings

pub line_serials : (s : State) (line : BootLine) (changes : List Change) → IsFitting s → changes ≡ changes_of_line s line
    → s.next_serial + sum_by new_serials changes < 2 ^ 32
line_serials s line changes h is =
    omega (arith, ap (sum_by new_serials) is, (line_counts s line).serials, few_serials s h)

-- and there is room for such changes in any state
pub unnumbered_room : (s : State) (changes : List Change) → sum_by new_settings changes ≡ 0
    → s.next_serial + sum_by new_serials changes < 2 ^ 32 → sum_by new_rings changes ≡ 0 → HasRoom s changes
unnumbered_room s changes settings serials unrung = record {
  entries = omega (arith, settings);
  serials = serials;
  rings = omega (arith, unrung);
}
