-- The configuration before any event shows the words of the boot.
use Rattle.std.proofs.Common.{◌≡◌, ◌<◌, ℕ, Bool, true, false, List, [], ◌∷◌, ◌++◌, refl, ap, arith, IsTrue, Option, Some, None, fold, find, is_some}
use Rattle.std.specs.List.{list_all}
use Rattle.std.specs.Option.{option_map_or}
use Rattle.gh_base.specs.CapWord.{settings}
use Rattle.gh_base.specs.declared.limits.TheConstants.{OBJECT_INDICES}
use Rattle.gh_invariant.specs.Lives.{lives}
use Rattle.gh_invariant.specs.NamesLiving.{NamesLiving, SpacesLive}
use Rattle.gh_base.specs.declared.kind.Kind.TheVariants as kind
use Rattle.gh_invariant.proofs.BootValid.{boot_valid}
use Rattle.gh_invariant.proofs.CapabilityMade.{word_found}
use Rattle.gh_invariant.proofs.Counting.{all_push, found_all, unfound}
use Rattle.gh_invariant.proofs.FactLemmas.{names_living, spaces_live}
use Rattle.gh_model.specs.Boot.{after_line, boot_fits, boot_state, empty_state}
use Rattle.gh_model.specs.Rows.{cpu_row, fills, is_object}
use Rattle.gh_model.specs.Word.{word_at}
use Rattle.gh_model.specs.declared.boot_line.BootLine.{BootLine}
use Rattle.gh_model.specs.declared.boot_line.BootLine.TheVariants.{Pages, Partition, Cspace, Addrspace, Doorbell, RootExtent, Extent, Msgqueue, Map, Cap, Vm, Rm, Link}
use Rattle.gh_model.specs.declared.rows.CapabilityRow.{CapabilityRow}
use Rattle.gh_model.specs.declared.rows.CpuRow.{CpuRow}
use Rattle.gh_model.specs.declared.rows.ObjectRow.{ObjectRow}
use Rattle.gh_model.specs.declared.state.State.{State}
use Rattle.gh_events.specs.Config.{object_at}
use Rattle.gh_events.specs.Entries.{row_shown, shown}
use Rattle.gh_events.specs.Start.{AreIndices, serial_at, start}
use Rattle.gh_events.specs.Words.{ShowsSlot, ShowsWords}
use Rattle.gh_events.proofs.EntryMoves.{lives_there, there_index, there_lives}
use Rattle.gh_events.proofs.LookKeeps.{set_within}
use Rattle.gh_events.proofs.WordsFollow.{Fills, filled_lives, lives_any}

-- the capabilities of the boot are valid, and no entry is counted yet

abbrev is_good : CapabilityRow → Bool
is_good row = row.valid

record IsUnused (s : State) : Type 0 where
  good : IsTrue (list_all is_good s.caps)
  none : s.entries ≡ 0

line_unused : (s : State) (line : BootLine) → IsUnused s → IsUnused (after_line s line)
line_unused s (Pages count) unused = record { good = unused.good; none = unused.none }
line_unused s (Partition quota) unused = record { good = unused.good; none = unused.none }
line_unused s (Cspace partition) unused = record { good = unused.good; none = unused.none }
line_unused s (Addrspace partition) unused = record { good = unused.good; none = unused.none }
line_unused s (Doorbell partition) unused = record { good = unused.good; none = unused.none }
line_unused s (RootExtent partition) unused = record { good = unused.good; none = unused.none }
line_unused s (Extent partition parent offset count access held_offset held_count) unused =
    record { good = unused.good; none = unused.none }
line_unused s (Msgqueue partition depth size) unused =
    record { good = unused.good; none = unused.none }
line_unused s (Map space extent base offset count access) unused =
    record { good = unused.good; none = unused.none }
line_unused s (Cap cspace slot object rights master) unused =
    record { good = all_push is_good s.caps _ unused.good refl; none = unused.none }
line_unused s (Vm cspace space) unused = record { good = unused.good; none = unused.none }
line_unused s (Rm cspace space partition) unused =
    record { good = all_push is_good s.caps _ unused.good refl; none = unused.none }
line_unused s (Link vm extent request reply) unused =
    record {
      good = all_push is_good (s.caps ++ _ ∷ []) _ (all_push is_good s.caps _ unused.good refl) refl;
      none = unused.none;
    }

lines_unused : (s : State) (lines : List BootLine) → IsUnused s → IsUnused (fold after_line s lines)
lines_unused s [] unused = unused
lines_unused s (line ∷ lines) unused =
    lines_unused (after_line s line) lines (line_unused s line unused)

file_unused : (lines : List BootLine) → IsUnused (boot_state lines)
file_unused lines = lines_unused empty_state lines (record { good = refl; none = refl })

module _ (lines : List BootLine) (index : ℕ → ℕ) (fits : IsTrue (boot_fits lines))
    (indices : AreIndices (boot_state lines) index) where
  -- what lives at the index of an object is that object
  found_by : (cspace : ℕ) (found : Option ObjectRow) → lives (boot_state lines).objects cspace ≡ true
      → object_at (boot_state lines) index (index cspace) ≡ found → is_some found ≡ true
      → option_map_or (λ (row : ObjectRow). row.serial.0) found 0 ≡ cspace
  found_by cspace None alive is some = absurd (let never : ⊥ = cc in never)
  found_by cspace (Some row) alive is some =
      indices.unique row.serial.0 cspace (there_lives (boot_state lines) index (index cspace) row is) alive (there_index (boot_state lines) index (index cspace) row is)

  same_there : (cspace : ℕ) → lives (boot_state lines).objects cspace ≡ true
      → serial_at (boot_state lines) index (index cspace) ≡ cspace
  same_there cspace alive =
      found_by cspace (object_at (boot_state lines) index (index cspace)) alive refl (lives_there (boot_state lines) index cspace alive)

  alive_shows : (cspace slot : ℕ) → lives (boot_state lines).objects cspace ≡ true
      → ShowsSlot (start (boot_state lines) index) cspace slot
  alive_shows cspace slot alive =
      ap (λ (n : ℕ). shown index (word_at (boot_state lines) n slot)) (same_there cspace alive)

  attached_shows : (cpu slot : ℕ) (row : CpuRow) → cpu_row (boot_state lines) cpu ≡ Some row
      → row.exited ≡ false → ShowsSlot (start (boot_state lines) index) row.cspace.0 slot
  attached_shows cpu slot row is runs =
      let living : SpacesLive (boot_state lines) row = spaces_live (boot_state lines) (boot_valid lines fits) cpu row is runs in
      alive_shows row.cspace.0 slot (lives_any (boot_state lines).objects row.cspace.0 kind.Cspace living.cspace)

  -- an empty slot's word is its setting
  small_by : (cspace slot : ℕ) → (word_at (boot_state lines) cspace slot).row ≡ None
      → shown index (word_at (boot_state lines) cspace slot) < settings
  small_by cspace slot none =
      let number : shown index (word_at (boot_state lines) cspace slot) ≡ (word_at (boot_state lines) cspace slot).set_at = ap (row_shown index (word_at (boot_state lines) cspace slot).set_at) none in
      omega (arith, number, set_within (boot_state lines) (boot_valid lines fits) cspace slot, (file_unused lines).none)

  unfilled_by : (cspace slot : ℕ) (found : Option CapabilityRow)
      → (word_at (boot_state lines) cspace slot).row ≡ found
      → lives (boot_state lines).objects cspace ≡ false
      → (word_at (boot_state lines) cspace slot).row ≡ None
  unfilled_by cspace slot None is dead = is
  unfilled_by cspace slot (Some row) is dead =
      let alive : lives (boot_state lines).objects cspace ≡ true = filled_lives (boot_state lines) (boot_valid lines fits) cspace slot row is in
      absurd (let never : ⊥ = cc in never)

  no_zero : lives (boot_state lines).objects 0 ≡ true → ⊥
  no_zero alive =
      let none : find (is_object 0) (boot_state lines).objects ≡ None = unfound (is_object 0) (boot_state lines).objects (boot_valid lines fits).objects.none in
      let dead : lives (boot_state lines).objects 0 ≡ false = ap (λ (found : Option ObjectRow). is_some found) none in
      let never : ⊥ = cc in never

  none_zero : lives (boot_state lines).objects 0 ≡ false
  none_zero = zero_dead (lives (boot_state lines).objects 0) refl
    where
      zero_dead : (alive : Bool) → lives (boot_state lines).objects 0 ≡ alive → alive ≡ false
      zero_dead false is = refl
      zero_dead true is = absurd (no_zero is)

  empty_by : (at slot : ℕ) (found : Option ObjectRow)
      → object_at (boot_state lines) index at ≡ found
      → ((cspace : ℕ) → index cspace ≡ at → (word_at (boot_state lines) cspace slot).row ≡ None)
      → shown index (word_at (boot_state lines) (option_map_or (λ (row : ObjectRow). row.serial.0) found 0) slot) < settings
  empty_by at slot None is none =
      small_by 0 slot (unfilled_by 0 slot (word_at (boot_state lines) 0 slot).row refl none_zero)
  empty_by at slot (Some row) is none =
      small_by row.serial.0 slot (none row.serial.0 (there_index (boot_state lines) index at row is))

  filled_within : (cspace slot : ℕ) (row : CapabilityRow) → Fills (boot_state lines) cspace slot row
      → index row.serial.0 < OBJECT_INDICES
  filled_within cspace slot row is =
      let found : find (fills cspace slot) (boot_state lines).caps ≡ Some row = word_found (boot_state lines) cspace slot row is in
      let good : row.valid ≡ true = found_all (fills cspace slot) is_good (boot_state lines).caps row (file_unused lines).good found in
      let living : NamesLiving (boot_state lines) row = names_living (boot_state lines) (boot_valid lines fits) cspace slot row found good in
      indices.within row.serial.0 (lives_any (boot_state lines).objects row.serial.0 row.kind living.object)

  -- before any event the words are those of the boot
  pub start_shows : ShowsWords (start (boot_state lines) index)
  start_shows = record {
    filled = λ cspace slot row is. alive_shows cspace slot (filled_lives (boot_state lines) (boot_valid lines fits) cspace slot row is);
    attached = attached_shows;
    empty = λ at slot none. empty_by at slot (object_at (boot_state lines) index at) refl none;
    within = filled_within;
  }
