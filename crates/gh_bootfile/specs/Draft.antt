-- The lines of a boot file so far: which line may come next, and when they are a whole boot file.
use Rattle.std.specs.Prelude.{◌≡◌, ◌&&◌, ◌||◌, ◌++◌, ℕ, Bool}
use Rattle.std.specs.Prelude.{true, false, List, [], ◌∷◌, Option, Some}
use Rattle.std.specs.Prelude.{None, filter, nat_le, slice_index_or, slice_set}
use Rattle.gh_base.specs.declared.limits.TheConstants.{MACHINE_PAGES}
use Rattle.gh_model.specs.declared.boot_line.BootLine.{BootLine}
use Rattle.gh_model.specs.declared.boot_line.BootLine.TheVariants.{Pages, Partition, Cspace}
use Rattle.gh_model.specs.declared.boot_line.BootLine.TheVariants.{Addrspace, Doorbell}
use Rattle.gh_model.specs.declared.boot_line.BootLine.TheVariants.{RootExtent, Extent, Msgqueue}
use Rattle.gh_model.specs.declared.boot_line.BootLine.TheVariants.{Map, Cap, Vm, Rm, Link}
use Rattle.gh_model.specs.declared.rows.MappingRow.{MappingRow}
use Rattle.gh_model.specs.declared.state.State.{State}
use Rattle.gh_model.specs.Boot.{empty_state, after_line, boot_state}
use Rattle.gh_model.specs.Boot.{line_fits, lines_fit, is_complete, is_row_of}
use Rattle.gh_model.specs.Fitting.{IsFitting}
use Rattle.gh_bootfile.specs.declared.draft.Draft.{Draft}

-- the first line is that of 1 to 1,024 pages
abbrev pub first_fits : BootLine → Bool
first_fits (Pages count) = nat_le 1 count && nat_le count MACHINE_PAGES
first_fits _ = false

-- the line may come behind these lines
abbrev pub next_fits : List BootLine → BootLine → Bool
next_fits [] line = first_fits line
next_fits (first ∷ lines) line = line_fits (boot_state (first ∷ lines)) line

-- the lines are all that a boot file needs
abbrev pub is_whole : List BootLine → Bool
is_whole lines = is_complete (boot_state lines)

-- each line fits behind those before it
abbrev pub all_fit : List BootLine → Bool
all_fit [] = true
all_fit (first ∷ lines) = first_fits first && lines_fit (after_line empty_state first) lines

-- the line makes the pages, or fits in this state
abbrev pub may_make : State → BootLine → Bool
may_make s (Pages count) = true
may_make s line = line_fits s line

-- what a line is of, by which it is tested

-- an object but for an extent with a parent
abbrev pub is_object_line : BootLine → Bool
is_object_line (Partition quota) = true
is_object_line (Cspace partition) = true
is_object_line (Addrspace partition) = true
is_object_line (Doorbell partition) = true
is_object_line (RootExtent partition) = true
is_object_line (Msgqueue partition depth size) = true
is_object_line _ = false

-- an extent with a parent
abbrev pub is_extent_line : BootLine → Bool
is_extent_line (Extent partition parent offset count access held_offset held_count) = true
is_extent_line _ = false

-- a mapping
abbrev pub is_mapping_line : BootLine → Bool
is_mapping_line (Map space extent base offset count access) = true
is_mapping_line _ = false

-- a capability
abbrev pub is_capability_line : BootLine → Bool
is_capability_line (Cap cspace slot object rights master) = true
is_capability_line _ = false

-- a link
abbrev pub is_link_line : BootLine → Bool
is_link_line (Link vm extent request reply) = true
is_link_line _ = false

-- a CPU, or its link
abbrev pub is_cpu_line : BootLine → Bool
is_cpu_line (Vm cspace space) = true
is_cpu_line (Rm cspace space partition) = true
is_cpu_line line = is_link_line line

-- the line fits by the test of its kind
abbrev pub any_kind_fits : State → BootLine → Bool
any_kind_fits s line =
    (is_object_line line && line_fits s line) || (is_extent_line line && line_fits s line)
    || (is_mapping_line line && line_fits s line) || (is_capability_line line && line_fits s line)
    || (is_cpu_line line && line_fits s line)

-- the draft of the lines

-- the mappings of an address space in a table by serials
abbrev pub mappings_at : List (List MappingRow) → ℕ → List MappingRow
mappings_at table space = slice_index_or table space []

-- the table has the mappings of each address space
abbrev pub HasMappings : List (List MappingRow) → List MappingRow → Type 0
HasMappings table mappings =
    (space : ℕ) → mappings_at table space ≡ filter (is_row_of space) mappings

-- the row behind the others of its address space
abbrev pub with_row : List (List MappingRow) → MappingRow → List (List MappingRow)
with_row table row = slice_set table row.space.0 (mappings_at table row.space.0 ++ row ∷ [])

-- a mapping more, if one was made
abbrev pub with_made : List MappingRow → Option MappingRow → List MappingRow
with_made mappings None = mappings
with_made mappings (Some row) = mappings ++ row ∷ []

-- the lines fit, and beside them stands what they make
pub record IsDraft (draft : Draft) : Type 0 where
  pub fit : all_fit draft.lines ≡ true
  pub state_is : draft.state ≡ boot_state draft.lines
  pub fitting : IsFitting draft.state
  pub mapped : HasMappings draft.mappings draft.state.mappings
