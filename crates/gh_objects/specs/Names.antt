-- How the serials of the live objects are found: a rising list of names, each a serial above the
-- index of its object. No public clause cites this module.
use Rattle.std.specs.Prelude.{◌≡◌, ◌==◌, ℕ, ◌+◌, ◌*◌, ◌/◌}
use Rattle.std.specs.Prelude.{◌%◌, ◌≤◌, Bool, false, List, Option, Some, None}
use Rattle.std.specs.Prelude.{length, is_some, count_by, nat_eq, if◌then◌else◌}
use Rattle.std.specs.List.Sorted.{IsNonDecreasingBy}
use Rattle.std.specs.Option.{option_map, option_map_or, option_to_list}
use Rattle.gh_base.specs.declared.limits.TheConstants.{OBJECT_INDICES}
use Rattle.gh_objects.specs.declared.header.Header.{Header}
use Rattle.gh_objects.specs.declared.names.TheConstants.{INDEX_VALUES}
use Rattle.gh_objects.specs.Headers.{header_at, has_serial}

-- the number that a list of numbers is ordered by
abbrev pub itself : ℕ → ℕ
itself name = name

-- the name of the object with this serial at this index
abbrev pub name_of : ℕ → ℕ → ℕ
name_of serial index = serial * INDEX_VALUES + index

-- the name of the object with this header at this index, if there is one
abbrev pub name_at : ℕ → Option Header → Option ℕ
name_at index header = option_map (λ h. name_of h.serial.0 index) header

-- the index in a name, if there is one and it has this serial
abbrev pub index_in : ℕ → Option ℕ → Option ℕ
index_in serial None = None
index_in serial (Some name) =
    if name / INDEX_VALUES == serial then Some (name % INDEX_VALUES) else None

-- the header at the index in a name has the serial in it
abbrev pub is_live : List (Option Header) → ℕ → Bool
is_live headers name = has_serial (name / INDEX_VALUES) (header_at headers (name % INDEX_VALUES))

-- how often a name stands in a list
abbrev pub times : List ℕ → ℕ → ℕ
times names name = count_by (nat_eq name) names

-- once or never
abbrev pub once_if : Bool → ℕ
once_if lives = if lives then 1 else 0

-- this is the name, if there is one
abbrev pub is_name : Option ℕ → ℕ → Bool
is_name name other = option_map_or (nat_eq other) name false

-- the one list has the old name where the other has the new one, and both have all else as often
pub record Renames (old new : Option ℕ) (before after : List ℕ) : Type 0 where
  pub each :
      (other : ℕ)
      → times after other + once_if (is_name old other)
      ≡ times before other + once_if (is_name new other)
  pub len :
      length after + length (option_to_list old) ≡ length before + length (option_to_list new)

-- the names of live objects stand in the list once each, and no others do
pub record AreNamed (headers : List (Option Header)) (names : List ℕ) : Type 0 where
  pub each : (name : ℕ) → times names name ≡ once_if (is_live headers name)
  pub as_many : length names ≡ count_by is_some headers

-- the names rise, and where they lie there is room for one of each index
pub record NamesRise (names : List ℕ) (capacity : ℕ) : Type 0 where
  pub order : IsNonDecreasingBy itself names
  pub room : OBJECT_INDICES ≤ capacity
