-- What is counted of the live objects as callers see it: by index, their references and whether
-- they are retired.
use Rattle.std.specs.Prelude.{◌==◌, ◌&&◌, ◌+◌, ◌-◌, ℕ, Bool, false}
use Rattle.std.specs.Prelude.{not, true, List, Option, Some, None, filter_map}
use Rattle.std.specs.Prelude.{replicate, slice_index_or, slice_set, if◌then◌else◌}
use Rattle.std.specs.Option.{option_map, option_map_or}
use Rattle.gh_base.specs.declared.ids.Serial.{Serial}
use Rattle.gh_base.specs.declared.limits.TheConstants.{OBJECT_INDICES}
use Rattle.gh_objects.specs.declared.count.Count.{Count}
use Rattle.gh_objects.specs.Serials.{rising}

-- nothing is counted where no object lives
abbrev pub no_counts : List (Option Count)
no_counts = replicate OBJECT_INDICES None

-- the count at an index
abbrev pub count_at : List (Option Count) → ℕ → Option Count
count_at counts index = slice_index_or counts index None

-- that of an object that was made just now
abbrev pub new_count : Serial → Count
new_count serial = record { serial = serial; references = 0; retired = false }

-- the counts with that of an index changed
abbrev pub count_changed : (Count → Count) → List (Option Count) → ℕ → List (Option Count)
count_changed change counts index =
    slice_set counts index (option_map change (count_at counts index))

-- a count with one reference more
abbrev pub with_reference : Count → Count
with_reference c = record c { references = c.references + 1 }

-- a count with one reference less
abbrev pub without_reference : Count → Count
without_reference c = record c { references = c.references - 1 }

-- that of an object that is retired
abbrev pub as_retired : Count → Count
as_retired c = record c { retired = true }

-- an object is doomed where it has no references
abbrev pub is_doomed : Option Count → Bool
is_doomed count = option_map_or (λ c. c.references == 0) count false

-- the serial of an object that is doomed and not retired
abbrev pub doomed_serial : Option Count → Option Serial
doomed_serial None = None
doomed_serial (Some c) = if (c.references == 0) && not c.retired then Some c.serial else None

-- the serial of a retired object
abbrev pub retired_serial : Option Count → Option Serial
retired_serial None = None
retired_serial (Some c) = if c.retired then Some c.serial else None

-- the serials of the doomed objects that aren't retired, rising
abbrev pub doomed : List (Option Count) → List Serial
doomed counts = rising (filter_map doomed_serial counts)

-- the serials of the retired objects, rising
abbrev pub retired : List (Option Count) → List Serial
retired counts = rising (filter_map retired_serial counts)
