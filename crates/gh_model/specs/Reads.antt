-- What is read of a state at once.
use Rattle.std.specs.Prelude.{◌&&◌, ◌-◌, ℕ, Bool, List, Option, Some}
use Rattle.std.specs.Prelude.{None, not, is_some, find, if◌then◌else◌}
use Rattle.gh_base.specs.declared.ids.Serial.{Serial}
use Rattle.gh_base.specs.declared.kind.Kind.TheVariants as kind
use Rattle.gh_model.specs.declared.rows.CapabilityRow.{CapabilityRow}
use Rattle.gh_model.specs.declared.state.State.{State}
use Rattle.gh_model.specs.declared.word.Word.{Word}
use Rattle.gh_model.specs.Boot.{is_kind, cpu_cspace}
use Rattle.gh_model.specs.Graced.{retirement}
use Rattle.gh_model.specs.References.{is_doomed}
use Rattle.gh_model.specs.Rows.{object_row, fills}
use Rattle.gh_model.specs.Units.{used_units, free_units, given_units}
use Rattle.gh_model.specs.Word.{word_at}

-- the greatest serial given so far
abbrev pub last_serial : State → ℕ
last_serial s = s.next_serial - 1

-- the used, free and given units of a live partition
abbrev pub partition_units : State → ℕ → Option (ℕ × ℕ × ℕ)
partition_units s serial =
    if is_kind s serial kind.Partition
    then Some (used_units s serial, free_units s serial, given_units s serial)
    else None

-- the word that a CPU's look at a capability number finds now
abbrev pub look_word : State → ℕ → ℕ → Word
look_word s cpu slot = word_at s (cpu_cspace s.cpus cpu) slot

-- the object of a valid capability without master mark
abbrev pub plain_object : Option CapabilityRow → Option Serial
plain_object None = None
plain_object (Some row) = if row.valid && not row.master then Some row.serial else None

-- the object that a slot grants, if it has a capability
abbrev pub plain_cap : State → ℕ → ℕ → Option Serial
plain_cap s cspace slot = plain_object (find (fills cspace slot) s.caps)

-- the object is there and nothing refers to it
abbrev pub is_doomed_object : State → ℕ → Bool
is_doomed_object s serial = is_some (object_row s serial) && is_doomed s serial

-- the counters of a retired object's retirement
abbrev pub retired_counters : State → ℕ → Option (List ℕ)
retired_counters s serial = retirement (object_row s serial)
