-- What holds the objects that nobody refers to, where a call ends for want of units.
use Rattle.std.specs.Prelude.{◌≡◌, ◌≢◌, ◌||◌, ℕ, Bool, List, Option, Some, None, IsTrue, filter, map, is_some, slice_get}
use Rattle.gh_base.specs.Counters.{is_odd}
use Rattle.gh_base.specs.declared.ids.Serial.{Serial}
use Rattle.gh_base.specs.declared.mark.Held.{Held}
use Rattle.gh_base.specs.declared.mark.Held.TheVariants.{Pins, Reading}
use Rattle.gh_model.specs.References.{is_doomed}
use Rattle.gh_model.specs.Rows.{object_row}
use Rattle.gh_model.specs.Graced.{retirement}
use Rattle.gh_model.specs.declared.rows.ObjectRow.{ObjectRow}
use Rattle.gh_model.specs.declared.state.State.{State}

-- the object is retired, or has no references
abbrev pub is_held : State → ObjectRow → Bool
is_held s row = is_some row.retired || is_doomed s row.serial.0

-- the objects that are, by rising serial: the rows of a state stand so
abbrev pub held_rows : State → List ObjectRow
held_rows s = filter (is_held s) s.objects

abbrev pub serial_of_row : ObjectRow → Serial
serial_of_row row = row.serial

-- the object that a cause is of
abbrev pub serial_of : Held → Serial
serial_of (Pins serial pins) = serial
serial_of (Reading serial cpu counter) = serial

-- the cause fits the object's retirement, none where it isn't retired: calls have pins on one that
-- isn't; of one that is, a CPU still has its odd counter
abbrev pub Holds : Option (List ℕ) → Held → Type 0
Holds None (Pins serial pins) = pins ≢ 0
Holds None (Reading serial cpu counter) = ⊥
Holds (Some counters) (Pins serial pins) = ⊥
Holds (Some counters) (Reading serial cpu counter) =
    (slice_get counters cpu.0 ≡ Some counter) × IsTrue (is_odd counter)

-- the list names each of these objects once, by rising serial, with its cause
pub record AreHeld (s : State) (held : List Held) : Type 0 where
  pub names : map serial_of held ≡ map serial_of_row (held_rows s)
  pub causes : (i : ℕ) (cause : Held) → slice_get held i ≡ Some cause
      → Holds (retirement (object_row s (serial_of cause).0)) cause
