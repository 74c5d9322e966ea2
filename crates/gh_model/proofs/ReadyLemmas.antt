-- What is found of an object once it came to its next stage, and that units in use are as before.
use Rattle.std.proofs.Common.{◌≡◌, ◌≤◌, ◌∙◌, ℕ, refl, ap, arith, Some, option_map}
use Rattle.gh_base.specs.declared.ids.Serial.{Serial}
use Rattle.gh_base.specs.declared.kind.Stage.{Stage}
use Rattle.gh_model.specs.Changes.{set_stage, with_stage}
use Rattle.gh_model.specs.Rows.{is_object, object_row}
use Rattle.gh_model.specs.Units.{used_units}
use Rattle.gh_model.specs.declared.rows.ObjectRow.{ObjectRow}
use Rattle.gh_model.specs.declared.state.State.{State}
use Rattle.gh_model.proofs.ChangedRows.{find_changed}
use Rattle.gh_model.proofs.SumLemmas.{used_change}

-- the object is found in its next stage
pub staged_row : (s : State) (object : Serial) (stage : Stage) (row : ObjectRow) → object_row s object.0 ≡ Some row
    → object_row (set_stage object stage s) object.0 ≡ Some (with_stage stage row)
staged_row s object stage row found =
    find_changed (is_object object.0) (with_stage stage) s.objects (λ one. refl) ∙ ap (option_map (with_stage stage)) found

-- no partition uses more units
pub staged_units : (s : State) (object : Serial) (stage : Stage) (partition : ℕ)
    → used_units (set_stage object stage s) partition ≤ used_units s partition
staged_units s object stage partition =
    omega (arith, used_change (is_object object.0) (with_stage stage) s.objects partition 0 (λ row found. omega arith))
