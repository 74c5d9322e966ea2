-- What callers use of a valid state: what a capability, a CPU and a link name.
use Rattle.std.specs.Prelude.{◌≡◌, ◌<◌, ℕ, false, List, Option, IsTrue, find, option_map}
use Rattle.gh_base.specs.declared.kind.Kind.{Kind}
use Rattle.gh_base.specs.declared.kind.Kind.TheVariants as kind
use Rattle.gh_model.specs.History.{is_retired}
use Rattle.gh_model.specs.References.{references}
use Rattle.gh_model.specs.Rows.{is_cpu, is_object, object_row}
use Rattle.gh_model.specs.declared.rows.CapabilityRow.{CapabilityRow}
use Rattle.gh_model.specs.declared.rows.CpuRow.{CpuRow}
use Rattle.gh_model.specs.declared.rows.LinkRow.{LinkRow}
use Rattle.gh_model.specs.declared.rows.ObjectRow.{ObjectRow}
use Rattle.gh_model.specs.declared.state.State.{State}
use Rattle.gh_invariant.specs.Lives.{lives_as, space_lives}

-- a valid capability's object lives, is of its kind, has a reference and isn't retired; its
-- capability space lives
pub record NamesLiving (s : State) (row : CapabilityRow) : Type 0 where
  pub object : IsTrue (lives_as s.objects row.serial.0 row.kind)
  pub home : IsTrue (lives_as s.objects row.cspace.0 kind.Cspace)
  pub referred : 0 < references s row.serial.0
  pub unretired : is_retired (object_row s row.serial.0) ≡ false

-- the spaces of a CPU that hasn't exited live
pub record SpacesLive (s : State) (row : CpuRow) : Type 0 where
  pub cspace : IsTrue (lives_as s.objects row.cspace.0 kind.Cspace)
  pub space : IsTrue (lives_as s.objects row.space.0 kind.Space)

-- all that a link names lives
pub record LinkLives (s : State) (row : LinkRow) : Type 0 where
  pub space : IsTrue (space_lives s.objects (find (is_cpu row.vm.0) s.cpus))
  pub extent : IsTrue (lives_as s.objects row.extent.0 kind.Extent)
  pub request : IsTrue (lives_as s.objects row.request.0 kind.Queue)
  pub reply : IsTrue (lives_as s.objects row.reply.0 kind.Queue)

-- the kind of an object that lives
abbrev pub row_kind : ObjectRow → Kind
row_kind row = row.kind

abbrev pub living_kind : List ObjectRow → ℕ → Option Kind
living_kind objects object = option_map row_kind (find (is_object object) objects)
