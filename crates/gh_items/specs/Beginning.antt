-- A run's progress before the first call: the seats of its CPUs, and the indices of its objects.
use Rattle.std.specs.Prelude.{◌≡◌, ◌+◌, ℕ, List, false, length}
use Rattle.gh_base.specs.declared.ids.ObjIndex.{ObjIndex}
use Rattle.gh_items.specs.Stands.{AreIndexed, AreNoted}
use Rattle.gh_items.specs.declared.progress.Seat.{Seat}
use Rattle.gh_model.specs.Marks.{cspace_of}
use Rattle.gh_model.specs.declared.state.State.{State}

-- the seat of a CPU that has made no call
abbrev pub new_seat : State → ℕ → Seat
new_seat boot at = record {
  cpu = record { 0 = at };
  cspace = record { 0 = cspace_of boot at };
  calls = 0;
  sections = 0;
  place = 0;
  ended = false;
}

-- the objects of the serials below this one have these indices
pub record ArePlaced (next : ℕ) (places : List ObjIndex) (index : ℕ → ℕ) : Type 0 where
  pub count : length places + 1 ≡ next
  pub each : AreIndexed next places index

-- and were noted with these places
pub record AreAllNoted (next : ℕ) (noted : List ℕ) (places : ℕ → ℕ) : Type 0 where
  pub count : length noted + 1 ≡ next
  pub each : AreNoted next noted places
