-- An event that changes one CPU's part and the counts of words, and leaves all else, keeps sound
-- references.
use Rattle.std.proofs.Common.{◌≡◌, ◌==◌, ◌+◌, ◌<◌, ◌≤◌, ◌∙◌, ℕ, Bool, true, false, ◌⊎◌, inl, inr, ap, arith, None, is_some, if◌then◌else◌}
use Rattle.std.proofs.lemmas.Bool.Decides.{nat_tests}
use Rattle.gh_base.specs.declared.limits.TheConstants.{CPUS}
use Rattle.gh_events.specs.Config.{Config, Cpu, object_at, present, put}
use Rattle.gh_events.specs.References.{AreCounted, ArePlaced, HasHome, HasReferences, HoldsSoundly, IsFresh, IsGranted, IsPinned, pins_at, pins_of}
use Rattle.gh_events.proofs.Finding.{put_other, total_put}

-- one CPU's part, the counts and the CPUs' counters changed
abbrev pub with_part : Config → ℕ → Cpu → (ℕ → ℕ) → (ℕ → ℕ) → Config
with_part conf at cpu count counter =
    record conf { count = count; counter = counter; cpu = put conf.cpu at cpu }

-- what such a change needs: each count changes by the CPU's pins there, and where it changes an
-- object lives or the word is dead; what the CPU then holds is sound
pub record Moves (conf : Config) (at : ℕ) (cpu : Cpu) (count : ℕ → ℕ) : Type 0 where
  pub is_cpu : at < CPUS
  pub moved : (i : ℕ) → count i + pins_of (conf.cpu at) i ≡ conf.count i + pins_of cpu i
  pub homed : (i : ℕ) → (count i ≡ conf.count i)
      ⊎ ((is_some (object_at (present conf) conf.index i) ≡ true) ⊎ (conf.dead i ≡ true))
  pub holding : HoldsSoundly conf cpu

module _ (conf : Config) (at : ℕ) (cpu : Cpu) (count counter : ℕ → ℕ)
    (moves : Moves conf at cpu count) (sound : HasReferences conf) where
  pins_move : (i : ℕ) → pins_at (put conf.cpu at cpu) i + pins_of (conf.cpu at) i
      ≡ pins_at conf.cpu i + pins_of cpu i
  pins_move i = total_put conf.cpu at cpu (λ (one : Cpu). pins_of one i) CPUS moves.is_cpu

  fresh_stays : (i : ℕ) → conf.dead i ≡ false → IsFresh conf i
      → ((count i ≡ conf.count i) ⊎ ((is_some (object_at (present conf) conf.index i) ≡ true) ⊎ (conf.dead i ≡ true)))
      → IsFresh (with_part conf at cpu count counter) i
  fresh_stays i alive fresh (inl same) = record {
    revived = fresh.revived;
    uninhabited = fresh.uninhabited;
    owed = same ∙ fresh.owed;
    some = fresh.some;
  }
  fresh_stays i alive fresh (inr (inl home)) =
      let none : object_at (present conf) conf.index i ≡ None = fresh.uninhabited in
      absurd (let never : ⊥ = cc in never)
  fresh_stays i alive fresh (inr (inr dead)) = absurd (let never : ⊥ = cc in never)

  home_stays : (i : ℕ) → conf.dead i ≡ false → HasHome conf i
      → HasHome (with_part conf at cpu count counter) i
  home_stays i alive (inl home) = inl home
  home_stays i alive (inr fresh) = inr (fresh_stays i alive fresh (moves.homed i))

  part_counted : AreCounted (with_part conf at cpu count counter)
  part_counted = record {
    counts = λ row is alive. omega (arith, sound.counted.counts row is alive, moves.moved (conf.index row.serial.0), pins_move (conf.index row.serial.0));
    homes = λ i within alive. home_stays i alive (sound.counted.homes i within alive);
    dead_counts = λ i within dead. omega (arith, sound.counted.dead_counts i within dead, moves.moved i, pins_move i);
  }

  part_placed : ArePlaced (with_part conf at cpu count counter)
  part_placed = record {
    unique = sound.placed.unique;
    doomed = sound.placed.doomed;
    unowed = sound.placed.unowed;
    retired = sound.placed.retired;
    fresh = sound.placed.fresh;
  }

  holds_on : (one : Cpu) → HoldsSoundly conf one
      → HoldsSoundly (with_part conf at cpu count counter) one
  holds_on one holding = record {
    pinned = λ i pin is. let before : IsPinned conf pin = holding.pinned i pin is in record { row = before.row; lives_there = before.lives_there; is_that = before.is_that; alive = before.alive };
    granted = λ call seen looked last. let before : IsGranted conf seen = holding.granted call seen looked last in record { row = before.row; lives_there = before.lives_there; is_that = before.is_that };
    dying = holding.dying;
  }

  holds_by : (here : Bool) (n : ℕ)
      → HoldsSoundly (with_part conf at cpu count counter) (if here then cpu else conf.cpu n)
  holds_by true n = holds_on cpu moves.holding
  holds_by false n = holds_on (conf.cpu n) (sound.holds n)

  seats_on : (n i : ℕ) → CPUS ≤ n → pins_of (put conf.cpu at cpu n) i ≡ 0
  seats_on n i beyond =
      let is_cpu : at < CPUS = moves.is_cpu in
      let apart : (n == at) ≡ false = grind (arith, nat_tests) in
      ap (λ (one : Cpu). pins_of one i) (put_other conf.cpu at cpu n apart) ∙ sound.seats n i beyond

  -- the references stay sound
  pub part_sound : HasReferences (with_part conf at cpu count counter)
  part_sound = record {
    counted = part_counted;
    placed = part_placed;
    holds = λ n. holds_by (n == at) n;
    seats = seats_on;
  }
