-- Events of calls that keep sound references: each changes one CPU's part and at most one count.
use Rattle.std.proofs.Common.{◌≡◌, ◌==◌, ◌+◌, ◌∙◌, ℕ, true, false, inl, refl, subst, ap, arith, Option, Some, None}
use Rattle.std.specs.Prelude.{count_by, option_map}
use Rattle.gh_events.specs.CallEvents.{MayEnter, begun, entered}
use Rattle.gh_events.specs.Config.{AtAct, Config, Cpu, Current, DeadPin, Failed, Given, Looked, Reading, Stage, Undone, is_pin_at, put}
use Rattle.gh_events.specs.References.{HasReferences, dead_pin, grants_at, has_grant}
use Rattle.gh_events.proofs.CpuMoves.{Moves, part_sound}
use Rattle.gh_events.proofs.Finding.{same_number}

-- the stages as numbers, by which two are apart
abbrev pub stage_number : Stage → ℕ
stage_number Reading = 0
stage_number Looked = 1
stage_number DeadPin = 2
stage_number Undone = 3
stage_number Failed = 4
stage_number AtAct = 5

-- a call at one stage isn't at another
pub stages_apart : (call other : Current) (stage : Stage) → Some call ≡ Some other
    → other.stage ≡ stage → (stage_number call.stage == stage_number stage) ≡ false → ⊥
stages_apart call other stage is there apart =
    let same : call ≡ other = cc in
    let stages : call.stage ≡ stage = ap (λ (one : Current). one.stage) same ∙ there in
    let never : (stage_number stage == stage_number stage) ≡ false = subst (λ (one : Stage). (stage_number one == stage_number stage) ≡ false) stages apart in
    let always : (stage_number stage == stage_number stage) ≡ true = same_number (stage_number stage) in
    cc

-- a call without a grant beside its pins has none
pub no_grant : (current : Option Current) (other : Current) → has_grant current ≡ false
    → current ≡ Some other → grants_at other.stage ≡ true → ⊥
no_grant current other none is grants =
    let some : has_grant current ≡ true = ap has_grant is ∙ grants in
    cc

-- Enter

begun_grants : (section : ℕ) (next : Option Given)
    → has_grant (option_map (begun section Reading) next) ≡ false
begun_grants section None = refl
begun_grants section (Some given) = refl

-- a call that begins has no pins and no looks
begun_pins : (section at : ℕ) (next : Option Given) (before : Option Current) → before ≡ None
    → count_by (is_pin_at at) (dead_pin before)
    ≡ count_by (is_pin_at at) (dead_pin (option_map (begun section Reading) next))
begun_pins section at None before none = rw none refl
begun_pins section at (Some given) before none = rw none refl

begun_reads : (section : ℕ) (next : Option Given) (call : Current) (stage : Stage)
    → option_map (begun section Reading) next ≡ Some call → call.stage ≡ stage
    → (0 == stage_number stage) ≡ false → ⊥
begun_reads section None call stage is there apart = let never : None ≡ Some call = is in cc
begun_reads section (Some given) call stage is there apart =
    stages_apart (begun section Reading given) call stage is there apart

module _ (conf : Config) (at : ℕ) (sound : HasReferences conf) where
  begins : Cpu
  begins = record (conf.cpu at) {
    next = None;
    current = option_map (begun (conf.counter at + 1) Reading) (conf.cpu at).next;
  }

  enter_moves : MayEnter conf at → Moves conf at begins conf.count
  unfolding begins
  enter_moves may = record {
    is_cpu = may.is_cpu;
    moved = λ i. let same : count_by (is_pin_at i) (dead_pin (conf.cpu at).current) ≡ count_by (is_pin_at i) (dead_pin (option_map (begun (conf.counter at + 1) Reading) (conf.cpu at).next)) = begun_pins (conf.counter at + 1) i (conf.cpu at).next (conf.cpu at).current may.between.none in omega (arith, same);
    homed = λ i. inl refl;
    holding = record {
      pinned = (sound.holds at).pinned;
      granted = λ call seen grant last. absurd (no_grant (option_map (begun (conf.counter at + 1) Reading) (conf.cpu at).next) call (begun_grants (conf.counter at + 1) (conf.cpu at).next) grant.is_current grant.grants);
      dying = λ call seen dead last. absurd (begun_reads (conf.counter at + 1) (conf.cpu at).next call DeadPin dead.is_current dead.at_stage refl);
    };
  }

  -- a call that begins keeps sound references
  pub enter_keeps : MayEnter conf at → HasReferences (entered conf at)
  unfolding begins
  enter_keeps may =
      part_sound conf at begins conf.count (put conf.counter at (conf.counter at + 1)) (enter_moves may) sound
