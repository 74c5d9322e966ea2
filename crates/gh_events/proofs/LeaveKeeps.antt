-- A call that leaves its section keeps sound references.
use Rattle.std.proofs.Common.{◌≡◌, ◌==◌, ◌+◌, ◌∙◌, ℕ, true, false, List, [], inl, refl, subst, sym, ap, arith, Option, Some, None, slice_get}
use Rattle.std.specs.Prelude.{count_by}
use Rattle.gh_model.specs.Marks.{Outcome, Seen}
use Rattle.gh_events.specs.CallEvents.{MayLeave, after_leave, at_stage, left, leaves_from, with_left}
use Rattle.gh_events.specs.Config.{AtAct, Config, Cpu, Current, DeadPin, Failed, Looked, Pin, Reading, Stage, Undone, came_to, is_pin_at, put}
use Rattle.gh_events.specs.References.{HasReferences, HoldsSoundly, dead_pin, has_grant, pin_at_stage, pins_of}
use Rattle.gh_events.proofs.CallsKeep.{no_grant, stage_number, stages_apart}
use Rattle.gh_events.proofs.CpuMoves.{Moves, part_sound}

-- a call that may leave has no pin on a dead word
no_dead_pin : (stage : Stage) (came : Outcome) (seen : List Seen) → leaves_from stage came ≡ true
    → pin_at_stage stage seen ≡ []
no_dead_pin Reading came seen may = refl
no_dead_pin Looked came seen may = absurd (let never : ⊥ = cc in never)
no_dead_pin DeadPin came seen may = absurd (let never : ⊥ = cc in never)
no_dead_pin Undone came seen may = refl
no_dead_pin Failed came seen may = refl
no_dead_pin AtAct came seen may = refl

-- and behind it has none either, and the pins that it had
left_pins : (at : ℕ) (cpu : Cpu) (call : Current) (stage : Stage)
    → (with_left at cpu call stage).pins ≡ cpu.pins
left_pins at cpu call Reading = refl
left_pins at cpu call Looked = refl
left_pins at cpu call DeadPin = refl
left_pins at cpu call Undone = refl
left_pins at cpu call Failed = refl
left_pins at cpu call AtAct = refl

left_dead : (at : ℕ) (cpu : Cpu) (call : Current) (stage : Stage)
    → dead_pin (with_left at cpu call stage).current ≡ []
left_dead at cpu call Reading = refl
left_dead at cpu call Looked = refl
left_dead at cpu call DeadPin = refl
left_dead at cpu call Undone = refl
left_dead at cpu call Failed = refl
left_dead at cpu call AtAct = refl

left_grants : (at : ℕ) (cpu : Cpu) (call : Current) (stage : Stage)
    → has_grant (with_left at cpu call stage).current ≡ false
left_grants at cpu call Reading = refl
left_grants at cpu call Looked = refl
left_grants at cpu call DeadPin = refl
left_grants at cpu call Undone = refl
left_grants at cpu call Failed = refl
left_grants at cpu call AtAct = refl

pub no_call : (other : Current) → None ≡ Some other → ⊥
no_call other is = cc

-- it is at its act, or has ended
left_apart : (at : ℕ) (cpu : Cpu) (call other : Current) (stage wanted : Stage)
    → (with_left at cpu call stage).current ≡ Some other → other.stage ≡ wanted
    → (stage_number AtAct == stage_number wanted) ≡ false → ⊥
left_apart at cpu call other Reading wanted is there apart =
    stages_apart (at_stage AtAct call) other wanted is there apart
left_apart at cpu call other Looked wanted is there apart = no_call other is
left_apart at cpu call other DeadPin wanted is there apart = no_call other is
left_apart at cpu call other Undone wanted is there apart = no_call other is
left_apart at cpu call other Failed wanted is there apart = no_call other is
left_apart at cpu call other AtAct wanted is there apart = no_call other is

module _ (conf : Config) (at : ℕ) (sound : HasReferences conf) where
  left_moved : (call : Current) (i : ℕ) → (conf.cpu at).current ≡ Some call
      → leaves_from call.stage (came_to call) ≡ true
      → conf.count i + pins_of (conf.cpu at) i
      ≡ conf.count i + pins_of (with_left at (conf.cpu at) call call.stage) i
  left_moved call i is may =
      let before : dead_pin (conf.cpu at).current ≡ [] = ap dead_pin is ∙ no_dead_pin call.stage (came_to call) call.seen may in
      let behind : dead_pin (with_left at (conf.cpu at) call call.stage).current ≡ [] = left_dead at (conf.cpu at) call call.stage in
      let old : count_by (is_pin_at i) (dead_pin (conf.cpu at).current) ≡ 0 = ap (λ (pins : List Pin). count_by (is_pin_at i) pins) before in
      let new : count_by (is_pin_at i) (dead_pin (with_left at (conf.cpu at) call call.stage).current) ≡ 0 = ap (λ (pins : List Pin). count_by (is_pin_at i) pins) behind in
      let pins : count_by (is_pin_at i) (with_left at (conf.cpu at) call call.stage).pins ≡ count_by (is_pin_at i) (conf.cpu at).pins = ap (λ (pins : List Pin). count_by (is_pin_at i) pins) (left_pins at (conf.cpu at) call call.stage) in
      omega (arith, old, new, pins)

  left_holds : (call : Current) → HoldsSoundly conf (with_left at (conf.cpu at) call call.stage)
  left_holds call = record {
    pinned = λ i pin is. (sound.holds at).pinned i pin (ap (λ (pins : List Pin). slice_get pins i) (sym (left_pins at (conf.cpu at) call call.stage)) ∙ is);
    granted = λ other seen grant last. absurd (no_grant (with_left at (conf.cpu at) call call.stage).current other (left_grants at (conf.cpu at) call call.stage) grant.is_current grant.grants);
    dying = λ other seen dead last. absurd (left_apart at (conf.cpu at) call other call.stage DeadPin dead.is_current dead.at_stage refl);
  }

  leave_moves : (may : MayLeave conf at)
      → Moves conf at (with_left at (conf.cpu at) may.call may.call.stage) conf.count
  leave_moves may = record {
    is_cpu = may.is_cpu;
    moved = λ i. left_moved may.call i may.is_current may.is_done;
    homed = λ i. inl refl;
    holding = left_holds may.call;
  }

  -- a call that leaves its section, to its act or to its end, keeps sound references
  pub leave_keeps : MayLeave conf at → HasReferences (left conf at)
  leave_keeps may =
      part_sound conf at (after_leave at (conf.cpu at) (conf.cpu at).current) conf.count (put conf.counter at (conf.counter at + 1)) (subst (λ (one : Option Current). Moves conf at (after_leave at (conf.cpu at) one) conf.count) (sym may.is_current) (leave_moves may)) sound
