-- The tests of call events tell their conditions.
use Rattle.std.proofs.Common.{◌≡◌, ◌==◌, ◌&&◌, ◌<◌, ℕ, Bool, true, false, List, [], ◌∷◌, length, refl, arith, Option, Some, None, not, is_some, nat_lt}
use Rattle.std.specs.List.{last_or}
use Rattle.std.proofs.lemmas.Bool.Decides.{nat_tests}
use Rattle.gh_base.specs.declared.cap_word.Need.{Need}
use Rattle.gh_base.specs.declared.limits.TheConstants.{CPUS, OBJECT_INDICES}
use Rattle.gh_model.specs.Marks.{Fails, Grants, Outcome, Seen, Wants}
use Rattle.gh_events.specs.CallEvents.{IsLastAt, MayEnter, MayLeave, MayLook, MayMove, MayPin, MayUndo, MayUnpin, has_needs, leaves_from}
use Rattle.gh_events.specs.Config.{AtAct, Config, Cpu, Current, DeadPin, Failed, Given, IsBetween, Looked, Reading, Stage, Undone, came_to, seen_index}
use Rattle.gh_core.specs.Tests.{asks, enters, is_between, is_dead_pin, is_looked, is_reading, is_seen_at, last_is_at, leaves, looks, may_leave, moves, next_looks, pins, undoes, unpins, wants}

-- both parts of a test
pub both : (a b : Bool) → (a && b) ≡ true → (a ≡ true) × (b ≡ true)
both true true is = (refl, refl)
both true false is = absurd (let never : ⊥ = cc in never)
both false b is = absurd (let never : ⊥ = cc in never)

pub joined : (a b : Bool) → a ≡ true → b ≡ true → (a && b) ≡ true
joined true true first second = refl
joined true false first second = second
joined false b first second = first

-- a test of less
pub below : (a b : ℕ) → nat_lt a b ≡ true → a < b
below a b is = grind (arith, nat_tests)

pub is_below : (a b : ℕ) → a < b → nat_lt a b ≡ true
is_below a b less = grind (arith, nat_tests)

-- a test of equality
pub equal : (a b : ℕ) → (a == b) ≡ true → a ≡ b
equal a b is = grind (arith, nat_tests)

pub is_equal : (a b : ℕ) → a ≡ b → (a == b) ≡ true
is_equal a b same = grind (arith, nat_tests)

pub none_of : {X : Type 0} (x : Option X) → not (is_some x) ≡ true → x ≡ None
none_of None is = refl
none_of (Some x) is = absurd (let never : ⊥ = cc in never)

pub empty_of : {X : Type 0} (xs : List X) → (length xs == 0) ≡ true → xs ≡ []
empty_of [] is = refl
empty_of (x ∷ xs) is = absurd (let never : ⊥ = grind (arith, nat_tests) in never)

-- between calls
pub between_told : (cpu : Cpu) → is_between cpu ≡ true → IsBetween cpu
between_told cpu is =
    let parts : (not (is_some cpu.current) ≡ true) × ((length cpu.pins == 0) ≡ true) = both _ _ is in
    record { none = none_of cpu.current parts.0; dropped = empty_of cpu.pins parts.1 }

pub tells_between : (cpu : Cpu) → IsBetween cpu → is_between cpu ≡ true
tells_between cpu between = rw between.none (rw between.dropped refl)

-- stages
pub reading_told : (stage : Stage) → is_reading stage ≡ true → stage ≡ Reading
reading_told Reading is = refl
reading_told Looked is = absurd (let never : ⊥ = cc in never)
reading_told DeadPin is = absurd (let never : ⊥ = cc in never)
reading_told Undone is = absurd (let never : ⊥ = cc in never)
reading_told Failed is = absurd (let never : ⊥ = cc in never)
reading_told AtAct is = absurd (let never : ⊥ = cc in never)

pub looked_told : (stage : Stage) → is_looked stage ≡ true → stage ≡ Looked
looked_told Looked is = refl
looked_told Reading is = absurd (let never : ⊥ = cc in never)
looked_told DeadPin is = absurd (let never : ⊥ = cc in never)
looked_told Undone is = absurd (let never : ⊥ = cc in never)
looked_told Failed is = absurd (let never : ⊥ = cc in never)
looked_told AtAct is = absurd (let never : ⊥ = cc in never)

pub dead_pin_told : (stage : Stage) → is_dead_pin stage ≡ true → stage ≡ DeadPin
dead_pin_told DeadPin is = refl
dead_pin_told Reading is = absurd (let never : ⊥ = cc in never)
dead_pin_told Looked is = absurd (let never : ⊥ = cc in never)
dead_pin_told Undone is = absurd (let never : ⊥ = cc in never)
dead_pin_told Failed is = absurd (let never : ⊥ = cc in never)
dead_pin_told AtAct is = absurd (let never : ⊥ = cc in never)

-- enter

pub record Looking (next : Option Given) : Type 0 where
  pub given : Given
  pub is : next ≡ Some given
  pub looks : has_needs given ≡ true

looking : (next : Option Given) → next_looks next ≡ true → Looking next
looking None is = absurd (let never : ⊥ = cc in never)
looking (Some given) is = record { given = given; is = refl; looks = is }

looking_told : (next : Option Given) (given : Given) → next ≡ Some given → has_needs given ≡ true → next_looks next ≡ true
looking_told next given is looks = rw is looks

pub enter_told : (conf : Config) (at : ℕ) → enters conf at ≡ true → MayEnter conf at
enter_told conf at is =
    let parts : (nat_lt at CPUS ≡ true) × ((is_between (conf.cpu at) && next_looks (conf.cpu at).next) ≡ true) = both _ _ is in
    let rest : (is_between (conf.cpu at) ≡ true) × (next_looks (conf.cpu at).next ≡ true) = both _ _ parts.1 in
    let found : Looking (conf.cpu at).next = looking (conf.cpu at).next rest.1 in
    record {
      is_cpu = below at CPUS parts.0;
      between = between_told (conf.cpu at) rest.0;
      given = found.given;
      next = found.is;
      looks = found.looks;
    }

pub tells_enter : (conf : Config) (at : ℕ) → MayEnter conf at → enters conf at ≡ true
tells_enter conf at may = joined _ _ (is_below at CPUS may.is_cpu)
    (joined _ _ (tells_between (conf.cpu at) may.between) (looking_told (conf.cpu at).next may.given may.next may.looks))

-- look

pub record Asking (slot : ℕ) (current : Option Current) : Type 0 where
  pub call : Current
  pub is : current ≡ Some call
  pub reading : call.stage ≡ Reading
  pub wants : wants slot (came_to call) ≡ true

asking : (slot : ℕ) (current : Option Current) → asks slot current ≡ true → Asking slot current
asking slot None is = absurd (let never : ⊥ = cc in never)
asking slot (Some call) is =
    let parts : (is_reading call.stage ≡ true) × (wants slot (came_to call) ≡ true) = both _ _ is in
    record { call = call; is = refl; reading = reading_told call.stage parts.0; wants = parts.1 }

pub record Wanted (slot : ℕ) (came : Outcome) : Type 0 where
  pub need : Need
  pub is : came ≡ Wants slot need

wanted : (slot : ℕ) (came : Outcome) → wants slot came ≡ true → Wanted slot came
wanted slot (Wants other need) is = record { need = need; is = rw (equal other slot is) refl }
wanted slot (Fails errno) is = absurd (let never : ⊥ = cc in never)
wanted slot Grants is = absurd (let never : ⊥ = cc in never)

pub look_told : (conf : Config) (at slot : ℕ) → looks conf at slot ≡ true → MayLook conf at slot
look_told conf at slot is =
    let parts : (nat_lt at CPUS ≡ true) × (asks slot (conf.cpu at).current ≡ true) = both _ _ is in
    let asked : Asking slot (conf.cpu at).current = asking slot (conf.cpu at).current parts.1 in
    let found : Wanted slot (came_to asked.call) = wanted slot (came_to asked.call) asked.wants in
    record {
      is_cpu = below at CPUS parts.0;
      call = asked.call;
      reading = record { is_current = asked.is; at_stage = asked.reading };
      need = found.need;
      asked = found.is;
    }

pub tells_look : (conf : Config) (at slot : ℕ) → MayLook conf at slot → looks conf at slot ≡ true
tells_look conf at slot may = joined _ _ (is_below at CPUS may.is_cpu)
    (rw may.reading.is_current (rw may.reading.at_stage (rw may.asked (is_equal slot slot refl))))

-- pin and undo

pub record LastAt (at_stage : Stage → Bool) (object : ℕ) (current : Option Current) : Type 0 where
  pub call : Current
  pub is : current ≡ Some call
  pub stage : at_stage call.stage ≡ true
  pub last : IsLastAt call object

seen_at : (call : Current) (object : ℕ) (last : Option Seen) → last_or None call.seen ≡ last → is_seen_at object last ≡ true → IsLastAt call object
seen_at call object None same is = absurd (let never : ⊥ = cc in never)
seen_at call object (Some seen) same is = record { seen = seen; last = same; index_is = equal (seen_index seen) object is }

last_at : (at_stage : Stage → Bool) (object : ℕ) (current : Option Current) → last_is_at at_stage object current ≡ true
    → LastAt at_stage object current
last_at at_stage object None is = absurd (let never : ⊥ = cc in never)
last_at at_stage object (Some call) is =
    let parts : (at_stage call.stage ≡ true) × (is_seen_at object (last_or None call.seen) ≡ true) = both _ _ is in
    record { call = call; is = refl; stage = parts.0; last = seen_at call object (last_or None call.seen) refl parts.1 }

tells_last : (at_stage : Stage → Bool) (object : ℕ) (current : Option Current) (call : Current) → current ≡ Some call
    → at_stage call.stage ≡ true → IsLastAt call object → last_is_at at_stage object current ≡ true
tells_last at_stage object current call is stage last =
    rw is (joined _ _ stage (rw last.last (is_equal (seen_index last.seen) object last.index_is)))

pub pin_told : (conf : Config) (at object : ℕ) → pins conf at object ≡ true → MayPin conf at object
pin_told conf at object is =
    let parts : (nat_lt at CPUS ≡ true) × ((nat_lt object OBJECT_INDICES && last_is_at is_looked object (conf.cpu at).current) ≡ true) = both _ _ is in
    let rest : (nat_lt object OBJECT_INDICES ≡ true) × (last_is_at is_looked object (conf.cpu at).current ≡ true) = both _ _ parts.1 in
    let found : LastAt is_looked object (conf.cpu at).current = last_at is_looked object (conf.cpu at).current rest.1 in
    record {
      is_cpu = below at CPUS parts.0;
      is_index = below object OBJECT_INDICES rest.0;
      call = found.call;
      is_looked = record { is_current = found.is; at_stage = looked_told found.call.stage found.stage };
      granted = found.last;
    }

pub tells_pin : (conf : Config) (at object : ℕ) → MayPin conf at object → pins conf at object ≡ true
tells_pin conf at object may = joined _ _ (is_below at CPUS may.is_cpu) (joined _ _ (is_below object OBJECT_INDICES may.is_index)
    (tells_last is_looked object (conf.cpu at).current may.call may.is_looked.is_current (rw may.is_looked.at_stage refl) may.granted))

pub undo_told : (conf : Config) (at object : ℕ) → undoes conf at object ≡ true → MayUndo conf at object
undo_told conf at object is =
    let parts : (nat_lt at CPUS ≡ true) × ((nat_lt object OBJECT_INDICES && last_is_at is_dead_pin object (conf.cpu at).current) ≡ true) = both _ _ is in
    let rest : (nat_lt object OBJECT_INDICES ≡ true) × (last_is_at is_dead_pin object (conf.cpu at).current ≡ true) = both _ _ parts.1 in
    let found : LastAt is_dead_pin object (conf.cpu at).current = last_at is_dead_pin object (conf.cpu at).current rest.1 in
    record {
      is_cpu = below at CPUS parts.0;
      is_index = below object OBJECT_INDICES rest.0;
      call = found.call;
      dead = record { is_current = found.is; at_stage = dead_pin_told found.call.stage found.stage };
      granted = found.last;
    }

pub tells_undo : (conf : Config) (at object : ℕ) → MayUndo conf at object → undoes conf at object ≡ true
tells_undo conf at object may = joined _ _ (is_below at CPUS may.is_cpu) (joined _ _ (is_below object OBJECT_INDICES may.is_index)
    (tells_last is_dead_pin object (conf.cpu at).current may.call may.dead.is_current (rw may.dead.at_stage refl) may.granted))

-- leave

pub record Leaving (current : Option Current) : Type 0 where
  pub call : Current
  pub is : current ≡ Some call
  pub is_done : leaves_from call.stage (came_to call) ≡ true

leaving : (current : Option Current) → may_leave current ≡ true → Leaving current
leaving None is = absurd (let never : ⊥ = cc in never)
leaving (Some call) is = record { call = call; is = refl; is_done = is }

pub leave_told : (conf : Config) (at : ℕ) → leaves conf at ≡ true → MayLeave conf at
leave_told conf at is =
    let parts : (nat_lt at CPUS ≡ true) × (may_leave (conf.cpu at).current ≡ true) = both _ _ is in
    let found : Leaving (conf.cpu at).current = leaving (conf.cpu at).current parts.1 in
    record { is_cpu = below at CPUS parts.0; call = found.call; is_current = found.is; is_done = found.is_done }

pub tells_leave : (conf : Config) (at : ℕ) → MayLeave conf at → leaves conf at ≡ true
tells_leave conf at may = joined _ _ (is_below at CPUS may.is_cpu) (rw may.is_current may.is_done)

-- unpin

pub unpin_told : (conf : Config) (at object : ℕ) → unpins conf at object ≡ true → MayUnpin conf at object
unpin_told conf at object is =
    let parts = both (nat_lt at CPUS) _ is in
    let rest = both (nat_lt object OBJECT_INDICES) _ parts.1 in
    let last = both (not (is_some (conf.cpu at).current)) _ rest.1 in
    record {
      is_cpu = below at CPUS parts.0;
      is_index = below object OBJECT_INDICES rest.0;
      ended = none_of (conf.cpu at).current last.0;
      held = last.1;
    }

pub tells_unpin : (conf : Config) (at object : ℕ) → MayUnpin conf at object → unpins conf at object ≡ true
tells_unpin conf at object may = joined _ _ (is_below at CPUS may.is_cpu) (joined _ _ (is_below object OBJECT_INDICES may.is_index)
    (joined _ _ (rw may.ended refl) may.held))

-- join and split

pub move_told : (conf : Config) (at : ℕ) → moves conf at ≡ true → MayMove conf at
move_told conf at is =
    let parts = both (nat_lt at CPUS) (is_between (conf.cpu at)) is in
    record { is_cpu = below at CPUS parts.0; between = between_told (conf.cpu at) parts.1 }

pub tells_move : (conf : Config) (at : ℕ) → MayMove conf at → moves conf at ≡ true
tells_move conf at may = joined _ _ (is_below at CPUS may.is_cpu) (tells_between (conf.cpu at) may.between)
