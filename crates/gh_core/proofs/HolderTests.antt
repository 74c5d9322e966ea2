-- The tests of the holder's events on words tell their conditions.
use Rattle.std.proofs.Common.{◌≡◌, ◌==◌, ◌&&◌, ◌+◌, ◌^◌, ◌≤◌, ℕ, Bool, true, false, length, refl, arith, Option, Some, None, not, is_some, nat_le, nat_lt}
use Rattle.std.proofs.lemmas.Bool.Decides.{nat_tests}
use Rattle.gh_base.specs.declared.limits.TheConstants.{CPUS, OBJECT_INDICES}
use Rattle.gh_model.specs.References.{is_doomed}
use Rattle.gh_model.specs.declared.rows.ObjectRow.{ObjectRow}
use Rattle.gh_model.specs.declared.state.State.{State}
use Rattle.gh_events.specs.Config.{AtAct, Config, Current, DeadPin, Failed, HasTurn, Holder, Looked, Reading, Stage, Undone, has_acted, has_part, judged, live_references, object_at, present, some_killed}
use Rattle.gh_events.specs.HolderEvents.{MayKill, MayOwe, MayRevive, MayScan, MaySettle, is_create, is_done, least_owed}
use Rattle.gh_core.specs.Tests.{creates, holder_is, is_any, is_at_act, is_ending, kills, owes, owes_little, owes_more, owes_none_at, revived_none, revives, scans, settles}
use Rattle.gh_core.proofs.CallTests.{below, both, empty_of, equal, is_below, is_equal, joined, none_of}

-- the opposite of a test
pub denied : (a : Bool) → not a ≡ true → a ≡ false
denied false is = refl
denied true is = absurd (let never : ⊥ = cc in never)

pub denies : (a : Bool) → a ≡ false → not a ≡ true
denies a is = rw is refl

-- the turn

pub record Holding (at : ℕ) (test : Holder → Bool) (turn : Option Holder) : Type 0 where
  pub holder : Holder
  pub is : turn ≡ Some holder
  pub its_cpu : holder.cpu ≡ at
  pub passes : test holder ≡ true

pub holding : (at : ℕ) (test : Holder → Bool) (turn : Option Holder) → holder_is at test turn ≡ true → Holding at test turn
holding at test None is = absurd (let never : ⊥ = cc in never)
holding at test (Some holder) is =
    let parts = both (holder.cpu == at) (test holder) is in
    record { holder = holder; is = refl; its_cpu = equal holder.cpu at parts.0; passes = parts.1 }

pub tells_holder : (conf : Config) (at : ℕ) (test : Holder → Bool) (holder : Holder) → HasTurn conf at holder
    → test holder ≡ true → holder_is at test conf.turn ≡ true
tells_holder conf at test holder has passes =
    rw has.turn (joined (holder.cpu == at) (test holder) (is_equal holder.cpu at has.its_cpu) passes)

has_turn : (conf : Config) (at : ℕ) (test : Holder → Bool) (found : Holding at test conf.turn) → HasTurn conf at found.holder
has_turn conf at test found = record { turn = found.is; its_cpu = found.its_cpu }

-- owe and settle

pub owe_told : (conf : Config) (at object : ℕ) → owes conf at object ≡ true → MayOwe conf at object
owe_told conf at object is =
    let parts = both (nat_lt at CPUS) _ is in
    let rest = both (nat_lt object OBJECT_INDICES) _ parts.1 in
    let found : Holding at (owes_little conf object) conf.turn = holding at (owes_little conf object) conf.turn rest.1 in
    let passes = both (not (conf.dead object)) _ found.passes in
    record {
      is_cpu = below at CPUS parts.0;
      is_index = below object OBJECT_INDICES rest.0;
      holder = found.holder;
      has_turn = has_turn conf at (owes_little conf object) found;
      alive = denied (conf.dead object) passes.0;
      room = below (found.holder.owed object + live_references conf object) (2 ^ 62) passes.1;
    }

pub tells_owe : (conf : Config) (at object : ℕ) → MayOwe conf at object → owes conf at object ≡ true
tells_owe conf at object may = joined _ _ (is_below at CPUS may.is_cpu) (joined _ _ (is_below object OBJECT_INDICES may.is_index)
    (tells_holder conf at (owes_little conf object) may.holder may.has_turn
    (joined _ _ (denies (conf.dead object) may.alive) (is_below (may.holder.owed object + live_references conf object) (2 ^ 62) may.room))))

pub settle_told : (conf : Config) (at object : ℕ) → settles conf at object ≡ true → MaySettle conf at object
settle_told conf at object is =
    let parts = both (nat_lt at CPUS) _ is in
    let rest = both (nat_lt object OBJECT_INDICES) _ parts.1 in
    let found : Holding at (owes_more conf object) conf.turn = holding at (owes_more conf object) conf.turn rest.1 in
    record {
      is_cpu = below at CPUS parts.0;
      is_index = below object OBJECT_INDICES rest.0;
      holder = found.holder;
      has_turn = has_turn conf at (owes_more conf object) found;
      owes = below (least_owed conf object) (found.holder.owed object) found.passes;
    }

pub tells_settle : (conf : Config) (at object : ℕ) → MaySettle conf at object → settles conf at object ≡ true
tells_settle conf at object may = joined _ _ (is_below at CPUS may.is_cpu) (joined _ _ (is_below object OBJECT_INDICES may.is_index)
    (tells_holder conf at (owes_more conf object) may.holder may.has_turn (is_below (least_owed conf object) (may.holder.owed object) may.owes)))

-- kill

pub record Ending (s : State) (found : Option ObjectRow) : Type 0 where
  pub row : ObjectRow
  pub is : found ≡ Some row
  pub doomed : is_doomed s row.serial.0 ≡ true
  pub unretired : row.retired ≡ None

ending : (s : State) (found : Option ObjectRow) → is_ending s found ≡ true → Ending s found
ending s None is = absurd (let never : ⊥ = cc in never)
ending s (Some row) is =
    let parts = both (is_doomed s row.serial.0) (not (is_some row.retired)) is in
    record { row = row; is = refl; doomed = parts.0; unretired = none_of row.retired parts.1 }

pub kill_told : (conf : Config) (at object : ℕ) → kills conf at object ≡ true → MayKill conf at object
kill_told conf at object is =
    let parts = both (nat_lt at CPUS) _ is in
    let rest = both (nat_lt object OBJECT_INDICES) _ parts.1 in
    let last = both (holder_is at (owes_none_at object) conf.turn) _ rest.1 in
    let found : Holding at (owes_none_at object) conf.turn = holding at (owes_none_at object) conf.turn last.0 in
    let free = both (found.holder.owed object == 0) _ found.passes in
    let before = both (not (has_acted found.holder)) (not (has_part found.holder)) free.1 in
    let dies = both (is_ending (present conf) (object_at (present conf) conf.index object)) _ last.1 in
    let alive = both (not (conf.dead object)) (not (some_killed conf)) dies.1 in
    let ends : Ending (present conf) (object_at (present conf) conf.index object) = ending (present conf) _ dies.0 in
    record {
      is_cpu = below at CPUS parts.0;
      is_index = below object OBJECT_INDICES rest.0;
      holder = found.holder;
      has_turn = has_turn conf at (owes_none_at object) found;
      row = ends.row;
      lives_there = ends.is;
      doomed = ends.doomed;
      unretired = ends.unretired;
      alive = denied (conf.dead object) alive.0;
      unowed = equal (found.holder.owed object) 0 free.0;
      not_acted = denied (has_acted found.holder) before.0;
      no_part = denied (has_part found.holder) before.1;
      none_killed = denied (some_killed conf) alive.1;
    }

pub tells_kill : (conf : Config) (at object : ℕ) → MayKill conf at object → kills conf at object ≡ true
tells_kill conf at object may = joined _ _ (is_below at CPUS may.is_cpu) (joined _ _ (is_below object OBJECT_INDICES may.is_index)
    (joined _ _ (tells_holder conf at (owes_none_at object) may.holder may.has_turn
    (joined _ _ (is_equal (may.holder.owed object) 0 may.unowed)
    (joined _ _ (denies (has_acted may.holder) may.not_acted) (denies (has_part may.holder) may.no_part))))
    (joined _ _ (rw may.lives_there (joined _ _ may.doomed (rw may.unretired refl)))
    (joined _ _ (denies (conf.dead object) may.alive) (denies (some_killed conf) may.none_killed)))))

-- scan

pub scan_told : (conf : Config) (at of : ℕ) → scans conf at of ≡ true → MayScan conf at of
scan_told conf at of is =
    let parts = both (nat_lt at CPUS) _ is in
    let rest = both (nat_lt of CPUS) _ parts.1 in
    let found : Holding at is_any conf.turn = holding at is_any conf.turn rest.1 in
    record {
      is_cpu = below at CPUS parts.0;
      of_cpu = below of CPUS rest.0;
      holder = found.holder;
      has_turn = has_turn conf at is_any found;
    }

pub tells_scan : (conf : Config) (at of : ℕ) → MayScan conf at of → scans conf at of ≡ true
tells_scan conf at of may = joined _ _ (is_below at CPUS may.is_cpu) (joined _ _ (is_below of CPUS may.of_cpu)
    (tells_holder conf at is_any may.holder may.has_turn refl))

-- revive

pub at_act_told : (stage : Stage) → is_at_act stage ≡ true → stage ≡ AtAct
at_act_told AtAct is = refl
at_act_told Reading is = absurd (let never : ⊥ = cc in never)
at_act_told Looked is = absurd (let never : ⊥ = cc in never)
at_act_told DeadPin is = absurd (let never : ⊥ = cc in never)
at_act_told Undone is = absurd (let never : ⊥ = cc in never)
at_act_told Failed is = absurd (let never : ⊥ = cc in never)

pub record Creating (s : State) (at : ℕ) (current : Option Current) : Type 0 where
  pub call : Current
  pub is : current ≡ Some call
  pub at_act : call.stage ≡ AtAct
  pub creates : is_create call.given.call ≡ true
  pub does : is_done (judged s at call) ≡ true

creating : (s : State) (at : ℕ) (current : Option Current) → creates s at current ≡ true → Creating s at current
creating s at None is = absurd (let never : ⊥ = cc in never)
creating s at (Some call) is =
    let parts = both (is_at_act call.stage) _ is in
    let rest = both (is_create call.given.call) (is_done (judged s at call)) parts.1 in
    record { call = call; is = refl; at_act = at_act_told call.stage parts.0; creates = rest.0; does = rest.1 }

at_most : (a b : ℕ) → nat_le a b ≡ true → a ≤ b
at_most a b is = grind (arith, nat_tests)

is_at_most : (a b : ℕ) → a ≤ b → nat_le a b ≡ true
is_at_most a b is = grind (arith, nat_tests)

pub revive_told : (conf : Config) (at object count : ℕ) → revives conf at object count ≡ true → MayRevive conf at object count
revive_told conf at object count is =
    let parts = both (nat_lt at CPUS) _ is in
    let rest = both (nat_lt object OBJECT_INDICES) _ parts.1 in
    let last = both (holder_is at revived_none conf.turn) _ rest.1 in
    let found : Holding at revived_none conf.turn = holding at revived_none conf.turn last.0 in
    let first = both (not (has_acted found.holder)) (length found.holder.revived == 0) found.passes in
    let acts = both (creates (present conf) at (conf.cpu at).current) _ last.1 in
    let made : Creating (present conf) at (conf.cpu at).current = creating (present conf) at (conf.cpu at).current acts.0 in
    let fits = both (not (is_some (object_at (present conf) conf.index object))) _ acts.1 in
    let bounds = both (nat_lt 0 count) (nat_le count (2 ^ 62)) fits.1 in
    record {
      is_cpu = below at CPUS parts.0;
      is_index = below object OBJECT_INDICES rest.0;
      holder = found.holder;
      call = made.call;
      has_turn = has_turn conf at revived_none found;
      in_act = record { is_current = made.is; at_stage = made.at_act };
      uninhabited = none_of (object_at (present conf) conf.index object) fits.0;
      counted = below 0 count bounds.0;
      bounded = at_most count (2 ^ 62) bounds.1;
      creates = made.creates;
      does = made.does;
      not_acted = denied (has_acted found.holder) first.0;
      first = empty_of found.holder.revived first.1;
    }

pub tells_revive : (conf : Config) (at object count : ℕ) → MayRevive conf at object count → revives conf at object count ≡ true
tells_revive conf at object count may = joined _ _ (is_below at CPUS may.is_cpu) (joined _ _ (is_below object OBJECT_INDICES may.is_index)
    (joined _ _ (tells_holder conf at revived_none may.holder may.has_turn
    (joined _ _ (denies (has_acted may.holder) may.not_acted) (rw may.first refl)))
    (joined _ _ (rw may.in_act.is_current (joined (is_at_act may.call.stage) (is_create may.call.given.call && is_done (judged (present conf) at may.call)) (rw may.in_act.at_stage refl) (joined (is_create may.call.given.call) (is_done (judged (present conf) at may.call)) may.creates may.does)))
    (joined _ _ (rw may.uninhabited refl) (joined _ _ (is_below 0 count may.counted) (is_at_most count (2 ^ 62) may.bounded))))))
