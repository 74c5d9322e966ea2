-- At rest: the turn is free and every CPU is between calls, so the history and the finished calls
-- agree.
use Rattle.std.proofs.Common.{◌≡◌, ◌+◌, ◌*◌, ◌≤◌, ◌<◌, ◌∙◌, ◌⊎◌, inl, inr, ℕ, true, false, List, [], subst, sym, ap, arith, Option, Some, None, IsSome, IsTrue, is_some, slice_get}
use Rattle.std.specs.Prelude.{count_by, slice_index}
use Rattle.std.specs.List.{last_or}
use Rattle.std.specs.Option.{option_map_or}
use Rattle.gh_base.specs.declared.limits.TheConstants.{CPUS}
use Rattle.gh_model.specs.Graced.{IsGraced}
use Rattle.gh_model.specs.History as history
use Rattle.gh_model.specs.Legal.{Agree, CallIs, EntryIs, GoesOn, IsEndOf, IsLegal, IsNumbered, IsRetiredBehind, is_exit_call}
use Rattle.gh_model.specs.Marks.{InTurn, Made, Seen, has_looks}
use Rattle.gh_model.specs.Act.{granted}
use Rattle.gh_model.specs.Rows.{cpu_row}
use Rattle.gh_model.specs.declared.entry.Entry.{Entry}
use Rattle.gh_model.specs.declared.entry.Entry.TheVariants.{Acted, Part, Retired, Reclaimed}
use Rattle.gh_model.specs.declared.rows.ObjectRow.{ObjectRow}
use Rattle.gh_events.specs.Calls.{DeathIs, IsKilledThere, Waits, calls_in, counted, steps}
use Rattle.gh_events.specs.Config.{Config, Holder, is_killed, present}
use Rattle.gh_events.specs.Grace.{CpuGrace, objects_of}
use Rattle.gh_events.specs.References.{IsRow}
use Rattle.gh_events.specs.Sound.{IsAtRest, IsSound, made_by}
use Rattle.gh_events.proofs.CallMoves.{only_made}
use Rattle.gh_events.proofs.DeathsOn.{IsPlaced, own_row}

-- what is killed at an index is killed and not retired by its serial
killed_serial : (conf : Config) (at serial : ℕ) → IsSound conf
    → IsKilledThere (present conf) conf.index conf.dead at serial → (objects_of conf).killed serial ≡ true
killed_serial conf at serial sound there =
    let placed : IsPlaced (present conf) conf.index = record { valid = sound.valid.valid; unique = sound.references.placed.unique } in
    let own : IsRow (present conf) there.row = own_row (present conf) conf.index conf.dead placed at there.row there.lives_there in
    subst (λ (n : ℕ). (objects_of conf).killed n ≡ true) there.is_that
    (ap (λ (found : Option ObjectRow). option_map_or (is_killed conf.dead conf.index) found false) own ∙ there.killed)

module _ (conf : Config) (sound : IsSound conf) (rest : IsAtRest conf) where
  no_holder_now : (holder : Holder) → conf.turn ≡ Some holder → ⊥
  no_holder_now holder is =
      let free : conf.turn ≡ None = rest.free in
      let same : None ≡ Some holder = sym free ∙ is in
      let never : ⊥ = cc in
      never

  -- each CPU's calls are its finished ones
  calls_are_made : (cpu : ℕ) → calls_in conf cpu ≡ made_by conf cpu
  calls_are_made cpu =
      only_made conf.boot conf.history cpu conf.turn (conf.cpu cpu) (λ holder is. absurd (no_holder_now holder is))

  calls_agree : (cpu : ℕ) → InTurn (CallIs conf.boot conf.history cpu) (made_by conf cpu)
  calls_agree cpu =
      subst (λ (calls : List Made). InTurn (CallIs conf.boot conf.history cpu) calls) (calls_are_made cpu) (sound.calls.calls cpu).finished

  entry_agrees : (n : ℕ) (event : history.Event) (entry : Entry)
      → EntryIs conf.boot conf.history (calls_in conf) n event entry
      → EntryIs conf.boot conf.history (made_by conf) n event entry
  entry_agrees n event (Acted cpu number) is =
      subst (λ (calls : List Made). IsEndOf calls number (n + 1)) (calls_are_made cpu.0) is
  entry_agrees n event (Part cpu number space slot) is = is
  entry_agrees n event (Retired serial seen) is = is
  entry_agrees n event (Reclaimed serial seen) is = is

  part_agrees : (n : ℕ) (event : history.Event)
      → GoesOn conf.boot conf.history n event ⊎ Waits conf.history conf.turn conf.cpu n event
      → GoesOn conf.boot conf.history n event
  part_agrees n event (inl on) = on
  part_agrees n event (inr waits) = absurd (no_holder_now waits.holder waits.has_turn)

  none_killed_there : (at serial : ℕ)
      → IsKilledThere (present conf) conf.index conf.dead at serial → ⊥
  none_killed_there at serial there =
      let killed : (objects_of conf).killed serial ≡ true = killed_serial conf at serial sound there in
      let held : is_some conf.turn ≡ true = sound.grace.held serial killed in
      let free : conf.turn ≡ None = rest.free in
      let none : is_some conf.turn ≡ false = ap is_some free in
      let never : ⊥ = cc in
      never

  death_agrees : (seen : Seen) → DeathIs conf.boot conf.history conf.index conf.dead seen
      → IsRetiredBehind conf.boot conf.history seen.look.place (granted seen.word).0
  death_agrees seen (inl retired) = retired
  death_agrees seen (inr killed) = absurd (none_killed_there _ _ killed)

  -- the history and the finished calls agree
  pub rest_agrees : Agree conf.boot conf.history (made_by conf)
  rest_agrees = record {
    calls_are = calls_agree;
    entries = λ n event is. entry_agrees n event event.entry (sound.calls.entries.entries n event is);
    parts = λ n event is part. part_agrees n event (sound.calls.entries.parts n event is part);
    deaths = λ cpu i made seen is dead last. death_agrees seen (sound.calls.entries.deaths cpu i made seen is dead last);
  }

  -- they are numbered, and no call follows an exit call
  pub rest_numbered : (cpu : ℕ) → InTurn IsNumbered (made_by conf cpu)
  rest_numbered cpu =
      subst (λ (calls : List Made). InTurn IsNumbered calls) (calls_are_made cpu) (sound.calls.calls cpu).numbered

  -- and only CPUs of the boot made calls
  pub rest_idle : (cpu : ℕ) → cpu_row conf.boot cpu ≡ None → made_by conf cpu ≡ []
  rest_idle cpu none = ((sound.calls.calls cpu).idle none).made

  -- no entry kept a counter above twice the number of the CPU's calls with looks
  pub rest_bounded : (n cpu : ℕ) (event : history.Event) (seen : List ℕ)
      → slice_get conf.history n ≡ Some event → history.counters event.entry ≡ Some seen
      → cpu < CPUS → slice_index seen cpu ≤ 2 * count_by has_looks (made_by conf cpu)
  rest_bounded n cpu event seen is keeps within =
      let graced : CpuGrace (objects_of conf) conf.history cpu (conf.cpu cpu) (conf.counter cpu) _ = sound.grace.each cpu within in
      let below : slice_index seen cpu ≤ conf.counter cpu = graced.kept_below n event seen is keeps in
      let counts : conf.counter cpu ≡ counted (conf.cpu cpu) = sound.calls.counters cpu in
      let none : steps (conf.cpu cpu).current ≡ 0 = ap steps (rest.between cpu).none in
      omega (arith, below, counts, none)

  -- so where each CPU's last call is its exit call, they are legal
  pub rest_legal : ((cpu : ℕ) → IsSome (cpu_row conf.boot cpu) → IsTrue (is_exit_call (last_or None (made_by conf cpu))))
      → IsLegal conf.boot conf.history (made_by conf)
  rest_legal exits = record {
    agree = rest_agrees;
    whole = record {
      numbered = rest_numbered;
      exits = exits;
      cpus = λ cpu none. rest_idle cpu none;
    };
  }

  -- and they are graced
  pub rest_graced : IsGraced conf.boot conf.history (made_by conf)
  rest_graced = record {
    unreferenced = sound.calls.entries.unreferenced;
    unread = sound.order.unread;
    rising = sound.order.rising;
    bounded = λ n cpu event seen is keeps within. rest_bounded n cpu event seen is keeps within;
    fits = λ n cpu event seen is keeps within. (sound.between cpu n event seen is keeps within).finished;
  }
