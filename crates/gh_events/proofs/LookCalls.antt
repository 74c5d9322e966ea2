-- A look keeps sound calls, where the words are those of the present state.
use Rattle.std.proofs.Common.{◌≡◌, ◌==◌, ◌+◌, ◌*◌, ◌-◌, ◌<◌, ◌≤◌, ◌∙◌, ◌⊎◌, inl, inr, ℕ, Bool, true, false, not, List, [], ◌∷◌, ◌++◌, length, take, max, refl, subst, sym, ap, arith, Option, Some, None, find, is_some, map, option_map, count_by, if◌then◌else◌}
use Rattle.std.specs.Prelude.{◌||◌, nat_lt}
use Rattle.std.specs.Option.{option_map_or}
use Rattle.std.proofs.lemmas.Bool.Decides.{nat_tests}
use Rattle.std.proofs.lemmas.List.{length-append, take-append-le}
use Rattle.std.proofs.lemmas.Nat.{mod-mul-add}
use Rattle.gh_base.specs.CapWord.{filled_state, indices, packed, rights_values, set_at_of, settings, state_number}
use Rattle.gh_base.specs.Kind.{kind_number}
use Rattle.gh_base.specs.declared.kind.Kind.TheVariants as kind
use Rattle.gh_invariant.specs.Grants.{is_running}
use Rattle.gh_invariant.specs.Lives.{lives}
use Rattle.gh_invariant.specs.NamesLiving.{SpacesLive, living_kind, row_kind}
use Rattle.gh_invariant.proofs.FactLemmas.{spaces_live}
use Rattle.gh_invariant.proofs.WordsSince.{entry_counts, word_since}
use Rattle.gh_model.proofs.RunLists.{in_turn_snoc, take_all}
use Rattle.gh_model.specs.Boot.{is_of_kind}
use Rattle.gh_model.specs.History.{Event, after_event, replay, state_at}
use Rattle.gh_model.specs.Legal.{CallIs, LookIs}
use Rattle.gh_model.specs.Marks.{Fails, Grants, InTurn, Made, Outcome, Seen, Wants, cspace_of, has_looks, outcome, place_after, word_of}
use Rattle.gh_model.specs.Registers.{needs_of}
use Rattle.gh_model.specs.Rows.{cpu_row, is_object}
use Rattle.gh_model.specs.Word.{Shows, ShowsRow, is_slot, word_at}
use Rattle.gh_model.specs.declared.rows.CapabilityRow.{CapabilityRow}
use Rattle.gh_model.specs.declared.rows.CpuRow.{CpuRow}
use Rattle.gh_model.specs.declared.rows.ObjectRow.{ObjectRow}
use Rattle.gh_model.specs.declared.state.State.{State}
use Rattle.gh_model.specs.declared.word.Word.{Word}
use Rattle.gh_events.specs.CallEvents.{MayLook, found, loaded, looked, stage_after_look, with_call, with_look}
use Rattle.gh_events.specs.Calls.{BeginsAtBoot, CurrentIs, HasCalls, but_last, came_fits, is_dying, looks_fit, needs_fit, pinned_looks, steps, steps_at}
use Rattle.gh_events.specs.Config.{AtAct, Config, Cpu, Current, Holder, IsIn, Reading, last_place, pin_of, present}
use Rattle.gh_events.specs.Entries.{row_shown, shown}
use Rattle.gh_events.specs.ValidState.{CpuFits, HasValid, IsExiting, MayRun, acts}
use Rattle.gh_events.specs.Words.{HasRoom, ShowsSlot, ShowsWords}
use Rattle.gh_events.proofs.CallMoves.{CallGoesOn, IsNotHolder, no_holder, on_sound, only_made}
use Rattle.gh_events.proofs.CallsGoOn.{its_counter, its_needs, its_pinned, none_acts}
use Rattle.gh_events.proofs.CallsKeep.{stage_number}
use Rattle.gh_events.proofs.CpusRun.{entry_runs}
use Rattle.gh_events.proofs.EventObjects.{counters_of}
use Rattle.gh_events.proofs.LookKeeps.{set_within}
use Rattle.gh_events.proofs.Places.{calls_within, looks_within}
use Rattle.gh_events.proofs.RetiredSince.{given_serial}

-- the entries of a history are counted
pub entries_all : (s : State) (events : List Event) → (replay s events).entries ≡ s.entries + length events
entries_all s [] = omega arith
entries_all s (event ∷ events) =
    let one : (after_event s event).entries ≡ s.entries + 1 = entry_counts s event event.entry in
    let rest : (replay (after_event s event) events).entries ≡ (after_event s event).entries + length events = entries_all (after_event s event) events in
    omega (arith, one, rest)

-- a CPU that runs at the end is the boot's
runs_since : (cpu : ℕ) (row : CpuRow) → row.exited ≡ false → (s : State) (events : List Event)
    → cpu_row (replay s events) cpu ≡ Some row → cpu_row s cpu ≡ Some row
runs_since cpu row runs s [] is = is
runs_since cpu row runs s (event ∷ events) is =
    entry_runs cpu row runs s event event.entry (runs_since cpu row runs (after_event s event) events is)

-- the row of a CPU that runs
record IsRunningRow (found : Option CpuRow) : Type 0 where
  row : CpuRow
  is : found ≡ Some row
  runs : row.exited ≡ false

running_row : (found : Option CpuRow) → is_running found ≡ true → IsRunningRow found
running_row None runs = absurd (let never : ⊥ = cc in never)
running_row (Some row) runs = record { row = row; is = refl; runs = is_not row.exited runs }
  where
    is_not : (b : Bool) → not b ≡ true → b ≡ false
    is_not true is = absurd (let never : ⊥ = cc in never)
    is_not false is = refl

-- a setting in a word
setting_of : (state kind master object rights entry : ℕ) → entry < settings
    → set_at_of (packed state kind master object rights entry) ≡ entry
setting_of state kind master object rights entry few =
    mod-mul-add ((((state * 8 + kind) * 2 + master) * indices + object) * rights_values + rights) settings entry few

module _ (conf : Config) (at slot : ℕ) (sound : HasCalls conf) (valid : HasValid conf)
    (words : ShowsWords conf) (room : HasRoom conf) (may : MayLook conf at slot) where
  no_act : (call : Current) → IsIn (conf.cpu at) call AtAct → ⊥
  no_act call acting =
      let same : Some may.call ≡ Some call = sym may.reading.is_current ∙ acting.is_current in
      let equal : may.call ≡ call = cc in
      let stages : Reading ≡ AtAct = sym may.reading.at_stage ∙ ap (λ (one : Current). one.stage) equal ∙ acting.at_stage in
      let numbers : stage_number Reading ≡ stage_number AtAct = ap stage_number stages in
      cc

  other : IsNotHolder conf.turn at
  other = no_holder conf at sound no_act

  cpu_fits : CpuFits conf.boot (present conf) (acts conf.turn at) at (conf.cpu at)
  cpu_fits = valid.cpus at

  may_run : MayRun conf.boot at (conf.cpu at)
  may_run = cpu_fits.called (called_by (is_some (conf.cpu at).next) (ap is_some may.reading.is_current))
    where
      called_by : (b : Bool) {c : Bool} → c ≡ true → (b || c) ≡ true
      called_by true is = refl
      called_by false is = is

  no_exit_now : (turn : Option Holder) → IsNotHolder turn at → acts turn at ≡ true → ⊥
  no_exit_now None not_its acting = let never : ⊥ = cc in never
  no_exit_now (Some holder) not_its acting =
      let apart : (holder.cpu == at) ≡ false = not_its holder refl in
      let none : acts (Some holder) at ≡ false = rw apart refl in
      let never : ⊥ = cc in never

  runs_now : is_running (cpu_row (present conf) at) ≡ true
  runs_now = by_exit (cpu_fits.runs may_run)
    where
      by_exit : (is_running (cpu_row (present conf) at) ≡ true) ⊎ IsExiting (acts conf.turn at) (conf.cpu at)
          → is_running (cpu_row (present conf) at) ≡ true
      by_exit (inl runs) = runs
      by_exit (inr exiting) = absurd (no_exit_now conf.turn other exiting.acted_now)

  own : IsRunningRow (cpu_row (present conf) at)
  own = running_row (cpu_row (present conf) at) runs_now

  boot_row : cpu_row conf.boot at ≡ Some own.row
  boot_row = runs_since at own.row own.runs conf.boot conf.history own.is

  abbrev cspace : ℕ
  cspace = cspace_of conf.boot at

  cspace_is : cspace ≡ own.row.cspace.0
  cspace_is = ap (λ (row : Option CpuRow). option_map_or (λ (one : CpuRow). one.cspace.0) row 0) boot_row

  abbrev word : Word
  word = word_at (present conf) cspace slot

  abbrev new : Seen
  new = found conf at slot may.call

  -- any number's word is shown, and that of a number that names no slot is that of number 0
  is_shown : (number : ℕ) → ShowsSlot conf cspace number
  is_shown number =
      subst (λ (n : ℕ). ShowsSlot conf n number) (sym cspace_is) (words.attached at number own.row own.is own.runs)

  loaded_by : (names : Bool) → is_slot slot ≡ names
      → (conf.cap (conf.index cspace) (if names then slot else 0)).0 ≡ shown conf.index word
  loaded_by true is = is_shown slot
  loaded_by false none =
      let empty : word ≡ record { row = None; set_at = 0 } = rw none refl in
      is_shown 0 ∙ ap (shown conf.index) (sym empty)

  pub loaded_is : (loaded conf at slot).0 ≡ shown conf.index word
  loaded_is = loaded_by (is_slot slot) refl

  set_few : word.set_at < settings
  set_few =
      let within : word.set_at ≤ (present conf).entries = set_within (present conf) valid.valid cspace slot in
      omega (arith, within, room)

  pub setting_is : set_at_of (loaded conf at slot).0 ≡ word.set_at
  setting_is = ap set_at_of loaded_is ∙ by_row word.row
    where
      by_row : (row : Option CapabilityRow) → set_at_of (row_shown conf.index word.set_at row) ≡ word.set_at
      by_row None = omega (arith, set_few)
      by_row (Some row) =
          setting_of (state_number (filled_state row.valid)) (kind_number row.kind) (if row.master then 1 else 0) (conf.index row.serial.0) row.rights.0 word.set_at set_few

  shows_row : (row : Option CapabilityRow) → word.row ≡ row → ShowsRow (row_shown conf.index word.set_at row) row word.set_at
  shows_row None is = refl
  shows_row (Some row) is = record {
    object = conf.index row.serial.0;
    is_index = words.within cspace slot row is;
    bits_are = refl;
  }

  shows : Shows (loaded conf at slot) word
  shows = subst (λ (bits : ℕ). ShowsRow bits word.row word.set_at) (sym loaded_is) (shows_row word.row refl)

  module _ (begins : BeginsAtBoot conf) where
    counted : (present conf).entries ≡ length conf.history
    counted =
        let all : (present conf).entries ≡ conf.boot.entries + length conf.history = entries_all conf.boot conf.history in
        omega (arith, all, begins)

    now : CurrentIs conf.boot conf.history conf.index conf.dead at (conf.cpu at) may.call
    now = (sound.calls at).current may.call may.reading.is_current

    last_within : last_place (conf.cpu at) may.call.seen ≤ length conf.history
    last_within =
        looks_within (length conf.history) (place_after (conf.cpu at).made) may.call.seen
        (calls_within conf.boot conf.history at (conf.cpu at).made
        (subst (λ (calls : List Made). InTurn (CallIs conf.boot conf.history at) calls) (only_made conf.boot conf.history at conf.turn (conf.cpu at) other) (sound.calls at).finished))
        (λ i seen is. (now.looks i seen is).within)

    place_is : new.look.place ≡ max word.set_at (last_place (conf.cpu at) may.call.seen)
    place_is = ap (λ (n : ℕ). max n (last_place (conf.cpu at) may.call.seen)) setting_is

    set_before : word.set_at ≤ length conf.history
    set_before =
        let within : word.set_at ≤ (present conf).entries = set_within (present conf) valid.valid cspace slot in
        omega (arith, within, counted)

    place_within : new.look.place ≤ length conf.history
    place_within = omega (arith, place_is, set_before, last_within)

    spaces : SpacesLive conf.boot own.row
    spaces = spaces_live conf.boot valid.boot_valid at own.row boot_row own.runs

    spaces_now : SpacesLive (present conf) own.row
    spaces_now = spaces_live (present conf) valid.valid at own.row own.is own.runs

    made : cspace < conf.boot.next_serial
    made =
        subst (λ (n : ℕ). n < conf.boot.next_serial) (sym cspace_is)
        (given_by (find (is_object own.row.cspace.0) conf.boot.objects) refl spaces.cspace)
      where
        given_by : (row : Option ObjectRow) → find (is_object own.row.cspace.0) conf.boot.objects ≡ row
            → is_of_kind kind.Cspace row ≡ true → own.row.cspace.0 < conf.boot.next_serial
        given_by None is lives = absurd (let never : ⊥ = cc in never)
        given_by (Some row) is lives =
            given_serial conf.boot own.row.cspace.0 row.retired valid.boot_valid (ap (option_map counters_of) is)

    lives_now : is_some (living_kind (present conf).objects cspace) ≡ true
    lives_now =
        subst (λ (n : ℕ). is_some (living_kind (present conf).objects n) ≡ true) (sym cspace_is)
        (lives_by (find (is_object own.row.cspace.0) (present conf).objects) spaces_now.cspace)
      where
        lives_by : (row : Option ObjectRow) → is_of_kind kind.Cspace row ≡ true → is_some (option_map row_kind row) ≡ true
        lives_by None lives = absurd (let never : ⊥ = cc in never)
        lives_by (Some row) lives = refl

    found_there : word_at (state_at conf.boot conf.history new.look.place) cspace slot ≡ word
    found_there =
        word_since conf.boot conf.history cspace slot new.look.place valid.boot_valid valid.events_fit made lives_now
        (omega (arith, place_is, begins)) place_within

    look_is : LookIs conf.boot conf.history cspace (place_after (conf.cpu at).made) (needs_of may.call.given.call) may.call.seen new
    look_is = record {
      need = may.need;
      asked = may.asked;
      place = place_is;
      within = place_within;
      found = found_there;
      shown = shows;
    }

    -- the call with its look

    abbrev came : Outcome
    came = outcome (needs_of may.call.given.call) (map word_of (may.call.seen ++ new ∷ []))

    came_ok : (one : Outcome) → came_fits (stage_after_look one) one ≡ true
    came_ok (Wants slot need) = refl
    came_ok (Fails errno) = refl
    came_ok Grants = refl

    more_looks : nat_lt 0 (length (may.call.seen ++ new ∷ [])) ≡ true
    more_looks =
        let number : length (may.call.seen ++ new ∷ []) ≡ length may.call.seen + 1 = length-append may.call.seen (new ∷ []) in
        grind (arith, nat_tests)

    looked_ok : (one : Outcome) → looks_fit (stage_after_look one) (may.call.seen ++ new ∷ []) ≡ true
    looked_ok (Wants slot need) = more_looks
    looked_ok (Fails errno) = more_looks
    looked_ok Grants = more_looks

    needs_ok : (one : Outcome) → needs_fit (stage_after_look one) may.call.given ≡ true
    needs_ok (Wants slot need) = its_needs conf at sound may.call Reading may.reading
    needs_ok (Fails errno) = its_needs conf at sound may.call Reading may.reading
    needs_ok Grants = its_needs conf at sound may.call Reading may.reading

    front_is : but_last (may.call.seen ++ new ∷ []) ≡ may.call.seen
    front_is =
        let number : length (may.call.seen ++ new ∷ []) ≡ length may.call.seen + 1 = length-append may.call.seen (new ∷ []) in
        let before : length (may.call.seen ++ new ∷ []) - 1 ≡ length may.call.seen = omega (arith, number) in
        ap (λ (n : ℕ). take n (may.call.seen ++ new ∷ [])) before
        ∙ take-append-le (length may.call.seen) may.call.seen (new ∷ []) (omega arith)
        ∙ take_all may.call.seen

    pins_are : (conf.cpu at).pins ≡ map pin_of (but_last (may.call.seen ++ new ∷ []))
    pins_are = its_pinned conf at sound may.call Reading may.reading ∙ ap (map pin_of) (sym front_is)

    pinned_ok : (one : Outcome) → (conf.cpu at).pins ≡ map pin_of (pinned_looks (stage_after_look one) (may.call.seen ++ new ∷ []))
    pinned_ok (Wants slot need) = pins_are
    pinned_ok (Fails errno) = pins_are
    pinned_ok Grants = pins_are

    not_dying : (one : Outcome) → is_dying (stage_after_look one) ≡ true → ⊥
    not_dying (Wants slot need) dying = let never : ⊥ = cc in never
    not_dying (Fails errno) dying = let never : ⊥ = cc in never
    not_dying Grants dying = let never : ⊥ = cc in never

    one_step : (one : Outcome) → steps_at (stage_after_look one) may.call.given ≡ 1
    one_step (Wants slot need) = refl
    one_step (Fails errno) = refl
    one_step Grants = refl

    looker : Cpu
    looker = with_call (λ call. with_look (found conf at slot call) call) (conf.cpu at)

    looking : option_map (λ (call : Current). with_look (found conf at slot call) call) (conf.cpu at).current ≡ Some (with_look new may.call)
    looking = ap (option_map (λ (call : Current). with_look (found conf at slot call) call)) may.reading.is_current

    looked_current : CurrentIs conf.boot conf.history conf.index conf.dead at looker (with_look new may.call)
    unfolding looker
    looked_current = record {
      follows = now.follows;
      section = now.section;
      looks = in_turn_snoc (LookIs conf.boot conf.history cspace (place_after (conf.cpu at).made) (needs_of may.call.given.call)) may.call.seen new now.looks look_is;
      came = came_ok came;
      looked = looked_ok came;
      needs = needs_ok came;
      pinned = pinned_ok came;
      dies = λ seen dying last. absurd (not_dying came dying);
    }

    look_on : CallGoesOn conf at looker conf.counter
    unfolding looker
    look_on = record {
      other = no_act;
      same = refl;
      counts =
          let new_steps : steps (option_map (λ (call : Current). with_look (found conf at slot call) call) (conf.cpu at).current) ≡ steps_at (stage_after_look came) may.call.given = ap steps looking in
          let old : conf.counter at ≡ 2 * count_by has_looks (conf.cpu at).made + 1 = its_counter conf at sound may.call Reading may.reading in
          omega (arith, new_steps, one_step came, old);
      counters = λ n differs. refl;
      current = λ call is.
          let same : Some (with_look new may.call) ≡ Some call = sym looking ∙ is in
          let equal : with_look new may.call ≡ call = cc in
          subst (λ (one : Current). CurrentIs conf.boot conf.history conf.index conf.dead at looker one) equal looked_current;
      next = λ given is. absurd (none_acts (conf.cpu at).current may.call ((sound.calls at).next given is).none may.reading.is_current);
      idle = λ none. absurd (none_acts (conf.cpu at).current may.call ((sound.calls at).idle none).current may.reading.is_current);
    }

    -- a look keeps sound calls
    pub look_keeps_calls : HasCalls (looked conf at slot)
    unfolding looker
    look_keeps_calls = on_sound conf at looker conf.count conf.counter look_on sound
