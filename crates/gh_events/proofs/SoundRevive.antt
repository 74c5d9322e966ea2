-- An index is revived only where no object lives: its word is dead and without pins, and each object
-- that lived there was reclaimed.
use Rattle.std.proofs.Common.{◌≡◌, ◌≤◌, ◌∙◌, inl, inr, ℕ, zero, suc, Bool, true, false, List, [], ◌∷◌, length, refl, subst, sym, ap, arith, Option, Some, None, find, is_some, option_map, slice_get}
use Rattle.std.specs.Prelude.{count_by}
use Rattle.std.specs.List.{last_or, list_any}
use Rattle.std.proofs.lemmas.Bool.{eqb-true}
use Rattle.gh_base.specs.declared.limits.TheConstants.{CPUS}
use Rattle.gh_invariant.specs.Lives.{lives}
use Rattle.gh_model.specs.History.{Event, after_event, reclaims, replay, state_at}
use Rattle.gh_model.specs.Marks.{Seen}
use Rattle.gh_model.specs.Rows.{is_object}
use Rattle.gh_model.specs.declared.entry.Entry.{Entry}
use Rattle.gh_model.specs.declared.entry.Entry.TheVariants.{Acted, Part, Retired, Reclaimed}
use Rattle.gh_model.specs.declared.rows.ObjectRow.{ObjectRow}
use Rattle.gh_model.specs.declared.state.State.{State}
use Rattle.gh_events.specs.CallEvents.{pin_of_look}
use Rattle.gh_events.specs.Config.{AtAct, Config, Cpu, Current, DeadPin, Failed, Holder, Looked, Pin, Reading, Stage, Undone, is_pin_at, object_at, pin_of, present, seen_index}
use Rattle.gh_events.specs.Entries.{is_that_index}
use Rattle.gh_events.specs.HolderEvents.{MayRevive}
use Rattle.gh_events.specs.References.{HasHome, HoldsSoundly, IsGranted, IsPinned, IsRow, dead_pin, grants_at, is_revived, pin_at_stage, pins_at, pins_of}
use Rattle.gh_events.specs.Sound.{IsReclaimedBehind, IsSound}
use Rattle.gh_events.proofs.EventObjects.{Goes, IsTouched, counters_of, event_goes, life}
use Rattle.gh_events.proofs.Finding.{found_passes, total_none}
use Rattle.gh_events.proofs.Living.{index_apart}
use Rattle.gh_events.proofs.NoPins.{misses, none_counted}

-- an entry reclaims an object that lives, or the object lives on
data Next (new : State) (entry : Entry) (serial : ℕ) : Type 0 where
  Reclaims : reclaims entry ≡ Some serial → Next new entry serial
  Lives : is_some (life new.objects serial) ≡ true → Next new entry serial

life_lives : (found : Option ObjectRow) → is_some (option_map counters_of found) ≡ is_some found
life_lives None = refl
life_lives (Some row) = refl

next_touched : (s new : State) (event : Event) (entry : Entry) (serial : ℕ)
    → is_some (life s.objects serial) ≡ true → IsTouched s new event entry serial
    → Next new entry serial
next_touched s new event (Acted cpu number) serial alive made = Lives (ap is_some made.born)
next_touched s new event (Part cpu number space slot) serial alive touched = absurd touched
next_touched s new event (Retired retired seen) serial alive is =
    Lives (life_lives (find (is_object serial) new.objects) ∙ is.lives_on
    ∙ sym (life_lives (find (is_object serial) s.objects)) ∙ alive)
next_touched s new event (Reclaimed reclaimed seen) serial alive is = Reclaims (ap Some (sym is.that))

next_of : (s new : State) (event : Event) (serial : ℕ) → is_some (life s.objects serial) ≡ true
    → Goes s new event event.entry serial → Next new event.entry serial
next_of s new event serial alive (inl same) = Lives (ap is_some same ∙ alive)
next_of s new event serial alive (inr touched) = next_touched s new event event.entry serial alive touched

one_later : (event : Event) (events : List Event) (place serial : ℕ)
    → IsReclaimedBehind events place serial → IsReclaimedBehind (event ∷ events) (suc place) serial
one_later event events place serial found = record {
  at = suc found.at;
  event = found.event;
  is = found.is;
  reclaims = found.reclaims;
  behind = let before : place ≤ found.at = found.behind in omega (arith, before);
}

from_start : (events : List Event) (serial : ℕ) → IsReclaimedBehind events 1 serial
    → IsReclaimedBehind events 0 serial
from_start events serial found = record {
  at = found.at;
  event = found.event;
  is = found.is;
  reclaims = found.reclaims;
  behind = omega arith;
}

reclaimed_from : (s : State) (events : List Event) (serial : ℕ)
    → is_some (life s.objects serial) ≡ true → life (replay s events).objects serial ≡ None
    → IsReclaimedBehind events 0 serial
reclaimed_from s [] serial alive gone = absurd (let never : ⊥ = cc in never)
reclaimed_from s (event ∷ events) serial alive gone =
    by_next (next_of s (after_event s event) event serial alive (event_goes s event serial))
    (λ still. reclaimed_from (after_event s event) events serial still gone)
  where
    by_next : Next (after_event s event) event.entry serial
        → (is_some (life (after_event s event).objects serial) ≡ true → IsReclaimedBehind events 0 serial)
        → IsReclaimedBehind (event ∷ events) 0 serial
    by_next (Reclaims is) rest =
        record { at = 0; event = event; is = refl; reclaims = is; behind = omega arith }
    by_next (Lives still) rest = from_start (event ∷ events) serial (one_later event events 0 serial (rest still))

-- an object that lives at a place, and doesn't at the end, is reclaimed by an entry behind it
pub reclaimed_since : (s : State) (events : List Event) (place serial : ℕ) → place ≤ length events
    → is_some (life (state_at s events place).objects serial) ≡ true
    → life (replay s events).objects serial ≡ None → IsReclaimedBehind events place serial
reclaimed_since s events zero serial within alive gone = reclaimed_from s events serial alive gone
reclaimed_since s [] (suc place) serial within alive gone = absurd (omega (arith, within))
reclaimed_since s (event ∷ events) (suc place) serial within alive gone =
    one_later event events place serial
    (reclaimed_since (after_event s event) events place serial (omega (arith, within)) alive gone)

module _ (conf : Config) (at object count : ℕ) (sound : IsSound conf)
    (may : MayRevive conf at object count) where
  no_life_by : (serial : ℕ) (found : Option ObjectRow) → find (is_object serial) (present conf).objects ≡ found
      → conf.index serial ≡ object → life (present conf).objects serial ≡ None
  no_life_by serial None is here = ap (option_map counters_of) is
  no_life_by serial (Some row) is here =
      let same : row.serial.0 ≡ serial = eqb-true row.serial.0 serial (found_passes (is_object serial) (present conf).objects row is) in
      let own : IsRow (present conf) row = subst (λ (n : ℕ). find (is_object n) (present conf).objects ≡ Some row) (sym same) is in
      absurd (index_apart (present conf) conf.index row object own may.uninhabited (ap conf.index same ∙ here))

  -- each object that had the index was reclaimed since it lived
  pub revive_reclaimed : (place serial : ℕ) → place ≤ length conf.history
      → lives (state_at conf.boot conf.history place).objects serial ≡ true → conf.index serial ≡ object
      → IsReclaimedBehind conf.history place serial
  revive_reclaimed place serial within alive here =
      reclaimed_since conf.boot conf.history place serial within
      (life_lives (find (is_object serial) (state_at conf.boot conf.history place).objects) ∙ alive)
      (no_life_by serial (find (is_object serial) (present conf).objects) refl here)

  no_home : HasHome conf object → ⊥
  no_home (inl some) =
      let none : object_at (present conf) conf.index object ≡ None = may.uninhabited in
      let never : ⊥ = cc in
      never
  no_home (inr fresh) =
      let revived : list_any (is_that_index object) may.holder.revived ≡ true = sym (ap (λ (turn : Option Holder). is_revived turn object) may.has_turn.turn) ∙ fresh.revived in
      let none : list_any (is_that_index object) may.holder.revived ≡ false = ap (λ (list : List ℕ). list_any (is_that_index object) list) may.first in
      let never : ⊥ = cc in
      never

  dead_by : (dead : Bool) → conf.dead object ≡ dead → dead ≡ true
  dead_by true is = refl
  dead_by false is = absurd (no_home (sound.references.counted.homes object may.is_index is))

  -- its word is dead
  pub revive_dead : conf.dead object ≡ true
  revive_dead = dead_by (conf.dead object) refl

  not_there : (row : ObjectRow) (n : ℕ) → object_at (present conf) conf.index n ≡ Some row → n ≡ object → ⊥
  not_there row n is same =
      let there : object_at (present conf) conf.index object ≡ Some row = subst (λ (k : ℕ). object_at (present conf) conf.index k ≡ Some row) same is in
      let none : object_at (present conf) conf.index object ≡ None = may.uninhabited in
      let never : ⊥ = cc in
      never

  pinned_none : (pin : Pin) → IsPinned conf pin → is_pin_at object pin ≡ false
  pinned_none pin pinned =
      misses (is_pin_at object pin) (λ here. not_there pinned.row pin.index pinned.lives_there (eqb-true pin.index object here))

  look_none : (last : Option Seen) → ((seen : Seen) → last ≡ Some seen → IsGranted conf seen)
      → count_by (is_pin_at object) (pin_of_look last) ≡ 0
  look_none None granted = refl
  look_none (Some seen) granted =
      let is : IsGranted conf seen = granted seen refl in
      none_counted (is_pin_at object) (pin_of seen ∷ []) (one_by seen is)
    where
      one_by : (seen : Seen) → IsGranted conf seen → (i : ℕ) (pin : Pin)
          → slice_get (pin_of seen ∷ []) i ≡ Some pin → is_pin_at object pin ≡ false
      one_by seen is zero pin that =
          let same : pin_of seen ≡ pin = cc in
          subst (λ (one : Pin). is_pin_at object one ≡ false) same
          (misses (is_pin_at object (pin_of seen)) (λ here. not_there is.row (seen_index seen) is.lives_there (eqb-true (seen_index seen) object here)))
      one_by seen is (suc i) pin that = absurd (let never : ⊥ = cc in never)

  stage_none : (stage : Stage) (seen : List Seen)
      → ((one : Seen) → grants_at stage ≡ true → last_or None seen ≡ Some one → IsGranted conf one)
      → count_by (is_pin_at object) (pin_at_stage stage seen) ≡ 0
  stage_none DeadPin seen granted = look_none (last_or None seen) (λ one last. granted one refl last)
  stage_none Reading seen granted = refl
  stage_none Looked seen granted = refl
  stage_none Undone seen granted = refl
  stage_none Failed seen granted = refl
  stage_none AtAct seen granted = refl

  current_none : (cpu : Cpu) (current : Option Current) → cpu.current ≡ current → HoldsSoundly conf cpu
      → count_by (is_pin_at object) (dead_pin current) ≡ 0
  current_none cpu None is holds = refl
  current_none cpu (Some call) is holds =
      stage_none call.stage call.seen (λ one grants last. holds.granted call one (record { is_current = is; grants = grants }) last)

  cpu_none : (n : ℕ) → pins_of (conf.cpu n) object ≡ 0
  cpu_none n =
      let holds : HoldsSoundly conf (conf.cpu n) = sound.references.holds n in
      let held : count_by (is_pin_at object) (conf.cpu n).pins ≡ 0 = none_counted (is_pin_at object) (conf.cpu n).pins (λ i pin is. pinned_none pin (holds.pinned i pin is)) in
      let dead : count_by (is_pin_at object) (dead_pin (conf.cpu n).current) ≡ 0 = current_none (conf.cpu n) (conf.cpu n).current refl holds in
      omega arith

  -- and has no pins: so none is lost with its count
  pub revive_unpinned : pins_at conf.cpu object ≡ 0
  revive_unpinned = total_none CPUS (λ (cpu : ℕ). pins_of (conf.cpu cpu) object) cpu_none

  pub revive_zero : conf.count object ≡ 0
  revive_zero = sound.references.counted.dead_counts object may.is_index revive_dead ∙ revive_unpinned
