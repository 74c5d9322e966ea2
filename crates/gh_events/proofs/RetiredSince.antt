-- An object that wasn't retired in an earlier state and is retired now was retired by an entry
-- between.
use Rattle.std.proofs.Common.{◌≡◌, ◌<◌, ◌≤◌, ◌∙◌, inl, inr, ℕ, zero, suc, Bool, true, false, List, [], ◌∷◌, length, refl, sym, ap, arith, Option, Some, None, find, is_some, option_map}
use Rattle.std.specs.Prelude.{nat_lt}
use Rattle.std.proofs.lemmas.Bool.Decides.{nat_tests}
use Rattle.gh_invariant.specs.Lives.{lives}
use Rattle.gh_invariant.specs.Valid.{IsValid}
use Rattle.gh_invariant.proofs.Counting.{unfound}
use Rattle.gh_invariant.proofs.HistoriesKept.{entry_rises}
use Rattle.gh_model.specs.History.{Event, after_event, replay, retires, state_at}
use Rattle.gh_model.specs.Legal.{IsRetiredBehind}
use Rattle.gh_model.specs.Rows.{is_object}
use Rattle.gh_model.specs.declared.entry.Entry.{Entry}
use Rattle.gh_model.specs.declared.entry.Entry.TheVariants.{Acted, Part, Retired, Reclaimed}
use Rattle.gh_model.specs.declared.rows.ObjectRow.{ObjectRow}
use Rattle.gh_model.specs.declared.state.State.{State}
use Rattle.gh_events.proofs.EventObjects.{Goes, IsTouched, counters_of, event_goes, life}

-- what lives has a serial that was given
pub given_serial : (s : State) (serial : ℕ) (counters : Option (List ℕ)) → IsValid s
    → life s.objects serial ≡ Some counters → serial < s.next_serial
given_serial s serial counters valid lives =
    by_order (nat_lt serial s.next_serial) refl
  where
    by_order : (below : Bool) → nat_lt serial s.next_serial ≡ below → serial < s.next_serial
    by_order true is = grind (arith, nat_tests)
    by_order false is =
        let above : s.next_serial ≤ serial = grind (arith, nat_tests) in
        let none : life s.objects serial ≡ None = ap (option_map counters_of) (unfound (is_object serial) s.objects (valid.objects.later serial above)) in
        absurd (let never : ⊥ = cc in never)

-- one that lives no more
abbrev IsGone : State → ℕ → Type 0
IsGone s serial = life s.objects serial ≡ None

no_life : (found : Option ObjectRow) → is_some found ≡ false → option_map counters_of found ≡ None
no_life None none = refl
no_life (Some row) none = absurd (let never : ⊥ = cc in never)

was_no_life : (found : Option ObjectRow) → option_map counters_of found ≡ None → is_some found ≡ false
was_no_life None none = refl
was_no_life (Some row) none = absurd (let never : ⊥ = cc in never)

touched_gone : (s new : State) (event : Event) (entry : Entry) (serial : ℕ) → serial < s.next_serial
    → IsGone s serial → IsTouched s new event entry serial → IsGone new serial
touched_gone s new event (Acted cpu number) serial given gone made =
    let next : serial ≡ s.next_serial = made.next in absurd (omega (arith, next, given))
touched_gone s new event (Part cpu number space slot) serial given gone touched = absurd touched
touched_gone s new event (Retired retired seen) serial given gone is =
    no_life (find (is_object serial) new.objects) (is.lives_on ∙ was_no_life (find (is_object serial) s.objects) gone)
touched_gone s new event (Reclaimed reclaimed seen) serial given gone is = is.gone

goes_gone : (s new : State) (event : Event) (entry : Entry) (serial : ℕ) → serial < s.next_serial
    → IsGone s serial → Goes s new event entry serial → IsGone new serial
goes_gone s new event entry serial given gone (inl same) = same ∙ gone
goes_gone s new event entry serial given gone (inr touched) =
    touched_gone s new event entry serial given gone touched

-- an object that is gone never comes back
pub gone_for_ever : (s : State) (events : List Event) (serial : ℕ) → serial < s.next_serial
    → IsGone s serial → IsGone (replay s events) serial
gone_for_ever s [] serial given gone = gone
gone_for_ever s (event ∷ events) serial given gone =
    let rises : s.next_serial ≤ (after_event s event).next_serial = entry_rises s event event.entry in
    gone_for_ever (after_event s event) events serial (omega (arith, rises, given))
    (goes_gone s (after_event s event) event event.entry serial given gone (event_goes s event serial))

-- what an event leaves of an object that isn't retired: it retires it, or that is so still, or the
-- object is gone
data Next (s new : State) (entry : Entry) (serial : ℕ) : Type 0 where
  Retires : retires entry ≡ Some serial → Next s new entry serial
  Stays : life new.objects serial ≡ Some None → Next s new entry serial
  Gone : IsGone new serial → Next s new entry serial

next_touched : (s new : State) (event : Event) (entry : Entry) (serial : ℕ)
    → IsTouched s new event entry serial → Next s new entry serial
next_touched s new event (Acted cpu number) serial made = Stays made.born
next_touched s new event (Part cpu number space slot) serial touched = absurd touched
next_touched s new event (Retired retired seen) serial is = Retires (ap Some (sym is.that))
next_touched s new event (Reclaimed reclaimed seen) serial is = Gone is.gone

next_of : (s new : State) (event : Event) (serial : ℕ) → life s.objects serial ≡ Some None
    → Goes s new event event.entry serial → Next s new event.entry serial
next_of s new event serial lives (inl same) = Stays (same ∙ lives)
next_of s new event serial lives (inr touched) = next_touched s new event event.entry serial touched

abbrev Behind : State → List Event → ℕ → ℕ → Type 0
Behind s events place serial = IsRetiredBehind s events place serial

-- found one entry later
one_later : (s t : State) (event : Event) (events : List Event) (place serial : ℕ)
    → Behind t events place serial → Behind s (event ∷ events) (suc place) serial
one_later s t event events place serial found = record {
  at = suc found.at;
  event = found.event;
  is = found.is;
  retires = found.retires;
  behind = let before : place ≤ found.at = found.behind in omega (arith, before);
}

from_start : (s : State) (events : List Event) (place serial : ℕ) → Behind s events (suc place) serial
    → Behind s events 0 serial
from_start s events place serial found = record {
  at = found.at;
  event = found.event;
  is = found.is;
  retires = found.retires;
  behind = omega arith;
}

retired_from : (s : State) (events : List Event) (serial : ℕ) (seen : List ℕ) → serial < s.next_serial
    → life s.objects serial ≡ Some None → life (replay s events).objects serial ≡ Some (Some seen)
    → Behind s events 0 serial
retired_from s [] serial seen given lives retired = absurd (let never : ⊥ = cc in never)
retired_from s (event ∷ events) serial seen given lives retired =
    by_next (next_of s (after_event s event) event serial lives (event_goes s event serial))
    (λ still. retired_from (after_event s event) events serial seen later still retired)
  where
    later : serial < (after_event s event).next_serial
    later =
        let rises : s.next_serial ≤ (after_event s event).next_serial = entry_rises s event event.entry in
        omega (arith, rises, given)

    by_next : Next s (after_event s event) event.entry serial
        → (life (after_event s event).objects serial ≡ Some None → Behind (after_event s event) events 0 serial)
        → Behind s (event ∷ events) 0 serial
    by_next (Retires is) rest = record { at = 0; event = event; is = refl; retires = is; behind = omega arith }
    by_next (Stays still) rest =
        from_start s (event ∷ events) 0 serial
        (one_later s (after_event s event) event events 0 serial (rest still))
    by_next (Gone gone) rest =
        let never_back : life (replay (after_event s event) events).objects serial ≡ None = gone_for_ever (after_event s event) events serial later gone in
        absurd (let never : ⊥ = cc in never)

-- an object that isn't retired at a place, and is at the end, is retired by an entry behind that
-- place
pub retired_since : (s : State) (events : List Event) (place serial : ℕ) (seen : List ℕ)
    → place ≤ length events → serial < (state_at s events place).next_serial
    → life (state_at s events place).objects serial ≡ Some None
    → life (replay s events).objects serial ≡ Some (Some seen)
    → IsRetiredBehind s events place serial
retired_since s events zero serial seen within given lives retired =
    retired_from s events serial seen given lives retired
retired_since s [] (suc place) serial seen within given lives retired = absurd (omega (arith, within))
retired_since s (event ∷ events) (suc place) serial seen within given lives retired =
    one_later s (after_event s event) event events place serial
    (retired_since (after_event s event) events place serial seen (omega (arith, within)) given lives retired)
