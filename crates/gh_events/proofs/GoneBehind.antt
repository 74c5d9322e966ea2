-- An object that an entry reclaims lives no more at the history's end.
use Rattle.std.proofs.Common.{◌≡◌, ◌<◌, ◌≤◌, ℕ, zero, suc, true, List, [], ◌∷◌, refl, subst, sym, ap, arith, Option, Some, None, find, option_map, slice_get}
use Rattle.gh_invariant.specs.Events.{EventsFit}
use Rattle.gh_invariant.specs.Valid.{IsValid}
use Rattle.gh_invariant.proofs.EventsKept.{event_valid}
use Rattle.gh_invariant.proofs.HistoriesKept.{entry_rises}
use Rattle.gh_invariant.proofs.RowsLeft.{find_gone}
use Rattle.gh_model.specs.Graced.{GoesUnreferenced}
use Rattle.gh_model.specs.History.{Event, after_entry, after_event, is_retired, reclaims, replay, state_at}
use Rattle.gh_model.specs.Rows.{is_object}
use Rattle.gh_model.specs.declared.entry.Entry.{Entry}
use Rattle.gh_model.specs.declared.entry.Entry.TheVariants.{Acted, Part, Retired, Reclaimed}
use Rattle.gh_model.specs.declared.rows.ObjectRow.{ObjectRow}
use Rattle.gh_model.specs.declared.state.State.{State}
use Rattle.gh_events.proofs.EventObjects.{counters_of, life}
use Rattle.gh_events.proofs.RetiredSince.{given_serial, gone_for_ever}

retired_given : (s : State) (serial : ℕ) (found : Option ObjectRow)
    → find (is_object serial) s.objects ≡ found → is_retired found ≡ true → IsValid s
    → serial < s.next_serial
retired_given s serial None is retired valid = absurd (let never : ⊥ = cc in never)
retired_given s serial (Some row) is retired valid =
    given_serial s serial row.retired valid (ap (option_map counters_of) is)

-- an object that may be reclaimed has a serial that was given
reclaimed_given : (s : State) (entry : Entry) (serial : ℕ) → IsValid s → reclaims entry ≡ Some serial
    → GoesUnreferenced s entry → serial < s.next_serial
reclaimed_given s (Acted cpu number) serial valid is goes = absurd (let never : ⊥ = cc in never)
reclaimed_given s (Part cpu number space slot) serial valid is goes =
    absurd (let never : ⊥ = cc in never)
reclaimed_given s (Retired retired seen) serial valid is goes = absurd (let never : ⊥ = cc in never)
reclaimed_given s (Reclaimed gone seen) serial valid is goes =
    let same : gone.0 ≡ serial = cc in
    subst (λ (n : ℕ). n < s.next_serial) same
    (retired_given s gone.0 (find (is_object gone.0) s.objects) refl goes.1 valid)

-- and is gone behind the entry
reclaimed_gone : (s : State) (event : Event) (entry : Entry) (serial : ℕ)
    → reclaims entry ≡ Some serial → GoesUnreferenced s entry
    → life (after_entry s event entry).objects serial ≡ None
reclaimed_gone s event (Acted cpu number) serial is goes = absurd (let never : ⊥ = cc in never)
reclaimed_gone s event (Part cpu number space slot) serial is goes =
    absurd (let never : ⊥ = cc in never)
reclaimed_gone s event (Retired retired seen) serial is goes = absurd (let never : ⊥ = cc in never)
reclaimed_gone s event (Reclaimed gone seen) serial is goes =
    let same : gone.0 ≡ serial = cc in
    subst (λ (n : ℕ). life (after_entry s event (Reclaimed gone seen)).objects n ≡ None) same
    (rw (goes.0, goes.1)
    (ap (option_map counters_of) (find_gone (is_object gone.0) (is_object gone.0) s.objects (λ row other. other))))

-- and ever after
pub gone_behind : (s : State) (events : List Event) (n : ℕ) (event : Event) (serial : ℕ)
    → IsValid s → EventsFit s events → slice_get events n ≡ Some event
    → GoesUnreferenced (state_at s events n) event.entry → reclaims event.entry ≡ Some serial
    → life (replay s events).objects serial ≡ None
gone_behind s [] n event serial valid fit is goes reclaimed = absurd (let never : ⊥ = cc in never)
gone_behind s (one ∷ events) zero event serial valid fit is goes reclaimed =
    let same : one ≡ event = cc in
    let given : serial < s.next_serial = reclaimed_given s event.entry serial valid reclaimed goes in
    let rises : s.next_serial ≤ (after_event s event).next_serial = entry_rises s event event.entry in
    subst (λ (first : Event). life (replay (after_event s first) events).objects serial ≡ None) (sym same)
    (gone_for_ever (after_event s event) events serial (omega (arith, given, rises))
    (reclaimed_gone s event event.entry serial reclaimed goes))
gone_behind s (one ∷ events) (suc n) event serial valid fit is goes reclaimed =
    gone_behind (after_event s one) events n event serial (event_valid s one valid fit.first) fit.others is goes reclaimed
