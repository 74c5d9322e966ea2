-- The log with an entry more is that of the rows behind the entry.
use Rattle.std.proofs.Common.{◌≡◌, ◌∙◌, ◌∷◌, ◌++◌, [], Bool, true, false, List, Result, Ok, Err, map, refl, sym, ap, subst, if◌then◌else◌}
use Rattle.std.specs.Prelude.{OnErr, OnOk}
use Rattle.std.proofs.lemmas.List.{map-append}
use Rattle.std.proofs.lemmas.List.Sums.{fold-append}
use Rattle.gh_invariant.specs.Events.{EventFits, EventsFit}
use Rattle.gh_invariant.specs.Valid.{IsValid}
use Rattle.gh_model.specs.Boot.{boot_state}
use Rattle.gh_model.specs.History.{Event, after_event, replay}
use Rattle.gh_model.specs.Small.{IsKept}
use Rattle.gh_model.specs.declared.boot_line.BootLine.{BootLine}
use Rattle.gh_model.specs.declared.state.State.{State}
use Rattle.gh_parts.specs.Entries.{Entries, with_logged}
use Rattle.gh_parts.specs.Past.{HasFewSeats, IsPresent, event_of, past_of, rows_of, with_event}
use Rattle.gh_parts.specs.Stands.{Stands}
use Rattle.gh_parts.specs.declared.log.Logged.{Logged}
use Rattle.gh_parts.specs.declared.parts.Parts.{Parts}

-- the CPUs and links are few behind an entry, allowed or not
pub if_seats : (after other : State) (test : Bool) → HasFewSeats after → HasFewSeats other
    → HasFewSeats (if test then after else other)
if_seats after other true few also = few
if_seats after other false few also = also

events_more : (logged : List Logged) (more : Logged)
    → map event_of (logged ++ more ∷ []) ≡ map event_of logged ++ event_of more ∷ []
events_more logged more = map-append event_of logged (more ∷ [])

-- what is seen has one event more
pub logged_past : (boot : List BootLine) (log : Entries) (logged : Logged) (may : Bool)
    → past_of boot (if may then with_logged logged log else log)
    ≡ (if may then with_event (event_of logged) (past_of boot log) else past_of boot log)
logged_past boot log logged true =
    ap (λ (events : List Event). record (past_of boot (with_logged logged log)) { history = events })
    (events_more log.logged logged)
logged_past boot log logged false = refl

-- events that fit, and one more that fits the rows behind them
fits_more : (s : State) (events : List Event) (event : Event) → EventsFit s events
    → EventFits (replay s events) event → EventsFit s (events ++ event ∷ [])
fits_more s [] event fit more = record { first = more; others = tt }
fits_more s (one ∷ events) event fit more =
    record { first = fit.first; others = fits_more (after_event s one) events event fit.others more }

module _ (boot : List BootLine) (log : Entries) (before parts : Parts) (logged : Logged)
    (present : IsPresent (past_of boot log) before)
    (fits : EventFits (rows_of (past_of boot log)) (event_of logged)) (valid : IsValid (after_event (rows_of (past_of boot log)) (event_of logged)))
    (kept : IsKept (after_event (rows_of (past_of boot log)) (event_of logged)))
    (seats : HasFewSeats (after_event (rows_of (past_of boot log)) (event_of logged))) where
  grown : after_event (rows_of (past_of boot log)) (event_of logged) ≡ rows_of (past_of boot (with_logged logged log))
  grown =
      sym (ap (replay (boot_state boot)) (events_more log.logged logged)
      ∙ fold-append after_event (boot_state boot) (map event_of log.logged) (event_of logged ∷ []))

  present_by : (may : Bool)
      → Stands parts (if may then after_event (rows_of (past_of boot log)) (event_of logged) else rows_of (past_of boot log))
      → IsPresent (past_of boot (if may then with_logged logged log else log)) parts
  present_by true stands = record {
    boot = present.boot;
    fit =
        subst (λ (events : List Event). EventsFit (boot_state boot) events) (sym (events_more log.logged logged))
        (fits_more (boot_state boot) (map event_of log.logged) (event_of logged) present.fit fits);
    stands = subst (λ (s : State). Stands parts s) grown stands;
    valid = subst (λ (s : State). IsValid s) grown valid;
    kept = subst (λ (s : State). IsKept s) grown kept;
    seats = subst (λ (s : State). HasFewSeats s) grown seats;
  }
  present_by false stands = record {
    boot = present.boot;
    fit = present.fit;
    stands = stands;
    valid = present.valid;
    kept = present.kept;
    seats = present.seats;
  }

  -- the parts are those of the rows by now
  pub present_after : (now_boot : List BootLine) (now : Entries) (may : Bool) → now_boot ≡ boot
      → now ≡ (if may then with_logged logged log else log)
      → Stands parts (if may then after_event (rows_of (past_of boot log)) (event_of logged) else rows_of (past_of boot log))
      → IsPresent (past_of now_boot now) parts
  present_after now_boot now may same is stands =
      subst (λ (one : List BootLine). IsPresent (past_of one now) parts) (sym same)
      (subst (λ (entries : Entries). IsPresent (past_of boot entries) parts) (sym is) (present_by may stands))

  -- and so they are by a result, which is an error where nothing is logged
  pub present_acted : {T E : Type 0} (now_boot : List BootLine) (now : Entries) (result : Result T E) → now_boot ≡ boot
      → OnOk result (now ≡ with_logged logged log) → OnErr result (now ≡ log)
      → OnOk result (Stands parts (after_event (rows_of (past_of boot log)) (event_of logged)))
      → OnErr result (Stands parts (rows_of (past_of boot log)))
      → IsPresent (past_of now_boot now) parts
  present_acted now_boot now (Ok value) same more less made back = present_after now_boot now true same more made
  present_acted now_boot now (Err error) same more less made back = present_after now_boot now false same less back

-- what is seen by a result
pub past_acted : {T E : Type 0} (boot : List BootLine) (log : Entries) (logged : Logged) (now_boot : List BootLine) (now : Entries)
    (result : Result T E) → now_boot ≡ boot → OnOk result (now ≡ with_logged logged log)
    → OnOk result (past_of now_boot now ≡ with_event (event_of logged) (past_of boot log))
past_acted boot log logged now_boot now (Ok value) same more =
    ap (λ (one : List BootLine). past_of one now) same ∙ ap (past_of boot) more ∙ logged_past boot log logged true
past_acted boot log logged now_boot now (Err error) same more = tt

pub past_kept : {T E : Type 0} (boot : List BootLine) (log : Entries) (now_boot : List BootLine) (now : Entries)
    (result : Result T E) → now_boot ≡ boot → OnErr result (now ≡ log) → OnErr result (past_of now_boot now ≡ past_of boot log)
past_kept boot log now_boot now (Ok value) same less = tt
past_kept boot log now_boot now (Err error) same less = ap (λ (one : List BootLine). past_of one now) same ∙ ap (past_of boot) less

-- what holds of a state where a result is good, holds of the same state
pub ok_by : {T E : Type 0} (result : Result T E) (P : State → Type 0) {one other : State} → other ≡ one → OnOk result (P one)
    → OnOk result (P other)
ok_by (Ok value) P same holds = subst P (sym same) holds
ok_by (Err error) P same holds = tt
