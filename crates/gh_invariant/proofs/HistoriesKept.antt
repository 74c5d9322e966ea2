-- Every state of a history is valid, and what is doomed in one is doomed in all behind it.
use Rattle.std.proofs.Common.{◌≡◌, ◌<◌, ◌≤◌, ℕ, zero, suc, Bool, true, false, List, [], ◌∷◌, take, arith, find, if◌then◌else◌}
use Rattle.std.specs.Prelude.{◌&&◌}
use Rattle.gh_model.specs.Act.{counted}
use Rattle.gh_model.specs.Changes.{changed, changed_all}
use Rattle.gh_model.specs.Decide.{verdict}
use Rattle.gh_model.specs.History.{Event, after_entry, after_event, after_verdict, is_retired, is_unretired, may_act, may_part, numbered, replay, state_at, took}
use Rattle.gh_model.specs.References.{is_doomed, references}
use Rattle.gh_model.specs.Rows.{fills, object_row}
use Rattle.gh_model.specs.declared.change.Change.{Change}
use Rattle.gh_model.specs.declared.change.Change.TheVariants as change
use Rattle.gh_model.specs.declared.change.Decision.{Decision}
use Rattle.gh_model.specs.declared.change.Decision.TheVariants.{Refuse, Unfinished, Make}
use Rattle.gh_model.specs.declared.entry.Entry.{Entry}
use Rattle.gh_model.specs.declared.entry.Entry.TheVariants.{Acted, Part, Retired, Reclaimed}
use Rattle.gh_model.specs.declared.state.State.{State}
use Rattle.gh_model.proofs.RoomLemmas.{change_counts}
use Rattle.gh_invariant.specs.Events.{EventsFit, judged_by}
use Rattle.gh_invariant.specs.Valid.{IsValid}
use Rattle.gh_invariant.proofs.EventsKept.{event_doomed, event_valid}

-- serials rise

pub serial_rises : (s : State) (one : Change) → s.next_serial ≤ (changed s one).next_serial
serial_rises s one = omega (arith, (change_counts s one).serials)

serials_rise : (s : State) (changes : List Change) → s.next_serial ≤ (changed_all s changes).next_serial
serials_rise s [] = omega arith
serials_rise s (one ∷ others) =
    let first : s.next_serial ≤ (changed s one).next_serial = serial_rises s one in
    let rest : (changed s one).next_serial ≤ (changed_all (changed s one) others).next_serial = serials_rise (changed s one) others in
    omega arith

decided_rises : (s : State) (decision : Decision) → s.next_serial ≤ (after_verdict s (verdict s decision)).next_serial
decided_rises s (Refuse errno) = omega arith
decided_rises s Unfinished = omega arith
decided_rises s (Make changes reply) = serials_rise s changes

either_rises : (n : ℕ) (allowed : Bool) (new old : State) → n ≤ new.next_serial → n ≤ old.next_serial
    → n ≤ (let after : State = if allowed then new else old in after).next_serial
either_rises n true new old is was = is
either_rises n false new old is was = was

pub entry_rises : (s : State) (event : Event) (entry : Entry) → s.next_serial ≤ (after_entry s event entry).next_serial
entry_rises s event (Acted cpu number) =
    either_rises s.next_serial (may_act s cpu.0 event.call event.words) (after_verdict s (verdict s (judged_by s cpu.0 event))) (numbered s)
    (decided_rises s (judged_by s cpu.0 event)) (omega arith)
entry_rises s event (Part cpu number space slot) =
    either_rises s.next_serial (may_part (find (fills space.0 slot) s.caps))
    (numbered (took (changed s (change.RevokeCapability space slot)) space slot)) (numbered s) (omega arith) (omega arith)
entry_rises s event (Retired serial seen) =
    either_rises s.next_serial (is_doomed s serial.0 && is_unretired (object_row s serial.0))
    (counted (changed s (change.Retire serial seen))) (numbered s) (omega arith) (omega arith)
entry_rises s event (Reclaimed serial seen) =
    either_rises s.next_serial (is_doomed s serial.0 && is_retired (object_row s serial.0))
    (counted (changed s (change.Reclaim serial))) (numbered s) (omega arith) (omega arith)

-- a front of a history fits
fits_front : (n : ℕ) (s : State) (events : List Event) → EventsFit s events → EventsFit s (take n events)
fits_front zero s events fits = tt
fits_front (suc n) s [] fits = tt
fits_front (suc n) s (event ∷ events) fits = record { first = fits.first; others = fits_front n (after_event s event) events fits.others }

pub replay_valid : (s : State) (events : List Event) → IsValid s → EventsFit s events → IsValid (replay s events)
replay_valid s [] valid fits = valid
replay_valid s (event ∷ events) valid fits =
    replay_valid (after_event s event) events (event_valid s event valid fits.first) fits.others

replay_doomed : (s : State) (events : List Event) (object : ℕ) → IsValid s → EventsFit s events → 0 < object → object < s.next_serial
    → references s object ≡ 0 → references (replay s events) object ≡ 0
replay_doomed s [] object valid fits some made none = none
replay_doomed s (event ∷ events) object valid fits some made none =
    let rises : s.next_serial ≤ (after_event s event).next_serial = entry_rises s event event.entry in
    replay_doomed (after_event s event) events object (event_valid s event valid fits.first) fits.others some (omega arith)
    (event_doomed s event object valid fits.first some made none)

-- every state of a history is valid
pub history_valid : (s : State) (history : List Event) (n : ℕ) → IsValid s → EventsFit s history → IsValid (state_at s history n)
history_valid s history n valid fits = replay_valid s (take n history) valid (fits_front n s history fits)

-- an object that has no references is doomed for ever
pub history_doomed : (s : State) (history : List Event) (object n : ℕ) → IsValid s → EventsFit s history → 0 < object
    → object < s.next_serial → references s object ≡ 0 → references (state_at s history n) object ≡ 0
history_doomed s history object n valid fits some made none =
    replay_doomed s (take n history) object valid (fits_front n s history fits) some made none
