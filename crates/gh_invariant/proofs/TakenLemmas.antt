-- What is taken behind each event, and at each place of a history.
use Rattle.std.proofs.Common.{◌≡◌, ◌∙◌, ◌&&◌, ℕ, zero, suc, Bool, true, false, List, [], ◌∷◌, take, fold, refl, subst, ap, find, if◌then◌else◌}
use Rattle.gh_model.specs.Act.{counted}
use Rattle.gh_model.specs.Boot.{boot_state}
use Rattle.gh_model.specs.Changes.{changed}
use Rattle.gh_model.specs.Decide.{verdict}
use Rattle.gh_model.specs.History.{Event, after_entry, after_event, after_verdict, is_retired, is_unretired, may_act, may_part, numbered, replay, state_at, took}
use Rattle.gh_model.specs.References.{is_doomed}
use Rattle.gh_model.specs.Rows.{fills, object_row}
use Rattle.gh_model.specs.declared.boot_line.BootLine.{BootLine}
use Rattle.gh_model.specs.declared.change.Change.TheVariants as change
use Rattle.gh_model.specs.declared.change.Decision.{Decision}
use Rattle.gh_model.specs.declared.change.Decision.TheVariants.{Refuse, Unfinished, Make}
use Rattle.gh_model.specs.declared.entry.Entry.{Entry}
use Rattle.gh_model.specs.declared.entry.Entry.TheVariants.{Acted, Part, Retired, Reclaimed}
use Rattle.gh_model.specs.declared.rows.TakenSlot.{TakenSlot}
use Rattle.gh_model.specs.declared.state.State.{State}
use Rattle.gh_model.proofs.BootFresh.{boot_fresh}
use Rattle.gh_invariant.specs.Events.{judged_by}
use Rattle.gh_invariant.specs.Taken.{AllowsEach, allows, allows_entry, is_made, parts_at_end, taken_by, taken_on}

-- what is taken where an entry is allowed, and where it isn't
one_taken : (allowed answer : Bool) (new old : State) → allowed ≡ answer
    → (let after : State = if allowed then new else old in after).taken
    ≡ (if answer then new.taken else old.taken)
one_taken true true new old is = refl
one_taken true false new old is = absurd (let never : ⊥ = cc in never)
one_taken false true new old is = absurd (let never : ⊥ = cc in never)
one_taken false false new old is = refl

-- an act that is done leaves none taken, and a refused one those that are
act_taken : (s : State) (allowed answer : Bool) (decision : Decision)
    → (allowed && is_made decision) ≡ answer
    → (let after : State = if allowed then after_verdict s (verdict s decision) else numbered s in after).taken
    ≡ (if answer then [] else s.taken)
act_taken s false true decision is = absurd (let never : ⊥ = cc in never)
act_taken s false false decision is = refl
act_taken s true true (Refuse errno) is = absurd (let never : ⊥ = cc in never)
act_taken s true true Unfinished is = absurd (let never : ⊥ = cc in never)
act_taken s true true (Make changes reply) is = refl
act_taken s true false (Refuse errno) is = refl
act_taken s true false Unfinished is = refl
act_taken s true false (Make changes reply) is = absurd (let never : ⊥ = cc in never)

entry_taken : (s : State) (event : Event) (entry : Entry) (answer : Bool)
    → allows_entry s event entry ≡ answer
    → (after_entry s event entry).taken ≡ (if answer then taken_by s.taken entry else s.taken)
entry_taken s event (Acted cpu number) answer is =
    act_taken s (may_act s cpu.0 event.call event.words) answer (judged_by s cpu.0 event) is
entry_taken s event (Part cpu number space slot) answer is =
    one_taken (may_part (find (fills space.0 slot) s.caps)) answer
    (numbered (took (changed s (change.RevokeCapability space slot)) space slot)) (numbered s) is
entry_taken s event (Retired serial seen) answer is =
    one_taken (is_doomed s serial.0 && is_unretired (object_row s serial.0)) answer
    (counted (changed s (change.Retire serial seen))) (numbered s) is
entry_taken s event (Reclaimed serial seen) answer is =
    one_taken (is_doomed s serial.0 && is_retired (object_row s serial.0)) answer
    (counted (changed s (change.Reclaim serial))) (numbered s) is

pub event_taken : (s : State) (event : Event) (answer : Bool) → allows s event ≡ answer
    → (after_event s event).taken ≡ (if answer then taken_on s.taken event else s.taken)
event_taken s event answer is = entry_taken s event event.entry answer is

-- at each place of a history
history_taken : (s : State) (events : List Event) (n : ℕ) → AllowsEach s events
    → (replay s (take n events)).taken ≡ fold taken_on s.taken (take n events)
history_taken s events zero each = refl
history_taken s [] (suc n) each = refl
history_taken s (event ∷ events) (suc n) each =
    history_taken (after_event s event) events n each.others
    ∙ ap (λ (taken : List TakenSlot). fold taken_on taken (take n events))
    (event_taken s event true each.first)

-- from a boot file on
pub boot_taken : (lines : List BootLine) (history : List Event) (n : ℕ)
    → AllowsEach (boot_state lines) history
    → (state_at (boot_state lines) history n).taken ≡ parts_at_end (take n history)
boot_taken lines history n each =
    history_taken (boot_state lines) history n each
    ∙ ap (λ (taken : List TakenSlot). fold taken_on taken (take n history)) (boot_fresh lines).empty
