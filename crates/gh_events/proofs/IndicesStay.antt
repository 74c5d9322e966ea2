-- The index of each object that was made stays, over every event and every list of steps.
use Rattle.std.proofs.Common.{◌≡◌, ◌==◌, ◌<◌, ◌≤◌, ◌∙◌, ℕ, Bool, true, false, List, [], ◌∷◌, ◌++◌, refl, subst, sym, ap, arith, Option, Some, None, if◌then◌else◌}
use Rattle.std.proofs.lemmas.Bool.Decides.{nat_tests}
use Rattle.gh_base.specs.CapWord.{object_of}
use Rattle.gh_base.specs.declared.cap_word.CapWord.{CapWord}
use Rattle.gh_model.specs.History.{replay}
use Rattle.gh_model.specs.declared.entry.Entry.{Entry}
use Rattle.gh_model.specs.declared.rows.ObjectRow.{ObjectRow}
use Rattle.gh_model.specs.declared.state.State.{State}
use Rattle.gh_invariant.proofs.HistoriesKept.{entry_rises}
use Rattle.gh_events.specs.Config.{Config, Current, object_at, present, put}
use Rattle.gh_events.specs.Entries.{index_after, logged, makes_object, next_state}
use Rattle.gh_events.specs.Events.{after}
use Rattle.gh_events.specs.HolderEvents.{kill_failed, with_turn, without_scans}
use Rattle.gh_events.specs.Sound.{Does, Gives, Step, after_step, after_steps}
use Rattle.gh_events.specs.TurnEvents.{committed_by}
use Rattle.gh_events.specs.declared.event.Event.{Event}
use Rattle.gh_events.specs.declared.event.Event.TheVariants.{Enter, Leave, Take, Look, Pin, Unpin, Undo, Kill, Commit, SetCap, Free, Scan, Revive, Join, Split}
use Rattle.gh_events.proofs.Finding.{put_other}
use Rattle.gh_events.proofs.GraceReclaim.{replay_more}

-- each object that was made has its index, and stays made
record KeepsIndices (conf new : Config) : Type 0 where
  index : (serial : ℕ) → serial < (present conf).next_serial → new.index serial ≡ conf.index serial
  rises : (present conf).next_serial ≤ (present new).next_serial

kept : (conf : Config) → KeepsIndices conf conf
kept conf = record { index = λ serial made. refl; rises = omega arith }

-- the history and the indices are as before
same : (conf new : Config) → new.boot ≡ conf.boot → new.history ≡ conf.history → new.index ≡ conf.index
    → KeepsIndices conf new
same conf new boot events indices = record {
  index = λ serial made. ap (λ (index : ℕ → ℕ). index serial) indices;
  rises =
      let state : present new ≡ present conf = ap (λ (b : State). replay b new.history) boot ∙ ap (replay conf.boot) events in
      subst (λ (s : State). (present conf).next_serial ≤ s.next_serial) (sym state) (omega arith);
}

-- an entry gives the next object its index, if it makes one

module _ (conf : Config) (entry : Entry) where
  abbrev Indices : Type 0
  Indices = State → ℕ → ℕ

  logged_rises : (call : Current)
      → (present conf).next_serial ≤ (replay conf.boot (conf.history ++ logged entry call ∷ [])).next_serial
  logged_rises call =
      subst (λ (s : State). (present conf).next_serial ≤ s.next_serial) (sym (replay_more conf.boot conf.history (logged entry call)))
      (entry_rises (present conf) (logged entry call) entry)

  committed_keeps : (index : Indices) (current : Option Current)
      → ((new : State) (serial : ℕ) → serial < (present conf).next_serial → index new serial ≡ conf.index serial)
      → KeepsIndices conf (committed_by conf entry index current)
  committed_keeps index None keeps = kept conf
  committed_keeps index (Some call) keeps = record {
    index = keeps (next_state conf call entry);
    rises = logged_rises call;
  }

made_by : (conf : Config) (makes : Bool) (at serial : ℕ) → serial < (present conf).next_serial
    → (if makes then put conf.index (present conf).next_serial at else conf.index) serial ≡ conf.index serial
made_by conf true at serial made =
    put_other conf.index (present conf).next_serial at serial (let apart : (serial == (present conf).next_serial) ≡ false = grind (arith, nat_tests) in apart)
made_by conf false at serial made = refl

set_keeps : (conf : Config) (entry : Entry) (word : CapWord) (current : Option Current)
    → KeepsIndices conf (committed_by conf entry (λ new. index_after conf new word) current)
set_keeps conf entry word current =
    committed_keeps conf entry (λ new. index_after conf new word) current
    (λ new serial made. made_by conf (makes_object (present conf) new) (object_of word.0) serial made)

failed_keeps : (conf : Config) (object : ℕ) (found : Option ObjectRow)
    → KeepsIndices conf (kill_failed conf object found)
failed_keeps conf object None = kept conf
failed_keeps conf object (Some row) = same conf _ refl refl refl

killed_keeps : (conf : Config) (object : ℕ) (none : Bool)
    → KeepsIndices conf (if none then record (with_turn without_scans conf) { dead = put conf.dead object true }
    else kill_failed conf object (object_at (present conf) conf.index object))
killed_keeps conf object true = same conf _ refl refl refl
killed_keeps conf object false = failed_keeps conf object (object_at (present conf) conf.index object)

-- every event

event_keeps : (conf : Config) (event : Event) → KeepsIndices conf (after conf event)
event_keeps conf (Enter cpu) = same conf _ refl refl refl
event_keeps conf (Leave cpu) = same conf _ refl refl refl
event_keeps conf (Take cpu) = same conf _ refl refl refl
event_keeps conf (Look cpu slot) = same conf _ refl refl refl
event_keeps conf (Pin cpu object false) = same conf _ refl refl refl
event_keeps conf (Pin cpu object true) = same conf _ refl refl refl
event_keeps conf (Unpin cpu object false) = same conf _ refl refl refl
event_keeps conf (Unpin cpu object true) = same conf _ refl refl refl
event_keeps conf (Undo cpu object) = same conf _ refl refl refl
event_keeps conf (Kill cpu object) = killed_keeps conf object.0 (conf.count object.0 == 0)
event_keeps conf (Commit cpu entry) =
    committed_keeps conf entry (λ new. conf.index) (conf.cpu cpu.0).current (λ new serial made. refl)
event_keeps conf (SetCap cpu entry space slot word) =
    let behind = set_keeps conf entry word (conf.cpu cpu.0).current in
    record { index = behind.index; rises = behind.rises }
event_keeps conf (Free cpu true) = same conf _ refl refl refl
event_keeps conf (Free cpu false) = same conf _ refl refl refl
event_keeps conf (Scan cpu of_cpu) = same conf _ refl refl refl
event_keeps conf (Revive cpu object count) = same conf _ refl refl refl
event_keeps conf (Join cpu) = kept conf
event_keeps conf (Split cpu) = kept conf

step_keeps : (conf : Config) (step : Step) → KeepsIndices conf (after_step conf step)
step_keeps conf (Gives at number frame) = same conf _ refl refl refl
step_keeps conf (Does event) = event_keeps conf event

steps_keep : (conf : Config) (steps : List Step) → KeepsIndices conf (after_steps conf steps)
steps_keep conf [] = kept conf
steps_keep conf (step ∷ steps) =
    let first : KeepsIndices conf (after_step conf step) = step_keeps conf step in
    let rest : KeepsIndices (after_step conf step) (after_steps (after_step conf step) steps) =
    steps_keep (after_step conf step) steps in
    record {
      index = λ serial made. rest.index serial (omega (arith, made, first.rises)) ∙ first.index serial made;
      rises = omega (arith, first.rises, rest.rises);
    }

-- the index of what was made

pub event_index : (conf : Config) (event : Event) (serial : ℕ) → serial < (present conf).next_serial
    → (after conf event).index serial ≡ conf.index serial
event_index conf event serial made = (event_keeps conf event).index serial made

pub run_index : (conf : Config) (steps : List Step) (serial : ℕ) → serial < (present conf).next_serial
    → (after_steps conf steps).index serial ≡ conf.index serial
run_index conf steps serial made = (steps_keep conf steps).index serial made

-- and it stays made

pub event_made : (conf : Config) (event : Event) → (present conf).next_serial ≤ (present (after conf event)).next_serial
event_made conf event = (event_keeps conf event).rises

pub run_made : (conf : Config) (steps : List Step) → (present conf).next_serial ≤ (present (after_steps conf steps)).next_serial
run_made conf steps = (steps_keep conf steps).rises
