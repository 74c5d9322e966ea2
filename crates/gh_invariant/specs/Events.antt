-- An event that may come: its act, if it is one, is of a CPU that runs and has the call's shape and
-- grants. And the changes that an event makes.
use Rattle.std.specs.Prelude.{◌&&◌, ⊤, ℕ, List, [], ◌∷◌, length, find, if◌then◌else◌}
use Rattle.gh_model.specs.Act.{grants_of}
use Rattle.gh_model.specs.Decide.{decision, has_moved}
use Rattle.gh_model.specs.History.{Event, after_event, is_retired, is_unretired, may_act, may_part}
use Rattle.gh_model.specs.References.{is_doomed}
use Rattle.gh_model.specs.Rows.{fills, object_row}
use Rattle.gh_model.specs.declared.change.Change.{Change}
use Rattle.gh_model.specs.declared.change.Change.TheVariants.{RevokeCapability, Retire, Reclaim}
use Rattle.gh_model.specs.declared.change.Decision.{Decision}
use Rattle.gh_model.specs.declared.change.Decision.TheVariants.{Refuse, Unfinished, Make}
use Rattle.gh_model.specs.declared.entry.Entry.{Entry}
use Rattle.gh_model.specs.declared.entry.Entry.TheVariants.{Acted, Part, Retired, Reclaimed}
use Rattle.gh_model.specs.declared.state.State.{State}
use Rattle.gh_invariant.specs.Grants.{MayAct}
use Rattle.gh_invariant.specs.Premises.{Together}

abbrev pub EntryFits : State → Event → Entry → Type 0
EntryFits s event (Acted cpu number) =
    MayAct s cpu.0 event.call (length event.bytes) (grants_of event.call event.words)
EntryFits s event (Part cpu number space slot) = ⊤
EntryFits s event (Retired serial seen) = ⊤
EntryFits s event (Reclaimed serial seen) = ⊤

abbrev pub EventFits : State → Event → Type 0
EventFits s event = EntryFits s event event.entry

-- the changes of a decision
abbrev pub made_by : Decision → List Change
made_by (Refuse errno) = []
made_by Unfinished = []
made_by (Make changes reply) = changes

-- what the act of an event comes to
abbrev pub judged_by : State → ℕ → Event → Decision
judged_by s cpu event =
    decision (has_moved s cpu event.call event.words) s cpu event.call event.bytes
    (grants_of event.call event.words)

-- the changes of an entry: none where its state doesn't allow it
abbrev pub entry_changes : State → Event → Entry → List Change
entry_changes s event (Acted cpu number) =
    if may_act s cpu.0 event.call event.words
    then made_by (judged_by s cpu.0 event) else []
entry_changes s event (Part cpu number space slot) =
    if may_part (find (fills space.0 slot) s.caps) then RevokeCapability space slot ∷ [] else []
entry_changes s event (Retired serial seen) =
    if is_doomed s serial.0 && is_unretired (object_row s serial.0) then Retire serial seen ∷ []
    else []
entry_changes s event (Reclaimed serial seen) =
    if is_doomed s serial.0 && is_retired (object_row s serial.0) then Reclaim serial ∷ [] else []

abbrev pub changes_of : State → Event → List Change
changes_of s event = entry_changes s event event.entry

-- each event of a history fits the state before it
abbrev pub EventsFit : State → List Event → Type 0
EventsFit s [] = ⊤
EventsFit s (event ∷ events) = Together (EventFits s event) (EventsFit (after_event s event) events)
