-- The slots that are taken: those of the parts behind the last entry of another kind.
use Rattle.std.specs.Prelude.{◌≡◌, ◌&&◌, ⊤, ℕ, Bool, true, false, List, [], ◌∷◌, ◌++◌, fold, find}
use Rattle.gh_model.specs.History.{Event, after_event, is_retired, is_unretired, may_act, may_part}
use Rattle.gh_model.specs.References.{is_doomed}
use Rattle.gh_model.specs.Rows.{fills, object_row}
use Rattle.gh_model.specs.declared.change.Decision.{Decision}
use Rattle.gh_model.specs.declared.change.Decision.TheVariants.{Refuse, Unfinished, Make}
use Rattle.gh_model.specs.declared.entry.Entry.{Entry}
use Rattle.gh_model.specs.declared.entry.Entry.TheVariants.{Acted, Part, Retired, Reclaimed}
use Rattle.gh_model.specs.declared.rows.TakenSlot.{TakenSlot}
use Rattle.gh_model.specs.declared.state.State.{State}
use Rattle.gh_invariant.specs.Events.{judged_by}
use Rattle.gh_invariant.specs.Premises.{Together}

-- a part takes its slot beside those before it, and behind an entry of another kind none is taken
abbrev pub taken_by : List TakenSlot → Entry → List TakenSlot
taken_by taken (Part cpu number space slot) = taken ++ record { cspace = space; slot = slot } ∷ []
taken_by taken (Acted cpu number) = []
taken_by taken (Retired serial seen) = []
taken_by taken (Reclaimed serial seen) = []

abbrev pub taken_on : List TakenSlot → Event → List TakenSlot
taken_on taken event = taken_by taken event.entry

-- the slots of the parts at the end of a history, behind its last entry of another kind
abbrev pub parts_at_end : List Event → List TakenSlot
parts_at_end history = fold taken_on [] history

-- the decision isn't a refusal
abbrev pub is_made : Decision → Bool
is_made (Refuse errno) = false
is_made Unfinished = false
is_made (Make changes reply) = true

-- the state allows the entry; one that it doesn't allow changes only the number of entries
abbrev pub allows_entry : State → Event → Entry → Bool
allows_entry s event (Acted cpu number) =
    may_act s cpu.0 event.call event.words && is_made (judged_by s cpu.0 event)
allows_entry s event (Part cpu number space slot) = may_part (find (fills space.0 slot) s.caps)
allows_entry s event (Retired serial seen) =
    is_doomed s serial.0 && is_unretired (object_row s serial.0)
allows_entry s event (Reclaimed serial seen) =
    is_doomed s serial.0 && is_retired (object_row s serial.0)

abbrev pub allows : State → Event → Bool
allows s event = allows_entry s event event.entry

-- each event of a history is allowed in the state before it
abbrev pub AllowsEach : State → List Event → Type 0
AllowsEach s [] = ⊤
AllowsEach s (event ∷ events) =
    Together (allows s event ≡ true) (AllowsEach (after_event s event) events)
