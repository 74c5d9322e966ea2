-- One part of a call that revokes the capabilities of an object one slot after another.
use Rattle.std.proofs.Common.{◌≡◌, ◌==◌, ◌+◌, ◌<◌, ◌∙◌, inl, inr, ℕ, zero, suc, Bool, true, false, List, [], ◌∷◌, ◌++◌, drop, find, length, map, refl, subst, sym, ap, arith, Option, Some, None, slice_get, if◌then◌else◌}
use Rattle.std.specs.Option.{option_map_or}
use Rattle.std.proofs.lemmas.Bool.{and_parts}
use Rattle.gh_base.specs.Errno.{errno_number}
use Rattle.gh_base.specs.declared.call.Call.{Call}
use Rattle.gh_base.specs.declared.call.Call.TheVariants as calls
use Rattle.gh_base.specs.declared.errno.Errno.{Errno}
use Rattle.gh_base.specs.declared.errno.Errno.TheVariants as errno
use Rattle.gh_base.specs.declared.limits.TheConstants.{CPUS, HISTORY_ENTRIES}
use Rattle.gh_schedules.specs.Committing.{committing}
use Rattle.gh_events.specs.Config.{Config, Current, judged, present}
use Rattle.gh_events.specs.Entries.{logged, makes_object, next_state}
use Rattle.gh_schedules.specs.Items.{goes_on, next_part, object_revoked, part, part_at, part_by, part_of}
use Rattle.gh_core.specs.Running.{current_of, seen_of}
use Rattle.gh_events.specs.Sound.{IsSound}
use Rattle.gh_schedules.specs.Trace.{after_all}
use Rattle.gh_core.specs.declared.current.CurrentCall.{CurrentCall}
use Rattle.gh_core.specs.declared.current.SeenLook.{SeenLook}
use Rattle.gh_events.specs.declared.event.Event.{Event}
use Rattle.gh_schedules.proofs.EntryReferences.{MakesNone, Objects, event_objects}
use Rattle.gh_events.proofs.LengthBound.{history_is_short}
use Rattle.gh_events.proofs.LookCalls.{entries_all}
use Rattle.gh_schedules.proofs.Revokes.{NextPart, next_is}
use Rattle.gh_invariant.specs.Lives.{lives}
use Rattle.gh_items.specs.Parts.{is_unfinished, part_row, with_part}
use Rattle.gh_items.specs.Stands.{Stands, with_call}
use Rattle.gh_items.specs.declared.progress.Progress.{Progress}
use Rattle.gh_items.proofs.EntrySteps.{committed_stands}
use Rattle.gh_items.proofs.SeatLemmas.{current_is}
use Rattle.gh_model.specs.Act.{granted, grants_of}
use Rattle.gh_model.specs.Decide.{decision, has_moved, verdict}
use Rattle.gh_model.specs.History as history
use Rattle.gh_model.specs.Legal.{is_revoke}
use Rattle.gh_model.specs.Marks.{Seen, word_of}
use Rattle.gh_model.specs.Rows.{fills}
use Rattle.gh_model.specs.declared.change.Decision.{Decision}
use Rattle.gh_model.specs.declared.change.Decision.TheVariants.{Refuse, Unfinished, Make}
use Rattle.gh_model.specs.declared.entry.Entry.{Entry}
use Rattle.gh_model.specs.declared.rows.CapabilityRow.{CapabilityRow}
use Rattle.gh_model.specs.declared.state.State.{State}
use Rattle.gh_model.specs.declared.word.Word.{Word}

-- the first look of the code's list
pub first_seen : (seen : List SeenLook)
    → option_map_or (λ (one : Seen). (granted one.word).0) (slice_get (map seen_of seen) 0) 0
    ≡ option_map_or (λ (one : SeenLook). (granted one.word).0) (slice_get seen 0) 0
first_seen [] = refl
first_seen (one ∷ seen) = refl

-- rows from a place on
pub drop_at : {X : Type 0} (xs : List X) (at : ℕ) (x : X) → slice_get xs at ≡ Some x → drop at xs ≡ x ∷ drop (suc at) xs
drop_at [] at x is = absurd (let never : ⊥ = cc in never)
drop_at (y ∷ xs) zero x is = let same : y ≡ x = cc in ap (λ (z : _). z ∷ xs) same
drop_at (y ∷ xs) (suc at) x is = drop_at xs at x is

-- a revoke goes on where its decision is unfinished

number_some : (one : Errno) → (errno_number one == 0) ≡ false
number_some errno.Unimplemented = refl
number_some errno.Retry = refl
number_some errno.ArgInval = refl
number_some errno.ArgSize = refl
number_some errno.ArgAlign = refl
number_some errno.Nomem = refl
number_some errno.AddrOvfl = refl
number_some errno.AddrInval = refl
number_some errno.Denied = refl
number_some errno.Busy = refl
number_some errno.ObjState = refl
number_some errno.ObjConfig = refl
number_some errno.CapNull = refl
number_some errno.CapRevoked = refl
number_some errno.WrongType = refl
number_some errno.InsufRights = refl
number_some errno.CspaceFull = refl
number_some errno.QueueEmpty = refl
number_some errno.QueueFull = refl

goes_by : (s : State) (one : Decision) → goes_on (verdict s one) ≡ is_unfinished one
goes_by s (Refuse errno) = number_some errno
goes_by s Unfinished = refl
goes_by s (Make changes reply) = refl

unmoved : (s : State) (at : ℕ) (call : Call) (words : List Word) → is_revoke call ≡ true → has_moved s at call words ≡ false
unmoved s at (calls.CapsRevoke cap) words revokes = refl
unmoved s at _ words revokes = absurd (let never : ⊥ = cc in never)

pub goes_is : (s : State) (at : ℕ) (call : Current) → is_revoke call.given.call ≡ true
    → is_unfinished (decision false s at call.given.call call.given.frame.bytes (grants_of call.given.call (map word_of call.seen)))
    ≡ goes_on (judged s at call)
goes_is s at call revokes =
    ap (λ (moved : Bool). is_unfinished (decision moved s at call.given.call call.given.frame.bytes (grants_of call.given.call (map word_of call.seen))))
    (sym (unmoved s at call.given.call (map word_of call.seen) revokes))
    ∙ sym (goes_by s (decision (has_moved s at call.given.call (map word_of call.seen)) s at call.given.call call.given.frame.bytes (grants_of call.given.call (map word_of call.seen))))

module _ (progress : Progress) (conf : Config) (at : ℕ) (call : CurrentCall) (stands : Stands (with_call progress at (Some call)) conf)
    (within : at < CPUS) (sound : IsSound conf) where
  abbrev one : Current
  one = current_of call

  now : (conf.cpu at).current ≡ Some (current_of call)
  now = current_is progress conf at call stands within

  -- the history has room for an entry
  pub room : progress.plain.entries < HISTORY_ENTRIES
  room =
      let all : (present conf).entries ≡ conf.boot.entries + length conf.history = entries_all conf.boot conf.history in
      let state : progress.plain.entries ≡ (present conf).entries = ap (λ (s : State). s.entries) stands.state in
      omega (arith, all, state, sound.begins, history_is_short conf sound.long sound.calls)

  there : part_row (present conf) at one ≡ part_row progress.plain at one
  there = ap (λ (s : State). part_row s at one) (sym stands.state)

  part_is : part at conf ≡ part_at at conf one (part_row progress.plain at one)
  unfolding part
  part_is =
      ap (part_by at conf) now
      ∙ by_goes (goes_on (judged (present conf) at one)) (next_part (present conf) (object_revoked one))
      ∙ ap (part_at at conf one) there
    where
      by_goes : (on : Bool) (row : Option CapabilityRow)
          → (if on then part_at at conf one row else []) ≡ part_at at conf one (if on then row else None)
      by_goes true row = refl
      by_goes false row = refl

  -- no more parts
  pub rests : part_row progress.plain at one ≡ None → Stands (with_call progress at (Some call)) (after_all conf (part at conf))
  rests none =
      subst (λ (events : List Event). Stands (with_call progress at (Some call)) (after_all conf events))
      (sym (part_is ∙ ap (part_at at conf one) none)) stands

  module _ (row : CapabilityRow) (is : part_row progress.plain at one ≡ Some row) where
    its_next : next_part (present conf) (object_revoked one) ≡ Some row
    its_next = by_goes (goes_on (judged (present conf) at one)) (next_part (present conf) (object_revoked one)) (there ∙ is)
      where
        by_goes : (on : Bool) (found : Option CapabilityRow) → (if on then found else None) ≡ Some row → found ≡ Some row
        by_goes true found same = same
        by_goes false found same = absurd (let never : ⊥ = cc in never)

    next : NextPart (present conf) (object_revoked one) row
    next = next_is (present conf) (object_revoked one) row sound.valid.valid its_next

    -- it may be revoked
    pub may : history.may_part (find (fills row.cspace.0 row.slot) progress.plain.caps) ≡ true
    may =
        ap (λ (s : State). history.may_part (find (fills row.cspace.0 row.slot) s.caps)) stands.state
        ∙ ap history.may_part next.in_caps
        ∙ (and_parts (history.may_part (Some row)) (row.serial.0 == object_revoked one) next.plain).0

    abbrev entry : Entry
    entry = part_of at one row

    makes : MakesNone (present conf) (logged entry one)
    makes = by_objects (event_objects (present conf) (logged entry one) sound.valid.valid tt)
      where
        by_objects : Objects (present conf) (logged entry one) → MakesNone (present conf) (logged entry one)
        by_objects (inl none) = none
        by_objects (inr made) = absurd (let acts : false ≡ true = made.acts in let never : ⊥ = cc in never)

    unborn : (alive : Bool) → lives (next_state conf one entry).objects (present conf).next_serial ≡ alive
        → makes_object (present conf) (next_state conf one entry) ≡ false
    unborn false is = is
    unborn true is =
        let made : (present conf).next_serial < (present conf).next_serial =
        sound.state.given (present conf).next_serial (makes.lived (present conf).next_serial is) in
        absurd (omega (arith, made))

    pub part_stands : Stands (with_call (with_part progress at call.given.number row) at (Some call)) (after_all conf (part at conf))
    part_stands =
        subst (λ (events : List Event). Stands (with_call (with_part progress at call.given.number row) at (Some call)) (after_all conf events))
        (sym (part_is ∙ ap (part_at at conf one) is))
        (subst (λ (s : State). Stands (with_call (record progress {
          plain = history.parted s row.cspace row.slot;
          entries = progress.entries ++ entry ∷ [];
        }) at (Some call)) (after_all conf (committing at entry conf))) (sym stands.state)
        (committed_stands conf at entry one now makes.none (unborn (lives (next_state conf one entry).objects (present conf).next_serial) refl)
        (with_call progress at (Some call)) stands))
