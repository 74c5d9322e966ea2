-- An entry of the holder keeps sound calls where the calls that have come to their end behind it are
-- sound, and it is one of these.
use Rattle.std.proofs.Common.{◌≡◌, ◌+◌, ◌<◌, ◌≤◌, ◌∙◌, ◌⊎◌, inl, inr, ℕ, Bool, true, false, List, [], ◌∷◌, ◌++◌, length, refl, subst, sym, ap, arith, Some, None, Result, Ok, Err, slice_get, take}
use Rattle.std.specs.List.{last_or, list_any}
use Rattle.std.specs.Prelude.{◌||◌}
use Rattle.std.proofs.lemmas.List.{length-append}
use Rattle.std.proofs.lemmas.List.Folds.{list_any-append}
use Rattle.gh_base.specs.declared.cap_word.CapWord.{CapWord}
use Rattle.gh_base.specs.declared.errno.Errno.{Errno}
use Rattle.gh_base.specs.declared.call.Call.{Call}
use Rattle.gh_base.specs.declared.ids.CpuNo.{CpuNo}
use Rattle.gh_base.specs.declared.mark.End.TheVariants as ends
use Rattle.gh_model.specs.Graced.{GoesUnreferenced}
use Rattle.gh_model.specs.History as history
use Rattle.gh_model.specs.Legal.{CallIs, EntryIs, FrameIs, GoesOn, IsEndOf, IsNumbered, is_part}
use Rattle.gh_model.specs.Marks.{InTurn, Made, Seen, cspace_of, place_after}
use Rattle.gh_model.specs.Registers.{call_of, needs_of}
use Rattle.gh_model.specs.declared.entry.Entry.{Entry}
use Rattle.gh_model.specs.declared.entry.Entry.TheVariants.{Acted, Part, Retired, Reclaimed}
use Rattle.gh_model.specs.declared.state.State.{State}
use Rattle.gh_model.proofs.RunLists.{slice_get_seam, snoc_cases, take_all}
use Rattle.gh_model.proofs.Stays.{IsFront, entry_is_stays, front_more, front_state, goes_on_stays, look_stays}
use Rattle.gh_events.specs.Calls.{CpuCalls, CurrentIs, DeathIs, HasCalls, IsActing, Waits, calls_in, calls_of, stands_open}
use Rattle.gh_events.specs.Config.{AtAct, Config, Current, Holder, IsIn, has_acted, has_part, is_acted, present}
use Rattle.gh_events.specs.Entries.{Allows, KindAllows, logged, next_state}
use Rattle.gh_events.specs.References.{HasReferences}
use Rattle.gh_events.specs.TurnEvents.{with_entry}
use Rattle.gh_events.specs.ValidState.{HasValid}
use Rattle.gh_events.proofs.DeathsOn.{DeathsGoOn, death_goes_on}
use Rattle.gh_events.proofs.EntryMoves.{with_log}
use Rattle.gh_events.proofs.GraceReclaim.{replay_more}
use Rattle.gh_events.proofs.HolderCalls.{none_committed}
use Rattle.gh_events.proofs.PinCalls.{IsLast, last_item}
use Rattle.std.proofs.lemmas.List.{append-nil}

-- an entry of the holder, with the indices behind it
pub record Entering : Type 0 where
  pub conf : Config
  pub at : ℕ
  pub entry : Entry
  pub holder : Holder
  pub call : Current
  pub index : ℕ → ℕ

-- the history, the state and the turn behind the entry
abbrev pub log_behind : Entering → List history.Event
log_behind e = e.conf.history ++ logged e.entry e.call ∷ []

abbrev pub state_behind : Entering → State
state_behind e = next_state e.conf e.call e.entry

abbrev pub holder_behind : Entering → Holder
holder_behind e = with_entry e.conf e.entry (next_state e.conf e.call e.entry) e.index e.holder

-- the calls of a CPU that have come to their end behind the entry
abbrev pub calls_behind : Entering → ℕ → List Made
calls_behind e n =
    calls_of e.conf.boot (log_behind e) (Some (holder_behind e)) n (e.conf.cpu n)

-- what holds before the entry
pub record Before (e : Entering) : Type 0 where
  pub allows : Allows e.conf e.at e.entry e.holder e.call
  pub deaths : DeathsGoOn e.conf (logged e.entry e.call) e.index
  pub sound : HasCalls e.conf
  pub refs : HasReferences e.conf
  pub fit : HasValid e.conf

-- what the calls behind the entry have to be
pub record EntryGoes (e : Entering) : Type 0 where
  pub allows : Allows e.conf e.at e.entry e.holder e.call
  pub deaths : DeathsGoOn e.conf (logged e.entry e.call) e.index
  pub finished : (n : ℕ) → InTurn (CallIs e.conf.boot (log_behind e) n) (calls_behind e n)
  pub numbered : (n : ℕ) → InTurn IsNumbered (calls_behind e n)
  pub ends : (n number entry : ℕ) → IsEndOf (e.conf.cpu n).made number entry
      → IsEndOf (calls_behind e n) number entry
  pub entry_is : EntryIs e.conf.boot (log_behind e) (calls_behind e) (length e.conf.history)
      (logged e.entry e.call) e.entry
  pub untaken : is_part e.entry ≡ false → (state_behind e).taken ≡ []

-- before its act's entry no call of a CPU but the finished ones has come to its end
pub made_before : (conf : Config) (holder : Holder) → conf.turn ≡ Some holder
    → has_acted holder ≡ false → (n : ℕ) → calls_in conf n ≡ (conf.cpu n).made
made_before conf holder turn not_acted n =
    ap (λ (more : List Made). (conf.cpu n).made ++ more)
    (none_committed conf.boot conf.history conf.turn n (conf.cpu n).current (λ one is. let same : Some holder ≡ Some one = sym turn ∙ is in let that : holder ≡ one = cc in ap has_acted (sym that) ∙ not_acted))
    ∙ append-nil (conf.cpu n).made

or_left : (a b : Bool) → b ≡ false → (a || b) ≡ a
or_left true b none = refl
or_left false b none = none

or_right : (a b : Bool) → b ≡ true → (a || b) ≡ true
or_right true b is = refl
or_right false b is = is

-- an entry more, and whether it passes
any_more : (p : Entry → Bool) (entries : List Entry) (entry : Entry) (here : Bool) → p entry ≡ here
    → list_any p (entries ++ entry ∷ []) ≡ (list_any p entries || (here || false))
any_more p entries entry here is =
    list_any-append p entries (entry ∷ []) ∙ ap (λ (b : Bool). list_any p entries || (b || false)) is

pub now_passes : (p : Entry → Bool) (entries : List Entry) (entry : Entry) → p entry ≡ true
    → list_any p (entries ++ entry ∷ []) ≡ true
now_passes p entries entry is = any_more p entries entry true is ∙ or_right (list_any p entries) true refl

pub still_fails : (p : Entry → Bool) (entries : List Entry) (entry : Entry) → p entry ≡ false
    → list_any p (entries ++ entry ∷ []) ≡ list_any p entries
still_fails p entries entry is =
    any_more p entries entry false is ∙ or_left (list_any p entries) false refl

-- a part isn't an act
part_not_act : (entry : Entry) → is_part entry ≡ true → is_acted entry ≡ false
part_not_act (Acted cpu number) is = absurd (let never : ⊥ = cc in never)
part_not_act (Part cpu number space slot) is = refl
part_not_act (Retired serial seen) is = refl
part_not_act (Reclaimed serial seen) is = refl

-- a dead call has looks, none of them above the history
frame_dead : (boot : State) (events : List history.Event) (cspace last : ℕ) (made : Made) (shape : Result Call Errno)
    → FrameIs boot events cspace last made shape → made.mark.end ≡ ends.Dead → (i : ℕ) (seen : Seen)
    → slice_get made.seen i ≡ Some seen → seen.look.place ≤ length events
frame_dead boot events cspace last made (Err errno) framed dead i seen is =
    let frame : made.mark.end ≡ ends.Frame = framed.end in
    let never_so : ends.Frame ≡ ends.Dead = sym frame ∙ dead in
    absurd (let never : ⊥ = cc in never)
frame_dead boot events cspace last made (Ok call) framed dead i seen is = (framed.0 i seen is).within

module _ (e : Entering) where
  pub front : IsFront e.conf.history (log_behind e)
  front = front_more e.conf.history (logged e.entry e.call ∷ [])

  -- the present state is that before the entry
  pub at_end : history.state_at e.conf.boot (log_behind e) (length e.conf.history) ≡ present e.conf
  at_end =
      front_state e.conf.history (log_behind e) front e.conf.boot (length e.conf.history) (omega arith)
      ∙ ap (history.replay e.conf.boot) (take_all e.conf.history)

module _ (e : Entering) (goes : EntryGoes e) (sound : HasCalls e.conf) where
  abbrev Behind : (ℕ → ℕ → CapWord) → Config
  Behind cap = with_log e.conf (log_behind e) e.index (Some (holder_behind e)) cap

  made_of : (n : ℕ) → calls_in e.conf n ≡ (e.conf.cpu n).made
  made_of n = made_before e.conf e.holder goes.allows.has_turn.turn goes.allows.not_acted n

  death_on : (seen : Seen) → seen.look.place ≤ length e.conf.history
      → DeathIs e.conf.boot e.conf.history e.conf.index e.conf.dead seen
      → DeathIs e.conf.boot (log_behind e) e.index e.conf.dead seen
  death_on seen within is = death_goes_on e.conf (logged e.entry e.call) e.index goes.deaths seen within is

  current_on : (n : ℕ) (call : Current)
      → CurrentIs e.conf.boot e.conf.history e.conf.index e.conf.dead n (e.conf.cpu n) call
      → CurrentIs e.conf.boot (log_behind e) e.index e.conf.dead n (e.conf.cpu n) call
  current_on n call now = record {
    follows = now.follows;
    section = now.section;
    looks = λ i seen is. look_stays e.conf.history (log_behind e) (front e) e.conf.boot (cspace_of e.conf.boot n) (place_after (e.conf.cpu n).made) (needs_of call.given.call) (take i call.seen) seen (now.looks i seen is);
    came = now.came;
    looked = now.looked;
    needs = now.needs;
    pinned = now.pinned;
    dies = λ seen dying last.
        let item : IsLast call.seen seen = last_item call.seen seen last in
        death_on seen (now.looks item.at seen item.is).within (now.dies seen dying last);
  }

  calls_on : (n : ℕ) → CpuCalls e.conf.boot (log_behind e) e.index e.conf.dead (calls_behind e n) n (e.conf.cpu n)
  calls_on n = record {
    finished = goes.finished n;
    numbered = goes.numbered n;
    current = λ call is. current_on n call ((sound.calls n).current call is);
    next = (sound.calls n).next;
    idle = (sound.calls n).idle;
  }

  -- a dead call
  dead_within : (cpu i : ℕ) (made : Made) (seen : Seen) → slice_get (e.conf.cpu cpu).made i ≡ Some made
      → made.mark.end ≡ ends.Dead → last_or None made.seen ≡ Some seen → seen.look.place ≤ length e.conf.history
  dead_within cpu i made seen is dead last =
      let all : InTurn (CallIs e.conf.boot e.conf.history cpu) (e.conf.cpu cpu).made = subst (λ (calls : List Made). InTurn (CallIs e.conf.boot e.conf.history cpu) calls) (made_of cpu) (sound.calls cpu).finished in
      let one : CallIs e.conf.boot e.conf.history cpu (take i (e.conf.cpu cpu).made) made = all i made is in
      let item : IsLast made.seen seen = last_item made.seen seen last in
      frame_dead e.conf.boot e.conf.history (cspace_of e.conf.boot cpu) (place_after (take i (e.conf.cpu cpu).made)) made (call_of made.frame) one.frame dead item.at seen item.is

  -- the holder

  acting_on : (holder : Holder) → Some (holder_behind e) ≡ Some holder → IsActing e.conf.cpu holder
  acting_on holder is =
      let same : holder_behind e ≡ holder = cc in
      let number : e.at ≡ holder.cpu = sym goes.allows.has_turn.its_cpu ∙ ap (λ (one : Holder). one.cpu) same in
      record { call = e.call; in_act = subst (λ (n : ℕ). IsIn (e.conf.cpu n) e.call AtAct) number goes.allows.in_act }

  -- entries

  abbrev InLog : ℕ → history.Event → Type 0
  InLog n event = slice_get (log_behind e) n ≡ Some event

  abbrev Cases : ℕ → history.Event → Type 0
  Cases n event =
      ((n < length e.conf.history) × (slice_get e.conf.history n ≡ Some event))
      ⊎ ((n ≡ length e.conf.history) × (logged e.entry e.call ≡ event))

  cases : (n : ℕ) (event : history.Event) → InLog n event → Cases n event
  cases n event is = snoc_cases e.conf.history (logged e.entry e.call) event n is

  ends_on : (n : ℕ) (event : history.Event) (entry : Entry)
      → EntryIs e.conf.boot (log_behind e) (calls_in e.conf) n event entry
      → EntryIs e.conf.boot (log_behind e) (calls_behind e) n event entry
  ends_on n event (Acted of number) is =
      goes.ends of.0 number (n + 1) (subst (λ (calls : List Made). IsEndOf calls number (n + 1)) (made_of of.0) is)
  ends_on n event (Part of number space slot) is = is
  ends_on n event (Retired serial seen) is = is
  ends_on n event (Reclaimed serial seen) is = is

  entry_by : (n : ℕ) (event : history.Event) → Cases n event
      → EntryIs e.conf.boot (log_behind e) (calls_behind e) n event event.entry
  entry_by n event (inl old) =
      let within : n < length e.conf.history = old.0 in
      ends_on n event event.entry
      (entry_is_stays e.conf.history (log_behind e) (front e) e.conf.boot (calls_in e.conf) n event event.entry (omega (arith, within))
      (sound.entries.entries n event old.1))
  entry_by n event (inr last) =
      subst (λ (one : history.Event). EntryIs e.conf.boot (log_behind e) (calls_behind e) n one one.entry) last.1
      (subst (λ (i : ℕ). EntryIs e.conf.boot (log_behind e) (calls_behind e) i (logged e.entry e.call) e.entry) (sym last.0) goes.entry_is)

  kind_unreferenced : (kind : Entry) → KindAllows e.conf e.holder e.call e.entry kind → e.entry ≡ kind
      → GoesUnreferenced (present e.conf) kind
  kind_unreferenced (Acted cpu number) allowed is = tt
  kind_unreferenced (Part cpu number space slot) allowed is = tt
  kind_unreferenced (Retired serial seen) allowed is =
      subst (GoesUnreferenced (present e.conf)) is allowed.unreferenced
  kind_unreferenced (Reclaimed serial seen) allowed is =
      subst (GoesUnreferenced (present e.conf)) is allowed.unreferenced

  unreferenced_by : (n : ℕ) (event : history.Event) → Cases n event
      → GoesUnreferenced (history.state_at e.conf.boot (log_behind e) n) event.entry
  unreferenced_by n event (inl old) =
      let within : n < length e.conf.history = old.0 in
      subst (λ (s : State). GoesUnreferenced s event.entry) (sym (front_state e.conf.history (log_behind e) (front e) e.conf.boot n (omega (arith, within))))
      (sound.entries.unreferenced n event old.1)
  unreferenced_by n event (inr last) =
      subst (λ (one : history.Event). GoesUnreferenced (history.state_at e.conf.boot (log_behind e) n) one.entry) last.1
      (subst (λ (s : State). GoesUnreferenced s e.entry) (sym (ap (history.state_at e.conf.boot (log_behind e)) last.0 ∙ at_end e))
      (kind_unreferenced e.entry goes.allows.allowed refl))

  -- parts

  same_caller : (cpu : CpuNo) (number : ℕ) → cpu.0 ≡ e.holder.cpu → number ≡ e.call.given.number
      → history.caller (Acted cpu number) ≡ Some (e.holder.cpu, e.call.given.number)
  same_caller cpu number its_cpu its_number =
      ap (λ (n : ℕ). Some (n, number)) its_cpu ∙ ap (λ (n : ℕ). Some (e.holder.cpu, n)) its_number

  kind_caller : (kind : Entry) → KindAllows e.conf e.holder e.call e.entry kind → has_part e.holder ≡ true
      → history.caller kind ≡ Some (e.holder.cpu, e.call.given.number)
  kind_caller (Acted cpu number) allowed part =
      same_caller cpu number allowed.its_cpu allowed.its_number
  kind_caller (Part cpu number space slot) allowed part =
      same_caller cpu number allowed.its_cpu allowed.its_number
  kind_caller (Retired serial seen) allowed part =
      let none : has_part e.holder ≡ false = allowed.no_part in absurd (let never : ⊥ = cc in never)
  kind_caller (Reclaimed serial seen) allowed part =
      let none : has_part e.holder ≡ false = allowed.no_part in absurd (let never : ⊥ = cc in never)

  part_caller : (kind : Entry) → KindAllows e.conf e.holder e.call e.entry kind → is_part kind ≡ true
      → history.caller kind ≡ Some (e.holder.cpu, e.call.given.number)
  part_caller (Acted cpu number) allowed part = absurd (let never : ⊥ = cc in never)
  part_caller (Part cpu number space slot) allowed part =
      same_caller cpu number allowed.its_cpu allowed.its_number
  part_caller (Retired serial seen) allowed part = absurd (let never : ⊥ = cc in never)
  part_caller (Reclaimed serial seen) allowed part = absurd (let never : ⊥ = cc in never)

  -- a part that waited goes on with this entry
  waited_on : (n : ℕ) (event : history.Event) → Waits e.conf.history e.conf.turn e.conf.cpu n event
      → GoesOn e.conf.boot (log_behind e) n event
  waited_on n event waits =
      let held : Some e.holder ≡ Some waits.holder = sym goes.allows.has_turn.turn ∙ waits.has_turn in
      let same : e.holder ≡ waits.holder = cc in
      let own : waits.holder.cpu ≡ e.at = sym (ap (λ (one : Holder). one.cpu) same) ∙ goes.allows.has_turn.its_cpu in
      let there : (e.conf.cpu e.at).current ≡ Some waits.call = subst (λ (i : ℕ). (e.conf.cpu i).current ≡ Some waits.call) own waits.in_act.is_current in
      let calls : Some e.call ≡ Some waits.call = sym goes.allows.in_act.is_current ∙ there in
      let its : e.call ≡ waits.call = cc in
      let caller_is : history.caller e.entry ≡ Some (e.holder.cpu, e.call.given.number) = kind_caller e.entry goes.allows.allowed (ap has_part same ∙ waits.parts) in
      let both : Some (e.holder.cpu, e.call.given.number) ≡ Some (waits.holder.cpu, waits.call.given.number) =
      ap (λ (one : Holder). Some (one.cpu, e.call.given.number)) same ∙ ap (λ (one : Current). Some (waits.holder.cpu, one.given.number)) its in
      let event_is : event ≡ logged event.entry waits.call = waits.is_its in
      record {
        next = logged e.entry e.call;
        is = subst (λ (i : ℕ). slice_get (log_behind e) i ≡ Some (logged e.entry e.call)) (sym waits.last) (slice_get_seam e.conf.history (logged e.entry e.call) []);
        caller = caller_is ∙ both ∙ sym waits.caller;
        call = ap (λ (one : Current). one.given.call) its ∙ sym (ap (λ (one : history.Event). one.call) event_is);
        bytes = ap (λ (one : Current). one.given.frame.bytes) its ∙ sym (ap (λ (one : history.Event). one.bytes) event_is);
        words = ap (λ (one : Current). (logged e.entry one).words) its ∙ sym (ap (λ (one : history.Event). one.words) event_is);
      }

  -- and a part that this entry is waits
  waits_now : is_part e.entry ≡ true
      → Waits (log_behind e) (Some (holder_behind e)) e.conf.cpu (length e.conf.history) (logged e.entry e.call)
  waits_now part = record {
    last = sym (length-append e.conf.history (logged e.entry e.call ∷ []));
    holder = holder_behind e;
    call = e.call;
    has_turn = refl;
    in_act = subst (λ (n : ℕ). IsIn (e.conf.cpu n) e.call AtAct) (sym goes.allows.has_turn.its_cpu) goes.allows.in_act;
    not_acted = still_fails is_acted e.holder.entries e.entry (part_not_act e.entry part) ∙ goes.allows.not_acted;
    parts = now_passes is_part e.holder.entries e.entry part;
    caller = part_caller e.entry goes.allows.allowed part;
    is_its = refl;
  }

  part_old : (n : ℕ) (event : history.Event)
      → GoesOn e.conf.boot e.conf.history n event ⊎ Waits e.conf.history e.conf.turn e.conf.cpu n event
      → GoesOn e.conf.boot (log_behind e) n event
  part_old n event (inl on) = goes_on_stays e.conf.history (log_behind e) (front e) e.conf.boot n event on
  part_old n event (inr waits) = waited_on n event waits

  part_by : (n : ℕ) (event : history.Event) → Cases n event → is_part event.entry ≡ true
      → GoesOn e.conf.boot (log_behind e) n event ⊎ Waits (log_behind e) (Some (holder_behind e)) e.conf.cpu n event
  part_by n event (inl old) part = inl (part_old n event (sound.entries.parts n event old.1 part))
  part_by n event (inr last) part =
      let now : is_part e.entry ≡ true = ap (λ (one : history.Event). is_part one.entry) last.1 ∙ part in
      inr (subst (λ (one : history.Event). Waits (log_behind e) (Some (holder_behind e)) e.conf.cpu n one) last.1
      (subst (λ (i : ℕ). Waits (log_behind e) (Some (holder_behind e)) e.conf.cpu i (logged e.entry e.call)) (sym last.0) (waits_now now)))

  -- slots that were taken
  open_part : (here : Bool) → is_part e.entry ≡ here
      → stands_open (Some (holder_behind e)) ≡ false → here ≡ false
  unfolding waits_now
  open_part false is closed = refl
  open_part true is closed =
      let acted : has_acted (holder_behind e) ≡ false = (waits_now is).not_acted in
      let parts : has_part (holder_behind e) ≡ true = (waits_now is).parts in
      let stands : stands_open (Some (holder_behind e)) ≡ true = rw (acted, parts) refl in
      absurd (let never : ⊥ = cc in never)

  untaken_on : stands_open (Some (holder_behind e)) ≡ false → (history.replay e.conf.boot (log_behind e)).taken ≡ []
  untaken_on closed =
      ap (λ (s : State). s.taken) (replay_more e.conf.boot e.conf.history (logged e.entry e.call))
      ∙ goes.untaken (open_part (is_part e.entry) refl closed)

  -- the calls stay sound
  pub entry_keeps_calls : (cap : ℕ → ℕ → CapWord) → HasCalls (Behind cap)
  entry_keeps_calls cap = record {
    calls = calls_on;
    counters = sound.counters;
    entries = record {
      acting = acting_on;
      entries = λ n event is. entry_by n event (cases n event is);
      parts = λ n event is part. part_by n event (cases n event is) part;
      untaken = untaken_on;
      unreferenced = λ n event is. unreferenced_by n event (cases n event is);
      deaths = λ cpu i made seen is dead last. death_on seen (dead_within cpu i made seen is dead last) (sound.entries.deaths cpu i made seen is dead last);
    };
  }
