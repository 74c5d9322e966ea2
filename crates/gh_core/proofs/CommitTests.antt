-- What is committed is what the machine commits, where it may.
use Rattle.std.proofs.Common.{◌≡◌, ◌&&◌, ◌<◌, ◌∙◌, ◌++◌, ◌∷◌, [], ℕ, true, false, List, refl, ap, sym, subst, Option, Some, None, nat_lt, option_map}
use Rattle.gh_base.specs.declared.limits.TheConstants.{CPUS}
use Rattle.gh_invariant.specs.Effects.{slots_set}
use Rattle.gh_invariant.specs.Events.{changes_of}
use Rattle.gh_model.specs.History as history
use Rattle.gh_model.specs.declared.entry.Entry.{Entry}
use Rattle.gh_model.specs.declared.state.State.{State}
use Rattle.gh_events.specs.Config.{Config, Current, Holder, present}
use Rattle.gh_events.specs.Entries.{Allows, Covers, logged, next_state, owed_after}
use Rattle.gh_core.specs.EntryTests.{allows, entry_goes, goes_in, kind_goes, may_commit, sets_slots}
use Rattle.gh_core.specs.Owing.{CoversAll, next_is, owed_behind, owed_in, owing_covers, owing_of, with_event, with_owing}
use Rattle.gh_core.specs.Running.{event_of, holder_of, is_made, no_number, stands_for}
use Rattle.gh_core.specs.Tables.{numbers}
use Rattle.gh_events.specs.TurnEvents.{MayCommit, committed, committed_by, with_entry}
use Rattle.gh_core.specs.declared.commit_events.Next.{Next}
use Rattle.gh_core.specs.declared.config.Running.{Running}
use Rattle.gh_core.specs.declared.holder.Turn.{Turn}
use Rattle.gh_core.specs.declared.table.Written.{Written}
use Rattle.gh_core.proofs.AllowTests.{allow_told, tells_allow}
use Rattle.gh_core.proofs.CallTests.{both, equal, is_below, is_equal, joined}
use Rattle.gh_core.proofs.OwedLemmas.{owed_is}

-- an entry that is ready: the turn, the call and what is owed

pub record Ready (running : Running) (at : ℕ) (entry : Entry) (count : ℕ) (later : ℕ → ℕ) (next : Next) (all : List Written) : Type 0 where
  pub own : Turn
  pub call : Current
  pub turn : running.turn ≡ Some own
  pub current : ((stands_for running).cpu at).current ≡ Some call
  pub allows : Allows (stands_for running) at entry (holder_of own) call
  pub sets : slots_set (changes_of (present (stands_for running)) (logged entry call)) ≡ count
  pub event : event_of next.logged ≡ logged entry call
  pub state : next.state ≡ next_state (stands_for running) call entry
  pub covers : CoversAll own.owed (present (stands_for running)) next.state (stands_for running).index later
  pub owed : all ≡ owed_behind own.owed (present (stands_for running)) next.state (stands_for running).index later

ready_by : (running : Running) (at : ℕ) (entry : Entry) (count : ℕ) (later : ℕ → ℕ) (next : Next) (all : List Written) (turn : Option Turn) (current : Option Current)
    → running.turn ≡ turn → ((stands_for running).cpu at).current ≡ current
    → goes_in (stands_for running) at entry count (option_map holder_of turn) current ≡ true
    → next_is (stands_for running) entry current next
    → owing_covers turn (present (stands_for running)) next.state (stands_for running).index later
    → all ≡ owing_of turn (present (stands_for running)) next.state (stands_for running).index later
    → Ready running at entry count later next all
ready_by running at entry count later next all None current turn is goes ready covers owed = absurd covers
ready_by running at entry count later next all (Some own) None turn is goes ready covers owed = absurd ready
ready_by running at entry count later next all (Some own) (Some call) turn is goes ready covers owed =
    let parts = both (allows (stands_for running) at entry (holder_of own) call) (sets_slots (present (stands_for running)) (logged entry call) count) goes in
    record {
      own = own;
      call = call;
      turn = turn;
      current = is;
      allows = allow_told (stands_for running) at entry (holder_of own) call parts.0 (ap (option_map holder_of) turn) is;
      sets = equal (slots_set (changes_of (present (stands_for running)) (logged entry call))) count parts.1;
      event = ready.0;
      state = ready.1;
      covers = covers;
      owed = owed;
    }

pub ready : (running : Running) (at : ℕ) (entry : Entry) (count : ℕ) (later : ℕ → ℕ) (next : Next) (all : List Written)
    → entry_goes (stands_for running) at entry count ≡ true
    → next_is (stands_for running) entry ((stands_for running).cpu at).current next
    → owing_covers running.turn (present (stands_for running)) next.state (stands_for running).index later
    → all ≡ owing_of running.turn (present (stands_for running)) next.state (stands_for running).index later
    → Ready running at entry count later next all
ready running at entry count later next all goes is covers owed = ready_by running at entry count later next all running.turn ((stands_for running).cpu at).current refl refl goes is covers owed

-- an entry that is ready is allowed by the state
pub ready_made : (conf : Config) (at : ℕ) (entry : Entry) (count : ℕ) (turn : Option Holder) (current : Option Current) (next : Next)
    → goes_in conf at entry count turn current ≡ true → next_is conf entry current next → is_made (present conf) (event_of next.logged) ≡ true
ready_made conf at entry count None current next goes is = absurd (let never : ⊥ = cc in never)
ready_made conf at entry count (Some holder) None next goes is = absurd is
ready_made conf at entry count (Some holder) (Some call) next goes is =
    let parts = both (allows conf at entry holder call) (sets_slots (present conf) (logged entry call) count) goes in
    let rest = both (may_commit at holder call) (kind_goes conf holder call (logged entry call) entry && is_made (present conf) (logged entry call)) parts.0 in
    subst (λ (event : history.Event). is_made (present conf) event ≡ true) (sym is.0)
    (both (kind_goes conf holder call (logged entry call) entry) (is_made (present conf) (logged entry call)) rest.1).1

-- the test fails where the entry isn't allowed

tells_by : (conf : Config) (at : ℕ) (entry : Entry) (count : ℕ) (turn : Option Holder) (current : Option Current) (holder : Holder) (call : Current)
    → turn ≡ Some holder → current ≡ Some call → allows conf at entry holder call ≡ true
    → sets_slots (present conf) (logged entry call) count ≡ true → goes_in conf at entry count turn current ≡ true
tells_by conf at entry count turn current holder call is now goes sets = rw is (rw now (joined (allows conf at entry holder call) (sets_slots (present conf) (logged entry call) count) goes sets))

pub tells_goes : (conf : Config) (at : ℕ) (entry : Entry) (count : ℕ) (holder : Holder) (call : Current) → Allows conf at entry holder call
    → slots_set (changes_of (present conf) (logged entry call)) ≡ count → entry_goes conf at entry count ≡ true
tells_goes conf at entry count holder call is sets =
    tells_by conf at entry count conf.turn (conf.cpu at).current holder call is.has_turn.turn is.in_act.is_current (tells_allow conf at entry holder call is)
    (is_equal (slots_set (changes_of (present conf) (logged entry call))) count sets)

-- nor where an amount falls below 0

covers_by : (running : Running) (later : ℕ → ℕ) (turn : Option Turn) (holder : Holder) (new : State) → option_map holder_of turn ≡ Some holder
    → Covers (stands_for running) holder new later
    → owing_covers turn (present (stands_for running)) new (stands_for running).index later
covers_by running later None holder new is covers = absurd (let never : ⊥ = cc in never)
covers_by running later (Some own) holder new is covers =
    let same : holder_of own ≡ holder = cc in
    subst (λ (h : Holder). Covers (stands_for running) h new later) (sym same) covers

pub tells_covers : (running : Running) (at : ℕ) (entry : Entry) (later : ℕ → ℕ) (holder : Holder) (call : Current) (next : Next)
    → Allows (stands_for running) at entry holder call
    → Covers (stands_for running) holder (next_state (stands_for running) call entry) later
    → next_is (stands_for running) entry ((stands_for running).cpu at).current next
    → owing_covers running.turn (present (stands_for running)) next.state (stands_for running).index later
tells_covers running at entry later holder call next is covers ready =
    let here : next_is (stands_for running) entry (Some call) next = subst (λ (o : Option Current). next_is (stands_for running) entry o next) is.in_act.is_current ready in
    subst (λ (s : State). owing_covers running.turn (present (stands_for running)) s (stands_for running).index later) (sym here.1)
    (covers_by running later running.turn holder (next_state (stands_for running) call entry) is.has_turn.turn covers)

-- commits

module _ (running : Running) (at : ℕ) (entry : Entry) (next : Next) (all : List Written) (is : Ready running at entry 0 (stands_for running).index next all) where
  pub commit_may : at < CPUS → MayCommit (stands_for running) at entry
  commit_may within = record {
    is_cpu = within;
    holder = holder_of is.own;
    call = is.call;
    allows = is.allows;
    no_slot = is.sets;
    covers = subst (λ (s : State). CoversAll is.own.owed (present (stands_for running)) s (stands_for running).index (stands_for running).index) is.state is.covers;
  }

  owed_same : numbers no_number all ≡ owed_after (stands_for running) (holder_of is.own) (next_state (stands_for running) is.call entry) (stands_for running).index
  owed_same =
      ap (numbers no_number) is.owed
      ∙ (owed_is is.own.owed (present (stands_for running)) next.state (stands_for running).index (stands_for running).index
      ∙ ap (λ (s : State). owed_in is.own.owed (present (stands_for running)) s (stands_for running).index (stands_for running).index) is.state)

  abbrev entries_on : history.Event → Option Holder → Config
  entries_on event turn = record (stands_for running) { history = (stands_for running).history ++ event ∷ []; turn = turn }

  turn_same : option_map (with_owing entry (owed_after (stands_for running) (holder_of is.own) (next_state (stands_for running) is.call entry) (stands_for running).index)) (stands_for running).turn
      ≡ option_map (with_entry (stands_for running) entry (next_state (stands_for running) is.call entry) (stands_for running).index) (stands_for running).turn
  turn_same =
      let turn : (stands_for running).turn ≡ Some (holder_of is.own) = ap (option_map holder_of) is.turn in
      ap (option_map (with_owing entry (owed_after (stands_for running) (holder_of is.own) (next_state (stands_for running) is.call entry) (stands_for running).index))) turn
      ∙ sym (ap (option_map (with_entry (stands_for running) entry (next_state (stands_for running) is.call entry) (stands_for running).index)) turn)

  pub commit_is : with_event (stands_for running) (event_of next.logged) (numbers no_number all) ≡ committed (stands_for running) at entry
  commit_is =
      ap (λ (event : history.Event). with_event (stands_for running) event (numbers no_number all)) is.event
      ∙ (ap (λ (owed : ℕ → ℕ). with_event (stands_for running) (logged entry is.call) owed) owed_same
      ∙ (ap (entries_on (logged entry is.call)) turn_same
      ∙ sym (ap (committed_by (stands_for running) entry (λ new. (stands_for running).index)) is.current)))

-- a CPU that there isn't
pub no_cpu : (running : Running) (at : ℕ) (entry : Entry) → nat_lt at CPUS ≡ false → MayCommit (stands_for running) at entry → ⊥
no_cpu running at entry is may = let there : nat_lt at CPUS ≡ true = is_below at CPUS may.is_cpu in cc

-- an entry that isn't ready
pub not_ready : (running : Running) (at : ℕ) (entry : Entry) → entry_goes (stands_for running) at entry 0 ≡ false → MayCommit (stands_for running) at entry → ⊥
not_ready running at entry is may =
    let goes : entry_goes (stands_for running) at entry 0 ≡ true = tells_goes (stands_for running) at entry 0 may.holder may.call may.allows may.no_slot in cc

module _ (running : Running) (at : ℕ) (entry : Entry) (next : Next) (old : State) (same : old ≡ present (stands_for running))
    (goes : entry_goes (stands_for running) at entry 0 ≡ true) (is : next_is (stands_for running) entry ((stands_for running).cpu at).current next) where
  -- one that isn't covered
  pub not_covered : (owing_covers running.turn old next.state (stands_for running).index (stands_for running).index → ⊥) → MayCommit (stands_for running) at entry → ⊥
  not_covered uncovered may = uncovered (subst (λ (s : State). owing_covers running.turn s next.state (stands_for running).index (stands_for running).index) (sym same)
      (tells_covers running at entry (stands_for running).index may.holder may.call next may.allows may.covers is))

  module _ (covers : owing_covers running.turn old next.state (stands_for running).index (stands_for running).index) where
    is_ready : Ready running at entry 0 (stands_for running).index next (owing_of running.turn old next.state (stands_for running).index (stands_for running).index)
    is_ready = ready running at entry 0 (stands_for running).index next _ goes is
        (subst (λ (s : State). owing_covers running.turn s next.state (stands_for running).index (stands_for running).index) same covers)
        (ap (λ (s : State). owing_of running.turn s next.state (stands_for running).index (stands_for running).index) same)

    pub covered_may : at < CPUS → MayCommit (stands_for running) at entry
    covered_may within = commit_may running at entry next _ is_ready within

    pub covered_is : (new : Config) → new ≡ with_event (stands_for running) (event_of next.logged) (numbers no_number (owing_of running.turn old next.state (stands_for running).index (stands_for running).index))
        → new ≡ committed (stands_for running) at entry
    covered_is new made = made ∙ commit_is running at entry next _ is_ready
