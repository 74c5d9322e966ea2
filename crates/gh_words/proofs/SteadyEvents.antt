-- An event of the holder that asks for no count and no counter is possible where all is the same
-- that it can rely on, and leaves it the same.
use Rattle.std.proofs.Common.{◌≡◌, ◌∙◌, ℕ, true, false, ap, refl, subst, sym, Option, Some}
use Rattle.gh_base.specs.declared.cap_word.CapWord.{CapWord}
use Rattle.gh_base.specs.declared.ids.CpuNo.{CpuNo}
use Rattle.gh_events.specs.Config.{AtAct, Config, Cpu, Current, Holder, IsIn}
use Rattle.gh_events.specs.Entries.{Allows, KindAllows, index_after}
use Rattle.gh_events.specs.Events.{Possible, after}
use Rattle.gh_events.specs.HolderEvents.{MayOwe, MayRevive, MaySettle}
use Rattle.gh_events.specs.TurnEvents.{MayCommit, MaySetCap, committed_by, put_word}
use Rattle.gh_events.specs.declared.event.Event.{Event}
use Rattle.gh_events.specs.declared.event.Event.TheVariants.{Enter, Leave, Take, Look, Pin, Unpin, Undo, Kill, Commit, SetCap, Free, Scan, Revive, Join, Split}
use Rattle.gh_model.specs.declared.entry.Entry.{Entry}
use Rattle.gh_model.specs.declared.entry.Entry.TheVariants.{Acted, Part, Retired, Reclaimed}
use Rattle.gh_schedules.specs.Committing.{cpu_no}
use Rattle.gh_words.specs.Moved.{made_on}
use Rattle.gh_words.specs.Steady.{IsSameFor, IsSteadyOf, is_steady, with_others}

-- the same for the holder, and the same

pub same_itself : (at : ℕ) (conf : Config) → IsSameFor at conf conf
same_itself at conf = record { is = refl; own = refl }

pub same_on : (at : ℕ) (first conf later : Config) → IsSameFor at first conf → IsSameFor at conf later → IsSameFor at first later
same_on at first conf later one two = record {
  is = two.is ∙ ap (λ (c : Config). with_others c later.count later.counter later.cpu) one.is;
  own = two.own ∙ one.own;
}

module _ (first : Config) (counts counters : ℕ → ℕ) (cpus : ℕ → Cpu) (at : ℕ) (own : cpus at ≡ first.cpu at) where
  abbrev other : Config
  other = with_others first counts counters cpus

  call_stays : (call : Current) → IsIn (first.cpu at) call AtAct → IsIn (cpus at) call AtAct
  call_stays call is = subst (λ (cpu : Cpu). IsIn cpu call AtAct) (sym own) is

  kind_stays : (holder : Holder) (call : Current) (whole kind : Entry) → KindAllows first holder call whole kind
      → KindAllows other holder call whole kind
  kind_stays holder call whole (Acted cpu number) is = record {
    its_cpu = is.its_cpu;
    its_number = is.its_number;
    may_act = is.may_act;
    new = is.new;
    reply = is.reply;
    is_done = is.is_done;
    none_killed = is.none_killed;
  }
  kind_stays holder call whole (Part cpu number space slot) is = record {
    its_cpu = is.its_cpu;
    its_number = is.its_number;
    part = is.part;
    goes_on = is.goes_on;
    least = is.least;
    none_killed = is.none_killed;
  }
  kind_stays holder call whole (Retired serial seen) is =
      record { unreferenced = is.unreferenced; dead = is.dead; scans = is.scans; no_part = is.no_part }
  kind_stays holder call whole (Reclaimed serial seen) is =
      record { unreferenced = is.unreferenced; unread = is.unread; scans = is.scans; no_part = is.no_part }

  allows_stays : (entry : Entry) (holder : Holder) (call : Current) → Allows first at entry holder call → Allows other at entry holder call
  allows_stays entry holder call allows = record {
    has_turn = record { turn = allows.has_turn.turn; its_cpu = allows.has_turn.its_cpu };
    in_act = call_stays call allows.in_act;
    not_acted = allows.not_acted;
    allowed = kind_stays holder call entry entry allows.allowed;
  }

  abbrev Stays : Event → Type 0
  Stays event = Possible first event → Possible other event

  owe_stays : (object : ℕ) → MayOwe first at object → MayOwe other at object
  owe_stays object may = record {
    is_cpu = may.is_cpu;
    is_index = may.is_index;
    holder = may.holder;
    has_turn = record { turn = may.has_turn.turn; its_cpu = may.has_turn.its_cpu };
    alive = may.alive;
    room = may.room;
  }

  settle_stays : (object : ℕ) → MaySettle first at object → MaySettle other at object
  settle_stays object may = record {
    is_cpu = may.is_cpu;
    is_index = may.is_index;
    holder = may.holder;
    has_turn = record { turn = may.has_turn.turn; its_cpu = may.has_turn.its_cpu };
    owes = may.owes;
  }

  revive_stays : (object count : ℕ) → MayRevive first at object count → MayRevive other at object count
  revive_stays object count may = record {
    is_cpu = may.is_cpu;
    is_index = may.is_index;
    holder = may.holder;
    call = may.call;
    has_turn = record { turn = may.has_turn.turn; its_cpu = may.has_turn.its_cpu };
    in_act = call_stays may.call may.in_act;
    uninhabited = may.uninhabited;
    counted = may.counted;
    bounded = may.bounded;
    creates = may.creates;
    does = may.does;
    not_acted = may.not_acted;
    first = may.first;
  }

  commit_stays : (entry : Entry) → MayCommit first at entry → MayCommit other at entry
  commit_stays entry may = record {
    is_cpu = may.is_cpu;
    holder = may.holder;
    call = may.call;
    allows = allows_stays entry may.holder may.call may.allows;
    no_slot = may.no_slot;
    covers = may.covers;
  }

  set_stays : (entry : Entry) (space slot : ℕ) (word : CapWord) → MaySetCap first at entry space slot word → MaySetCap other at entry space slot word
  set_stays entry space slot word may = record {
    is_cpu = may.is_cpu;
    is_index = may.is_index;
    holder = may.holder;
    call = may.call;
    allows = allows_stays entry may.holder may.call may.allows;
    one_slot = may.one_slot;
    cspace = may.cspace;
    sets = may.sets;
    at_space = may.at_space;
    shows = may.shows;
    revived = may.revived;
    covers = may.covers;
  }

  -- behind an entry of this call
  entered : (of_first of_other : Option Current → Config) (call : Current) → (first.cpu at).current ≡ Some call
      → IsSameFor at (of_first (Some call)) (of_other (Some call)) → IsSameFor at (of_first (first.cpu at).current) (of_other (cpus at).current)
  entered of_first of_other call is same =
      subst (λ (current : Option Current). IsSameFor at (of_first current) (of_other (cpus at).current)) (sym is)
      (subst (λ (current : Option Current). IsSameFor at (of_first (Some call)) (of_other current)) (sym (ap (λ (cpu : Cpu). cpu.current) own ∙ is)) same)

-- the configuration behind an entry that sets a slot
abbrev set_by : Config → Entry → ℕ → ℕ → CapWord → Option Current → Config
set_by conf entry space slot word current =
    record (committed_by conf entry (λ new. index_after conf new word) current) { cap = put_word conf.cap space slot word }

-- an event of the holder that is steady

module _ (at : ℕ) (first : Config) (counts counters : ℕ → ℕ) (cpus : ℕ → Cpu) (own : cpus at ≡ first.cpu at) where
  abbrev Same : Event → Type 0
  Same event = Possible (with_others first counts counters cpus) event
      × IsSameFor at (after first event) (after (with_others first counts counters cpus) event)

  -- of a CPU of this number
  by_event : (event : Event) → is_steady event ≡ true → made_on event ≡ cpu_no at → Possible first event → Same event
  by_event (Enter cpu) steady its may = absurd (let never : ⊥ = cc in never)
  by_event (Leave cpu) steady its may = absurd (let never : ⊥ = cc in never)
  by_event (Take cpu) steady its may = absurd (let never : ⊥ = cc in never)
  by_event (Look cpu slot) steady its may = absurd (let never : ⊥ = cc in never)
  by_event (Pin cpu object false) steady its may = absurd (let never : ⊥ = cc in never)
  by_event (Pin cpu object true) steady its may = subst (λ (c : CpuNo). Possible first (Pin c object true) → Same (Pin c object true)) (sym its)
      (λ may. (owe_stays first counts counters cpus at own object.0 may, record { is = refl; own = own })) may
  by_event (Unpin cpu object false) steady its may = absurd (let never : ⊥ = cc in never)
  by_event (Unpin cpu object true) steady its may = subst (λ (c : CpuNo). Possible first (Unpin c object true) → Same (Unpin c object true)) (sym its)
      (λ may. (settle_stays first counts counters cpus at own object.0 may, record { is = refl; own = own })) may
  by_event (Undo cpu object) steady its may = absurd (let never : ⊥ = cc in never)
  by_event (Kill cpu object) steady its may = absurd (let never : ⊥ = cc in never)
  by_event (Commit cpu entry) steady its may = subst (λ (c : CpuNo). Possible first (Commit c entry) → Same (Commit c entry)) (sym its)
      (λ may. (
        commit_stays first counts counters cpus at own entry may,
        entered first counts counters cpus at own (committed_by first entry (λ new. first.index)) (committed_by (with_others first counts counters cpus) entry (λ new. first.index))
            may.call may.allows.in_act.is_current (record { is = refl; own = own }),
      )) may
  by_event (SetCap cpu entry space slot word) steady its may = subst (λ (c : CpuNo). Possible first (SetCap c entry space slot word) → Same (SetCap c entry space slot word)) (sym its)
      (λ may. (
        set_stays first counts counters cpus at own entry space.0 slot word may,
        entered first counts counters cpus at own (set_by first entry space.0 slot word) (set_by (with_others first counts counters cpus) entry space.0 slot word)
            may.call may.allows.in_act.is_current (record { is = refl; own = own }),
      )) may
  by_event (Free cpu act) steady its may = absurd (let never : ⊥ = cc in never)
  by_event (Scan cpu of_cpu) steady its may = absurd (let never : ⊥ = cc in never)
  by_event (Revive cpu object count) steady its may = subst (λ (c : CpuNo). Possible first (Revive c object count) → Same (Revive c object count)) (sym its)
      (λ may. (revive_stays first counts counters cpus at own object.0 count may, record { is = refl; own = own })) may
  by_event (Join cpu) steady its may = absurd (let never : ⊥ = cc in never)
  by_event (Split cpu) steady its may = absurd (let never : ⊥ = cc in never)

pub steady_same : (at : ℕ) (first conf : Config) (event : Event) → IsSameFor at first conf → IsSteadyOf at event → Possible first event
    → Possible conf event × IsSameFor at (after first event) (after conf event)
steady_same at first conf event same steady may =
    subst (λ (c : Config). Possible c event × IsSameFor at (after first event) (after c event)) (sym same.is)
    (by_event at first conf.count conf.counter conf.cpu same.own event steady.steady steady.own may)
