-- The steps of the sweep: a retired object is reclaimed, and one without references is killed and
-- retired.
use Rattle.std.proofs.Common.{◌≡◌, ◌+◌, ◌*◌, ◌<◌, ◌∙◌, ◌⊎◌, inl, inr, ℕ, Bool, true, false, not, List, [], ◌∷◌, ◌++◌, refl, subst, sym, ap, arith, IsTrue, length, length-append, Option, Some, None, is_some, if◌then◌else◌}
use Rattle.std.specs.Prelude.{◌&&◌, ◌||◌, IfSome, count_by, nat_lt}
use Rattle.std.specs.List.{list_any}
use Rattle.std.specs.Option.{option_map_or}
use Rattle.std.proofs.lemmas.Bool.{and_parts}
use Rattle.std.proofs.lemmas.Bool.Decides.{nat_tests}
use Rattle.std.proofs.lemmas.List.Folds.{list_any-append}
use Rattle.std.proofs.lemmas.List.Sums.{fold-append}
use Rattle.gh_base.specs.Counters.{HaveLeft, is_odd}
use Rattle.gh_base.specs.declared.cap_word.CapWord.{CapWord}
use Rattle.gh_base.specs.declared.ids.Serial.{Serial}
use Rattle.gh_model.specs.Changes.{reclaim_object}
use Rattle.gh_model.specs.Act.{counted}
use Rattle.gh_model.specs.Graced.{retirement}
use Rattle.gh_model.specs.History as history
use Rattle.gh_model.specs.Legal.{is_part}
use Rattle.gh_model.specs.References.{is_doomed}
use Rattle.gh_model.specs.Rows.{object_row}
use Rattle.gh_model.specs.declared.entry.Entry.{Entry}
use Rattle.gh_model.specs.declared.entry.Entry.TheVariants.{Reclaimed}
use Rattle.gh_model.specs.declared.rows.ObjectRow.{ObjectRow}
use Rattle.gh_model.specs.declared.state.State.{State}
use Rattle.gh_invariant.proofs.Counting.{count_append, count_one, one_false}
use Rattle.gh_model.specs.QueueCalls.{one_if}
use Rattle.gh_schedules.specs.Committing.{committing}
use Rattle.gh_events.specs.Config.{Config, Current, Holder, entries, has_acted, has_part, is_acted, is_killed, present}
use Rattle.gh_events.specs.Entries.{Allows, logged}
use Rattle.gh_events.specs.HolderEvents.{is_create}
use Rattle.gh_events.specs.Length.{EntriesCount, is_leaving, is_staying, makes_one, reclaims_one, retires_one}
use Rattle.gh_schedules.specs.Indices.{InBlocks}
use Rattle.gh_events.specs.Sound.{IsSound}
use Rattle.gh_schedules.specs.Sweep.{counters, have_left, has_left, is_left, may_reclaim, reclaiming}
use Rattle.gh_schedules.proofs.BlocksStay.{plain_blocks, entered_blocks}
use Rattle.gh_schedules.proofs.Commits.{IsActive, IsCommitted, entered_by, plain_commits}
use Rattle.gh_schedules.proofs.EntryReferences.{MakesNone, Objects, event_objects}
use Rattle.gh_events.proofs.GraceReclaim.{Changed, Kept, RowBehind, reclaim_row}
use Rattle.gh_schedules.proofs.KilledNone.{NoneKilled, killed_in}
use Rattle.gh_schedules.proofs.Scanning.{HasScans, are_scans}
use Rattle.gh_schedules.proofs.TraceLaws.{Leads, leads_none, leads_so}
use Rattle.gh_events.proofs.ValidEntries.{event_fits}

-- the holder committed nothing of its act so far, and no object is killed
pub record IsSweeping (conf : Config) (at : ℕ) (call : Current) : Type 0 where
  pub holder : Holder
  pub active : IsActive conf at holder call
  pub not_acted : has_acted holder ≡ false
  pub no_part : has_part holder ≡ false
  pub none_killed : NoneKilled (present conf) conf.index conf.dead

-- and it has the counters of all CPUs
pub record IsScanned (conf : Config) (at : ℕ) (call : Current) : Type 0 where
  pub sweeping : IsSweeping conf at call
  pub scans : HasScans conf sweeping.holder

-- how many entries the objects can still give: an object that isn't retired two, another one
abbrev pub to_go : State → ℕ
to_go s = 2 * count_by is_staying s.objects + count_by is_leaving s.objects

-- an entry was added
pub record Grew (conf new : Config) : Type 0 where
  pub entries : entries conf < entries new
  pub left : to_go (present new) < to_go (present conf)

-- the count that the last failed kill of an object saw
abbrev pub failed_of : Option Holder → ℕ → Option ℕ
failed_of None serial = None
failed_of (Some holder) serial = holder.failed serial

-- a failed kill saw the count that the object's word has
abbrev pub IsSeen : Config → ℕ → Type 0
IsSeen conf serial = failed_of conf.turn serial ≡ Some (conf.count (conf.index serial))

-- nothing changed but what the holder keeps, and no count of a failed kill is forgotten
pub record IsStill (conf new : Config) : Type 0 where
  pub history : new.history ≡ conf.history
  pub boot : new.boot ≡ conf.boot
  pub counter : new.counter ≡ conf.counter
  pub failed : (serial : ℕ) → IsSeen conf serial → IsSeen new serial

-- an entry was added, or nothing changed and this holds
abbrev pub Steps : Config → (Config → Type 0) → Config → Type 0
Steps conf Fact new = Grew conf new ⊎ (IsStill conf new × Fact new)

-- a list of retirements or reclaims holds no act and no part
pub none_acted : (entries : List Entry) (entry : Entry) (test : Entry → Bool) → list_any test entries ≡ false
    → test entry ≡ false → list_any test (entries ++ entry ∷ []) ≡ false
none_acted entries entry test none last =
    list_any-append test entries (entry ∷ []) ∙ both (list_any test entries) (test entry) none last
  where
    both : (a b : Bool) → a ≡ false → b ≡ false → (a || (b || false)) ≡ false
    both true b first second = absurd (let never : ⊥ = cc in never)
    both false b first second = rw second refl

-- an entry that is no act makes no object
pub no_object : (conf : Config) (at : ℕ) (entry : Entry) (holder : Holder) (call : Current)
    → IsActive conf at holder call → Allows conf at entry holder call → is_acted entry ≡ false
    → MakesNone (present conf) (logged entry call)
no_object conf at entry holder call active allows other =
    by_objects (event_objects (present conf) (logged entry call) active.sound.valid.valid (event_fits conf at entry holder call conf.index allows active.sound.valid))
  where
    by_objects : Objects (present conf) (logged entry call) → MakesNone (present conf) (logged entry call)
    by_objects (inl none) = none
    by_objects (inr one) = let acts : is_acted entry ≡ true = one.acts in absurd (let never : ⊥ = cc in never)

-- counters

left_of : (before now : ℕ) → has_left before now ≡ true → IsTrue (is_odd before) → before < now
left_of before now left odd = by_odd (is_odd before) odd left
  where
    by_odd : (o : Bool) → o ≡ true → (not o || nat_lt before now) ≡ true → before < now
    by_odd true is either = grind (arith, nat_tests)
    by_odd false is either = absurd (let never : ⊥ = cc in never)

all_left : (before now : List ℕ) → have_left before now ≡ true → HaveLeft before now
all_left [] [] left = tt
all_left [] (n ∷ now) left = absurd (let never : ⊥ = cc in never)
all_left (b ∷ before) [] left = absurd (let never : ⊥ = cc in never)
all_left (b ∷ before) (n ∷ now) left =
    let parts = and_parts (has_left b n) (have_left before now) left in
    (left_of b n parts.0, all_left before now parts.1)

-- behind an entry of the sweep

count_last : (p : history.Event → Bool) (events : List history.Event) (event : history.Event)
    → count_by p (events ++ event ∷ []) ≡ count_by p events + one_if (p event)
count_last p events event = omega (arith, count_append p events (event ∷ []), count_one p event)

module _ (conf : Config) (at : ℕ) (call : Current) (entry : Entry) (holder : Holder)
    (active : IsActive conf at holder call) (allows : Allows conf at entry holder call)
    (no_part : has_part holder ≡ false) (not_act : is_acted entry ≡ false) (not_part : is_part entry ≡ false) where
  abbrev Behind : (ℕ → ℕ → CapWord) → (ℕ → ℕ) → (ℕ → ℕ) → Config
  Behind cap count owed = record conf {
    history = conf.history ++ logged entry call ∷ [];
    cap = cap;
    count = count;
    turn = Some (entered_by holder entry holder.revived owed);
  }

  grown : history.replay conf.boot (conf.history ++ logged entry call ∷ []) ≡ history.after_event (present conf) (logged entry call)
  grown = fold-append history.after_event conf.boot conf.history (logged entry call ∷ [])

  abbrev Committed : Config → Type 0
  Committed new = IsCommitted conf holder entry call conf.index conf.dead holder.revived new

  abbrev NoneLeft : Type 0
  NoneLeft = NoneKilled (history.after_event (present conf) (logged entry call)) conf.index conf.dead

  at_behind : (new : Config) → NoneLeft → (committed : Committed new)
      → IsSweeping (Behind committed.cap committed.count committed.owed) at call
  at_behind new none committed = record {
    holder = entered_by holder entry holder.revived committed.owed;
    active = record {
      sound = subst IsSound committed.is committed.sound;
      is_cpu = active.is_cpu;
      has_turn = record { turn = refl; its_cpu = active.has_turn.its_cpu };
      in_act = active.in_act;
      owes_nothing = committed.owes;
      unrevived = active.unrevived;
      blocks = entered_blocks conf (logged entry call) conf.index (plain_blocks conf (logged entry call) conf.index (no_object conf at entry holder call active allows not_act) active.blocks);
    };
    not_acted = none_acted holder.entries entry is_acted allows.not_acted not_act;
    no_part = none_acted holder.entries entry is_part no_part not_part;
    none_killed = subst (λ (s : State). NoneKilled s conf.index conf.dead) (sym grown) none;
  }

  -- the same holder's call is at its act
  pub swept : (new : Config) → NoneLeft → Committed new → IsSweeping new at call
  swept new none committed =
      subst (λ (there : Config). IsSweeping there at call) (sym committed.is) (at_behind new none committed)

  scanned_behind : (new : Config) → NoneLeft → (committed : Committed new) → HasScans conf holder
      → IsScanned (Behind committed.cap committed.count committed.owed) at call
  unfolding at_behind
  scanned_behind new none committed scanned =
      record { sweeping = at_behind new none committed; scans = λ cpu few. scanned cpu few }

  -- the holder has still what it scanned
  pub swept_scans : (new : Config) → NoneLeft → Committed new → HasScans conf holder
      → IsScanned new at call
  swept_scans new none committed scanned =
      subst (λ (there : Config). IsScanned there at call) (sym committed.is) (scanned_behind new none committed scanned)

  -- an entry more, and of those that are to come one less
  grew_there : (cap : ℕ → ℕ → CapWord) (count owed : ℕ → ℕ) → IsSound (Behind cap count owed)
      → one_if (retires_one (logged entry call)) + one_if (reclaims_one (logged entry call)) ≡ 1
      → Grew conf (Behind cap count owed)
  grew_there cap count owed sound one =
      let was : EntriesCount conf.boot conf.history = active.sound.long.entries in
      let now : EntriesCount conf.boot (conf.history ++ logged entry call ∷ []) = sound.long.entries in
      let none : one_if (makes_one (logged entry call)) ≡ 0 = one_false (makes_one (logged entry call)) (unmade (is_acted entry) not_act) in
      let last : length (conf.history ++ logged entry call ∷ []) ≡ length conf.history + 1 = length-append conf.history (logged entry call ∷ []) in
      record {
        entries = omega (arith, last);
        left = omega (
          arith,
          was.retired,
          was.reclaimed,
          now.retired,
          now.reclaimed,
          count_last retires_one conf.history (logged entry call),
          count_last reclaims_one conf.history (logged entry call),
          count_last makes_one conf.history (logged entry call),
          none,
          one,
        );
      }
    where
      unmade : (acts : Bool) → acts ≡ false → (acts && is_create (logged entry call).call) ≡ false
      unmade true is = absurd (let never : ⊥ = cc in never)
      unmade false is = refl

  pub grew : (new : Config) → Committed new
      → one_if (retires_one (logged entry call)) + one_if (reclaims_one (logged entry call)) ≡ 1
      → Grew conf new
  grew new committed one =
      subst (λ (there : Config). Grew conf there) (sym committed.is)
      (grew_there committed.cap committed.count committed.owed (subst IsSound committed.is committed.sound) one)

-- a retired object is reclaimed

module _ (conf : Config) (at : ℕ) (call : Current) (serial : Serial) (scanned : IsScanned conf at call)
  where
    abbrev holder : Holder
    holder = scanned.sweeping.holder

    abbrev entry : Entry
    entry = Reclaimed serial (counters conf)

    retired_by : (found : Option ObjectRow) → is_left (retirement found) (counters conf) ≡ true
        → history.is_retired found ≡ true
    retired_by None left = absurd (let never : ⊥ = cc in never)
    retired_by (Some row) left = by_kept row.retired left
      where
        by_kept : (kept : Option (List ℕ)) → is_left kept (counters conf) ≡ true → is_some kept ≡ true
        by_kept None is = absurd (let never : ⊥ = cc in never)
        by_kept (Some before) is = refl

    unread_by : (kept : Option (List ℕ)) → is_left kept (counters conf) ≡ true
        → IfSome kept (λ (before : List ℕ). HaveLeft before (counters conf))
    unread_by None left = absurd (let never : ⊥ = cc in never)
    unread_by (Some before) left = all_left before (counters conf) left

    allows_reclaim : may_reclaim (present conf) serial (counters conf) ≡ true
        → Allows conf at entry holder call
    allows_reclaim may =
        let parts = and_parts (is_doomed (present conf) serial.0) (is_left (retirement (object_row (present conf) serial.0)) (counters conf)) may in
        record {
          has_turn = scanned.sweeping.active.has_turn;
          in_act = scanned.sweeping.active.in_act;
          not_acted = scanned.sweeping.not_acted;
          allowed = record {
            unreferenced = (parts.0, retired_by (object_row (present conf) serial.0) parts.1);
            unread = unread_by (retirement (object_row (present conf) serial.0)) parts.1;
            scans = are_scans conf holder scanned.sweeping.active.has_turn.turn scanned.scans;
            no_part = scanned.sweeping.no_part;
          };
        }

    -- what is left isn't killed
    none_by_row : (doomed was : Bool) (x : ℕ)
        → (killed_in (if doomed && was then counted (reclaim_object serial (present conf)) else history.numbered (present conf)) conf.index conf.dead x ≡ false)
    none_by_row false was x = scanned.sweeping.none_killed x
    none_by_row true false x = scanned.sweeping.none_killed x
    none_by_row true true x = by_row (reclaim_row (present conf) serial x)
      where
        by_row : RowBehind (present conf) (counted (reclaim_object serial (present conf))) serial.0 (λ object. None) x
            → killed_in (counted (reclaim_object serial (present conf))) conf.index conf.dead x ≡ false
        by_row (Kept same) =
            ap (λ (one : Option ObjectRow). option_map_or (is_killed conf.dead conf.index) one false) same ∙ scanned.sweeping.none_killed x
        by_row (Changed here now) =
            ap (λ (one : Option ObjectRow). option_map_or (is_killed conf.dead conf.index) one false) now

    none_left : NoneKilled (history.after_event (present conf) (logged entry call)) conf.index conf.dead
    none_left x =
        none_by_row (is_doomed (present conf) serial.0) (history.is_retired (object_row (present conf) serial.0)) x

    reclaim_leads : may_reclaim (present conf) serial (counters conf) ≡ true
        → Leads conf (committing at entry conf) (λ new. IsScanned new at call × Grew conf new)
    reclaim_leads may =
        let allows : Allows conf at entry holder call = allows_reclaim may in
        let active : IsActive conf at holder call = scanned.sweeping.active in
        let none : MakesNone (present conf) (logged entry call) = no_object conf at entry holder call active allows refl in
        leads_so conf (committing at entry conf) (IsCommitted conf holder entry call conf.index conf.dead holder.revived) (λ new. IsScanned new at call × Grew conf new)
        (plain_commits conf at entry holder call active allows none)
        (λ new committed. (
          swept_scans conf at call entry holder active allows scanned.sweeping.no_part refl refl new none_left committed scanned.scans,
          grew conf at call entry holder active allows scanned.sweeping.no_part refl refl new committed refl,
        ))

    -- it isn't reclaimed where a CPU still reads
    abbrev pub Unreclaimed : Config → Type 0
    Unreclaimed new = may_reclaim (present new) serial (counters new) ≡ false

    reclaiming_by : (may : Bool) → may_reclaim (present conf) serial (counters conf) ≡ may
        → Leads conf (if may then committing at entry conf else [])
        (λ new. IsScanned new at call × Steps conf Unreclaimed new)
    reclaiming_by true may =
        leads_so conf (committing at entry conf) (λ new. IsScanned new at call × Grew conf new) (λ new. IsScanned new at call × Steps conf Unreclaimed new)
        (reclaim_leads may) (λ new both. (both.0, inl both.1))
    reclaiming_by false may =
        leads_none conf (λ new. IsScanned new at call × Steps conf Unreclaimed new)
        (scanned, inr (record { history = refl; boot = refl; counter = refl; failed = λ x some. some }, may))

    -- a try
    pub reclaiming_leads : Leads conf (reclaiming at serial conf) (λ new. IsScanned new at call × Steps conf Unreclaimed new)
    unfolding reclaiming
    reclaiming_leads = reclaiming_by (may_reclaim (present conf) serial (counters conf)) refl
