-- An entry that makes no object is committed: its gains are owed, the entry is possible, and its
-- losses are settled.
use Rattle.std.proofs.Common.{◌≡◌, ◌+◌, ◌^◌, ◌<◌, ◌≤◌, ◌∙◌, inl, ℕ, Bool, true, false, List, [], ◌∷◌, ◌++◌, refl, subst, sym, ap, arith, IsTrue, length, filter, Option, Some, None, is_some, if◌then◌else◌}
use Rattle.std.specs.Prelude.{◌||◌}
use Rattle.std.specs.List.{list_all}
use Rattle.std.proofs.lemmas.Bool.{and_from, and_parts}
use Rattle.std.proofs.lemmas.Bool.Decides.{nat_tests}
use Rattle.gh_base.specs.declared.cap_word.CapWord.{CapWord}
use Rattle.gh_base.specs.declared.ids.Serial.{Serial}
use Rattle.gh_base.specs.declared.limits.TheConstants.{CPUS}
use Rattle.gh_model.specs.QueueCalls.{one_if}
use Rattle.gh_model.specs.References.{references}
use Rattle.gh_model.specs.declared.change.Change.{Change}
use Rattle.gh_model.specs.declared.entry.Entry.{Entry}
use Rattle.gh_model.specs.declared.entry.Entry.TheVariants.{Acted, Part, Retired, Reclaimed}
use Rattle.gh_model.specs.declared.rows.ObjectRow.{ObjectRow}
use Rattle.gh_model.specs.declared.state.State.{State}
use Rattle.gh_invariant.specs.Effects.{gained, lost, sets, sets_some, slots_set}
use Rattle.gh_invariant.specs.Events.{EventFits, changes_of}
use Rattle.gh_invariant.specs.Grants.{is_referred}
use Rattle.gh_invariant.specs.Lives.{lives}
use Rattle.gh_invariant.proofs.Counting.{count_cons}
use Rattle.gh_invariant.proofs.EventWords.{event_sets_few}
use Rattle.gh_invariant.proofs.EventsKept.{event_valid}
use Rattle.gh_schedules.specs.Committing.{commits_of, committing, cpu_no, entry_event, gains_owed, index_no, is_made, losses_settled, revives, slot_word, with_new}
use Rattle.gh_schedules.specs.Places.{added, places_of}
use Rattle.gh_base.specs.CapWord.{object_of}
use Rattle.gh_model.specs.Word.{word_at}
use Rattle.gh_events.specs.Config.{AtAct, Config, Current, HasTurn, Holder, IsIn, OwesNothing, live_references, present, put, references_at}
use Rattle.gh_events.specs.Entries.{Allows, Covers, KindAllows, index_after, logged, makes_object, next_state, or_else, owed_after, shown, slot_set}
use Rattle.gh_schedules.specs.Indices.{InBlocks}
use Rattle.gh_events.specs.Sound.{IsSound}
use Rattle.gh_schedules.specs.Trace.{after_all}
use Rattle.gh_events.specs.TurnEvents.{MayCommit, MaySetCap, committed, committed_by, put_word, set_cap}
use Rattle.gh_events.specs.declared.event.Event.TheVariants.{Commit, SetCap}
use Rattle.gh_schedules.proofs.ChangeLives.{AllLive, lives_here}
use Rattle.gh_schedules.proofs.EntryBalance.{Births, balanced, count_at, lives_or_new, owed_gains, owed_there}
use Rattle.gh_events.proofs.EntryMoves.{RowOf, indices_of, row_of}
use Rattle.gh_schedules.proofs.EntryReferences.{MakesNone, event_given, event_moved}
use Rattle.gh_schedules.proofs.FewGains.{event_gains_few, live_few}
use Rattle.gh_schedules.proofs.OwingSteps.{AllOwable, AllWithin, IsOwing, at_owed, owes_lead, settles_lead, with_amounts}
use Rattle.gh_events.proofs.SoundEvents.{event_keeps_sound}
use Rattle.gh_schedules.proofs.TraceLaws.{Leads, leads_append, leads_so}
use Rattle.gh_events.proofs.ValidEntries.{event_fits}

-- slots that changes set

set_some : (one : Change) → (place : ℕ × ℕ) → sets one ≡ Some place → one_if (sets_some one) ≡ 1
set_some one place is = ap (λ (found : Option (ℕ × ℕ)). one_if (is_some found)) is

set_none : (one : Change) → sets one ≡ None → one_if (sets_some one) ≡ 0
set_none one is = ap (λ (found : Option (ℕ × ℕ)). one_if (is_some found)) is

pub none_set : (changes : List Change) → slot_set changes ≡ None → slots_set changes ≡ 0
none_set [] none = refl
none_set (one ∷ others) none = by_first (sets one) refl none (none_set others)
  where
    by_first : (first : Option (ℕ × ℕ)) → sets one ≡ first → or_else first (slot_set others) ≡ None
        → (slot_set others ≡ None → slots_set others ≡ 0) → slots_set (one ∷ others) ≡ 0
    by_first None is rest on = omega (arith, count_cons sets_some one others, set_none one is, on rest)
    by_first (Some place) is rest on = absurd (let never : ⊥ = cc in never)

pub some_set : (changes : List Change) (place : ℕ × ℕ) → slot_set changes ≡ Some place
    → 1 ≤ slots_set changes
some_set [] place is = absurd (let never : ⊥ = cc in never)
some_set (one ∷ others) place is = by_first (sets one) refl is (some_set others place)
  where
    by_first : (first : Option (ℕ × ℕ)) → sets one ≡ first → or_else first (slot_set others) ≡ Some place
        → (slot_set others ≡ Some place → 1 ≤ slots_set others) → 1 ≤ slots_set (one ∷ others)
    by_first None here rest on = omega (arith, count_cons sets_some one others, on rest)
    by_first (Some other) here rest on = omega (arith, count_cons sets_some one others, set_some one other here)

-- what the holder owes doesn't matter to what is allowed

kind_allows : (conf : Config) (holder : Holder) (call : Current) (whole : Entry) (count owed : ℕ → ℕ)
    (kind : Entry) → KindAllows conf holder call whole kind
    → KindAllows (at_owed conf holder count owed) (with_amounts holder owed) call whole kind
kind_allows conf holder call whole count owed (Acted cpu number) allowed = record {
  its_cpu = allowed.its_cpu;
  its_number = allowed.its_number;
  may_act = allowed.may_act;
  new = allowed.new;
  reply = allowed.reply;
  is_done = allowed.is_done;
  none_killed = allowed.none_killed;
}
kind_allows conf holder call whole count owed (Part cpu number space slot) allowed = record {
  its_cpu = allowed.its_cpu;
  its_number = allowed.its_number;
  part = allowed.part;
  goes_on = allowed.goes_on;
  least = allowed.least;
  none_killed = allowed.none_killed;
}
kind_allows conf holder call whole count owed (Retired serial seen) allowed = record {
  unreferenced = allowed.unreferenced;
  dead = allowed.dead;
  scans = record { nine = allowed.scans.nine; each = allowed.scans.each };
  no_part = allowed.no_part;
}
kind_allows conf holder call whole count owed (Reclaimed serial seen) allowed = record {
  unreferenced = allowed.unreferenced;
  unread = allowed.unread;
  scans = record { nine = allowed.scans.nine; each = allowed.scans.each };
  no_part = allowed.no_part;
}

pub allows_owed : (conf : Config) (at : ℕ) (entry : Entry) (holder : Holder) (call : Current)
    (count owed : ℕ → ℕ) → Allows conf at entry holder call
    → Allows (at_owed conf holder count owed) at entry (with_amounts holder owed) call
allows_owed conf at entry holder call count owed allows = record {
  has_turn = record { turn = refl; its_cpu = allows.has_turn.its_cpu };
  in_act = allows.in_act;
  not_acted = allows.not_acted;
  allowed = kind_allows conf holder call entry count owed entry allows.allowed;
}

-- the holder's call is at its act, and the holder owes nothing and revived nothing
pub record IsActive (conf : Config) (at : ℕ) (holder : Holder) (call : Current) : Type 0 where
  pub sound : IsSound conf
  pub is_cpu : at < CPUS
  pub has_turn : HasTurn conf at holder
  pub in_act : IsIn (conf.cpu at) call AtAct
  pub owes_nothing : OwesNothing holder
  pub unrevived : holder.revived ≡ []
  -- and objects lie in the blocks of their partitions
  pub blocks : InBlocks (present conf) (places_of conf) conf.index

-- the holder has one more entry, and these indices are revived
abbrev pub entered_by : Holder → Entry → List ℕ → (ℕ → ℕ) → Holder
entered_by holder entry revived owed =
    record holder { entries = holder.entries ++ entry ∷ []; revived = revived; owed = owed }

-- the entry is committed: the history has it, and the holder owes nothing
pub record IsCommitted (conf : Config) (holder : Holder) (entry : Entry) (call : Current)
    (later : ℕ → ℕ) (dead : ℕ → Bool) (revived : List ℕ) (new : Config) : Type 0 where
  pub count : ℕ → ℕ
  pub owed : ℕ → ℕ
  pub cap : ℕ → ℕ → CapWord
  pub is : new ≡ record conf {
    history = conf.history ++ logged entry call ∷ [];
    index = later;
    cap = cap;
    count = count;
    dead = dead;
    turn = Some (entered_by holder entry revived owed);
  }
  pub sound : IsSound new
  pub owes : OwesNothing (entered_by holder entry revived owed)

module _ (conf : Config) (at : ℕ) (entry : Entry) (holder : Holder) (call : Current)
    (active : IsActive conf at holder call) (allows : Allows conf at entry holder call) where
  abbrev pub s : State
  s = present conf

  abbrev pub new : State
  new = next_state conf call entry

  abbrev pub changes : List Change
  changes = changes_of (present conf) (logged entry call)

  pub fits : EventFits s (logged entry call)
  fits = event_fits conf at entry holder call conf.index allows active.sound.valid

  -- gains

  unfoldable pub owed_serials : List Serial
  owed_serials = filter (is_made s.next_serial) (gained s changes)

  -- what gets a reference has one, so its word isn't dead
  alive_by : (serial : Serial) → lives s.objects serial.0 ≡ true → is_referred s serial ≡ true
      → (dead : Bool) → conf.dead (conf.index serial.0) ≡ dead
      → conf.dead (conf.index serial.0) ≡ false
  alive_by serial alive referred false is = is
  alive_by serial alive referred true is =
      let one : RowOf s serial.0 = row_of s serial.0 alive in
      let dead : conf.dead (conf.index one.row.serial.0) ≡ true = subst (λ (n : ℕ). conf.dead (conf.index n) ≡ true) (sym one.serial_is) is in
      let none : references s serial.0 ≡ 0 = subst (λ (n : ℕ). references s n ≡ 0) one.serial_is (active.sound.references.placed.doomed one.row one.is_row dead) in
      let made : serial.0 < s.next_serial = active.sound.state.given serial.0 alive in
      absurd (unreferred none made)
    where
      unreferred : references s serial.0 ≡ 0 → serial.0 < s.next_serial → ⊥
      unreferred none made = let no : is_referred s serial ≡ false = grind (arith, nat_tests) in let never : ⊥ = cc in never

  owable : (serials : List Serial) → AllLive s.objects serials
      → IsTrue (list_all (is_referred s) serials) → AllOwable conf serials
  owable [] all referred = tt
  owable (serial ∷ serials) all referred =
      let alive = and_parts (lives_here s.objects serial) (list_all (lives_here s.objects) serials) all in
      let has = and_parts (is_referred s serial) (list_all (is_referred s) serials) referred in (
        record { within = active.sound.state.within serial.0 alive.0; alive = alive_by serial alive.0 has.0 (conf.dead (conf.index serial.0)) refl },
        owable serials alive.1 has.1,
      )

  within_all : (serials : List Serial) → AllLive s.objects serials → AllWithin conf serials
  within_all [] all = tt
  within_all (serial ∷ serials) all =
      let alive = and_parts (lives_here s.objects serial) (list_all (lives_here s.objects) serials) all in
      (active.sound.state.within serial.0 alive.0, within_all serials alive.1)

  filtered : {X : Type 0} (p q : X → Bool) (xs : List X) → IsTrue (list_all p xs)
      → IsTrue (list_all p (filter q xs))
  filtered p q [] all = refl
  filtered p q (x ∷ xs) all =
      let parts = and_parts (p x) (list_all p xs) all in
      by_kept (q x) parts.0 (filtered p q xs parts.1)
    where
      by_kept : (kept : Bool) → p x ≡ true → IsTrue (list_all p (filter q xs))
          → IsTrue (list_all p (if kept then x ∷ filter q xs else filter q xs))
      by_kept true here rest = and_from _ _ here rest
      by_kept false here rest = rest

  serials_owable : AllLive s.objects owed_serials → AllOwable conf owed_serials
  unfolding owed_serials
  serials_owable alive =
      owable (filter (is_made s.next_serial) (gained s changes)) alive
      (filtered (is_referred s) (is_made s.next_serial) (gained s changes) (event_given s (logged entry call) fits))

  length_filtered : {X : Type 0} (q : X → Bool) (xs : List X) → length (filter q xs) ≤ length xs
  length_filtered q [] = omega arith
  length_filtered q (x ∷ xs) = by_kept (q x) (length_filtered q xs)
    where
      by_kept : (kept : Bool) → length (filter q xs) ≤ length xs
          → length (if kept then x ∷ filter q xs else filter q xs) ≤ length (x ∷ xs)
      by_kept true few = omega (arith, few)
      by_kept false few = omega (arith, few)

  room_there : (i : ℕ) → holder.owed i + live_references conf i + length owed_serials ≤ 2 ^ 62
  unfolding owed_serials
  room_there i =
      omega (
        arith,
        active.owes_nothing i,
        live_few conf active.sound i,
        length_filtered (is_made s.next_serial) (gained s changes),
        event_gains_few s (logged entry call),
      )

  -- the configuration itself, with what the holder owes told apart
  is_owed : at_owed conf holder conf.count holder.owed ≡ conf
  is_owed = ap (λ (turn : Option Holder). record conf { turn = turn }) (sym active.has_turn.turn)

  unfoldable pub amounts : ℕ → ℕ
  amounts i = holder.owed i + count_at conf.index owed_serials i

  pub gains_lead : AllLive s.objects owed_serials → Leads conf (gains_owed at s conf.index (gained s changes)) (IsOwing conf holder amounts)
  unfolding owed_serials amounts
  gains_lead alive =
      subst (λ (now : Config). Leads now (gains_owed at s conf.index (gained s changes)) (IsOwing conf holder (λ i. holder.owed i + count_at conf.index (filter (is_made s.next_serial) (gained s changes)) i))) is_owed
      (owes_lead conf holder at active.is_cpu active.has_turn.its_cpu (filter (is_made s.next_serial) (gained s changes)) conf.count holder.owed (serials_owable alive) room_there
      (subst IsSound (sym is_owed) active.sound))

  -- an entry that makes no object

  module _ (makes : MakesNone (present conf) (logged entry call)) where
    plain_or_new : (serials : List Serial) → AllLive s.objects serials
        → IsTrue (list_all (lives_or_new s s.next_serial) serials)
    plain_or_new [] all = refl
    plain_or_new (serial ∷ serials) all =
        let parts = and_parts (lives_here s.objects serial) (list_all (lives_here s.objects) serials) all in
        and_from _ _ (either (lives s.objects serial.0) _ parts.0) (plain_or_new serials parts.1)
      where
        either : (a b : Bool) → a ≡ true → (a || b) ≡ true
        either true b is = refl
        either false b is = absurd (let never : ⊥ = cc in never)

    births : Births s new conf.index conf.index (λ i. 0) (gained s changes) (lost s changes)
    births = record {
      indices = indices_of conf active.sound.references active.sound.state.within;
      given = active.sound.state.given;
      kept = λ object alive. refl;
      came = λ object alive. inl (makes.lived object alive);
      extra_old = λ i some. refl;
      extra_none = λ i none gone. refl;
      gained = plain_or_new (gained s changes) makes.gained;
      lost = makes.lost;
      moved = λ object some. event_moved s (logged entry call) object active.sound.valid.valid fits some;
      valid = active.sound.valid.valid;
      valid_after = event_valid s (logged entry call) active.sound.valid.valid fits;
    }

    made_alive : AllLive s.objects owed_serials
    unfolding owed_serials
    made_alive = filtered (lives_here s.objects) (is_made s.next_serial) (gained s changes) makes.gained

    -- the entry

    module _ (count owed : ℕ → ℕ) (owes : (i : ℕ) → owed i ≡ amounts i)
        (sound : IsSound (at_owed conf holder count owed)) where
      abbrev now : Config
      now = at_owed conf holder count owed

      abbrev owing : Holder
      owing = with_amounts holder owed

      even : (i : ℕ) → references_at new conf.index i + count_at conf.index (lost s changes) i
          ≡ owed i + references_at s conf.index i
      unfolding amounts owed_serials owed_there owed_gains
      even i =
          let sums : references_at new conf.index i + count_at conf.index (lost s changes) i
          ≡ count_at conf.index (filter (is_made s.next_serial) (gained s changes)) i + 0 + references_at s conf.index i =
          balanced s new conf.index conf.index (λ n. 0) (gained s changes) (lost s changes) births i in
          omega (arith, sums, owes i, active.owes_nothing i)

      covers : Covers now owing new conf.index
      covers = λ i within. omega (arith, even i)

      left_owed : (i : ℕ) → owed_after now owing new conf.index i ≡ count_at conf.index (lost s changes) i
      left_owed i = omega (arith, even i)

      allowed : Allows now at entry owing call
      allowed = allows_owed conf at entry holder call count owed allows

      -- behind the entry: what was lost is owed
      abbrev behind : (ℕ → ℕ → CapWord) → Config
      behind cap = record conf {
        history = conf.history ++ logged entry call ∷ [];
        cap = cap;
        turn = Some (entered_by holder entry holder.revived holder.owed);
      }

      abbrev entered : Holder
      entered = entered_by holder entry holder.revived holder.owed

      losses_lead : (cap : ℕ → ℕ → CapWord)
          → IsSound (at_owed (behind cap) entered count (owed_after now owing new conf.index))
          → Leads (at_owed (behind cap) entered count (owed_after now owing new conf.index))
          (losses_settled at conf.index (lost s changes))
          (IsCommitted conf holder entry call conf.index conf.dead holder.revived)
      losses_lead cap is_sound =
          leads_so (at_owed (behind cap) entered count (owed_after now owing new conf.index)) (losses_settled at conf.index (lost s changes))
          (IsOwing (behind cap) entered (λ i. 0)) (IsCommitted conf holder entry call conf.index conf.dead holder.revived)
          (settles_lead (behind cap) entered at active.is_cpu active.has_turn.its_cpu active.unrevived (lost s changes) count (owed_after now owing new conf.index)
          (within_all (lost s changes) makes.lost) left_owed is_sound)
          (λ last has. record { count = has.count; owed = has.owed; cap = cap; is = has.is; sound = has.sound; owes = has.owes })

      -- Commit

      commit_leads : slot_set changes ≡ None
          → Leads now (Commit (cpu_no at) entry ∷ losses_settled at conf.index (lost s changes))
          (IsCommitted conf holder entry call conf.index conf.dead holder.revived)
      commit_leads none =
          let may : MayCommit now at entry = record { is_cpu = active.is_cpu; holder = owing; call = call; allows = allowed; no_slot = none_set changes none; covers = covers } in
          let goes : committed now at entry ≡ at_owed (behind conf.cap) entered count (owed_after now owing new conf.index) =
          ap (committed_by now entry (λ state. now.index)) active.in_act.is_current in
          let is_sound : IsSound (at_owed (behind conf.cap) entered count (owed_after now owing new conf.index)) =
          subst IsSound goes (event_keeps_sound now (Commit (cpu_no at) entry) sound may) in
          let rest : Leads (committed now at entry) (losses_settled at conf.index (lost s changes)) (IsCommitted conf holder entry call conf.index conf.dead holder.revived) =
          subst (λ (there : Config). Leads there (losses_settled at conf.index (lost s changes)) (IsCommitted conf holder entry call conf.index conf.dead holder.revived)) (sym goes) (losses_lead conf.cap is_sound) in
          record { done = (may, rest.done); behind = rest.behind }

      -- SetCap

      unborn : (alive : Bool) → lives new.objects s.next_serial ≡ alive → makes_object s new ≡ false
      unborn false is = is
      unborn true is =
          let made : s.next_serial < s.next_serial = active.sound.state.given s.next_serial (makes.lived s.next_serial is) in
          absurd (omega (arith, made))

      index_same : (word : CapWord) → index_after now new word ≡ conf.index
      index_same word =
          ap (λ (born : Bool). if born then put conf.index s.next_serial (object_of word.0) else conf.index) (unborn (lives new.objects s.next_serial) refl)

      set_leads : (place : ℕ × ℕ) → slot_set changes ≡ Some place
          → Leads now
          (SetCap (cpu_no at) entry (index_no (conf.index place.0)) place.1 (slot_word new conf.index place) ∷ losses_settled at conf.index (lost s changes))
          (IsCommitted conf holder entry call conf.index conf.dead holder.revived)
      set_leads place is =
          let word : CapWord = slot_word new conf.index place in
          let same : index_after now new (slot_word new conf.index place) ≡ conf.index = index_same (slot_word new conf.index place) in
          let may : MaySetCap now at entry (conf.index place.0) place.1 (slot_word new conf.index place) = record {
            is_cpu = active.is_cpu;
            is_index = active.sound.state.within place.0 (makes.home place is);
            holder = owing;
            call = call;
            allows = allowed;
            one_slot = omega (arith, some_set changes place is, event_sets_few s (logged entry call));
            cspace = place.0;
            sets = is;
            at_space = refl;
            shows = ap (λ (index : ℕ → ℕ). shown index (word_at new place.0 place.1)) (sym same);
            revived = λ born. let never_born : makes_object s new ≡ false = unborn (lives new.objects s.next_serial) refl in absurd (let never : ⊥ = cc in never);
            covers = subst (λ (index : ℕ → ℕ). Covers now owing new index) (sym same) covers;
          } in
          let cap : ℕ → ℕ → CapWord = put_word conf.cap (conf.index place.0) place.1 (slot_word new conf.index place) in
          let goes : set_cap now at entry (conf.index place.0) place.1 (slot_word new conf.index place)
          ≡ at_owed (behind (put_word conf.cap (conf.index place.0) place.1 (slot_word new conf.index place))) entered count (owed_after now owing new conf.index) =
          ap (λ (current : Option Current). record (committed_by now entry (λ state. index_after now state (slot_word new conf.index place)) current) { cap = put_word conf.cap (conf.index place.0) place.1 (slot_word new conf.index place) }) active.in_act.is_current
          ∙ ap (λ (index : ℕ → ℕ). record (at_owed (behind (put_word conf.cap (conf.index place.0) place.1 (slot_word new conf.index place))) entered count (owed_after now owing new index)) { index = index }) same in
          let is_sound : IsSound (at_owed (behind cap) entered count (owed_after now owing new conf.index)) =
          subst IsSound goes (event_keeps_sound now (SetCap (cpu_no at) entry (index_no (conf.index place.0)) place.1 (slot_word new conf.index place)) sound may) in
          let rest : Leads (set_cap now at entry (conf.index place.0) place.1 (slot_word new conf.index place)) (losses_settled at conf.index (lost s changes)) (IsCommitted conf holder entry call conf.index conf.dead holder.revived) =
          subst (λ (there : Config). Leads there (losses_settled at conf.index (lost s changes)) (IsCommitted conf holder entry call conf.index conf.dead holder.revived)) (sym goes) (losses_lead cap is_sound) in
          record { done = (may, rest.done); behind = rest.behind }

      entry_leads : (place : Option (ℕ × ℕ)) → slot_set changes ≡ place
          → Leads now (entry_event at entry new conf.index conf.index place ∷ losses_settled at conf.index (lost s changes))
          (IsCommitted conf holder entry call conf.index conf.dead holder.revived)
      entry_leads None is = commit_leads is
      entry_leads (Some place) is = set_leads place is

    -- all of it

    behind_gains : (new_conf : Config) → IsOwing conf holder amounts new_conf
        → Leads new_conf (entry_event at entry new conf.index conf.index (slot_set changes) ∷ losses_settled at conf.index (lost s changes))
        (IsCommitted conf holder entry call conf.index conf.dead holder.revived)
    behind_gains new_conf has =
        subst (λ (there : Config). Leads there (entry_event at entry new conf.index conf.index (slot_set changes) ∷ losses_settled at conf.index (lost s changes)) (IsCommitted conf holder entry call conf.index conf.dead holder.revived)) (sym has.is)
        (entry_leads has.count has.owed has.owes (subst IsSound has.is has.sound) (slot_set changes) refl)

    made_leads : (made : Option ObjectRow) → added changes ≡ made → made ≡ None
        → Leads conf
        (gains_owed at s conf.index (gained s changes)
        ++ (revives at s (places_of conf) conf.index (gained s changes) made
        ++ (entry_event at entry new conf.index (with_new s (places_of conf) conf.index made) (slot_set changes) ∷ losses_settled at conf.index (lost s changes))))
        (IsCommitted conf holder entry call conf.index conf.dead holder.revived)
    made_leads (Some row) is none = absurd (let never : ⊥ = cc in never)
    made_leads None is none =
        leads_append conf (gains_owed at s conf.index (gained s changes))
        (entry_event at entry new conf.index conf.index (slot_set changes) ∷ losses_settled at conf.index (lost s changes))
        (IsOwing conf holder amounts) (IsCommitted conf holder entry call conf.index conf.dead holder.revived) (gains_lead made_alive)
        (λ has. behind_gains (after_all conf (gains_owed at s conf.index (gained s changes))) has)

    -- an entry that makes no object is committed
    pub plain_commits : Leads conf (committing at entry conf)
        (IsCommitted conf holder entry call conf.index conf.dead holder.revived)
    unfolding committing
    plain_commits =
        subst (λ (current : Option Current). Leads conf (commits_of at entry conf current) (IsCommitted conf holder entry call conf.index conf.dead holder.revived)) (sym active.in_act.is_current)
        (made_leads (added changes) refl makes.none)
