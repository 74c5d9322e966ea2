-- A pin of a call keeps sound calls: on a dead word its object is retired behind the look, or killed.
use Rattle.std.proofs.Common.{◌≡◌, ◌+◌, ◌-◌, ◌≤◌, ◌∙◌, inl, inr, ℕ, suc, Bool, true, false, List, [], ◌∷◌, ◌++◌, length, take, refl, subst, sym, ap, arith, Option, Some, None, Result, Ok, Err, find, is_some, map, option_map, slice_get, count_by}
use Rattle.std.specs.List.{last_or}
use Rattle.std.proofs.lemmas.Bool.{eqb-true}
use Rattle.std.proofs.lemmas.List.{map-append}
use Rattle.gh_base.specs.declared.errno.Errno.{Errno}
use Rattle.gh_base.specs.declared.ids.Serial.{Serial}
use Rattle.gh_base.specs.declared.kind.Kind.{Kind}
use Rattle.gh_invariant.specs.NamesLiving.{NamesLiving}
use Rattle.gh_invariant.specs.Valid.{IsValid}
use Rattle.gh_invariant.proofs.Counting.{count_cons, find_here, find_later, one_false, one_true}
use Rattle.gh_invariant.proofs.FactLemmas.{names_living}
use Rattle.gh_invariant.proofs.HistoriesKept.{history_valid, replay_valid}
use Rattle.gh_invariant.proofs.Referred.{found_counted}
use Rattle.gh_model.specs.Act.{granted, row_serial}
use Rattle.gh_model.specs.Boot.{is_of_kind}
use Rattle.gh_model.specs.History.{is_retired, state_at}
use Rattle.gh_model.specs.Legal.{IsRetiredBehind, LookIs}
use Rattle.gh_model.specs.Marks.{Fails, Seen, cspace_of, outcome, place_after, word_of}
use Rattle.gh_model.specs.QueueCalls.{one_if}
use Rattle.gh_model.specs.Registers.{needs_of}
use Rattle.gh_model.specs.Rows.{fills, is_object}
use Rattle.gh_model.specs.Word.{is_slot, look_reply, setting, word_at}
use Rattle.gh_model.specs.declared.rows.CapabilityRow.{CapabilityRow}
use Rattle.gh_model.specs.declared.rows.ObjectRow.{ObjectRow}
use Rattle.gh_model.specs.declared.state.State.{State}
use Rattle.gh_model.specs.declared.word.Word.{Word}
use Rattle.gh_events.specs.CallEvents.{MayPin, pin_of_call, pinned, with_pin}
use Rattle.gh_events.specs.Calls.{CurrentIs, DeathIs, HasCalls, but_last, came_fits}
use Rattle.gh_events.specs.Config.{AtAct, Config, Current, DeadPin, IsIn, Looked, Pin, Reading, came_to, is_at, object_at, pin_of, present, put, seen_index}
use Rattle.gh_events.specs.References.{HasReferences, IsGranted, grants_at}
use Rattle.gh_events.specs.ValidState.{HasValid}
use Rattle.gh_events.proofs.CallsGoOn.{its_came, its_counter, its_looked, its_needs, its_pinned, stage_sound}
use Rattle.gh_events.proofs.CallsKeep.{stage_number}
use Rattle.gh_events.proofs.CpuMoves.{with_part}
use Rattle.gh_events.proofs.EventObjects.{counters_of, life}
use Rattle.gh_events.proofs.Finding.{found_passes, same_number}
use Rattle.gh_events.proofs.Living.{LivesAt, lives_there}
use Rattle.gh_events.proofs.LookKeeps.{GrantsRow, fails_last, grants_by}
use Rattle.gh_events.proofs.RetiredSince.{given_serial, retired_since}

-- the last item of a list
pub record IsLast {X : Type 0} (items : List X) (item : X) : Type 0 where
  pub at : ℕ
  pub is : slice_get items at ≡ Some item
  pub whole : take at items ++ item ∷ [] ≡ items
  pub counts : length items ≡ at + 1

pub last_item : {X : Type 0} (items : List X) (item : X) → last_or None items ≡ Some item
    → IsLast items item
last_item [] item is = absurd (let never : ⊥ = cc in never)
last_item (first ∷ []) item is =
    let same : first ≡ item = cc in
    record { at = 0; is = ap Some same; whole = ap (λ (x : _). x ∷ []) (sym same); counts = refl }
last_item (first ∷ next ∷ items) item is =
    let rest : IsLast (next ∷ items) item = last_item (next ∷ items) item is in
    let number : length (next ∷ items) ≡ rest.at + 1 = rest.counts in
    record {
      at = suc rest.at;
      is = rest.is;
      whole = ap (λ (others : List _). first ∷ others) rest.whole;
      counts = omega (arith, number);
    }

-- a row that two tests find, of which one finds one at most, is the same
pub same_found : {R : Type 0} (p q : R → Bool) (rows : List R) (one other : R)
    → count_by q rows ≤ 1 → find p rows ≡ Some one → q one ≡ true → find q rows ≡ Some other
    → one ≡ other
same_found p q [] one other few first passes second = absurd (let never : ⊥ = cc in never)
same_found p q (row ∷ rows) one other few first passes second =
    by_tests (p row) (q row) refl refl
    (λ less rest found. same_found p q rows one other less rest passes found)
  where
    all : count_by q (row ∷ rows) ≡ one_if (q row) + count_by q rows
    all = count_cons q row rows

    by_tests : (here there : Bool) → p row ≡ here → q row ≡ there
        → (count_by q rows ≤ 1 → find p rows ≡ Some one → find q rows ≡ Some other → one ≡ other)
        → one ≡ other
    by_tests true true is also rest =
        let found : Some row ≡ Some one = sym (find_here p row rows is) ∙ first in
        let seen : Some row ≡ Some other = sym (find_here q row rows also) ∙ second in
        cc
    by_tests true false is also rest =
        let found : Some row ≡ Some one = sym (find_here p row rows is) ∙ first in
        let same : row ≡ one = cc in
        let passed : q row ≡ true = ap q same ∙ passes in
        absurd (let never : ⊥ = cc in never)
    by_tests false true is also rest =
        let later : find p rows ≡ Some one = sym (find_later p row rows is) ∙ first in
        let counted : 1 ≤ count_by q rows = found_counted p q rows one later passes in
        let here : one_if (q row) ≡ 1 = one_true (q row) also in
        absurd (omega (arith, all, few, counted, here))
    by_tests false false is also rest =
        let here : one_if (q row) ≡ 0 = one_false (q row) also in
        rest (omega (arith, all, few, here)) (sym (find_later p row rows is) ∙ first) (sym (find_later q row rows also) ∙ second)

-- what is known of an object that a valid capability names: it isn't retired
living_by : (found : Option ObjectRow) (k : Kind) → is_of_kind k found ≡ true → is_retired found ≡ false
    → option_map counters_of found ≡ Some None
living_by None k kind unretired = absurd (let never : ⊥ = cc in never)
living_by (Some row) k kind unretired = ap Some (no_counters row.retired unretired)
  where
    no_counters : (counters : Option (List ℕ)) → is_some counters ≡ false → counters ≡ None
    no_counters None none = refl
    no_counters (Some seen) none = absurd (let never : ⊥ = cc in never)

-- the capability in a word that a slot has
word_row : (s : State) (cspace slot : ℕ) (row : CapabilityRow) (is : Bool) → is_slot slot ≡ is
    → (word_at s cspace slot).row ≡ Some row → find (fills cspace slot) s.caps ≡ Some row
word_row s cspace slot row true is found = ap (λ (word : Word). word.row) (sym whole) ∙ found
  where
    whole : word_at s cspace slot ≡ record { row = find (fills cspace slot) s.caps; set_at = setting s cspace slot }
    whole = rw is refl
word_row s cspace slot row false none found =
    let empty : (word_at s cspace slot).row ≡ None = rw none refl in
    absurd (let never : ⊥ = cc in never)

module _ (conf : Config) (at : ℕ) (sound : HasCalls conf) (past : HasValid conf) (call : Current)
    (seen : Seen) (is_in : IsIn (conf.cpu at) call Looked) (last : last_or None call.seen ≡ Some seen)
  where
    now : CurrentIs conf.boot conf.history conf.index conf.dead at (conf.cpu at) call
    now = (sound.calls at).current call is_in.is_current

    item : IsLast call.seen seen
    item = last_item call.seen seen last

    look : LookIs conf.boot conf.history (cspace_of conf.boot at) (place_after (conf.cpu at).made) (needs_of call.given.call) (take item.at call.seen) seen
    look = now.looks item.at seen item.is

    words_are : map word_of call.seen ≡ map word_of (take item.at call.seen) ++ seen.word ∷ []
    words_are =
        ap (map word_of) (sym item.whole) ∙ map-append word_of (take item.at call.seen) (seen ∷ [])

    grants_reply : (reply : Result Serial Errno) → look_reply seen.word look.need ≡ reply → GrantsRow seen.word
    grants_reply (Err errno) refused =
        let fails : outcome (needs_of call.given.call) (map word_of (take item.at call.seen) ++ seen.word ∷ []) ≡ Fails errno =
        fails_last (needs_of call.given.call) (map word_of (take item.at call.seen)) seen.look.slot look.need seen.word errno look.asked refused in
        let came : came_to call ≡ Fails errno = ap (outcome (needs_of call.given.call)) words_are ∙ fails in
        let fits : came_fits Looked (came_to call) ≡ true = its_came conf at sound call Looked is_in in
        let not_so : came_fits Looked (came_to call) ≡ false = ap (came_fits Looked) came in
        absurd (let never : ⊥ = cc in never)
    grants_reply (Ok serial) granted = grants_by seen.word.row seen.word look.need serial refl granted

    -- the last look's word is a valid capability
    row : GrantsRow seen.word
    row = grants_reply (look_reply seen.word look.need) refl

    place : ℕ
    place = seen.look.place

    abbrev then_ : State
    then_ = state_at conf.boot conf.history seen.look.place

    valid_then : IsValid then_
    valid_then = history_valid conf.boot conf.history seen.look.place past.boot_valid past.events_fit

    found_then : find (fills (cspace_of conf.boot at) seen.look.slot) then_.caps ≡ Some row.row
    found_then =
        word_row then_ (cspace_of conf.boot at) seen.look.slot row.row (is_slot seen.look.slot) refl
        (ap (λ (word : Word). word.row) look.found ∙ row.is)

    names : NamesLiving then_ row.row
    names = names_living then_ valid_then (cspace_of conf.boot at) seen.look.slot row.row found_then row.valid

    abbrev serial : ℕ
    serial = (granted seen.word).0

    serial_is : serial ≡ row.row.serial.0
    serial_is = ap (λ (found : Option CapabilityRow). (row_serial found).0) row.is

    lived : life then_.objects serial ≡ Some None
    lived =
        subst (λ (n : ℕ). life then_.objects n ≡ Some None) (sym serial_is)
        (living_by (find (is_object row.row.serial.0) then_.objects) row.row.kind names.object names.unretired)

    valid_now : IsValid (present conf)
    valid_now = replay_valid conf.boot conf.history past.boot_valid past.events_fit

    -- a retired object that the look granted is retired behind it
    retired_behind : (object : ObjectRow) (counters : List ℕ)
        → object_at (present conf) conf.index (seen_index seen) ≡ Some object
        → object.serial.0 ≡ serial → object.retired ≡ Some counters
        → IsRetiredBehind conf.boot conf.history seen.look.place serial
    retired_behind object counters there is retired =
        let own : LivesAt (present conf) conf.index (seen_index seen) object.serial.0 = lives_there (present conf) conf.index (seen_index seen) object there in
        let found : find (is_object object.serial.0) (present conf).objects ≡ Some own.row =
        subst (λ (n : ℕ). find (is_object n) (present conf).objects ≡ Some own.row) own.same own.is in
        let same : object ≡ own.row =
        same_found (is_at conf.index (seen_index seen)) (is_object object.serial.0) (present conf).objects object own.row (valid_now.objects.once object.serial.0) there (same_number object.serial.0) found in
        let now_retired : life (present conf).objects object.serial.0 ≡ Some (Some counters) =
        ap (option_map counters_of) found ∙ ap Some (ap counters_of (sym same) ∙ retired) in
        retired_since conf.boot conf.history seen.look.place serial counters look.within
        (given_serial then_ serial None valid_then lived) lived
        (subst (λ (n : ℕ). life (present conf).objects n ≡ Some (Some counters)) is now_retired)

    death_by : (object : ObjectRow) (counters : Option (List ℕ))
        → object_at (present conf) conf.index (seen_index seen) ≡ Some object
        → object.serial.0 ≡ serial → object.retired ≡ counters → conf.dead (seen_index seen) ≡ true
        → DeathIs conf.boot conf.history conf.index conf.dead seen
    death_by object None there is unretired dead =
        let index_is : conf.index object.serial.0 ≡ seen_index seen = eqb-true (conf.index object.serial.0) (seen_index seen) (found_passes (is_at conf.index (seen_index seen)) (present conf).objects object there) in
        inr record {
          row = object;
          lives_there = there;
          is_that = is;
          killed = rw unretired (subst (λ (n : ℕ). conf.dead n ≡ true) (sym index_is) dead);
        }
    death_by object (Some counters) there is retired dead =
        inl (retired_behind object counters there is retired)

-- Pin

pin_by : (conf : Config) (at object : ℕ) (dead : Bool) → conf.dead object ≡ dead → HasCalls conf
    → HasReferences conf → HasValid conf → MayPin conf at object
    → HasCalls (with_part conf at (with_pin dead (conf.cpu at)) (put conf.count object (conf.count object + 1)) conf.counter)
pin_by conf at object true dead sound refs past may =
    stage_sound conf at may.call DeadPin (conf.cpu at).pins (put conf.count object (conf.count object + 1)) conf.counter record {
      is_current = may.is_looked.is_current;
      no_act = λ acts. looked_no_act (sym may.is_looked.at_stage ∙ acts);
      came = its_came conf at sound may.call Looked may.is_looked;
      looked = its_looked conf at sound may.call Looked may.is_looked;
      needs = its_needs conf at sound may.call Looked may.is_looked;
      pinned = its_pinned conf at sound may.call Looked may.is_looked;
      dies = λ seen dying last.
          let grant : IsGranted conf seen = (refs.holds at).granted may.call seen record { is_current = may.is_looked.is_current; grants = ap grants_at may.is_looked.at_stage } last in
          let first : Some may.granted.seen ≡ Some seen = sym may.granted.last ∙ last in
          let same : may.granted.seen ≡ seen = cc in
          death_by conf at sound past may.call seen may.is_looked last grant.row grant.row.retired grant.lives_there grant.is_that refl
          (subst (λ (n : ℕ). conf.dead n ≡ true) (sym may.granted.index_is ∙ ap seen_index same) dead);
      counts = its_counter conf at sound may.call Looked may.is_looked;
      counters = λ n differs. refl;
    } sound
  where
    looked_no_act : Looked ≡ AtAct → ⊥
    looked_no_act is = let numbers : stage_number Looked ≡ stage_number AtAct = ap stage_number is in cc
pin_by conf at object false alive sound refs past may =
    stage_sound conf at may.call Reading ((conf.cpu at).pins ++ pin_of_call (conf.cpu at).current) (put conf.count object (conf.count object + 1)) conf.counter record {
      is_current = may.is_looked.is_current;
      no_act = λ acts. looked_no_act (sym may.is_looked.at_stage ∙ acts);
      came = its_came conf at sound may.call Looked may.is_looked;
      looked = refl;
      needs = its_needs conf at sound may.call Looked may.is_looked;
      pinned = all_pinned;
      dies = λ seen dying last. absurd (let never : ⊥ = cc in never);
      counts = its_counter conf at sound may.call Looked may.is_looked;
      counters = λ n differs. refl;
    } sound
  where
    looked_no_act : Looked ≡ AtAct → ⊥
    looked_no_act is = let numbers : stage_number Looked ≡ stage_number AtAct = ap stage_number is in cc

    item : IsLast may.call.seen may.granted.seen
    item = last_item may.call.seen may.granted.seen may.granted.last

    front_is : but_last may.call.seen ≡ take item.at may.call.seen
    front_is =
        let number : length may.call.seen ≡ item.at + 1 = item.counts in
        let before : length may.call.seen - 1 ≡ item.at = omega (arith, number) in
        ap (λ (n : ℕ). take n may.call.seen) before

    its_pin : pin_of_call (conf.cpu at).current ≡ pin_of may.granted.seen ∷ []
    its_pin = rw may.is_looked.is_current (rw may.granted.last refl)

    all_pinned : (conf.cpu at).pins ++ pin_of_call (conf.cpu at).current ≡ map pin_of may.call.seen
    all_pinned =
        ap (λ (pins : List Pin). pins ++ pin_of_call (conf.cpu at).current) (its_pinned conf at sound may.call Looked may.is_looked ∙ ap (map pin_of) front_is)
        ∙ ap (λ (pins : List Pin). map pin_of (take item.at may.call.seen) ++ pins) its_pin
        ∙ sym (map-append pin_of (take item.at may.call.seen) (may.granted.seen ∷ []))
        ∙ ap (map pin_of) item.whole

-- a pin of a call keeps sound calls
pub pin_keeps_calls : (conf : Config) (at object : ℕ) → HasCalls conf → HasReferences conf
    → HasValid conf → MayPin conf at object → HasCalls (pinned conf at object)
pin_keeps_calls conf at object sound refs past may =
    pin_by conf at object (conf.dead object) refl sound refs past may
