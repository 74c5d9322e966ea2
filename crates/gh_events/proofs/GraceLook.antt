-- A look keeps grace, where the words are those of the present state: what it grants isn't at its end.
use Rattle.std.proofs.Common.{◌≡◌, ◌==◌, ◌-◌, ◌<◌, ◌∙◌, ℕ, Bool, true, false, List, [], ◌∷◌, ◌++◌, ◌⊎◌, inl, inr, refl, subst, sym, ap, arith, Option, Some, None, is_some, length, take}
use Rattle.std.specs.Prelude.{◌||◌, map, option_map}
use Rattle.std.specs.List.{last_or, list_any}
use Rattle.std.proofs.lemmas.Bool.{eqb-true}
use Rattle.std.proofs.lemmas.List.{length-append, map-append}
use Rattle.gh_base.specs.declared.cap_word.Need.{Need}
use Rattle.gh_invariant.proofs.FactLemmas.{names_living}
use Rattle.gh_invariant.specs.NamesLiving.{NamesLiving}
use Rattle.gh_invariant.specs.Valid.{IsValid}
use Rattle.gh_model.proofs.RunLists.{last_or_snoc}
use Rattle.gh_model.specs.Act.{granted, row_serial}
use Rattle.gh_model.specs.Graced.{finds, granting, names_object, retirement}
use Rattle.gh_model.specs.History.{is_retired}
use Rattle.gh_model.specs.Marks.{Outcome, Wants, Fails, Grants, Seen, cspace_of, outcome, word_of}
use Rattle.gh_model.specs.References.{references}
use Rattle.gh_model.specs.Registers.{needs_of}
use Rattle.gh_model.specs.Rows.{object_row}
use Rattle.gh_model.specs.Word.{is_slot, look_reply, word_at}
use Rattle.gh_model.specs.declared.rows.CapabilityRow.{CapabilityRow}
use Rattle.gh_model.specs.declared.rows.ObjectRow.{ObjectRow}
use Rattle.gh_model.specs.declared.word.Word.{Word}
use Rattle.gh_events.specs.CallEvents.{MayLook, end_of_looks, found, looked, stage_after_look, with_call, with_look}
use Rattle.gh_events.specs.Config.{Config, Cpu, Current, came_to, present}
use Rattle.gh_events.specs.Grace.{HasGrace, Reads, granting_at, holds_grant, is_open_at, objects_of, scan_of}
use Rattle.gh_events.specs.References.{HasReferences, grants_at}
use Rattle.gh_events.proofs.Finding.{same_number}
use Rattle.gh_events.proofs.GraceCalls.{same_some, StaysOpen, granting_open, stays_open}
use Rattle.gh_events.proofs.GraceEvents.{same_part}
use Rattle.gh_events.proofs.GraceFrames.{part_graced}
use Rattle.gh_events.proofs.GraceTurn.{KilledRow, killed_row}
use Rattle.gh_events.proofs.LookKeeps.{GrantsRow, OfSlot, granted_by, of_slot}

-- a look leaves the call in its section
looks_open : (came : Outcome) → is_open_at (stage_after_look came) ≡ true
looks_open (Wants slot need) = refl
looks_open (Fails errno) = refl
looks_open Grants = refl

-- all but the last of a list with one more
take_front : {X : Type 0} (items more : List X) → take (length items) (items ++ more) ≡ items
take_front [] more = refl
take_front {X = X} (first ∷ items) more = ap (λ (rest : List X). first ∷ rest) (take_front items more)

but_last : {X : Type 0} (items : List X) (new : X) → take (length (items ++ new ∷ []) - 1) (items ++ new ∷ []) ≡ items
but_last {X = X} items new =
    let one : length (new ∷ []) ≡ 1 = refl in
    let less : length (items ++ new ∷ []) - 1 ≡ length items = omega (arith, length-append items (new ∷ []), one) in
    ap (λ (n : ℕ). take n (items ++ new ∷ [])) less ∙ take_front items (new ∷ [])

any_last : {X : Type 0} (test : X → Bool) (items : List X) (new : X)
    → list_any test (items ++ new ∷ []) ≡ true → (list_any test items ≡ true) ⊎ (test new ≡ true)
any_last test [] new some = inr (by_test (test new) some)
  where
    by_test : (here : Bool) → (here || false) ≡ true → here ≡ true
    by_test true some = refl
    by_test false some = some
any_last test (first ∷ items) new some =
    by_first (test first) (list_any test items) (list_any test (items ++ new ∷ [])) (any_last test items new) some
  where
    by_first : (here before behind : Bool) → (behind ≡ true → (before ≡ true) ⊎ (test new ≡ true))
        → (here || behind) ≡ true → ((here || before) ≡ true) ⊎ (test new ≡ true)
    by_first true before behind rest some = inl refl
    by_first false before behind rest some = rest some

-- the grants behind a look: those before, and what it granted where it wasn't refused
look_adds : (came : Outcome) (serial : ℕ) (seen : List Seen) (new : Seen)
    → list_any (finds serial) (granting (end_of_looks came) (seen ++ new ∷ [])) ≡ true
    → (list_any (finds serial) seen ≡ true) ⊎ ((finds serial new ≡ true) × (grants_at (stage_after_look came) ≡ true))
look_adds (Wants slot need) serial seen new held = with_grant (any_last (finds serial) seen new held)
  where
    with_grant : (list_any (finds serial) seen ≡ true) ⊎ (finds serial new ≡ true) → (list_any (finds serial) seen ≡ true) ⊎ ((finds serial new ≡ true) × (true ≡ true))
    with_grant (inl before) = inl before
    with_grant (inr now) = inr (now, refl)
look_adds (Fails errno) serial seen new held =
    inl (ap (list_any (finds serial)) (sym (but_last seen new)) ∙ held)
look_adds Grants serial seen new held = with_grant (any_last (finds serial) seen new held)
  where
    with_grant : (list_any (finds serial) seen ≡ true) ⊎ (finds serial new ≡ true) → (list_any (finds serial) seen ≡ true) ⊎ ((finds serial new ≡ true) × (true ≡ true))
    with_grant (inl before) = inl before
    with_grant (inr now) = inr (now, refl)

wants_seen : (came : Outcome) (slot : ℕ) (need : Need) (seen : List Seen) → came ≡ Wants slot need
    → granting (end_of_looks came) seen ≡ seen
wants_seen came slot need seen is = ap (λ (one : Outcome). granting (end_of_looks one) seen) is

-- of a grant all looks are grants
grants_all : (came : Outcome) (seen : List Seen) → grants_at (stage_after_look came) ≡ true
    → granting (end_of_looks came) seen ≡ seen
grants_all (Wants slot need) seen grants = refl
grants_all (Fails errno) seen grants = absurd (let never : ⊥ = cc in never)
grants_all Grants seen grants = refl

either_true : (first second : Bool) → second ≡ true → (first || second) ≡ true
either_true true second is = refl
either_true false second is = is

any_new : {X : Type 0} (test : X → Bool) (items : List X) (new : X) → test new ≡ true
    → list_any test (items ++ new ∷ []) ≡ true
any_new test [] new is = rw is refl
any_new test (first ∷ items) new is =
    either_true (test first) (list_any test (items ++ new ∷ [])) (any_new test items new is)

names_own : (found : Option CapabilityRow) (row : CapabilityRow) → found ≡ Some row
    → names_object (row_serial found).0 found ≡ true
names_own found row is =
    subst (λ (one : Option CapabilityRow). names_object (row_serial one).0 one ≡ true) (sym is) (same_number row.serial.0)

-- an object that isn't retired has no counters
no_counters : (object : Option ObjectRow) (seen : List ℕ) → is_retired object ≡ false
    → retirement object ≡ Some seen → ⊥
no_counters None seen unretired is = cc
no_counters (Some row) seen unretired is =
    let some : is_some row.retired ≡ true = ap is_some is in
    cc

module _ (conf : Config) (at slot : ℕ) (sound : HasReferences conf) (graced : HasGrace conf)
    (valid : IsValid (present conf)) (may : MayLook conf at slot) where
  -- a granted object isn't retired, and has a reference, so it isn't killed
  grants_read : (serial section : ℕ) → GrantsRow (word_at (present conf) (cspace_of conf.boot at) slot)
      → names_object serial (word_at (present conf) (cspace_of conf.boot at) slot).row ≡ true
      → Reads (objects_of conf) at (scan_of conf.turn at) section serial
  grants_read serial section grants names =
      let slots : OfSlot (present conf) (cspace_of conf.boot at) slot grants.row = of_slot (present conf) (cspace_of conf.boot at) slot grants.row (is_slot slot) refl grants.is in
      let living : NamesLiving (present conf) grants.row = names_living (present conf) valid (cspace_of conf.boot at) slot grants.row slots.fills grants.valid in
      let named : (grants.row.serial.0 == serial) ≡ true = sym (ap (names_object serial) grants.is) ∙ names in
      let same : grants.row.serial.0 ≡ serial = eqb-true grants.row.serial.0 serial named in
      let unretired : is_retired (object_row (present conf) serial) ≡ false = subst (λ (n : ℕ). is_retired (object_row (present conf) n) ≡ false) same living.unretired in
      let referred : 0 < references (present conf) serial = subst (λ (n : ℕ). 0 < references (present conf) n) same living.referred in
      record {
        retired = λ seen kept. absurd (no_counters (object_row (present conf) serial) seen unretired kept);
        killed = λ n killed is. absurd (unreferenced serial referred killed);
      }
    where
      unreferenced : (serial : ℕ) → 0 < references (present conf) serial → (objects_of conf).killed serial ≡ true → ⊥
      unreferenced serial referred killed =
          let is : KilledRow (present conf) conf.dead conf.index serial = killed_row conf serial killed in
          let none : references (present conf) serial ≡ 0 = ap (references (present conf)) (sym is.same) ∙ sound.placed.doomed is.row is.is is.is_dead in
          omega (arith, none, referred)

  new_look : Seen
  new_look = found conf at slot may.call

  came : Outcome
  came = outcome (needs_of may.call.given.call) (map word_of (may.call.seen ++ new_look ∷ []))

  look_reads : (serial : ℕ)
      → (list_any (finds serial) may.call.seen ≡ true) ⊎ ((finds serial new_look ≡ true) × (grants_at (stage_after_look came) ≡ true))
      → (holds_grant serial may.call ≡ true) ⊎ Reads (objects_of conf) at (scan_of conf.turn at) may.call.section serial
  unfolding new_look came
  look_reads serial (inl before) =
      inl (ap (list_any (finds serial)) (granting_open may.call.stage (came_to may.call) may.call.seen (ap is_open_at may.reading.at_stage) ∙ wants_seen (came_to may.call) slot may.need may.call.seen may.asked) ∙ before)
  look_reads serial (inr now) =
      let split : map word_of (may.call.seen ++ found conf at slot may.call ∷ []) ≡ map word_of may.call.seen ++ word_at (present conf) (cspace_of conf.boot at) slot ∷ [] = map-append word_of may.call.seen (found conf at slot may.call ∷ []) in
      let wanted : grants_at (stage_after_look (outcome (needs_of may.call.given.call) (map word_of may.call.seen ++ word_at (present conf) (cspace_of conf.boot at) slot ∷ []))) ≡ true = subst (λ (list : List Word). grants_at (stage_after_look (outcome (needs_of may.call.given.call) list)) ≡ true) split now.1 in
      inr (grants_read serial may.call.section (granted_by (look_reply (word_at (present conf) (cspace_of conf.boot at) slot) may.need) (needs_of may.call.given.call) (map word_of may.call.seen) slot may.need (word_at (present conf) (cspace_of conf.boot at) slot) refl may.asked wanted) now.0)

  -- the last look of a call with a grant is the grant
  new_granted : grants_at (stage_after_look came) ≡ true
      → list_any (finds (granted new_look.word).0) (may.call.seen ++ new_look ∷ []) ≡ true
  unfolding new_look came
  new_granted grants =
      let split : map word_of (may.call.seen ++ found conf at slot may.call ∷ []) ≡ map word_of may.call.seen ++ word_at (present conf) (cspace_of conf.boot at) slot ∷ [] = map-append word_of may.call.seen (found conf at slot may.call ∷ []) in
      let wanted : grants_at (stage_after_look (outcome (needs_of may.call.given.call) (map word_of may.call.seen ++ word_at (present conf) (cspace_of conf.boot at) slot ∷ []))) ≡ true = subst (λ (list : List Word). grants_at (stage_after_look (outcome (needs_of may.call.given.call) list)) ≡ true) split grants in
      let row : GrantsRow (word_at (present conf) (cspace_of conf.boot at) slot) = granted_by (look_reply (word_at (present conf) (cspace_of conf.boot at) slot) may.need) (needs_of may.call.given.call) (map word_of may.call.seen) slot may.need (word_at (present conf) (cspace_of conf.boot at) slot) refl may.asked wanted in
      any_new (finds (granted (word_at (present conf) (cspace_of conf.boot at) slot)).0) may.call.seen (found conf at slot may.call) (names_own (word_at (present conf) (cspace_of conf.boot at) slot).row row.row row.is)

  new_last : (seen : Seen) → grants_at (stage_after_look came) ≡ true
      → last_or None (may.call.seen ++ new_look ∷ []) ≡ Some seen
      → list_any (finds (granted seen.word).0) (granting_at (stage_after_look came) came (may.call.seen ++ new_look ∷ [])) ≡ true
  new_last seen grants last =
      let same : new_look ≡ seen = same_some new_look seen (sym (last_or_snoc None may.call.seen new_look) ∙ last) in
      ap (list_any (finds (granted seen.word).0)) (granting_open (stage_after_look came) came (may.call.seen ++ new_look ∷ []) (looks_open came) ∙ grants_all came (may.call.seen ++ new_look ∷ []) grants) ∙ subst (λ (one : Seen). list_any (finds (granted one.word).0) (may.call.seen ++ new_look ∷ []) ≡ true) same (new_granted grants)

  looking : Cpu
  looking = with_call (λ call. with_look (found conf at slot call) call) (conf.cpu at)

  look_stays : StaysOpen (objects_of conf) conf.history at (conf.cpu at) looking (conf.counter at) (scan_of conf.turn at) (graced.each at may.is_cpu)
  unfolding looking new_look came
  look_stays = record {
    call = may.call;
    other = with_look (found conf at slot may.call) may.call;
    is = may.reading.is_current;
    now = ap (option_map (λ (call : Current). with_look (found conf at slot call) call)) may.reading.is_current;
    was_open = ap is_open_at may.reading.at_stage;
    still = looks_open came;
    section = refl;
    made = refl;
    last = new_last;
    grants = λ serial held. look_reads serial (look_adds came serial may.call.seen new_look (sym (ap (list_any (finds serial)) (granting_open (stage_after_look came) came (may.call.seen ++ new_look ∷ []) (looks_open came))) ∙ held));
  }

  -- a look keeps grace
  pub look_graced : HasGrace (looked conf at slot)
  unfolding looking
  look_graced =
      part_graced conf at looking conf.count conf.counter (same_part conf at looking may.is_cpu (stays_open (objects_of conf) conf.history at (conf.cpu at) looking (conf.counter at) (scan_of conf.turn at) (graced.each at may.is_cpu) look_stays)) graced
