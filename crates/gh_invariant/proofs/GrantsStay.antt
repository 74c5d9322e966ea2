-- What a look granted is no live object of another kind behind any events, and a new object has one
-- reference.
use Rattle.std.proofs.Common.{◌≡◌, ◌+◌, ◌<◌, ◌≤◌, ◌∙◌, inl, inr, ℕ, Bool, true, false, not, List, [], ◌∷◌, ◌++◌, refl, subst, sym, ap, arith, IsTrue, Option, Some, None, find, option_map, if◌then◌else◌}
use Rattle.std.specs.Prelude.{◌||◌, ◌==◌, is_some}
use Rattle.std.proofs.lemmas.Bool.{eqb-true, ltb-true}
use Rattle.std.proofs.lemmas.List.{append-nil}
use Rattle.gh_base.specs.Kind.{kind_number}
use Rattle.gh_base.specs.declared.ids.Serial.{Serial}
use Rattle.gh_base.specs.declared.kind.Kind.{Kind}
use Rattle.gh_base.specs.declared.kind.Kind.TheVariants as kind
use Rattle.gh_model.specs.Boot.{is_of_kind}
use Rattle.gh_model.specs.Changes.{changed_all}
use Rattle.gh_model.specs.History.{Event, after_event, replay}
use Rattle.gh_model.specs.QueueCalls.{one_if}
use Rattle.gh_model.specs.References.{references}
use Rattle.gh_model.specs.Rows.{fills, is_object}
use Rattle.gh_model.specs.Word.{kind_fits}
use Rattle.gh_model.specs.declared.change.Change.TheVariants.{AddObject, PutCapability}
use Rattle.gh_model.specs.declared.rows.CapabilityRow.{CapabilityRow}
use Rattle.gh_model.specs.declared.rows.ObjectRow.{ObjectRow}
use Rattle.gh_model.specs.declared.state.State.{State}
use Rattle.gh_invariant.specs.Effects.{gained, home_of, is_that, lost, object_of, slot_names, times}
use Rattle.gh_invariant.specs.Events.{EventsFit}
use Rattle.gh_invariant.specs.Grants.{grant_fits}
use Rattle.gh_invariant.specs.Lives.{lives, lives_as, slot_fits}
use Rattle.gh_invariant.specs.NamesLiving.{NamesLiving, row_kind}
use Rattle.gh_invariant.specs.Premises.{MayChangeAll}
use Rattle.gh_invariant.specs.Valid.{IsValid}
use Rattle.gh_invariant.proofs.ChangesInOrder.{references_all}
use Rattle.gh_invariant.proofs.Counting.{count_append, count_cons, found_all, one_false, one_true, unfound}
use Rattle.gh_invariant.proofs.EntriesKept.{begins}
use Rattle.gh_invariant.proofs.EventsKept.{event_valid}
use Rattle.gh_invariant.proofs.FactLemmas.{names_living}
use Rattle.gh_invariant.proofs.HistoriesKept.{entry_rises}
use Rattle.gh_invariant.proofs.KindsStay.{KindStays, event_kind, then_kind}
use Rattle.gh_invariant.proofs.MayMake.{itself}
use Rattle.gh_invariant.proofs.NotLiving.{not_living}
use Rattle.gh_invariant.proofs.SlotsFit.{slot_parts}

-- kinds stay over events
pub replay_kind : (s : State) (events : List Event) (object : ℕ) → IsValid s → EventsFit s events → object < s.next_serial
    → KindStays s.objects (replay s events).objects object
replay_kind s [] object valid fits made = inr refl
replay_kind s (event ∷ events) object valid fits made =
    let rises : s.next_serial ≤ (after_event s event).next_serial = entry_rises s event event.entry in
    then_kind s.objects (after_event s event).objects (replay (after_event s event) events).objects object
    (event_kind s event object valid fits.first made)
    (replay_kind (after_event s event) events object (event_valid s event valid fits.first) fits.others (omega arith))

-- an object of this kind is no live one of another
none_fits : (found : Option ObjectRow) (k : Kind) → option_map row_kind found ≡ None → (not (is_some found) || is_of_kind k found) ≡ true
none_fits None k none = refl
none_fits (Some row) k none = absurd (let never : ⊥ = cc in never)

some_fits : (old new : Option ObjectRow) (k needed : Kind) → option_map row_kind new ≡ option_map row_kind old → is_of_kind k old ≡ true
    → (kind_number needed == kind_number k) ≡ true → (not (is_some new) || is_of_kind needed new) ≡ true
some_fits None new k needed same is fits = absurd (let never : ⊥ = cc in never)
some_fits (Some row) None k needed same is fits = refl
some_fits (Some row) (Some later) k needed same is fits =
    let kinds : later.kind ≡ row.kind = cc in
    let first : kind_number row.kind ≡ kind_number k = eqb-true (kind_number row.kind) (kind_number k) is in
    let second : kind_number needed ≡ kind_number k = eqb-true (kind_number needed) (kind_number k) fits in
    let all : kind_number later.kind ≡ kind_number needed = ap kind_number kinds ∙ first ∙ sym second in
    subst (λ (n : ℕ). (n == kind_number needed) ≡ true) (sym all) (itself (kind_number needed))

grant_by : (old new : List ObjectRow) (grant : Serial) (k : Kind) (needed : Option Kind) → KindStays old new grant.0
    → IsTrue (lives_as old grant.0 k) → IsTrue (kind_fits needed k) → IsTrue (grant_fits new grant needed)
grant_by old new grant k None stays is fits = refl
grant_by old new grant k (Some needed) (inl gone) is fits = none_fits (find (is_object grant.0) new) needed gone
grant_by old new grant k (Some needed) (inr same) is fits =
    some_fits (find (is_object grant.0) old) (find (is_object grant.0) new) k needed same is fits

-- what a look granted fits its need in every later state
pub found_grant : (s : State) (events : List Event) (cspace slot : ℕ) (row : CapabilityRow) (needed : Option Kind) → IsValid s
    → EventsFit s events → find (fills cspace slot) s.caps ≡ Some row → row.valid ≡ true → IsTrue (kind_fits needed row.kind)
    → IsTrue (grant_fits (replay s events).objects row.serial needed)
found_grant s events cspace slot row needed valid fits found good kinds =
    let names : NamesLiving s row = names_living s valid cspace slot row found good in
    let made : row.serial.0 < s.next_serial =
    ltb-true row.serial.0 s.next_serial (slot_parts s.next_serial s.objects row
    (found_all (fills cspace slot) (slot_fits s.next_serial s.objects) s.caps row valid.slots.filled found)).made in
    grant_by s.objects (replay s events).objects row.serial row.kind needed
    (replay_kind s events row.serial.0 valid fits made) names.object kinds

-- what lives isn't the next serial
other_serial : (s : State) → IsValid s → (serial : ℕ) (here : Bool) → (serial == s.next_serial) ≡ here → lives s.objects serial ≡ true
    → here ≡ false
other_serial s valid serial false is lives_there = refl
other_serial s valid serial true is lives_there =
    let same : serial ≡ s.next_serial = eqb-true serial s.next_serial is in
    let none : find (is_object serial) s.objects ≡ None =
    unfound (is_object serial) s.objects (valid.objects.later serial (omega arith)) in
    absurd (let never : false ≡ true = ap is_some (sym none) ∙ lives_there in cc)

of_kind_lives : (k : Kind) (found : Option ObjectRow) → is_of_kind k found ≡ true → is_some found ≡ true
of_kind_lives k None is = absurd (let never : ⊥ = cc in never)
of_kind_lives k (Some row) is = refl

-- a list of one serial counts another none, and its own one
none_of_one : (object : ℕ) (serial : Serial) → (serial.0 == object) ≡ false → times object (serial ∷ []) ≡ 0
none_of_one object serial other =
    let all : times object (serial ∷ []) ≡ one_if (serial.0 == object) + times object [] = count_cons (is_that object) serial [] in
    let zero : one_if (serial.0 == object) ≡ 0 = one_false (serial.0 == object) other in
    let none : times object [] ≡ 0 = refl in
    omega arith

home_other : (row : ObjectRow) (object : ℕ) (own : Bool) → (row.partition.0 == row.serial.0) ≡ own → (row.partition.0 == object) ≡ false
    → times object (if own then [] else row.partition ∷ []) ≡ 0
home_other row object true is other = refl
home_other row object false is other = none_of_one object row.partition other

slot_one : (row : CapabilityRow) (object : ℕ) → row.valid ≡ true → (row.serial.0 == object) ≡ true → (row.cspace.0 == object) ≡ false
    → times object (row.cspace ∷ object_of row) ≡ 1
slot_one row object valid same other =
    let names : times object (row.cspace ∷ object_of row) ≡ times object (row.cspace ∷ row.serial ∷ []) =
    ap (λ (b : Bool). times object (row.cspace ∷ (if b then row.serial ∷ [] else []))) valid in
    let first : times object (row.cspace ∷ row.serial ∷ []) ≡ one_if (row.cspace.0 == object) + times object (row.serial ∷ []) =
    count_cons (is_that object) row.cspace (row.serial ∷ []) in
    let second : times object (row.serial ∷ []) ≡ one_if (row.serial.0 == object) + times object [] = count_cons (is_that object) row.serial [] in
    let none : times object [] ≡ 0 = refl in
    let zero : one_if (row.cspace.0 == object) ≡ 0 = one_false (row.cspace.0 == object) other in
    let one : one_if (row.serial.0 == object) ≡ 1 = one_true (row.serial.0 == object) same in
    omega arith

-- a new object with its master capability, in a capability space that was there, has one reference
pub created_once : (s : State) (row : ObjectRow) (master : CapabilityRow) → IsValid s → MayChangeAll s (AddObject row ∷ PutCapability master ∷ [])
    → master.serial.0 ≡ row.serial.0 → lives s.objects master.cspace.0 ≡ true
    → references (changed_all s (AddObject row ∷ PutCapability master ∷ [])) row.serial.0 ≡ 1
created_once s row master valid may named home =
    let next : row.serial.0 ≡ s.next_serial = may.first.serial in
    let some : 0 < row.serial.0 = omega (arith, valid.objects.some, next) in
    let moved : references (changed_all s (AddObject row ∷ PutCapability master ∷ [])) row.serial.0
    + times row.serial.0 (lost s (AddObject row ∷ PutCapability master ∷ []))
    ≡ references s row.serial.0 + times row.serial.0 (gained s (AddObject row ∷ PutCapability master ∷ [])) =
    references_all (s.entries + 1) s (AddObject row ∷ PutCapability master ∷ []) row.serial.0 some (omega arith) (begins s valid) may in
    let gone : lives s.objects row.serial.0 ≡ false =
    ap is_some (unfound (is_object row.serial.0) s.objects (valid.objects.later row.serial.0 (omega (arith, next)))) in
    let none : references s row.serial.0 ≡ 0 = not_living s.entries s row.serial.0 some valid gone in
    let owner : (row.partition.0 == row.serial.0) ≡ false =
    subst (λ (n : ℕ). (row.partition.0 == n) ≡ false) (sym next)
    (other_serial s valid row.partition.0 (row.partition.0 == s.next_serial) refl
    (of_kind_lives kind.Partition (find (is_object row.partition.0) s.objects) may.first.partition)) in
    let space : (master.cspace.0 == row.serial.0) ≡ false =
    subst (λ (n : ℕ). (master.cspace.0 == n) ≡ false) (sym next)
    (other_serial s valid master.cspace.0 (master.cspace.0 == s.next_serial) refl home) in
    let homes : times row.serial.0 (home_of row) ≡ 0 = home_other row row.serial.0 (row.partition.0 == row.serial.0) refl owner in
    let slots : times row.serial.0 (master.cspace ∷ object_of master) ≡ 1 =
    slot_one master row.serial.0 may.others.first.valid (subst (λ (n : ℕ). (master.serial.0 == n) ≡ true) named (itself master.serial.0)) space in
    let names : List Serial = slot_names (Some master) in
    let rest : List Serial = names ++ [] in
    let spelled : times row.serial.0 (gained s (AddObject row ∷ PutCapability master ∷ [])) ≡ times row.serial.0 (home_of row ++ rest) = refl in
    let both : times row.serial.0 (home_of row ++ rest) ≡ times row.serial.0 (home_of row) + times row.serial.0 rest =
    count_append (is_that row.serial.0) (home_of row) rest in
    let rest_all : times row.serial.0 rest ≡ 1 = ap (times row.serial.0) (append-nil names) ∙ slots in
    let free : times row.serial.0 (lost s (AddObject row ∷ PutCapability master ∷ [])) ≡ 0 = refl in
    omega arith
