-- A revoke of all capabilities of an object takes one slot after another, the least first.
use Rattle.std.proofs.Common.{◌≡◌, ◌==◌, ◌+◌, ◌∙◌, ◌⊎◌, inl, inr, ℕ, zero, suc, Bool, true, false, not, List, [], ◌∷◌, ◌++◌, refl, subst, sym, ap, arith, length, filter, slice_get, Option, Some, None, find, is_some, if◌then◌else◌}
use Rattle.std.specs.Prelude.{◌&&◌, ◌||◌, count_by, nat_le, nat_lt, option_map}
use Rattle.std.specs.List.{list_all, list_any}
use Rattle.std.proofs.lemmas.Bool.{and_from, and_parts, eqb-true}
use Rattle.std.proofs.lemmas.Bool.Decides.{nat_tests}
use Rattle.gh_base.specs.declared.call.Call.{Call}
use Rattle.gh_base.specs.declared.call.Call.TheVariants as calls
use Rattle.gh_base.specs.declared.errno.Errno.TheVariants.{CapRevoked}
use Rattle.gh_base.specs.declared.ids.Serial.{Serial}
use Rattle.gh_model.specs.Act.{any_doomed, grants_of}
use Rattle.gh_model.specs.CapabilityCalls.{caps_revoke, is_finished, is_left, is_taken_of, names, rises, rises_from}
use Rattle.gh_model.specs.CapabilityCalls as slots
use Rattle.gh_model.specs.Changes.{as_revoked, changed}
use Rattle.gh_model.specs.declared.change.Change.TheVariants as change
use Rattle.gh_model.specs.QueueCalls.{one_if}
use Rattle.gh_model.proofs.ChangedRows.{find_changed}
use Rattle.gh_invariant.proofs.Counting.{count_found, found_all}
use Rattle.gh_model.specs.Decide.{decision, has_moved}
use Rattle.gh_model.specs.Decisions.{grant_at}
use Rattle.gh_model.specs.History as history
use Rattle.gh_model.specs.Legal.{is_revoke}
use Rattle.gh_model.specs.Rows.{change_row, fills}
use Rattle.gh_model.specs.declared.change.Decision.TheVariants.{Refuse}
use Rattle.gh_model.specs.declared.rows.CapabilityRow.{CapabilityRow}
use Rattle.gh_model.specs.declared.rows.TakenSlot.{TakenSlot}
use Rattle.gh_model.specs.declared.state.State.{State}
use Rattle.gh_model.specs.declared.word.Word.{Word}
use Rattle.gh_invariant.proofs.ChangedRow.{count_change, find_change_seen, find_past_change}
use Rattle.gh_events.specs.Entries.{is_before, is_least, is_plain_of}
use Rattle.gh_schedules.specs.Items.{least, lesser, next_part, plain_caps}
use Rattle.gh_invariant.specs.Valid.{IsValid}
use Rattle.gh_events.proofs.CausesHeld.{stands_found}
use Rattle.gh_events.proofs.Finding.{same_number}

-- the least of some slots

abbrev before : CapabilityRow → CapabilityRow → Bool
before row other = is_before row.cspace.0 row.slot other

at_least : (a b c d : ℕ) → (nat_lt a c || ((a == c) && nat_le b d)) ≡ false
    → (nat_lt c a || ((c == a) && nat_le d b)) ≡ true
at_least a b c d other = grind (arith, nat_tests)

on : (a b c d e f : ℕ) → (nat_lt a c || ((a == c) && nat_le b d)) ≡ true
    → (nat_lt c e || ((c == e) && nat_le d f)) ≡ true
    → (nat_lt a e || ((a == e) && nat_le b f)) ≡ true
on a b c d e f first second = grind (arith, nat_tests)

itself : (a b : ℕ) → (nat_lt a a || ((a == a) && nat_le b b)) ≡ true
itself a b = grind (arith, nat_tests)

-- a slot at or behind another, and not that one, is behind it
strictly : (a b c d : ℕ) → (nat_lt a c || ((a == c) && nat_le b d)) ≡ true → ((c == a) && (d == b)) ≡ false
    → (nat_lt a c || ((a == c) && nat_lt b d)) ≡ true
strictly a b c d first other = grind (arith, nat_tests)

-- the row stands in the list
record StandsIn (rows : List CapabilityRow) (row : CapabilityRow) : Type 0 where
  at : ℕ
  is : slice_get rows at ≡ Some row

lesser_is : (first : CapabilityRow) (others : Option CapabilityRow) (row : CapabilityRow)
    → lesser first others ≡ Some row → (first ≡ row) ⊎ (others ≡ Some row)
lesser_is first None row is = inl (let same : first ≡ row = cc in same)
lesser_is first (Some other) row is = by_test (before first other) is
  where
    by_test : (here : Bool) → (if here then Some first else Some other) ≡ Some row → (first ≡ row) ⊎ (Some other ≡ Some row)
    by_test true is = inl (let same : first ≡ row = cc in same)
    by_test false is = inr is

least_stands : (rows : List CapabilityRow) (row : CapabilityRow) → least rows ≡ Some row → StandsIn rows row
least_stands [] row is = absurd (let never : ⊥ = cc in never)
least_stands (first ∷ rows) row is = by_which (lesser_is first (least rows) row is) (least_stands rows row)
  where
    by_which : (first ≡ row) ⊎ (least rows ≡ Some row) → (least rows ≡ Some row → StandsIn rows row) → StandsIn (first ∷ rows) row
    by_which (inl same) rest = record { at = 0; is = ap Some same }
    by_which (inr later) rest = let there : StandsIn rows row = rest later in record { at = suc there.at; is = there.is }

none_least : (rows : List CapabilityRow) → least rows ≡ None → rows ≡ []
none_least [] is = refl
none_least (row ∷ rows) is = absurd (some_lesser row (least rows) is)
  where
    some_lesser : (first : CapabilityRow) (others : Option CapabilityRow) → lesser first others ≡ None → ⊥
    some_lesser first None is = let never : ⊥ = cc in never
    some_lesser first (Some other) is = by_test (before first other) is
      where
        by_test : (here : Bool) → (if here then Some first else Some other) ≡ None → ⊥
        by_test true is = let never : ⊥ = cc in never
        by_test false is = let never : ⊥ = cc in never

all_on : (row other : CapabilityRow) (rows : List CapabilityRow) → before row other ≡ true
    → list_all (before other) rows ≡ true → list_all (before row) rows ≡ true
all_on row other [] first all = refl
all_on row other (next ∷ rows) first all =
    let parts = and_parts (before other next) (list_all (before other) rows) all in
    and_from _ _ (on row.cspace.0 row.slot other.cspace.0 other.slot next.cspace.0 next.slot first parts.0) (all_on row other rows first parts.1)

lesser_all : (first : CapabilityRow) (rows : List CapabilityRow) (others : Option CapabilityRow) → least rows ≡ others
    → ((one : CapabilityRow) → others ≡ Some one → list_all (before one) rows ≡ true)
    → (row : CapabilityRow) → lesser first others ≡ Some row → list_all (before row) (first ∷ rows) ≡ true
lesser_all first rows None none rest row is =
    let same : first ≡ row = cc in
    subst (λ (one : CapabilityRow). list_all (before one) (first ∷ rows) ≡ true) same
    (subst (λ (list : List CapabilityRow). list_all (before first) (first ∷ list) ≡ true) (sym (none_least rows none)) (and_from _ _ (itself first.cspace.0 first.slot) refl))
lesser_all first rows (Some other) some rest row is = by_test (before first other) refl is
  where
    by_test : (here : Bool) → before first other ≡ here → (if here then Some first else Some other) ≡ Some row
        → list_all (before row) (first ∷ rows) ≡ true
    by_test true less is =
        let same : first ≡ row = cc in
        subst (λ (one : CapabilityRow). list_all (before one) (first ∷ rows) ≡ true) same
        (and_from _ _ (itself first.cspace.0 first.slot) (all_on first other rows less (rest other refl)))
    by_test false less is =
        let same : other ≡ row = cc in
        subst (λ (one : CapabilityRow). list_all (before one) (first ∷ rows) ≡ true) same
        (and_from _ _ (at_least first.cspace.0 first.slot other.cspace.0 other.slot less) (rest other refl))

-- it is at or before each of them
least_all : (rows : List CapabilityRow) (row : CapabilityRow) → least rows ≡ Some row → list_all (before row) rows ≡ true
least_all [] row is = refl
least_all (first ∷ rows) row is =
    lesser_all first rows (least rows) refl (λ one is_one. least_all rows one is_one) row is

-- of the capabilities that pass a test

kept_all : (p q : CapabilityRow → Bool) (rows : List CapabilityRow) → list_all q (filter p rows) ≡ true
    → list_all (λ (row : CapabilityRow). not (p row) || q row) rows ≡ true
kept_all p q [] all = refl
kept_all p q (row ∷ rows) all = by_kept (p row) all (kept_all p q rows)
  where
    by_kept : (kept : Bool) → list_all q (if kept then row ∷ filter p rows else filter p rows) ≡ true
        → (list_all q (filter p rows) ≡ true → list_all (λ (one : CapabilityRow). not (p one) || q one) rows ≡ true)
        → ((not kept || q row) && list_all (λ (one : CapabilityRow). not (p one) || q one) rows) ≡ true
    by_kept true all rest =
        let parts = and_parts (q row) (list_all q (filter p rows)) all in and_from _ _ parts.0 (rest parts.1)
    by_kept false all rest = rest all

record Kept (p : CapabilityRow → Bool) (rows : List CapabilityRow) (row : CapabilityRow) : Type 0 where
  passes : p row ≡ true
  stands : StandsIn rows row

kept_stands : (p : CapabilityRow → Bool) (rows : List CapabilityRow) (i : ℕ) (row : CapabilityRow)
    → slice_get (filter p rows) i ≡ Some row → Kept p rows row
kept_stands p [] i row is = absurd (let never : ⊥ = cc in never)
kept_stands p (first ∷ rows) i row is = by_kept (p first) refl i is (λ j there. kept_stands p rows j row there)
  where
    later : Kept p rows row → Kept p (first ∷ rows) row
    later kept = record { passes = kept.passes; stands = record { at = suc kept.stands.at; is = kept.stands.is } }

    by_kept : (kept : Bool) → p first ≡ kept → (j : ℕ) → slice_get (if kept then first ∷ filter p rows else filter p rows) j ≡ Some row
        → ((k : ℕ) → slice_get (filter p rows) k ≡ Some row → Kept p rows row) → Kept p (first ∷ rows) row
    by_kept true passes zero here rest =
        let same : first ≡ row = cc in record { passes = ap p (sym same) ∙ passes; stands = record { at = 0; is = here } }
    by_kept true passes (suc j) here rest = later (rest j here)
    by_kept false passes j here rest = later (rest j here)

-- the next part

-- the row is that of its slot
abbrev pub InCaps : State → CapabilityRow → Type 0
InCaps s row = find (fills row.cspace.0 row.slot) s.caps ≡ Some row

own_slot : (row : CapabilityRow) → fills row.cspace.0 row.slot row ≡ true
own_slot row = and_from _ _ (same_number row.cspace.0) (same_number row.slot)

pub record NextPart (s : State) (object : ℕ) (row : CapabilityRow) : Type 0 where
  pub plain : is_plain_of object row ≡ true
  pub in_caps : InCaps s row
  pub least : is_least s object row.cspace.0 row.slot ≡ true

pub next_is : (s : State) (object : ℕ) (row : CapabilityRow) → IsValid s → next_part s object ≡ Some row
    → NextPart s object row
next_is s object row valid is =
    let there : StandsIn (plain_caps s object) row = least_stands (plain_caps s object) row is in
    let kept : Kept (is_plain_of object) s.caps row = kept_stands (is_plain_of object) s.caps there.at row there.is in
    record {
      plain = kept.passes;
      in_caps = stands_found (fills row.cspace.0 row.slot) s.caps kept.stands.at row kept.stands.is (own_slot row) (valid.slots.once row.cspace.0 row.slot);
      least = kept_all (is_plain_of object) (before row) s.caps (least_all (plain_caps s object) row is);
    }

-- where a capability is left, there is one
none_left : (p : CapabilityRow → Bool) (rows : List CapabilityRow) → filter p rows ≡ [] → list_any p rows ≡ false
none_left p [] none = refl
none_left p (row ∷ rows) none = by_kept (p row) none (none_left p rows)
  where
    by_kept : (kept : Bool) → (if kept then row ∷ filter p rows else filter p rows) ≡ []
        → (filter p rows ≡ [] → list_any p rows ≡ false) → (kept || list_any p rows) ≡ false
    by_kept true none rest = absurd (let never : ⊥ = cc in never)
    by_kept false none rest = rest none

pub some_next : (s : State) (object : ℕ) → list_any (is_plain_of object) s.caps ≡ true
    → (found : Option CapabilityRow) → next_part s object ≡ found → is_some found ≡ true
some_next s object any (Some row) is = refl
some_next s object any None is =
    let none : list_any (is_plain_of object) s.caps ≡ false = none_left (is_plain_of object) s.caps (none_least (plain_caps s object) is) in
    absurd (let never : ⊥ = cc in never)

-- the slots that were taken

abbrev pub slot_of : CapabilityRow → TakenSlot
slot_of row = record { cspace = row.cspace; slot = row.slot }

-- they are of the object, they rise, and what is left of it stands behind them
pub record AreTaken (s : State) (object : Serial) : Type 0 where
  pub taken_of : list_all (is_taken_of s object) s.taken ≡ true
  pub rising : rises s.taken ≡ true
  pub behind : (row : CapabilityRow) → InCaps s row → is_plain_of object.0 row ≡ true
      → list_all (λ (taken : TakenSlot). slots.is_before taken (slot_of row)) s.taken ≡ true

pub none_taken : (s : State) (object : Serial) → s.taken ≡ [] → AreTaken s object
none_taken s object none =
    subst (λ (taken : List TakenSlot). AreTaken (record s { taken = taken }) object) (sym none)
    (record { taken_of = refl; rising = refl; behind = λ row there plain. refl })

snoc_all : {X : Type 0} (p : X → Bool) (xs : List X) (x : X) → list_all p xs ≡ true → p x ≡ true
    → list_all p (xs ++ x ∷ []) ≡ true
snoc_all p [] x all here = and_from _ _ here refl
snoc_all p (y ∷ xs) x all here =
    let parts = and_parts (p y) (list_all p xs) all in and_from _ _ parts.0 (snoc_all p xs x parts.1 here)

rises_more : (last : TakenSlot) (taken : List TakenSlot) (next : TakenSlot) → rises_from last taken ≡ true
    → slots.is_before last next ≡ true → list_all (λ (one : TakenSlot). slots.is_before one next) taken ≡ true
    → rises_from last (taken ++ next ∷ []) ≡ true
rises_more last [] next rising here all = and_from _ _ here refl
rises_more last (one ∷ taken) next rising here all =
    let rise = and_parts (slots.is_before last one) (rises_from one taken) rising in
    let befores = and_parts (slots.is_before one next) (list_all (λ (other : TakenSlot). slots.is_before other next) taken) all in
    and_from _ _ rise.0 (rises_more one taken next rise.1 befores.0 befores.1)

rises_snoc : (taken : List TakenSlot) (next : TakenSlot) → rises taken ≡ true
    → list_all (λ (one : TakenSlot). slots.is_before one next) taken ≡ true → rises (taken ++ next ∷ []) ≡ true
rises_snoc [] next rising all = refl
rises_snoc (first ∷ taken) next rising all =
    let befores = and_parts (slots.is_before first next) (list_all (λ (other : TakenSlot). slots.is_before other next) taken) all in
    rises_more first taken next rising befores.0 befores.1

all_same : {X : Type 0} (p q : X → Bool) (xs : List X) → ((x : X) → q x ≡ p x) → list_all p xs ≡ true
    → list_all q xs ≡ true
all_same p q [] same all = refl
all_same p q (x ∷ xs) same all =
    let parts = and_parts (p x) (list_all p xs) all in
    and_from _ _ (same x ∙ parts.0) (all_same p q xs same parts.1)

-- a part

module _ (s : State) (object : Serial) (row : CapabilityRow) (valid : IsValid s) (next : NextPart s object.0 row) where
  abbrev pub Parted : State
  Parted = history.numbered (history.took (changed s (change.RevokeCapability row.cspace row.slot)) row.cspace row.slot)

  plain_parts : ((row.valid && not row.master) ≡ true) × ((row.serial.0 == object.0) ≡ true)
  plain_parts = and_parts (row.valid && not row.master) (row.serial.0 == object.0) next.plain

  -- the entry makes it
  pub parted_is : history.parted s row.cspace row.slot ≡ Parted
  parted_is =
      ap (λ (may : Bool). if may then Parted else history.numbered s) (ap history.may_part next.in_caps ∙ plain_parts.0)

  fewer : count_by (is_plain_of object.0) Parted.caps + 1 ≡ count_by (is_plain_of object.0) s.caps
  fewer =
      let sum : count_by (is_plain_of object.0) (change_row (fills row.cspace.0 row.slot) as_revoked s.caps) + count_found (is_plain_of object.0) (find (fills row.cspace.0 row.slot) s.caps)
      ≡ count_by (is_plain_of object.0) s.caps + count_found (is_plain_of object.0) (option_map as_revoked (find (fills row.cspace.0 row.slot) s.caps)) =
      count_change (is_plain_of object.0) (fills row.cspace.0 row.slot) as_revoked s.caps in
      let one : count_found (is_plain_of object.0) (find (fills row.cspace.0 row.slot) s.caps) ≡ 1 =
      ap (count_found (is_plain_of object.0)) next.in_caps ∙ ap one_if next.plain in
      let none : count_found (is_plain_of object.0) (option_map as_revoked (find (fills row.cspace.0 row.slot) s.caps)) ≡ 0 =
      ap (λ (found : Option CapabilityRow). count_found (is_plain_of object.0) (option_map as_revoked found)) next.in_caps in
      omega (arith, sum, one, none)

  taken_same : (taken : TakenSlot) → is_taken_of Parted object taken ≡ is_taken_of s object taken
  taken_same taken =
      find_change_seen (names object) (fills taken.cspace.0 taken.slot) (fills row.cspace.0 row.slot) as_revoked s.caps (λ one. refl) (λ one. refl)

  here_taken : is_taken_of Parted object (slot_of row) ≡ true
  here_taken = taken_same (slot_of row) ∙ ap (names object) next.in_caps ∙ plain_parts.1

  apart : (other one : CapabilityRow) → ((other.cspace.0 == row.cspace.0) && (other.slot == row.slot)) ≡ false
      → fills row.cspace.0 row.slot one ≡ true → fills other.cspace.0 other.slot one ≡ false
  apart other one differs there = grind (arith, nat_tests)

  behind_other : (taken_before : AreTaken s object) (other : CapabilityRow) → InCaps s other → is_plain_of object.0 other ≡ true
      → ((other.cspace.0 == row.cspace.0) && (other.slot == row.slot)) ≡ false
      → list_all (λ (taken : TakenSlot). slots.is_before taken (slot_of other)) (s.taken ++ slot_of row ∷ []) ≡ true
  behind_other taken_before other there plain differs =
      let least : (not (is_plain_of object.0 other) || before row other) ≡ true =
      found_all (fills other.cspace.0 other.slot) (λ (one : CapabilityRow). not (is_plain_of object.0 one) || before row one) s.caps other next.least there in
      let at_or_behind : before row other ≡ true = sym (ap (λ (one : Bool). not one || before row other) plain) ∙ least in
      snoc_all (λ (taken : TakenSlot). slots.is_before taken (slot_of other)) s.taken (slot_of row)
      (taken_before.behind other there plain) (strictly row.cspace.0 row.slot other.cspace.0 other.slot at_or_behind differs)

  revoked_plain : (other : CapabilityRow) → as_revoked row ≡ other → is_plain_of object.0 other ≡ true → ⊥
  revoked_plain other same plain =
      let no_more : is_plain_of object.0 (as_revoked row) ≡ true = ap (is_plain_of object.0) same ∙ plain in
      let never : ⊥ = cc in never

  behind_by : (taken_before : AreTaken s object) (other : CapabilityRow) → InCaps Parted other → is_plain_of object.0 other ≡ true
      → (same : Bool) → ((other.cspace.0 == row.cspace.0) && (other.slot == row.slot)) ≡ same
      → list_all (λ (taken : TakenSlot). slots.is_before taken (slot_of other)) (s.taken ++ slot_of row ∷ []) ≡ true
  behind_by taken_before other there plain false differs =
      let was : InCaps s other =
      sym (find_past_change (fills other.cspace.0 other.slot) (fills row.cspace.0 row.slot) as_revoked s.caps (λ one here. apart other one differs here) (λ one here. apart other one differs here)) ∙ there in
      behind_other taken_before other was plain differs
  behind_by taken_before other there plain true same =
      let both = and_parts (other.cspace.0 == row.cspace.0) (other.slot == row.slot) same in
      let cspace : other.cspace.0 ≡ row.cspace.0 = eqb-true other.cspace.0 row.cspace.0 both.0 in
      let slot : other.slot ≡ row.slot = eqb-true other.slot row.slot both.1 in
      let found : find (fills row.cspace.0 row.slot) Parted.caps ≡ Some other =
      subst (λ (n : ℕ). find (fills row.cspace.0 n) Parted.caps ≡ Some other) slot
      (subst (λ (n : ℕ). find (fills n other.slot) Parted.caps ≡ Some other) cspace there) in
      let revoked : find (fills row.cspace.0 row.slot) Parted.caps ≡ Some (as_revoked row) =
      find_changed (fills row.cspace.0 row.slot) as_revoked s.caps (λ one. refl) ∙ ap (option_map as_revoked) next.in_caps in
      let that : Some (as_revoked row) ≡ Some other = sym revoked ∙ found in
      absurd (revoked_plain other (let same_row : as_revoked row ≡ other = cc in same_row) plain)

  -- and the slots that were taken are so behind it
  pub taken_more : AreTaken s object → AreTaken Parted object
  taken_more taken_before = record {
    taken_of = snoc_all (is_taken_of Parted object) s.taken (slot_of row) (all_same (is_taken_of s object) (is_taken_of Parted object) s.taken taken_same taken_before.taken_of) here_taken;
    rising = rises_snoc s.taken (slot_of row) taken_before.rising (taken_before.behind row next.in_caps next.plain);
    behind = λ other there plain. behind_by taken_before other there plain ((other.cspace.0 == row.cspace.0) && (other.slot == row.slot)) refl;
  }

  pub one_fewer : count_by (is_plain_of object.0) Parted.caps + 1 ≡ count_by (is_plain_of object.0) s.caps
  one_fewer = fewer

-- what a revoke comes to

pub revoke_decision : (s : State) (cpu : ℕ) (call : Call) (bytes : List ℕ) (words : List Word) → is_revoke call ≡ true
    → decision (has_moved s cpu call words) s cpu call bytes (grants_of call words)
    ≡ (if (length s.taken == 0) && any_doomed s (grants_of call words) then Refuse CapRevoked else caps_revoke s (grant_at (grants_of call words) 0))
revoke_decision s cpu (calls.CapsRevoke cap) bytes words is = refl
revoke_decision s cpu _ bytes words is = absurd (let never : ⊥ = cc in never)

-- where the revoke isn't done, a capability is left
pub unfinished_left : (s : State) (object : Serial) → AreTaken s object → is_finished s object ≡ false
    → list_any (is_plain_of object.0) s.caps ≡ true
unfinished_left s object taken unfinished =
    by_any (list_any (is_left object) s.caps) refl (by_parts (list_any (is_left object) s.caps) (list_all (is_taken_of s object) s.taken) (rises s.taken) taken.taken_of taken.rising unfinished)
  where
    by_parts : (any all rising : Bool) → all ≡ true → rising ≡ true → (not any && all && rising) ≡ false → any ≡ true
    by_parts true all rising first second is = refl
    by_parts false true true first second is = absurd (let never : ⊥ = cc in never)
    by_parts false false rising first second is = absurd (let never : ⊥ = cc in never)
    by_parts false true false first second is = absurd (let never : ⊥ = cc in never)

    by_any : (any : Bool) → list_any (is_left object) s.caps ≡ any → any ≡ true → list_any (is_plain_of object.0) s.caps ≡ true
    by_any any is some = is ∙ some
