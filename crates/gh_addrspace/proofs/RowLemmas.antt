-- Rows that cover a page, and those that are left.
use Rattle.std.proofs.Common.{◌≡◌, ℕ, suc, ◌+◌}
use Rattle.std.proofs.Common.{Bool, true, false, not, ◌&&◌, ◌||◌, List, []}
use Rattle.std.proofs.Common.{◌∷◌, ◌++◌, map, Option, Some, None}
use Rattle.std.proofs.Common.{if◌then◌else◌, refl, sym, ap, subst, ◌∙◌, arith}
use Rattle.std.specs.List.{All, filter, find, fold, list_any}
use Rattle.std.specs.Option.{IfSome, option_map}
use Rattle.std.proofs.lemmas.Bool.{and_from, and_parts, false_from_ne_true, leb-true, lt-ltb}
use Rattle.std.proofs.lemmas.Bool.{ltb-true, not-true, or_parts, true≢false, false≢true}
use Rattle.gh_addrspace.specs.Rows.{covering, covers, hides, is_chosen}
use Rattle.gh_addrspace.specs.Rows.{is_covered, overlaps}
use Rattle.gh_addrspace.specs.Space.{at_most_one, followed, followed_by, follows}
use Rattle.gh_addrspace.specs.declared.mapping.Chosen.{Chosen}
use Rattle.gh_addrspace.specs.declared.mapping.Mapping.{Mapping}
use Rattle.gh_model.specs.Memory.{row_covers}
use Rattle.gh_model.specs.declared.memory.MapRow.{MapRow}
use Rattle.gh_pagetable.specs.Map.{Target}

-- of a test of rows
module _ (q : Mapping → Bool) where
  -- where no row passes none is found
  pub find-none : (ms : List Mapping) → list_any q ms ≡ false → find q ms ≡ None
  find-none [] none = refl
  find-none (m ∷ ms) none =
      let parts = or_parts (q m) (list_any q ms) none in
      rw parts.0 (find-none ms parts.1)

  pub find-push :
      (ms : List Mapping) (m : Mapping)
      → find q (ms ++ m ∷ []) ≡ (if list_any q ms then find q ms else (if q m then Some m else None))
  find-push [] m = refl
  find-push (n ∷ ms) m =
      elim (q n) as (λ b. (if b then Some n else find q (ms ++ m ∷ []))
      ≡ (if b || list_any q ms then (if b then Some n else find q ms) else (if q m then Some m else None))) [
        | true ↦ refl
        | false ↦ find-push ms m
      ]

  pub any-push : (ms : List Mapping) (m : Mapping) → list_any q (ms ++ m ∷ []) ≡ (list_any q ms || q m)
  any-push [] m = elim (q m) as (λ b. (b || false) ≡ (false || b)) [ true ↦ refl | false ↦ refl ]
  any-push (n ∷ ms) m =
      elim (q n) as (λ b. (b || list_any q (ms ++ m ∷ [])) ≡ ((b || list_any q ms) || q m)) [
        | true ↦ refl
        | false ↦ any-push ms m
      ]

  pub one-push :
      (ms : List Mapping) (m : Mapping) → at_most_one q ms ≡ true → (q m ≡ true → list_any q ms ≡ false)
      → at_most_one q (ms ++ m ∷ []) ≡ true
  one-push [] m one apart = elim (q m) as (λ b. (if b then not false else true) ≡ true) [ true ↦ refl | false ↦ refl ]
  one-push (n ∷ ms) m one apart =
      elim (q n) as (λ b. q n ≡ b → at_most_one q (n ∷ ms ++ m ∷ []) ≡ true) [
        | true ↦ λ is.
            let alone : list_any q ms ≡ false = not-true _ (rw is at one) in
            let other : q m ≡ false = false_from_ne_true (q m) (λ yes. true≢false (rw is at (apart yes))) in
            let none : list_any q (ms ++ m ∷ []) ≡ false = any-push ms m ∙ rw (alone, other) refl in
            rw (is, none) refl
        | false ↦ λ is. rw is (one-push ms m (rw is at one) (λ yes. rw is at (apart yes)))
      ] refl

  -- at most one passes where none does
  one_none : (ms : List Mapping) → list_any q ms ≡ false → at_most_one q ms ≡ true
  one_none [] none = refl
  one_none (m ∷ ms) none =
      let parts = or_parts (q m) (list_any q ms) none in
      rw parts.0 (one_none ms parts.1)

  -- none passes this test and another
  none_both : (other : Mapping → Bool) (ms : List Mapping) → list_any q ms ≡ false → list_any (λ m. other m && q m) ms ≡ false
  none_both other [] none = refl
  none_both other (m ∷ ms) none =
      let parts = or_parts (q m) (list_any q ms) none in
      elim (other m) as (λ b. ((b && q m) || list_any (λ n. other n && q n) ms) ≡ false) [
        | true ↦ rw parts.0 (none_both other ms parts.1)
        | false ↦ none_both other ms parts.1
      ]

  -- of the rows that another test leaves
  module _ (stays : Mapping → Bool) where
    pub any-filter : (ms : List Mapping) → list_any q ms ≡ false → list_any q (filter stays ms) ≡ false
    any-filter [] none = refl
    any-filter (m ∷ ms) none =
        let parts = or_parts (q m) (list_any q ms) none in
        elim (stays m) as (λ b. list_any q (if b then m ∷ filter stays ms else filter stays ms) ≡ false) [
          | true ↦ rw parts.0 (any-filter ms parts.1)
          | false ↦ any-filter ms parts.1
        ]

    pub one-filter : (ms : List Mapping) → at_most_one q ms ≡ true → at_most_one q (filter stays ms) ≡ true
    one-filter [] one = refl
    one-filter (m ∷ ms) one =
        elim (q m) as (λ b. q m ≡ b → at_most_one q (filter stays (m ∷ ms)) ≡ true) [
          | true ↦ λ is.
              let alone = any-filter ms (not-true _ (rw is at one)) in
              elim (stays m) as (λ b. at_most_one q (if b then m ∷ filter stays ms else filter stays ms) ≡ true) [
                | true ↦ rw (is, alone) refl
                | false ↦ one_none (filter stays ms) alone
              ]
          | false ↦ λ is.
              let rest = one-filter ms (rw is at one) in
              elim (stays m) as (λ b. at_most_one q (if b then m ∷ filter stays ms else filter stays ms) ≡ true) [
                | true ↦ rw is rest
                | false ↦ rest
              ]
        ] refl

    -- the row that passes is found among those that are left, if one of these passes
    pub find-filter :
        (ms : List Mapping) → at_most_one q ms ≡ true → list_any q (filter stays ms) ≡ true
        → find q (filter stays ms) ≡ find q ms
    find-filter [] one some = refl
    find-filter (m ∷ ms) one some =
        elim (q m) as (λ b. q m ≡ b → find q (filter stays (m ∷ ms)) ≡ find q (m ∷ ms)) [
          | true ↦ λ is.
              let alone = any-filter ms (not-true _ (rw is at one)) in
              elim (stays m) as (λ b. stays m ≡ b → find q (filter stays (m ∷ ms)) ≡ find q (m ∷ ms)) [
                | true ↦ λ stay. rw (stay, is) refl
                | false ↦ λ go. absurd (false≢true (sym alone ∙ rw go at some))
              ] refl
          | false ↦ λ is.
              elim (stays m) as (λ b. stays m ≡ b → find q (filter stays (m ∷ ms)) ≡ find q (m ∷ ms)) [
                | true ↦ λ stay. rw (stay, is) (find-filter ms (rw is at one) (rw (stay, is) at some))
                | false ↦ λ go. rw (go, is) (find-filter ms (rw is at one) (rw go at some))
              ] refl
        ] refl

    -- where the row that passes goes, none that is left passes
    pub gone-filter :
        (ms : List Mapping) → at_most_one q ms ≡ true → list_any (λ m. not (stays m) && q m) ms ≡ true
        → list_any q (filter stays ms) ≡ false
    gone-filter [] one some = absurd (false≢true some)
    gone-filter (m ∷ ms) one some =
        elim (q m) as (λ b. q m ≡ b → list_any q (filter stays (m ∷ ms)) ≡ false) [
          | true ↦ λ is.
              let alone = not-true _ (rw is at one) in
              elim (stays m) as (λ b. stays m ≡ b → list_any q (filter stays (m ∷ ms)) ≡ false) [
                | true ↦ λ stay. absurd (false≢true (sym (none_both (λ n. not (stays n)) ms alone) ∙ rw stay at some))
                | false ↦ λ go. rw go (any-filter ms alone)
              ] refl
          | false ↦ λ is.
              elim (stays m) as (λ b. stays m ≡ b → list_any q (filter stays (m ∷ ms)) ≡ false) [
                | true ↦ λ stay. rw (stay, is) (gone-filter ms (rw is at one) (rw stay at some))
                | false ↦ λ go. rw go (gone-filter ms (rw is at one) (rw (go, is) at some))
              ] refl
        ] refl

    -- where none that goes passes, and none that is left, none passes
    pub left-filter :
        (ms : List Mapping) → list_any (λ m. not (stays m) && q m) ms ≡ false → list_any q (filter stays ms) ≡ false
        → list_any q ms ≡ false
    left-filter [] gone left = refl
    left-filter (m ∷ ms) gone left =
        elim (stays m) as (λ b. stays m ≡ b → list_any q (m ∷ ms) ≡ false) [
          | true ↦ λ stay.
              let parts = or_parts (q m) (list_any q (filter stays ms)) (rw stay at left) in
              rw parts.0 (left-filter ms (rw stay at gone) parts.1)
          | false ↦ λ go.
              let parts = or_parts (q m) (list_any (λ n. not (stays n) && q n) ms) (rw go at gone) in
              rw parts.0 (left-filter ms parts.1 (rw go at left))
        ] refl

-- the chosen rows that cover a page
pub hides-twice :
    (chosen : Chosen) (v : ℕ) (ms : List Mapping)
    → list_any (λ m. not (not (is_chosen chosen m)) && covers v m) ms ≡ list_any (hides chosen v) ms
hides-twice chosen v [] = refl
hides-twice chosen v (m ∷ ms) =
    elim (is_chosen chosen m) as (λ b. ((not (not b) && covers v m) || list_any (λ n. not (not (is_chosen chosen n)) && covers v n) ms) ≡ ((b && covers v m) || list_any (hides chosen v) ms)) [
      | true ↦ ap (λ (b : Bool). covers v m || b) (hides-twice chosen v ms)
      | false ↦ hides-twice chosen v ms
    ]

-- a row that overlaps none of these covers no page that one of them covers
pub uncovered :
    (row : MapRow) (v : ℕ) (ms : List Mapping) → list_any (overlaps row) ms ≡ false → row_covers v row ≡ true
    → is_covered ms v ≡ false
uncovered row v [] none is = refl
uncovered row v (m ∷ ms) none is =
    let parts = or_parts (overlaps row m) (list_any (overlaps row) ms) none in
    let mine = and_parts _ _ is in
    let out : covers v m ≡ false =
    false_from_ne_true (covers v m)
    (λ yes.
    let its = and_parts _ _ yes in
    let from = leb-true row.base v mine.0 in
    let below = ltb-true v (row.base + row.count) mine.1 in
    let its_from = leb-true m.row.base v its.0 in
    let its_below = ltb-true v (m.row.base + m.row.count) its.1 in
    let meet : overlaps row m ≡ true =
    and_from _ _ (lt-ltb row.base (m.row.base + m.row.count) (omega arith)) (lt-ltb m.row.base (row.base + row.count) (omega arith)) in
    false≢true (sym parts.0 ∙ meet)) in
    rw out (uncovered row v ms parts.1 is)

-- the rows by themselves
pub find-rows :
    (v : ℕ) (ms : List Mapping) → find (row_covers v) (map (λ m. m.row) ms) ≡ option_map (λ m. m.row) (covering ms v)
find-rows v [] = refl
find-rows v (m ∷ ms) =
    elim (covers v m) as (λ b. (if b then Some m.row else find (row_covers v) (map (λ n. n.row) ms)) ≡ option_map (λ n. n.row) (if b then Some m else covering ms v)) [
      | true ↦ refl
      | false ↦ find-rows v ms
    ]

abbrev passes_in : (Mapping → Bool) → Option Mapping → Bool
passes_in q None = true
passes_in q (Some m) = q m

-- a row that is found passes, and what holds of each row holds of it
pub found-passes : (q : Mapping → Bool) (ms : List Mapping) (m : Mapping) → find q ms ≡ Some m → q m ≡ true
found-passes q [] m is = absurd (cc)
found-passes q (n ∷ ms) m is =
    elim (q n) as (λ b. q n ≡ b → q m ≡ true) [
      | true ↦ λ yes. let same : Some n ≡ Some m = rw yes at is in ap (λ (o : Option Mapping). passes_in q o) (sym same) ∙ yes
      | false ↦ λ no. found-passes q ms m (rw no at is)
    ] refl

pub found-holds : (P : Mapping → Type 0) (q : Mapping → Bool) (ms : List Mapping) (m : Mapping) → All P ms → find q ms ≡ Some m → P m
found-holds P q [] m all is = absurd (cc)
found-holds P q (n ∷ ms) m all is =
    elim (q n) as (λ b. q n ≡ b → P m) [
      | true ↦ λ yes.
          let same : Some n ≡ Some m = rw yes at is in
          subst (λ (o : Option Mapping). IfSome o P) same (all 0 n (omega arith))
      | false ↦ λ no. found-holds P q ms m (λ k d within. all (suc k) d (omega arith)) (rw no at is)
    ] refl

-- machine pages that move change nothing at a page that no row covers
fold-none :
    (from to first count v : ℕ) (ms : List Mapping) (t : Target) → is_covered ms v ≡ false → fold (follows from to first count v) t ms ≡ t
fold-none from to first count v [] t none = refl
fold-none from to first count v (m ∷ ms) t none =
    let parts = or_parts (covers v m) (is_covered ms v) none in
    rw parts.0 (fold-none from to first count v ms t parts.1)

-- at any other page they change what its row says
pub fold-followed :
    (from to first count v : ℕ) (ms : List Mapping) (t : Target) → at_most_one (covers v) ms ≡ true
    → fold (follows from to first count v) t ms ≡ followed_by from to first count v (covering ms v) t
fold-followed from to first count v [] t one = refl
fold-followed from to first count v (m ∷ ms) t one =
    elim (covers v m) as (λ b. covers v m ≡ b → fold (follows from to first count v) t (m ∷ ms) ≡ followed_by from to first count v (covering (m ∷ ms) v) t) [
      | true ↦ λ is.
          let alone : is_covered ms v ≡ false = not-true _ (rw is at one) in
          let here : covering (m ∷ ms) v ≡ Some m = rw is refl in
          fold-none from to first count v ms (followed from to first count v m t) alone
          ∙ ap (λ (o : Option Mapping). followed_by from to first count v o t) (sym here)
      | false ↦ λ is. rw is (fold-followed from to first count v ms t (rw is at one))
    ] refl
