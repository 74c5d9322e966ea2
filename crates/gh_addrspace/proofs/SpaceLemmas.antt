-- What each change of an address space keeps: how its rows and pages go together, and that it
-- shows who holds the pages.
use Rattle.std.proofs.Common.{◌≡◌, ℕ, suc, ◌+◌, ◌-◌, ◌<◌, ◌≤◌}
use Rattle.std.proofs.Common.{◌==◌, Bool, true, false, not, List, [], ◌∷◌}
use Rattle.std.proofs.Common.{◌++◌, length, take, drop, get_or, slice_get}
use Rattle.std.proofs.Common.{map, Option, Some, None, if◌then◌else◌, refl, sym}
use Rattle.std.proofs.Common.{ap, ◌∙◌, arith, rules, inl, inr}
use Rattle.std.specs.List.{All, fold, list_any}
use Rattle.std.specs.Option.{IsSomeAnd, option_map}
use Rattle.std.proofs.lemmas.Bool.{cases_Bool, cases_eq, cases_lt, eq-eqb, eqb-true}
use Rattle.std.proofs.lemmas.Bool.{ne_eqb, or_parts, true_from_ne_false, true≢false}
use Rattle.std.proofs.lemmas.List.{get_or-drop, get_or-take, length-drop, length-take-le, places}
use Rattle.std.proofs.lemmas.List.Folds.{list_all_at}
use Rattle.std.proofs.lemmas.Option.{slice_get-get_or, slice_get_past}
use Rattle.std.proofs.lemmas.List.Elements.{All-filter, All-push}
use Rattle.gh_base.specs.declared.ids.Serial.{Serial}
use Rattle.gh_addrspace.specs.Rows.{IsBounded, covering, covers, hides, is_chosen}
use Rattle.gh_addrspace.specs.Rows.{is_covered, others, overlaps, page_at}
use Rattle.gh_addrspace.specs.Space.{IsNamed, IsSpace, Shows, Space}
use Rattle.gh_addrspace.specs.Space.{followed, followed_by, follows}
use Rattle.gh_addrspace.specs.declared.mapping.Chosen.{Chosen}
use Rattle.gh_addrspace.specs.declared.mapping.Mapping.{Mapping}
use Rattle.gh_model.specs.Boot.{move_pages}
use Rattle.gh_model.specs.Memory.{HoldsRun, access_of, covering_access, held_access}
use Rattle.gh_model.specs.Memory.{holds_page, is_serial}
use Rattle.gh_model.specs.declared.memory.MapRow.{MapRow}
use Rattle.gh_model.specs.declared.memory.Span.{Span}
use Rattle.gh_pagetable.specs.Map.{IsOutside, Target, at}
use Rattle.gh_addrspace.proofs.PageLemmas.{in_run-tells}
use Rattle.gh_addrspace.proofs.RowLemmas.{any-push, find-filter, find-none, find-push, find-rows}
use Rattle.gh_addrspace.proofs.RowLemmas.{fold-followed, found-holds, found-passes, gone-filter}
use Rattle.gh_addrspace.proofs.RowLemmas.{hides-twice, left-filter, one-filter, one-push, uncovered}

-- what the row that covers a page gives there, by the rows with their machine pages
access-covering :
    (spans : ℕ → Option Span) (holders : List Serial) (ms : List Mapping) (v : ℕ)
    → access_of spans holders (map (λ m. m.row) ms) v ≡ covering_access spans holders v (option_map (λ m. m.row) (covering ms v))
access-covering spans holders ms v = ap (λ (o : Option MapRow). covering_access spans holders v o) (find-rows v ms)

-- the chosen rows are taken away, and their pages
module _
    (s : Space) (chosen : Chosen) (pages : List Target) (ok : IsSpace s)
    (hidden : (v : ℕ) → at pages v ≡ (if list_any (hides chosen v) s.mappings then None else at s.pages v))
    (size : length pages ≡ length s.pages) where
  abbrev stays : Mapping → Bool
  stays m = not (is_chosen chosen m)

  pub left-pages : (v : ℕ) → at pages v ≡ (if is_covered (others chosen s.mappings) v then at s.pages v else None)
  left-pages v =
      elim (cases_Bool (list_any (hides chosen v) s.mappings)) [
        | inl some ↦
            let gone = gone-filter (covers v) stays s.mappings (ok.apart v) (hides-twice chosen v s.mappings ∙ some) in
            let nowhere = rw some at (hidden v) in
            rw gone nowhere
        | inr none ↦
            let kept = rw none at (hidden v) in
            elim (cases_Bool (is_covered (others chosen s.mappings) v)) [
              | inl left ↦ rw left kept
              | inr bare ↦
                  let out = left-filter (covers v) stays s.mappings (hides-twice chosen v s.mappings ∙ none) bare in
                  rw bare (kept ∙ ok.bare v out)
            ]
      ]

  pub left-space : IsSpace (record { mappings = others chosen s.mappings; pages = pages })
  left-space = record {
    bounded = All-filter stays IsBounded s.mappings ok.bounded;
    apart = λ v. one-filter (covers v) stays s.mappings (ok.apart v);
    bare = λ v none. rw none at (left-pages v);
    size = size ∙ ok.size;
  }

  pub left-shows :
      (spans : ℕ → Option Span) (holders : List Serial) → Shows spans holders s
      → Shows spans holders (record { mappings = others chosen s.mappings; pages = pages })
  left-shows spans holders shows = record {
    named = All-filter stays (IsNamed spans) s.mappings shows.named;
    access = λ v.
        elim (cases_Bool (is_covered (others chosen s.mappings) v)) [
          | inl left ↦
              let same = find-filter (covers v) stays s.mappings (ok.apart v) left in
              let kept = rw left at (left-pages v) in
              let rows = ap (λ (o : Option Mapping). covering_access spans holders v (option_map (λ m. m.row) o)) same in
              kept ∙ shows.access v ∙ access-covering spans holders s.mappings v ∙ sym rows ∙ sym (access-covering spans holders (others chosen s.mappings) v)
          | inr bare ↦
              let none = find-none (covers v) (others chosen s.mappings) bare in
              let nowhere = rw bare at (left-pages v) in
              let rows = ap (λ (o : Option Mapping). covering_access spans holders v (option_map (λ m. m.row) o)) none in
              nowhere ∙ sym rows ∙ sym (access-covering spans holders (others chosen s.mappings) v)
        ];
  }

-- a row is put last, and its pages are shown
module _
    (s : Space) (m : Mapping) (holders : List Serial) (pages : List Target) (ok : IsSpace s)
    (bounded : IsBounded m) (free : list_any (overlaps m.row) s.mappings ≡ false)
    (shown : (v : ℕ) → at pages v ≡ (if covers v m then held_access holders m.row (page_at m v) else at s.pages v))
    (size : length pages ≡ length s.pages) where
  pub pushed-space : IsSpace (record { mappings = s.mappings ++ m ∷ []; pages = pages })
  pushed-space = record {
    bounded = All-push IsBounded s.mappings m ok.bounded bounded;
    apart = λ v. one-push (covers v) s.mappings m (ok.apart v) (uncovered m.row v s.mappings free);
    bare = λ v none.
        let parts = or_parts (is_covered s.mappings v) (covers v m) (sym (any-push (covers v) s.mappings m) ∙ none) in
        let kept = rw parts.1 at (shown v) in
        kept ∙ ok.bare v parts.0;
    size = size ∙ ok.size;
  }

  pub pushed-shows :
      (spans : ℕ → Option Span) (span : Span) → spans m.row.extent.0 ≡ Some span → m.page.0 ≡ span.first.0 + m.row.offset
      → Shows spans holders s → Shows spans holders (record { mappings = s.mappings ++ m ∷ []; pages = pages })
  pushed-shows spans span is place shows = record {
    named = All-push (IsNamed spans) s.mappings m shows.named (rw is place);
    access = λ v.
        let pushed = find-push (covers v) s.mappings m in
        let rows = access-covering spans holders (s.mappings ++ m ∷ []) v in
        elim (cases_Bool (covers v m)) [
          | inl covered ↦
              let out = uncovered m.row v s.mappings free covered in
              let found : covering (s.mappings ++ m ∷ []) v ≡ Some m = pushed ∙ rw (out, covered) refl in
              let here = rw covered at (shown v) in
              rw (rows, found, is, ← place) here
          | inr other ↦
              let kept = rw other at (shown v) in
              let found : covering (s.mappings ++ m ∷ []) v ≡ covering s.mappings v =
              pushed
              ∙ elim (cases_Bool (is_covered s.mappings v)) [
                | inl some ↦ rw some refl
                | inr none ↦ rw (none, other) (sym (find-none (covers v) s.mappings none))
              ] in
              kept ∙ shows.access v ∙ access-covering spans holders s.mappings v
              ∙ ap (λ (o : Option Mapping). covering_access spans holders v (option_map (λ n. n.row) o)) (sym found) ∙ sym rows
        ];
  }

-- numbers are compared either way
eqb-sym : (a b : ℕ) → (a == b) ≡ (b == a)
eqb-sym a b =
    elim (cases_eq a b) [
      | inl same ↦ eq-eqb a b same ∙ sym (eq-eqb b a (sym same))
      | inr other ↦ ne_eqb a b other ∙ sym (ne_eqb b a (λ same. other (sym same)))
    ]

length-moved :
    (first count : ℕ) (h : Serial) (hs : List Serial) → first + count ≤ length hs
    → length (move_pages first count h hs) ≡ length hs
length-moved first count h hs within = search (rules, places)

-- the holder of a page of a run that moved, and of any other
moved-in :
    (hs : List Serial) (first count page : ℕ) (to : Serial) → first + count ≤ length hs → first ≤ page → page < first + count
    → slice_get (move_pages first count to hs) page ≡ Some to
moved-in hs first count page to fits from below =
    slice_get-get_or (move_pages first count to hs) page to (omega (arith, length-moved first count to hs fits))
    ∙ ap (λ (h : Serial). Some h) (grind (arith, places))

moved-out :
    (hs : List Serial) (first count page : ℕ) (to : Serial) → first + count ≤ length hs → IsOutside first count page
    → slice_get (move_pages first count to hs) page ≡ slice_get hs page
moved-out hs first count page to fits out =
    let size = length-moved first count to hs fits in
    elim (cases_lt page (length hs)) [
      | inl within ↦
          slice_get-get_or (move_pages first count to hs) page to (omega arith)
          ∙ ap (λ (h : Serial). Some h) (grind (arith, places))
          ∙ sym (slice_get-get_or hs page to within)
      | inr past ↦ slice_get_past (move_pages first count to hs) page (omega arith) ∙ sym (slice_get_past hs page past)
    ]

-- the extent holds each page of a run that it holds
held-in :
    (hs : List Serial) (from first count page : ℕ) → HoldsRun hs from first count → first ≤ page → page < first + count
    → (extent : ℕ) → holds_page hs extent page ≡ (from == extent)
held-in hs from first count page run low high extent =
    let d : Serial = record { 0 = 0 } in
    let held = take count (drop first hs) in
    let k = page - first in
    let fits = run.within in
    let place : first + k ≡ page = omega arith in
    let size : length held ≡ count = length-take-le count (drop first hs) (omega (arith, length-drop first hs)) in
    let there = get_or-take count (drop first hs) k d (omega arith) ∙ get_or-drop first hs k d ∙ ap (λ n. get_or hs n d) place in
    let its : is_serial from (get_or held k d) ≡ true =
    true_from_ne_false _ (λ other. true≢false (sym run.held ∙ list_all_at (is_serial from) held k d (omega arith) other)) in
    let same = eqb-true _ _ (rw there at its) in
    let found = slice_get-get_or hs page d (omega arith) in
    rw (found, same)

-- pages that moved are followed
module _
    (s : Space) (from to : Serial) (first count : ℕ) (pages : List Target) (ok : IsSpace s)
    (went : (v : ℕ) → at pages v ≡ fold (follows from.0 to.0 first count v) (at s.pages v) s.mappings)
    (size : length pages ≡ length s.pages) where
  pub followed-pages : (v : ℕ) → at pages v ≡ followed_by from.0 to.0 first count v (covering s.mappings v) (at s.pages v)
  followed-pages v = went v ∙ fold-followed from.0 to.0 first count v s.mappings (at s.pages v) (ok.apart v)

  pub followed-space : IsSpace (record { mappings = s.mappings; pages = pages })
  followed-space = record {
    bounded = ok.bounded;
    apart = ok.apart;
    bare = λ v none.
        let out = find-none (covers v) s.mappings none in
        let kept = rw out at (followed-pages v) in
        kept ∙ ok.bare v none;
    size = size ∙ ok.size;
  }

  -- at a page that a row covers
  covered-shows :
      (spans : ℕ → Option Span) (hs : List Serial) (run : HoldsRun hs from.0 first count) (v : ℕ) (m : Mapping) (span : Span)
      → covers v m ≡ true → spans m.row.extent.0 ≡ Some span → m.page.0 ≡ span.first.0 + m.row.offset
      → at s.pages v ≡ held_access hs m.row (page_at m v)
      → followed from.0 to.0 first count v m (at s.pages v) ≡ held_access (move_pages first count to hs) m.row (page_at m v)
  covered-shows spans hs run v m span covered is place old =
      let page = page_at m v in
      elim (in_run-tells first count page) [
        | inr out ↦
            let same = moved-out hs first count page to run.within out.1 in
            rw (covered, out.0, same) old
        | inl here ↦
            let holder = moved-in hs first count page to run.within here.1.0 here.1.1 in
            let before = held-in hs from.0 first count page run here.1.0 here.1.1 m.row.extent.0 in
            elim (cases_Bool (m.row.extent.0 == to.0)) [
              | inl its ↦ rw (covered, here.0, its, holder, eqb-sym to.0 m.row.extent.0, its) refl
              | inr not_its ↦
                  elim (cases_Bool (m.row.extent.0 == from.0)) [
                    | inl left ↦ rw (covered, here.0, not_its, left, holder, eqb-sym to.0 m.row.extent.0, not_its) refl
                    | inr other ↦
                        let nowhere = rw (before, eqb-sym from.0 m.row.extent.0, other) at old in
                        rw (covered, here.0, not_its, other, holder, eqb-sym to.0 m.row.extent.0, not_its) nowhere
                  ]
            ]
      ]

  pub followed-shows :
      (spans : ℕ → Option Span) (hs : List Serial) → Shows spans hs s → HoldsRun hs from.0 first count
      → Shows spans (move_pages first count to hs) (record { mappings = s.mappings; pages = pages })
  followed-shows spans hs shows run = record {
    named = shows.named;
    access = λ v.
        let ms = s.mappings in
        let hs' = move_pages first count to hs in
        let old = shows.access v ∙ access-covering spans hs ms v in
        let new = access-covering spans hs' ms v in
        elim (covering ms v) as (λ o. covering ms v ≡ o → at pages v ≡ access_of spans hs' (map (λ m. m.row) ms) v) [
          | None ↦ λ none.
              let stayed = rw none at (followed-pages v) in
              let nowhere = rw none at old in
              rw (new, none) (stayed ∙ nowhere)
          | Some m ↦ λ found.
              let covered = found-passes (covers v) ms m found in
              let named = found-holds (IsNamed spans) (covers v) ms m shows.named found in
              elim (spans m.row.extent.0) as (λ o. spans m.row.extent.0 ≡ o → IsSomeAnd o (λ span. m.page.0 ≡ span.first.0 + m.row.offset)
              → at pages v ≡ access_of spans hs' (map (λ n. n.row) ms) v) [
                | None ↦ λ is no. absurd no
                | Some span ↦ λ is place.
                    let before = rw (found, is, ← place) at old in
                    let went = rw found at (followed-pages v) in
                    let after = covered-shows spans hs run v m span covered is place before in
                    rw (new, found, is, ← place) (went ∙ after)
              ] refl named
        ] refl;
  }

-- two machine pages that the same span and offset name are one
same_place :
    (o : Option Span) (p q offset : ℕ) → IsSomeAnd o (λ span. p ≡ span.first.0 + offset)
    → IsSomeAnd o (λ span. q ≡ span.first.0 + offset) → p ≡ q
same_place None p q offset a b = absurd a
same_place (Some span) p q offset a b = a ∙ sym b

-- the machine page of a row is that which the spans name
same_mapping :
    (spans : ℕ → Option Span) (m n : Mapping) → IsNamed spans m → IsNamed spans n → m.row ≡ n.row → m ≡ n
same_mapping spans m n a b same =
    let place = same_place (spans n.row.extent.0) m.page.0 n.page.0 n.row.offset (rw same at a) b in
    let of : MapRow → ℕ → Mapping = λ row page. record { row = row; page = record { 0 = page } } in
    ap (λ row. of row m.page.0) same ∙ ap (λ page. of n.row page) place

pub same_mappings :
    (spans : ℕ → Option Span) (ms ns : List Mapping) → All (IsNamed spans) ms → All (IsNamed spans) ns
    → map (λ m. m.row) ms ≡ map (λ m. m.row) ns → ms ≡ ns
same_mappings spans [] [] a b same = refl
same_mappings spans [] (n ∷ ns) a b same = absurd (cc)
same_mappings spans (m ∷ ms) [] a b same = absurd (cc)
same_mappings spans (m ∷ ms) (n ∷ ns) a b same =
    let row = ap (λ (rows : List MapRow). get_or rows 0 m.row) same in
    let rest = ap (λ (rows : List MapRow). drop 1 rows) same in
    let first = same_mapping spans m n (a 0 m (omega arith)) (b 0 n (omega arith)) row in
    let others = same_mappings spans ms ns (λ k d within. a (suc k) d (omega arith)) (λ k d within. b (suc k) d (omega arith)) rest in
    ap (λ x. x ∷ ms) first ∙ ap (λ xs. n ∷ xs) others
