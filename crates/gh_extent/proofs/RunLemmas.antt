-- Runs of pages: where they end, and what lies before and behind a page.
use Rattle.std.proofs.Common.{◌≡◌, not, ℕ, zero, suc, ◌+◌, ◌-◌, ◌<◌, ◌≤◌}
use Rattle.std.proofs.Common.{inl, inr, true, false, List, [], ◌∷◌, ◌++◌}
use Rattle.std.proofs.Common.{length, take, drop, get_or, replicate, slice_get, nat_le, Bool, Some}
use Rattle.std.proofs.Common.{refl, sym, ap, ◌∙◌, arith, rules, one-add, add-one}
use Rattle.std.specs.List.{insert, list_all, remove, prefix_len, position_or_len}
use Rattle.std.specs.List.Sorted.{IsNonDecreasingBy, IsPartitionPoint}
use Rattle.std.proofs.Math.Seq.{drop-append-add}
use Rattle.std.proofs.lemmas.Bool.{cases_lt, eq-eqb, le-leb, leb-false, lt-leb}
use Rattle.std.proofs.lemmas.List.{append_assoc, drop-drop, length-take-le, length-drop}
use Rattle.std.proofs.lemmas.List.{places, drop-append-le, drop-replicate, length-append}
use Rattle.std.proofs.lemmas.List.{length-replicate, replicate-append-replicate}
use Rattle.std.proofs.lemmas.List.{take-append-drop, drop_all, take_at}
use Rattle.std.proofs.lemmas.List.{get_or_append_left, get_or-append_right, get_or-replicate}
use Rattle.std.proofs.lemmas.List.Edits.{length-insert}
use Rattle.std.proofs.lemmas.List.Folds.{prefix_len-append, prefix_len-replicate}
use Rattle.std.proofs.lemmas.Option.{slice_get-get_or}
use Rattle.std.proofs.lemmas.List.Folds.{prefix_len-append, prefix_len-replicate}
use Rattle.std.proofs.lemmas.Option.{slice_get-get_or}
use Rattle.std.proofs.lemmas.List.Sums.{prefix_len_is, prefix_len-le-length, prefix_len_stops}
use Rattle.gh_base.specs.declared.ids.Serial.{Serial}
use Rattle.gh_extent.specs.declared.run_list.Run.{Run}
use Rattle.gh_model.specs.Boot.{move_pages}
use Rattle.gh_model.specs.Memory.{HoldsRun, is_serial}
use Rattle.gh_extent.specs.Runs.{Rising, end_of, ends_by, spread}

-- each run ends behind where the runs begin
ends_behind : (rs : List Run) (a j : ℕ) (d : Run) → Rising a rs → j < length rs → a < (get_or rs j d).end
unfolding Rising
ends_behind [] a j d rise within = absurd (omega arith)
ends_behind (r ∷ rs) a zero d rise within = rise.0
ends_behind (r ∷ rs) a (suc j) d rise within = omega (arith, rise.0, ends_behind rs r.end j d rise.1 (omega arith))

-- the ends of the runs rise
pub IsNonDecreasingBy-ends : (rs : List Run) (a : ℕ) → Rising a rs → IsNonDecreasingBy (λ (r : Run). r.end) rs
unfolding Rising
IsNonDecreasingBy-ends [] a rise i j d ordered within = absurd (omega arith)
IsNonDecreasingBy-ends (r ∷ rs) a rise zero zero d ordered within = omega arith
IsNonDecreasingBy-ends (r ∷ rs) a rise zero (suc j) d ordered within = omega (arith, ends_behind rs r.end j d rise.1 (omega arith))
IsNonDecreasingBy-ends (r ∷ rs) a rise (suc i) zero d ordered within = absurd (omega arith)
IsNonDecreasingBy-ends (r ∷ rs) a rise (suc i) (suc j) d ordered within =
    IsNonDecreasingBy-ends rs r.end rise.1 i j d (omega arith) (omega arith)

-- the place of a page's run is where a binary search ends
pub place-partition_point :
    (p : ℕ) (rs : List Run) (at : ℕ) (d : Run) → at ≤ length rs
    → IsPartitionPoint (λ r. ends_by p r ≡ true) (λ r. ends_by p r ≡ false) rs at
    → at ≡ prefix_len (ends_by p) rs
place-partition_point p rs at d bound point =
    sym (prefix_len_is (ends_by p) rs at d bound
    (λ k before. point.0 k d (omega arith) before)
    (λ within. point.1 at d (omega arith) within))

pub end_of-append : (xs ys : List Run) (a : ℕ) → end_of a (xs ++ ys) ≡ end_of (end_of a xs) ys
unfolding end_of
end_of-append [] ys a = refl
end_of-append (x ∷ xs) ys a = end_of-append xs ys x.end

pub spread-append : (xs ys : List Run) (a : ℕ) → spread a (xs ++ ys) ≡ spread a xs ++ spread (end_of a xs) ys
unfolding spread end_of
spread-append [] ys a = refl
spread-append (x ∷ xs) ys a =
    ap (λ (s : List Serial). replicate (x.end - a) x.holder ++ s) (spread-append xs ys x.end)
    ∙ sym (append_assoc (replicate (x.end - a) x.holder) (spread x.end xs) (spread (end_of x.end xs) ys))

-- the pages of the runs are those from the first up to the end
pub length-spread : (rs : List Run) (a : ℕ) → Rising a rs → a + length (spread a rs) ≡ end_of a rs
unfolding spread end_of Rising
length-spread [] a rise = omega arith
length-spread (r ∷ rs) a rise =
    let rest = length-spread rs r.end rise.1 in
    let size = length-append (replicate (r.end - a) r.holder) (spread r.end rs) in
    let first = length-replicate (r.end - a) r.holder in
    omega (arith, rise.0)

-- there are no more runs than pages
pub length-runs : (rs : List Run) (a : ℕ) → Rising a rs → length rs ≤ length (spread a rs)
unfolding spread Rising
length-runs [] a rise = omega arith
length-runs (r ∷ rs) a rise =
    let rest = length-runs rs r.end rise.1 in
    let size = length-append (replicate (r.end - a) r.holder) (spread r.end rs) in
    let first = length-replicate (r.end - a) r.holder in
    omega (arith, rise.0)

pub Rising-append : (xs ys : List Run) (a : ℕ) → Rising a xs → Rising (end_of a xs) ys → Rising a (xs ++ ys)
unfolding end_of Rising
Rising-append [] ys a rise later = later
Rising-append (x ∷ xs) ys a rise later = (rise.0, Rising-append xs ys x.end rise.1 later)

pub Rising-take : (rs : List Run) (k a : ℕ) → Rising a rs → Rising a (take k rs)
unfolding Rising
Rising-take rs zero a rise = tt
Rising-take [] (suc k) a rise = tt
Rising-take (r ∷ rs) (suc k) a rise = (rise.0, Rising-take rs k r.end rise.1)

pub Rising-drop : (rs : List Run) (k a : ℕ) → Rising a rs → Rising (end_of a (take k rs)) (drop k rs)
unfolding Rising end_of
Rising-drop rs zero a rise = rise
Rising-drop [] (suc k) a rise = tt
Rising-drop (r ∷ rs) (suc k) a rise = Rising-drop rs k r.end rise.1

-- the runs behind a page rise from there
pub Rising-from : (rs : List Run) (a p : ℕ) → Rising a rs → Rising p (drop (prefix_len (ends_by p) rs) rs)
unfolding Rising
Rising-from [] a p rise = tt
Rising-from (r ∷ rs) a p rise =
    elim (cases_lt p r.end) [
      | inl inside ↦ rw (lt-leb r.end p inside) (inside, rise.1)
      | inr past ↦ rw (le-leb r.end p past, one-add) (Rising-from rs r.end p rise.1)
    ]

-- the runs before that of a page end at or before the page
pub ends_before : (rs : List Run) (a p : ℕ) → a ≤ p → end_of a (take (prefix_len (ends_by p) rs) rs) ≤ p
unfolding end_of
ends_before [] a p from = from
ends_before (r ∷ rs) a p from =
    elim (cases_lt p r.end) [
      | inl inside ↦ rw (lt-leb r.end p inside) from
      | inr past ↦ rw (le-leb r.end p past, one-add) (ends_before rs r.end p past)
    ]

-- what lies from a page on: its run from there, and those behind
pub spread-from :
    (rs : List Run) (a n p : ℕ) → Rising a rs → p ≡ a + n → n ≤ length (spread a rs)
    → drop n (spread a rs) ≡ spread p (drop (prefix_len (ends_by p) rs) rs)
unfolding spread Rising
spread-from [] a zero p rise place within = refl
spread-from [] a (suc n) p rise place within = refl
spread-from (r ∷ rs) a n p rise place within =
    let pages = replicate (r.end - a) r.holder in
    let later = spread r.end rs in
    let size : length pages ≡ r.end - a = length-replicate (r.end - a) r.holder in
    elim (cases_lt p r.end) [
      | inl inside ↦
          let head : n ≤ length pages = omega (arith, rise.0) in
          let rest : (r.end - a) - n ≡ r.end - p = omega arith in
          let cut = drop-append-le n pages later head in
          let left = drop-replicate n (r.end - a) r.holder ∙ ap (λ m. replicate m r.holder) rest in
          rw (lt-leb r.end p inside) (cut ∙ ap (λ (s : List Serial). s ++ later) left)
      | inr past ↦
          let whole : n ≡ length pages + (n - (r.end - a)) = omega (arith, rise.0) in
          let skipped = ap (λ m. drop m (pages ++ later)) whole ∙ drop-append-add pages later (n - (r.end - a)) in
          let both = length-append pages later in
          let behind = spread-from rs r.end (n - (r.end - a)) p rise.1 (omega (arith, rise.0)) (omega arith) in
          rw (le-leb r.end p past, one-add) (skipped ∙ behind)
    ]

-- the end of the runs up to one is that one's
pub end_of-take : (rs : List Run) (a k : ℕ) (d : Run) → k < length rs → end_of a (take (suc k) rs) ≡ (get_or rs k d).end
unfolding end_of
end_of-take [] a k d within = absurd (omega arith)
end_of-take (r ∷ rs) a zero d within = refl
end_of-take (r ∷ rs) a (suc k) d within = end_of-take rs r.end k d (omega arith)

-- there is a run for each page
pub place-within :
    (rs : List Run) (a n p : ℕ) → Rising a rs → p ≡ a + n → n < length (spread a rs) → prefix_len (ends_by p) rs < length rs
unfolding spread Rising
place-within [] a n p rise place within = absurd (omega arith)
place-within (r ∷ rs) a n p rise place within =
    elim (cases_lt p r.end) [
      | inl inside ↦ rw (lt-leb r.end p inside) (omega arith)
      | inr past ↦
          let size = length-append (replicate (r.end - a) r.holder) (spread r.end rs) in
          let first = length-replicate (r.end - a) r.holder in
          let behind = place-within rs r.end (n - (r.end - a)) p rise.1 (omega (arith, rise.0)) (omega (arith, rise.0)) in
          rw (le-leb r.end p past, one-add) (omega arith)
    ]

-- a page's holder is that of its run
holder-get_or :
    (rs : List Run) (a n p : ℕ) (d : Run) (e : Serial) → Rising a rs → p ≡ a + n → n < length (spread a rs)
    → get_or (spread a rs) n e ≡ (get_or rs (prefix_len (ends_by p) rs) d).holder
unfolding spread Rising
holder-get_or [] a n p d e rise place within = absurd (omega arith)
holder-get_or (r ∷ rs) a n p d e rise place within =
    let pages = replicate (r.end - a) r.holder in
    let later = spread r.end rs in
    let size : length pages ≡ r.end - a = length-replicate (r.end - a) r.holder in
    let both = length-append pages later in
    elim (cases_lt p r.end) [
      | inl inside ↦
          rw (lt-leb r.end p inside)
          (get_or_append_left pages later e n (omega (arith, rise.0)) ∙ get_or-replicate (r.end - a) n r.holder e (omega (arith, rise.0)))
      | inr past ↦
          let behind = get_or-append_right pages later (r.end - a) n e size (omega (arith, rise.0)) in
          let rest = holder-get_or rs r.end (n - (r.end - a)) p d e rise.1 (omega (arith, rise.0)) (omega (arith, rise.0)) in
          rw (le-leb r.end p past, one-add) (behind ∙ rest)
    ]

pub holder_at :
    (rs : List Run) (a n p : ℕ) (d : Run) → Rising a rs → p ≡ a + n → n < length (spread a rs)
    → slice_get (spread a rs) n ≡ Some (get_or rs (prefix_len (ends_by p) rs) d).holder
holder_at rs a n p d rise place within =
    slice_get-get_or (spread a rs) n d.holder within
    ∙ ap (λ (s : Serial). Some s) (holder-get_or rs a n p d d.holder rise place within)

-- a run in two parts holds the same pages
spread-two :
    (r : Run) (rs : List Run) (a p : ℕ) → a ≤ p → p ≤ r.end
    → replicate (p - a) r.holder ++ (replicate (r.end - p) r.holder ++ spread r.end rs) ≡ replicate (r.end - a) r.holder ++ spread r.end rs
spread-two r rs a p from to =
    let both = replicate-append-replicate (p - a) (r.end - p) r.holder in
    let whole : (p - a) + (r.end - p) ≡ r.end - a = omega arith in
    sym (append_assoc (replicate (p - a) r.holder) (replicate (r.end - p) r.holder) (spread r.end rs))
    ∙ ap (λ (s : List Serial). s ++ spread r.end rs) (both ∙ ap (λ m. replicate m r.holder) whole)

-- the first part of a run up to a page
abbrev pub part_to : ℕ → Run → Run
part_to p r = record { end = p; holder = r.holder }

-- to part a run changes no page's holder
pub spread-part :
    (rs : List Run) (a at p : ℕ) (d : Run) → at < length rs
    → end_of a (take at rs) ≤ p → p ≤ (get_or rs at d).end
    → spread a (insert rs at (part_to p (get_or rs at d))) ≡ spread a rs
unfolding spread end_of
spread-part [] a at p d within from to = absurd (omega arith)
spread-part (r ∷ rs) a zero p d within from to = spread-two r rs a p from to
spread-part (r ∷ rs) a (suc at) p d within from to =
    ap (λ (s : List Serial). replicate (r.end - a) r.holder ++ s) (spread-part rs r.end at p d (omega arith) from to)

pub Rising-part :
    (rs : List Run) (a at p : ℕ) (d : Run) → Rising a rs → at < length rs
    → end_of a (take at rs) < p → p < (get_or rs at d).end
    → Rising a (insert rs at (part_to p (get_or rs at d)))
unfolding Rising end_of
Rising-part [] a at p d rise within from to = absurd (omega arith)
Rising-part (r ∷ rs) a zero p d rise within from to = (from, (to, rise.1))
Rising-part (r ∷ rs) a (suc at) p d rise within from to =
    (rise.0, Rising-part rs r.end at p d rise.1 (omega arith) from to)

-- one more run ends by the page
pub place-insert :
    {X : Type 0} (q : X → Bool) (xs : List X) (x : X) → q x ≡ true
    → prefix_len q (insert xs (prefix_len q xs) x) ≡ prefix_len q xs + 1
place-insert q [] x passes = rw passes refl
place-insert q (y ∷ xs) x passes =
    elim (q y) as (λ b. q y ≡ b → prefix_len q (insert (y ∷ xs) (prefix_len q (y ∷ xs)) x) ≡ prefix_len q (y ∷ xs) + 1) [
      | true ↦ λ is. rw (is, one-add, is) (omega (arith, place-insert q xs x passes))
      | false ↦ λ is. rw (is, passes, is) refl
    ] refl

pub end_of-insert :
    (rs : List Run) (a at : ℕ) (x : Run) → at ≤ length rs → end_of a (take (suc at) (insert rs at x)) ≡ x.end
unfolding end_of
end_of-insert rs a zero x within = refl
end_of-insert [] a (suc at) x within = absurd (omega arith)
end_of-insert (r ∷ rs) a (suc at) x within = end_of-insert rs r.end at x (omega arith)

-- two runs of one holder are one
pub spread-join :
    (rs : List Run) (a at : ℕ) (d : Run) → Rising a rs → at + 1 < length rs
    → (get_or rs at d).holder ≡ (get_or rs (suc at) d).holder
    → spread a (remove rs at) ≡ spread a rs
unfolding spread Rising
spread-join [] a at d rise within same = absurd (omega arith)
spread-join (r ∷ []) a at d rise within same = absurd (omega arith)
spread-join (r ∷ q ∷ rs) a zero d rise within same =
    rw same (sym (spread-two q rs a r.end (omega (arith, rise.0)) (omega (arith, rise.1.0))))
spread-join (r ∷ q ∷ rs) a (suc at) d rise within same =
    ap (λ (s : List Serial). replicate (r.end - a) r.holder ++ s) (spread-join (q ∷ rs) r.end at d rise.1 (omega arith) same)

pub Rising-join : (rs : List Run) (a at : ℕ) → Rising a rs → Rising a (remove rs at)
unfolding Rising
Rising-join [] a zero rise = tt
Rising-join [] a (suc at) rise = tt
Rising-join (r ∷ []) a zero rise = tt
Rising-join (r ∷ q ∷ rs) a zero rise = (omega (arith, rise.0, rise.1.0), rise.1.1)
Rising-join (r ∷ rs) a (suc at) rise = (rise.0, Rising-join rs r.end at rise.1)

-- a later page's run stands no earlier
pub place-le : (rs : List Run) (p q : ℕ) → p ≤ q → prefix_len (ends_by p) rs ≤ prefix_len (ends_by q) rs
place-le [] p q order = omega arith
place-le (r ∷ rs) p q order =
    elim (cases_lt p r.end) [
      | inl inside ↦ rw (lt-leb r.end p inside) (omega arith)
      | inr past ↦ rw (le-leb r.end p past, le-leb r.end q (omega arith)) (omega (arith, place-le rs p q order))
    ]

-- the runs once those of some pages are one run of another holder
module _
    (rs : List Run) (first count : ℕ) (to : Run) (rise : Rising 0 rs)
    (begins : end_of 0 (take (prefix_len (ends_by first) rs) rs) ≡ first)
    (ends : first + count ≡ to.end) (some : 0 < count) (within : to.end ≤ length (spread 0 rs)) where
  abbrev before : List Run
  before = take (prefix_len (ends_by first) rs) rs

  abbrev behind : List Run
  behind = drop (prefix_len (ends_by to.end) rs) rs

  pub Rising-give : Rising 0 (take (prefix_len (ends_by first) rs) rs ++ to ∷ drop (prefix_len (ends_by to.end) rs) rs)
  unfolding Rising
  Rising-give =
      Rising-append before (to ∷ behind) 0 (Rising-take rs (prefix_len (ends_by first) rs) 0 rise)
      (rw begins (omega arith, Rising-from rs 0 to.end rise))

  pub spread-give :
      spread 0 (take (prefix_len (ends_by first) rs) rs ++ to ∷ drop (prefix_len (ends_by to.end) rs) rs)
      ≡ take first (spread 0 rs) ++ (replicate count to.holder ++ drop (first + count) (spread 0 rs))
  unfolding spread
  spread-give =
      let k = prefix_len (ends_by first) rs in
      let parts = spread-append before (to ∷ behind) 0 in
      let split = ap (spread 0) (sym (take-append-drop k rs)) ∙ spread-append before (drop k rs) 0 in
      let size : length (spread 0 before) ≡ first = omega (arith, length-spread before 0 (Rising-take rs k 0 rise), begins) in
      let head = ap (take first) split ∙ take_at (spread 0 before) (spread (end_of 0 before) (drop k rs)) first size in
      let tail = spread-from rs 0 to.end to.end rise (omega arith) within in
      let wide : to.end - first ≡ count = omega arith in
      rw (ends, tail, head) (parts ∙ rw (begins, wide))

-- the pages of a first run that passes
pub prefix_len-passes :
    (q : Serial → Bool) (r : Run) (rs : List Run) (a : ℕ) → a < r.end → q r.holder ≡ true
    → prefix_len q (spread a (r ∷ rs)) ≡ (r.end - a) + prefix_len q (spread r.end rs)
unfolding spread
prefix_len-passes q r rs a some passes =
    let pages = r.end - a in
    let all = prefix_len-replicate q pages r.holder passes in
    let size : length (replicate pages r.holder) ≡ pages = length-replicate pages r.holder in
    prefix_len-append q (replicate pages r.holder) (spread r.end rs) ∙ rw (all, size, eq-eqb pages pages refl) refl

-- the pages of a first run that doesn't pass
pub prefix_len-stops :
    (q : Serial → Bool) (r : Run) (rs : List Run) (a : ℕ) → a < r.end → q r.holder ≡ false
    → prefix_len q (spread a (r ∷ rs)) ≡ 0
unfolding spread
prefix_len-stops q r rs a some stops =
    let pages : r.end - a ≡ suc (r.end - a - 1) = omega arith in
    rw (pages, stops) refl

-- the run of a page is parted there, where it begins before the page
module _
    (rs : List Run) (at p : ℕ) (d : Run) (rise : Rising 0 rs) (place : at ≡ prefix_len (ends_by p) rs)
    (read : d ≡ get_or rs at d) (within : p < length (spread 0 rs))
    (inside : end_of 0 (take at rs) ≡ p → ⊥) where
  pub parted-there : at < length rs
  parted-there = rw place (place-within rs 0 p p rise (omega arith) within)

  parted-from : end_of 0 (take at rs) < p
  parted-from = omega (arith, inside, rw (← place) at (ends_before rs 0 p (omega arith)))

  parted-to : p < (get_or rs at d).end
  parted-to =
      let there : prefix_len (ends_by p) rs < length rs = rw (← place) parted-there in
      leb-false (get_or rs at d).end p (rw (← place) at (prefix_len_stops (ends_by p) rs d there))

  pub parted-same : spread 0 (insert rs at (part_to p d)) ≡ spread 0 rs
  parted-same =
      let same = spread-part rs 0 at p d parted-there (omega (arith, parted-from)) (omega (arith, parted-to)) in
      rw (← read) at same

  pub parted-order : Rising 0 (insert rs at (part_to p d))
  parted-order =
      let order = Rising-part rs 0 at p d rise parted-there parted-from parted-to in
      rw (← read) at order

  pub parted-room : length rs < length (spread 0 rs)
  parted-room =
      omega (
        arith,
        length-runs (insert rs at (part_to p d)) 0 parted-order,
        ap length parted-same,
        length-insert rs at (part_to p d) (omega (arith, parted-there)),
      )

  pub parted-place : at + 1 ≡ prefix_len (ends_by p) (insert rs at (part_to p d))
  parted-place = rw place (sym (place-insert (ends_by p) rs (part_to p d) (le-leb p p (omega arith))))

  pub parted-begins : end_of 0 (take (at + 1) (insert rs at (part_to p d))) ≡ p
  parted-begins = rw add-one (end_of-insert rs 0 at (part_to p d) (omega (arith, parted-there)))

-- serials of one number are one
pub same_serial : (a b : Serial) → a.0 ≡ b.0 → a ≡ b
same_serial a b same = let of : ℕ → Serial = λ n. record { 0 = n } in ap of same

pub length-first :
    (r : Run) (rs : List Run) (first : ℕ) → length (spread first (r ∷ rs)) ≡ (r.end - first) + length (spread r.end rs)
unfolding spread
length-first r rs first =
    length-append (replicate (r.end - first) r.holder) (spread r.end rs) ∙ rw (length-replicate (r.end - first) r.holder) refl

-- a run of the wanted holder ends a search, and any other is passed over
pub position-stops :
    (q : Serial → Bool) (r : Run) (rs : List Run) (first : ℕ) → first < r.end → q r.holder ≡ true
    → position_or_len q (spread first (r ∷ rs)) ≡ 0
position-stops q r rs first some is = prefix_len-stops (λ s. not (q s)) r rs first some (rw is refl)

pub position-passes :
    (q : Serial → Bool) (r : Run) (rs : List Run) (first : ℕ) → first < r.end → q r.holder ≡ false
    → position_or_len q (spread first (r ∷ rs)) ≡ (r.end - first) + position_or_len q (spread r.end rs)
position-passes q r rs first some is = prefix_len-passes (λ s. not (q s)) r rs first some (rw is refl)

-- the pages of no run
pub spread-none : (rs : List Run) (first i : ℕ) → length rs ≤ i → spread first (drop i rs) ≡ []
unfolding spread
spread-none rs first i past = rw (drop_all i rs past) refl

pub rising_first : (r : Run) (rs : List Run) (first : ℕ) → Rising first (r ∷ rs) → first < r.end
unfolding Rising
rising_first r rs first rise = rise.0

pub rising_rest : (r : Run) (rs : List Run) (first : ℕ) → Rising first (r ∷ rs) → Rising r.end rs
unfolding Rising
rising_rest r rs first rise = rise.1

-- one more run between two places is removed
pub remove-between :
    (rs : List Run) (from k : ℕ) → from ≤ k → k < length rs
    → remove (take from rs ++ drop k rs) from ≡ take from rs ++ drop (k + 1) rs
remove-between rs from k order within =
    let front = take from rs in
    let back = drop k rs in
    let size : length front ≡ from = length-take-le from rs (omega arith) in
    let next : suc from ≡ length front + 1 = omega arith in
    let head = take_at front back from size in
    let tail = ap (λ (n : ℕ). drop n (front ++ back)) next ∙ drop-append-add front back 1 ∙ drop-drop 1 k rs in
    rw (head, tail)

-- a test of two numbers is that of the next two
leb-next : (a b : ℕ) → nat_le (suc a) (1 + b) ≡ nat_le a b
leb-next a b =
    elim (cases_lt b a) [
      | inl less ↦ lt-leb (suc a) (1 + b) (omega arith) ∙ sym (lt-leb a b less)
      | inr other ↦ le-leb (suc a) (1 + b) (omega arith) ∙ sym (le-leb a b other)
    ]

-- the first pages all pass where as many pass from the front
pub list_all-take :
    (q : Serial → Bool) (xs : List Serial) (n : ℕ) → n ≤ length xs → nat_le n (prefix_len q xs) ≡ list_all q (take n xs)
list_all-take q xs zero within = le-leb 0 (prefix_len q xs) (omega arith)
list_all-take q [] (suc n) within = absurd (omega arith)
list_all-take q (x ∷ xs) (suc n) within =
    elim (q x) as (λ b. q x ≡ b → nat_le (suc n) (prefix_len q (x ∷ xs)) ≡ list_all q (take (suc n) (x ∷ xs))) [
      | true ↦ λ is. rw (is, leb-next) (list_all-take q xs n (omega arith))
      | false ↦ λ is. rw is (lt-leb (suc n) 0 (omega arith))
    ] refl

-- a page is the first of those that its holder holds without a gap
pub run_some : (holders : List Serial) (page : ℕ) (holder : Serial) → slice_get holders page ≡ Some holder
    → 0 < prefix_len (is_serial holder.0) (drop page holders)
run_some [] zero holder is = absurd (cc)
run_some [] (suc page) holder is = absurd (cc)
run_some (h ∷ holders) zero holder is =
    let same : h ≡ holder = cc in
    rw (same, eq-eqb holder.0 holder.0 refl) (omega arith)
run_some (h ∷ holders) (suc page) holder is = run_some holders page holder is

-- and it holds each of these
pub run_held : (holders : List Serial) (holder page count : ℕ) → page + count ≤ length holders
    → count ≤ prefix_len (is_serial holder) (drop page holders) → HoldsRun holders holder page count
run_held holders holder page count within held = record {
  within = within;
  held =
      sym (list_all-take (is_serial holder) (drop page holders) count (omega (arith, length-drop page holders, within)))
      ∙ le-leb count (prefix_len (is_serial holder) (drop page holders)) held;
}

-- a run in the place of others lies within as many pages
pub length-give :
    (rs : List Run) (from to : ℕ) (r : Run) → from ≤ to → to ≤ length rs
    → length (take from rs ++ r ∷ drop to rs) + to ≡ from + 1 + length rs
length-give rs from to r order within =
    let all = length-append (take from rs) (r ∷ drop to rs) in
    let head = length-take-le from rs (omega arith) in
    let tail = length-drop to rs in
    omega arith

pub length-moved :
    (first count : ℕ) (h : Serial) (hs : List Serial) → first + count ≤ length hs
    → length (move_pages first count h hs) ≡ length hs
length-moved first count h hs within = search (rules, places)

-- the runs once those of the pages from the first up to the end are one run
module _
    (rs : List Run) (first end from to : ℕ) (h : Serial) (rise : Rising 0 rs)
    (at_first : from ≡ prefix_len (ends_by first) rs) (at_end : to ≡ prefix_len (ends_by end) rs)
    (begins : end_of 0 (take from rs) ≡ first) (some : first < end) (within : end ≤ length (spread 0 rs)) where
  abbrev given : List Run
  given = take from rs ++ record { end = end; holder = h } ∷ drop to rs

  pub given-order : Rising 0 (take from rs ++ record { end = end; holder = h } ∷ drop to rs)
  given-order =
      rw (at_first, at_end)
      (Rising-give rs first (end - first) (record { end = end; holder = h }) rise (rw at_first at begins) (omega arith) (omega arith) within)

  pub given-pages : spread 0 (take from rs ++ record { end = end; holder = h } ∷ drop to rs) ≡ move_pages first (end - first) h (spread 0 rs)
  given-pages =
      rw (at_first, at_end, append_assoc)
      (spread-give rs first (end - first) (record { end = end; holder = h }) rise (rw at_first at begins) (omega arith) (omega arith) within)

  pub given-places : from ≤ to
  given-places = omega (arith, at_first, at_end, place-le rs first end (omega arith))

  pub given-room : from + length rs < to + length (spread 0 rs)
  given-room =
      let fits : to ≤ length rs = rw at_end (prefix_len-le-length (ends_by end) rs) in
      let size = length-give rs from to (record { end = end; holder = h }) given-places fits in
      let few = length-runs given 0 given-order in
      let pages = ap length given-pages ∙ length-moved first (end - first) h (spread 0 rs) (omega arith) in
      omega arith
