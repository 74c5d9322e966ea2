-- Where each page leads once a run is set.
use Rattle.std.proofs.Common.{◌≡◌, ℕ, ◌+◌, ◌-◌, ◌<◌, ◌≤◌, ◌==◌}
use Rattle.std.proofs.Common.{◌⊎◌, inl, inr, true, false, ◌&&◌, List, Some}
use Rattle.std.proofs.Common.{None, min, max, if◌then◌else◌, refl, sym, ap, ◌∙◌, arith}
use Rattle.std.proofs.lemmas.Bool.{and_from, and_left, and_right, cases_eq}
use Rattle.std.proofs.lemmas.Bool.{cases_lt, le-leb, le-ltb, lt-leb, lt-ltb}
use Rattle.gh_base.specs.declared.ids.Serial.{Serial}
use Rattle.gh_addrspace.specs.Rows.{in_run, page_at}
use Rattle.gh_addrspace.specs.Space.{followed}
use Rattle.gh_addrspace.specs.declared.mapping.Mapping.{Mapping}
use Rattle.gh_model.specs.Memory.{held_access, holds_page}
use Rattle.gh_pagetable.specs.Map.{IsOutside, SetsRun, Target, at, further}

-- a page is one of a run, or it isn't
pub in_run-tells :
    (first count v : ℕ)
    → ((in_run first count v ≡ true) × ((first ≤ v) × (v < first + count))) ⊎ ((in_run first count v ≡ false) × IsOutside first count v)
in_run-tells first count v =
    elim (cases_lt v first) [
      | inl before ↦ inr (and_left _ _ (lt-leb first v before), inl before)
      | inr from ↦
          elim (cases_lt v (first + count)) [
            | inl within ↦ inl (and_from _ _ (le-leb first v from) (lt-ltb v (first + count) within), (from, within))
            | inr past ↦ inr (and_right _ _ (le-ltb v (first + count) past), inr past)
          ]
    ]

-- where a page leads once a run is set
pub set_at :
    (old new : List Target) (first count : ℕ) (t : Target) → SetsRun old new first count t → (v : ℕ)
    → at new v ≡ (if in_run first count v then further t (v - first) else at old v)
set_at old new first count t sets v =
    elim (in_run-tells first count v) [
      | inl is ↦
          let place : first + (v - first) ≡ v = omega (arith, is.1.0) in
          rw is.0 (ap (at new) (sym place) ∙ sets.changed (v - first) (omega (arith, is.1.0, is.1.1)))
      | inr is ↦ rw is.0 (sets.others v is.1)
    ]

-- the pages of the space at which a row shows machine pages of a run
module _
    (base n page first count low high v : ℕ) (least : low ≡ max page first)
    (most : high ≡ min (page + n) (first + count)) where
  pub meets : low < high → (in_run base n v && in_run first count (page + v - base)) ≡ in_run (base + (low - page)) (high - low) v
  meets some =
      elim (in_run-tells base n v) [
        | inr is ↦
            elim (in_run-tells (base + (low - page)) (high - low) v) [
              | inl here ↦ absurd (omega (arith, is.1, here.1.0, here.1.1))
              | inr there ↦ rw (is.0, there.0) refl
            ]
        | inl is ↦
            elim (in_run-tells first count (page + v - base)) [
              | inl run ↦
                  elim (in_run-tells (base + (low - page)) (high - low) v) [
                    | inl here ↦ rw (is.0, run.0, here.0) refl
                    | inr there ↦ absurd (omega (arith, is.1.0, is.1.1, run.1.0, run.1.1, there.1))
                  ]
              | inr run ↦
                  elim (in_run-tells (base + (low - page)) (high - low) v) [
                    | inl here ↦ absurd (omega (arith, is.1.0, is.1.1, run.1, here.1.0, here.1.1))
                    | inr there ↦ rw (is.0, run.0, there.0) refl
                  ]
            ]
      ]

  pub misses : high ≤ low → (in_run base n v && in_run first count (page + v - base)) ≡ false
  misses none =
      elim (in_run-tells base n v) [
        | inr is ↦ and_left _ _ is.0
        | inl is ↦
            elim (in_run-tells first count (page + v - base)) [
              | inl run ↦ absurd (omega (arith, is.1.0, is.1.1, run.1.0, run.1.1))
              | inr run ↦ and_right _ _ run.0
            ]
      ]

-- a row follows machine pages that moved to its extent, or left it
module _
    (old new : List Target) (m : Mapping) (from to first count low high v : ℕ) (least : low ≡ max m.page.0 first)
    (most : high ≡ min (m.page.0 + m.row.count) (first + count)) (some : low < high) where
  pub followed-set :
      (m.row.extent.0 == to) ≡ true
      → SetsRun old new (m.row.base + (low - m.page.0)) (high - low) (Some (record { 0 = low }, m.row.access.0))
      → at new v ≡ followed from to first count v m (at old v)
  followed-set is_to sets =
      let base = m.row.base + (low - m.page.0) in
      let met = meets m.row.base m.row.count m.page.0 first count low high v least most some in
      let here = set_at old new base (high - low) _ sets v in
      elim (in_run-tells base (high - low) v) [
        | inl is ↦
            let page : low + (v - base) ≡ page_at m v = omega (arith, is.1.0, is.1.1) in
            let target = ap (λ (n : ℕ). Some (record { 0 = n }, m.row.access.0)) page in
            let there = rw is.0 at here in
            rw (met, is.0, is_to) (there ∙ target)
        | inr is ↦
            let there = rw is.0 at here in
            rw (met, is.0) there
      ]

  pub followed-cleared :
      (m.row.extent.0 == to) ≡ false → (m.row.extent.0 == from) ≡ true
      → SetsRun old new (m.row.base + (low - m.page.0)) (high - low) None
      → at new v ≡ followed from to first count v m (at old v)
  followed-cleared not_to is_from sets =
      let base = m.row.base + (low - m.page.0) in
      let met = meets m.row.base m.row.count m.page.0 first count low high v least most some in
      let here = set_at old new base (high - low) _ sets v in
      elim (in_run-tells base (high - low) v) [
        | inl is ↦ rw (met, is.0, not_to, is_from) (rw is.0 at here)
        | inr is ↦ rw (met, is.0) (rw is.0 at here)
      ]

-- where a page leads once so many pages of a row are shown
abbrev pub shown_to : List Serial → Mapping → List Target → ℕ → ℕ → Target
shown_to holders m old done v =
    if in_run m.row.base done v then held_access holders m.row (page_at m v) else at old v

module _
    (holders : List Serial) (m : Mapping) (old table : List Target) (done : ℕ)
    (so_far : (v : ℕ) → at table v ≡ shown_to holders m old done v) where
  -- pages that are held are shown
  pub show_more :
      (new : List Target) (held : ℕ)
      → ((k : ℕ) → k < held → holds_page holders m.row.extent.0 (m.page.0 + done + k) ≡ true)
      → SetsRun table new (m.row.base + done) held (Some (record { 0 = m.page.0 + done }, m.row.access.0))
      → (v : ℕ) → at new v ≡ shown_to holders m old (done + held) v
  show_more new held holds sets v =
      let here = set_at table new (m.row.base + done) held _ sets v in
      elim (in_run-tells (m.row.base + done) held v) [
        | inl is ↦
            let k = v - (m.row.base + done) in
            let page : m.page.0 + done + k ≡ page_at m v = omega (arith, is.1.0, is.1.1) in
            let holder = rw page at (holds k (omega (arith, is.1.0, is.1.1))) in
            let target = ap (λ (n : ℕ). Some (record { 0 = n }, m.row.access.0)) page in
            let within : in_run m.row.base (done + held) v ≡ true =
            and_from _ _ (le-leb m.row.base v (omega (arith, is.1.0))) (lt-ltb v (m.row.base + (done + held)) (omega (arith, is.1.1))) in
            rw (within, holder) (rw is.0 at here ∙ target)
        | inr is ↦
            let same : in_run m.row.base (done + held) v ≡ in_run m.row.base done v =
            elim (in_run-tells m.row.base done v) [
              | inl before ↦
                  elim (in_run-tells m.row.base (done + held) v) [
                    | inl both ↦ both.0 ∙ sym before.0
                    | inr not ↦ absurd (omega (arith, before.1.0, before.1.1, not.1))
                  ]
              | inr before ↦
                  elim (in_run-tells m.row.base (done + held) v) [
                    | inl both ↦ absurd (omega (arith, before.1, both.1.0, both.1.1, is.1))
                    | inr not ↦ not.0 ∙ sym before.0
                  ]
            ] in
            rw same (rw is.0 at here ∙ so_far v)
      ]

  -- a page that isn't held is passed over
  pub show_skip :
      holds_page holders m.row.extent.0 (m.page.0 + done) ≡ false → at old (m.row.base + done) ≡ None
      → (v : ℕ) → at table v ≡ shown_to holders m old (done + 1) v
  show_skip not_held bare v =
      elim (cases_eq v (m.row.base + done)) [
        | inl is ↦
            let page : page_at m v ≡ m.page.0 + done = omega arith in
            let out : in_run m.row.base done v ≡ false = and_right _ _ (le-ltb v (m.row.base + done) (omega arith)) in
            let within : in_run m.row.base (done + 1) v ≡ true =
            and_from _ _ (le-leb m.row.base v (omega arith)) (lt-ltb v (m.row.base + (done + 1)) (omega arith)) in
            let nowhere = rw (← is) at bare in
            let here = rw out at (so_far v) in
            rw (within, page, not_held) (here ∙ nowhere)
        | inr other ↦
            let same : in_run m.row.base (done + 1) v ≡ in_run m.row.base done v =
            elim (in_run-tells m.row.base done v) [
              | inl before ↦
                  elim (in_run-tells m.row.base (done + 1) v) [
                    | inl both ↦ both.0 ∙ sym before.0
                    | inr not ↦ absurd (omega (arith, before.1.0, before.1.1, not.1))
                  ]
              | inr before ↦
                  elim (in_run-tells m.row.base (done + 1) v) [
                    | inl both ↦ absurd (omega (arith, before.1, both.1.0, both.1.1))
                    | inr not ↦ not.0 ∙ sym before.0
                  ]
            ] in
            rw same (so_far v)
      ]
