-- The targets of a table: those of its entries, one after another.
use Rattle.std.proofs.Common.{◌≡◌, ℕ, zero, suc, ◌+◌, ◌*◌, ◌/◌, ◌%◌}
use Rattle.std.proofs.Common.{◌<◌, ◌≤◌, List, [], ◌∷◌, length, get_or, slice_set}
use Rattle.std.proofs.Common.{sym, ap, ◌∙◌, arith, length-append, mul-zero, mul_comm}
use Rattle.std.specs.List.{flat_map}
use Rattle.std.proofs.lemmas.List.{places, get_or-append-add, length-set}
use Rattle.std.proofs.lemmas.List.Elements.{All-head, All-tail, All-set}
use Rattle.std.proofs.lemmas.Nat.{div_below}
use Rattle.gh_pagetable.specs.Entry.{AllCover, IsTable, overwritten}
use Rattle.gh_pagetable.specs.Map.{Target, at}
use Rattle.gh_pagetable.proofs.Overwriting.{overwritten-append_left, overwritten-append_right}

module _ {E : Type 0} (targets : E → List Target) (n : ℕ) where
  -- the first entry covers n pages, and so does each of the others
  pub cover_head : (e : E) (es : List E) → AllCover targets n (e ∷ es) → length (targets e) ≡ n
  cover_head e es cover = All-head (λ e. length (targets e) ≡ n) e es cover

  pub cover_tail : (e : E) (es : List E) → AllCover targets n (e ∷ es) → AllCover targets n es
  cover_tail e es cover = All-tail (λ e. length (targets e) ≡ n) e es cover

  length-entries : (es : List E) → AllCover targets n es → length (flat_map targets es) ≡ n * length es
  length-entries [] cover = sym (mul-zero n)
  length-entries (e ∷ es) cover =
      let head = cover_head e es cover in
      let rest = length-entries es (cover_tail e es cover) in
      rw (length-append, head, rest) (omega arith)

  pub length-table : (es : List E) → IsTable targets n es → length (flat_map targets es) ≡ 16 * n
  length-table es table = length-entries es table.cover ∙ rw table.count (mul_comm n 16)

  at-entry :
      (es : List E) (i k : ℕ) (d : E)
      → AllCover targets n es → i < length es → k < n
      → at (flat_map targets es) (n * i + k) ≡ at (targets (get_or es i d)) k
  at-entry [] i k d cover there within = absurd (omega arith)
  at-entry (e ∷ es) zero k d cover there within =
      let head = cover_head e es cover in
      grind (arith, places)
  at-entry (e ∷ es) (suc i) k d cover there within =
      let head = cover_head e es cover in
      let rest = at-entry es i k d (cover_tail e es cover) (omega arith) within in
      let place : n * suc i + k ≡ length (targets e) + (n * i + k) = omega arith in
      rw (place, get_or-append-add) rest

  -- a page's target is in the entry that covers it
  pub at-table :
      (es : List E) (v : ℕ) (e : E)
      → IsTable targets n es → 0 < n → v < 16 * n → e ≡ get_or es (v / n) e
      → at (flat_map targets es) v ≡ at (targets e) (v % n)
  at-table es v e table some inside read =
      let there : v / n < length es = rw table.count (div_below v n 16 some inside) in
      let within : v % n < n = omega arith in
      let place : n * (v / n) + v % n ≡ v = omega arith in
      let found = at-entry es (v / n) (v % n) e table.cover there within in
      (rw place at found) ∙ ap (λ (x : E). at (targets x) (v % n)) (sym read)

  -- the targets once a part of an entry's is written over
  pub overwritten-entry :
      (es : List E) (i k : ℕ) (d e' : E) (us : List Target)
      → AllCover targets n es → i < length es → k + length us ≤ n
      → targets e' ≡ overwritten (targets (get_or es i d)) k us
      → flat_map targets (slice_set es i e') ≡ overwritten (flat_map targets es) (n * i + k) us
  overwritten-entry [] i k d e' us cover there within written = absurd (omega arith)
  overwritten-entry (e ∷ es) zero k d e' us cover there within written =
      let head = cover_head e es cover in
      let place : n * 0 + k ≡ k = omega arith in
      let joined = overwritten-append_left (targets e) us (flat_map targets es) k (omega arith) in
      rw (place, written) (sym joined)
  overwritten-entry (e ∷ es) (suc i) k d e' us cover there within written =
      let head = cover_head e es cover in
      let tail = cover_tail e es cover in
      let rest = overwritten-entry es i k d e' us tail (omega arith) within written in
      let place : n * suc i + k ≡ length (targets e) + (n * i + k) = omega arith in
      let later = overwritten-append_right (targets e) us (flat_map targets es) (n * i + k) _ place in
      rw rest (sym later)

  -- the table once an entry is written over
  pub table-set :
      (es : List E) (i : ℕ) (e' : E)
      → IsTable targets n es → length (targets e') ≡ n → IsTable targets n (slice_set es i e')
  table-set es i e' table size = record {
    count = rw length-set table.count;
    cover = All-set (λ e. length (targets e) ≡ n) es i e' size table.cover;
  }
