-- One more step of a loop over the entries of a table.
use Rattle.std.proofs.Common.{◌≡◌, ℕ, suc, ◌+◌, ◌-◌, ◌*◌, ◌/◌}
use Rattle.std.proofs.Common.{◌%◌, ◌<◌, ◌≤◌, false, List, [], ◌∷◌}
use Rattle.std.proofs.Common.{length, take, drop, get_or, slice_set}
use Rattle.std.proofs.Common.{if◌then◌else◌, sym, ap, ◌∙◌, arith, mul-suc}
use Rattle.std.specs.List.{flat_map}
use Rattle.std.proofs.lemmas.List.{drop_more, take_more_set}
use Rattle.std.proofs.lemmas.List.Elements.{All-push}
use Rattle.std.proofs.lemmas.Nat.{div_below}
use Rattle.gh_pagetable.specs.Entry.{AllCover, IsTable, descriptor_of, leads_on, overwritten, run}
use Rattle.gh_pagetable.specs.Map.{Target, further}
use Rattle.gh_pagetable.specs.declared.descriptor.Descriptor.TheVariants.{Uniform, Table}
use Rattle.gh_pagetable.proofs.Overwriting.{length-overwritten, overwritten-overwritten}
use Rattle.gh_pagetable.proofs.Runs.{length-run, run-append}
use Rattle.gh_pagetable.proofs.Tables.{cover_head, length-table, overwritten-entry, table-set}
use Rattle.gh_pagetable.proofs.Uniform.{descriptor_of-append, descriptor_of-first}
use Rattle.gh_pagetable.proofs.Uniform.{leads_on_not, leads_on_past}

module _ {E : Type 0} (targets : E → List Target) (n : ℕ) where
  -- one more entry is written, and covers n pages
  pub cover_more :
      (es : List E) (i : ℕ) (e' : E)
      → i < length es → length (targets e') ≡ n → AllCover targets n (take i es)
      → AllCover targets n (take (i + 1) (slice_set es i e'))
  cover_more es i e' there size cover =
      let pushed = All-push (λ e. length (targets e) ≡ n) (take i es) e' cover size in
      rw (take_more_set es i e' there) pushed

  -- the pages of the entries that are left
  pub pages_left : (i count : ℕ) → i < count → n * (count - i) ≡ n + n * (count - (i + 1))
  pages_left i count within =
      let left : count - i ≡ suc (count - (i + 1)) = omega arith in
      rw (left, mul-suc) (omega arith)

  -- one more entry leads on
  pub leads_on_more :
      (es : List E) (i : ℕ) (e : E) (t : Target)
      → AllCover targets n es → i < length es → e ≡ get_or es i e
      → descriptor_of (targets e) ≡ Uniform t
      → leads_on t (flat_map targets (drop i es))
      ≡ leads_on (further t n) (flat_map targets (drop (i + 1) es))
  leads_on_more es i e t cover there read says =
      let rest = drop_more es i e there in
      let size : length (targets e) ≡ n = ap (λ (x : E). length (targets x)) read ∙ cover i e there in
      let past = leads_on_past t (targets e) (flat_map targets (drop (i + 1) es)) says in
      rw (rest, ← read) (past ∙ rw size)

  -- an entry doesn't lead on
  pub leads_on_stops :
      (es : List E) (i : ℕ) (e : E) (t : Target)
      → AllCover targets n es → 0 < n → i < length es → e ≡ get_or es i e
      → (descriptor_of (targets e) ≡ Uniform t → ⊥)
      → leads_on t (flat_map targets (drop i es)) ≡ false
  leads_on_stops es i e t cover some there read other =
      let rest = drop_more es i e there in
      let size : length (targets e) ≡ n = ap (λ (x : E). length (targets x)) read ∙ cover i e there in
      let later = flat_map targets (drop (i + 1) es) in
      rw (rest, ← read) (leads_on_not t (targets e) later (rw size some) other)

  -- where the first entry has a table, so has the whole
  pub split-first :
      (es : List E) (e : E)
      → IsTable targets n es → 0 < n → e ≡ get_or es 0 e → descriptor_of (targets e) ≡ Table
      → descriptor_of (flat_map targets es) ≡ Table
  split-first [] e table some read says = absurd (omega (arith, table.count))
  split-first (e' ∷ es) e table some read says =
      let head = cover_head targets n e' es table.cover in
      descriptor_of-append (targets e') (flat_map targets es) (rw head some) (rw read at says)

  -- where the first entry is uniform from a target, so is the whole if all leads on from there
  pub uniform-first :
      (es : List E) (e : E) (t : Target)
      → IsTable targets n es → 0 < n → e ≡ get_or es 0 e → descriptor_of (targets e) ≡ Uniform t
      → descriptor_of (flat_map targets es)
      ≡ (if leads_on t (flat_map targets es) then Uniform t else Table)
  uniform-first [] e t table some read says = absurd (omega (arith, table.count))
  uniform-first (e' ∷ es) e t table some read says =
      let head = cover_head targets n e' es table.cover in
      descriptor_of-first t (targets e') (flat_map targets es) (rw head some) (rw read at says)

-- a part of a run is set, which lies in the entry that covers the run's first page
module _
    {E : Type 0} (targets : E → List Target) (n : ℕ) (es : List E) (v part left : ℕ) (d e' : E)
    (t : Target) (table : IsTable targets n es) (some : 0 < n) (inside : v % n + part ≤ n)
    (fits : v < 16 * n)
    (written : targets e' ≡ overwritten (targets (get_or es (v / n) d)) (v % n) (run t part)) where
  there : v / n < length es
  there = rw table.count (div_below v n 16 some fits)

  pub table_more : IsTable targets n (slice_set es (v / n) e')
  table_more =
      let size = table.cover (v / n) d there in
      let old = targets (get_or es (v / n) d) in
      let within : v % n + length (run t part) ≤ length old = rw (length-run, size) inside in
      let kept = length-overwritten old (run t part) (v % n) within in
      table-set targets n es (v / n) e' table (ap length written ∙ kept ∙ size)

  all_written :
      flat_map targets (slice_set es (v / n) e') ≡ overwritten (flat_map targets es) v (run t part)
  all_written =
      let place : n * (v / n) + v % n ≡ v = omega arith in
      let within : v % n + length (run t part) ≤ n = rw length-run inside in
      let us = run t part in
      let cover = table.cover in
      let entry = overwritten-entry targets n es (v / n) (v % n) d e' us cover there within written in
      rw place at entry

  pub set_more :
      part ≤ left → v + left ≤ 16 * n
      → overwritten
      (flat_map targets (slice_set es (v / n) e')) (v + part) (run (further t part) (left - part))
      ≡ overwritten (flat_map targets es) v (run t left)
  set_more within whole =
      let all = flat_map targets es in
      let later = run (further t part) (left - part) in
      let size = length-table targets n es table in
      let fits_all : v + part + length later ≤ length all = rw (length-run, size) (omega arith) in
      let place : v + part ≡ v + length (run t part) = rw length-run in
      let after = overwritten-overwritten all (run t part) later v (v + part) place fits_all in
      let parts : left ≡ part + (left - part) = omega arith in
      let joined = ap (run t) parts ∙ run-append t part (left - part) in
      rw all_written (after ∙ ap (overwritten all v) (sym joined))
