-- What an entry says of its range, and what its table has.
use Rattle.std.proofs.Common.{◌≡◌, ℕ, ◌+◌, ◌*◌, ◌<◌, Bool, true, false}
use Rattle.std.proofs.Common.{List, length, if◌then◌else◌, refl, sym, ap, ◌∙◌}
use Rattle.std.specs.List.{flat_map, sum_by}
use Rattle.std.proofs.lemmas.List.Folds.{fold-map}
use Rattle.gh_pagetable.specs.Entry.{IsCanonical, IsTable, descriptor_of}
use Rattle.gh_pagetable.specs.Entry.{run, shown, tables_below, targets_of}
use Rattle.gh_pagetable.specs.Map.{Target, at, is_uniform}
use Rattle.gh_pagetable.specs.declared.descriptor.Descriptor.{Descriptor}
use Rattle.gh_pagetable.specs.declared.descriptor.Descriptor.TheVariants.{Uniform, Table}
use Rattle.gh_pagetable.proofs.Ranges.{ranges-table}
use Rattle.gh_pagetable.proofs.Runs.{length-run}
use Rattle.gh_pagetable.proofs.Tables.{length-table}
use Rattle.gh_pagetable.proofs.Uniform.{descriptor_of-run, is_uniform-is}

length-shown :
    (n : ℕ) (d : Descriptor) (below : List Target) → length below ≡ n → length (shown n d below) ≡ n
length-shown n (Uniform t) below size = length-run t n
length-shown n Table below size = size

-- an entry says of its range what the range is
pub descriptor_of-shown :
    (n : ℕ) (d : Descriptor) (below : List Target)
    → 0 < n → IsCanonical n d below → descriptor_of (shown n d below) ≡ d
descriptor_of-shown n (Uniform t) below some canonical = descriptor_of-run t n some
descriptor_of-shown n Table below some canonical = rw canonical

shown_choice :
    (n : ℕ) (ts : List Target) (b : Bool)
    → is_uniform ts ≡ b → length ts ≡ n → shown n (if b then Uniform (at ts 0) else Table) ts ≡ ts
shown_choice n ts true uniform size = ap (run (at ts 0)) (sym size) ∙ sym (is_uniform-is ts uniform)
shown_choice n ts false uniform size = refl

module _
    {E : Type 0} (targets : E → List Target) (n : ℕ) (es : List E) (table : IsTable targets n es)
  where
    pub length-targets_of : (d : Descriptor) → length (targets_of targets n d es) ≡ 16 * n
    length-targets_of d =
        length-shown (16 * n) d (flat_map targets es) (length-table targets n es table)

    -- an entry that says what its table is shows what its table has
    pub targets_of-descriptor_of :
        targets_of targets n (descriptor_of (flat_map targets es)) es ≡ flat_map targets es
    targets_of-descriptor_of =
        let all = flat_map targets es in
        shown_choice (16 * n) all (is_uniform all) refl (length-table targets n es table)

    -- the tables of an entry whose table is in use
    pub tables_below-table :
        (tables_in : List Target → ℕ) → is_uniform (flat_map targets es) ≡ false
        → tables_below tables_in n (flat_map targets es) ≡ 1 + sum_by (λ e. tables_in (targets e)) es
    tables_below-table tables_in split =
        let parts = rw table.count at (ranges-table targets n es table.cover) in
        let sums = fold-map (λ a x. a + tables_in x) targets 0 es in
        rw (split, parts) (ap (λ (x : ℕ). 1 + x) sums)
