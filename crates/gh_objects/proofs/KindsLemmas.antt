-- The numbers of objects of each kind follow the headers.
use Rattle.std.proofs.Common.{◌≡◌, ◌+◌, ◌-◌, ◌<◌, ◌≤◌, ◌∙◌, ℕ, true, List, Option, None, Some, length, get_or}
use Rattle.std.proofs.Common.{set, cond, count_by, is_some, replicate, refl, sym, ap, subst, arith, inl, inr, eq-eqb, ne_eqb}
use Rattle.std.specs.Prelude.{IfSome}
use Rattle.std.proofs.lemmas.Bool.{cases_eq}
use Rattle.std.proofs.lemmas.List.{get_or-set_same, get_or-set_other, length-set, length-replicate}
use Rattle.std.proofs.lemmas.List.Folds.{sum_by-replicate}
use Rattle.std.proofs.lemmas.List.Sums.{count_by-le-length}
use Rattle.gh_base.specs.Kind.{kind_number}
use Rattle.gh_base.specs.declared.kind.Kind.{Kind}
use Rattle.gh_base.specs.declared.kind.Kind.TheVariants.{Partition, Cspace, Space, Extent, Bell, Queue}
use Rattle.gh_base.specs.declared.limits.TheConstants.{OBJECT_INDICES}
use Rattle.gh_objects.specs.declared.header.Header.{Header}
use Rattle.gh_objects.specs.declared.kinds.TheConstants.{KINDS}
use Rattle.gh_objects.specs.Headers.{has_kind, header_at}
use Rattle.gh_objects.specs.Kinds.{AreCounted, kind_number_in, kind_place, with_less, with_more}
use Rattle.gh_objects.proofs.ListLemmas.{count_by-set, count_by-passes, is_some-within, replicate-at}

numbers_from : (k : Kind) → 1 ≤ kind_number k
numbers_from Partition = omega arith
numbers_from Cspace = omega arith
numbers_from Space = omega arith
numbers_from Extent = omega arith
numbers_from Bell = omega arith
numbers_from Queue = omega arith

numbers_to : (k : Kind) → kind_number k ≤ KINDS
numbers_to Partition = omega arith
numbers_to Cspace = omega arith
numbers_to Space = omega arith
numbers_to Extent = omega arith
numbers_to Bell = omega arith
numbers_to Queue = omega arith

-- a header that counts for a kind
abbrev pub counts_for : Kind → Option Header → ℕ
counts_for k header = cond (has_kind k header) 1 0

module _ (numbers : List ℕ) (k : Kind) (places : length numbers ≡ KINDS) where
  place_within : (j : Kind) → kind_place j < length numbers
  place_within j = omega (arith, places, numbers_from j, numbers_to j)

  less_by : (h : Header) → 0 < kind_number_in numbers h.kind
      → kind_number_in (with_less (Some h) numbers) k + counts_for k (Some h) ≡ kind_number_in numbers k
  less_by h some =
      elim (cases_eq (kind_number h.kind) (kind_number k)) [
        | inl same ↦
            let here : get_or (set numbers (kind_number h.kind - 1) (kind_number_in numbers h.kind - 1)) (kind_number h.kind - 1) 0 ≡ kind_number_in numbers h.kind - 1 =
            get_or-set_same numbers (kind_place h.kind) (kind_number_in numbers h.kind - 1) 0 (place_within h.kind) in
            let at : get_or (set numbers (kind_number h.kind - 1) (kind_number_in numbers h.kind - 1)) (kind_number k - 1) 0 ≡ kind_number_in numbers h.kind - 1 =
            subst (λ (n : ℕ). get_or (set numbers (kind_number h.kind - 1) (kind_number_in numbers h.kind - 1)) (n - 1) 0 ≡ kind_number_in numbers h.kind - 1) same here in
            let old : kind_number_in numbers h.kind ≡ kind_number_in numbers k = ap (λ (n : ℕ). get_or numbers (n - 1) 0) same in
            rw (at, eq-eqb (kind_number h.kind) (kind_number k) same) (omega (arith, some, old))
        | inr apart ↦
            let other : get_or (set numbers (kind_number h.kind - 1) (kind_number_in numbers h.kind - 1)) (kind_number k - 1) 0 ≡ get_or numbers (kind_number k - 1) 0 =
            get_or-set_other numbers (kind_place h.kind) (kind_place k) (kind_number_in numbers h.kind - 1) 0
            (λ same. apart (omega (arith, same, numbers_from h.kind, numbers_from k))) in
            rw (other, ne_eqb (kind_number h.kind) (kind_number k) apart) (omega arith)
      ]

  -- one object less of the header's kind
  pub less : (header : Option Header) → IfSome header (λ h. 0 < kind_number_in numbers h.kind)
      → kind_number_in (with_less header numbers) k + counts_for k header ≡ kind_number_in numbers k
  less None some = omega arith
  less (Some h) some = less_by h some

  more_by : (h : Header)
      → kind_number_in (with_more (Some h) numbers) k ≡ kind_number_in numbers k + counts_for k (Some h)
  more_by h =
      elim (cases_eq (kind_number h.kind) (kind_number k)) [
        | inl same ↦
            let here : get_or (set numbers (kind_number h.kind - 1) (kind_number_in numbers h.kind + 1)) (kind_number h.kind - 1) 0 ≡ kind_number_in numbers h.kind + 1 =
            get_or-set_same numbers (kind_place h.kind) (kind_number_in numbers h.kind + 1) 0 (place_within h.kind) in
            let at : get_or (set numbers (kind_number h.kind - 1) (kind_number_in numbers h.kind + 1)) (kind_number k - 1) 0 ≡ kind_number_in numbers h.kind + 1 =
            subst (λ (n : ℕ). get_or (set numbers (kind_number h.kind - 1) (kind_number_in numbers h.kind + 1)) (n - 1) 0 ≡ kind_number_in numbers h.kind + 1) same here in
            let old : kind_number_in numbers h.kind ≡ kind_number_in numbers k = ap (λ (n : ℕ). get_or numbers (n - 1) 0) same in
            rw (at, eq-eqb (kind_number h.kind) (kind_number k) same) (omega (arith, old))
        | inr apart ↦
            let other : get_or (set numbers (kind_number h.kind - 1) (kind_number_in numbers h.kind + 1)) (kind_number k - 1) 0 ≡ get_or numbers (kind_number k - 1) 0 =
            get_or-set_other numbers (kind_place h.kind) (kind_place k) (kind_number_in numbers h.kind + 1) 0
            (λ same. apart (omega (arith, same, numbers_from h.kind, numbers_from k))) in
            rw (other, ne_eqb (kind_number h.kind) (kind_number k) apart) (omega arith)
      ]

  -- one object more of the header's kind
  pub more : (header : Option Header)
      → kind_number_in (with_more header numbers) k ≡ kind_number_in numbers k + counts_for k header
  more None = omega arith
  more (Some h) = more_by h

length_less : (header : Option Header) (numbers : List ℕ) → length (with_less header numbers) ≡ length numbers
length_less None numbers = refl
length_less (Some h) numbers = length-set numbers (kind_place h.kind) (kind_number_in numbers h.kind - 1)

length_more : (header : Option Header) (numbers : List ℕ) → length (with_more header numbers) ≡ length numbers
length_more None numbers = refl
length_more (Some h) numbers = length-set numbers (kind_place h.kind) (kind_number_in numbers h.kind + 1)

module _ (headers : List (Option Header)) (numbers : List ℕ) (indices : length headers ≡ OBJECT_INDICES)
    (are : AreCounted headers numbers) where
  some_by : (index : ℕ) (header : Option Header) → header_at headers index ≡ header
      → IfSome header (λ h. 0 < kind_number_in numbers h.kind)
  some_by index None is = tt
  some_by index (Some h) is =
      let own : has_kind h.kind (header_at headers index) ≡ true =
      ap (has_kind h.kind) is ∙ eq-eqb (kind_number h.kind) (kind_number h.kind) refl in
      let within : index < length headers =
      is_some-within headers index (ap (λ (o : Option Header). is_some o) is) in
      omega (arith, are.each h.kind, count_by-passes (has_kind h.kind) headers index None within own)

  -- the kind of a header has an object at least
  pub counted_some : (index : ℕ) → IfSome (header_at headers index) (λ h. 0 < kind_number_in numbers h.kind)
  counted_some index = some_by index (header_at headers index) refl

  few_by : (old header : Option Header) → IfSome old (λ h. 0 < kind_number_in numbers h.kind)
      → IfSome header (λ h. kind_number_in (with_less old numbers) h.kind < 65535)
  few_by old None some = tt
  few_by old (Some h) some =
      omega (
        arith,
        less numbers h.kind are.places old some,
        are.each h.kind,
        count_by-le-length (has_kind h.kind) headers,
        indices,
      )

  -- and none has too many
  pub counted_few : (index : ℕ) (header : Option Header)
      → IfSome header (λ h. kind_number_in (with_less (header_at headers index) numbers) h.kind < 65535)
  counted_few index header = few_by (header_at headers index) header (counted_some index)

  -- another header at an index
  pub AreCounted-set : (index : ℕ) (header : Option Header) → index < OBJECT_INDICES
      → AreCounted (set headers index header) (with_more header (with_less (header_at headers index) numbers))
  AreCounted-set index header within =
      let old : Option Header = header_at headers index in
      let places : length (with_less old numbers) ≡ KINDS = length_less old numbers ∙ are.places in
      record {
        places = length_more header (with_less old numbers) ∙ places;
        each = λ k.
            omega (
              arith,
              more (with_less old numbers) k places header,
              less numbers k are.places old (counted_some index),
              are.each k,
              count_by-set (has_kind k) headers index header None (omega (arith, indices, within)),
            );
      }

-- nothing is counted where no object lives
pub AreCounted-none : (headers : List (Option Header)) (numbers : List ℕ) → headers ≡ replicate OBJECT_INDICES None
    → numbers ≡ replicate KINDS 0 → AreCounted headers numbers
AreCounted-none headers numbers none clear = record {
  places = ap length clear ∙ length-replicate {A = ℕ} KINDS 0;
  each = λ k.
      replicate-at 0 KINDS numbers clear (kind_place k)
      ∙ sym (ap (count_by (has_kind k)) none ∙ sum_by-replicate (λ (h : Option Header). cond (has_kind k h) 1 0) OBJECT_INDICES None);
}
