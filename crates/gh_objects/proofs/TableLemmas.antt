-- The bits follow the headers.
use Rattle.std.proofs.Common.{◌≡◌, ◌≢◌, ℕ, ◌+◌, ◌-◌, ◌*◌, ◌/◌}
use Rattle.std.proofs.Common.{◌%◌, ◌<◌, ◌^◌, true, List, Option, None, is_some}
use Rattle.std.proofs.Common.{length, get_or, set, drop, count_by, replicate, eqb, refl, sym, ap}
use Rattle.std.proofs.Common.{◌∙◌, inl, inr, arith, eqb-true, length-take, length-drop}
use Rattle.std.specs.Prelude.{is_none}
use Rattle.std.specs.Int.{bit_at}
use Rattle.std.specs.List.{position_or_len}
use Rattle.std.proofs.lemmas.Bool.{cases_eq}
use Rattle.std.proofs.lemmas.List.{get_or-set_same, get_or-set_other, get_or-take}
use Rattle.std.proofs.lemmas.List.{get_or-drop, length-set, length-replicate}
use Rattle.std.proofs.lemmas.List.Sums.{position_or_len_is, passes_at_first}
use Rattle.std.proofs.lemmas.Nat.Bits.{bit_at-zero, bit_at_ones}
use Rattle.gh_base.specs.declared.limits.TheConstants.{OBJECT_INDICES, PARTITIONS, PARTITION_PLACES}
use Rattle.gh_objects.specs.declared.header.Header.{Header}
use Rattle.gh_objects.specs.Headers.{header_at, headers_in, free_index}
use Rattle.gh_objects.specs.Table.{bit_of, IsMarked}
use Rattle.gh_objects.proofs.ListLemmas.{replicate-at, position_or_len-lt-length}

module _ (taken : List ℕ) (index word : ℕ) (within : index / PARTITION_PLACES < length taken) where
  bit_of-set_same : bit_of (set taken (index / PARTITION_PLACES) word) index ≡ bit_at word (index % PARTITION_PLACES)
  bit_of-set_same = ap (λ n. bit_at n (index % PARTITION_PLACES)) (get_or-set_same taken (index / PARTITION_PLACES) word 0 within)

  -- a word that keeps its other bits keeps the bit of every other index
  bit_of-set_other : ((place : ℕ) → place < 128 → place ≢ index % PARTITION_PLACES → bit_at word place ≡ bit_at (get_or taken (index / PARTITION_PLACES) 0) place)
      → (other : ℕ) → other ≢ index → bit_of (set taken (index / PARTITION_PLACES) word) other ≡ bit_of taken other
  bit_of-set_other kept other apart =
      elim (cases_eq (other / PARTITION_PLACES) (index / PARTITION_PLACES)) [
        | inl same ↦ rw (same, get_or-set_same taken (index / PARTITION_PLACES) word 0 within) (kept (other % PARTITION_PLACES) (omega arith) (λ place. apart (omega arith)))
        | inr elsewhere ↦ ap (λ n. bit_at n (other % PARTITION_PLACES)) (get_or-set_other taken (index / PARTITION_PLACES) (other / PARTITION_PLACES) word 0 elsewhere)
      ]

-- what stays true where an index gets another header, with its bit
pub IsMarked-set : (headers : List (Option Header)) (taken : List ℕ) (index word : ℕ) (header : Option Header)
    → IsMarked headers taken → index < OBJECT_INDICES
    → is_none header ≡ eqb (bit_at word (index % PARTITION_PLACES)) 0
    → ((place : ℕ) → place < 128 → place ≢ index % PARTITION_PLACES → bit_at word place ≡ bit_at (get_or taken (index / PARTITION_PLACES) 0) place)
    → IsMarked (set headers index header) (set taken (index / PARTITION_PLACES) word)
IsMarked-set headers taken index word header old within here others =
    let there : index < length headers = omega (arith, old.indices) in
    let in_words : index / PARTITION_PLACES < length taken = omega (arith, old.words) in
    record {
      indices = length-set headers index header ∙ old.indices;
      words = length-set taken (index / PARTITION_PLACES) word ∙ old.words;
      bits = λ other inside.
          elim (cases_eq other index) [
            | inl same ↦ rw (same, get_or-set_same headers index header None there, bit_of-set_same taken index word in_words) here
            | inr apart ↦ rw (get_or-set_other headers index other header None apart, bit_of-set_other taken index word in_words others other apart) (old.bits other inside)
          ];
    }

-- a table of no headers
pub IsMarked-none : (headers : List (Option Header)) (taken : List ℕ) → headers ≡ replicate OBJECT_INDICES None → taken ≡ replicate PARTITIONS 0
    → IsMarked headers taken
IsMarked-none headers taken none clear = record {
  indices = ap length none ∙ length-replicate {A = Option Header} OBJECT_INDICES None;
  words = ap length clear ∙ length-replicate {A = ℕ} PARTITIONS 0;
  bits = λ index _.
      rw (replicate-at None OBJECT_INDICES headers none index, replicate-at 0 PARTITIONS taken clear (index / PARTITION_PLACES), bit_at-zero (index % PARTITION_PLACES)) refl;
}

module _ (headers : List (Option Header)) (taken : List ℕ) (table : IsMarked headers taken) (place : ℕ) (within : place < PARTITIONS) where
  -- an object of a partition place, by its place there
  headers_in-at : (k : ℕ) → k < PARTITION_PLACES → get_or (headers_in headers place) k None ≡ header_at headers (PARTITION_PLACES * place + k)
  headers_in-at k inside =
      get_or-take PARTITION_PLACES (drop (PARTITION_PLACES * place) headers) k None inside ∙ get_or-drop (PARTITION_PLACES * place) headers k None

  length-headers_in : length (headers_in headers place) ≡ PARTITION_PLACES
  length-headers_in = omega (arith, table.indices, length-take PARTITION_PLACES (drop (PARTITION_PLACES * place) headers), length-drop (PARTITION_PLACES * place) headers)

  -- an index of a partition place is free exactly where its bit in the word is 0
  is_none-bit : (k : ℕ) → k < PARTITION_PLACES → is_none (get_or (headers_in headers place) k None) ≡ eqb (bit_at (get_or taken place 0) k) 0
  is_none-bit k inside =
      let quotient : (PARTITION_PLACES * place + k) / PARTITION_PLACES ≡ place = omega arith in
      let remainder : (PARTITION_PLACES * place + k) % PARTITION_PLACES ≡ k = omega arith in
      ap is_none (headers_in-at k inside) ∙ table.bits (PARTITION_PLACES * place + k) (omega arith) ∙ rw (quotient, remainder) refl

  -- where an index is free, not all bits are 1
  pub some_free : count_by is_some (headers_in headers place) < PARTITION_PLACES → get_or taken place 0 ≢ 2 ^ 128 - 1
  some_free few full =
      let first = position_or_len is_none (headers_in headers place) in
      let before : first < length (headers_in headers place) = position_or_len-lt-length is_some (headers_in headers place) (omega (arith, length-headers_in)) in
      let inside : first < PARTITION_PLACES = omega (arith, length-headers_in) in
      let free : eqb (bit_at (get_or taken place 0) first) 0 ≡ true = sym (is_none-bit first inside) ∙ passes_at_first is_none (headers_in headers place) None before in
      omega (arith, eqb-true _ _ free, ap (λ n. bit_at n first) full, bit_at_ones 128 first inside)

  -- the first place whose bit is 0 is that of the least free index
  pub free_index-first : (first : ℕ) → first < 128 → bit_at (get_or taken place 0) first ≡ 0 → ((k : ℕ) → k < first → bit_at (get_or taken place 0) k ≡ 1)
      → free_index headers place ≡ place * PARTITION_PLACES + first
  free_index-first first inside clear before =
      let position : position_or_len is_none (headers_in headers place) ≡ first =
      position_or_len_is is_none (headers_in headers place) first None (omega (arith, length-headers_in))
      (λ k earlier. is_none-bit k (omega arith) ∙ ap (λ bit. eqb bit 0) (before k earlier))
      (λ _. is_none-bit first inside ∙ ap (λ bit. eqb bit 0) clear) in
      omega (arith, position)
