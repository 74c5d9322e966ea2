-- Where the live objects are once the header of one is gone.
use Rattle.std.proofs.Common.{◌≡◌, ◌≢◌, ◌<◌, ◌∙◌, ℕ, Bool, true, false, List, Option, Some, None, refl, sym, ap, subst, arith, inl, inr, length, set}
use Rattle.std.proofs.lemmas.Bool.{cases_eq}
use Rattle.std.proofs.lemmas.List.{get_or-set_other, get_or_past, length-set}
use Rattle.std.proofs.lemmas.List.Folds.{position_or_len-set}
use Rattle.std.proofs.lemmas.List.Sums.{position_or_len_is}
use Rattle.gh_objects.proofs.ListLemmas.{set_none-here}
use Rattle.gh_objects.specs.Headers.{has_serial, header_at}
use Rattle.gh_objects.specs.declared.header.Header.{Header}
use Rattle.gh_parts.specs.Index.{AreIndexed, index_of}
use Rattle.gh_parts.proofs.IndexLemmas.{alone, header_found, one_serial, serials_same}

module _ (headers : List (Option Header)) (all : AreIndexed headers) (object : ℕ)
    (below : index_of headers object < length headers) where
  abbrev at : ℕ
  at = index_of headers object

  -- the headers without that of the object
  abbrev pub left : List (Option Header)
  left = set headers at None

  pub left_here : header_at left at ≡ None
  left_here = set_none-here headers at

  pub left_there : (index : ℕ) → index ≢ at → header_at left index ≡ header_at headers index
  left_there index apart = get_or-set_other headers at index None None apart

  serial_by : (index : ℕ) (has : Bool) → index ≢ at
      → has_serial object (header_at headers index) ≡ has → has ≡ false
  serial_by index true apart is = absurd (apart (sym (alone headers all object index is)))
  serial_by index false apart is = refl

  nowhere : (index : ℕ) → has_serial object (header_at left index) ≡ false
  nowhere index =
      elim (cases_eq index at) [
        | inl same ↦
            subst (λ (i : ℕ). has_serial object (header_at left i) ≡ false) (sym same) (ap (has_serial object) left_here)
        | inr apart ↦
            ap (has_serial object) (left_there index apart)
            ∙ serial_by index (has_serial object (header_at headers index)) apart refl
      ]

  -- the object has no index any more
  pub index_gone : index_of left object ≡ length left
  index_gone =
      position_or_len_is (has_serial object) left (length left) None (omega arith) (λ k before. nowhere k)
      (λ within. absurd (omega (arith, within)))

  other_serial : (x : ℕ) → x ≢ object → (has : Bool) → has_serial x (header_at headers at) ≡ has → has ≡ false
  other_serial x apart true is =
      absurd (apart (serials_same x object (header_at headers at) is (header_found headers object below)))
  other_serial x apart false is = refl

  -- and every other its own
  pub index_left : (x : ℕ) → x ≢ object → index_of left x ≡ index_of headers x
  index_left x apart =
      position_or_len-set (has_serial x) headers at None None
      (sym (other_serial x apart (has_serial x (header_at headers at)) refl))

  pub index_elsewhere : (x : ℕ) → x ≢ object → index_of headers x ≢ at
  index_elsewhere x apart same =
      apart (one_serial headers x object (subst (λ (i : ℕ). i < length headers) (sym same) below) same)

  pub header_left : (x : ℕ) → x ≢ object
      → header_at left (index_of left x) ≡ header_at headers (index_of headers x)
  header_left x apart =
      ap (header_at left) (index_left x apart) ∙ left_there (index_of headers x) (index_elsewhere x apart)

  pub header_gone : header_at left (index_of left object) ≡ None
  header_gone = get_or_past left (index_of left object) None (omega (arith, index_gone))

  alone_by : (index : ℕ) (header : Header) → header_at headers index ≡ Some header → index ≢ at
      → index_of left header.serial.0 ≡ index
  alone_by index header is apart =
      index_left header.serial.0
      (λ same. apart (sym (all.alone index header is) ∙ ap (index_of headers) same))
      ∙ all.alone index header is

  never_here : (index : ℕ) (header : Header) → header_at left index ≡ Some header → index ≡ at → ⊥
  never_here index header is same =
      let none : header_at left index ≡ None =
      subst (λ (i : ℕ). header_at left i ≡ None) (sym same) left_here in
      let never : ⊥ = cc in
      never

  pub indexed_left : AreIndexed left
  indexed_left = record {
    indices = length-set headers at None ∙ all.indices;
    alone = λ index header is.
        elim (cases_eq index at) [
          | inl same ↦ absurd (never_here index header is same)
          | inr apart ↦ alone_by index header (sym (left_there index apart) ∙ is) apart
        ];
  }
