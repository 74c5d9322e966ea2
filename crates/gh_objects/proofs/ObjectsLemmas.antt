-- Headers and counts stay paired.
use Rattle.std.proofs.Common.{◌≡◌, ℕ, ◌<◌, List, Option, None, set}
use Rattle.std.proofs.Common.{replicate, refl, sym, ap, ◌∙◌, inl, inr, arith}
use Rattle.std.specs.Option.{option_map}
use Rattle.std.proofs.lemmas.Bool.{cases_eq}
use Rattle.std.proofs.lemmas.List.{get_or-set_same, get_or-set_other, length-set, length-replicate}
use Rattle.gh_base.specs.declared.ids.ObjIndex.{ObjIndex}
use Rattle.gh_base.specs.declared.limits.TheConstants.{OBJECT_INDICES}
use Rattle.gh_objects.specs.declared.count.Count.{Count}
use Rattle.gh_objects.specs.declared.header.Header.{Header}
use Rattle.gh_objects.specs.Counts.{no_counts}
use Rattle.gh_objects.specs.Headers.{no_headers}
use Rattle.gh_objects.specs.Objects.{Objects, ArePaired, header_serial, count_serial}
use Rattle.gh_objects.proofs.ListLemmas.{replicate-at}

-- headers and counts together
abbrev pub objects_of : List (Option Header) → List (Option ObjIndex) → List (Option Count) → Objects
objects_of headers partitions counts = record { table = record { headers = headers; partitions = partitions }; counts = counts }

-- an index gets a header and a count of one serial, or neither
pub ArePaired-set : (headers : List (Option Header)) (before after : List (Option ObjIndex)) (counts : List (Option Count)) (index : ℕ) (header : Option Header) (count : Option Count)
    → ArePaired (objects_of headers before counts) → index < OBJECT_INDICES
    → option_map header_serial header ≡ option_map count_serial count
    → ArePaired (objects_of (set headers index header) after (set counts index count))
ArePaired-set headers before after counts index header count pairs within same = record {
  headers = length-set headers index header ∙ pairs.headers;
  counts = length-set counts index count ∙ pairs.counts;
  paired = λ other.
      elim (cases_eq other index) [
        | inl at ↦
            rw at (
            ap (option_map header_serial) (get_or-set_same headers index header None (omega (arith, pairs.headers)))
            ∙ same
            ∙ sym (ap (option_map count_serial) (get_or-set_same counts index count None (omega (arith, pairs.counts)))))
        | inr apart ↦
            ap (option_map header_serial) (get_or-set_other headers index other header None apart)
            ∙ pairs.paired other
            ∙ sym (ap (option_map count_serial) (get_or-set_other counts index other count None apart))
      ];
}

-- no object lives
pub ArePaired-none : ArePaired (record { table = no_headers; counts = no_counts })
ArePaired-none = record {
  headers = length-replicate {A = Option Header} OBJECT_INDICES None;
  counts = length-replicate {A = Option Count} OBJECT_INDICES None;
  paired = λ index.
      ap (option_map header_serial) (replicate-at None OBJECT_INDICES (replicate OBJECT_INDICES None) refl index)
      ∙ sym (ap (option_map count_serial) (replicate-at None OBJECT_INDICES (replicate OBJECT_INDICES None) refl index));
}
