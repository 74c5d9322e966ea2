-- The lists of serials follow the counts.
use Rattle.std.proofs.Common.{◌≡◌, ℕ, zero, suc, ◌+◌, ◌<◌, List, []}
use Rattle.std.proofs.Common.{◌∷◌, ◌++◌, Option, None, Some, length, set, take}
use Rattle.std.proofs.Common.{drop, filter_map, replicate, refl, sym, ap, ◌∙◌}
use Rattle.std.proofs.Common.{arith, subst, length-append, length-take, length-drop}
use Rattle.std.specs.Prelude.{IfSome, Contains}
use Rattle.std.specs.List.{cons_option}
use Rattle.std.specs.Option.{option_to_list}
use Rattle.std.proofs.lemmas.List.{length-set, length-replicate, set-get_or}
use Rattle.std.proofs.lemmas.List.Elements.{filter_map-append, Contains-append_right}
use Rattle.gh_base.specs.declared.ids.Serial.{Serial}
use Rattle.gh_base.specs.declared.limits.TheConstants.{OBJECT_INDICES}
use Rattle.gh_objects.specs.declared.count.Count.{Count}
use Rattle.gh_objects.specs.Counts.{count_at, doomed_serial, retired_serial}
use Rattle.gh_objects.specs.Rising.{with_option, place_in, Relists}
use Rattle.gh_objects.specs.Serials.{rising}
use Rattle.gh_objects.specs.Table.{AreListed}
use Rattle.gh_objects.proofs.ListLemmas.{set-pieces, length-filter_map-le}
use Rattle.gh_objects.proofs.RisingLemmas.{insert-place_in, rising-middle}
use Rattle.gh_objects.proofs.RisingLemmas.{length-with_serial, length-rising}

-- a serial from the middle, if there is one, can be put in last
rising-cons_option : (front : List Serial) (serial : Option Serial) (back : List Serial) → rising (front ++ cons_option serial back) ≡ with_option serial (rising (front ++ back))
rising-cons_option front None back = refl
rising-cons_option front (Some serial) back = rising-middle front serial back

Contains-with_option : (serial : Option Serial) (rest : List Serial) → IfSome serial (Contains (with_option serial rest))
Contains-with_option None rest = tt
Contains-with_option (Some serial) rest =
    let at = place_in serial rest in
    subst (λ (serials : List Serial). Contains serials serial) (insert-place_in serial rest)
    (Contains-append_right (take at rest) (serial ∷ drop at rest) serial (0, omega arith, refl))

length-with_option : (serial : Option Serial) (rest : List Serial) → length (with_option serial rest) ≡ length rest + length (option_to_list serial)
length-with_option None rest = omega arith
length-with_option (Some serial) rest = length-with_serial serial rest

module _ (serial_of : Option Count → Option Serial) (counts : List (Option Count)) (index : ℕ) (within : index < length counts) where
  -- the serials that the counts of the other indices list
  abbrev pub other_serials : List Serial
  other_serials = rising (filter_map serial_of (take index counts ++ drop (index + 1) counts))

  -- the list once this object is at the index
  pub listed-set : (count : Option Count) → rising (filter_map serial_of (set counts index count)) ≡ with_option (serial_of count) other_serials
  listed-set count =
      rw (set-pieces counts index count within, filter_map-append serial_of (take index counts) (count ∷ drop (index + 1) counts), filter_map-append serial_of (take index counts) (drop (index + 1) counts))
      (rising-cons_option (filter_map serial_of (take index counts)) (serial_of count) (filter_map serial_of (drop (index + 1) counts)))

  -- the list as it is
  pub listed-at : rising (filter_map serial_of counts) ≡ with_option (serial_of (count_at counts index)) other_serials
  listed-at = ap (λ os. rising (filter_map serial_of os)) (sym (set-get_or counts index None)) ∙ listed-set (count_at counts index)

-- what an object lists is in the list, and the others leave room for it
module _ (serial_of : Option Count → Option Serial) (counts : List (Option Count)) (index : ℕ) (list : List Serial) (serial : Option Serial)
    (within : index < length counts) (lists : list ≡ rising (filter_map serial_of counts)) (is : serial ≡ serial_of (count_at counts index)) where
  whole : list ≡ with_option serial (other_serials serial_of counts index within)
  whole = lists ∙ listed-at serial_of counts index within ∙ rw is refl

  pub listed : IfSome serial (Contains list)
  listed = rw whole (Contains-with_option serial (other_serials serial_of counts index within))

  pub room : length list < length counts + length (option_to_list serial)
  room =
      let others = take index counts ++ drop (index + 1) counts in
      omega (
        arith,
        ap length whole,
        length-with_option serial (other_serials serial_of counts index within),
        length-rising (filter_map serial_of others),
        length-filter_map-le serial_of others,
        length-append (take index counts) (drop (index + 1) counts),
        length-take index counts,
        length-drop (index + 1) counts,
      )

-- what stays true where an index gets another count, with its serials
pub AreListed-set : (counts : List (Option Count)) (doomed_list retired_list doomed_new retired_new : List Serial) (index : ℕ) (count : Option Count)
    → AreListed counts doomed_list retired_list → index < OBJECT_INDICES
    → Relists (doomed_serial (count_at counts index)) (doomed_serial count) doomed_list doomed_new
    → Relists (retired_serial (count_at counts index)) (retired_serial count) retired_list retired_new
    → AreListed (set counts index count) doomed_new retired_new
AreListed-set counts doomed_list retired_list doomed_new retired_new index count old within doomed retired =
    let there : index < length counts = omega (arith, old.indices) in
    record {
      indices = length-set counts index count ∙ old.indices;
      doomed_listed =
          doomed (other_serials doomed_serial counts index there) (old.doomed_listed ∙ listed-at doomed_serial counts index there)
          ∙ sym (listed-set doomed_serial counts index there count);
      retired_listed =
          retired (other_serials retired_serial counts index there) (old.retired_listed ∙ listed-at retired_serial counts index there)
          ∙ sym (listed-set retired_serial counts index there count);
    }

-- nothing is listed where there is no object
none-listed : (serial_of : Option Count → Option Serial) → serial_of None ≡ None → (count : ℕ) (counts : List (Option Count)) → counts ≡ replicate count None
    → [] ≡ rising (filter_map serial_of counts)
none-listed serial_of none count counts is = rw is (copies count)
  where
    copies : (n : ℕ) → [] ≡ rising (filter_map serial_of (replicate n None))
    copies zero = refl
    copies (suc n) = rw none (copies n)

-- no counts
pub AreListed-none : (counts : List (Option Count)) (doomed_list retired_list : List Serial) → counts ≡ replicate OBJECT_INDICES None
    → doomed_list ≡ [] → retired_list ≡ [] → AreListed counts doomed_list retired_list
AreListed-none counts doomed_list retired_list none no_doomed no_retired = record {
  indices = ap length none ∙ length-replicate {A = Option Count} OBJECT_INDICES None;
  doomed_listed = no_doomed ∙ none-listed doomed_serial refl OBJECT_INDICES counts none;
  retired_listed = no_retired ∙ none-listed retired_serial refl OBJECT_INDICES counts none;
}
