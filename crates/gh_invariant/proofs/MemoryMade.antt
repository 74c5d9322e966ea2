-- The changes of the calls on memory may be made.
use Rattle.std.proofs.Common.{◌≡◌, ◌+◌, ℕ, Bool, true, false, not, length, refl, subst, sym, Option, Some, None, IsTrue, find, if◌then◌else◌}
use Rattle.std.specs.Prelude.{◌&&◌, ◌==◌, nat_lt, nat_le, count_by}
use Rattle.std.specs.List.{list_any}
use Rattle.std.proofs.lemmas.Bool.{and_parts, and_from, eqb-true}
use Rattle.gh_base.specs.declared.errno.Errno.TheVariants.{AddrInval, AddrOvfl, ArgInval, ArgSize, Busy, Denied, Nomem}
use Rattle.gh_base.specs.declared.ids.Serial.{Serial}
use Rattle.gh_base.specs.declared.kind.Kind.TheVariants as kind
use Rattle.gh_model.specs.Boot.{access_fits, is_row_of, overlaps}
use Rattle.gh_model.specs.Changes.{is_mapping}
use Rattle.gh_model.specs.Decisions.{done}
use Rattle.gh_model.specs.MemoryCalls.{are_related, donated, donated_at, donated_to, holds_run, is_within_span, mapped, mapped_at, mapped_row, mapping_row, meant_count, meant_offset, page_of, unmapped, unmapped_row}
use Rattle.gh_model.specs.Registers.{has_partial}
use Rattle.gh_model.specs.Rows.{is_extent}
use Rattle.gh_model.specs.declared.change.Change.TheVariants.{DropMapping, MovePages, PutMapping}
use Rattle.gh_model.specs.declared.rows.ExtentRow.{ExtentRow}
use Rattle.gh_model.specs.declared.rows.MappingRow.{MappingRow}
use Rattle.gh_model.specs.declared.state.State.{State}
use Rattle.gh_invariant.specs.Grants.{MayMake, is_referred}
use Rattle.gh_invariant.specs.Lives.{lives_as, span_fits, spans_row}
use Rattle.gh_invariant.specs.Premises.{MayMap, MayUnmap}
use Rattle.gh_invariant.specs.Valid.{IsValid}
use Rattle.gh_invariant.proofs.Counting.{found_all, found_passes}
use Rattle.gh_invariant.proofs.Referred.{may_refer}
use Rattle.gh_invariant.proofs.MayMake.{at_most_by, below_by, not_false, one, unless}

-- the pages that map means are some: the extent's, or with PARTIAL those of a size that isn't 0
meant_some_by : (partial : Bool) (pages size : ℕ) → IsTrue (nat_lt 0 pages)
    → (partial ≡ true → IsTrue (nat_lt 0 (page_of size))) → IsTrue (nat_lt 0 (if partial then page_of size else pages))
meant_some_by true pages size span part = part refl
meant_some_by false pages size span part = span

module _ (s : State) (valid : IsValid s) where
  -- a span has a page
  pub span_some : (extent : ℕ) (row : ExtentRow) → find (is_extent extent) s.extents ≡ Some row → IsTrue (nat_lt 0 row.count)
  span_some extent row found =
      let fits : IsTrue (span_fits (length s.holders) s.extents row) =
      found_all (is_extent extent) (span_fits (length s.holders) s.extents) s.extents row valid.pages.spans found in
      let front = and_parts (nat_lt 0 row.count && nat_le (row.first.0 + row.count) (length s.holders)) _ fits in
      (and_parts (nat_lt 0 row.count) (nat_le (row.first.0 + row.count) (length s.holders)) front.0).0

  mapped_at_made : (space extent : Serial) (row : ExtentRow) (base offset count access : ℕ)
      → find (is_extent extent.0) s.extents ≡ Some row → IsTrue (nat_lt 0 count)
      → IsTrue (lives_as s.objects space.0 kind.Space) → IsTrue (lives_as s.objects extent.0 kind.Extent)
      → IsTrue (is_referred s space) → IsTrue (is_referred s extent)
      → MayMake s (mapped_at s space extent row base offset count access)
  mapped_at_made space extent row base offset count access found some home pages from_space from_extent =
      unless s (nat_lt 4096 (base + count)) AddrOvfl _ (λ within.
      unless s (nat_lt row.count (offset + count)) ArgSize _ (λ spans.
      unless s (not (access_fits access row.access.0)) Denied _ (λ allowed.
      unless s (list_any (overlaps space.0 base count) s.mappings) Busy _ (λ apart.
      unless s (nat_le 64 (count_by (is_row_of space.0) s.mappings)) Nomem _ (λ few.
      let new : MappingRow = mapped_row space extent base offset count access in
      let covered : IsTrue (spans_row new (find (is_extent extent.0) s.extents)) =
      subst (λ (o : Option ExtentRow). IsTrue (spans_row new o)) (sym found)
      (and_from _ _ (at_most_by row.count (offset + count) spans) (not_false _ allowed)) in
      let may : MayMap s new = record {
        stands = and_from _ _ (and_from _ _ (and_from _ _ (and_from _ _ home pages) some) (at_most_by 4096 (base + count) within)) covered;
        apart = apart;
        few = below_by 64 (count_by (is_row_of space.0) s.mappings) few;
        from_space = may_refer s valid space from_space;
        from_extent = may_refer s valid extent from_extent;
      } in
      one s (PutMapping new) done may)))))

  pub mapped_made : (space extent : Serial) (base access flags offset size : ℕ) (row : Option ExtentRow)
      → find (is_extent extent.0) s.extents ≡ row → (has_partial flags ≡ true → IsTrue (nat_lt 0 (page_of size)))
      → IsTrue (lives_as s.objects space.0 kind.Space) → IsTrue (lives_as s.objects extent.0 kind.Extent)
      → IsTrue (is_referred s space) → IsTrue (is_referred s extent)
      → MayMake s (mapped s space extent base access flags offset size row)
  mapped_made space extent base access flags offset size None found part home pages from_space from_extent = tt
  mapped_made space extent base access flags offset size (Some row) found part home pages from_space from_extent =
      mapped_at_made space extent row (page_of base) (meant_offset flags offset) (meant_count row flags size) access found
      (meant_some_by (has_partial flags) row.count size (span_some extent.0 row found) part) home pages from_space from_extent

-- the row that is found names its own place
unmapped_row_made : (s : State) (space extent : Serial) (base offset count : ℕ) (row : Option MappingRow)
    → mapping_row s space extent base offset count ≡ row → MayMake s (unmapped_row row)
unmapped_row_made s space extent base offset count None found = tt
unmapped_row_made s space extent base offset count (Some row) found = one s (DropMapping row) done (own row found)
  where
    own : (row : MappingRow) → mapping_row s space extent base offset count ≡ Some row → MayUnmap s row
    own row found =
        let five = and_parts _ (row.count == count) (found_passes (is_mapping space.0 extent.0 base offset count) s.mappings row found) in
        let four = and_parts _ (row.offset == offset) five.0 in
        let three = and_parts _ (row.base == base) four.0 in
        let two = and_parts _ (row.extent.0 == extent.0) three.0 in
        let one = and_parts _ (row.space.0 == space.0) two.0 in
        let at-count : row.count ≡ count = eqb-true row.count count five.1 in
        let at-offset : row.offset ≡ offset = eqb-true row.offset offset four.1 in
        let at-base : row.base ≡ base = eqb-true row.base base three.1 in
        let at-extent : row.extent.0 ≡ extent.0 = eqb-true row.extent.0 extent.0 two.1 in
        let at-space : row.space.0 ≡ space.0 = eqb-true row.space.0 space.0 one.1 in
        let first : find (is_mapping space.0 extent.0 base offset row.count) s.mappings ≡ Some row =
        subst (λ (n : ℕ). find (is_mapping space.0 extent.0 base offset n) s.mappings ≡ Some row) (sym at-count) found in
        let second : find (is_mapping space.0 extent.0 base row.offset row.count) s.mappings ≡ Some row =
        subst (λ (n : ℕ). find (is_mapping space.0 extent.0 base n row.count) s.mappings ≡ Some row) (sym at-offset) first in
        let third : find (is_mapping space.0 extent.0 row.base row.offset row.count) s.mappings ≡ Some row =
        subst (λ (n : ℕ). find (is_mapping space.0 extent.0 n row.offset row.count) s.mappings ≡ Some row) (sym at-base) second in
        let fourth : find (is_mapping space.0 row.extent.0 row.base row.offset row.count) s.mappings ≡ Some row =
        subst (λ (n : ℕ). find (is_mapping space.0 n row.base row.offset row.count) s.mappings ≡ Some row) (sym at-extent) third in
        subst (λ (n : ℕ). find (is_mapping n row.extent.0 row.base row.offset row.count) s.mappings ≡ Some row) (sym at-space) fourth

pub unmapped_made : (s : State) (space extent : Serial) (base flags offset size : ℕ) (row : Option ExtentRow)
    → MayMake s (unmapped s space extent base flags offset size row)
unmapped_made s space extent base flags offset size None = tt
unmapped_made s space extent base flags offset size (Some row) =
    unmapped_row_made s space extent (page_of base) (meant_offset flags offset) (meant_count row flags size) _ refl

-- donate: the receiver that is found is the new holder
donated_at_made : (s : State) (relation to : ℕ) (giver receiver : ExtentRow) (first count : ℕ)
    → find (is_extent to) s.extents ≡ Some receiver → MayMake s (donated_at s relation giver receiver first count)
donated_at_made s relation to giver receiver first count found =
    unless s (not (are_related relation giver receiver)) ArgInval _ (λ related.
    unless s (not (is_within_span receiver first count)) AddrInval _ (λ within.
    unless s (not (holds_run s.holders giver.serial first count)) Denied _ (λ held.
    let same : receiver.serial.0 ≡ to = eqb-true receiver.serial.0 to (found_passes (is_extent to) s.extents receiver found) in
    let own : find (is_extent receiver.serial.0) s.extents ≡ Some receiver =
    subst (λ (n : ℕ). find (is_extent n) s.extents ≡ Some receiver) (sym same) found in
    one s (MovePages first count receiver.serial) done (record { row = receiver; found = own; within = not_false _ within }))))

donated_to_made : (s : State) (relation offset count to : ℕ) (giver : ExtentRow) (receiver : Option ExtentRow)
    → find (is_extent to) s.extents ≡ receiver → MayMake s (donated_to s relation offset count giver receiver)
donated_to_made s relation offset count to giver None found = tt
donated_to_made s relation offset count to giver (Some receiver) found =
    donated_at_made s relation to giver receiver (giver.first.0 + offset) count found

pub donated_made : (s : State) (relation : ℕ) (receiver : Serial) (offset count : ℕ) (giver : Option ExtentRow)
    → MayMake s (donated s relation receiver offset count giver)
donated_made s relation receiver offset count None = tt
donated_made s relation receiver offset count (Some giver) =
    donated_to_made s relation offset count receiver.0 giver _ refl
