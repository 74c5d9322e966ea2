-- The parts stand for the rows once a run of pages has another holder.
use Rattle.std.proofs.Common.{◌≡◌, ◌<◌, ◌≤◌, ◌+◌, ◌-◌, ◌∙◌, ℕ, List, [], Option, Some, None, refl, sym, ap, subst, arith, find, length, map}
use Rattle.std.specs.Prelude.{IsSome}
use Rattle.std.proofs.lemmas.Bool.{and_parts, leb-true}
use Rattle.gh_base.specs.declared.ids.Serial.{Serial}
use Rattle.gh_addrspace.specs.Space.{Shows, Space as Mapped}
use Rattle.gh_extent.proofs.RunLemmas.{length-moved}
use Rattle.gh_invariant.proofs.Counting.{found_all}
use Rattle.gh_invariant.specs.Lives.{span_fits}
use Rattle.gh_invariant.specs.Premises.{MayMove}
use Rattle.gh_invariant.specs.Valid.{IsValidWithin}
use Rattle.gh_model.specs.Changes.{move_pages, move_run}
use Rattle.gh_model.specs.Memory.{HoldsRun}
use Rattle.gh_model.specs.Rows.{is_extent, is_object}
use Rattle.gh_model.specs.declared.memory.Span.{Span}
use Rattle.gh_model.specs.declared.rows.ExtentRow.{ExtentRow}
use Rattle.gh_model.specs.declared.state.State.{State}
use Rattle.gh_objects.specs.declared.header.Header.{Header}
use Rattle.gh_parts.specs.Bodies.{body_of, mapping_row, mappings_in, space_in}
use Rattle.gh_parts.specs.Index.{index_of}
use Rattle.gh_parts.specs.MappingChanges.{Remaps}
use Rattle.gh_parts.specs.PageMoves.{CanMove, Follows, Gives, MovesRun, PlaceChanges, with_run}
use Rattle.gh_parts.specs.Shares.{place_at}
use Rattle.gh_parts.specs.Stands.{Stands, extent_rows, page_holders, span_row_of}
use Rattle.gh_parts.specs.declared.body.Body.{Body}
use Rattle.gh_parts.specs.declared.body.Body.TheVariants.{Bell, Extent, NewQueue, Nothing, Queue, Space}
use Rattle.gh_parts.specs.declared.journal.Memory.{Memory}
use Rattle.gh_parts.specs.declared.journal.Memory.TheVariants.{Bare, Held}
use Rattle.gh_parts.specs.declared.parts.Parts.{Parts}
use Rattle.gh_parts.proofs.MappingLemmas.{KeepsRows, remapped_keeps}
use Rattle.gh_parts.proofs.MoveLemmas.{move_more, run_moves}
use Rattle.gh_parts.proofs.Options.{some_same}
use Rattle.gh_parts.proofs.SharesChanged.{place_changed, shares_changed}
use Rattle.gh_parts.proofs.StandsMapped.{ShowsIn}

module _ (from : ℕ) (to : Serial) (first count : ℕ) where
  -- an address space that has followed has its rows
  followed_rows : (serial : ℕ) (old new : Body) → Remaps (Follows from to first count) old new
      → mappings_in serial new ≡ mappings_in serial old
  followed_rows serial (Space a) (Space b) so = ap (map (mapping_row serial)) so.rows
  followed_rows serial (Space a) Nothing so = absurd so
  followed_rows serial (Space a) (Bell words) so = absurd so
  followed_rows serial (Space a) NewQueue so = absurd so
  followed_rows serial (Space a) (Queue queue) so = absurd so
  followed_rows serial (Space a) (Extent span) so = absurd so
  followed_rows serial Nothing new so = ap (mappings_in serial) so
  followed_rows serial (Bell words) new so = ap (mappings_in serial) so
  followed_rows serial NewQueue new so = ap (mappings_in serial) so
  followed_rows serial (Queue queue) new so = ap (mappings_in serial) so
  followed_rows serial (Extent span) new so = ap (mappings_in serial) so

  no_space : (spans : ℕ → Option Span) (holders : List Serial) (old new : Body) → new ≡ old → space_in old ≡ None
      → ShowsIn spans holders new
  no_space spans holders old new same none space is =
      let some : Some space ≡ None = sym is ∙ ap space_in same ∙ none in absurd (let never : ⊥ = cc in never)

  -- and shows who holds the pages now
  followed_shows : (spans : ℕ → Option Span) (holders : List Serial) → HoldsRun holders from first count
      → (old new : Body) → Remaps (Follows from to first count) old new → ShowsIn spans holders old
      → ShowsIn spans (move_pages first count to holders) new
  followed_shows spans holders run (Space a) (Space b) so shown space is =
      subst (Shows spans (move_pages first count to holders)) (some_same b space is)
      (so.shows spans holders (shown a refl) run)
  followed_shows spans holders run (Space a) Nothing so shown space is = absurd so
  followed_shows spans holders run (Space a) (Bell words) so shown space is = absurd so
  followed_shows spans holders run (Space a) NewQueue so shown space is = absurd so
  followed_shows spans holders run (Space a) (Queue queue) so shown space is = absurd so
  followed_shows spans holders run (Space a) (Extent span) so shown space is = absurd so
  followed_shows spans holders run Nothing new so shown space is =
      no_space spans (move_pages first count to holders) Nothing new so refl space is
  followed_shows spans holders run (Bell words) new so shown space is =
      no_space spans (move_pages first count to holders) (Bell words) new so refl space is
  followed_shows spans holders run NewQueue new so shown space is =
      no_space spans (move_pages first count to holders) NewQueue new so refl space is
  followed_shows spans holders run (Queue queue) new so shown space is =
      no_space spans (move_pages first count to holders) (Queue queue) new so refl space is
  followed_shows spans holders run (Extent span) new so shown space is =
      no_space spans (move_pages first count to holders) (Extent span) new so refl space is

  -- the pages have another holder of the run
  with_run_pages : (memory : Memory) (holders : List Serial) → Gives memory from to.0 first count
      → page_holders memory ≡ holders → page_holders (with_run first count to memory) ≡ move_pages first count to holders
  with_run_pages (Bare pages) holders gives is = absurd gives
  with_run_pages (Held extents) holders gives is = ap (move_pages first count to) is

  with_run_rows : (memory : Memory) → extent_rows (with_run first count to memory) ≡ extent_rows memory
  with_run_rows (Bare pages) = refl
  with_run_rows (Held extents) = refl

  -- pages that stand for a run that the one extent holds are given
  gives_in : (memory : Memory) (extents : List ExtentRow) → extent_rows memory ≡ extents
      → HoldsRun (page_holders memory) from first count → IsSome (find (is_extent to.0) extents)
      → Gives memory from to.0 first count
  gives_in (Bare pages) extents is run some =
      absurd (let none : IsSome (find (is_extent to.0) []) = subst (λ (rows : List ExtentRow). IsSome (find (is_extent to.0) rows)) (sym is) some in
      let never : ⊥ = cc in never)
  gives_in (Held held) extents is run some = record {
    run = run;
    row = subst (λ (rows : List ExtentRow). IsSome (find (is_extent to.0) rows)) (sym is) some;
  }

  module _ (parts now : Parts) (s : State) (stand : Stands parts s) (run : HoldsRun s.holders from first count)
      (gives : Gives parts.journal.memory from to.0 first count) (moves : MovesRun from to first count parts now) where
    abbrev headers : List (Option Header)
    headers = parts.table.headers

    abbrev change : Mapped → Mapped → Type 0
    change = Follows from to first count

    place : (serial : ℕ) → PlaceChanges (Follows from to first count) (place_at parts.shares (index_of headers serial)) (place_at now.shares (index_of headers serial))
    place serial = place_changed change parts.shares now.shares moves.shares (index_of headers serial)

    keeps : (serial : ℕ) → KeepsRows serial (body_of headers now.shares serial) (body_of headers parts.shares serial)
    keeps serial = remapped_keeps change serial (body_of headers parts.shares serial) (body_of headers now.shares serial) (place serial).body

    holders_now : (move_run first count to s).holders ≡ move_pages first count to s.holders
    holders_now = run_moves first count to s.holders run.within

    moved_stands : Stands (record parts {
      shares = now.shares;
      journal = record (parts.journal) { memory = with_run first count to parts.journal.memory };
    }) (move_run first count to s)
    moved_stands = record {
      objects = record {
        indexed = stand.objects.indexed;
        whole = shares_changed change parts.shares now.shares moves.shares stand.objects.whole;
        each = stand.objects.each;
        costs = λ serial row is. (place serial).cost ∙ stand.objects.costs serial row is;
        retired = stand.objects.retired;
        room = stand.objects.room;
      };
      blocks = stand.blocks;
      kinds = λ serial. (keeps serial).kind (find (is_object serial) s.objects) ∙ stand.kinds serial;
      references = record { each = stand.references.each; bare = stand.references.bare };
      bells = λ serial. stand.bells serial ∙ sym (keeps serial).bells;
      queues = λ serial. stand.queues serial ∙ sym (keeps serial).queues;
      spans = λ serial. stand.spans serial ∙ sym (keeps serial).spans;
      spaces = record {
        mappings = λ serial.
            stand.spaces.mappings serial
            ∙ sym (followed_rows serial (body_of headers parts.shares serial) (body_of headers now.shares serial) (place serial).body);
        access = λ serial.
            subst (λ (holders : List Serial). ShowsIn (span_row_of s.extents) holders (body_of headers now.shares serial)) (sym holders_now)
            (followed_shows (span_row_of s.extents) s.holders run (body_of headers parts.shares serial) (body_of headers now.shares serial)
            (place serial).body (stand.spaces.access serial));
      };
      slots = stand.slots;
      units = stand.units;
      memory = record {
        rows = with_run_rows parts.journal.memory ∙ stand.memory.rows;
        pages = with_run_pages parts.journal.memory s.holders gives stand.memory.pages ∙ sym holders_now;
      };
      numbers = record {
        cpus = stand.numbers.cpus;
        links = stand.numbers.links;
        taken = stand.numbers.taken;
        entries = stand.numbers.entries;
        serials = stand.numbers.serials;
        handles = stand.numbers.handles;
        rings = stand.numbers.rings;
      };
    }

    pub run_stands : Stands now (move_run first count to s)
    run_stands = subst (λ (p : Parts). Stands p (move_run first count to s)) (sym moves.parts) moved_stands

-- a move that may be made is one of the machine's pages
pub may_move : (s : State) (first count : ℕ) (holder : Serial) → IsValidWithin s → MayMove s first count holder
    → CanMove s first count holder
may_move s first count holder valid may =
    let fits : span_fits (length s.holders) s.extents may.row ≡ _ =
    found_all (is_extent holder.0) (span_fits (length s.holders) s.extents) s.extents may.row valid.pages.spans may.found in
    let ends : may.row.first.0 + may.row.count ≤ length s.holders = leb-true _ _ (and_parts _ _ (and_parts _ _ fits).0).1 in
    let within : first + count ≤ may.row.first.0 + may.row.count = leb-true _ _ (and_parts _ _ may.within).1 in
    record {
      within = omega (arith, ends, within);
      few = valid.pages.few;
      to = subst (λ (found : Option ExtentRow). IsSome found) (sym may.found) refl;
    }

-- the pages behind those of a run that have moved
module _ (parts : Parts) (s : State) (first done count : ℕ) (holder : Serial)
    (stand : Stands parts (move_run first done holder s)) (can : CanMove s first count holder) (left : done < count) where
  pages_now : length (page_holders parts.journal.memory) ≡ length s.holders
  pages_now =
      ap length (stand.memory.pages ∙ run_moves first done holder s.holders (omega (arith, can.within, left)))
      ∙ length-moved first done holder s.holders (omega (arith, can.within, left))

  pub next_within : first + done + (count - done) ≤ length (page_holders parts.journal.memory)
  next_within = omega (arith, can.within, left, pages_now)

  module _ (from : Serial) (pages : ℕ) (most : pages ≤ count - done)
      (run : HoldsRun (page_holders parts.journal.memory) from.0 (first + done) pages) where
    pub next_gives : Gives parts.journal.memory from.0 holder.0 (first + done) pages
    next_gives = gives_in from.0 holder (first + done) pages parts.journal.memory s.extents stand.memory.rows run can.to

    pub next_stands : (now : Parts) → MovesRun from.0 holder (first + done) pages parts now
        → Stands now (move_run first (done + pages) holder s)
    next_stands now moves =
        subst (Stands now) (move_more first done pages holder s (omega (arith, can.within, left, most)))
        (run_stands from.0 holder (first + done) pages parts now (move_run first done holder s) stand
        (subst (λ (holders : List Serial). HoldsRun holders from.0 (first + done) pages) stand.memory.pages run) next_gives moves)
