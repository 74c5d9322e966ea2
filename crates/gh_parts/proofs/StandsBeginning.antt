-- The parts before any boot line stand for the state of nothing.
use Rattle.std.proofs.Common.{◌≡◌, ◌∙◌, ℕ, List, [], Option, Some, None, refl, sym, ap, subst, arith, inl, inr}
use Rattle.std.proofs.Common.{replicate}
use Rattle.std.specs.Prelude.{count_by}
use Rattle.std.proofs.lemmas.Bool.{cases_lt}
use Rattle.std.proofs.lemmas.List.{get_or-replicate, get_or_past, length-replicate}
use Rattle.std.proofs.lemmas.List.Elements.{All-replicate}
use Rattle.gh_base.specs.declared.cap_word.CapWord.{CapWord}
use Rattle.gh_base.specs.declared.limits.TheConstants.{OBJECT_INDICES, PARTITION_PLACES, PARTITIONS}
use Rattle.gh_model.specs.Boot.{empty_state}
use Rattle.gh_objects.proofs.ListLemmas.{replicate-at}
use Rattle.gh_objects.specs.Counts.{count_at, no_counts}
use Rattle.gh_model.specs.declared.rows.CpuRow.{CpuRow}
use Rattle.gh_model.specs.declared.rows.LinkRow.{LinkRow}
use Rattle.gh_model.specs.declared.rows.TakenSlot.{TakenSlot}
use Rattle.gh_objects.specs.Headers.{HeaderTable, header_at, no_headers}
use Rattle.gh_objects.specs.declared.count.Count.{Count}
use Rattle.gh_objects.specs.declared.header.Header.{Header}
use Rattle.gh_parts.specs.Beginning.{no_journal, no_parts}
use Rattle.gh_parts.specs.Bodies.{bell_in, mappings_in, queue_in, space_in, span_in}
use Rattle.gh_parts.specs.Index.{index_of}
use Rattle.gh_parts.specs.Shares.{AreShares, body_at, no_place, no_shares, place_in}
use Rattle.gh_parts.specs.Slots.{is_home}
use Rattle.gh_parts.specs.Stands.{Stands}
use Rattle.gh_parts.specs.declared.body.Body.TheVariants.{Nothing}
use Rattle.gh_parts.specs.declared.journal.Account.{Account}
use Rattle.gh_parts.specs.declared.journal.Journal.{Journal}
use Rattle.gh_parts.specs.declared.journal.Memory.TheVariants.{Bare}
use Rattle.gh_parts.specs.declared.slots.Slots.{Slots}
use Rattle.gh_parts.specs.declared.shares.Place.{Place}
use Rattle.gh_parts.proofs.BlockLemmas.{no_blocks}
use Rattle.gh_parts.proofs.PlaceLemmas.{share_of, sized_share, spot_of}
use Rattle.gh_parts.proofs.SlotNumbers.{slot_within, word_is}

no_header : (index : ℕ) → header_at no_headers.headers index ≡ None
no_header index = replicate-at None OBJECT_INDICES (replicate OBJECT_INDICES None) refl index

no_count : (index : ℕ) → count_at no_counts index ≡ None
no_count index = replicate-at None OBJECT_INDICES (replicate OBJECT_INDICES None) refl index

pub shares_whole_new : AreShares no_shares
shares_whole_new = record {
  partitions = length-replicate {A = List Place} PARTITIONS (replicate PARTITION_PLACES no_place);
  places =
      All-replicate sized_share PARTITIONS (replicate PARTITION_PLACES no_place)
      (length-replicate {A = Place} PARTITION_PLACES no_place);
}

no_body : (index : ℕ) → body_at no_shares index ≡ Nothing
no_body index =
    elim (cases_lt (share_of index) PARTITIONS) [
      | inl below ↦
          ap (λ (places : List Place). (place_in places (spot_of index)).body)
          (get_or-replicate PARTITIONS (share_of index) (replicate PARTITION_PLACES no_place) [] below)
          ∙ ap (λ (place : Place). place.body)
          (replicate-at no_place PARTITION_PLACES (replicate PARTITION_PLACES no_place) refl (spot_of index))
      | inr past ↦
          ap (λ (places : List Place). (place_in places (spot_of index)).body)
          (get_or_past no_shares (share_of index) []
          (omega (arith, length-replicate {A = List Place} PARTITIONS (replicate PARTITION_PLACES no_place))))
    ]

never_found : (index : ℕ) (header : Header) → header_at no_headers.headers index ≡ Some header → ⊥
never_found index header is =
    let none : header_at no_headers.headers index ≡ None = no_header index in
    let never : ⊥ = cc in
    never

pub new_stands : Stands no_parts empty_state
new_stands = record {
  objects = record {
    indexed = record {
      indices = length-replicate {A = Option Header} OBJECT_INDICES None;
      alone = λ index header is. absurd (never_found index header is);
    };
    whole = shares_whole_new;
    each = λ x. no_header (index_of no_headers.headers x);
    costs = λ x row is. absurd (let never : ⊥ = cc in never);
    retired = λ x row is. absurd (let never : ⊥ = cc in never);
    room = length-replicate {A = Option (List ℕ)} OBJECT_INDICES None;
  };
  blocks = no_blocks;
  kinds = λ x. refl;
  references = record {
    each = λ x. no_count (index_of no_headers.headers x);
    bare = λ index none. no_count index;
  };
  bells = λ x. ap (bell_in x) (sym (no_body (index_of no_headers.headers x)));
  queues = λ x. ap (queue_in x) (sym (no_body (index_of no_headers.headers x)));
  spans = λ x. ap (span_in x) (sym (no_body (index_of no_headers.headers x)));
  spaces = record {
    mappings = λ x. ap (mappings_in x) (sym (no_body (index_of no_headers.headers x)));
    access = λ x space is.
        absurd (let none : space_in (body_at no_shares (index_of no_headers.headers x)) ≡ None = ap space_in (no_body (index_of no_headers.headers x)) in
        let never : ⊥ = cc in never);
  };
  slots = record {
    homes = λ x. refl;
    once = λ x. let none : count_by (is_home x) [] ≡ 0 = refl in omega arith;
    sized = λ x slots is. absurd (let never : ⊥ = cc in never);
    words = λ cspace slot is. ap (λ (word : CapWord). word.0) (word_is [] slot (slot_within slot is));
  };
  units = λ x. refl;
  memory = record { rows = refl; pages = refl };
  numbers = record {
    cpus = refl;
    links = refl;
    taken = refl;
    entries = refl;
    serials = refl;
    handles = refl;
    rings = refl;
  };
}

-- a journal of its lists
journal_of : List (Option Count) → List (Option (List ℕ)) → List Slots → List Account → List CpuRow
    → List LinkRow → List TakenSlot → Journal
journal_of counts retirements slots accounts cpus links taken = record {
  counts = counts;
  retirements = retirements;
  slots = slots;
  accounts = accounts;
  memory = Bare 0;
  cpus = cpus;
  links = links;
  taken = taken;
  entries = 0;
  next_serial = 1;
  next_handle = 1;
  rings = 0;
}

-- whose lists are those of nothing
pub journal_is : (counts : List (Option Count)) (retirements : List (Option (List ℕ))) (slots : List Slots)
    (accounts : List Account) (cpus : List CpuRow) (links : List LinkRow) (taken : List TakenSlot)
    → counts ≡ no_counts → retirements ≡ replicate OBJECT_INDICES None → slots ≡ [] → accounts ≡ []
    → cpus ≡ [] → links ≡ [] → taken ≡ []
    → record {
      counts = counts;
      retirements = retirements;
      slots = slots;
      accounts = accounts;
      memory = Bare 0;
      cpus = cpus;
      links = links;
      taken = taken;
      entries = 0;
      next_serial = 1;
      next_handle = 1;
      rings = 0;
    } ≡ no_journal
unfolding journal_of
journal_is counts retirements slots accounts cpus links taken a b c d e f g =
    ap (λ (x : List (Option Count)). journal_of x retirements slots accounts cpus links taken) a
    ∙ ap (λ (x : List (Option (List ℕ))). journal_of no_counts x slots accounts cpus links taken) b
    ∙ ap (λ (x : List Slots). journal_of no_counts (replicate OBJECT_INDICES None) x accounts cpus links taken) c
    ∙ ap (λ (x : List Account). journal_of no_counts (replicate OBJECT_INDICES None) [] x cpus links taken) d
    ∙ ap (λ (x : List CpuRow). journal_of no_counts (replicate OBJECT_INDICES None) [] [] x links taken) e
    ∙ ap (λ (x : List LinkRow). journal_of no_counts (replicate OBJECT_INDICES None) [] [] [] x taken) f
    ∙ ap (λ (x : List TakenSlot). journal_of no_counts (replicate OBJECT_INDICES None) [] [] [] [] x) g

-- parts of nothing
pub parts_stand : (table : HeaderTable) (shares : List (List Place)) (journal : Journal) → table ≡ no_headers
    → shares ≡ no_shares → journal ≡ no_journal
    → Stands (record { table = table; shares = shares; journal = journal }) empty_state
parts_stand table shares journal a b c =
    subst (λ (x : HeaderTable). Stands (record { table = x; shares = shares; journal = journal }) empty_state) (sym a)
    (subst (λ (x : List (List Place)). Stands (record { table = no_headers; shares = x; journal = journal }) empty_state) (sym b)
    (subst (λ (x : Journal). Stands (record { table = no_headers; shares = no_shares; journal = x }) empty_state) (sym c)
    new_stands))
