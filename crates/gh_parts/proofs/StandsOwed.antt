-- The parts stand for the rows once a reference more or less is counted.
use Rattle.std.proofs.Common.{◌≡◌, ◌∙◌, ◌∷◌, ℕ, List, Option, None, Some, refl, sym, ap, subst, arith, length, ◌+◌, ◌-◌, ◌<◌, ◌≤◌}
use Rattle.std.proofs.Common.{◌==◌, Bool, true, false, []}
use Rattle.std.specs.Prelude.{IfSome, ◌^◌}
use Rattle.std.proofs.lemmas.List.{get_or_past}
use Rattle.gh_base.specs.declared.ids.ObjIndex.{ObjIndex}
use Rattle.gh_base.specs.declared.ids.Serial.{Serial}
use Rattle.gh_invariant.specs.Effects.{is_that, times}
use Rattle.gh_invariant.specs.Lives.{lives}
use Rattle.gh_invariant.proofs.Counting.{count_cons}
use Rattle.gh_model.specs.QueueCalls.{one_if}
use Rattle.gh_model.specs.References.{references}
use Rattle.gh_model.specs.declared.state.State.{State}
use Rattle.gh_objects.specs.Counts.{count_at, count_changed, with_reference, without_reference}
use Rattle.gh_objects.specs.Headers.{header_at}
use Rattle.gh_objects.specs.declared.count.Count.{Count}
use Rattle.gh_parts.specs.Index.{found_index, index_of}
use Rattle.gh_parts.specs.Making.{HasRoom}
use Rattle.gh_parts.specs.Owing.{HasCount, recounted}
use Rattle.gh_parts.specs.Stands.{StandsOwing}
use Rattle.gh_parts.specs.declared.parts.Parts.{Parts}
use Rattle.gh_parts.proofs.IndexLemmas.{found_at, unfound_past}
use Rattle.gh_parts.proofs.StandsCounts.{Recounts, countable, owe_recounts, owed_some, references_recounted, settle_recounts}
use Rattle.gh_parts.proofs.StandsCounts.{uncounted}

-- with these counts
abbrev pub counted : Parts → List (Option Count) → Parts
counted parts counts = record parts { journal = record (parts.journal) { counts = counts } }

-- what is so of the object's count is so at the index that is found
pub count_found : (parts : Parts) (serial : ℕ) (index : ObjIndex) (P : ℕ → Type 0)
    → HasCount parts serial P → Some index ≡ found_index parts.table.headers serial
    → IfSome (count_at parts.journal.counts index.0) (λ (count : Count). P count.references)
count_found parts serial index P has found =
    subst (λ (i : ℕ). IfSome (count_at parts.journal.counts i) (λ (count : Count). P count.references))
    (found_at parts.table.headers serial index (sym found)) has.count

-- the count is changed at the index that is found
pub found_recounted : (parts : Parts) (serial : ℕ) (change : Count → Count) (index : ObjIndex)
    (now : List (Option Count)) → Some index ≡ found_index parts.table.headers serial
    → now ≡ count_changed change parts.journal.counts index.0
    → recounted change parts serial ≡ counted parts now
found_recounted parts serial change index now found is =
    ap (counted parts)
    (ap (count_changed change parts.journal.counts) (found_at parts.table.headers serial index (sym found)) ∙ sym is)

-- and no count where none is found
pub unfound_recounted : (parts : Parts) (serial : ℕ) (change : Count → Count)
    → ((index : ℕ) → header_at parts.table.headers index ≡ None → count_at parts.journal.counts index ≡ None)
    → None ≡ found_index parts.table.headers serial → recounted change parts serial ≡ parts
unfound_recounted parts serial change bare none =
    ap (counted parts)
    (uncounted change parts.journal.counts (index_of parts.table.headers serial)
    (bare _ (get_or_past parts.table.headers _ None (unfound_past parts.table.headers serial (sym none)))))

module _ (parts : Parts) (s : State) (object : Serial) (before after : List Serial)
    (change : Count → Count) (recounts : Recounts s object.0 before after change)
    (stand : StandsOwing before parts s) where
  -- the count of the object is changed with what is owed
  pub owed_stands : StandsOwing after (recounted change parts object.0) s
  owed_stands = record {
    objects = stand.objects;
    kinds = stand.kinds;
    references =
        references_recounted parts.table.headers parts.journal.counts s object.0 before after change
        stand.objects.indexed recounts stand.references;
    bells = stand.bells;
    queues = stand.queues;
    spans = stand.spans;
    spaces = stand.spaces;
    slots = stand.slots;
    units = stand.units;
    memory = stand.memory;
    blocks = stand.blocks;
    numbers = record {
      cpus = stand.numbers.cpus;
      links = stand.numbers.links;
      taken = stand.numbers.taken;
      entries = stand.numbers.entries;
      serials = stand.numbers.serials;
      handles = stand.numbers.handles;
      rings = stand.numbers.rings;
    };
  }

-- what holds of the references of an object that lives and of those that are owed holds of its count
pub has_count : (parts : Parts) (s : State) (owed : List Serial) (object : ℕ) (P : ℕ → Type 0)
    → StandsOwing owed parts s
    → (lives s.objects object ≡ true → P (references s object + times object owed))
    → HasCount parts object P
has_count parts s owed object P stand holds = record {
  indexed = stand.objects.indexed;
  bare = stand.references.bare;
  count =
      countable parts.table.headers parts.journal.counts owed s object
      (index_of parts.table.headers object) refl stand.references P holds;
}

-- a reference that is counted is owed
pub owed_next : (parts now : Parts) (s : State) (owed : List Serial) (object : Serial)
    → StandsOwing owed parts s → now ≡ recounted with_reference parts object.0
    → StandsOwing (object ∷ owed) now s
owed_next parts now s owed object stand is =
    subst (λ (next : Parts). StandsOwing (object ∷ owed) next s) (sym is)
    (owed_stands parts s object owed (object ∷ owed) with_reference (owe_recounts s object owed) stand)

-- and one that is counted no more is no more owed
pub settled_next : (parts now : Parts) (s : State) (owed : List Serial) (object : Serial)
    → StandsOwing (object ∷ owed) parts s → now ≡ recounted without_reference parts object.0
    → StandsOwing owed now s
settled_next parts now s owed object stand is =
    subst (λ (next : Parts). StandsOwing owed next s) (sym is)
    (owed_stands parts s object (object ∷ owed) owed without_reference (settle_recounts s object owed) stand)

-- an object with a reference that is owed has a count
pub owed_has : (parts : Parts) (s : State) (owed : List Serial) (object : Serial)
    → StandsOwing (object ∷ owed) parts s → HasCount parts object.0 (λ (n : ℕ). 1 ≤ n)
owed_has parts s owed object stand =
    has_count parts s (object ∷ owed) object.0 (λ (n : ℕ). 1 ≤ n) stand (λ alive. owed_some s object owed)

times_most : (n : ℕ) (owed : List Serial) → times n owed ≤ length owed
times_most n [] = let none : times n [] ≡ 0 = refl in omega arith
times_most n (object ∷ owed) =
    let sum : times n (object ∷ owed) ≡ one_if (object.0 == n) + times n owed = count_cons (is_that n) object owed in
    omega (arith, sum, times_most n owed, one_most (object.0 == n))
  where
    one_most : (here : Bool) → one_if here ≤ 1
    one_most true = let one : one_if true ≡ 1 = refl in omega arith
    one_most false = let none : one_if false ≡ 0 = refl in omega arith

-- one more can be owed to an object where few are
pub may_owe : (parts : Parts) (s : State) (owed : List Serial) (object : ℕ)
    → StandsOwing owed parts s → HasRoom s → length owed ≤ 8
    → HasCount parts object (λ (n : ℕ). n < 2 ^ 64 - 1)
may_owe parts s owed object stand room few =
    has_count parts s owed object (λ (n : ℕ). n < 2 ^ 64 - 1) stand
    (λ alive. omega (arith, times_most object owed, room.references object alive))
