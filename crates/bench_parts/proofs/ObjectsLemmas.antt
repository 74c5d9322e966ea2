-- What the operations on objects know, kept over each call.
use Rattle.std.proofs.Common.{◌≡◌, ℕ, zero, suc, ◌+◌, ◌-◌, ◌*◌}
use Rattle.std.proofs.Common.{◌<◌, false, List, [], ◌∷◌, Option, None, Some}
use Rattle.std.proofs.Common.{is_some, length, get_or, set, take, drop, count_by, refl, ap}
use Rattle.std.proofs.Common.{subst, ◌∙◌, inl, inr, arith, length-take, length-drop}
use Rattle.std.specs.Option.{IsSomeAnd, option_map}
use Rattle.std.specs.Prelude.{IsSome}
use Rattle.std.proofs.Math.Seq.{take-length}
use Rattle.std.proofs.lemmas.Bool.{cases_lt}
use Rattle.std.proofs.lemmas.List.{get_or-drop}
use Rattle.std.proofs.lemmas.List.Sums.{count_by-le-length, count_by_more_no}
use Rattle.gh_base.specs.declared.limits.TheConstants.{OBJECT_INDICES, PARTITIONS, PARTITION_PLACES}
use Rattle.gh_base.specs.declared.ids.Serial.{Serial}
use Rattle.gh_objects.specs.declared.count.Count.{Count}
use Rattle.gh_objects.specs.declared.header.Header.{Header}
use Rattle.gh_objects.specs.Counts.{count_at, new_count}
use Rattle.gh_objects.specs.Headers.{header_at, headers_in}
use Rattle.gh_objects.specs.Objects.{Objects, changed}
use Rattle.bench_parts.specs.References.{HasReferences, HaveRoom}

-- an object that is changed has what the change gives
IsSomeAnd-set_map : (f : Count → Count) (P Q : Count → Type 0) → ((o : Count) → P o → Q (f o)) → (xs : List (Option Count)) (i : ℕ)
    → IsSomeAnd (get_or xs i None) P → IsSomeAnd (get_or (set xs i (option_map f (get_or xs i None))) i None) Q
IsSomeAnd-set_map f P Q gives [] i has = absurd has
IsSomeAnd-set_map f P Q gives (None ∷ xs) zero has = absurd has
IsSomeAnd-set_map f P Q gives (Some o ∷ xs) zero has = gives o has
IsSomeAnd-set_map f P Q gives (x ∷ xs) (suc i) has = IsSomeAnd-set_map f P Q gives xs i has

pub HasReferences-changed : (f : Count → Count) (m n : ℕ) → ((o : Count) → o.references ≡ m → (f o).references ≡ n) → ((o : Count) → o.retired ≡ false → (f o).retired ≡ false)
    → (s : Objects) (i : ℕ) → HasReferences s i m → HasReferences (changed f s i) i n
HasReferences-changed f m n counts retires s i has = record {
  counted = IsSomeAnd-set_map f (λ o. o.references ≡ m) (λ o. o.references ≡ n) counts s.counts i has.counted;
  not_retired = IsSomeAnd-set_map f (λ o. o.retired ≡ false) (λ o. o.retired ≡ false) retires s.counts i has.not_retired;
}

pub IsSomeAnd-changed : (f : Count → Count) (P Q : Count → Type 0) → ((o : Count) → P o → Q (f o))
    → (s : Objects) (i : ℕ) → IsSomeAnd (count_at s.counts i) P → IsSomeAnd (count_at (changed f s i).counts i) Q
IsSomeAnd-changed f P Q gives s i has = IsSomeAnd-set_map f P Q gives s.counts i has

pub HasReferences-new : (s : Objects) (serial : Serial) (i : ℕ) → count_at s.counts i ≡ Some (new_count serial) → HasReferences s i 0
HasReferences-new s serial i counted = record { counted = rw counted refl; not_retired = rw counted refl }

-- where the last of 128 places has no object, fewer than 128 have one
count-last_free : (xs : List (Option Header)) → get_or xs 127 None ≡ None → count_by is_some (take PARTITION_PLACES xs) < PARTITION_PLACES
count-last_free xs free =
    elim (cases_lt 127 (length xs)) as (λ _. count_by is_some (take PARTITION_PLACES xs) < PARTITION_PLACES) [
      | inl within ↦ omega (arith, count_by_more_no is_some xs 127 None within (ap is_some free), count_by-le-length is_some (take 127 xs), length-take 127 xs)
      | inr past ↦ omega (arith, count_by-le-length is_some (take PARTITION_PLACES xs), length-take PARTITION_PLACES xs)
    ]

-- a partition place whose last index is free has room
pub room_last_free : (headers : List (Option Header)) (place : ℕ) → header_at headers (place * PARTITION_PLACES + PARTITION_PLACES - 1) ≡ None
    → count_by is_some (headers_in headers place) < PARTITION_PLACES
room_last_free headers place free =
    let last : place * PARTITION_PLACES + PARTITION_PLACES - 1 ≡ PARTITION_PLACES * place + 127 = omega arith in
    let none : get_or (drop (PARTITION_PLACES * place) headers) 127 None ≡ None = get_or-drop (PARTITION_PLACES * place) headers 127 None ∙ rw last at free in
    count-last_free (drop (PARTITION_PLACES * place) headers) none

-- where each partition place has room, so has every number
pub room_places : (s : Objects) → length s.table.headers ≡ OBJECT_INDICES
    → ((place : ℕ) → place < PARTITIONS → count_by is_some (headers_in s.table.headers place) < PARTITION_PLACES) → HaveRoom s
room_places s indices each place =
    elim (cases_lt place PARTITIONS) as (λ _. count_by is_some (headers_in s.table.headers place) < PARTITION_PLACES) [
      | inl within ↦ each place within
      | inr past ↦ omega (
        arith,
        count_by-le-length is_some (headers_in s.table.headers place),
        length-take PARTITION_PLACES (drop (PARTITION_PLACES * place) s.table.headers),
        length-drop (PARTITION_PLACES * place) s.table.headers,
      )
    ]
