-- What the operations on objects know of the object that they are about.
use Rattle.std.specs.Prelude.{◌≡◌, ℕ, ◌<◌, false, is_some, count_by}
use Rattle.std.specs.Option.{IsSomeAnd}
use Rattle.gh_base.specs.declared.limits.TheConstants.{PARTITION_PLACES}
use Rattle.gh_objects.specs.Counts.{count_at}
use Rattle.gh_objects.specs.Headers.{headers_in}
use Rattle.gh_objects.specs.Objects.{Objects}

-- an object lives at the index, has so many references and isn't retired
pub record HasReferences (s : Objects) (index count : ℕ) : Type 0 where
  pub counted : IsSomeAnd (count_at s.counts index) (λ c. c.references ≡ count)
  pub not_retired : IsSomeAnd (count_at s.counts index) (λ c. c.retired ≡ false)

-- every partition place has a free index
abbrev pub HaveRoom : Objects → Type 0
HaveRoom s =
    (place : ℕ) → count_by is_some (headers_in s.table.headers place) < PARTITION_PLACES
