-- How many live objects of each kind there are, as it lies: a number for each kind, at the kind's
-- place. No public clause cites this module.
use Rattle.std.specs.Prelude.{◌≡◌, ◌+◌, ◌-◌, ℕ, List, Option, Some, None, length, count_by}
use Rattle.std.specs.Prelude.{slice_index, slice_set}
use Rattle.gh_base.specs.Kind.{kind_number}
use Rattle.gh_base.specs.declared.kind.Kind.{Kind}
use Rattle.gh_objects.specs.Headers.{has_kind}
use Rattle.gh_objects.specs.declared.header.Header.{Header}
use Rattle.gh_objects.specs.declared.kinds.TheConstants.{KINDS}

-- the place of a kind; the numbers of kinds begin with 1
abbrev pub kind_place : Kind → ℕ
kind_place kind = kind_number kind - 1

-- how many objects of the kind there are
abbrev pub kind_number_in : List ℕ → Kind → ℕ
kind_number_in numbers kind = slice_index numbers (kind_place kind)

-- the numbers with one object less of the header's kind, if there is a header
abbrev pub with_less : Option Header → List ℕ → List ℕ
with_less None numbers = numbers
with_less (Some h) numbers =
    slice_set numbers (kind_place h.kind) (kind_number_in numbers h.kind - 1)

-- and with one more
abbrev pub with_more : Option Header → List ℕ → List ℕ
with_more None numbers = numbers
with_more (Some h) numbers =
    slice_set numbers (kind_place h.kind) (kind_number_in numbers h.kind + 1)

-- each kind has its number, of as many headers as are of the kind
pub record AreCounted (headers : List (Option Header)) (numbers : List ℕ) : Type 0 where
  pub places : length numbers ≡ KINDS
  pub each : (kind : Kind) → kind_number_in numbers kind ≡ count_by (has_kind kind) headers
