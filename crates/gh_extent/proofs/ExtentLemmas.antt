-- Rows that are found, and spans that stay within the machine's pages.
use Rattle.std.proofs.Common.{◌≡◌, ℕ, suc, ◌+◌, ◌≤◌, inl, inr}
use Rattle.std.proofs.Common.{Bool, true, false, List, [], ◌∷◌}
use Rattle.std.proofs.Common.{length, drop, Option, Some, None, if◌then◌else◌}
use Rattle.std.proofs.Common.{refl, ap, arith}
use Rattle.std.specs.List.{All, find, position_or_len}
use Rattle.std.specs.Option.{IfSome, IsSomeAnd, option_map_or}
use Rattle.std.proofs.lemmas.Bool.{eqb-true, cases_lt, lt-ltb, le-ltb}
use Rattle.std.proofs.lemmas.List.{length-drop}
use Rattle.std.proofs.lemmas.List.Elements.{All-filter, All-push}
use Rattle.std.proofs.lemmas.List.Sums.{prefix_len-le-length}
use Rattle.gh_base.specs.declared.ids.PageNo.{PageNo}
use Rattle.gh_base.specs.declared.ids.Serial.{Serial}
use Rattle.gh_extent.specs.Extents.{AreWithin, Extents, IsSpanIn, first_run}
use Rattle.gh_extent.specs.Extents.{is_other, moved, row_of, with_row, without_row}
use Rattle.gh_extent.proofs.RunLemmas.{length-moved, same_serial}
use Rattle.gh_model.specs.Memory.{is_serial}
use Rattle.gh_model.specs.Rows.{is_extent}
use Rattle.gh_model.specs.declared.memory.Span.{Span}
use Rattle.gh_model.specs.declared.rows.ExtentRow.{ExtentRow}

-- what holds of each row holds of the one that is found
pub found : (P : ExtentRow → Type 0) (test : ExtentRow → Bool) (rows : List ExtentRow) → All P rows → IfSome (find test rows) P
found P test [] all = tt
found P test (r ∷ rows) all =
    elim (test r) as (λ b. IfSome (if b then Some r else find test rows) P) [
      | true ↦ all 0 r (omega arith)
      | false ↦ found P test rows (λ k d within. all (suc k) d (omega arith))
    ]

-- the row that is found has the serial
pub found_serial : (extent : Serial) (rows : List ExtentRow) → IfSome (find (is_extent extent.0) rows) (λ row. row.serial ≡ extent)
found_serial extent [] = tt
found_serial extent (r ∷ rows) =
    elim (is_extent extent.0 r) as (λ b. is_extent extent.0 r ≡ b → IfSome (if b then Some r else find (is_extent extent.0) rows) (λ row. row.serial ≡ extent)) [
      | true ↦ λ is. same_serial r.serial extent (eqb-true _ _ is)
      | false ↦ λ is. found_serial extent rows
    ] refl

pub within-row :
    (s : Extents) (row : ExtentRow) → AreWithin s → row.first.0 + row.count ≤ length s.holders → AreWithin (with_row s row)
within-row s row within fits = record {
  most = within.most;
  spans = All-push (λ r. r.first.0 + r.count ≤ length s.holders) s.rows row within.spans fits;
}

pub within-moved :
    (s : Extents) (first count : ℕ) (h : Serial) → first + count ≤ length s.holders → AreWithin s → AreWithin (moved s first count h)
within-moved s first count h fits within =
    let same = length-moved first count h s.holders fits in
    record {
      most = rw same within.most;
      spans = rw same within.spans;
    }

pub within-without : (s : Extents) (extent : ℕ) → AreWithin s → AreWithin (without_row s extent)
within-without s extent within = record {
  most = within.most;
  spans = All-filter (is_other extent) (λ r. r.first.0 + r.count ≤ length s.holders) s.rows within.spans;
}

-- what is found holds of both
found_both :
    {X : Type 0} (o : Option X) (P Q : X → Type 0) (R : Type 0)
    → IfSome o P → IsSomeAnd o Q → ((x : X) → P x → Q x → R) → R
found_both None P Q R p q both = absurd q
found_both (Some x) P Q R p q both = both x p q

-- a span in that of a parent is one of the machine's
pub span-within :
    (span : Span) (parent : ℕ) (s : Extents) → AreWithin s → IsSomeAnd (row_of s parent) (IsSpanIn span)
    → span.first.0 + span.count ≤ length s.holders
span-within span parent s within inside =
    found_both (row_of s parent) (λ r. r.first.0 + r.count ≤ length s.holders) (IsSpanIn span) _
    (found (λ r. r.first.0 + r.count ≤ length s.holders) (is_extent parent) s.rows within.spans) inside
    (λ row fits lies. omega (arith, lies.end))

-- the first run of an extent is one of the machine's
pub first_run-within :
    (extent : ℕ) (hs : List Serial) (run : PageNo × ℕ) → first_run extent hs ≡ Some run → run.0.0 + run.1 ≤ length hs
first_run-within extent hs run is =
    let q = is_serial extent in
    let first = position_or_len q hs in
    elim (cases_lt first (length hs)) [
      | inl within ↦
          let here = rw (lt-ltb first (length hs) within) at is in
          let count = prefix_len-le-length q (drop first hs) in
          let rest = length-drop first hs in
          let one = ap (λ (o : Option (PageNo × ℕ)). option_map_or (λ r. r.0.0 + r.1) o 0) here in
          omega arith
      | inr past ↦
          let none = rw (le-ltb first (length hs) past) at is in
          absurd (cc)
    ]
