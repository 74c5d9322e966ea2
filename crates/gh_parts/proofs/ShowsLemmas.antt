-- An address space shows who holds the pages, once other extents have spans.
use Rattle.std.proofs.Common.{◌≡◌, ◌∙◌, ◌+◌, ℕ, Bool, true, false, List, [], ◌∷◌, Option, Some, None, refl, sym, ap, subst, find}
use Rattle.std.proofs.Common.{map, if◌then◌else◌}
use Rattle.std.specs.Prelude.{All, IsSomeAnd}
use Rattle.std.proofs.lemmas.List.Elements.{All-cons, All-head, All-nil, All-tail, All-weaker}
use Rattle.gh_base.specs.declared.ids.Serial.{Serial}
use Rattle.gh_addrspace.specs.Space.{IsEmptySpace, IsNamed, Shows, Space}
use Rattle.gh_addrspace.specs.declared.mapping.Mapping.{Mapping}
use Rattle.gh_model.specs.Memory.{access_of, covering_access, row_covers, span_access}
use Rattle.gh_model.specs.declared.memory.Span.{Span}

-- the span of a row's extent is there still
abbrev pub KeepsSpan : (ℕ → Option Span) → (ℕ → Option Span) → Mapping → Type 0
KeepsSpan spans more mapping =
    (span : Span) → spans mapping.row.extent.0 ≡ Some span → more mapping.row.extent.0 ≡ Some span

named_by : (spans more : ℕ → Option Span) (mapping : Mapping) → KeepsSpan spans more mapping
    → (P : Span → Type 0) (found : Option Span) → spans mapping.row.extent.0 ≡ found → IsSomeAnd found P
    → IsSomeAnd (more mapping.row.extent.0) P
named_by spans more mapping keeps P None is holds = absurd holds
named_by spans more mapping keeps P (Some span) is holds =
    subst (λ (o : Option Span). IsSomeAnd o P) (sym (keeps span is)) holds

span_by : (spans more : ℕ → Option Span) (mapping : Mapping) → KeepsSpan spans more mapping
    → (holders : List Serial) (v : ℕ) (P : Span → Type 0) (found : Option Span)
    → spans mapping.row.extent.0 ≡ found → IsSomeAnd found P
    → span_access holders mapping.row v (spans mapping.row.extent.0) ≡ span_access holders mapping.row v (more mapping.row.extent.0)
span_by spans more mapping keeps holders v P None is holds = absurd holds
span_by spans more mapping keeps holders v P (Some span) is holds =
    ap (span_access holders mapping.row v) (is ∙ sym (keeps span is))

module _ (spans more : ℕ → Option Span) where
  named_kept : (mappings : List Mapping) → All (KeepsSpan spans more) mappings → All (IsNamed spans) mappings
      → All (IsNamed more) mappings
  named_kept [] keeps named = All-nil (IsNamed more)
  named_kept (mapping ∷ mappings) keeps named =
      All-cons (IsNamed more) mapping mappings
      (named_by spans more mapping (All-head (KeepsSpan spans more) mapping mappings keeps) _ (spans mapping.row.extent.0) refl
      (All-head (IsNamed spans) mapping mappings named))
      (named_kept mappings (All-tail (KeepsSpan spans more) mapping mappings keeps) (All-tail (IsNamed spans) mapping mappings named))

  module _ (holders : List Serial) (v : ℕ) where
    access_by : (mapping : Mapping) (mappings : List Mapping) (here : Bool)
        → row_covers v mapping.row ≡ here → KeepsSpan spans more mapping → IsNamed spans mapping
        → access_of spans holders (map (λ (m : Mapping). m.row) mappings) v ≡ access_of more holders (map (λ (m : Mapping). m.row) mappings) v
        → covering_access spans holders v (if here then Some mapping.row else find (row_covers v) (map (λ (m : Mapping). m.row) mappings))
        ≡ covering_access more holders v (if here then Some mapping.row else find (row_covers v) (map (λ (m : Mapping). m.row) mappings))
    access_by mapping mappings true covers keeps named others =
        span_by spans more mapping keeps holders v _ (spans mapping.row.extent.0) refl named
    access_by mapping mappings false fails keeps named others = others

    access_kept : (mappings : List Mapping) → All (KeepsSpan spans more) mappings → All (IsNamed spans) mappings
        → access_of spans holders (map (λ (m : Mapping). m.row) mappings) v
        ≡ access_of more holders (map (λ (m : Mapping). m.row) mappings) v
    access_kept [] keeps named = refl
    access_kept (mapping ∷ mappings) keeps named =
        access_by mapping mappings (row_covers v mapping.row) refl
        (All-head (KeepsSpan spans more) mapping mappings keeps)
        (All-head (IsNamed spans) mapping mappings named)
        (access_kept mappings (All-tail (KeepsSpan spans more) mapping mappings keeps)
        (All-tail (IsNamed spans) mapping mappings named))

-- an address space shows the same by spans that its rows' extents keep
pub shows_kept : (spans more : ℕ → Option Span) (holders : List Serial) (space : Space)
    → All (KeepsSpan spans more) space.mappings → Shows spans holders space → Shows more holders space
shows_kept spans more holders space keeps shows = record {
  named = named_kept spans more space.mappings keeps shows.named;
  access = λ v. shows.access v ∙ access_kept spans more holders v space.mappings keeps shows.named;
}

-- and by more spans
pub shows_extends : (spans more : ℕ → Option Span) (holders : List Serial) (space : Space)
    → ((extent : ℕ) (span : Span) → spans extent ≡ Some span → more extent ≡ Some span)
    → Shows spans holders space → Shows more holders space
shows_extends spans more holders space extends shows =
    shows_kept spans more holders space
    (All-weaker (IsNamed spans) (KeepsSpan spans more) (λ mapping named. extends mapping.row.extent.0) space.mappings shows.named)
    shows

no_mappings : (spans : ℕ → Option Span) → ((extent : ℕ) → spans extent ≡ None) → (mappings : List Mapping)
    → All (IsNamed spans) mappings → mappings ≡ []
no_mappings spans none [] named = refl
no_mappings spans none (mapping ∷ mappings) named =
    absurd (subst (λ (o : Option Span). IsSomeAnd o (λ (span : Span). mapping.page.0 ≡ span.first.0 + mapping.row.offset))
    (none mapping.row.extent.0) (All-head (IsNamed spans) mapping mappings named))

-- where no extent has a span, an address space has no rows, and shows whatever spans and holders there
-- are
pub shows_bare : (spans more : ℕ → Option Span) (holders held : List Serial) (space : Space)
    → ((extent : ℕ) → spans extent ≡ None) → Shows spans holders space → Shows more held space
shows_bare spans more holders held space none shows =
    let empty : space.mappings ≡ [] = no_mappings spans none space.mappings shows.named in
    record {
      named = subst (All (IsNamed more)) (sym empty) (All-nil (IsNamed more));
      access = λ v.
          shows.access v
          ∙ ap (λ (mappings : List Mapping). access_of spans holders (map (λ (m : Mapping). m.row) mappings) v) empty
          ∙ ap (λ (mappings : List Mapping). access_of more held (map (λ (m : Mapping). m.row) mappings) v) (sym empty);
    }

-- an address space without rows shows whatever spans and holders there are
pub shows_empty : (spans : ℕ → Option Span) (holders : List Serial) (space : Space) → IsEmptySpace space
    → Shows spans holders space
shows_empty spans holders space empty = record {
  named = subst (All (IsNamed spans)) (sym empty.rows) (All-nil (IsNamed spans));
  access = λ v.
      empty.pages v
      ∙ ap (λ (mappings : List Mapping). access_of spans holders (map (λ (m : Mapping). m.row) mappings) v) (sym empty.rows);
}
