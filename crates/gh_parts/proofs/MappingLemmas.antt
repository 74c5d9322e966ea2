-- Mapping rows that are taken away, and the body that shows them.
use Rattle.std.proofs.Common.{◌≡◌, ◌∙◌, ◌==◌, ◌&&◌, not, ℕ, Bool, true, false, List, [], ◌∷◌, ◌⊎◌, inl, inr, Option, Some, None}
use Rattle.std.proofs.Common.{refl, sym, ap, subst, filter, map, if◌then◌else◌}
use Rattle.std.specs.Prelude.{OnErr, OnOk, Result, Ok, Err}
use Rattle.std.specs.List.{list_any}
use Rattle.std.specs.Result.{result_err}
use Rattle.std.proofs.lemmas.Bool.{cases_Bool, eq-eqb, or_parts}
use Rattle.gh_base.specs.declared.errno.Errno.{Errno}
use Rattle.gh_base.specs.declared.errno.Errno.TheVariants.{AddrInval}
use Rattle.gh_base.specs.declared.kind.Kind.{Kind}
use Rattle.gh_base.specs.declared.kind.Kind.TheVariants as kind
use Rattle.gh_base.specs.declared.ids.Serial.{Serial}
use Rattle.gh_addrspace.specs.Rows.{is_chosen, others}
use Rattle.gh_addrspace.specs.Space.{Shows, Space as Mapped, unmap_refusal}
use Rattle.gh_addrspace.specs.declared.mapping.Mapping.{Mapping}
use Rattle.gh_invariant.proofs.Counting.{without_here, without_later}
use Rattle.gh_model.specs.Changes.{is_mapping, without}
use Rattle.gh_model.specs.declared.memory.Span.{Span}
use Rattle.gh_model.specs.declared.rows.MappingRow.{MappingRow}
use Rattle.gh_model.specs.declared.rows.ObjectRow.{ObjectRow}
use Rattle.gh_parts.specs.Bodies.{bell_in, fits_body, is_body_of, mapping_row, queue_in, span_in}
use Rattle.gh_parts.specs.MappingChanges.{Remaps, Unmaps, pages_of}
use Rattle.gh_parts.specs.declared.body.Body.{Body}
use Rattle.gh_parts.specs.declared.body.Body.TheVariants.{Bell, Extent, NewQueue, Nothing, Queue, Space}

-- where none passes all stay
none_any : {R : Type 0} (test : R → Bool) (rows : List R) → list_any test rows ≡ false
    → rows ≡ filter (λ (row : R). not (test row)) rows
none_any test [] none = refl
none_any {R} test (row ∷ rows) none =
    let parts : (test row ≡ false) × (list_any test rows ≡ false) = or_parts _ _ none in
    rw parts.0 (ap (λ (rest : List R). row ∷ rest) (none_any test rows parts.1))

-- a row that is asked for is gone, whether it was there or not
pub unmaps : (row : MappingRow) (old new : Mapped) (result : Result (Unit {0}) Errno)
    → result_err result ≡ unmap_refusal old (pages_of row)
    → OnOk result (new.mappings ≡ others (pages_of row) old.mappings) → OnErr result (new ≡ old)
    → ((spans : ℕ → Option Span) (holders : List Serial) → Shows spans holders old → Shows spans holders new)
    → Unmaps row old new
unmaps row old new (Ok u) refusal gone kept shows = record { rows = gone; shows = shows }
unmaps row old new (Err errno) refusal gone kept shows = record {
  rows = ap (λ (space : Mapped). space.mappings) kept
      ∙ none_any (is_chosen (pages_of row)) old.mappings
      (by_any (list_any (is_chosen (pages_of row)) old.mappings) refusal);
  shows = shows;
}
  where
    by_any : (any : Bool) → Some errno ≡ (if any then None else Some AddrInval) → any ≡ false
    by_any true refused = absurd (let never : ⊥ = cc in never)
    by_any false refused = refl

-- filters

pub filter_here : {R : Type 0} (p : R → Bool) (row : R) (rows : List R) → p row ≡ true
    → filter p (row ∷ rows) ≡ row ∷ filter p rows
filter_here p row rows passes = rw passes refl

pub filter_later : {R : Type 0} (p : R → Bool) (row : R) (rows : List R) → p row ≡ false
    → filter p (row ∷ rows) ≡ filter p rows
filter_later p row rows fails = rw fails refl

filter_both_by : {R : Type 0} (p q : R → Bool) (row : R) (rows : List R)
    → (q row ≡ true) ⊎ (q row ≡ false) → (p row ≡ true) ⊎ (p row ≡ false)
    → filter p (without q rows) ≡ without q (filter p rows)
    → filter p (without q (row ∷ rows)) ≡ without q (filter p (row ∷ rows))
filter_both_by p q row rows (inl gone) (inl passes) others =
    ap (filter p) (without_here q row rows gone) ∙ others
    ∙ sym (ap (without q) (filter_here p row rows passes) ∙ without_here q row (filter p rows) gone)
filter_both_by p q row rows (inl gone) (inr fails) others =
    ap (filter p) (without_here q row rows gone) ∙ others ∙ sym (ap (without q) (filter_later p row rows fails))
filter_both_by {R} p q row rows (inr stays) (inl passes) others =
    ap (filter p) (without_later q row rows stays) ∙ filter_here p row (without q rows) passes
    ∙ ap (λ (rest : List R). row ∷ rest) others
    ∙ sym (ap (without q) (filter_here p row rows passes) ∙ without_later q row (filter p rows) stays)
filter_both_by p q row rows (inr stays) (inr fails) others =
    ap (filter p) (without_later q row rows stays) ∙ filter_later p row (without q rows) fails ∙ others
    ∙ sym (ap (without q) (filter_later p row rows fails))

-- two filters in either order
pub filter_both : {R : Type 0} (p q : R → Bool) (rows : List R)
    → filter p (without q rows) ≡ without q (filter p rows)
filter_both p q [] = refl
filter_both p q (row ∷ rows) =
    filter_both_by p q row rows (cases_Bool (q row)) (cases_Bool (p row)) (filter_both p q rows)

filter_apart_by : {R : Type 0} (p q : R → Bool) (row : R) (rows : List R)
    → (q row ≡ true) ⊎ (q row ≡ false) → (q row ≡ true → p row ≡ false)
    → filter p (without q rows) ≡ filter p rows → filter p (without q (row ∷ rows)) ≡ filter p (row ∷ rows)
filter_apart_by p q row rows (inl gone) apart others = rw (gone, apart gone) others
filter_apart_by {R} p q row rows (inr stays) apart others =
    rw stays (ap (λ (rest : List R). if p row then row ∷ rest else rest) others)

-- rows that all stay
pub filter_apart : {R : Type 0} (p q : R → Bool) (rows : List R) → ((row : R) → q row ≡ true → p row ≡ false)
    → filter p (without q rows) ≡ filter p rows
filter_apart p q [] apart = refl
filter_apart p q (row ∷ rows) apart =
    filter_apart_by p q row rows (cases_Bool (q row)) (apart row) (filter_apart p q rows apart)

without_map_by : {R V : Type 0} (f : V → R) (q : R → Bool) (p : V → Bool) (v : V) (vs : List V)
    → (p v ≡ true) ⊎ (p v ≡ false) → q (f v) ≡ p v
    → without q (map f vs) ≡ map f (filter (λ (x : V). not (p x)) vs)
    → without q (map f (v ∷ vs)) ≡ map f (filter (λ (x : V). not (p x)) (v ∷ vs))
without_map_by f q p v vs (inl gone) same others = rw (same ∙ gone, gone) others
without_map_by {R} f q p v vs (inr stays) same others =
    rw (same ∙ stays, stays) (ap (λ (rest : List R). f v ∷ rest) others)

-- rows that are made of others, some of them taken away
pub without_map : {R V : Type 0} (f : V → R) (q : R → Bool) (p : V → Bool) (vs : List V)
    → ((v : V) → q (f v) ≡ p v)
    → without q (map f vs) ≡ map f (filter (λ (x : V). not (p x)) vs)
without_map f q p [] same = refl
without_map f q p (v ∷ vs) same =
    without_map_by f q p v vs (cases_Bool (p v)) (same v) (without_map f q p vs same)

-- a mapping is one of those pages exactly where its row is
pub chosen_same : (row : MappingRow) (mapping : Mapping)
    → is_mapping row.space.0 row.extent.0 row.base row.offset row.count (mapping_row row.space.0 mapping)
    ≡ is_chosen (pages_of row) mapping
chosen_same row mapping = rw (eq-eqb row.space.0 row.space.0 refl, and_true (mapping.row.handle == 0)) refl
  where
    and_true : (b : Bool) → (b && true) ≡ b
    and_true true = refl
    and_true false = refl

-- what a changed address space leaves

pub record KeepsRows (serial : ℕ) (new old : Body) : Type 0 where
  pub kind : (found : Option ObjectRow) → fits_body new found ≡ fits_body old found
  pub bells : bell_in serial new ≡ bell_in serial old
  pub queues : queue_in serial new ≡ queue_in serial old
  pub spans : span_in serial new ≡ span_in serial old

same_rows : (serial : ℕ) (old new : Body) → new ≡ old → KeepsRows serial new old
same_rows serial old new same =
    subst (λ (body : Body). KeepsRows serial body old) (sym same)
    (record { kind = λ found. refl; bells = refl; queues = refl; spans = refl })

spaces_fit : (a b : Mapped) (found : Option ObjectRow) → fits_body (Space b) found ≡ fits_body (Space a) found
spaces_fit a b None = refl
spaces_fit a b (Some row) = kinds_fit row.kind
  where
    kinds_fit : (k : Kind) → is_body_of k (Space b) ≡ is_body_of k (Space a)
    kinds_fit kind.Partition = refl
    kinds_fit kind.Cspace = refl
    kinds_fit kind.Space = refl
    kinds_fit kind.Extent = refl
    kinds_fit kind.Bell = refl
    kinds_fit kind.Queue = refl

pub remapped_keeps : (change : Mapped → Mapped → Type 0) (serial : ℕ) (old new : Body)
    → Remaps change old new → KeepsRows serial new old
remapped_keeps change serial (Space a) (Space b) so =
    record { kind = spaces_fit a b; bells = refl; queues = refl; spans = refl }
remapped_keeps change serial (Space a) Nothing so = absurd so
remapped_keeps change serial (Space a) (Bell words) so = absurd so
remapped_keeps change serial (Space a) NewQueue so = absurd so
remapped_keeps change serial (Space a) (Queue queue) so = absurd so
remapped_keeps change serial (Space a) (Extent span) so = absurd so
remapped_keeps change serial Nothing new so = same_rows serial Nothing new so
remapped_keeps change serial (Bell words) new so = same_rows serial (Bell words) new so
remapped_keeps change serial NewQueue new so = same_rows serial NewQueue new so
remapped_keeps change serial (Queue queue) new so = same_rows serial (Queue queue) new so
remapped_keeps change serial (Extent span) new so = same_rows serial (Extent span) new so
