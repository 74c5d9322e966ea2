-- Bodies stand once an object is entered with a new one.
use Rattle.std.proofs.Common.{◌≡◌, ◌≢◌, ◌∙◌, ◌∷◌, ◌++◌, ℕ, true, List, [], Option, Some, None, refl, sym, ap, subst, arith, inl, inr}
use Rattle.std.proofs.Common.{find, filter, map, set}
use Rattle.std.specs.Prelude.{IsSomeAnd}
use Rattle.std.proofs.lemmas.Bool.{cases_eq, eq-eqb, ne_eqb}
use Rattle.gh_addrspace.specs.Space.{IsEmptySpace, Shows, Space as Mapped}
use Rattle.gh_base.specs.declared.ids.Serial.{Serial}
use Rattle.gh_base.specs.declared.kind.Kind.{Kind}
use Rattle.gh_base.specs.declared.kind.Kind.TheVariants as kind
use Rattle.gh_doorbell.specs.Bell.{new_words}
use Rattle.gh_invariant.proofs.Counting.{find_here, find_later}
use Rattle.gh_model.specs.Boot.{is_row_of}
use Rattle.gh_model.specs.Changes.{new_bell, new_bells, new_queues}
use Rattle.gh_model.specs.Rows.{is_bell, is_object, is_queue}
use Rattle.gh_model.specs.declared.rows.ObjectRow.{ObjectRow}
use Rattle.gh_model.specs.declared.rows.QueueRow.{QueueRow}
use Rattle.gh_model.specs.declared.state.State.{State}
use Rattle.gh_objects.specs.declared.header.Header.{Header}
use Rattle.gh_parts.specs.Bodies.{bell_in, body_of, fits_body, is_body_of, mapping_row, mappings_in, queue_in, space_in, span_in}
use Rattle.gh_parts.specs.Index.{index_of, indexed}
use Rattle.gh_parts.specs.ObjectChanges.{IsNewBody}
use Rattle.gh_parts.specs.Shares.{with_place}
use Rattle.gh_parts.specs.Stands.{BellsStand, KindsStand, QueuesStand, SpacesStand, SpansStand, span_row_of}
use Rattle.gh_parts.specs.declared.body.Body.{Body}
use Rattle.gh_parts.specs.declared.body.Body.TheVariants.{Bell, Extent, NewQueue, Nothing, Queue, Space}
use Rattle.gh_parts.specs.declared.parts.Parts.{Parts}
use Rattle.gh_parts.specs.declared.shares.Place.{Place}
use Rattle.gh_parts.proofs.AddedObjects.{place_now, place_there}
use Rattle.gh_parts.proofs.BodyLemmas.{body_none}
use Rattle.gh_parts.proofs.Entering.{Enters, found_here, found_there, unindexed}
use Rattle.gh_parts.proofs.FoundRows.{find_behind, find_beside}
use Rattle.gh_parts.proofs.Options.{some_same}
use Rattle.gh_parts.proofs.ShowsLemmas.{shows_empty}

-- what a new body shows: the rows that come with the object, and nothing else
pub record Begins (serial : Serial) (k : Kind) (body : Body) : Type 0 where
  pub kind : is_body_of k body ≡ true
  pub bells : find (is_bell serial.0) (new_bells k serial) ≡ bell_in serial.0 body
  pub queues : find (is_queue serial.0) (new_queues k serial) ≡ queue_in serial.0 body
  pub spans : span_in serial.0 body ≡ None
  pub mappings : mappings_in serial.0 body ≡ []
  pub spaces : (space : Mapped) → space_in body ≡ Some space → IsEmptySpace space

-- no body but that of an address space has one
not_space : (body : Body) (space : Mapped) → space_in body ≡ None → space_in body ≡ Some space
    → IsEmptySpace space
not_space body space none is = absurd (let never : ⊥ = cc in never)

begin_space : (serial : Serial) (body : Body) → IsSomeAnd (space_in body) IsEmptySpace
    → Begins serial kind.Space body
begin_space serial (Space space) empty = record {
  kind = refl;
  bells = refl;
  queues = refl;
  spans = refl;
  mappings = ap (map (mapping_row serial.0)) empty.rows;
  spaces = λ one is. subst IsEmptySpace (some_same space one is) empty;
}
begin_space serial Nothing empty = absurd empty
begin_space serial (Bell words) empty = absurd empty
begin_space serial NewQueue empty = absurd empty
begin_space serial (Queue queue) empty = absurd empty
begin_space serial (Extent span) empty = absurd empty

begin_bell : (serial : Serial) → Begins serial kind.Bell (Bell new_words)
begin_bell serial = record {
  kind = refl;
  bells = find_here (is_bell serial.0) (new_bell serial) [] (eq-eqb serial.0 serial.0 refl);
  queues = refl;
  spans = refl;
  mappings = refl;
  spaces = λ space is. not_space (Bell new_words) space refl is;
}

-- a queue that isn't configured yet
abbrev new_queue : Serial → QueueRow
new_queue serial = record { serial = serial; depth = 0; size = 0; messages = [] }

begin_queue : (serial : Serial) → Begins serial kind.Queue NewQueue
begin_queue serial = record {
  kind = refl;
  bells = refl;
  queues = find_here (is_queue serial.0) (new_queue serial) [] (eq-eqb serial.0 serial.0 refl);
  spans = refl;
  mappings = refl;
  spaces = λ space is. not_space NewQueue space refl is;
}

begin_extent : (serial : Serial) → Begins serial kind.Extent (Extent None)
begin_extent serial = record {
  kind = refl;
  bells = refl;
  queues = refl;
  spans = refl;
  mappings = refl;
  spaces = λ space is. not_space (Extent None) space refl is;
}

begin_partition : (serial : Serial) → Begins serial kind.Partition Nothing
begin_partition serial = record {
  kind = refl;
  bells = refl;
  queues = refl;
  spans = refl;
  mappings = refl;
  spaces = λ space is. not_space Nothing space refl is;
}

begin_cspace : (serial : Serial) → Begins serial kind.Cspace Nothing
begin_cspace serial = record {
  kind = refl;
  bells = refl;
  queues = refl;
  spans = refl;
  mappings = refl;
  spaces = λ space is. not_space Nothing space refl is;
}

pub begins : (serial : Serial) (k : Kind) (body : Body) → IsNewBody k body → Begins serial k body
begins serial kind.Partition body new =
    subst (Begins serial kind.Partition) (sym new) (begin_partition serial)
begins serial kind.Cspace body new =
    subst (Begins serial kind.Cspace) (sym new) (begin_cspace serial)
begins serial kind.Space body new = begin_space serial body new
begins serial kind.Extent body new =
    subst (Begins serial kind.Extent) (sym new) (begin_extent serial)
begins serial kind.Bell body new = subst (Begins serial kind.Bell) (sym new) (begin_bell serial)
begins serial kind.Queue body new = subst (Begins serial kind.Queue) (sym new) (begin_queue serial)

-- the rows that come with an object are its own
bells_apart : (k : Kind) (serial : Serial) (x : ℕ) → x ≢ serial.0
    → find (is_bell x) (new_bells k serial) ≡ None
bells_apart kind.Bell serial x apart =
    find_later (is_bell x) (new_bell serial) [] (ne_eqb serial.0 x (λ same. apart (sym same)))
bells_apart kind.Partition serial x apart = refl
bells_apart kind.Cspace serial x apart = refl
bells_apart kind.Space serial x apart = refl
bells_apart kind.Extent serial x apart = refl
bells_apart kind.Queue serial x apart = refl

queues_apart : (k : Kind) (serial : Serial) (x : ℕ) → x ≢ serial.0
    → find (is_queue x) (new_queues k serial) ≡ None
queues_apart kind.Queue serial x apart =
    find_later (is_queue x) (new_queue serial) [] (ne_eqb serial.0 x (λ same. apart (sym same)))
queues_apart kind.Partition serial x apart = refl
queues_apart kind.Cspace serial x apart = refl
queues_apart kind.Space serial x apart = refl
queues_apart kind.Extent serial x apart = refl
queues_apart kind.Bell serial x apart = refl

module _ (owed : List Serial) (parts : Parts) (s : State) (row : ObjectRow) (home at : ℕ)
    (enters : Enters owed parts s row home at) (body : Body) (begun : Begins row.serial row.kind body)
  where
    abbrev headers : List (Option Header)
    headers = parts.table.headers

    abbrev serial : ℕ
    serial = row.serial.0

    abbrev header : Header
    header = record {
      kind = row.kind;
      partition = indexed home;
      serial = row.serial;
      stage = row.stage;
    }

    abbrev now : List (Option Header)
    now = set headers at (Some header)

    abbrev objects : List ObjectRow
    objects = s.objects ++ row ∷ []

    abbrev shares : List (List Place)
    shares = with_place parts.shares at (record { cost = row.cost; body = body })

    -- what is seen of the new body, and of the others as before
    seen_now : {V : Type 0} (see : ℕ → Body → V) (left : ℕ → V) → left serial ≡ see serial body
        → ((x : ℕ) → x ≢ serial → left x ≡ see x (body_of headers parts.shares x)) → (x : ℕ)
        → left x ≡ see x (body_of now shares x)
    seen_now see left here there x =
        elim (cases_eq x serial) [
          | inl same ↦
              subst (λ (n : ℕ). left n ≡ see n (body_of now shares n)) (sym same)
              (here ∙ ap (λ (p : Place). see serial p.body) (sym (place_now owed parts s row home at enters body)))
          | inr apart ↦
              there x apart
              ∙ ap (λ (p : Place). see x p.body) (sym (place_there owed parts s row home at enters body x apart))
        ]

    -- before there was no body
    nothing : body_of headers parts.shares serial ≡ Nothing
    nothing =
        body_none parts.shares (index_of headers serial) enters.stand.objects.whole
        (omega (arith, unindexed owed parts s row home at enters, enters.stand.objects.indexed.indices))

    pub kinds_now : KindsStand now shares objects
    kinds_now x =
        sym (seen_now (λ n b. fits_body b (find (is_object n) objects)) (λ n. true)
        (sym (ap (fits_body body) (found_here owed parts s row home at enters) ∙ begun.kind))
        (λ n apart. sym (ap (fits_body (body_of headers parts.shares n)) (found_there owed parts s row home at enters n apart) ∙ enters.stand.kinds n))
        x)

    pub bells_now : BellsStand now shares (s.bells ++ new_bells row.kind row.serial)
    bells_now x =
        seen_now bell_in (λ n. find (is_bell n) (s.bells ++ new_bells row.kind row.serial))
        (find_behind (is_bell serial) s.bells (new_bells row.kind row.serial) (enters.stand.bells serial ∙ ap (bell_in serial) nothing)
        ∙ begun.bells)
        (λ n apart. find_beside (is_bell n) s.bells (new_bells row.kind row.serial) (bells_apart row.kind row.serial n apart)
        ∙ enters.stand.bells n)
        x

    pub queues_now : QueuesStand now shares (s.queues ++ new_queues row.kind row.serial)
    queues_now x =
        seen_now queue_in (λ n. find (is_queue n) (s.queues ++ new_queues row.kind row.serial))
        (find_behind (is_queue serial) s.queues (new_queues row.kind row.serial) (enters.stand.queues serial ∙ ap (queue_in serial) nothing)
        ∙ begun.queues)
        (λ n apart. find_beside (is_queue n) s.queues (new_queues row.kind row.serial) (queues_apart row.kind row.serial n apart)
        ∙ enters.stand.queues n)
        x

    pub spans_now : SpansStand now shares s.extents
    spans_now x =
        seen_now span_in (span_row_of s.extents)
        (enters.stand.spans serial ∙ ap (span_in serial) nothing ∙ sym begun.spans)
        (λ n apart. enters.stand.spans n) x

    space_apart : (x : ℕ) → x ≢ serial → space_in (body_of now shares x) ≡ space_in (body_of headers parts.shares x)
    space_apart x apart =
        ap (λ (p : Place). space_in p.body) (place_there owed parts s row home at enters body x apart)

    space_here : space_in (body_of now shares serial) ≡ space_in body
    space_here = ap (λ (p : Place). space_in p.body) (place_now owed parts s row home at enters body)

    access_now : (x : ℕ) (space : Mapped) → space_in (body_of now shares x) ≡ Some space
        → Shows (span_row_of s.extents) s.holders space
    access_now x space is =
        elim (cases_eq x serial) [
          | inl same ↦
              shows_empty (span_row_of s.extents) s.holders space
              (begun.spaces space
              (sym space_here ∙ subst (λ (n : ℕ). space_in (body_of now shares n) ≡ Some space) same is))
          | inr apart ↦ enters.stand.spaces.access x space (sym (space_apart x apart) ∙ is)
        ]

    pub spaces_now : SpacesStand now shares s.extents s.holders s.mappings
    spaces_now = record {
      mappings = λ x.
          seen_now mappings_in (λ n. filter (is_row_of n) s.mappings)
          (enters.stand.spaces.mappings serial ∙ ap (mappings_in serial) nothing ∙ sym begun.mappings)
          (λ n apart. enters.stand.spaces.mappings n) x;
      access = access_now;
    }
