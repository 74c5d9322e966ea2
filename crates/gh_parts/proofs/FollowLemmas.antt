-- Bodies whose address spaces follow pages that moved.
use Rattle.std.proofs.Common.{◌≡◌, ◌∙◌, not, ℕ, Bool, true, false, List, [], ◌∷◌, Some, None, refl, ap, subst, filter, map, IsTrue}
use Rattle.std.specs.Prelude.{All, count_by}
use Rattle.std.specs.List.{list_all}
use Rattle.std.proofs.lemmas.Bool.{and_from, and_parts}
use Rattle.std.proofs.lemmas.List.Elements.{All-cons, All-nil}
use Rattle.gh_addrspace.specs.Space.{Space as Mapped}
use Rattle.gh_addrspace.specs.declared.mapping.Mapping.{Mapping}
use Rattle.gh_base.specs.declared.ids.Serial.{Serial}
use Rattle.gh_invariant.proofs.Counting.{none_fail}
use Rattle.gh_model.specs.Boot.{is_row_of, move_pages}
use Rattle.gh_model.specs.Memory.{HoldsRun}
use Rattle.gh_model.specs.References.{is_mapping_of}
use Rattle.gh_model.specs.declared.rows.MappingRow.{MappingRow}
use Rattle.gh_parts.specs.Bodies.{mapping_row, mappings_in, space_in}
use Rattle.gh_parts.specs.Follows.{SharesFollow, ShowsOn}
use Rattle.gh_parts.specs.MappingChanges.{Remaps}
use Rattle.gh_parts.specs.PageMoves.{Follows, SharesChange}
use Rattle.gh_parts.specs.Shares.{AreShares, body_at}
use Rattle.gh_parts.specs.declared.body.Body.{Body}
use Rattle.gh_parts.specs.declared.body.Body.TheVariants.{Bell, Extent, NewQueue, Nothing, Queue, Space}
use Rattle.gh_parts.specs.declared.shares.Place.{Place}
use Rattle.gh_parts.proofs.FoundRows.{not_true}
use Rattle.gh_parts.proofs.MappingLemmas.{filter_here, filter_later}
use Rattle.gh_parts.proofs.Options.{some_same}
use Rattle.gh_parts.proofs.SharesChanged.{place_changed, shares_changed}

-- the address space that a body had before
pub record SpaceBefore (change : Mapped → Mapped → Type 0) (old : Body) (new : Mapped) : Type 0 where
  pub space : Mapped
  pub is : space_in old ≡ Some space
  pub so : change space new

same_space : (change : Mapped → Mapped → Type 0) (old new : Body) (space : Mapped) → space_in old ≡ None
    → new ≡ old → space_in new ≡ Some space → SpaceBefore change old space
same_space change old new space none same is =
    absurd (let gone : space_in new ≡ None = ap space_in same ∙ none in
    let never : ⊥ = cc in never)

pub space_before : (change : Mapped → Mapped → Type 0) (old new : Body) (space : Mapped)
    → Remaps change old new → space_in new ≡ Some space → SpaceBefore change old space
space_before change (Space a) (Space b) space so is =
    record { space = a; is = refl; so = subst (change a) (some_same b space is) so }
space_before change (Space a) Nothing space so is = absurd so
space_before change (Space a) (Bell words) space so is = absurd so
space_before change (Space a) NewQueue space so is = absurd so
space_before change (Space a) (Queue queue) space so is = absurd so
space_before change (Space a) (Extent span) space so is = absurd so
space_before change Nothing new space so is = same_space change Nothing new space refl so is
space_before change (Bell words) new space so is = same_space change (Bell words) new space refl so is
space_before change NewQueue new space so is = same_space change NewQueue new space refl so is
space_before change (Queue queue) new space so is = same_space change (Queue queue) new space refl so is
space_before change (Extent span) new space so is = same_space change (Extent span) new space refl so is

-- its rows stay
pub mappings_follow : (before after : List Serial) (serial : ℕ) (old new : Body)
    → Remaps (ShowsOn before after) old new → mappings_in serial new ≡ mappings_in serial old
mappings_follow before after serial (Space a) (Space b) so = ap (map (mapping_row serial)) so.rows
mappings_follow before after serial (Space a) Nothing so = absurd so
mappings_follow before after serial (Space a) (Bell words) so = absurd so
mappings_follow before after serial (Space a) NewQueue so = absurd so
mappings_follow before after serial (Space a) (Queue queue) so = absurd so
mappings_follow before after serial (Space a) (Extent span) so = absurd so
mappings_follow before after serial Nothing new so = ap (mappings_in serial) so
mappings_follow before after serial (Bell words) new so = ap (mappings_in serial) so
mappings_follow before after serial NewQueue new so = ap (mappings_in serial) so
mappings_follow before after serial (Queue queue) new so = ap (mappings_in serial) so
mappings_follow before after serial (Extent span) new so = ap (mappings_in serial) so

-- rows that all pass a test, of which some are chosen
all_chosen_by : {R : Type 0} (test p : R → Bool) (row : R) (rows : List R) (here : Bool) → p row ≡ here
    → test row ≡ true → IsTrue (list_all test (filter p rows)) → IsTrue (list_all test (filter p (row ∷ rows)))
all_chosen_by test p row rows true is first others =
    ap (list_all test) (filter_here p row rows is) ∙ and_from _ _ first others
all_chosen_by test p row rows false is first others =
    ap (list_all test) (filter_later p row rows is) ∙ others

pub all_chosen : {R : Type 0} (test p : R → Bool) (rows : List R) → IsTrue (list_all test rows)
    → IsTrue (list_all test (filter p rows))
all_chosen test p [] all = refl
all_chosen test p (row ∷ rows) all =
    let parts : (test row ≡ true) × (list_all test rows ≡ true) = and_parts _ _ all in
    all_chosen_by test p row rows (p row) refl parts.0 (all_chosen test p rows parts.1)

-- rows of which none passes
pub none_chosen : {R : Type 0} (p : R → Bool) (rows : List R) → IsTrue (list_all (λ (row : R). not (p row)) rows)
    → filter p rows ≡ []
none_chosen p [] none = refl
none_chosen {R} p (row ∷ rows) none =
    let parts : (not (p row) ≡ true) × (list_all (λ (one : R). not (p one)) rows ≡ true) = and_parts _ _ none in
    filter_later p row rows (not_true (p row) parts.0) ∙ none_chosen p rows parts.1

-- what all rows of mappings pass, the mappings' rows pass
rows_pass : {R : Type 0} (test : R → Bool) (of : Mapping → R) (mappings : List Mapping)
    → IsTrue (list_all test (map of mappings)) → All (λ (mapping : Mapping). test (of mapping) ≡ true) mappings
rows_pass test of [] all = All-nil (λ (mapping : Mapping). test (of mapping) ≡ true)
rows_pass test of (mapping ∷ mappings) all =
    let parts : (test (of mapping) ≡ true) × (list_all test (map of mappings) ≡ true) = and_parts _ _ all in
    All-cons (λ (one : Mapping). test (of one) ≡ true) mapping mappings parts.0 (rows_pass test of mappings parts.1)

-- where no row is of an object, no mapping of an address space is of it
pub mappings_apart : (object x : ℕ) (rows : List MappingRow) (space : Mapped)
    → count_by (is_mapping_of object) rows ≡ 0 → filter (is_row_of x) rows ≡ map (mapping_row x) space.mappings
    → All (λ (mapping : Mapping). not (is_mapping_of object (mapping_row x mapping)) ≡ true) space.mappings
mappings_apart object x rows space none are =
    rows_pass (λ (row : MappingRow). not (is_mapping_of object row)) (mapping_row x) space.mappings
    (subst (λ (list : List MappingRow). IsTrue (list_all (λ (row : MappingRow). not (is_mapping_of object row)) list)) are
    (all_chosen (λ (row : MappingRow). not (is_mapping_of object row)) (is_row_of x) rows (none_fail (is_mapping_of object) rows none)))

-- all address spaces follow a run that moves, whatever else the holders are

module _ (change other : Mapped → Mapped → Type 0) (weaker : (a b : Mapped) → change a b → other a b) where
  remapped : (old new : Body) → Remaps change old new → Remaps other old new
  remapped (Space a) (Space b) so = weaker a b so
  remapped (Space a) Nothing so = absurd so
  remapped (Space a) (Bell words) so = absurd so
  remapped (Space a) NewQueue so = absurd so
  remapped (Space a) (Queue queue) so = absurd so
  remapped (Space a) (Extent span) so = absurd so
  remapped Nothing new so = so
  remapped (Bell words) new so = so
  remapped NewQueue new so = so
  remapped (Queue queue) new so = so
  remapped (Extent span) new so = so

pub run_followed : (from : ℕ) (to : Serial) (first count : ℕ) (old new : List (List Place)) → AreShares old
    → SharesChange (Follows from to first count) old new → (holders : List Serial) → HoldsRun holders from first count
    → SharesFollow holders (move_pages first count to holders) old new
run_followed from to first count old new whole changed holders holds = record {
  whole = shares_changed (Follows from to first count) old new changed whole;
  bodies = λ index.
      remapped (Follows from to first count) (ShowsOn holders (move_pages first count to holders)) follows
      (body_at old index) (body_at new index) (place_changed (Follows from to first count) old new changed index).body;
  costs = λ index. (place_changed (Follows from to first count) old new changed index).cost;
}
  where
    follows : (a b : Mapped) → Follows from to first count a b → ShowsOn holders (move_pages first count to holders) a b
    follows a b so = record { rows = so.rows; shows = λ spans shown. so.shows spans holders shown holds }

-- one after another

pub shows_still : (holders : List Serial) (space : Mapped) → ShowsOn holders holders space space
shows_still holders space = record { rows = refl; shows = λ spans shown. shown }

still_body : (holders : List Serial) (body : Body) → Remaps (ShowsOn holders holders) body body
still_body holders (Space space) = shows_still holders space
still_body holders Nothing = refl
still_body holders (Bell words) = refl
still_body holders NewQueue = refl
still_body holders (Queue queue) = refl
still_body holders (Extent span) = refl

-- shares that stay follow holders that stay
pub follow_still : (holders : List Serial) (shares : List (List Place)) → AreShares shares
    → SharesFollow holders holders shares shares
follow_still holders shares whole = record {
  whole = whole;
  bodies = λ index. still_body holders (body_at shares index);
  costs = λ index. refl;
}

module _ (before between after : List Serial) where
  same_then : (old middle new : Body) → middle ≡ old → Remaps (ShowsOn between after) middle new
      → (Remaps (ShowsOn between after) old new → new ≡ old) → new ≡ old
  same_then old middle new same so is =
      is (subst (λ (one : Body). Remaps (ShowsOn between after) one new) same so)

  body_then : (old middle new : Body) → Remaps (ShowsOn before between) old middle
      → Remaps (ShowsOn between after) middle new → Remaps (ShowsOn before after) old new
  body_then (Space a) (Space b) (Space c) so behind =
      record { rows = behind.rows ∙ so.rows; shows = λ spans shown. behind.shows spans (so.shows spans shown) }
  body_then (Space a) (Space b) Nothing so behind = absurd behind
  body_then (Space a) (Space b) (Bell words) so behind = absurd behind
  body_then (Space a) (Space b) NewQueue so behind = absurd behind
  body_then (Space a) (Space b) (Queue queue) so behind = absurd behind
  body_then (Space a) (Space b) (Extent span) so behind = absurd behind
  body_then (Space a) Nothing new so behind = absurd so
  body_then (Space a) (Bell words) new so behind = absurd so
  body_then (Space a) NewQueue new so behind = absurd so
  body_then (Space a) (Queue queue) new so behind = absurd so
  body_then (Space a) (Extent span) new so behind = absurd so
  body_then Nothing middle new so behind = same_then Nothing middle new so behind (λ is. is)
  body_then (Bell words) middle new so behind = same_then (Bell words) middle new so behind (λ is. is)
  body_then NewQueue middle new so behind = same_then NewQueue middle new so behind (λ is. is)
  body_then (Queue queue) middle new so behind = same_then (Queue queue) middle new so behind (λ is. is)
  body_then (Extent span) middle new so behind = same_then (Extent span) middle new so behind (λ is. is)

  pub follow_then : (old middle new : List (List Place)) → SharesFollow before between old middle
      → SharesFollow between after middle new → SharesFollow before after old new
  follow_then old middle new first behind = record {
    whole = behind.whole;
    bodies = λ index. body_then (body_at old index) (body_at middle index) (body_at new index) (first.bodies index) (behind.bodies index);
    costs = λ index. behind.costs index ∙ first.costs index;
  }
