-- The rows that bodies show, once the body of one object is another.
use Rattle.std.proofs.Common.{◌≡◌, ◌≢◌, ◌≤◌, ◌∙◌, ℕ, Bool, true, false, List, [], Option, Some, None, refl, sym, ap, subst, arith}
use Rattle.std.proofs.Common.{inl, inr, find, option_map}
use Rattle.std.proofs.lemmas.Bool.{cases_lt, cases_eq}
use Rattle.std.proofs.lemmas.List.{get_or_past}
use Rattle.std.proofs.lemmas.Nat.{le-div}
use Rattle.gh_base.specs.declared.ids.ObjIndex.{ObjIndex}
use Rattle.gh_base.specs.declared.limits.TheConstants.{OBJECT_INDICES, PARTITION_PLACES, PARTITIONS}
use Rattle.gh_invariant.proofs.ChangedRow.{find_past_change}
use Rattle.gh_model.specs.Rows.{change_row}
use Rattle.gh_objects.specs.declared.header.Header.{Header}
use Rattle.gh_parts.specs.Bodies.{body_of}
use Rattle.gh_parts.specs.Index.{AreIndexed, found_index, index_of}
use Rattle.gh_parts.specs.Shares.{AreShares, body_at, place_in, with_body}
use Rattle.gh_parts.specs.declared.body.Body.{Body}
use Rattle.gh_parts.specs.declared.body.Body.TheVariants.{Nothing}
use Rattle.gh_parts.specs.declared.shares.Place.{Place}
use Rattle.gh_parts.proofs.FoundRows.{find_changed_passing}
use Rattle.gh_parts.proofs.IndexLemmas.{found_at, one_serial, unfound_past}
use Rattle.gh_parts.proofs.PlaceLemmas.{share_of, spot_of}
use Rattle.gh_parts.proofs.SharesLemmas.{body_here, body_other, body_past, body_twice}

-- no body is past the last index
pub body_none : (shares : List (List Place)) (index : ℕ) → AreShares shares → OBJECT_INDICES ≤ index
    → body_at shares index ≡ Nothing
body_none shares index whole past =
    ap (λ (places : List Place). (place_in places (spot_of index)).body)
    (get_or_past shares (share_of index) []
    (omega (arith, whole.partitions, le-div PARTITIONS index PARTITION_PLACES (omega arith) past)))

module _ (headers : List (Option Header)) (shares : List (List Place)) (all : AreIndexed headers)
    (whole : AreShares shares) (serial : ℕ) (body : Body) where
  -- the shares with the body
  abbrev pub put : List (List Place)
  put = with_body shares (index_of headers serial) body

  both_past : (other : ℕ) → other ≢ serial → index_of headers other ≡ index_of headers serial
      → OBJECT_INDICES ≤ index_of headers serial
  both_past other apart same =
      elim (cases_lt (index_of headers other) OBJECT_INDICES) [
        | inl below ↦ absurd (apart (one_serial headers other serial (omega (arith, all.indices)) same))
        | inr past ↦ omega (arith, same)
      ]

  -- every other object's body stays
  pub body_elsewhere : (other : ℕ) → other ≢ serial
      → body_of headers put other ≡ body_of headers shares other
  body_elsewhere other apart =
      elim (cases_eq (index_of headers other) (index_of headers serial)) [
        | inl same ↦
            ap (λ (now : List (List Place)). body_at now (index_of headers other))
            (body_past shares (index_of headers serial) body whole (both_past other apart same))
        | inr another ↦
            body_other shares (index_of headers serial) body (index_of headers other) another
      ]

  -- the object's body is changed, if there is the object
  pub body_changed : (change : Body → Body) → change Nothing ≡ Nothing
      → body ≡ change (body_of headers shares serial)
      → body_of headers put serial ≡ change (body_of headers shares serial)
  body_changed change nothing is =
      elim (cases_lt (index_of headers serial) OBJECT_INDICES) [
        | inl below ↦ body_here shares (index_of headers serial) body whole below ∙ is
        | inr past ↦
            ap (λ (now : List (List Place)). body_at now (index_of headers serial))
            (body_past shares (index_of headers serial) body whole past)
            ∙ body_none shares (index_of headers serial) whole past
            ∙ sym nothing
            ∙ ap change (sym (body_none shares (index_of headers serial) whole past))
      ]

  -- what is seen stays everywhere if it stays for the object
  pub seen_kept : {V : Type 0} (see : ℕ → Body → V)
      → see serial body ≡ see serial (body_of headers shares serial) → (other : ℕ)
      → see other (body_of headers put other) ≡ see other (body_of headers shares other)
  seen_kept see kept other =
      elim (cases_eq other serial) [
        | inl same ↦
            subst (λ (n : ℕ). see n (body_of headers put n) ≡ see n (body_of headers shares n)) (sym same)
            (elim (cases_lt (index_of headers serial) OBJECT_INDICES) [
              | inl below ↦ ap (see serial) (body_here shares (index_of headers serial) body whole below) ∙ kept
              | inr past ↦
                  ap (λ (now : List (List Place)). see serial (body_at now (index_of headers serial)))
                  (body_past shares (index_of headers serial) body whole past)
            ])
        | inr apart ↦ ap (see other) (body_elsewhere other apart)
      ]

  -- rows that are seen are those once the object's is changed
  pub rows_changed : {R : Type 0} (is : ℕ → R → Bool) (see : ℕ → Body → Option R) (rows : List R)
      (row_change : R → R) (change : Body → Body) → change Nothing ≡ Nothing
      → body ≡ change (body_of headers shares serial)
      → ((row : R) → is serial row ≡ true → is serial (row_change row) ≡ true)
      → ((other : ℕ) (row : R) → other ≢ serial → is serial row ≡ true → is other row ≡ false)
      → see serial (change (body_of headers shares serial)) ≡ option_map row_change (see serial (body_of headers shares serial))
      → ((x : ℕ) → find (is x) rows ≡ see x (body_of headers shares x))
      → (x : ℕ) → find (is x) (change_row (is serial) row_change rows) ≡ see x (body_of headers put x)
  rows_changed is see rows row_change change nothing what kept apart shown stand x =
      elim (cases_eq x serial) [
        | inl same ↦
            subst (λ (n : ℕ). find (is n) (change_row (is serial) row_change rows) ≡ see n (body_of headers put n)) (sym same)
            (find_changed_passing (is serial) row_change rows kept
            ∙ ap (option_map row_change) (stand serial)
            ∙ sym shown
            ∙ ap (see serial) (sym (body_changed change nothing what)))
        | inr other ↦
            find_past_change (is x) (is serial) row_change rows
            (λ row passes. apart x row other passes)
            (λ row passes. apart x (row_change row) other (kept row passes))
            ∙ stand x
            ∙ ap (see x) (sym (body_elsewhere x other))
      ]

-- a body that is taken, changed and put back
pub changed_shares : (headers : List (Option Header)) (shares : List (List Place)) (serial : ℕ)
    (index : ObjIndex) (change : Body → Body) (body new : Body) (taken now : List (List Place))
    → Some index ≡ found_index headers serial → body ≡ body_at shares index.0
    → taken ≡ with_body shares index.0 Nothing → new ≡ change body → now ≡ with_body taken index.0 new
    → with_body shares (index_of headers serial) (change (body_of headers shares serial)) ≡ now
changed_shares headers shares serial index change body new taken now found was without is put =
    ap (λ (i : ℕ). with_body shares i (change (body_at shares i))) (found_at headers serial index (sym found))
    ∙ sym (body_twice shares index.0 Nothing (change (body_at shares index.0)))
    ∙ ap (with_body (with_body shares index.0 Nothing) index.0) (sym (is ∙ ap change was))
    ∙ ap (λ (all : List (List Place)). with_body all index.0 new) (sym without)
    ∙ sym put

-- where an object isn't found, nothing is put
pub unfound_shares : (headers : List (Option Header)) (shares : List (List Place)) (serial : ℕ)
    (body : Body) → AreIndexed headers → AreShares shares → None ≡ found_index headers serial
    → with_body shares (index_of headers serial) body ≡ shares
unfound_shares headers shares serial body all whole none =
    body_past shares (index_of headers serial) body whole
    (omega (arith, all.indices, unfound_past headers serial (sym none)))

not_some : {X : Type 0} (found : Option X) → ((x : X) → found ≡ Some x → ⊥) → found ≡ None
not_some None not = refl
not_some (Some x) not = absurd (not x refl)
