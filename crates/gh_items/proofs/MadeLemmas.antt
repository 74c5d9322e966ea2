-- The history gets the entry of a create: the progress that stands for it has the index of the object.
use Rattle.std.proofs.Common.{◌≡◌, ◌+◌, ◌-◌, ◌<◌, ◌∙◌, inl, inr, ℕ, zero, suc, Bool, true, false, List, [], ◌∷◌, ◌++◌, length, length-append, refl, sym, ap, subst, arith, Option, Some, option_map, slice_get, if◌then◌else◌}
use Rattle.std.proofs.lemmas.Bool.Decides.{eqb_tells}
use Rattle.std.proofs.lemmas.List.{map_push}
use Rattle.std.proofs.lemmas.List.Sums.{fold-append}
use Rattle.gh_base.specs.declared.cap_word.CapWord.{CapWord}
use Rattle.gh_base.specs.declared.ids.ObjIndex.{ObjIndex}
use Rattle.gh_events.specs.Config.{Config, Current, Holder, present, put}
use Rattle.gh_events.specs.Entries.{logged, next_state}
use Rattle.gh_events.proofs.Finding.{put_here, put_other}
use Rattle.gh_invariant.specs.Events.{made_by}
use Rattle.gh_schedules.specs.Places.{boot_place, places_behind, places_of}
use Rattle.gh_schedules.proofs.BlocksStay.{places_next, places_push}
use Rattle.gh_items.specs.Acts.{in_state, with_entry}
use Rattle.gh_items.specs.Stands.{Stands, index_number}
use Rattle.gh_items.specs.Swept.{with_place}
use Rattle.gh_items.specs.declared.progress.Progress.{Progress}
use Rattle.gh_model.specs.Changes.{changed_all}
use Rattle.gh_model.specs.Decide.{verdict}
use Rattle.gh_model.specs.History.{after_event, after_verdict, entry_of, numbered, replay}
use Rattle.gh_model.specs.declared.change.Change.{Change}
use Rattle.gh_model.specs.declared.change.Change.TheVariants.{AddObject, PutCapability}
use Rattle.gh_model.specs.declared.change.Decision.{Decision}
use Rattle.gh_model.specs.declared.change.Decision.TheVariants.{Refuse, Unfinished, Make}
use Rattle.gh_model.specs.declared.entry.Entry.{Entry}
use Rattle.gh_model.specs.declared.rows.CapabilityRow.{CapabilityRow}
use Rattle.gh_model.specs.declared.rows.ObjectRow.{ObjectRow}
use Rattle.gh_model.specs.declared.state.State.{State}

-- a list with one more item

pub item_front : {X : Type 0} (xs : List X) (x : X) (i : ℕ) → i < length xs → slice_get (xs ++ x ∷ []) i ≡ slice_get xs i
item_front [] x i few = absurd (omega (arith, few))
item_front (y ∷ xs) x zero few = refl
item_front (y ∷ xs) x (suc i) few = item_front xs x i (omega (arith, few))

pub item_last : {X : Type 0} (xs : List X) (x : X) → slice_get (xs ++ x ∷ []) (length xs) ≡ Some x
item_last [] x = refl
item_last (y ∷ xs) x = item_last xs x

-- the object of a create has the next serial

pub made_serial : (s : State) (allowed : Bool) (decision : Decision) (row : ObjectRow) (cap : CapabilityRow)
    → (if allowed then made_by decision else []) ≡ AddObject row ∷ PutCapability cap ∷ []
    → (if allowed then after_verdict s (verdict s decision) else numbered s).next_serial ≡ s.next_serial + 1
made_serial s false decision row cap is = absurd (let never : ⊥ = cc in never)
made_serial s true (Refuse errno) row cap is = absurd (let never : ⊥ = cc in never)
made_serial s true Unfinished row cap is = absurd (let never : ⊥ = cc in never)
made_serial s true (Make changes reply) row cap is = ap (λ (list : List Change). (changed_all s list).next_serial) is

-- the history with it

module _ (progress : Progress) (conf : Config) (stands : Stands progress conf) (entry : Entry) (call : Current)
    (serials : (next_state conf call entry).next_serial ≡ (present conf).next_serial + 1) (home : ℕ) (index : ObjIndex) (is_home : index.0 ≡ home)
    (place : ℕ) (placing : places_next conf (logged entry call) ≡ put (places_of conf) (present conf).next_serial place) where
  abbrev next : ℕ
  next = (present conf).next_serial

  grown : replay conf.boot (conf.history ++ logged entry call ∷ []) ≡ next_state conf call entry
  grown = fold-append after_event conf.boot conf.history (logged entry call ∷ [])

  its_serials : (replay conf.boot (conf.history ++ logged entry call ∷ [])).next_serial ≡ (present conf).next_serial + 1
  its_serials = ap (λ (s : State). s.next_serial) grown ∙ serials

  all_placed : length (progress.places ++ index ∷ []) + 1 ≡ (present conf).next_serial + 1
  all_placed = omega (arith, length-append progress.places (index ∷ []), stands.all_placed)

  placed_by : (serial : ℕ) → 0 < serial → serial < (present conf).next_serial + 1
      → option_map index_number (slice_get (progress.places ++ index ∷ []) (serial - 1)) ≡ Some (put conf.index (present conf).next_serial home serial)
  placed_by serial some made =
      elim (eqb_tells serial (present conf).next_serial)
      as (λ _. option_map index_number (slice_get (progress.places ++ index ∷ []) (serial - 1)) ≡ Some (put conf.index (present conf).next_serial home serial)) [
        | inl same ↦
            (let last : serial - 1 ≡ length progress.places = omega (arith, same.1, stands.all_placed) in
            ap (λ (i : ℕ). option_map index_number (slice_get (progress.places ++ index ∷ []) i)) last
            ∙ ap (option_map index_number) (item_last progress.places index) ∙ ap Some is_home
            ∙ sym (ap (λ (n : ℕ). Some (put conf.index (present conf).next_serial home n)) same.1 ∙ ap Some (put_here conf.index (present conf).next_serial home)))
        | inr differs ↦
            ap (option_map index_number) (item_front progress.places index (serial - 1) (omega (arith, some, made, differs.1, stands.all_placed)))
            ∙ stands.places serial some (omega (arith, made, differs.1))
            ∙ ap Some (sym (put_other conf.index (present conf).next_serial home serial differs.0))
      ]

  all_noted : length (progress.noted ++ place ∷ []) + 1 ≡ (present conf).next_serial + 1
  all_noted = omega (arith, length-append progress.noted (place ∷ []), stands.all_noted)

  noted_by : (serial : ℕ) → 0 < serial → serial < (present conf).next_serial + 1
      → slice_get (progress.noted ++ place ∷ []) (serial - 1) ≡ Some (put (places_of conf) (present conf).next_serial place serial)
  noted_by serial some made =
      elim (eqb_tells serial (present conf).next_serial)
      as (λ _. slice_get (progress.noted ++ place ∷ []) (serial - 1) ≡ Some (put (places_of conf) (present conf).next_serial place serial)) [
        | inl same ↦
            (let last : serial - 1 ≡ length progress.noted = omega (arith, same.1, stands.all_noted) in
            ap (slice_get (progress.noted ++ place ∷ [])) last ∙ item_last progress.noted place
            ∙ sym (ap (λ (n : ℕ). Some (put (places_of conf) (present conf).next_serial place n)) same.1 ∙ ap Some (put_here (places_of conf) (present conf).next_serial place)))
        | inr differs ↦
            item_front progress.noted place (serial - 1) (omega (arith, some, made, differs.1, stands.all_noted))
            ∙ stands.noted serial some (omega (arith, made, differs.1))
            ∙ ap Some (sym (put_other (places_of conf) (present conf).next_serial place serial differs.0))
      ]

  grown_places : places_behind conf.boot (boot_place conf.boot) (conf.history ++ logged entry call ∷ []) ≡ put (places_of conf) (present conf).next_serial place
  grown_places = places_push conf.boot (boot_place conf.boot) conf.history (logged entry call) ∙ placing

  pub made_stands : (cap : ℕ → ℕ → CapWord) (count : ℕ → ℕ) (dead : ℕ → Bool) (turn : Option Holder)
      → Stands (with_place (with_entry (in_state progress (next_state conf call entry)) entry) (Some index) place)
      (record conf { history = conf.history ++ logged entry call ∷ []; index = put conf.index (present conf).next_serial home; cap = cap; count = count; dead = dead; turn = turn })
  made_stands cap count dead turn = record {
    state = sym grown;
    entries = ap (λ (entries : List Entry). entries ++ entry ∷ []) stands.entries ∙ sym (map_push entry_of conf.history (logged entry call));
    places = λ serial some made. placed_by serial some (subst (λ (n : ℕ). serial < n) its_serials made);
    all_placed = all_placed ∙ sym its_serials;
    noted = λ serial some made.
        noted_by serial some (subst (λ (n : ℕ). serial < n) its_serials made)
        ∙ ap (λ (places : ℕ → ℕ). Some (places serial)) (sym grown_places);
    all_noted = all_noted ∙ sym its_serials;
    nine_seats = stands.nine_seats;
    nine_calls = stands.nine_calls;
    seats = stands.seats;
  }
