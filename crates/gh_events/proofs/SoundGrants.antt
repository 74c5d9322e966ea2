-- What a call in progress was granted lives at the looked index, and where it has its pin its word
-- isn't dead. So no entry reclaims it.
use Rattle.std.proofs.Common.{◌≡◌, ◌-◌, ◌∙◌, ◌⊎◌, inl, inr, ℕ, zero, suc, Bool, true, false, List, [], ◌∷◌, length, take, refl, subst, sym, ap, arith, Option, Some, None, is_some, map, option_map, slice_get}
use Rattle.std.specs.List.{last_or, list_any}
use Rattle.std.proofs.lemmas.Bool.{eqb-true}
use Rattle.std.proofs.lemmas.Option.{slice_get-map}
use Rattle.gh_base.specs.declared.ids.Serial.{Serial}
use Rattle.gh_model.specs.Act.{granted}
use Rattle.gh_model.specs.Graced.{finds, names_object}
use Rattle.gh_model.specs.History.{is_retired}
use Rattle.gh_model.specs.Marks.{Fails, Grants, Outcome, Seen, Wants}
use Rattle.gh_model.specs.Rows.{object_row}
use Rattle.gh_model.specs.declared.entry.Entry.TheVariants.{Reclaimed}
use Rattle.gh_model.specs.declared.rows.CapabilityRow.{CapabilityRow}
use Rattle.gh_events.specs.Calls.{but_last, came_fits, pinned_looks}
use Rattle.gh_events.specs.Config.{AtAct, Config, Current, DeadPin, Failed, Looked, Pin, Reading, Stage, Undone, came_to, is_at, pin_of, present, seen_index}
use Rattle.gh_events.specs.Grace.{granting_at, holds_grant}
use Rattle.gh_events.specs.References.{IsGranted, IsPinned, IsRow, grants_at}
use Rattle.gh_events.specs.Sound.{IsSound}
use Rattle.gh_events.specs.TurnEvents.{MayCommit}
use Rattle.gh_events.proofs.DeathsOn.{IsPlaced, own_row}
use Rattle.gh_events.proofs.Finding.{found_passes}
use Rattle.gh_events.proofs.GraceSpares.{entry_spares}
use Rattle.gh_events.proofs.NoPins.{misses}

-- all looks but the last, behind one more
cons_but_last : (first second : Seen) (others : List Seen)
    → but_last (first ∷ second ∷ others) ≡ first ∷ but_last (second ∷ others)
cons_but_last first second others =
    ap (λ (n : ℕ). take n (first ∷ second ∷ others)) (one_less (length others))
  where
    one_less : (k : ℕ) → suc (suc k) - 1 ≡ suc (suc k - 1)
    one_less k = omega arith

abbrev InList : List Seen → List Seen → ℕ → Seen → Type 0
InList front all i one = (slice_get front i ≡ Some one) ⊎ (last_or None all ≡ Some one)

behind_one : (first : Seen) (front all others : List Seen) (i : ℕ) (one : Seen) → front ≡ first ∷ others
    → InList others all i one → InList front all (suc i) one
behind_one first front all others i one same (inl is) =
    inl (ap (λ (list : List Seen). slice_get list (suc i)) same ∙ is)
behind_one first front all others i one same (inr last) = inr last

-- a look of a list is one of those but the last, or the last
last_cases : (seen : List Seen) (i : ℕ) (one : Seen) → slice_get seen i ≡ Some one
    → (slice_get (but_last seen) i ≡ Some one) ⊎ (last_or None seen ≡ Some one)
last_cases [] i one is = absurd (let never : ⊥ = cc in never)
last_cases (first ∷ []) zero one is = inr is
last_cases (first ∷ []) (suc i) one is = absurd (let never : ⊥ = cc in never)
last_cases (first ∷ second ∷ others) zero one is =
    inl (ap (λ (list : List Seen). slice_get list 0) (cons_but_last first second others) ∙ is)
last_cases (first ∷ second ∷ others) (suc i) one is =
    behind_one first (but_last (first ∷ second ∷ others)) (second ∷ others) (but_last (second ∷ others)) i one
    (cons_but_last first second others) (last_cases (second ∷ others) i one is)

-- a grant of a call has its pin, or it is the last one, beside the pins
abbrev HasPin : Stage → List Seen → ℕ → Seen → Type 0
HasPin stage seen i one =
    (slice_get (pinned_looks stage seen) i ≡ Some one)
    ⊎ ((grants_at stage ≡ true) × (last_or None seen ≡ Some one))

beside : (seen : List Seen) (i : ℕ) (one : Seen)
    → (slice_get (but_last seen) i ≡ Some one) ⊎ (last_or None seen ≡ Some one)
    → (slice_get (but_last seen) i ≡ Some one) ⊎ ((true ≡ true) × (last_or None seen ≡ Some one))
beside seen i one (inl before) = inl before
beside seen i one (inr last) = inr (refl, last)

grant_cases : (stage : Stage) (came : Outcome) (seen : List Seen) (i : ℕ) (one : Seen)
    → came_fits stage came ≡ true → slice_get (granting_at stage came seen) i ≡ Some one
    → HasPin stage seen i one
grant_cases Reading (Wants slot need) seen i one fits is = inl is
grant_cases Reading (Fails errno) seen i one fits is = absurd (let never : ⊥ = cc in never)
grant_cases Reading Grants seen i one fits is = inl is
grant_cases Looked (Wants slot need) seen i one fits is = beside seen i one (last_cases seen i one is)
grant_cases Looked (Fails errno) seen i one fits is = absurd (let never : ⊥ = cc in never)
grant_cases Looked Grants seen i one fits is = beside seen i one (last_cases seen i one is)
grant_cases DeadPin (Wants slot need) seen i one fits is = beside seen i one (last_cases seen i one is)
grant_cases DeadPin (Fails errno) seen i one fits is = absurd (let never : ⊥ = cc in never)
grant_cases DeadPin Grants seen i one fits is = beside seen i one (last_cases seen i one is)
grant_cases Undone (Wants slot need) seen i one fits is = beside seen i one (last_cases seen i one is)
grant_cases Undone (Fails errno) seen i one fits is = absurd (let never : ⊥ = cc in never)
grant_cases Undone Grants seen i one fits is = beside seen i one (last_cases seen i one is)
grant_cases Failed (Wants slot need) seen i one fits is = absurd (let never : ⊥ = cc in never)
grant_cases Failed (Fails errno) seen i one fits is = inl is
grant_cases Failed Grants seen i one fits is = absurd (let never : ⊥ = cc in never)
grant_cases AtAct came seen i one fits is = inl is

module _ (conf : Config) (cpu : ℕ) (call : Current) (i : ℕ) (seen : Seen) (sound : IsSound conf)
    (is_current : (conf.cpu cpu).current ≡ Some call) where
  -- a look that has its pin: its object lives at the looked index, whose word isn't dead
  pub look_pinned : slice_get (pinned_looks call.stage call.seen) i ≡ Some seen
      → IsPinned conf (pin_of seen)
  look_pinned is =
      let pins : (conf.cpu cpu).pins ≡ map pin_of (pinned_looks call.stage call.seen) = ((sound.calls.calls cpu).current call is_current).pinned in
      (sound.references.holds cpu).pinned i (pin_of seen)
      (ap (λ (list : List Pin). slice_get list i) pins ∙ slice_get-map pin_of (pinned_looks call.stage call.seen) i ∙ ap (option_map pin_of) is)

  granted_by : HasPin call.stage call.seen i seen → IsGranted conf seen
  granted_by (inl is) =
      let pinned : IsPinned conf (pin_of seen) = look_pinned is in
      record { row = pinned.row; lives_there = pinned.lives_there; is_that = pinned.is_that }
  granted_by (inr last) =
      (sound.references.holds cpu).granted call seen (record { is_current = is_current; grants = last.0 }) last.1

  -- and each object that it was granted lives at the looked index
  pub look_granted : slice_get (granting_at call.stage (came_to call) call.seen) i ≡ Some seen
      → IsGranted conf seen
  look_granted is =
      granted_by (grant_cases call.stage (came_to call) call.seen i seen ((sound.calls.calls cpu).current call is_current).came is)

-- where no item passes a test, none of the list does
pub any_none : {X : Type 0} (p : X → Bool) (items : List X)
    → ((i : ℕ) (item : X) → slice_get items i ≡ Some item → p item ≡ false)
    → list_any p items ≡ false
any_none p [] fails = refl
any_none p (item ∷ items) fails =
    rw (fails 0 item refl, any_none p items (λ i one is. fails (suc i) one is)) refl

-- a look that found a capability of an object granted this object
pub named_by : (serial : ℕ) (row : Option CapabilityRow) (set_at : ℕ) → names_object serial row ≡ true
    → (granted (record { row = row; set_at = set_at })).0 ≡ serial
named_by serial None set_at finds = absurd (let never : ⊥ = cc in never)
named_by serial (Some row) set_at finds = eqb-true row.serial.0 serial finds

module _ (conf : Config) (cpu : ℕ) (call : Current) (sound : IsSound conf)
    (is_current : (conf.cpu cpu).current ≡ Some call) (at : ℕ) (serial : Serial) (kept : List ℕ)
    (may : MayCommit conf at (Reclaimed serial kept)) where
  -- what is pinned isn't retired
  pinned_stays : (seen : Seen) → IsPinned conf (pin_of seen) → (granted seen.word).0 ≡ serial.0 → ⊥
  pinned_stays seen pinned same =
      let placed : IsPlaced (present conf) conf.index = record { valid = sound.valid.valid; unique = sound.references.placed.unique } in
      let own : IsRow (present conf) pinned.row = own_row (present conf) conf.index conf.dead placed (seen_index seen) pinned.row pinned.lives_there in
      let there : object_row (present conf) serial.0 ≡ Some pinned.row = subst (λ (n : ℕ). object_row (present conf) n ≡ Some pinned.row) (pinned.is_that ∙ same) own in
      let gone : is_retired (object_row (present conf) serial.0) ≡ true = may.allows.allowed.unreferenced.1 in
      let retired : is_some pinned.row.retired ≡ true = sym (ap is_retired there) ∙ gone in
      let dead : conf.dead (conf.index pinned.row.serial.0) ≡ true = sound.references.placed.retired pinned.row own retired in
      let here : conf.index pinned.row.serial.0 ≡ seen_index seen = eqb-true (conf.index pinned.row.serial.0) (seen_index seen) (found_passes (is_at conf.index (seen_index seen)) (present conf).objects pinned.row pinned.lives_there) in
      let alive : conf.dead (seen_index seen) ≡ false = pinned.alive in
      let dead_there : conf.dead (seen_index seen) ≡ true = sym (ap conf.dead here) ∙ dead in
      let never : ⊥ = cc in
      never

  not_granted : (i : ℕ) (seen : Seen) → HasPin call.stage call.seen i seen
      → (granted seen.word).0 ≡ serial.0 → ⊥
  not_granted i seen (inl is) same =
      pinned_stays seen (look_pinned conf cpu call i seen sound is_current is) same
  not_granted i seen (inr last) same =
      entry_spares conf at (Reclaimed serial kept) sound.grace may cpu call seen
      (record { is_current = is_current; grants = last.0 }) last.1 same

  -- so no call in progress was granted what an entry reclaims
  pub reclaim_spares_call : holds_grant serial.0 call ≡ false
  reclaim_spares_call =
      any_none (finds serial.0) (granting_at call.stage (came_to call) call.seen)
      (λ i seen is. misses (finds serial.0 seen) (λ here. not_granted i seen
      (grant_cases call.stage (came_to call) call.seen i seen ((sound.calls.calls cpu).current call is_current).came is)
      (named_by serial.0 seen.word.row seen.word.set_at here)))
