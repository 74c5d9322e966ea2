-- The replay of what the log keeps.
use Rattle.std.proofs.Common.{◌≡◌, ◌∙◌, ◌-◌, ◌<◌, ◌≤◌, ◌++◌, ap, sym, subst, map, take, ℕ, zero, suc, true, false, List, [], ◌∷◌, length, drop, refl, arith, Result, Ok, Err, IfOk, OnOk}
use Rattle.gh_base.specs.declared.cap_word.Need.{Need}
use Rattle.gh_model.specs.History.{Event, after_event, grants_fit, replay, state_at}
use Rattle.gh_model.specs.declared.state.State.{State}
use Rattle.gh_model.specs.declared.word.Word.{Word}
use Rattle.gh_core.specs.Running.{all_made, event_of, is_made}
use Rattle.gh_core.specs.declared.log.Logged.{Logged}
use Rattle.gh_core.proofs.CallTests.{both, joined}
use Rattle.gh_core.proofs.LookRoom.{mapped_length}

drop_none : {X : Type 0} (at : ℕ) (xs : List X) → length xs ≤ at → drop at xs ≡ []
drop_none zero [] within = refl
drop_none zero (x ∷ xs) within = absurd (let never : ⊥ = omega (arith, within) in never)
drop_none (suc at) [] within = refl
drop_none (suc at) (x ∷ xs) within = drop_none at xs (omega (arith, within))

fit_none : (needs : List (ℕ × Need)) (at : ℕ) → at < length needs → grants_fit (drop at needs) [] ≡ false
fit_none [] at within = absurd (let never : ⊥ = omega (arith, within) in never)
fit_none (need ∷ needs) zero within = refl
fit_none (need ∷ needs) (suc at) within = fit_none needs at (omega (arith, within))

-- a need without a word has no grant
pub fit_short : (needs : List (ℕ × Need)) (words : List Word) (at : ℕ) → at < length needs → length words ≤ at
    → grants_fit (drop at needs) (drop at words) ≡ false
fit_short needs words at within past = rw (drop_none at words past) (fit_none needs at within)

-- fronts

pub map_take : {X Y : Type 0} (f : X → Y) (n : ℕ) (xs : List X) → map f (take n xs) ≡ take n (map f xs)
map_take f zero [] = refl
map_take f zero (x ∷ xs) = refl
map_take f (suc n) [] = refl
map_take f (suc n) (x ∷ xs) = ap (λ (ys : List _). f x ∷ ys) (map_take f n xs)

-- what is allowed in a history is allowed in its fronts
pub front_made : (s : State) (n : ℕ) (events : List Event) → all_made s events ≡ true → all_made s (take n events) ≡ true
front_made s zero [] made = refl
front_made s zero (event ∷ events) made = refl
front_made s (suc n) [] made = refl
front_made s (suc n) (event ∷ events) made =
    let parts = both (is_made s event) (all_made (after_event s event) events) made in
    joined (is_made s event) (all_made (after_event s event) (take n events)) parts.0 (front_made (after_event s event) n events parts.1)

-- one event more is allowed where it stands
pub more_made : (s : State) (events : List Event) (event : Event) → all_made s events ≡ true → is_made (replay s events) event ≡ true
    → all_made s (events ++ event ∷ []) ≡ true
more_made s [] event made is = joined (is_made s event) true is refl
more_made s (first ∷ events) event made is =
    let parts = both (is_made s first) (all_made (after_event s first) events) made in
    joined (is_made s first) (all_made (after_event s first) (events ++ event ∷ [])) parts.0 (more_made (after_event s first) events event parts.1 is)

-- the log but for its last entries
pub front_of_log : (s : State) (log : List Logged) (front : List Logged) (n : ℕ) → front ≡ take n log → map event_of front ≡ take n (map event_of log)
front_of_log s log front n is = ap (λ (ls : List Logged). map event_of ls) is ∙ map_take event_of n log

pub front_allowed : (s : State) (log : List Logged) (front : List Logged) (n : ℕ) → front ≡ take n log
    → all_made s (map event_of log) ≡ true → all_made s (map event_of front) ≡ true
front_allowed s log front n is made =
    subst (λ (es : List Event). all_made s es ≡ true) (sym (front_of_log s log front n is)) (front_made s n (map event_of log) made)

pub front_replayed : (s : State) (log : List Logged) (front : List Logged) (n : ℕ) → front ≡ take n log → n ≡ length log - 1
    → replay s (map event_of front) ≡ state_at s (map event_of log) (length (map event_of log) - 1)
front_replayed s log front n is counts =
    ap (replay s) (front_of_log s log front n is ∙ ap (λ (k : ℕ). take k (map event_of log)) (counts ∙ ap (λ (k : ℕ). k - 1) (sym (mapped_length event_of log))))

-- a log with one entry more that is allowed
pub log_more : (s : State) (log new : List Logged) (logged : Logged) → new ≡ log ++ logged ∷ [] → all_made s (map event_of log) ≡ true
    → is_made (replay s (map event_of log)) (event_of logged) ≡ true → all_made s (map event_of new) ≡ true
log_more s log new logged is made more =
    subst (λ (es : List Event). all_made s es ≡ true) (sym (ap (λ (ls : List Logged). map event_of ls) is ∙ map_more log logged))
    (more_made s (map event_of log) (event_of logged) made more)
  where
    map_more : (log : List Logged) (logged : Logged) → map event_of (log ++ logged ∷ []) ≡ map event_of log ++ event_of logged ∷ []
    map_more [] logged = refl
    map_more (first ∷ log) logged = ap (λ (es : List Event). event_of first ∷ es) (map_more log logged)

-- what follows where it went well
pub on_ok : {X E A B : Type 0} (result : Result X E) → OnOk result A → (A → B) → OnOk result B
on_ok (Ok value) is then = then is
on_ok (Err error) is then = tt

pub if_ok : {X E : Type 0} {P Q : X → Type 0} (result : Result X E) → IfOk result P → ((x : X) → P x → Q x) → IfOk result Q
if_ok (Ok value) is then = then value is
if_ok (Err error) is then = tt

pub if_ok_two : {X E : Type 0} {P Q R : X → Type 0} (result : Result X E) → IfOk result P → IfOk result Q → ((x : X) → P x → Q x → R x)
    → IfOk result R
if_ok_two (Ok value) first second then = then value first second
if_ok_two (Err error) first second then = tt
