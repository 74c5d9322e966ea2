-- The item of a call in its section, by its stage.
use Rattle.std.proofs.Common.{◌≡◌, ◌<◌, ◌∙◌, ℕ, List, [], ◌∷◌, ap, refl, sym, length, map, arith, Option, Some, None, option_map, Result, Ok, Err}
use Rattle.std.specs.List.{last_or}
use Rattle.gh_base.specs.declared.cap_word.Need.{Need}
use Rattle.gh_base.specs.declared.errno.Errno.{Errno}
use Rattle.gh_base.specs.declared.ids.Serial.{Serial}
use Rattle.gh_events.specs.CallEvents.{left, looked, pinned, undone}
use Rattle.gh_events.specs.Config.{Config, Current, DeadPin, Failed, Looked, Reading, Stage, Undone, came_to, seen_index}
use Rattle.gh_schedules.specs.Items.{item, item_in, item_of, leave, leave_ended, pins_last, reads, undoes_last}
use Rattle.gh_core.specs.Running.{seen_of}
use Rattle.gh_schedules.specs.Trace.{after_all}
use Rattle.gh_core.specs.declared.current.SeenLook.{SeenLook}
use Rattle.gh_model.specs.Marks.{Fails, Grants, Seen, Wants, on_grant, outcome}
use Rattle.gh_model.specs.Word.{look_reply}
use Rattle.gh_model.specs.declared.word.Word.{Word}

module _ (conf : Config) (at : ℕ) (call : Current) (now : (conf.cpu at).current ≡ Some call) where
  -- the item is that of the call's stage
  pub item_is : (stage : Stage) → call.stage ≡ stage → item conf at ≡ item_in at conf call stage
  unfolding item
  item_is stage is = ap (item_of at conf) now ∙ ap (item_in at conf call) is

  -- a call that reads looks up what it wants, or else leaves
  pub looks_next : (slot : ℕ) (need : Need) → call.stage ≡ Reading → came_to call ≡ Wants slot need → after_all conf (item conf at) ≡ looked conf at slot
  looks_next slot need reading came = ap (after_all conf) (item_is Reading reading ∙ ap (reads at conf) came)

  leaves : after_all conf (leave at conf) ≡ left conf at
  unfolding leave
  leaves = refl

  pub leaves_refused : (errno : Errno) → call.stage ≡ Reading → came_to call ≡ Fails errno → after_all conf (item conf at) ≡ left conf at
  leaves_refused errno reading came = ap (after_all conf) (item_is Reading reading ∙ ap (reads at conf) came) ∙ leaves

  pub leaves_granted : call.stage ≡ Reading → came_to call ≡ Grants → after_all conf (item conf at) ≡ left conf at
  leaves_granted reading came = ap (after_all conf) (item_is Reading reading ∙ ap (reads at conf) came) ∙ leaves

  -- a granted object is pinned
  pub pins_next : (seen : Seen) → call.stage ≡ Looked → last_or None call.seen ≡ Some seen → after_all conf (item conf at) ≡ pinned conf at (seen_index seen)
  pins_next seen stage last = ap (after_all conf) (item_is Looked stage ∙ ap (pins_last at) last)

  pub pins_nothing : call.stage ≡ Looked → last_or None call.seen ≡ None → after_all conf (item conf at) ≡ conf
  pins_nothing stage last = ap (after_all conf) (item_is Looked stage ∙ ap (pins_last at) last)

  pub undoes_next : (seen : Seen) → call.stage ≡ DeadPin → last_or None call.seen ≡ Some seen → after_all conf (item conf at) ≡ undone conf at (seen_index seen)
  undoes_next seen stage last = ap (after_all conf) (item_is DeadPin stage ∙ ap (undoes_last at) last)

  pub undoes_nothing : call.stage ≡ DeadPin → last_or None call.seen ≡ None → after_all conf (item conf at) ≡ conf
  undoes_nothing stage last = ap (after_all conf) (item_is DeadPin stage ∙ ap (undoes_last at) last)

  -- a call that is refused or dying ends
  pub ends_undone : call.stage ≡ Undone → after_all conf (item conf at) ≡ after_all conf (leave_ended at conf)
  ends_undone stage = ap (after_all conf) (item_is Undone stage)

  pub ends_failed : call.stage ≡ Failed → after_all conf (item conf at) ≡ after_all conf (leave_ended at conf)
  ends_failed stage = ap (after_all conf) (item_is Failed stage)

-- a need that is wanted is behind those that have their looks
pub wants_more : (needs : List (ℕ × Need)) (words : List Word) (slot : ℕ) (need : Need) → outcome needs words ≡ Wants slot need → length words < length needs
wants_more [] words slot need wants = absurd (let never : ⊥ = cc in never)
wants_more (first ∷ needs) [] slot need wants = omega arith
wants_more (first ∷ needs) (word ∷ words) slot need wants = by_reply (look_reply word first.1) wants (wants_more needs words slot need)
  where
    by_reply : (reply : Result Serial Errno) → on_grant reply (outcome needs words) ≡ Wants slot need
        → (outcome needs words ≡ Wants slot need → length words < length needs) → length (word ∷ words) < length (first ∷ needs)
    by_reply (Err errno) is later = absurd (let never : ⊥ = cc in never)
    by_reply (Ok serial) is later = omega (arith, later is)

-- the last look is that of the code's list
last_map : {X Y : Type 0} (f : X → Y) (first : Option X) (xs : List X) → last_or (option_map f first) (map f xs) ≡ option_map f (last_or first xs)
last_map f first [] = refl
last_map f first (x ∷ xs) = last_map f (Some x) xs

pub last_seen : (seen : List SeenLook) (last : Option SeenLook) → last ≡ last_or None seen → last_or None (map seen_of seen) ≡ option_map seen_of last
last_seen seen last is = last_map seen_of None seen ∙ ap (option_map seen_of) (sym is)
