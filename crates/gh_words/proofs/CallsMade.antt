-- The steps of calls on plain words.
use Rattle.std.proofs.Common.{◌≡◌, ◌+◌, ◌<◌, ◌≤◌, ◌^◌, ◌∙◌, ℕ, true, [], ◌∷◌, inl, inr, refl, sym, ap, subst, arith, Option, Some, None, option_map, slice_index}
use Rattle.std.specs.Option.{unwrap_or}
use Rattle.std.proofs.lemmas.List.Sums.{fold-append}
use Rattle.std.proofs.lemmas.Bool.Decides.{eqb_tells}
use Rattle.std.proofs.lemmas.Option.{get_or_from_slice_get}
use Rattle.gh_base.specs.Counters.{is_odd}
use Rattle.gh_base.specs.declared.limits.TheConstants.{CPUS}
use Rattle.gh_events.specs.CallEvents.{MayEnter, MayLeave, after_leave, begun, end_of_looks, entered, finished, leaves_from, left, reply_of_looks, with_end, with_left}
use Rattle.gh_events.specs.Config.{AtAct, Config, Cpu, Current, DeadPin, Failed, Given, IsIn, Looked, Reading, Stage, Undone, came_to, last_place}
use Rattle.gh_events.specs.Sound.{looks_now, place_now}
use Rattle.gh_model.specs.Marks.{Outcome, Wants, Fails, Grants, place, place_after_call}
use Rattle.gh_words.specs.Calls.{Enters, Leaves}
use Rattle.gh_words.specs.Shows.{Shows}
use Rattle.gh_words.specs.Tables.{with_counter}
use Rattle.gh_words.specs.declared.plain_words.PlainWords.{PlainWords}
use Rattle.gh_words.proofs.CallShown.{shows_counted}

-- the counter that was read is the one of the configuration
pub counter_read : (words : PlainWords) (conf : Config) (cpu : ℕ) → Shows words conf → cpu < CPUS
    → slice_index words.counters cpu ≡ conf.counter cpu
counter_read words conf cpu shown within = get_or_from_slice_get words.counters cpu (conf.counter cpu) 0 (shown.cpus cpu within).counter

-- in a section it has room for one more
pub counter_low : (words : PlainWords) (conf : Config) (cpu : ℕ) → Shows words conf → Leaves cpu conf → conf.counter cpu < 2 ^ 62
counter_low words conf cpu shown leaves = by_most (conf.counter cpu) (shown.cpus cpu leaves.is_cpu).low leaves.odd
  where
    by_most : (counter : ℕ) → counter ≤ 2 ^ 62 → is_odd counter ≡ true → counter < 2 ^ 62
    by_most counter most odd = elim (eqb_tells counter (2 ^ 62)) as (λ _. counter < 2 ^ 62) [
      | inl same ↦ absurd (let even : is_odd (2 ^ 62) ≡ true = subst (λ (n : ℕ). is_odd n ≡ true) same.1 odd in let never : ⊥ = cc in never)
      | inr differs ↦ omega (arith, most, differs.1)
    ]

-- a call at its begin has no looks yet
begun_place : (cpu : Cpu) (section : ℕ) (next : Option Given) → last_place cpu (looks_now (option_map (begun section Reading) next)) ≡ last_place cpu []
begun_place cpu section None = refl
begun_place cpu section (Some given) = refl

pub enter_made : (words new : PlainWords) (conf : Config) (cpu counter : ℕ) → Shows words conf → Enters cpu conf → MayEnter conf cpu
    → counter ≡ slice_index words.counters cpu + 1 → new ≡ with_counter words cpu counter → Shows new (entered conf cpu)
enter_made words new conf cpu counter shown enters may is put_new =
    let counts : counter ≡ conf.counter cpu + 1 = is ∙ ap (λ (n : ℕ). n + 1) (counter_read words conf cpu shown enters.is_cpu) in
    let one : Cpu = record (conf.cpu cpu) { next = None; current = option_map (begun (conf.counter cpu + 1) Reading) (conf.cpu cpu).next } in
    subst (λ (w : PlainWords). Shows w (entered conf cpu)) (sym (put_new ∙ ap (with_counter words cpu) counts))
    (shows_counted words conf shown cpu
    (λ call in_act. let never : None ≡ Some call = sym may.between.none ∙ in_act.is_current in absurd (let no : ⊥ = cc in no))
    one
    (begun_place (conf.cpu cpu) (conf.counter cpu + 1) (conf.cpu cpu).next ∙ sym (ap (λ (current : Option Current). last_place (conf.cpu cpu) (looks_now current)) may.between.none))
    enters.is_cpu enters.low)

-- leave: a call whose looks ended it leaves the last place as it was

looks_placeless : (came : Outcome) → place (end_of_looks came) ≡ None
looks_placeless (Wants slot need) = refl
looks_placeless (Fails errno) = refl
looks_placeless Grants = refl

module _ (at : ℕ) (cpu : Cpu) (call : Current) where
  ended_by_looks : place_now (with_end cpu (finished at call (end_of_looks (came_to call)) (reply_of_looks (came_to call)))) ≡ last_place cpu call.seen
  ended_by_looks =
      fold-append place_after_call 0 cpu.made (finished at call (end_of_looks (came_to call)) (reply_of_looks (came_to call)) ∷ [])
      ∙ ap (λ (o : Option ℕ). unwrap_or o (last_place cpu call.seen)) (looks_placeless (came_to call))

  left_place : (stage : Stage) → place_now (with_left at cpu call stage) ≡ last_place cpu call.seen
  left_place Reading = refl
  left_place Looked = ended_by_looks
  left_place DeadPin = ended_by_looks
  left_place Undone = ended_by_looks
  left_place Failed = ended_by_looks
  left_place AtAct = ended_by_looks

left_by : (at : ℕ) (cpu : Cpu) (current : Option Current) → cpu.current ≡ current → place_now (after_leave at cpu current) ≡ place_now cpu
left_by at cpu None is = refl
left_by at cpu (Some call) is =
    left_place at cpu call call.stage ∙ sym (ap (λ (one : Option Current). last_place cpu (looks_now one)) is)

-- a call at another stage isn't at its act
pub at_other : (cpu : Cpu) (call other : Current) (stage : Stage) → IsIn cpu call stage → (stage ≡ AtAct → ⊥) → IsIn cpu other AtAct → ⊥
at_other cpu call other stage is differs in_act =
    let same : Some call ≡ Some other = sym is.is_current ∙ in_act.is_current in
    let one : call ≡ other = cc in
    differs (sym is.at_stage ∙ ap (λ (c : Current). c.stage) one ∙ in_act.at_stage)

leaves_before : (stage : Stage) (came : Outcome) → leaves_from stage came ≡ true → stage ≡ AtAct → ⊥
leaves_before AtAct came is same = let never : ⊥ = cc in never
leaves_before Reading came is same = let never : ⊥ = cc in never
leaves_before Looked came is same = let never : ⊥ = cc in never
leaves_before DeadPin came is same = let never : ⊥ = cc in never
leaves_before Undone came is same = let never : ⊥ = cc in never
leaves_before Failed came is same = let never : ⊥ = cc in never

pub leave_made : (words new : PlainWords) (conf : Config) (cpu counter : ℕ) → Shows words conf → Leaves cpu conf → MayLeave conf cpu
    → counter ≡ slice_index words.counters cpu + 1 → new ≡ with_counter words cpu counter → Shows new (left conf cpu)
leave_made words new conf cpu counter shown leaves may is put_new =
    let counts : counter ≡ conf.counter cpu + 1 = is ∙ ap (λ (n : ℕ). n + 1) (counter_read words conf cpu shown leaves.is_cpu) in
    let one : Cpu = after_leave cpu (conf.cpu cpu) (conf.cpu cpu).current in
    subst (λ (w : PlainWords). Shows w (left conf cpu)) (sym (put_new ∙ ap (with_counter words cpu) counts))
    (shows_counted words conf shown cpu
    (λ call in_act. at_other (conf.cpu cpu) may.call call may.call.stage (record { is_current = may.is_current; at_stage = refl }) (leaves_before may.call.stage (came_to may.call) may.is_done) in_act)
    one (left_by cpu (conf.cpu cpu) (conf.cpu cpu).current refl)
    leaves.is_cpu (counter_low words conf cpu shown leaves))
