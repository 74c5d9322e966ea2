-- A course ends: each call has so many items at most, and each program so many calls.
use Rattle.std.proofs.Common.{◌≡◌, ◌==◌, ◌+◌, ◌-◌, ◌<◌, ◌≤◌, ◌∙◌, ◌⊎◌, inl, inr, ℕ, zero, suc, Bool, true, false, List, [], ◌∷◌, length, refl, subst, sym, ap, arith, Option, Some, None, map, if◌then◌else◌}
use Rattle.std.specs.List.{list_any}
use Rattle.std.specs.Prelude.{Result, Ok, Err, is_some}
use Rattle.std.proofs.lemmas.Bool.Decides.{eqb_tells}
use Rattle.std.proofs.lemmas.Bool.{or_left}
use Rattle.std.proofs.lemmas.List.Folds.{list_any-append}
use Rattle.std.proofs.lemmas.List.{length-append}
use Rattle.gh_base.specs.declared.call.Call.{Call}
use Rattle.gh_base.specs.declared.errno.Errno.{Errno}
use Rattle.gh_base.specs.declared.frame.Reply.{Reply}
use Rattle.gh_base.specs.declared.limits.TheConstants.{CPUS}
use Rattle.gh_model.specs.Legal.{exits}
use Rattle.gh_model.specs.Marks.{Made}
use Rattle.gh_model.specs.Registers.{call_of, needs_of}
use Rattle.gh_model.specs.declared.program.Standing.{Standing}
use Rattle.gh_model.specs.declared.program.Step as program
use Rattle.gh_events.specs.Config.{AtAct, Config, Cpu, Current, DeadPin, Failed, Given, Looked, Reading, Stage, Undone}
use Rattle.gh_events.specs.Sound.{Does, after_steps, made_by}
use Rattle.gh_events.specs.Start.{given, refused_frame, with_next}
use Rattle.gh_schedules.specs.Course.{Course, call_of_cpu, either_call, with_call, with_next_call, next_standing, with_steps}
use Rattle.gh_schedules.specs.Items.{item}
use Rattle.gh_schedules.specs.Schedule.{CallEnds, CallGoesOn, IsItem, ended_call, items_at, items_left, items_of_call, items_of_next, with_item, with_items}
use Rattle.gh_schedules.proofs.CourseStays.{Goes, MoreCalls, Stays, call_stays, either_more, given_here, given_more, item_stays, steps_boot}
use Rattle.gh_schedules.proofs.ItemCalls.{item_is_item}
use Rattle.gh_events.proofs.Finding.{put_other}

-- a call has an item left at least

some_at : (stage : Stage) (looks : ℕ) → 1 ≤ items_at stage looks
some_at Reading looks = omega arith
some_at Looked looks = omega arith
some_at DeadPin looks = omega arith
some_at Undone looks = omega arith
some_at Failed looks = omega arith
some_at AtAct looks = omega arith

some_next : (next : Option Given) (call : Given) → next ≡ Some call → 1 ≤ items_of_next next
some_next None call is = absurd (let never : ⊥ = cc in never)
some_next (Some given) call is = omega arith

some_left : (cpu : Cpu) (call : Given) → call_of_cpu cpu ≡ Some call → 1 ≤ items_left cpu
some_left cpu call is = by_current cpu.current refl
  where
    by_current : (current : Option Current) → cpu.current ≡ current → 1 ≤ items_left cpu
    by_current None none =
        let next : cpu.next ≡ Some call = sym (ap (λ (one : Option Current). either_call one cpu.next) none) ∙ is in
        subst (λ (one : Option Current). 1 ≤ items_of_call one cpu.next) (sym none) (some_next cpu.next call next)
    by_current (Some one) there =
        subst (λ (now : Option Current). 1 ≤ items_of_call now cpu.next) (sym there)
        (some_at one.stage (length (needs_of one.given.call) - length one.seen))

-- finished calls stay finished

pub record Grows {P : Type 0} (course later : Course P) : Type 0 where
  pub boot : later.conf.boot ≡ course.conf.boot
  pub exited : (cpu : ℕ) → list_any exits (made_by course.conf cpu) ≡ true
      → list_any exits (made_by later.conf cpu) ≡ true
  pub longer : (cpu : ℕ) → length (made_by course.conf cpu) ≤ length (made_by later.conf cpu)

module _ {P : Type 0} where
  pub as_was : (course : Course P) → Grows course course
  as_was course = record { boot = refl; exited = λ cpu is. is; longer = λ cpu. omega arith }

  pub grows_on : (course middle later : Course P) → Grows course middle → Grows middle later → Grows course later
  grows_on course middle later first then_ = record {
    boot = then_.boot ∙ first.boot;
    exited = λ cpu is. then_.exited cpu (first.exited cpu is);
    longer = λ cpu. omega (arith, first.longer cpu, then_.longer cpu);
  }

more_exited : (before now : Cpu) → MoreCalls before now → list_any exits before.made ≡ true
    → list_any exits now.made ≡ true
more_exited before now (inl same) is = ap (list_any exits) same ∙ is
more_exited before now (inr one) is =
    ap (list_any exits) one.1 ∙ list_any-append exits before.made (one.0 ∷ [])
    ∙ or_left (list_any exits before.made) (list_any exits (one.0 ∷ [])) is

more_longer : (before now : Cpu) → MoreCalls before now → length before.made ≤ length now.made
more_longer before now (inl same) = omega (arith, ap (λ (list : List Made). length list) same)
more_longer before now (inr one) =
    omega (arith, ap (λ (list : List Made). length list) one.1, length-append before.made (one.0 ∷ []))

module _ {P : Type 0} (course later : Course P) (at : ℕ) (boot : later.conf.boot ≡ course.conf.boot)
    (others : (cpu : ℕ) → (cpu == at) ≡ false → later.conf.cpu cpu ≡ course.conf.cpu cpu)
    (own : MoreCalls (course.conf.cpu at) (later.conf.cpu at)) where
  more_calls : (cpu : ℕ) → MoreCalls (course.conf.cpu cpu) (later.conf.cpu cpu)
  more_calls cpu =
      elim (eqb_tells cpu at) as (λ _. MoreCalls (course.conf.cpu cpu) (later.conf.cpu cpu)) [
        | inl same ↦ subst (λ (n : ℕ). MoreCalls (course.conf.cpu n) (later.conf.cpu n)) (sym same.1) own
        | inr differs ↦ inl (ap (λ (one : Cpu). one.made) (others cpu differs.0))
      ]

  one_grows : Grows course later
  one_grows = record {
    boot = boot;
    exited = λ cpu is. more_exited (course.conf.cpu cpu) (later.conf.cpu cpu) (more_calls cpu) is;
    longer = λ cpu. more_longer (course.conf.cpu cpu) (later.conf.cpu cpu) (more_calls cpu);
  }

module _ {P : Type 0} (answer : P → Option Reply → program.Step) (after : P → Option Reply → P)
    (begin_conf : Config) (first : ℕ → P) where
  abbrev pub Kept : Course P → Type 0
  Kept course = Stays answer after begin_conf first course

  -- an item

  record IsDone (course later : Course P) (at : ℕ) (call : Given) : Type 0 where
    stays : Kept later
    grows : Grows course later
    own : CallGoesOn (course.conf.cpu at) (later.conf.cpu at) ⊎ CallEnds call (course.conf.cpu at) (later.conf.cpu at)

  module _ (course : Course P) (at : ℕ) (call : Given) (stays : Kept course) (within : at < CPUS)
      (has : call_of_cpu (course.conf.cpu at) ≡ Some call) where
    its_item : IsItem course.conf at call (item course.conf at)
    its_item = item_is_item course.conf at call stays.steady within has

    item_is : with_item course at ≡ with_steps course (map Does (item course.conf at))
    item_is = ap (λ (b : Bool). if b then with_steps course (map Does (item course.conf at)) else course) (ap is_some has)

    item_done : IsDone course (with_item course at) at call
    item_done =
        subst (λ (later : Course P). IsDone course later at call) (sym item_is) (record {
          stays = item_stays answer after begin_conf first course at call stays within has its_item;
          grows = one_grows course (with_steps course (map Does (item course.conf at))) at (steps_boot course.conf (map Does (item course.conf at))) its_item.others
              (either_more answer after begin_conf first course at call stays within has ((after_steps course.conf (map Does (item course.conf at))).cpu at) its_item.own);
          own = its_item.own;
        })

  -- a whole call

  no_item : (course : Course P) (at : ℕ) → call_of_cpu (course.conf.cpu at) ≡ None
      → with_item course at ≡ course
  no_item course at none = ap (λ (b : Bool). if b then with_steps course (map Does (item course.conf at)) else course) (ap is_some none)

  no_items : (n : ℕ) (course : Course P) (at : ℕ) → call_of_cpu (course.conf.cpu at) ≡ None
      → with_items n course at ≡ course
  unfolding with_items
  no_items zero course at none = refl
  no_items (suc n) course at none =
      ap (λ (one : Course P). with_items n one at) (no_item course at none) ∙ no_items n course at none

  -- the CPU has ended its call
  pub record HasCalled (course later : Course P) (at : ℕ) : Type 0 where
    pub stays : Kept later
    pub grows : Grows course later
    pub none : call_of_cpu (later.conf.cpu at) ≡ None
    pub one_more : length (made_by later.conf at) ≡ length (made_by course.conf at) + 1

  ends_none : (call : Given) (before now : Cpu) → CallEnds call before now → call_of_cpu now ≡ None
  ends_none call before now ends = ap (λ (one : Option Current). either_call one now.next) ends.between.none ∙ ends.none

  items_end : (n : ℕ) (course : Course P) (at : ℕ) (call : Given) → Kept course → at < CPUS
      → call_of_cpu (course.conf.cpu at) ≡ Some call → items_left (course.conf.cpu at) ≤ n
      → HasCalled course (with_items n course at) at
  unfolding with_items
  items_end zero course at call stays within has few = absurd (omega (arith, some_left (course.conf.cpu at) call has, few))
  items_end (suc n) course at call stays within has few =
      by_end
      (λ still fewer. items_end n (with_item course at) at call (item_done course at call stays within has).stays within still fewer)
      (item_done course at call stays within has).own
    where
      next : Course P
      next = with_item course at

      done : IsDone course next at call
      done = item_done course at call stays within has

      by_end : (call_of_cpu (next.conf.cpu at) ≡ Some call → items_left (next.conf.cpu at) ≤ n → HasCalled next (with_items n next at) at)
          → CallGoesOn (course.conf.cpu at) (next.conf.cpu at) ⊎ CallEnds call (course.conf.cpu at) (next.conf.cpu at)
          → HasCalled course (with_items n next at) at
      by_end others (inl on) =
          let rest : HasCalled next (with_items n next at) at =
          others (on.same ∙ has) (omega (arith, on.fewer, few)) in
          record {
            stays = rest.stays;
            grows = grows_on course next (with_items n next at) done.grows rest.grows;
            none = rest.none;
            one_more = rest.one_more ∙ ap (λ (list : List Made). length list + 1) on.made;
          }
      by_end others (inr ends) =
          let none : call_of_cpu (next.conf.cpu at) ≡ None = ends_none call (course.conf.cpu at) (next.conf.cpu at) ends in
          subst (λ (later : Course P). HasCalled course later at) (sym (no_items n next at none)) (record {
            stays = done.stays;
            grows = done.grows;
            none = none;
            one_more = ap (λ (list : List Made). length list) ends.made
                ∙ length-append (course.conf.cpu at).made (ends.call ∷ []);
          })

  -- a CPU without a call is given its program's next one, which has ended at once where its frame is
  -- refused

  record IsGiven (course later : Course P) (at : ℕ) : Type 0 where
    stays : Kept later
    grows : Grows course later
    either : ((length (made_by later.conf at) ≡ length (made_by course.conf at) + 1) × (call_of_cpu (later.conf.cpu at) ≡ None))
        ⊎ ((length (made_by later.conf at) ≡ length (made_by course.conf at)) × ((call : Given) × (call_of_cpu (later.conf.cpu at) ≡ Some call)))

  module _ (course : Course P) (at : ℕ) (stays : Kept course) (goes : Goes course.conf at) (within : at < CPUS)
      (none : call_of_cpu (course.conf.cpu at) ≡ None) where
    abbrev standing : Standing P
    standing = next_standing answer after course at

    abbrev its : ℕ
    its = length (made_by course.conf at) + 1

    abbrev asked_course : Course P
    asked_course = with_call answer after course at standing

    free_cpu : (course.conf.cpu at).current ≡ None
    free_cpu = ((stays.follow at).idle none).none

    abbrev Either : Cpu → Type 0
    Either now = ((length now.made ≡ length (made_by course.conf at) + 1) × (call_of_cpu now ≡ None))
        ⊎ ((length now.made ≡ length (made_by course.conf at)) × ((call : Given) × (call_of_cpu now ≡ Some call)))

    given_either : (shape : Result Call Errno) → Either (with_next at its standing.frame (course.conf.cpu at) shape)
    given_either (Ok call) =
        let now : Given = record { number = its; frame = standing.frame; call = call } in
        inr (refl, (now, ap (λ (one : Option Current). either_call one (Some now)) free_cpu))
    given_either (Err errno) = inl (length-append (made_by course.conf at) (refused_frame at its standing.frame errno ∷ []), none)

    here : asked_course.conf.cpu at ≡ with_next at its standing.frame (course.conf.cpu at) (call_of standing.frame)
    here = given_here answer after begin_conf first course at stays goes within none

    call_given : IsGiven course asked_course at
    call_given = record {
      stays = call_stays answer after begin_conf first course at stays goes within none;
      grows = one_grows course asked_course at refl (λ n differs. put_other course.conf.cpu at _ n differs)
          (subst (λ (now : Cpu). MoreCalls (course.conf.cpu at) now) (sym here) (given_more answer after begin_conf first course at stays goes within none (call_of standing.frame)));
      either = subst Either (sym here) (given_either (call_of standing.frame));
    }

  -- so it makes one whole call

  nothing_left : (course : Course P) (at : ℕ) → call_of_cpu (course.conf.cpu at) ≡ None
      → ended_call course at ≡ course
  nothing_left course at none = no_items (items_left (course.conf.cpu at)) course at none

  module _ (course : Course P) (at : ℕ) (stays : Kept course) (goes : Goes course.conf at) (within : at < CPUS) where
    finishes : (middle : Course P) → IsGiven course middle at → HasCalled course (ended_call middle at) at
    finishes middle is = by_either is.either
      where
        by_either : ((length (made_by middle.conf at) ≡ length (made_by course.conf at) + 1) × (call_of_cpu (middle.conf.cpu at) ≡ None))
            ⊎ ((length (made_by middle.conf at) ≡ length (made_by course.conf at)) × ((call : Given) × (call_of_cpu (middle.conf.cpu at) ≡ Some call)))
            → HasCalled course (ended_call middle at) at
        by_either (inl ended) =
            subst (λ (later : Course P). HasCalled course later at) (sym (nothing_left middle at ended.1))
            (record { stays = is.stays; grows = is.grows; none = ended.1; one_more = ended.0 })
        by_either (inr goes_so) =
            let rest : HasCalled middle (ended_call middle at) at =
            items_end (items_left (middle.conf.cpu at)) middle at goes_so.1.0 is.stays within goes_so.1.1 (omega arith) in
            record {
              stays = rest.stays;
              grows = grows_on course middle (ended_call middle at) is.grows rest.grows;
              none = rest.none;
              one_more = rest.one_more ∙ ap (λ (n : ℕ). n + 1) goes_so.0;
            }

    next_given : (call : Option Given) → call_of_cpu (course.conf.cpu at) ≡ call
        → IsGiven course (with_next_call answer after course at) at
    next_given None none =
        subst (λ (later : Course P). IsGiven course later at)
        (sym (ap (λ (b : Bool). if b then course else with_call answer after course at (next_standing answer after course at)) (ap is_some none)))
        (call_given course at stays goes within none)
    next_given (Some call) has =
        subst (λ (later : Course P). IsGiven course later at)
        (sym (ap (λ (b : Bool). if b then course else with_call answer after course at (next_standing answer after course at)) (ap is_some has)))
        (record { stays = stays; grows = as_was course; either = inr (refl, (call, has)) })

    pub one_called : HasCalled course (ended_call (with_next_call answer after course at) at) at
    one_called = finishes (with_next_call answer after course at) (next_given (call_of_cpu (course.conf.cpu at)) refl)

    -- or one item
    pub one_advanced : Kept (with_item (with_next_call answer after course at) at)
    one_advanced = by_call (call_of_cpu (middle.conf.cpu at)) refl
      where
        middle : Course P
        middle = with_next_call answer after course at

        is : IsGiven course middle at
        is = next_given (call_of_cpu (course.conf.cpu at)) refl

        by_call : (call : Option Given) → call_of_cpu (middle.conf.cpu at) ≡ call
            → Kept (with_item middle at)
        by_call None none = subst (λ (later : Course P). Kept later) (sym (no_item middle at none)) is.stays
        by_call (Some call) has = (item_done middle at call is.stays within has).stays
