-- The marks of a course: each CPU's are, in order, those of its finished calls, and an item or a
-- given call adds those of one CPU.
use Rattle.std.proofs.Common.{◌≡◌, ◌==◌, ◌+◌, ◌<◌, ◌≤◌, ◌∙◌, inl, inr, ℕ, zero, suc, Bool, true, false, List, [], ◌∷◌, ◌++◌, length, refl, subst, sym, ap, append_assoc, arith, eq-eqb, Some, filter, flat_map, map, slice_get, if◌then◌else◌}
use Rattle.std.specs.Prelude.{drop}
use Rattle.std.specs.List.{range_with_len}
use Rattle.std.proofs.lemmas.Bool.{eqb-true}
use Rattle.std.proofs.lemmas.Bool.Decides.{eqb_tells, nat_tests}
use Rattle.std.proofs.lemmas.List.{append-nil, drop_all, map-append}
use Rattle.std.proofs.lemmas.List.Elements.{filter-append}
use Rattle.std.proofs.lemmas.List.Prefix.{front_rest}
use Rattle.gh_base.specs.declared.limits.TheConstants.{CPUS}
use Rattle.gh_base.specs.declared.mark.Mark.{Mark}
use Rattle.gh_model.specs.Marks.{Made, mark_of}
use Rattle.gh_model.specs.Run.{is_mark_of}
use Rattle.gh_events.specs.Calls.{HasCalls}
use Rattle.gh_events.specs.Config.{Config, Cpu}
use Rattle.gh_events.specs.Sound.{made_by}
use Rattle.gh_schedules.specs.Course.{marks_added, marks_by, marks_since}

-- calls of one CPU

-- each of these calls is one of this CPU
abbrev pub AreOf : ℕ → List Made → Type 0
AreOf cpu made = (i : ℕ) (one : Made) → slice_get made i ≡ Some one → one.mark.cpu.0 ≡ cpu

-- the marks of one CPU's calls, and those of another's
module _ (n : ℕ) where
  pub own_marks : (made : List Made) → AreOf n made → filter (is_mark_of n) (map mark_of made) ≡ map mark_of made
  own_marks [] its = refl
  own_marks (one ∷ made) its =
      let here : is_mark_of n one.mark ≡ true = eq-eqb one.mark.cpu.0 n (its zero one refl) in
      ap (λ (b : Bool). if b then one.mark ∷ filter (is_mark_of n) (map mark_of made) else filter (is_mark_of n) (map mark_of made)) here
      ∙ ap (λ (list : List Mark). one.mark ∷ list) (own_marks made (λ i other is. its (suc i) other is))

  pub other_marks : (cpu : ℕ) (made : List Made) → (cpu == n) ≡ false → AreOf cpu made
      → filter (is_mark_of n) (map mark_of made) ≡ []
  other_marks cpu [] differs its = refl
  other_marks cpu (one ∷ made) differs its =
      let there : is_mark_of n one.mark ≡ false = subst (λ (k : ℕ). (k == n) ≡ false) (sym (its zero one refl)) differs in
      ap (λ (b : Bool). if b then one.mark ∷ filter (is_mark_of n) (map mark_of made) else filter (is_mark_of n) (map mark_of made)) there
      ∙ other_marks cpu made differs (λ i other is. its (suc i) other is)

-- calls behind others are among all
front_are : (made more : List Made) (cpu : ℕ) → AreOf cpu (made ++ more) → AreOf cpu made
front_are (first ∷ made) more cpu its zero one is = its zero one is
front_are (first ∷ made) more cpu its (suc i) one is = front_are made more cpu (λ j other there. its (suc j) other there) i one is
front_are [] more cpu its i one is = absurd (let never : ⊥ = cc in never)

back_are : (made more : List Made) (cpu : ℕ) → AreOf cpu (made ++ more) → AreOf cpu more
back_are [] more cpu its = its
back_are (first ∷ made) more cpu its = back_are made more cpu (λ i one is. its (suc i) one is)

-- a CPU's finished calls are its own
pub made_are : (conf : Config) (cpu : ℕ) → HasCalls conf → AreOf cpu (made_by conf cpu)
made_are conf cpu sound =
    front_are (made_by conf cpu) _ cpu (λ i one is. ((sound.calls cpu).finished i one is).its_cpu)

-- more calls

-- one CPU has these calls more, and the others are as they were
module _ (before behind : Config) (at : ℕ) (more : List Made) (within : at < CPUS)
    (others : (cpu : ℕ) → (cpu == at) ≡ false → behind.cpu cpu ≡ before.cpu cpu)
    (own : made_by behind at ≡ made_by before at ++ more) where
  since_other : (cpu : ℕ) → (cpu == at) ≡ false → marks_since before behind cpu ≡ []
  since_other cpu differs =
      ap (λ (one : Cpu). drop (length (marks_by before cpu)) (map mark_of one.made)) (others cpu differs)
      ∙ drop_all (length (marks_by before cpu)) (marks_by before cpu) (omega arith)

  by_own : marks_by behind at ≡ marks_by before at ++ map mark_of more
  by_own = ap (map mark_of) own ∙ map-append mark_of (made_by before at) more

  since_own : marks_since before behind at ≡ map mark_of more
  since_own = front_rest (marks_by behind at) (marks_by before at) (map mark_of more) by_own

  added_none : (from k : ℕ) → at < from → flat_map (marks_since before behind) (range_with_len from k) ≡ []
  added_none from zero above = refl
  added_none from (suc k) above =
      let apart : (from == at) ≡ false = grind (arith, nat_tests) in
      ap (λ (list : List Mark). list ++ flat_map (marks_since before behind) (range_with_len (from + 1) k)) (since_other from apart)
      ∙ added_none (from + 1) k (omega arith)

  added_in : (from k : ℕ) → from ≤ at → at < from + k
      → flat_map (marks_since before behind) (range_with_len from k) ≡ map mark_of more
  added_in from zero low high = absurd (omega arith)
  added_in from (suc k) low high = by_first (from == at) refl (λ above. added_in (from + 1) k above (omega arith))
    where
      by_first : (here : Bool) → (from == at) ≡ here
          → (from + 1 ≤ at → flat_map (marks_since before behind) (range_with_len (from + 1) k) ≡ map mark_of more)
          → marks_since before behind from ++ flat_map (marks_since before behind) (range_with_len (from + 1) k) ≡ map mark_of more
      by_first true is later =
          let same : from ≡ at = eqb-true from at is in
          ap (λ (list : List Mark). marks_since before behind from ++ list) (added_none (from + 1) k (omega (arith, same)))
          ∙ append-nil (marks_since before behind from) ∙ ap (marks_since before behind) same ∙ since_own
      by_first false is later =
          let apart : (from == at) ≡ false = is in
          ap (λ (list : List Mark). list ++ flat_map (marks_since before behind) (range_with_len (from + 1) k)) (since_other from apart)
          ∙ later (grind (arith, nat_tests))

  -- just the marks of its calls are added
  pub one_added : marks_added before behind ≡ map mark_of more
  one_added = added_in 0 CPUS (omega arith) (omega (arith, within))

  -- the marks of each CPU are still those of its calls
  module _ (sound : HasCalls behind) (marks : List Mark)
      (were : (cpu : ℕ) → filter (is_mark_of cpu) marks ≡ marks_by before cpu) where
    more_are : AreOf at more
    more_are = back_are (made_by before at) more at (subst (AreOf at) own (made_are behind at sound))

    filtered : (cpu : ℕ) → filter (is_mark_of cpu) (marks ++ marks_added before behind)
        ≡ marks_by before cpu ++ filter (is_mark_of cpu) (map mark_of more)
    filtered cpu =
        ap (λ (added : List Mark). filter (is_mark_of cpu) (marks ++ added)) one_added
        ∙ filter-append (is_mark_of cpu) marks (map mark_of more)
        ∙ ap (λ (list : List Mark). list ++ filter (is_mark_of cpu) (map mark_of more)) (were cpu)

    pub marks_stay : (cpu : ℕ) → filter (is_mark_of cpu) (marks ++ marks_added before behind) ≡ marks_by behind cpu
    marks_stay cpu =
        elim (eqb_tells at cpu) as (λ _. filter (is_mark_of cpu) (marks ++ marks_added before behind) ≡ marks_by behind cpu) [
          | inl same ↦
              subst (λ (n : ℕ). filter (is_mark_of n) (marks ++ marks_added before behind) ≡ marks_by behind n) same.1
              (filtered at ∙ ap (λ (list : List Mark). marks_by before at ++ list) (own_marks at more more_are) ∙ sym by_own)
          | inr differs ↦
              filtered cpu
              ∙ ap (λ (list : List Mark). marks_by before cpu ++ list) (other_marks cpu at more differs.0 more_are)
              ∙ append-nil (marks_by before cpu)
              ∙ ap (λ (one : Cpu). map mark_of one.made) (sym (others cpu (let apart : (at == cpu) ≡ false = differs.0 in grind (arith, nat_tests))))
        ]

-- what a CPU's calls add one after the other is what they add together
pub added_twice : (first middle last : Config) (at : ℕ) (more later : List Made) → at < CPUS
    → ((cpu : ℕ) → (cpu == at) ≡ false → middle.cpu cpu ≡ first.cpu cpu)
    → ((cpu : ℕ) → (cpu == at) ≡ false → last.cpu cpu ≡ middle.cpu cpu)
    → made_by middle at ≡ made_by first at ++ more → made_by last at ≡ made_by middle at ++ later
    → marks_added first middle ++ marks_added middle last ≡ marks_added first last
added_twice first middle last at more later within others after_others own after_own =
    let both : made_by last at ≡ made_by first at ++ (more ++ later) =
    after_own ∙ ap (λ (list : List Made). list ++ later) own ∙ append_assoc (made_by first at) more later in
    ap (λ (list : List Mark). list ++ marks_added middle last) (one_added first middle at more within others own)
    ∙ ap (λ (list : List Mark). map mark_of more ++ list) (one_added middle last at later within after_others after_own)
    ∙ sym (map-append mark_of more later)
    ∙ sym (one_added first last at (more ++ later) within (λ cpu apart. after_others cpu apart ∙ others cpu apart) both)

-- for callers: where no call ended no mark is added, and where one did just its mark is
module _ (before behind : Config) (at : ℕ) (within : at < CPUS)
    (others : (cpu : ℕ) → (cpu == at) ≡ false → behind.cpu cpu ≡ before.cpu cpu) where
  pub none_added : made_by behind at ≡ made_by before at → marks_added before behind ≡ []
  none_added same =
      one_added before behind at [] within others (same ∙ sym (append-nil (made_by before at)))

  pub call_added : (call : Made) → made_by behind at ≡ made_by before at ++ call ∷ []
      → marks_added before behind ≡ mark_of call ∷ []
  call_added call more = one_added before behind at (call ∷ []) within others more
