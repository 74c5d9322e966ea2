-- Rounds of a course: one more behind those so far, and none once all have ended.
use Rattle.std.proofs.Common.{◌≡◌, ◌+◌, ◌-◌, ◌<◌, ◌≤◌, ◌∙◌, ℕ, zero, suc, Bool, true, false, List, [], ◌∷◌, ◌++◌, refl, subst, sym, ap, arith, Option, fold, if◌then◌else◌}
use Rattle.std.specs.List.{range_with_len}
use Rattle.std.proofs.lemmas.List.Sums.{fold-append}
use Rattle.gh_base.specs.declared.frame.Reply.{Reply}
use Rattle.gh_base.specs.declared.limits.TheConstants.{CPUS}
use Rattle.gh_model.specs.declared.program.Step.{Step}
use Rattle.gh_schedules.specs.Course.{Course, goes_on}
use Rattle.gh_schedules.specs.Schedule.{called, round, rounds}
use Rattle.gh_driver.proofs.FollowLemmas.{called_idle}

-- the numbers up to one more
range_more : (from n : ℕ) → range_with_len from (n + 1) ≡ range_with_len from n ++ (from + n) ∷ []
range_more from zero = ap (λ (last : ℕ). last ∷ []) (let same : from ≡ from + 0 = omega arith in same)
range_more from (suc n) =
    ap (range_with_len from) (let sum : suc n + 1 ≡ suc (n + 1) = omega arith in sum)
    ∙ ap (λ (others : List ℕ). from ∷ others)
    (range_more (from + 1) n ∙ ap (λ (last : ℕ). range_with_len (from + 1) n ++ last ∷ []) (let sum : from + 1 + n ≡ from + suc n = omega arith in sum))

module _ {P : Type 0} (answer : P → Option Reply → Step) (after : P → Option Reply → P) where
  -- the turns of so many CPUs
  abbrev pub turns : Course P → ℕ → Course P
  turns course n = fold (called answer after) course (range_with_len 0 n)

  -- one turn more
  pub turns_more : (course : Course P) (n : ℕ) → called answer after (turns course n) n ≡ turns course (n + 1)
  turns_more course n =
      sym (ap (fold (called answer after) course) (range_more 0 n ∙ ap (λ (last : ℕ). range_with_len 0 n ++ last ∷ []) (let sum : 0 + n ≡ n = omega arith in sum))
      ∙ fold-append (called answer after) course (range_with_len 0 n) (n ∷ []))

  -- rounds

  -- no rounds
  pub rounds_none : (course : Course P) → rounds answer after 0 course ≡ course
  unfolding rounds
  rounds_none course = refl

  -- the first round and the others
  rounds_first : (n : ℕ) (course : Course P) → rounds answer after (suc n) course ≡ rounds answer after n (round answer after course)
  unfolding rounds
  rounds_first n course = refl

  -- the rounds so far and one more
  pub rounds_more : (n : ℕ) (course : Course P) → round answer after (rounds answer after n course) ≡ rounds answer after (n + 1) course
  rounds_more zero course =
      ap (round answer after) (rounds_none course)
      ∙ sym (rounds_none (round answer after course))
      ∙ sym (rounds_first 0 course)
  rounds_more (suc n) course =
      ap (round answer after) (rounds_first n course)
      ∙ rounds_more n (round answer after course)
      ∙ sym (rounds_first (n + 1) course)
      ∙ ap (λ (k : ℕ). rounds answer after k course) (let sum : suc (n + 1) ≡ suc n + 1 = omega arith in sum)

  -- so many rounds, and then so many more
  rounds_sum : (n more : ℕ) (course : Course P) → rounds answer after (n + more) course ≡ rounds answer after more (rounds answer after n course)
  rounds_sum zero more course =
      ap (λ (k : ℕ). rounds answer after k course) (let sum : 0 + more ≡ more = omega arith in sum)
      ∙ sym (ap (rounds answer after more) (rounds_none course))
  rounds_sum (suc n) more course =
      ap (λ (k : ℕ). rounds answer after k course) (let sum : suc n + more ≡ suc (n + more) = omega arith in sum)
      ∙ rounds_first (n + more) course
      ∙ rounds_sum n more (round answer after course)
      ∙ ap (rounds answer after more) (sym (rounds_first n course))

  -- where all have ended a round does nothing

  abbrev pub AllEnded : Course P → Type 0
  AllEnded course = (at : ℕ) → at < CPUS → goes_on course.conf at ≡ false

  -- where all have ended no turn does anything
  turns_over : (course : Course P) → AllEnded course → (n : ℕ) → n ≤ CPUS → turns course n ≡ course
  turns_over course over zero most = refl
  turns_over course over (suc n) most =
      sym (ap (turns course) (let sum : n + 1 ≡ suc n = omega arith in sum))
      ∙ sym (turns_more course n)
      ∙ ap (λ (one : Course P). called answer after one n) (turns_over course over n (omega arith))
      ∙ called_idle answer after course n (over n (omega arith))

  -- nor does a round
  rounds_over : (course : Course P) → AllEnded course → (n : ℕ) → rounds answer after n course ≡ course
  rounds_over course over zero = rounds_none course
  rounds_over course over (suc n) =
      rounds_first n course
      ∙ ap (rounds answer after n) (turns_over course over CPUS (omega arith))
      ∙ rounds_over course over n

  -- so the rounds that are left do nothing
  pub rounds_still : (course : Course P) (n all : ℕ) → n ≤ all → AllEnded (rounds answer after n course)
      → rounds answer after n course ≡ rounds answer after all course
  rounds_still course n all most over =
      sym (rounds_over (rounds answer after n course) over (all - n))
      ∙ sym (rounds_sum n (all - n) course)
      ∙ ap (λ (m : ℕ). rounds answer after m course) (let sum : n + (all - n) ≡ all = omega arith in sum)
