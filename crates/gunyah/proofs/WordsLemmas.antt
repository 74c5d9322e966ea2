-- The words of a step.
use Rattle.std.proofs.Common.{◌≡◌, ◌-◌, ℕ, true, List, [], ◌∷◌, length, map}
use Rattle.std.proofs.Common.{take, drop, codes, string_bytes, String, Global, get_or, arith}
use Rattle.std.proofs.lemmas.List.{take_all}
use Rattle.std.proofs.lemmas.Bool.{false≢true, and_parts}
use Rattle.std.proofs.lemmas.Slice.Eq.{bytes_eq-Decides}
use Rattle.std.specs.Str.{bytes_eq}
use Rattle.gunyah.specs.Words.{is_step, word_bytes}

-- a word that compares as the name of the step command is it
pub step_verb : (verb : List ℕ) → bytes_eq verb (codes "step") ≡ true → verb ≡ codes "step"
step_verb verb same = (bytes_eq-Decides verb (codes "step")).0 same

-- the words of a step are its name and those of its files
pub step_words : (words : List (String Global)) (boot schedule : String Global)
    → is_step (map (λ word. string_bytes word) words) ≡ true
    → boot ≡ get_or words 1 boot → schedule ≡ get_or words 2 schedule
    → map (λ word. string_bytes word) words ≡ codes "step" ∷ string_bytes boot ∷ string_bytes schedule ∷ word_bytes (take (length words - 3) (drop 3 words))
step_words [] boot schedule step b s = absurd (false≢true step)
step_words (v ∷ []) boot schedule step b s = absurd (false≢true step)
step_words (v ∷ w ∷ []) boot schedule step b s = absurd (false≢true step)
step_words (v ∷ w ∷ x ∷ calls) boot schedule step b s =
    let verb : string_bytes v ≡ codes "step" = step_verb (string_bytes v) (and_parts _ _ step).0 in
    let all : take (length (v ∷ w ∷ x ∷ calls) - 3) calls ≡ calls = take_all (length (v ∷ w ∷ x ∷ calls) - 3) calls (omega arith) in
    cc
