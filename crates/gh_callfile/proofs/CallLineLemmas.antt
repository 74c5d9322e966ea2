-- What stands behind the registers has no words, two or four.
use Rattle.std.proofs.Common.{◌≡◌, ◌≢◌, ℕ, List, [], ◌∷◌, None, length, refl}
use Rattle.std.specs.Borrow.{Bor}
use Rattle.gh_callfile.specs.Grammar.{line_behind, tail_of, texts_of}

pub no_line_behind : (x : List ℕ) (tail : List (Bor (List ℕ))) → length tail ≢ 0 → length tail ≢ 2 → length tail ≢ 4 → None ≡ line_behind x (tail_of (texts_of tail))
no_line_behind x [] none two four = absurd (none refl)
no_line_behind x (a ∷ []) none two four = refl
no_line_behind x (a ∷ (b ∷ [])) none two four = absurd (two refl)
no_line_behind x (a ∷ (b ∷ (c ∷ []))) none two four = refl
no_line_behind x (a ∷ (b ∷ (c ∷ (d ∷ [])))) none two four = absurd (four refl)
no_line_behind x (a ∷ (b ∷ (c ∷ (d ∷ (e ∷ more))))) none two four = refl
