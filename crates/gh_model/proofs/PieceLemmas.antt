-- The pieces of a text that is cut at a byte.
use Rattle.std.proofs.Common.{◌≡◌, ℕ, ◌+◌, ◌-◌, ◌≤◌, Bool, true, false, cond, ltb, List, [], ◌∷◌, length, take, drop, Some, None, refl, arith}
use Rattle.std.specs.List.{position, position_or_len}
use Rattle.std.proofs.Math.Seq.{take-length}
use Rattle.std.proofs.lemmas.Bool.{ltb-false, ltb-true}
use Rattle.std.proofs.lemmas.List.{length-drop}
use Rattle.std.proofs.lemmas.List.Splits.{slice_split_none, slice_split_first}
use Rattle.std.proofs.lemmas.List.Sums.{fails_before_first}
use Rattle.std.proofs.lemmas.Option.{cond_some}
use Rattle.gh_model.specs.Pieces.{is_byte_of, pieces_at}

not_found : {A : Type 0} (b : Bool) (x : A) → cond b (Some x) None ≡ None → b ≡ false
not_found true x e = absurd cc
not_found false x e = refl

-- a text without the byte is one piece
pub only_piece : (byte : ℕ) (text : List ℕ) → position (is_byte_of byte) text ≡ None → pieces_at byte text ≡ text ∷ []
only_piece byte text none =
    let past : length text ≤ position_or_len (is_byte_of byte) text = ltb-false _ _ (not_found _ (position_or_len (is_byte_of byte) text) none) in
    slice_split_none (is_byte_of byte) text (λ k d within. fails_before_first (is_byte_of byte) text k d (omega arith))

-- what is behind a place, as a slice from there on gives it
whole_rest : (rest : List ℕ) (count : ℕ) → length rest ≡ count → take count rest ≡ rest
whole_rest rest count e = rw (← e) (take-length rest)

-- else the first piece ends at the first such byte
pub first_piece : (byte : ℕ) (text : List ℕ) (at : ℕ) → position (is_byte_of byte) text ≡ Some at
    → pieces_at byte text ≡ take at text ∷ pieces_at byte (take (length text - (at + 1)) (drop (at + 1) text))
first_piece byte text at found =
    let place = cond_some (ltb (position_or_len (is_byte_of byte) text) (length text)) (position_or_len (is_byte_of byte) text) at found in
    let first = slice_split_first (is_byte_of byte) text 0 (ltb-true _ _ place.0) in
    let here : pieces_at byte text ≡ take at text ∷ pieces_at byte (drop (at + 1) text) = rw (← place.1) first in
    rw (whole_rest (drop (at + 1) text) (length text - (at + 1)) (length-drop (at + 1) text)) here
