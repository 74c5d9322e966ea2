-- Reading entries of a payload one after another.
use Rattle.std.proofs.Common.{◌≡◌, ℕ, suc, ◌-◌, ◌+◌, ◌*◌, ◌<◌, ◌≤◌}
use Rattle.std.proofs.Common.{◌∷◌, ◌++◌, length, List, [], drop, refl, arith, subst}
use Rattle.std.proofs.Common.{sym, ◌∙◌, ap, append_assoc, append-nil, length-drop}
use Rattle.gh_base.specs.RmLayout.{entries}

-- so many of the entries are read, and the others are left
pub record IsReading {E : Type 0} (entry : List ℕ → E) (width count done : ℕ) (whole left : List ℕ) (read : List E) : Type 0 where
  pub so_far : read ++ entries entry width (count - done) left ≡ entries entry width count whole
  pub room : (count - done) * width ≤ length left

-- the first of some entries is at the front, and the others stand behind its width
entries_of : {E : Type 0} (entry : List ℕ → E) (width more n : ℕ) (bytes : List ℕ) → n ≡ suc more
    → entries entry width n bytes ≡ entry bytes ∷ entries entry width more (drop width bytes)
unfolding entries
entries_of entry width more n bytes same =
    subst (λ (x : ℕ). entries entry width x bytes ≡ entry bytes ∷ entries entry width more (drop width bytes))
    (sym same) refl

-- no entries are none
entries_none : {E : Type 0} (entry : List ℕ → E) (width n : ℕ) (bytes : List ℕ) → n ≡ 0
    → entries entry width n bytes ≡ []
unfolding entries
entries_none entry width n bytes none =
    subst (λ (x : ℕ). entries entry width x bytes ≡ []) (sym none) refl

-- one entry more is read
pub reading_on : {E : Type 0} (entry : List ℕ → E) (width count done : ℕ) (whole left : List ℕ) (read : List E)
    → IsReading entry width count done whole left read → done < count
    → IsReading entry width count (done + 1) whole (drop width left) (read ++ entry left ∷ [])
reading_on entry width count done whole left read so below = record {
  so_far = append_assoc read (entry left ∷ []) (entries entry width (count - (done + 1)) (drop width left))
      ∙ sym (ap (λ es. read ++ es) (entries_of entry width (count - (done + 1)) (count - done) left (omega arith)))
      ∙ so.so_far;
  room = room_left width (count - done) (count - (done + 1)) (length left) (length (drop width left))
      (length-drop width left) so.room (omega arith);
}
  where
    room_left : (w n m l k : ℕ) → k ≡ l - w → n * w ≤ l → n ≡ suc m → m * w ≤ k
    room_left w n m l k cut room same = grind arith

-- all entries are read
pub reading_done : {E : Type 0} (entry : List ℕ → E) (width count done : ℕ) (whole left : List ℕ) (read : List E)
    → IsReading entry width count done whole left read → count ≤ done
    → read ≡ entries entry width count whole
reading_done entry width count done whole left read so over =
    sym (append-nil read)
    ∙ sym (ap (λ es. read ++ es) (entries_none entry width (count - done) left (omega arith)))
    ∙ so.so_far
