-- What a call's looks say: which grants they have, and which words they give an entry.
use Rattle.std.proofs.Common.{◌≡◌, ◌<◌, ℕ, zero, suc, Bool}
use Rattle.std.proofs.Common.{true, false, not, List, [], ◌∷◌}
use Rattle.std.proofs.Common.{refl, arith, Option, Some, None, Result}
use Rattle.std.proofs.Common.{Ok, Err, slice_get, map, if◌then◌else◌}
use Rattle.std.specs.Prelude.{◌&&◌, ◌||◌, nat_lt}
use Rattle.std.proofs.lemmas.Bool.Decides.{nat_tests}
use Rattle.gh_base.specs.declared.cap_word.Need.{Need}
use Rattle.gh_base.specs.declared.errno.Errno.{Errno}
use Rattle.gh_base.specs.declared.errno.Errno.TheVariants.{CapRevoked, WrongType, InsufRights}
use Rattle.gh_base.specs.declared.ids.Serial.{Serial}
use Rattle.gh_model.specs.declared.rows.CapabilityRow.{CapabilityRow}
use Rattle.gh_model.specs.declared.word.Word.{Word}
use Rattle.gh_model.specs.Word.{look_reply, slot_reply, kind_fits}
use Rattle.gh_model.specs.Word.{rights_fit}
use Rattle.gh_model.specs.Marks.{Seen, Grants, outcome, on_grant}
use Rattle.gh_model.specs.Marks.{word_of}
use Rattle.gh_model.specs.History.{grants_fit, row_fits, word_for}

-- grants are of the kinds that are needed

fits_by : (valid fits lacks : Bool) (object serial : Serial) → (if not valid then Err CapRevoked else (if not fits then Err WrongType else (if lacks then Err InsufRights else Ok object))) ≡ Ok serial → fits ≡ true
fits_by false fits lacks object serial is = absurd (let never : ⊥ = cc in never)
fits_by true false lacks object serial is = absurd (let never : ⊥ = cc in never)
fits_by true true lacks object serial is = refl

reply_fits : (row : Option CapabilityRow) (need : Need) (serial : Serial) → slot_reply row need ≡ Ok serial → row_fits row need ≡ true
reply_fits None need serial is = absurd (let never : ⊥ = cc in never)
reply_fits (Some row) need serial is =
    fits_by row.valid (kind_fits need.kind row.kind) (not (rights_fit need.rights.0 row.rights.0) || (need.master && not row.master)) row.serial serial is

grant_by : (need : ℕ × Need) (needs : List (ℕ × Need)) (word : Word) (words : List Word)
    (reply : Result Serial Errno)
    → look_reply word need.1 ≡ reply
    → on_grant reply (outcome needs words) ≡ Grants
    → (outcome needs words ≡ Grants → grants_fit needs words ≡ true)
    → (row_fits word.row need.1 && grants_fit needs words) ≡ true
grant_by need needs word words (Err errno) is all rest = absurd (let never : ⊥ = cc in never)
grant_by need needs word words (Ok serial) is all rest = rw (reply_fits word.row need.1 serial is) (rest all)

-- looks that all grant have a grant for each need
pub grants_are : (needs : List (ℕ × Need)) (words : List Word) → outcome needs words ≡ Grants → grants_fit needs words ≡ true
grants_are [] words all = refl
grants_are (need ∷ needs) [] all = absurd (let never : ⊥ = cc in never)
grants_are (need ∷ needs) (word ∷ words) all =
    grant_by need needs word words (look_reply word need.1) refl all (λ rest. grants_are needs words rest)

-- looks below an entry's number give it their words
pub words_for : (number : ℕ) (seen : List Seen) → ((i : ℕ) (look : Seen) → slice_get seen i ≡ Some look → look.look.place < number) → map (word_for number) seen ≡ map word_of seen
words_for number [] below = refl
words_for number (look ∷ seen) below =
    let here : look.look.place < number = below zero look refl in
    let test : nat_lt look.look.place number ≡ true = grind (arith, nat_tests) in
    rw (test, words_for number seen (λ i other is. below (suc i) other is)) refl
