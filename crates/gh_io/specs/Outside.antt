-- What a call of files or of a sink does to their meanings.
use Rattle.std.specs.Prelude.{◌≡◌, ◌⊎◌, ℕ, ◌+◌, ◌-◌, ◌^◌, ◌≤◌, min}
use Rattle.std.specs.Prelude.{List, [], ◌∷◌, ◌++◌, take, Option, Result, Ok, Err, IfSome}
use Rattle.std.specs.Option.{option_map}
use Rattle.gh_io.specs.declared.files.LoadErr.{LoadErr}
use Rattle.gh_io.specs.declared.files.LoadErr.TheVariants.{Failed, NoMemory}
use Rattle.gh_io.specs.declared.files.Request.{Request}

-- one more than a count of 64 bits, which stands still at its end
abbrev pub one_more : ℕ → ℕ
one_more count = min (count + 1) (2 ^ 64 - 1)

-- a count of faults rose, or stands at its end, where it can't
abbrev pub Rose : ℕ → ℕ → Type 0
Rose before now = one_more before ≤ now

-- the bytes of the file of this name, where files tell what they hold
abbrev pub bytes_told : Option (List ℕ → List ℕ) → List ℕ → Option (List ℕ)
bytes_told contents name = option_map (λ file. file name) contents

-- the bytes are the first of the file of this name: so many, or all of them where there are fewer
abbrev pub IsFront : Option (List ℕ → List ℕ) → List ℕ → ℕ → List ℕ → Type 0
IsFront contents name most bytes = IfSome contents (λ file. bytes ≡ take most (file name))

-- the file of this name is asked for, and so many bytes of it at most
abbrev pub request : List ℕ → ℕ → Request
request name most = record { name = name; most = most }

-- a load adds its request to those made; where memory ran out it may be left out
abbrev pub Asks :
    {T : Type 0} → Result T LoadErr → List Request → List Request → List ℕ → ℕ
    → Type 0
Asks (Ok _) old new name most = new ≡ old ++ request name most ∷ []
Asks (Err Failed) old new name most = new ≡ old ++ request name most ∷ []
Asks (Err NoMemory) old new name most = (new ≡ old) ⊎ (new ≡ old ++ request name most ∷ [])
