-- Files as they are loaded: no more than their limit and one byte more.
use Rattle.std.proofs.Common.{◌≡◌, ◌+◌, ◌≤◌, ◌∙◌, nat_le, take, ℕ}
use Rattle.std.proofs.Common.{Bool, true, false, List, length, Option, None, Some, IfSome}
use Rattle.std.proofs.Common.{Result, Ok, Err, refl, sym, ap, arith, if◌then◌else◌}
use Rattle.std.proofs.lemmas.Bool.{leb-true}
use Rattle.std.proofs.lemmas.Bool.Decides.{nat_tests}
use Rattle.std.proofs.lemmas.List.{length-take, take_all}
use Rattle.gh_io.specs.Outside.{IsFront}
use Rattle.gunyah.specs.Input.{is_small, sized, ReadsAs, LoadsAs}
use Rattle.gunyah.specs.declared.read_err.ReadErr.{ReadErr}
use Rattle.gunyah.specs.declared.read_err.ReadErr.TheVariants as stop
use Rattle.gunyah.specs.declared.read_err.BadFile.{BadFile}
use Rattle.gunyah.specs.declared.read_err.BadFile.TheVariants as bad

-- a front part with room for one byte more is above a limit where the whole is
front_small : (limit : ℕ) (text : List ℕ) → nat_le (length (take (limit + 1) text)) limit ≡ nat_le (length text) limit
front_small limit text = rw (length-take (limit + 1) text) (grind (arith, nat_tests))

-- a file that isn't too large is loaded whole
loaded_whole : (text : List ℕ) → is_small text ≡ true → take 8388609 text ≡ text
loaded_whole text small = let within : length text ≤ 8388608 = leb-true _ _ small in take_all 8388609 text (omega arith)

sized_by : (small : Bool) (number : ℕ) (text : List ℕ)
    → is_small text ≡ small
    → (if◌then◌else◌ {A = Result (List ℕ) BadFile} small (Ok (take 8388609 text))
    (Err (bad.TooLarge number))) ≡ (if small then Ok text else Err (bad.TooLarge number))
sized_by true number text is = ap Ok (loaded_whole text is)
sized_by false number text is = refl

-- what is loaded of a file is too large where the file is, and else it is the file
pub loaded_sized : (number : ℕ) (text : List ℕ) → sized number (take 8388609 text) ≡ sized number text
loaded_sized number text = rw (front_small 8388608 text) (sized_by (is_small text) number text refl)

sized_same : (number : ℕ) (text bytes : List ℕ) (result : Result (List ℕ) ReadErr) → bytes ≡ take 8388609 text → ReadsAs (sized number bytes) result → LoadsAs (sized number text) result
sized_same number text bytes (Ok value) front reads = sym (ap (sized number) front ∙ loaded_sized number text) ∙ reads
sized_same number text bytes (Err (stop.Bad fault)) front reads = sym (ap (sized number) front ∙ loaded_sized number text) ∙ reads
sized_same number text bytes (Err stop.Failed) front reads = tt
sized_same number text bytes (Err stop.NoMemory) front reads = tt

-- what is said of the bytes that were loaded holds of the file
pub load_text : (contents : Option (List ℕ → List ℕ)) (name : List ℕ) (number : ℕ) (bytes : List ℕ) (result : Result (List ℕ) ReadErr)
    → IsFront contents name 8388609 bytes → ReadsAs (sized number bytes) result → IfSome contents (λ file. LoadsAs (sized number (file name)) result)
load_text None name number bytes result front reads = tt
load_text (Some file) name number bytes result front reads = sized_same number (file name) bytes result front reads
