-- The command lines.
use Rattle.std.specs.Prelude.{◌≡◌, ◌&&◌, ℕ, Bool, false, List, ◌∷◌}
use Rattle.std.specs.Prelude.{length, map, drop, codes, string_bytes, nat_le}
use Rattle.std.specs.Borrow.{Bor}
use Rattle.std.specs.Str.{bytes_eq}
use Rattle.std.specs.declared.alloc.Global.{Global}
use Rattle.std.specs.declared.string.String.{String}
use Rattle.gunyah.specs.declared.command.Command.{Command}
use Rattle.gunyah.specs.declared.command.Command.TheVariants.{Step, Run, Check, Gen}
use Rattle.gunyah.specs.declared.command.StepArgs.{StepArgs}

-- words, byte by byte
abbrev pub word_bytes : List (String Global) → List (List ℕ)
word_bytes words = map (λ word. string_bytes word) words

-- the words are those of step, which names a boot file, a schedule and up to eight call files
abbrev pub is_step : List (List ℕ) → Bool
is_step (verb ∷ boot ∷ schedule ∷ calls) =
    bytes_eq verb (codes "step") && nat_le (length calls) 8
is_step words = false

-- the files that a step names, in order
abbrev pub step_files : StepArgs → List (List ℕ)
step_files args =
    string_bytes args.boot ∷ string_bytes args.schedule ∷ word_bytes args.calls.items

-- the words spell the command. The other commands are not built yet
abbrev pub Spells : List (List ℕ) → Command → Type 0
Spells words (Step args) = words ≡ codes "step" ∷ step_files args
Spells words (Run args) = ⊥
Spells words (Check args) = ⊥
Spells words (Gen args) = ⊥

-- the files that the words of a command line name: those behind the command
abbrev pub named_files : List (List ℕ) → List (List ℕ)
named_files words = drop 1 words
