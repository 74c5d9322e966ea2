use Rattle.std.proofs.Common.{◌≡◌, [], length}
use Rattle.std.specs.Option.{option_map}
use Rattle.gh_bootfile.specs.Reading.{numbers_on}
use Rattle.gh_model.specs.Pieces.{pieces_left}
use Rattle.gh_bootfile.proofs.number.numbers.Given as goal

abbrev pub invariant-loop-left : goal.invariant-loop-left
invariant-loop-left l = numbers_on l.numbers (pieces_left 32 (option_map (λ text. text.now) l.left)) ≡ numbers_on [] (pieces_left 32 (option_map (λ text. text.now) l.fn.words))

abbrev pub decreases-loop-left : goal.decreases-loop-left
decreases-loop-left l = length (pieces_left 32 (option_map (λ text. text.now) l.left))
