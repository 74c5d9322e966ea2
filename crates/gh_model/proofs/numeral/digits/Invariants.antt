-- The value so far and the digits that are left make the whole.
use Rattle.std.proofs.Common.{◌≡◌, ◌<◌, ◌^◌, true, drop}
use Rattle.std.specs.List.{list_all}
use Rattle.std.specs.Str.Parse.{digits_value, digits_value_after}
use Rattle.gh_model.specs.Numeral.{is_digit}
use Rattle.gh_model.proofs.numeral.digits.Given as goal

abbrev pub invariant-loop-byte : goal.invariant-loop-byte
invariant-loop-byte l = record {
  whole : digits_value_after l.radix l.number (drop l.byte-index l.word) ≡ digits_value l.radix l.word;
  within : l.number < 16 ^ l.byte-index;
  digits : list_all (is_digit l.radix) (drop l.byte-index l.word) ≡ true;
}
