-- How a rising list of serials lies, and how it changes. No public clause cites this module.
use Rattle.std.specs.Prelude.{◌≡◌, ℕ, ◌≤◌, List, Option, Some, None}
use Rattle.std.specs.List.{prefix_len}
use Rattle.std.specs.List.Sorted.{IsNonDecreasingBy}
use Rattle.gh_base.specs.declared.ids.Serial.{Serial}
use Rattle.gh_base.specs.declared.limits.TheConstants.{OBJECT_INDICES}
use Rattle.gh_objects.specs.Serials.{number, is_above, with_serial}

-- the serials rise, and where they lie there is room for one of each index
pub record Rises (serials : List Serial) (capacity : ℕ) : Type 0 where
  pub order : IsNonDecreasingBy number serials
  pub room : OBJECT_INDICES ≤ capacity

-- the place of the first that isn't less
abbrev pub place_in : Serial → List Serial → ℕ
place_in serial serials = prefix_len (is_above serial) serials

-- a rising list with the serial more, if there is one
abbrev pub with_option : Option Serial → List Serial → List Serial
with_option None serials = serials
with_option (Some serial) serials = with_serial serial serials

-- where the one list has the old serial the other has the new one, whatever else they have
abbrev pub Relists : Option Serial → Option Serial → List Serial → List Serial → Type 0
Relists old new before after =
    (rest : List Serial) → before ≡ with_option old rest → after ≡ with_option new rest
