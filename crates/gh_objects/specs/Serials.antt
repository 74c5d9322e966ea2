-- Serials in rising order.
use Rattle.std.specs.Prelude.{ℕ, Bool, List, [], ◌∷◌, nat_lt, if◌then◌else◌}
use Rattle.gh_base.specs.declared.ids.Serial.{Serial}

-- the number of a serial
abbrev pub number : Serial → ℕ
number serial = serial.0

-- the other serial is less than this one
abbrev pub is_above : Serial → Serial → Bool
is_above serial other = nat_lt other.0 serial.0

-- a rising list with one serial more, which stands before the first that isn't less
abbrev pub with_serial : Serial → List Serial → List Serial
with_serial serial [] = serial ∷ []
with_serial serial (first ∷ rest) =
    if is_above serial first then first ∷ with_serial serial rest else serial ∷ (first ∷ rest)

-- these serials in rising order
abbrev pub rising : List Serial → List Serial
rising [] = []
rising (serial ∷ rest) = with_serial serial (rising rest)
