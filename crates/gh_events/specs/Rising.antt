-- Objects stand by rising serial: what names them in the order of their rows names them so.
use Rattle.std.specs.Prelude.{◌&&◌, ℕ, Bool, true, List, [], ◌∷◌, map, nat_lt}
use Rattle.std.specs.List.{list_all}
use Rattle.gh_base.specs.declared.mark.Held.{Held}
use Rattle.gh_model.specs.Held.{serial_of}
use Rattle.gh_model.specs.declared.rows.ObjectRow.{ObjectRow}

-- each number is less than all behind it
abbrev pub rises : List ℕ → Bool
rises [] = true
rises (first ∷ others) = list_all (nat_lt first) others && rises others

-- the serials of objects, in the order of their rows
abbrev pub serials_of : List ObjectRow → List ℕ
serials_of objects = map (λ (row : ObjectRow). row.serial.0) objects

-- the serials that a held list names, in its order
abbrev pub serials_held : List Held → List ℕ
serials_held held = map (λ (cause : Held). (serial_of cause).0) held
