-- What the calls on doorbells come to. They have no refusals of their own.
use Rattle.std.specs.Prelude.{ℕ, Option, Some, None, [], find, bit_or, bit_and}
use Rattle.std.specs.Int.{w64, bit_not}
use Rattle.gh_base.specs.declared.ids.Serial.{Serial}
use Rattle.gh_model.specs.declared.change.Decision.{Decision}
use Rattle.gh_model.specs.declared.change.Decision.TheVariants.{Make}
use Rattle.gh_model.specs.declared.change.Change.TheVariants.{SetBell}
use Rattle.gh_model.specs.declared.rows.BellRow.{BellRow}
use Rattle.gh_model.specs.declared.state.State.{State}
use Rattle.gh_model.specs.Boot.{new_bell}
use Rattle.gh_model.specs.Decisions.{done, done_with, make_one}
use Rattle.gh_model.specs.Rows.{is_bell}

-- the row of a doorbell
abbrev pub bell_row : State → Serial → Option BellRow
bell_row s bell = find (is_bell bell.0) s.bells

-- bell_send: the flags are added, and the reply has the old ones
abbrev pub sent : ℕ → Option BellRow → Decision
sent flags None = Make [] (done_with 0)
sent flags (Some row) =
    make_one (SetBell (record row { flags = bit_or row.flags flags })) (done_with row.flags)

-- bell_send: the flags are added to the doorbell's, and the reply has the flags before
abbrev pub bell_send : State → Serial → ℕ → Decision
bell_send s bell flags = sent flags (bell_row s bell)

-- bell_receive: the bits of a mask are cleared, and the reply has the old flags
abbrev pub received : ℕ → Option BellRow → Decision
received clear None = Make [] (done_with 0)
received clear (Some row) =
    make_one (SetBell (record row { flags = bit_and row.flags (bit_not w64 clear) }))
    (done_with row.flags)

-- bell_receive: the flags in the mask are cleared, and the reply has the flags before
abbrev pub bell_receive : State → Serial → ℕ → Decision
bell_receive s bell clear = received clear (bell_row s bell)

-- bell_set_mask: the masks are set
abbrev pub masked : ℕ → ℕ → Option BellRow → Decision
masked enable ack None = Make [] done
masked enable ack (Some row) = make_one (SetBell (record row { enable = enable; ack = ack })) done

-- bell_set_mask: the doorbell gets both masks
abbrev pub bell_set_mask : State → Serial → ℕ → ℕ → Decision
bell_set_mask s bell enable ack = masked enable ack (bell_row s bell)

-- bell_reset: as after creation
abbrev pub bell_reset : Serial → Decision
bell_reset bell = make_one (SetBell (new_bell bell)) done
