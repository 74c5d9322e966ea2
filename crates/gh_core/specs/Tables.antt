-- Tables as what was written, oldest first: how the running machine keeps what is indexed.
use Rattle.std.specs.Prelude.{◌==◌, ◌&&◌, ℕ, Bool, List, Option, Some, None, fold, if◌then◌else◌}
use Rattle.gh_base.specs.declared.cap_word.CapWord.{CapWord}
use Rattle.gh_events.specs.Config.{put}
use Rattle.gh_events.specs.TurnEvents.{put_word}
use Rattle.gh_core.specs.declared.table.Marked.{Marked}
use Rattle.gh_core.specs.declared.table.SlotWritten.{SlotWritten}
use Rattle.gh_core.specs.declared.table.Written.{Written}

-- numbers

abbrev pub put_number : (ℕ → ℕ) → Written → ℕ → ℕ
put_number values written = put values written.at written.value

-- a table of numbers: what it began with, under what was written
abbrev pub numbers : (ℕ → ℕ) → List Written → ℕ → ℕ
numbers first written = fold put_number first written

abbrev pub put_option : (ℕ → Option ℕ) → Written → ℕ → Option ℕ
put_option values written = put values written.at (Some written.value)

abbrev pub nothing : ℕ → Option ℕ
nothing at = None

-- a table that has a number only where one was written
abbrev pub options : List Written → ℕ → Option ℕ
options written = fold put_option nothing written

abbrev pub later_number : ℕ → Option ℕ → Written → Option ℕ
later_number at last written = if at == written.at then Some written.value else last

-- the last number at a place
abbrev pub last_number : ℕ → List Written → Option ℕ
last_number at written = fold (later_number at) None written

-- marks of reference words

abbrev pub put_mark : (ℕ → Bool) → Marked → ℕ → Bool
put_mark marks marked = put marks marked.at marked.dead

-- which words are dead: those that were at the begin, under what was marked
abbrev pub marks : (ℕ → Bool) → List Marked → ℕ → Bool
marks first marked = fold put_mark first marked

abbrev pub later_mark : ℕ → Option Bool → Marked → Option Bool
later_mark at last marked = if at == marked.at then Some marked.dead else last

abbrev pub last_mark : ℕ → List Marked → Option Bool
last_mark at marked = fold (later_mark at) None marked

-- capability words

abbrev pub put_slot : (ℕ → ℕ → CapWord) → SlotWritten → ℕ → ℕ → CapWord
put_slot words written = put_word words written.space written.slot written.word

-- the capability words: those of the begin, under what entries set
abbrev pub words : (ℕ → ℕ → CapWord) → List SlotWritten → ℕ → ℕ → CapWord
words first written = fold put_slot first written

abbrev pub is_slot_written : ℕ → ℕ → SlotWritten → Bool
is_slot_written space slot written = (space == written.space) && (slot == written.slot)

abbrev pub later_word : ℕ → ℕ → Option CapWord → SlotWritten → Option CapWord
later_word space slot last written =
    if is_slot_written space slot written then Some written.word else last

abbrev pub last_word : ℕ → ℕ → List SlotWritten → Option CapWord
last_word space slot written = fold (later_word space slot) None written
