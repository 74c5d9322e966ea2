-- Finished calls: what their looks found and came to, their places and their sections.
use Rattle.std.specs.Prelude.{◌≡◌, ◌+◌, ◌*◌, ℕ, Bool, List, [], ◌∷◌}
use Rattle.std.specs.Prelude.{length, take, Option, Some, None, Result, Ok, Err, fold}
use Rattle.std.specs.Prelude.{map, count_by, slice_get, nat_lt, if◌then◌else◌}
use Rattle.std.specs.Option.{option_map_or, unwrap_or}
use Rattle.gh_base.specs.declared.cap_word.Look.{Look}
use Rattle.gh_base.specs.declared.cap_word.Need.{Need}
use Rattle.gh_base.specs.declared.errno.Errno.{Errno}
use Rattle.gh_base.specs.declared.frame.Frame.{Frame}
use Rattle.gh_base.specs.declared.frame.Reply.{Reply}
use Rattle.gh_base.specs.declared.ids.Serial.{Serial}
use Rattle.gh_base.specs.declared.mark.End.{End}
use Rattle.gh_base.specs.declared.mark.End.TheVariants as ends
use Rattle.gh_base.specs.declared.mark.Mark.{Mark}
use Rattle.gh_model.specs.declared.rows.CpuRow.{CpuRow}
use Rattle.gh_model.specs.declared.state.State.{State}
use Rattle.gh_model.specs.declared.word.Word.{Word}
use Rattle.gh_model.specs.Rows.{cpu_row}
use Rattle.gh_model.specs.Word.{look_reply}

-- a look of a call, and the word that it found
pub record Seen : Type 0 where
  pub look : Look
  pub word : Word

-- a finished call: its mark, its frame, and its looks with the words that they found
pub record Made : Type 0 where
  pub mark : Mark
  pub frame : Frame
  pub seen : List Seen

-- the look of one that was seen
abbrev pub look_of : Seen → Look
look_of seen = seen.look

-- the word that a look saw
abbrev pub word_of : Seen → Word
word_of seen = seen.word

-- the mark of a call
abbrev pub mark_of : Made → Mark
mark_of made = made.mark

-- the frame of a call
abbrev pub frame_of : Made → Frame
frame_of made = made.frame

-- the reply to a call
abbrev pub reply_of : Made → Reply
reply_of made = made.mark.reply

-- the words that a call's looks found
abbrev pub words_of : Made → List Word
words_of made = map word_of made.seen

-- P of each item and those before it
abbrev pub InTurn : {X : Type 0} → (List X → X → Type 0) → List X → Type 0
InTurn {X} P items =
    (i : ℕ) (item : X) → slice_get items i ≡ Some item → P (take i items) item

-- what the looks of a call came to: one more is wanted, at this slot and with this need; the last
-- was refused; or every need has its grant
pub data Outcome : Type 0 where
  Wants : ℕ → Need → Outcome
  Fails : Errno → Outcome
  Grants : Outcome

-- a look that is refused is the last one, and behind a grant the others go on
abbrev pub on_grant : Result Serial Errno → Outcome → Outcome
on_grant (Err errno) others = Fails errno
on_grant (Ok serial) others = others

-- the looks stand for the needs in order; words beyond the needs are passed over
abbrev pub outcome : List (ℕ × Need) → List Word → Outcome
outcome [] words = Grants
outcome (need ∷ needs) [] = Wants need.0 need.1
outcome (need ∷ needs) (word ∷ words) = on_grant (look_reply word need.1) (outcome needs words)

-- why the last look was refused, if it was
abbrev pub failure : Outcome → Option Errno
failure (Wants slot need) = None
failure (Fails errno) = Some errno
failure Grants = None

-- places

-- the place that an end gives its CPU: where the act was refused, or its entry's number
abbrev pub place : End → Option ℕ
place ends.Frame = None
place ends.Refused = None
place ends.Dead = None
place (ends.Act at) = Some at
place (ends.Short at held) = Some at
place (ends.Entry number) = Some number

-- the entry that an end is
abbrev pub number : End → Option ℕ
number ends.Frame = None
number ends.Refused = None
number ends.Dead = None
number (ends.Act at) = None
number (ends.Short at held) = None
number (ends.Entry entry) = Some entry

-- a CPU's last place after a look is that look's
abbrev pub after_look : ℕ → Seen → ℕ
after_look last seen = seen.look.place

-- the place of the last look, or the place before them
abbrev pub place_after_looks : ℕ → List Seen → ℕ
place_after_looks last seen = fold after_look last seen

-- and after a call that of its end, where it has one; else it is the last look's
abbrev pub place_after_call : ℕ → Made → ℕ
place_after_call last made = unwrap_or (place made.mark.end) (place_after_looks last made.seen)

-- a CPU's last place after its calls so far, 0 before the first
abbrev pub place_after : List Made → ℕ
place_after calls = fold place_after_call 0 calls

-- sections

-- the call has made a look
abbrev pub has_looks : Made → Bool
has_looks made = nat_lt 0 (length made.seen)

-- a call with looks opens a section: the k-th such call of a CPU that with the number 2k - 1
abbrev pub section_after : List Made → Made → ℕ
section_after front made = if has_looks made then 2 * count_by has_looks front + 1 else 0

-- the capability space that a CPU looks up in
abbrev pub cspace_of : State → ℕ → ℕ
cspace_of boot cpu = option_map_or (λ (row : CpuRow). row.cspace.0) (cpu_row boot cpu) 0
