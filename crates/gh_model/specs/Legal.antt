-- A legal history: each finished call's looks, end and reply are those of the history at their
-- places, and each entry is that of a call. What is said of one finished call stands as the history
-- grows; what is said of an entry stands beside it; and apart from both stand the numbering and the
-- exit calls, which are the programs' side.
use Rattle.std.specs.Prelude.{◌≡◌, ◌≢◌, ◌==◌, ◌+◌, ◌<◌, ◌≤◌, ℕ}
use Rattle.std.specs.Prelude.{Bool, true, false, List, [], length, max, Option, Some, None}
use Rattle.std.specs.Prelude.{Result, Ok, Err, IsTrue, IsSome, find, map, slice_get, slice_index}
use Rattle.std.specs.List.{list_any, last_or}
use Rattle.std.specs.Option.{option_map_or}
use Rattle.gh_base.specs.Reply.{refusal}
use Rattle.gh_base.specs.declared.call.Call.{Call}
use Rattle.gh_base.specs.declared.call.Call.TheVariants.{Create, ConfigurePartition}
use Rattle.gh_base.specs.declared.call.Call.TheVariants.{ConfigureQueue, CapsRevoke}
use Rattle.gh_base.specs.declared.cap_word.Need.{Need}
use Rattle.gh_base.specs.declared.errno.Errno.{Errno}
use Rattle.gh_base.specs.declared.errno.Errno.TheVariants.{CapRevoked}
use Rattle.gh_base.specs.declared.frame.Reply.{Reply}
use Rattle.gh_base.specs.declared.mark.End.{End}
use Rattle.gh_base.specs.declared.mark.Held.{Held}
use Rattle.gh_base.specs.declared.mark.End.TheVariants as ends
use Rattle.gh_model.specs.declared.entry.Entry.{Entry}
use Rattle.gh_model.specs.declared.entry.Entry.TheVariants.{Acted, Part, Retired, Reclaimed}
use Rattle.gh_model.specs.declared.rows.CapabilityRow.{CapabilityRow}
use Rattle.gh_model.specs.declared.state.State.{State}
use Rattle.gh_model.specs.declared.word.Word.{Word}
use Rattle.gh_model.specs.Held.{AreHeld}
use Rattle.gh_model.specs.Rows.{cpu_row, fills}
use Rattle.gh_model.specs.Word.{word_at, Shows}
use Rattle.gh_model.specs.Registers.{call_of, needs_of}
use Rattle.gh_model.specs.Decide.{judge}
use Rattle.gh_model.specs.Act.{Verdict, Done, Refused, granted}
use Rattle.gh_model.specs.Marks.{Seen, Made, Outcome, Wants, Fails, Grants, InTurn}
use Rattle.gh_model.specs.Marks.{outcome, failure, look_of, word_of, words_of, has_looks}
use Rattle.gh_model.specs.Marks.{place_after, place_after_looks, section_after, cspace_of}
use Rattle.gh_model.specs.History.{Event, event_of, state_at, may_part, caller, retires, reclaims}
use Rattle.gh_model.specs.Program.{is_exit}

-- what a finished call came to

-- what its looks came to
abbrev pub came_to : Call → Made → Outcome
came_to call made = outcome (needs_of call) (words_of made)

-- its act in a state
abbrev pub verdict_in : State → Call → Made → Verdict
verdict_in s call made = judge s made.mark.cpu.0 call made.frame.bytes (words_of made)

-- want of units at a create or a configure
abbrev pub is_short : Call → Reply → Bool
is_short (Create partition cspace kind) reply = slice_index reply.x 0 == 10
is_short (ConfigurePartition cap quota) reply = slice_index reply.x 0 == 10
is_short (ConfigureQueue cap depth size) reply = slice_index reply.x 0 == 10
is_short _ reply = false

-- its frame was refused: it has no looks, and the reply is that refusal
pub record IsRefusedFrame (errno : Errno) (made : Made) : Type 0 where
  pub end : made.mark.end ≡ ends.Frame
  pub no_looks : made.seen ≡ []
  pub reply : made.mark.reply ≡ refusal errno

-- its last look was refused, and the reply is that refusal
pub record IsRefusedLook (call : Call) (made : Made) : Type 0 where
  pub errno : Errno
  pub failed : came_to call made ≡ Fails errno
  pub reply : made.mark.reply ≡ refusal errno

-- it died: its last look was a grant, and the reply is 51
pub record IsDead (call : Call) (made : Made) : Type 0 where
  pub looked : has_looks made ≡ true
  pub granted : failure (came_to call made) ≡ None
  pub reply : made.mark.reply ≡ refusal CapRevoked

-- its act was refused in this state, where no part of a revoke stands open
pub record IsRefusedIn (s : State) (call : Call) (made : Made) : Type 0 where
  pub grants : came_to call made ≡ Grants
  pub judged : verdict_in s call made ≡ Refused made.mark.reply
  pub is_refusal : slice_index made.mark.reply.x 0 ≢ 0
  pub no_parts : s.taken ≡ []

-- entries

-- a call that revokes all capabilities of an object
abbrev pub is_revoke : Call → Bool
is_revoke (CapsRevoke cap) = true
is_revoke _ = false

-- the entry is a part of a call of caps_revoke
abbrev pub is_part : Entry → Bool
is_part (Acted cpu number) = false
is_part (Part cpu number space slot) = true
is_part (Retired serial seen) = false
is_part (Reclaimed serial seen) = false

-- the object of such a call: that of its one look
abbrev pub revoked_object : Event → ℕ
revoked_object event =
    option_map_or (λ (word : Word). (granted word).0) (slice_get event.words 0) 0

-- the capability is of this object
abbrev pub row_names : ℕ → Option CapabilityRow → Bool
row_names serial None = false
row_names serial (Some row) = row.serial.0 == serial

-- one slot of such a call: a valid capability of its object without master mark
pub record IsPart (s : State) (event : Event) (space slot : ℕ) : Type 0 where
  pub revoke : is_revoke event.call ≡ true
  pub may_part : may_part (find (fills space slot) s.caps) ≡ true
  pub names : row_names (revoked_object event) (find (fills space slot) s.caps) ≡ true

-- the entry of this number is the end of the call of this number. It is that of no other call: a
-- call's entry names its CPU and its number, and the calls of a CPU are numbered
pub record IsEndOf (calls : List Made) (number entry : ℕ) : Type 0 where
  pub at : ℕ
  pub made : Made
  pub is : slice_get calls at ≡ Some made
  pub numbered : made.mark.number ≡ number
  pub ends : made.mark.end ≡ ends.Entry entry

-- the programs' side

-- the call is the exit call
abbrev pub exits : Made → Bool
exits made = is_exit made.frame

-- calls count from 1, and none follows an exit call
pub record IsNumbered (front : List Made) (made : Made) : Type 0 where
  pub number : made.mark.number ≡ length front + 1
  pub no_exit : list_any exits front ≡ false

-- there is a call, and it is the exit call
abbrev pub is_exit_call : Option Made → Bool
is_exit_call None = false
is_exit_call (Some made) = exits made

module _ (boot : State) (history : List Event) where
  -- a look of a call behind those before it: at the slot that is wanted next; at the greater of the
  -- slot's setting and the CPU's last place, which isn't above the history; and its word is the one
  -- that the slot has there
  pub record LookIs (cspace last : ℕ) (needs : List (ℕ × Need)) (front : List Seen)
      (seen : Seen) : Type 0 where
    pub need : Need
    pub asked : outcome needs (map word_of front) ≡ Wants seen.look.slot need
    pub place : seen.look.place ≡ max seen.word.set_at (place_after_looks last front)
    pub within : seen.look.place ≤ length history
    pub found : word_at (state_at boot history seen.look.place) cspace seen.look.slot ≡ seen.word
    pub shown : Shows seen.look.word seen.word

  -- no object that a look granted is reclaimed behind the look and up to this place
  abbrev pub KeepsGrants : ℕ → Made → Type 0
  KeepsGrants last made =
      (i n : ℕ) (seen : Seen) (event : Event)
      → slice_get made.seen i ≡ Some seen → slice_get history n ≡ Some event
      → seen.look.place ≤ n → n < last
      → reclaims event.entry ≢ Some (granted seen.word).0

  -- the act was refused at this place, which isn't before the CPU's last one
  pub record IsRefusedAt (last at : ℕ) (call : Call) (made : Made) : Type 0 where
    pub within : at ≤ length history
    pub not_before : place_after_looks last made.seen ≤ at
    pub refused : IsRefusedIn (state_at boot history at) call made
    pub keeps : KeepsGrants at made

  -- the act is the entry of this number, which isn't before the CPU's last place, and its looks saw
  -- earlier ones
  pub record IsEntry (last number : ℕ) (call : Call) (made : Made) : Type 0 where
    pub before : ℕ
    pub counts : number ≡ before + 1
    pub event : slice_get history before ≡ Some (event_of number call made)
    pub not_before : place_after_looks last made.seen ≤ number
    pub looked : (i : ℕ) (seen : Seen) → slice_get made.seen i ≡ Some seen
        → seen.look.place ≤ before
    pub grants : came_to call made ≡ Grants
    pub judged : verdict_in (state_at boot history before) call made
        ≡ Done (state_at boot history number) made.mark.reply
    pub keeps : KeepsGrants number made

  -- the act was refused at this place for want of units, and these objects were held there
  pub record IsShortAt (last at : ℕ) (call : Call) (made : Made) (held : List Held) : Type 0 where
    pub refused : IsRefusedAt last at call made
    pub short : is_short call made.mark.reply ≡ true
    pub are_held : AreHeld (state_at boot history at) held

  -- how a call ended whose frame is well formed
  abbrev pub EndIs : ℕ → Call → Made → End → Type 0
  EndIs last call made ends.Frame = ⊥
  EndIs last call made ends.Refused = IsRefusedLook call made
  EndIs last call made ends.Dead = IsDead call made
  EndIs last call made (ends.Act at) =
      IsRefusedAt last at call made × (is_short call made.mark.reply ≡ false)
  EndIs last call made (ends.Short at held) = IsShortAt last at call made held
  EndIs last call made (ends.Entry number) = IsEntry last number call made

  -- a frame that is refused ends the call; else its looks follow, and then its end
  abbrev pub FrameIs : ℕ → ℕ → Made → Result Call Errno → Type 0
  FrameIs cspace last made (Err errno) = IsRefusedFrame errno made
  FrameIs cspace last made (Ok call) =
      InTurn (LookIs cspace last (needs_of call)) made.seen × EndIs last call made made.mark.end

  -- a call of a CPU behind those before it; of these only its last place and its sections count
  pub record CallIs (cpu : ℕ) (front : List Made) (made : Made) : Type 0 where
    pub its_cpu : made.mark.cpu.0 ≡ cpu
    pub its_looks : map look_of made.seen ≡ made.mark.looks
    pub section : made.mark.section ≡ section_after front made
    pub frame : FrameIs (cspace_of boot cpu) (place_after front) made (call_of made.frame)

  -- the object is retired by an entry behind this place
  pub record IsRetiredBehind (place serial : ℕ) : Type 0 where
    pub at : ℕ
    pub event : Event
    pub is : slice_get history at ≡ Some event
    pub retires : retires event.entry ≡ Some serial
    pub behind : place ≤ at

  -- behind a part stands another part of the same call, or its act
  pub record GoesOn (n : ℕ) (event : Event) : Type 0 where
    pub next : Event
    pub is : slice_get history (n + 1) ≡ Some next
    pub caller : caller next.entry ≡ caller event.entry
    pub call : next.call ≡ event.call
    pub bytes : next.bytes ≡ event.bytes
    pub words : next.words ≡ event.words

  -- each act's entry is the end of a call, and each part's slot one of its call
  abbrev pub EntryIs : (ℕ → List Made) → ℕ → Event → Entry → Type 0
  EntryIs calls n event (Acted cpu number) = IsEndOf (calls cpu.0) number (n + 1)
  EntryIs calls n event (Part cpu number space slot) =
      IsPart (state_at boot history n) event space.0 slot
  EntryIs calls n event (Retired serial seen) = Unit {0}
  EntryIs calls n event (Reclaimed serial seen) = Unit {0}

  -- the finished calls of each CPU, and the history
  pub record Agree (calls : ℕ → List Made) : Type 0 where
    -- each CPU's calls follow one another
    pub calls_are : (cpu : ℕ) → InTurn (CallIs cpu) (calls cpu)
    -- each entry is of a call
    pub entries : (n : ℕ) (event : Event) → slice_get history n ≡ Some event
        → EntryIs calls n event event.entry
    pub parts : (n : ℕ) (event : Event) → slice_get history n ≡ Some event
        → is_part event.entry ≡ true
        → GoesOn n event
    -- the object that a dead call's last look granted is retired behind it
    pub deaths : (cpu i : ℕ) (made : Made) (seen : Seen)
        → slice_get (calls cpu) i ≡ Some made → made.mark.end ≡ ends.Dead
        → last_or None made.seen ≡ Some seen
        → IsRetiredBehind seen.look.place (granted seen.word).0

  -- the programs' side: the calls are numbered, each CPU's last call is its exit call, and no
  -- others make calls
  pub record AreWhole (calls : ℕ → List Made) : Type 0 where
    pub numbered : (cpu : ℕ) → InTurn IsNumbered (calls cpu)
    pub exits : (cpu : ℕ) → IsSome (cpu_row boot cpu)
        → IsTrue (is_exit_call (last_or None (calls cpu)))
    pub cpus : (cpu : ℕ) → cpu_row boot cpu ≡ None → calls cpu ≡ []

  -- the history and the calls are legal
  pub record IsLegal (calls : ℕ → List Made) : Type 0 where
    pub agree : Agree calls
    pub whole : AreWhole calls
