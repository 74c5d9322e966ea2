-- The configuration that a run's progress stands for: the present state, the history and the calls
-- are those of the configuration. Its words are what a sound configuration has beside them, and
-- aren't kept.
use Rattle.std.specs.Prelude.{◌≡◌, ◌||◌, ◌+◌, ◌-◌, ◌<◌, ◌≤◌, ⊤, ℕ, Bool, true, false, List, [], ◌∷◌, ◌++◌, length, Option, Some, None, Result, Ok, Err, count_by, filter, map, nat_lt, option_map, slice_get, slice_set, if◌then◌else◌}
use Rattle.std.specs.List.{list_any}
use Rattle.std.specs.Option.{option_map_or, unwrap_or}
use Rattle.gh_base.specs.declared.cap_word.Look.{Look}
use Rattle.gh_base.specs.declared.errno.Errno.{Errno}
use Rattle.gh_base.specs.Reply.{refusal}
use Rattle.gh_base.specs.declared.frame.Frame.{Frame}
use Rattle.gh_base.specs.declared.frame.Reply.{Reply}
use Rattle.gh_base.specs.declared.ids.ObjIndex.{ObjIndex}
use Rattle.gh_base.specs.declared.ids.Serial.{Serial}
use Rattle.gh_base.specs.declared.limits.TheConstants.{CPUS, OBJECT_INDICES}
use Rattle.gh_base.specs.declared.mark.End.{End}
use Rattle.gh_base.specs.declared.mark.End.TheVariants as ends
use Rattle.gh_base.specs.declared.mark.Mark.{Mark}
use Rattle.gh_events.specs.CallEvents.{finished}
use Rattle.gh_events.specs.Config.{Config, Cpu, present}
use Rattle.gh_core.specs.Running.{current_of, seen_of}
use Rattle.gh_core.specs.declared.current.CallStage.{CallStage}
use Rattle.gh_core.specs.declared.current.CallStage.TheVariants as stages
use Rattle.gh_core.specs.declared.current.CurrentCall.{CurrentCall}
use Rattle.gh_core.specs.declared.current.GivenCall.{GivenCall}
use Rattle.gh_core.specs.declared.current.SeenLook.{SeenLook}
use Rattle.gh_items.specs.declared.progress.Progress.{Progress}
use Rattle.gh_items.specs.declared.progress.Seat.{Seat}
use Rattle.gh_model.specs.History.{entry_of}
use Rattle.gh_model.specs.Legal.{exits}
use Rattle.gh_model.specs.Marks.{cspace_of, has_looks, mark_of, place, place_after, place_after_looks}
use Rattle.gh_model.specs.Program.{is_exit}
use Rattle.gh_model.specs.Run.{is_mark_of}
use Rattle.gh_model.specs.declared.rows.CapabilityRow.{CapabilityRow}
use Rattle.gh_schedules.specs.Places.{places_of}

-- a CPU's seat: no next call is given, the call in progress is that of the CPU, and the others are
-- counted. Its pins are dropped between calls
pub record SeatStands (at cspace : ℕ) (marks : List Mark) (seat : Seat)
    (call : Option CurrentCall) (cpu : Cpu) : Type 0 where
  pub its_cpu : seat.cpu.0 ≡ at
  pub space : seat.cspace.0 ≡ cspace
  pub unasked : cpu.next ≡ None
  pub current : cpu.current ≡ option_map current_of call
  pub dropped : call ≡ None → cpu.pins ≡ []
  pub made : map mark_of cpu.made ≡ filter (is_mark_of at) marks
  pub calls : seat.calls ≡ length cpu.made
  pub sections : seat.sections ≡ count_by has_looks cpu.made
  pub place : seat.place ≡ place_after cpu.made
  pub ended : seat.ended ≡ list_any exits cpu.made

abbrev pub index_number : ObjIndex → ℕ
index_number index = index.0

-- the index of the object of a serial, 0 where none was made
abbrev pub index_in : List ObjIndex → ℕ → ℕ
index_in places serial = option_map_or index_number (slice_get places (serial - 1)) 0

-- the object of a filled slot was made, and its index is one that there is
pub record IsPlaced (places : List ObjIndex) (serial : ℕ) : Type 0 where
  pub some : 0 < serial
  pub made : serial ≤ length places
  pub within : index_in places serial < OBJECT_INDICES

abbrev pub IsNamed : List ObjIndex → Option CapabilityRow → Type 0
IsNamed places None = ⊤
IsNamed places (Some row) = IsPlaced places row.serial.0

-- the index of each object that was made
abbrev pub AreIndexed : ℕ → List ObjIndex → (ℕ → ℕ) → Type 0
AreIndexed next places index = (serial : ℕ) → 0 < serial → serial < next
    → option_map index_number (slice_get places (serial - 1)) ≡ Some (index serial)

-- the place that the object of a serial was noted with, 0 where none was made
abbrev pub noted_in : List ℕ → ℕ → ℕ
noted_in noted serial = unwrap_or (slice_get noted (serial - 1)) 0

-- the place that each object was noted with
abbrev pub AreNoted : ℕ → List ℕ → (ℕ → ℕ) → Type 0
AreNoted next noted places = (serial : ℕ) → 0 < serial → serial < next
    → slice_get noted (serial - 1) ≡ Some (places serial)

-- the progress with another call of a CPU in progress
abbrev pub with_call : Progress → ℕ → Option CurrentCall → Progress
with_call progress at call = record progress { calls = slice_set progress.calls at call }

-- a call that begins with this section
abbrev pub begun_call : GivenCall → ℕ → CurrentCall
begun_call call section =
    record { given = call; section = section; seen = []; stage = stages.Reading }

-- a call behind one more look, at this stage
abbrev pub looked_call : CurrentCall → SeenLook → CallStage → CurrentCall
looked_call call seen stage = record call { seen = call.seen ++ seen ∷ []; stage = stage }

-- a look that is refused fails the call; a grant wants its pin
abbrev pub stage_by : Result Serial Errno → CallStage
stage_by (Ok serial) = stages.Looked
stage_by (Err errno) = stages.Failed

-- a call at another stage; a pin on a dead word is too late
abbrev pub at_stage : CurrentCall → CallStage → CurrentCall
at_stage call stage = record call { stage = stage }

abbrev pub pin_stage : Bool → CallStage
pin_stage true = stages.DeadPin
pin_stage false = stages.Reading

-- the looks alone
abbrev pub looks_of : List SeenLook → List Look
looks_of seen = map (λ (one : SeenLook). one.look) seen

-- the end of a call: its mark, what its CPU's finished calls come to with it, and the progress
abbrev pub mark_at : ℕ → CurrentCall → End → Reply → Mark
mark_at at call end reply = (finished at (current_of call) end reply).mark

abbrev pub sections_of : CurrentCall → ℕ
sections_of call = if nat_lt 0 (length call.seen) then 1 else 0

abbrev pub seat_behind : Seat → CurrentCall → End → Seat
seat_behind seat call end = record seat {
  calls = seat.calls + 1;
  sections = seat.sections + sections_of call;
  place = unwrap_or (place end) (place_after_looks seat.place (map seen_of call.seen));
  ended = seat.ended || is_exit call.given.frame;
}

abbrev pub with_end : Progress → ℕ → Seat → CurrentCall → End → Reply → Progress
with_end progress at seat call end reply = record progress {
  marks = progress.marks ++ mark_at at call end reply ∷ [];
  seats = slice_set progress.seats at (seat_behind seat call end);
  calls = slice_set progress.calls at None;
}

-- a call whose frame is refused, the seat behind it, and the progress
abbrev pub frame_mark : ℕ → ℕ → Errno → Mark
frame_mark at number errno = record {
  cpu = record { 0 = at };
  number = number;
  section = 0;
  looks = [];
  end = ends.Frame;
  reply = refusal errno;
}

abbrev pub seat_refused : Seat → Frame → Seat
seat_refused seat frame =
    record seat { calls = seat.calls + 1; ended = seat.ended || is_exit frame }

abbrev pub with_refused : Progress → ℕ → Seat → ℕ → Frame → Errno → Progress
with_refused progress at seat number frame errno = record progress {
  marks = progress.marks ++ frame_mark at number errno ∷ [];
  seats = slice_set progress.seats at (seat_refused seat frame);
}

-- the progress stands for the configuration, whoever has the turn
pub record Stands (progress : Progress) (conf : Config) : Type 0 where
  pub state : progress.plain ≡ present conf
  pub entries : progress.entries ≡ map entry_of conf.history
  pub places : AreIndexed (present conf).next_serial progress.places conf.index
  pub all_placed : length progress.places + 1 ≡ (present conf).next_serial
  pub noted : AreNoted (present conf).next_serial progress.noted (places_of conf)
  pub all_noted : length progress.noted + 1 ≡ (present conf).next_serial
  -- a seat and a call for each CPU
  pub nine_seats : length progress.seats ≡ CPUS
  pub nine_calls : length progress.calls ≡ CPUS
  pub seats : (at : ℕ) (seat : Seat) (call : Option CurrentCall)
      → slice_get progress.seats at ≡ Some seat → slice_get progress.calls at ≡ Some call
      → SeatStands at (cspace_of conf.boot at) progress.marks seat call (conf.cpu at)
