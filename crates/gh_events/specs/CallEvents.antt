-- The events of a call outside the turn: when each is possible, and what it changes.
use Rattle.std.specs.Prelude.{◌≡◌, ◌+◌, ◌-◌, ◌<◌, ℕ, Bool, true, false, List, [], ◌∷◌, ◌++◌, length, max, Option, Some, None, map, nat_lt, option_map, if◌then◌else◌}
use Rattle.std.specs.List.{list_any, last_or}
use Rattle.gh_base.specs.CapWord.{set_at_of}
use Rattle.gh_base.specs.Reply.{refusal}
use Rattle.gh_base.specs.declared.cap_word.CapWord.{CapWord}
use Rattle.gh_base.specs.declared.cap_word.Need.{Need}
use Rattle.gh_base.specs.declared.errno.Errno.TheVariants.{CapRevoked}
use Rattle.gh_base.specs.declared.frame.Reply.{Reply}
use Rattle.gh_base.specs.declared.limits.TheConstants.{CPUS, OBJECT_INDICES}
use Rattle.gh_base.specs.declared.mark.End.{End}
use Rattle.gh_base.specs.declared.mark.End.TheVariants as ends
use Rattle.gh_model.specs.Marks.{Made, Outcome, Wants, Fails, Grants, Seen, cspace_of, look_of, outcome, word_of}
use Rattle.gh_model.specs.Registers.{needs_of}
use Rattle.gh_model.specs.Word.{is_slot, word_at}
use Rattle.gh_events.specs.Config.{AtAct, Config, Cpu, Current, DeadPin, Failed, Given, IsBetween, IsIn, Looked, Pin, Reading, Stage, Undone, came_to, is_pin_at, last_place, pin_of, present, put, seen_index}

-- what events change

abbrev pub with_call : (Current → Current) → Cpu → Cpu
with_call change cpu = record cpu { current = option_map change cpu.current }

abbrev pub at_stage : Stage → Current → Current
at_stage stage call = record call { stage = stage }

-- a finished call, with its end and its reply
abbrev pub finished : ℕ → Current → End → Reply → Made
finished at call end reply = record {
  mark = record {
    cpu = record { 0 = at };
    number = call.given.number;
    section = call.section;
    looks = map look_of call.seen;
    end = end;
    reply = reply;
  };
  frame = call.given.frame;
  seen = call.seen;
}

-- the call in progress gets its end; its pins stay until they are dropped
abbrev pub with_end : Cpu → Made → Cpu
with_end cpu made = record cpu { current = None; made = cpu.made ++ made ∷ [] }

-- Enter

abbrev pub has_needs : Given → Bool
has_needs given = nat_lt 0 (length (needs_of given.call))

-- the CPU is between calls, and its next call looks up a capability
pub record MayEnter (conf : Config) (at : ℕ) : Type 0 where
  pub is_cpu : at < CPUS
  pub between : IsBetween (conf.cpu at)
  pub given : Given
  pub next : (conf.cpu at).next ≡ Some given
  pub looks : has_needs given ≡ true

-- a call at its begin, with this section and at this stage
abbrev pub begun : ℕ → Stage → Given → Current
begun section stage given = record { given = given; section = section; seen = []; stage = stage }

-- its counter rises by one and is the call's section
abbrev pub entered : Config → ℕ → Config
entered conf at = record conf {
  counter = put conf.counter at (conf.counter at + 1);
  cpu = put conf.cpu at (record (conf.cpu at) {
    next = None;
    current = option_map (begun (conf.counter at + 1) Reading) (conf.cpu at).next;
  });
}

-- Look

-- in its open section, with each earlier grant pinned, the call looks up this slot next
pub record MayLook (conf : Config) (at slot : ℕ) : Type 0 where
  pub is_cpu : at < CPUS
  pub call : Current
  pub reading : IsIn (conf.cpu at) call Reading
  pub need : Need
  pub asked : came_to call ≡ Wants slot need

-- the word of a slot that a CPU looks up; a number that names no slot loads the word of number 0,
-- which no entry sets
abbrev pub loaded : Config → ℕ → ℕ → CapWord
loaded conf at slot =
    conf.cap (conf.index (cspace_of conf.boot at)) (if is_slot slot then slot else 0)

-- the look: the present word, at the greater of its setting and the CPU's last place
abbrev pub found : Config → ℕ → ℕ → Current → Seen
found conf at slot call = record {
  look = record {
    slot = slot;
    place = max (set_at_of (loaded conf at slot).0) (last_place (conf.cpu at) call.seen);
    word = loaded conf at slot;
  };
  word = word_at (present conf) (cspace_of conf.boot at) slot;
}

-- a look that is refused fails the call; a grant wants its pin
abbrev pub stage_after_look : Outcome → Stage
stage_after_look (Wants slot need) = Looked
stage_after_look (Fails errno) = Failed
stage_after_look Grants = Looked

abbrev pub with_look : Seen → Current → Current
with_look seen call = record call {
  seen = call.seen ++ seen ∷ [];
  stage = stage_after_look (outcome (needs_of call.given.call) (map word_of (call.seen ++ seen ∷ [])));
}

abbrev pub looked : Config → ℕ → ℕ → Config
looked conf at slot = record conf {
  cpu = put conf.cpu at
      (with_call (λ call. with_look (found conf at slot call) call) (conf.cpu at));
}

-- Pin

-- the call's last look granted the object at this index
pub record IsLastAt (call : Current) (object : ℕ) : Type 0 where
  pub seen : Seen
  pub last : last_or None call.seen ≡ Some seen
  pub index_is : seen_index seen ≡ object

-- in its open section, the call's last look granted this index and has no pin yet
pub record MayPin (conf : Config) (at object : ℕ) : Type 0 where
  pub is_cpu : at < CPUS
  pub is_index : object < OBJECT_INDICES
  pub call : Current
  pub is_looked : IsIn (conf.cpu at) call Looked
  pub granted : IsLastAt call object

-- the pin on what the call's last look granted
abbrev pub pin_of_look : Option Seen → List Pin
pin_of_look None = []
pin_of_look (Some seen) = pin_of seen ∷ []

abbrev pub pin_of_call : Option Current → List Pin
pin_of_call None = []
pin_of_call (Some call) = pin_of_look (last_or None call.seen)

-- on a dead word the call is dead, else the grant has its pin
abbrev pub with_pin : Bool → Cpu → Cpu
with_pin dead cpu =
    if dead then with_call (at_stage DeadPin) cpu
    else record (with_call (at_stage Reading) cpu) { pins = cpu.pins ++ pin_of_call cpu.current }

-- the word rises by one
abbrev pub pinned : Config → ℕ → ℕ → Config
pinned conf at object = record conf {
  count = put conf.count object (conf.count object + 1);
  cpu = put conf.cpu at (with_pin (conf.dead object) (conf.cpu at));
}

-- Undo

-- the call has a pin on the dead word at this index
pub record MayUndo (conf : Config) (at object : ℕ) : Type 0 where
  pub is_cpu : at < CPUS
  pub is_index : object < OBJECT_INDICES
  pub call : Current
  pub dead : IsIn (conf.cpu at) call DeadPin
  pub granted : IsLastAt call object

-- the word falls by one
abbrev pub undone : Config → ℕ → ℕ → Config
undone conf at object = record conf {
  count = put conf.count object (conf.count object - 1);
  cpu = put conf.cpu at (with_call (at_stage Undone) (conf.cpu at));
}

-- Leave

abbrev pub has_grants : Outcome → Bool
has_grants (Wants slot need) = false
has_grants (Fails errno) = false
has_grants Grants = true

-- its looks are done with every grant pinned, or it was refused, or it is dead and its pin undone
abbrev pub leaves_from : Stage → Outcome → Bool
leaves_from Reading came = has_grants came
leaves_from Looked came = false
leaves_from DeadPin came = false
leaves_from Undone came = true
leaves_from Failed came = true
leaves_from AtAct came = false

-- the call's section is open, and nothing is left to do in it
pub record MayLeave (conf : Config) (at : ℕ) : Type 0 where
  pub is_cpu : at < CPUS
  pub call : Current
  pub is_current : (conf.cpu at).current ≡ Some call
  pub is_done : leaves_from call.stage (came_to call) ≡ true

-- the end of a call without an act: its last look was refused, or its pin was on a dead word
abbrev pub end_of_looks : Outcome → End
end_of_looks (Wants slot need) = ends.Dead
end_of_looks (Fails errno) = ends.Refused
end_of_looks Grants = ends.Dead

abbrev pub reply_of_looks : Outcome → Reply
reply_of_looks (Wants slot need) = refusal CapRevoked
reply_of_looks (Fails errno) = refusal errno
reply_of_looks Grants = refusal CapRevoked

-- a call that was refused or is dead has its end; another is at its act
abbrev pub with_left : ℕ → Cpu → Current → Stage → Cpu
with_left at cpu call Reading = record cpu { current = Some (at_stage AtAct call) }
with_left at cpu call _ =
    with_end cpu (finished at call (end_of_looks (came_to call)) (reply_of_looks (came_to call)))

abbrev pub after_leave : ℕ → Cpu → Option Current → Cpu
after_leave at cpu None = cpu
after_leave at cpu (Some call) = with_left at cpu call call.stage

-- the counter rises by one
abbrev pub left : Config → ℕ → Config
left conf at = record conf {
  counter = put conf.counter at (conf.counter at + 1);
  cpu = put conf.cpu at (after_leave at (conf.cpu at) (conf.cpu at).current);
}

-- Unpin

-- the last call has ended but for its pins, and one is at this index
pub record MayUnpin (conf : Config) (at object : ℕ) : Type 0 where
  pub is_cpu : at < CPUS
  pub is_index : object < OBJECT_INDICES
  pub ended : (conf.cpu at).current ≡ None
  pub held : list_any (is_pin_at object) (conf.cpu at).pins ≡ true

-- pins without the first one at an index
abbrev pub without_pin : ℕ → List Pin → List Pin
without_pin at [] = []
without_pin at (pin ∷ pins) = if is_pin_at at pin then pins else pin ∷ without_pin at pins

-- the word falls by one
abbrev pub unpinned : Config → ℕ → ℕ → Config
unpinned conf at object = record conf {
  count = put conf.count object (conf.count object - 1);
  cpu = put conf.cpu at (record (conf.cpu at) { pins = without_pin object (conf.cpu at).pins });
}

-- Join and Split

-- the CPU is between calls; its seat is given back or made, and all else stays
pub record MayMove (conf : Config) (at : ℕ) : Type 0 where
  pub is_cpu : at < CPUS
  pub between : IsBetween (conf.cpu at)
