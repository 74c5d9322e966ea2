-- A call that wants a look has at most one so far.
use Rattle.std.proofs.Common.{◌≡◌, ◌==◌, ◌<◌, ◌≤◌, ◌∙◌, ℕ, suc, Bool, true, false, List, [], ◌∷◌, length, map, refl, ap, subst, arith, Option, Some, Result, Ok, Err, option_map, nat_lt, if◌then◌else◌}
use Rattle.gh_base.specs.declared.call.Call.{Call}
use Rattle.gh_base.specs.declared.call.Call.TheVariants as calls
use Rattle.gh_base.specs.declared.cap_word.Need.{Need}
use Rattle.gh_base.specs.declared.errno.Errno.{Errno}
use Rattle.gh_base.specs.declared.ids.Serial.{Serial}
use Rattle.gh_base.specs.declared.limits.TheConstants.{CPUS}
use Rattle.gh_model.specs.Marks.{Outcome, on_grant, outcome, word_of}
use Rattle.gh_model.specs.Registers.{needs_of}
use Rattle.gh_model.specs.Word.{look_reply}
use Rattle.gh_model.specs.declared.word.Word.{Word}
use Rattle.gh_events.specs.Config.{Config, Cpu, came_to}
use Rattle.gh_core.specs.Running.{cpu_of, current_of, seen_of}
use Rattle.gh_core.specs.Tests.{asks, is_reading, looks, wants}
use Rattle.gh_core.specs.declared.cpu.Seat.{Seat}
use Rattle.gh_core.specs.declared.current.CurrentCall.{CurrentCall}
use Rattle.gh_core.proofs.CallTests.{both}

pub mapped_length : {X Y : Type 0} (f : X → Y) (xs : List X) → length (map f xs) ≡ length xs
mapped_length f [] = refl
mapped_length f (x ∷ xs) = ap (λ (n : ℕ). suc n) (mapped_length f xs)

wants_by : (slot : ℕ) (reply : Result Serial Errno) (others : Outcome) → wants slot (on_grant reply others) ≡ true → wants slot others ≡ true
wants_by slot (Ok serial) others is = is
wants_by slot (Err errno) others is = absurd (let never : ⊥ = cc in never)

-- where one more is wanted, there are fewer words than needs
wants_short : (slot : ℕ) (needs : List (ℕ × Need)) (words : List Word) → wants slot (outcome needs words) ≡ true → length words < length needs
wants_short slot [] words is = absurd (let never : ⊥ = cc in never)
wants_short slot (need ∷ needs) [] is = omega arith
wants_short slot (need ∷ needs) (word ∷ words) is =
    let others = wants_short slot needs words (wants_by slot (look_reply word need.1) (outcome needs words) is) in omega (arith, others)

space_few : (here : Bool) (need : ℕ × Need) (others : List (ℕ × Need)) → length others ≤ 1 → length (if here then others else need ∷ others) ≤ 2
space_few true need others few = omega (arith, few)
space_few false need others few = omega (arith, few)

-- a call looks up two capabilities at most
needs_few : (call : Call) → length (needs_of call) ≤ 2
needs_few (calls.Map space extent base attributes flags offset size) = space_few (space == 0) _ _ (omega arith)
needs_few (calls.Unmap space extent base flags offset size) = space_few (space == 0) _ _ (omega arith)
needs_few (calls.AsLookup space address) = space_few (space == 0) _ _ (omega arith)
needs_few calls.Identify = omega arith
needs_few calls.Exit = omega arith
needs_few (calls.BellSend cap flags) = omega arith
needs_few (calls.BellSetMask cap enable ack) = omega arith
needs_few (calls.BellReceive cap clear) = omega arith
needs_few (calls.BellReset cap) = omega arith
needs_few (calls.MsgqSend cap size buffer flags) = omega arith
needs_few (calls.MsgqRecv cap buffer size) = omega arith
needs_few (calls.MsgqFlush cap) = omega arith
needs_few (calls.Donate options giver to offset size) = omega arith
needs_few (calls.Derive child parent offset size access) = omega arith
needs_few (calls.Create partition cspace number) = omega arith
needs_few (calls.ConfigurePartition cap quota) = omega arith
needs_few (calls.ConfigureQueue cap depth size) = omega arith
needs_few (calls.Activate cap) = omega arith
needs_few (calls.CapCopy cspace source mask) = omega arith
needs_few (calls.CapDelete cspace slot) = omega arith
needs_few (calls.CapRevoke cspace slot) = omega arith
needs_few (calls.CapsRevoke cap) = omega arith
needs_few (calls.RmAct cap vm) = omega arith
needs_few (calls.RmPoll cap) = omega arith

wanting_room : (slot : ℕ) (call : CurrentCall) → wants slot (came_to (current_of call)) ≡ true → length call.seen < 2
wanting_room slot call is =
    let short = wants_short slot (needs_of call.given.call) (map word_of (map seen_of call.seen)) is in
    let few = needs_few call.given.call in
    let same : length (map word_of (map seen_of call.seen)) ≡ length call.seen = mapped_length word_of (map seen_of call.seen) ∙ mapped_length seen_of call.seen in
    omega (arith, short, few, same)

asking_room : (slot : ℕ) (call : CurrentCall) → asks slot (Some (current_of call)) ≡ true → length call.seen < 2
asking_room slot call is = wanting_room slot call (both (is_reading (current_of call).stage) (wants slot (came_to (current_of call))) is).1

-- a call that may look has room for its look
pub room_told : (conf : Config) (at slot : ℕ) (seat : Seat) (call : CurrentCall) → looks conf at slot ≡ true
    → conf.cpu at ≡ cpu_of seat → seat.current ≡ Some call → length call.seen < 2
room_told conf at slot seat call may there is =
    let asked : asks slot (conf.cpu at).current ≡ true = (both (nat_lt at CPUS) (asks slot (conf.cpu at).current) may).1 in
    let here : asks slot (option_map current_of seat.current) ≡ true = subst (λ (cpu : Cpu). asks slot cpu.current ≡ true) there asked in
    asking_room slot call (subst (λ (current : Option CurrentCall). asks slot (option_map current_of current) ≡ true) is here)
