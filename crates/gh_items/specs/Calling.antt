-- How a CPU's next call begins, and what an item does to the marks.
use Rattle.std.specs.Prelude.{◌≡◌, ◌⊎◌, ◌+◌, ◌<◌, ◌++◌, if◌then◌else◌, ℕ, List, [], ◌∷◌, is_some, length}
use Rattle.gh_base.specs.declared.frame.Frame.{Frame}
use Rattle.gh_base.specs.declared.limits.TheConstants.{CPUS}
use Rattle.gh_base.specs.declared.mark.Mark.{Mark}
use Rattle.gh_events.specs.Config.{Config}
use Rattle.gh_events.specs.Sound.{made_by}
use Rattle.gh_events.specs.Start.{given}
use Rattle.gh_schedules.specs.Course.{call_of_cpu}
use Rattle.gh_schedules.specs.Items.{item}
use Rattle.gh_schedules.specs.Trace.{after_all}

-- the next item of a CPU's call, if it has one
abbrev pub behind_item : Config → ℕ → Config
behind_item conf at =
    if is_some (call_of_cpu (conf.cpu at)) then after_all conf (item conf at) else conf

-- the CPU is given a call that makes this frame, and the call's first item: one whose frame is
-- refused has ended, and has none
abbrev pub begun : Config → ℕ → Frame → Config
begun conf at frame = behind_item (given conf at (length (made_by conf at) + 1) frame) at

-- one call of a CPU ended, and its mark is the last
pub record EndsCall (before behind : List Mark) : Type 0 where
  pub mark : Mark
  pub its_cpu : mark.cpu.0 < CPUS
  pub is : behind ≡ before ++ mark ∷ []

-- the marks behind an item: those before it, with one more where a call ended
abbrev pub AddsMark : List Mark → List Mark → Type 0
AddsMark before behind = (behind ≡ before) ⊎ EndsCall before behind
