-- A walk goes from row to row: the configuration behind each is between items, and leads to the next.
use Rattle.std.proofs.Common.{◌≡◌, ◌+◌, ◌<◌, ◌∙◌, ℕ, suc, Bool, true, false, List, length, refl, sym, ap, arith, slice_get, is_some, if◌then◌else◌}
use Rattle.gh_base.specs.declared.frame.Frame.{Frame}
use Rattle.gh_base.specs.declared.limits.TheConstants.{CPUS}
use Rattle.gh_events.specs.Config.{Config}
use Rattle.gh_events.specs.Sound.{made_by}
use Rattle.gh_events.specs.Start.{MayGive, given}
use Rattle.gh_items.specs.Calling.{begun}
use Rattle.gh_schedules.specs.Course.{call_of_cpu}
use Rattle.gh_schedules.specs.Items.{IsSteady, item}
use Rattle.gh_schedules.specs.Trace.{after_all}
use Rattle.gh_schedules.proofs.BootBlocks.{given_steady}
use Rattle.gh_schedules.proofs.ItemsLaw.{item_steady}
use Rattle.worked_items.specs.Walk.{behind_some, conf_at}
use Rattle.worked_items.specs.declared.row.Row.{Row}

-- an item leaves a steady configuration, and so does the begin of a call

pub item_goes_on : (conf : Config) (at : ℕ) → IsSteady conf → at < CPUS → IsSteady (after_all conf (item conf at))
item_goes_on conf at steady within = item_steady conf at steady.sound steady.nine within steady.free steady.blocks

by_call : (conf : Config) (at : ℕ) (called : Bool) → IsSteady conf → at < CPUS
    → IsSteady (if called then after_all conf (item conf at) else conf)
by_call conf at true steady within = item_goes_on conf at steady within
by_call conf at false steady within = steady

pub begin_goes_on : (conf : Config) (at : ℕ) (frame : Frame) → IsSteady conf → at < CPUS
    → MayGive conf at (length (made_by conf at) + 1) → IsSteady (begun conf at frame)
begin_goes_on conf at frame steady within may =
    let next : Config = given conf at (length (made_by conf at) + 1) frame in
    by_call next at (is_some (call_of_cpu (next.cpu at))) (given_steady conf at (length (made_by conf at) + 1) frame steady may) within

-- the configuration behind no rows, and behind one more

pub behind_none : (conf : Config) (rows : List Row) → conf_at conf rows 0 ≡ conf
unfolding conf_at
behind_none conf rows = refl

behind_suc : (conf : Config) (rows : List Row) (n : ℕ) → conf_at conf rows (suc n) ≡ behind_some (conf_at conf rows n) (slice_get rows n)
unfolding conf_at
behind_suc conf rows n = refl

pub behind_more : (conf : Config) (rows : List Row) (n : ℕ) → behind_some (conf_at conf rows n) (slice_get rows n) ≡ conf_at conf rows (n + 1)
behind_more conf rows n = sym (behind_suc conf rows n) ∙ ap (conf_at conf rows) (let sum : suc n ≡ n + 1 = omega arith in sum)
