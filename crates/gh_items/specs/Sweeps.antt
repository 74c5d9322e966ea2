-- The sweep on a run's progress: what it comes to when an object is retired or reclaimed, and the
-- configurations in which it sweeps.
use Rattle.std.specs.Prelude.{◌≡◌, ◌<◌, ℕ, List, Some, if◌then◌else◌}
use Rattle.gh_base.specs.declared.ids.Serial.{Serial}
use Rattle.gh_base.specs.declared.limits.TheConstants.{CPUS}
use Rattle.gh_core.specs.declared.current.CurrentCall.{CurrentCall}
use Rattle.gh_events.specs.Config.{Config}
use Rattle.gh_events.specs.Grace.{scan_of}
use Rattle.gh_events.specs.Sound.{IsSound}
use Rattle.gh_items.specs.Acts.{in_state, with_entry}
use Rattle.gh_items.specs.Stands.{Stands, with_call}
use Rattle.gh_items.specs.declared.progress.Progress.{Progress}
use Rattle.gh_model.specs.History.{reclaimed, retired}
use Rattle.gh_model.specs.declared.entry.Entry.TheVariants.{Reclaimed, Retired}
use Rattle.gh_schedules.specs.Indices.{HasBlocks}
use Rattle.gh_schedules.specs.Sweep.{HasNotBegun, may_reclaim}

-- the progress behind an object's retirement, and behind its reclaim, with these counters
abbrev pub with_retired : Progress → Serial → List ℕ → Progress
with_retired progress serial seen =
    with_entry (in_state progress (retired progress.plain serial seen)) (Retired serial seen)

abbrev pub with_reclaimed : Progress → Serial → List ℕ → Progress
with_reclaimed progress serial seen =
    with_entry (in_state progress (reclaimed progress.plain serial)) (Reclaimed serial seen)

-- behind its retirement, an object is tried once for its reclaim
abbrev pub tried : Progress → Serial → List ℕ → Progress
tried progress serial seen =
    if may_reclaim progress.plain serial seen then with_reclaimed progress serial seen
    else progress

abbrev pub with_dead : Progress → Serial → List ℕ → Progress
with_dead progress serial seen = tried (with_retired progress serial seen) serial seen

-- the progress and the holder's call stand for a sound configuration in which nothing of the
-- holder's act was committed
pub record SweepsIn (progress : Progress) (cpu : ℕ) (call : CurrentCall) (conf : Config)
    : Type 0 where
  pub stands : Stands (with_call progress cpu (Some call)) conf
  pub sound : IsSound conf
  pub within : cpu < CPUS
  pub blocks : HasBlocks conf
  pub begins : HasNotBegun conf cpu

-- the holder has the present counters of all CPUs
abbrev pub AreScanned : Config → Type 0
AreScanned conf = (cpu : ℕ) → cpu < CPUS → scan_of conf.turn cpu ≡ Some (conf.counter cpu)

-- and they stand for one in which it has these too
pub record ScansIn (progress : Progress) (cpu : ℕ) (call : CurrentCall) (conf : Config)
    : Type 0 where
  pub sweeps : SweepsIn progress cpu call conf
  pub scanned : AreScanned conf

-- there is such a configuration
pub record Sweeps (progress : Progress) (cpu : ℕ) (call : CurrentCall) : Type 0 where
  pub conf : Config
  pub sweeps : SweepsIn progress cpu call conf

pub record Scans (progress : Progress) (cpu : ℕ) (call : CurrentCall) : Type 0 where
  pub conf : Config
  pub scans : ScansIn progress cpu call conf
