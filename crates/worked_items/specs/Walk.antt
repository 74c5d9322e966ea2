-- The configurations along the rows of a walk.
use Rattle.std.specs.Prelude.{ℕ, zero, suc, List, [], ◌∷◌, Option, Some, None, slice_get, slice_index}
use Rattle.gh_base.specs.declared.frame.Frame.{Frame}
use Rattle.gh_events.specs.Config.{Config}
use Rattle.gh_items.specs.Calling.{begun}
use Rattle.gh_items.specs.Stands.{Stands}
use Rattle.gh_items.specs.declared.progress.Progress.{Progress}
use Rattle.gh_schedules.specs.Items.{IsSteady, item}
use Rattle.gh_schedules.specs.Trace.{after_all}
use Rattle.worked_items.specs.declared.row.Row.{Row}
use Rattle.worked_items.specs.declared.row.Row.TheVariants.{Begins, Makes, Has}

-- the frame with these registers x0 to x3, without bytes
abbrev pub frame_of : List ℕ → Frame
frame_of x = record {
  x = slice_index x 0 ∷ slice_index x 1 ∷ slice_index x 2 ∷ slice_index x 3
      ∷ 0 ∷ 0 ∷ 0 ∷ 0 ∷ 0 ∷ [];
  bytes = [];
}

-- the configuration behind a row: a call begins, an item is made, or nothing happens
abbrev pub behind_row : Config → Row → Config
behind_row conf (Begins cpu x behind) = begun conf cpu.0 (frame_of x)
behind_row conf (Makes cpu behind) = after_all conf (item conf cpu.0)
behind_row conf (Has fact) = conf

abbrev pub behind_some : Config → Option Row → Config
behind_some conf None = conf
behind_some conf (Some row) = behind_row conf row

-- the configuration behind so many of these rows
unfoldable pub conf_at : Config → List Row → ℕ → Config
conf_at conf rows zero = conf
conf_at conf rows (suc n) = behind_some (conf_at conf rows n) (slice_get rows n)

-- the progress stands for this configuration, between items
pub record GoesOn (progress : Progress) (conf : Config) : Type 0 where
  pub stands : Stands progress conf
  pub steady : IsSteady conf
