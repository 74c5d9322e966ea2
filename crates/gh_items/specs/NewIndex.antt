-- The index of a new object and the place that it is noted with, as they are searched for: the
-- least number of a range that passes a test.
use Rattle.std.specs.Prelude.{ℕ, Bool, List, Option, find, option_map}
use Rattle.std.specs.List.{range_with_len}
use Rattle.std.specs.Option.{unwrap_or}
use Rattle.gh_base.specs.declared.call.Call.{Call}
use Rattle.gh_base.specs.declared.ids.Serial.{Serial}
use Rattle.gh_base.specs.declared.kind.Kind.{Kind}
use Rattle.gh_base.specs.declared.limits.TheConstants.{PARTITION_PLACES, PARTITIONS}
use Rattle.gh_model.specs.Decisions.{grant_at}
use Rattle.gh_model.specs.declared.state.State.{State}
use Rattle.gh_schedules.specs.Indices.{block_at, is_free, kind_made}
use Rattle.gh_schedules.specs.Places.{is_free_place}

-- an index is a number below this
abbrev pub index_limit : ℕ
index_limit = 65536

-- the least that passes, of so many numbers from the first on
unfoldable pub least_in : (ℕ → Bool) → ℕ → ℕ → Option ℕ
least_in test first count = find test (range_with_len first count)

-- the least free index of a block, and the least place that no partition has
abbrev pub index_in_block : State → (ℕ → ℕ) → ℕ → ℕ
index_in_block s index place =
    unwrap_or (least_in (is_free s index) (block_at place) PARTITION_PLACES) 0

abbrev pub place_for : State → (ℕ → ℕ) → ℕ
place_for s places = unwrap_or (least_in (is_free_place s places) 0 PARTITIONS) 0

-- the index that the object of a call gets, if it makes one: in the partition of its first grant
abbrev pub index_made : State → (ℕ → ℕ) → (ℕ → ℕ) → Call → List Serial → Option ℕ
index_made s places index call grants =
    option_map (λ (k : Kind). index_in_block s index (places (grant_at grants 0).0))
    (kind_made call)
