-- How the holders of the pages lie: as runs of pages, one after another. No public clause cites
-- this module.
use Rattle.std.specs.Prelude.{◌≡◌, ◌-◌, ◌<◌, ◌≤◌, ⊤, ℕ, Bool}
use Rattle.std.specs.Prelude.{List, [], ◌∷◌, ◌++◌, length, replicate, nat_le}
use Rattle.gh_base.specs.declared.ids.Serial.{Serial}
use Rattle.gh_extent.specs.declared.run_list.Run.{Run}

-- the holders of the pages from the first on
unfoldable pub spread : ℕ → List Run → List Serial
spread first [] = []
spread first (run ∷ runs) = replicate (run.end - first) run.holder ++ spread run.end runs

-- no run is empty: each ends behind the one before
unfoldable pub Rising : ℕ → List Run → Type 0
Rising first [] = ⊤
Rising first (run ∷ runs) = (first < run.end) × Rising run.end runs

-- the page behind the last run
unfoldable pub end_of : ℕ → List Run → ℕ
end_of first [] = first
end_of first (run ∷ runs) = end_of run.end runs

-- the run ends at or before the page
abbrev pub ends_by : ℕ → Run → Bool
ends_by page run = nat_le run.end page

-- the runs are of so many pages, with room for a run of each page
pub record Lie (pages capacity : ℕ) (runs : List Run) : Type 0 where
  pub rise : Rising 0 runs
  pub all : length (spread 0 runs) ≡ pages
  pub room : pages ≤ capacity
