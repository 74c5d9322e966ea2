-- Pages one after the other, and the runs that they make.
use Rattle.std.proofs.Common.{◌≡◌, ◌+◌, ◌-◌, ◌<◌, ◌≤◌, ◌++◌, ◌∙◌}
use Rattle.std.proofs.Common.{ℕ, Bool, true, false, suc, List, [], ◌∷◌, Option, Some, None}
use Rattle.std.proofs.Common.{refl, sym, ap, arith, append_assoc, find, if◌then◌else◌}
use Rattle.std.specs.Prelude.{◌&&◌, ◌||◌, filter}
use Rattle.std.specs.List.{list_any}
use Rattle.gh_driver.specs.Mapped.{maps_page}
use Rattle.gh_model.specs.declared.rows.MappingRow.{MappingRow}
use Rattle.gh_model.specs.Boot.{is_row_of}
use Rattle.gh_base.specs.declared.access.Access.{Access}
use Rattle.gh_base.specs.declared.ids.PageNo.{PageNo}
use Rattle.gh_model.specs.declared.access.PageRun.{PageRun}
use Rattle.gh_model.specs.declared.state.State.{State}
use Rattle.gh_model.specs.Access.{access_at, covers}
use Rattle.gh_model.specs.Text.{pages_from, runs_from, ended_run, open_run}
use Rattle.gh_model.specs.Text.{goes_on, goes_on_with, longer, new_run}

pub pages_none : (page : ℕ) → pages_from page 0 ≡ []
unfolding pages_from
pages_none page = refl

pub pages_more : (page more : ℕ) → pages_from page (suc more) ≡ page ∷ pages_from (page + 1) more
unfolding pages_from
pages_more page more = refl

-- the pages that are left begin with the next
pub pages_left : (page count : ℕ) → page < count → pages_from page (count - page) ≡ page ∷ pages_from (page + 1) (count - (page + 1))
pages_left page count within =
    let more : count - page ≡ suc (count - (page + 1)) = omega arith in
    rw more (pages_more page (count - (page + 1)))

-- a run has no more pages than came before
pub longer_or_new : (run : PageRun) (page : ℕ) (found : PageNo × Access) (goes : Bool) → run.count ≤ page → (if goes then longer run else new_run page found).count ≤ page + 1
longer_or_new run page found true most = omega arith
longer_or_new run page found false most = omega arith

pub open_run-count : (run : PageRun) (page : ℕ) (found : Option (PageNo × Access)) → run.count ≤ page → (open_run run page found).count ≤ page + 1
open_run-count run page None most = omega arith
open_run-count run page (Some found) most = longer_or_new run page found (goes_on run found) most

-- the runs that are left begin with what the next page ends
pub runs_left : (s : State) (space : ℕ) (run : PageRun) (page count : ℕ)
    → page < count
    → runs_from s space run (pages_from page (count - page))
    ≡ ended_run space run (goes_on_with run (access_at s space page))
    ++ runs_from s space (open_run run page (access_at s space page))
    (pages_from (page + 1) (count - (page + 1)))
runs_left s space run page count within = ap (λ (pages : List ℕ). runs_from s space run pages) (pages_left page count within)

-- behind the last page the open run is left
pub runs_none : (s : State) (space : ℕ) (run : PageRun) (page count : ℕ) → count ≤ page → runs_from s space run (pages_from page (count - page)) ≡ ended_run space run false
runs_none s space run page count past =
    let none : count - page ≡ 0 = omega arith in
    ap (λ (pages : List ℕ). runs_from s space run pages) (ap (λ (n : ℕ). pages_from page n) none ∙ pages_none page)

-- a page's step: what is found there, whether the run goes on, the run that is open behind it, and
-- the text with what it ends
pub record IsPageStep (s : State) (space : ℕ) (run : PageRun) (page : ℕ)
    (found : Option (PageNo × Access)) (goes : Bool) (next : PageRun)
    (old out : List ℕ) : Type 0 where
  pub is_found : found ≡ access_at s space page
  pub is_going : goes ≡ goes_on_with run found
  pub is_next : next ≡ open_run run page found
  pub is_put : out ≡ old ++ ended_run space run goes

-- what a page's step ends is written, and the rest has the run that is open behind it
pub page_step : (s : State) (space : ℕ) (run : PageRun) (page count : ℕ)
    (found : Option (PageNo × Access)) (goes : Bool) (next : PageRun) (old out all : List ℕ)
    → page < count
    → IsPageStep s space run page found goes next old out
    → old ++ runs_from s space run (pages_from page (count - page)) ≡ all
    → out ++ runs_from s space next (pages_from (page + 1) (count - (page + 1))) ≡ all
page_step s space run page count found goes next old out all within step rest =
    rw (step.is_put, step.is_next, step.is_going, step.is_found)
    (append_assoc old _ _
    ∙ (ap (λ (text : List ℕ). old ++ text) (sym (runs_left s space run page count within)) ∙ rest))

-- behind the last page the open run ends
pub page_end : (s : State) (space : ℕ) (run : PageRun) (page count : ℕ) (old out all : List ℕ)
    → count ≤ page
    → out ≡ old ++ ended_run space run false
    → old ++ runs_from s space run (pages_from page (count - page)) ≡ all
    → out ≡ all
page_end s space run page count old out all past put rest =
    put ∙ ap (λ (text : List ℕ). old ++ text) (sym (runs_none s space run page count past)) ∙ rest

-- no row maps the page where none of the space's own does
unmapped_by : (own maps any : Bool) (row : MappingRow) (found : Option MappingRow)
    → (if own then (maps || any) else any) ≡ false
    → (any ≡ false → found ≡ None)
    → (if (own && maps) then Some row else found) ≡ None
unmapped_by true true any row found none others = absurd (let never : ⊥ = cc in never)
unmapped_by true false any row found none others = others none
unmapped_by false maps any row found none others = others none

any_own : (own : Bool) (p : MappingRow → Bool) (row : MappingRow) (rows : List MappingRow)
    → list_any p (if own then row ∷ rows else rows)
    ≡ (if own then (p row || list_any p rows) else list_any p rows)
any_own true p row rows = refl
any_own false p row rows = refl

pub unmapped : (space page : ℕ) (rows : List MappingRow) → list_any (maps_page page) (filter (is_row_of space) rows) ≡ false → find (covers space page) rows ≡ None
unmapped space page [] none = refl
unmapped space page (row ∷ rows) none =
    unmapped_by (is_row_of space row) (maps_page page row) (list_any (maps_page page) (filter (is_row_of space) rows)) row (find (covers space page) rows)
    (sym (any_own (is_row_of space row) (maps_page page) row (filter (is_row_of space) rows)) ∙ none) (λ others. unmapped space page rows others)
