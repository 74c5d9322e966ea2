-- A draft stays one with each line that is added.
use Rattle.std.proofs.Common.{◌≡◌, ◌||◌, Bool, true, false, List, [], ◌∷◌}
use Rattle.std.proofs.Common.{◌++◌, length, fold, refl, sym, ap, ◌∙◌, arith, subst}
use Rattle.std.specs.Prelude.{Option, slice_get}
use Rattle.std.proofs.lemmas.Bool.{false≢true}
use Rattle.std.proofs.lemmas.Option.{slice_get_past}
use Rattle.std.proofs.lemmas.List.Sums.{fold-append}
use Rattle.gh_base.specs.declared.limits.TheConstants.{MACHINE_PAGES}
use Rattle.gh_model.specs.declared.boot_line.BootLine.{BootLine}
use Rattle.gh_model.specs.declared.boot_line.BootLine.TheVariants.{Pages, Partition, Cspace}
use Rattle.gh_model.specs.declared.boot_line.BootLine.TheVariants.{Addrspace, Doorbell}
use Rattle.gh_model.specs.declared.boot_line.BootLine.TheVariants.{RootExtent, Extent, Msgqueue}
use Rattle.gh_model.specs.declared.boot_line.BootLine.TheVariants.{Map, Cap, Vm, Rm, Link}
use Rattle.gh_model.specs.declared.rows.MappingRow.{MappingRow}
use Rattle.gh_model.specs.declared.state.State.{State}
use Rattle.gh_model.specs.Boot.{empty_state, after_line, boot_state}
use Rattle.gh_model.specs.Boot.{line_fits, lines_fit, boot_fits}
use Rattle.gh_model.specs.Fitting.{IsFitting}
use Rattle.gh_model.proofs.FittingLemmas.{line_fitting, pages_fitting}
use Rattle.gh_model.proofs.Tests.{and-first, and-second, at_most}
use Rattle.gh_model.proofs.RunLists.{slice_get_seam}
use Rattle.gh_bootfile.specs.declared.draft.Draft.{Draft}
use Rattle.gh_bootfile.specs.Draft.{first_fits, next_fits, is_whole, all_fit, may_make}
use Rattle.gh_bootfile.specs.Draft.{any_kind_fits, with_made, HasMappings, IsDraft}

-- lines that fit, and one more that fits behind them
lines_fit-more : (s : State) (lines : List BootLine) (line : BootLine) → lines_fit s lines ≡ true → line_fits (fold after_line s lines) line ≡ true → lines_fit s (lines ++ line ∷ []) ≡ true
lines_fit-more s [] line fit fits = rw fits refl
lines_fit-more s (first ∷ lines) line fit fits =
    rw (and-first (line_fits s first) (lines_fit (after_line s first) lines) fit) (lines_fit-more (after_line s first) lines line (and-second _ _ fit) fits)

pub all_fit-more : (lines : List BootLine) (line : BootLine) → all_fit lines ≡ true → next_fits lines line ≡ true → all_fit (lines ++ line ∷ []) ≡ true
all_fit-more [] line fit fits = rw fits refl
all_fit-more (first ∷ lines) line fit fits =
    rw (and-first (first_fits first) (lines_fit (after_line empty_state first) lines) fit) (lines_fit-more (after_line empty_state first) lines line (and-second _ _ fit) fits)

-- lines that fit and are complete are a boot file
pub boot_whole : (lines : List BootLine) → all_fit lines ≡ true → is_whole lines ≡ true → boot_fits lines ≡ true
boot_whole [] fit whole = absurd (false≢true whole)
boot_whole (Pages count ∷ lines) fit whole = rw (fit, whole) refl
boot_whole (_ ∷ lines) fit whole = absurd (false≢true fit)

-- what a line that fits makes stays bounded
next_fitting : (lines : List BootLine) (line : BootLine) → next_fits lines line ≡ true → IsFitting (boot_state lines) → IsFitting (after_line (boot_state lines) line)
next_fitting [] (Pages count) fits fitting = pages_fitting count (at_most count MACHINE_PAGES (and-second _ _ fits))
next_fitting [] _ fits fitting = absurd (false≢true fits)
next_fitting (first ∷ lines) line fits fitting = line_fitting (boot_state (first ∷ lines)) line fits fitting

-- a line that fits can be made
next_made : (lines : List BootLine) (line : BootLine) → next_fits lines line ≡ true → may_make (boot_state lines) line ≡ true
next_made [] (Pages count) fits = refl
next_made [] _ fits = absurd (false≢true fits)
next_made (first ∷ lines) (Pages count) fits = refl
next_made (first ∷ lines) _ fits = fits

-- a test of which only the true case and the false case say what it is
by_cases : (test : Bool → Bool) → test true ≡ true → test false ≡ false → (b : Bool) → test b ≡ b
by_cases test holds fails true = holds
by_cases test holds fails false = fails

-- a line is of one kind, whose test decides
pub one_kind : (s : State) (line : BootLine) → any_kind_fits s line ≡ line_fits s line
one_kind s (Pages count) = refl
one_kind s (Partition quota) = by_cases (λ b. b || false || false || false || false) refl refl (line_fits s (Partition quota))
one_kind s (Cspace partition) = by_cases (λ b. b || false || false || false || false) refl refl (line_fits s (Cspace partition))
one_kind s (Addrspace partition) = by_cases (λ b. b || false || false || false || false) refl refl (line_fits s (Addrspace partition))
one_kind s (Doorbell partition) = by_cases (λ b. b || false || false || false || false) refl refl (line_fits s (Doorbell partition))
one_kind s (RootExtent partition) = by_cases (λ b. b || false || false || false || false) refl refl (line_fits s (RootExtent partition))
one_kind s (Msgqueue partition depth size) = by_cases (λ b. b || false || false || false || false) refl refl (line_fits s (Msgqueue partition depth size))
one_kind s (Extent partition parent offset count access held_offset held_count) =
    by_cases (λ b. b || false || false || false) refl refl (line_fits s (Extent partition parent offset count access held_offset held_count))
one_kind s (Map space extent base offset count access) = by_cases (λ b. b || false || false) refl refl (line_fits s (Map space extent base offset count access))
one_kind s (Cap cspace slot object rights master) = by_cases (λ b. b || false) refl refl (line_fits s (Cap cspace slot object rights master))
one_kind s (Vm cspace space) = refl
one_kind s (Rm cspace space partition) = refl
one_kind s (Link vm extent request reply) = refl

-- a line makes one mapping, or none
made_mappings : (s : State) (line : BootLine) → with_made s.mappings (slice_get (after_line s line).mappings (length s.mappings)) ≡ (after_line s line).mappings
made_mappings s (Map space extent base offset count access) = rw (slice_get_seam s.mappings _ []) refl
made_mappings s _ = rw (slice_get_past s.mappings (length s.mappings) (omega arith)) refl

-- a draft's state and lines, one line on
module _ (draft next : Draft) (line : BootLine) (is : IsDraft draft) (fits : next_fits draft.lines line ≡ true) where
  pub made_first : may_make draft.state line ≡ true
  made_first = rw is.state_is (next_made draft.lines line fits)

  pub draft_more : (made : Option MappingRow) → next.lines ≡ draft.lines ++ line ∷ [] → next.state ≡ after_line draft.state line
      → made ≡ slice_get next.state.mappings (length draft.state.mappings) → HasMappings next.mappings (with_made draft.state.mappings made) → IsDraft next
  draft_more made lines state made_is mapped =
      let before : boot_state (draft.lines ++ line ∷ []) ≡ after_line draft.state line = fold-append after_line empty_state draft.lines (line ∷ []) ∙ ap (λ (s : State). after_line s line) (sym is.state_is) in
      let fitting : IsFitting (after_line draft.state line) = rw is.state_is (next_fitting draft.lines line fits (subst (λ (s : State). IsFitting s) is.state_is is.fitting)) in
      let rows : with_made draft.state.mappings made ≡ (after_line draft.state line).mappings = rw (made_is, state) (made_mappings draft.state line) in
      record {
        fit = rw lines (all_fit-more draft.lines line is.fit fits);
        state_is = state ∙ sym before ∙ ap boot_state (sym lines);
        fitting = rw state fitting;
        mapped = rw state (subst (λ (ms : List MappingRow). HasMappings next.mappings ms) rows mapped);
      }
