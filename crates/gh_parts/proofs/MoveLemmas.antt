-- Pages that move part by part.
use Rattle.std.proofs.Common.{◌≡◌, ◌≤◌, ◌+◌, ◌∙◌, ◌++◌, ℕ, Bool, List, [], sym, ap, arith, length, take, drop, replicate}
use Rattle.std.proofs.Common.{if◌then◌else◌}
use Rattle.std.proofs.Math.Seq.{drop-append-add}
use Rattle.std.proofs.lemmas.Bool.{le-leb}
use Rattle.std.proofs.lemmas.List.{append-nil, append_assoc, drop-drop, length-append, length-replicate, length-take-le, replicate-append-replicate, take-append-drop, take_at}
use Rattle.gh_base.specs.declared.ids.Serial.{Serial}
use Rattle.gh_extent.proofs.RunLemmas.{length-moved}
use Rattle.gh_model.specs.Changes.{move_pages, move_run, moved_run}
use Rattle.gh_model.specs.declared.state.State.{State}

-- a run of the machine's pages moves
pub run_moves : (first count : ℕ) (holder : Serial) (holders : List Serial) → first + count ≤ length holders
    → moved_run first count holder holders ≡ move_pages first count holder holders
run_moves first count holder holders within =
    ap (λ (b : Bool). if b then move_pages first count holder holders else holders) (le-leb (first + count) (length holders) within)

-- no page moves in a run of none
none_move : (first : ℕ) (holder : Serial) (holders : List Serial) → move_pages first 0 holder holders ≡ holders
none_move first holder holders =
    ap (λ (n : ℕ). take first holders ++ [] ++ drop n holders) (omega arith)
    ∙ ap (λ (front : List Serial). front ++ drop first holders) (append-nil (take first holders))
    ∙ take-append-drop first holders

module _ (first done count : ℕ) (holder : Serial) (holders : List Serial) (within : first + done ≤ length holders) where
  abbrev front : List Serial
  front = take first holders ++ replicate done holder

  front_length : length (take first holders ++ replicate done holder) ≡ first + done
  front_length =
      omega (
        arith,
        length-append (take first holders) (replicate done holder),
        length-take-le first holders (omega (arith, within)),
        length-replicate done holder,
      )

  -- the pages behind those that have moved move
  parts_move : move_pages (first + done) count holder (move_pages first done holder holders)
      ≡ move_pages first (done + count) holder holders
  parts_move =
      ap (λ (xs : List Serial). xs ++ replicate count holder ++ drop (first + done + count) (front ++ drop (first + done) holders))
      (take_at front (drop (first + done) holders) (first + done) front_length)
      ∙ ap (λ (xs : List Serial). front ++ replicate count holder ++ xs)
      (ap (λ (n : ℕ). drop (n + count) (front ++ drop (first + done) holders)) (sym front_length)
      ∙ drop-append-add front (drop (first + done) holders) count
      ∙ drop-drop count (first + done) holders)
      ∙ ap (λ (xs : List Serial). xs ++ drop (first + done + count) holders)
      (append_assoc (take first holders) (replicate done holder) (replicate count holder)
      ∙ ap (λ (xs : List Serial). take first holders ++ xs) (replicate-append-replicate done count holder))
      ∙ ap (λ (n : ℕ). take first holders ++ replicate (done + count) holder ++ drop n holders) (omega arith)

-- the state before any page has moved
pub move_none : (first : ℕ) (holder : Serial) (s : State) → first ≤ length s.holders → move_run first 0 holder s ≡ s
move_none first holder s within =
    ap (λ (holders : List Serial). record s { holders = holders })
    (run_moves first 0 holder s.holders (omega (arith, within)) ∙ none_move first holder s.holders)

-- and once so many more have
pub move_more : (first done count : ℕ) (holder : Serial) (s : State) → first + done + count ≤ length s.holders
    → move_run (first + done) count holder (move_run first done holder s) ≡ move_run first (done + count) holder s
move_more first done count holder s within =
    let before : moved_run first done holder s.holders ≡ move_pages first done holder s.holders =
    run_moves first done holder s.holders (omega (arith, within)) in
    ap (λ (holders : List Serial). record s { holders = holders })
    (ap (moved_run (first + done) count holder) before
    ∙ run_moves (first + done) count holder (move_pages first done holder s.holders)
    (omega (arith, within, length-moved first done holder s.holders (omega (arith, within))))
    ∙ parts_move first done count holder s.holders (omega (arith, within))
    ∙ sym (run_moves first (done + count) holder s.holders (omega (arith, within))))
