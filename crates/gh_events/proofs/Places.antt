-- No place of a legal call is above the history.
use Rattle.std.proofs.Common.{◌≡◌, ◌+◌, ◌≤◌, ◌<◌, ℕ, zero, suc, List, [], ◌∷◌, ◌++◌, length, take, refl, subst, sym, arith, Some, Result, Ok, Err, slice_get, append_assoc}
use Rattle.std.proofs.lemmas.List.{append-nil}
use Rattle.std.proofs.lemmas.List.Sums.{fold-append}
use Rattle.std.proofs.lemmas.Option.{slice_get_within}
use Rattle.gh_base.specs.declared.call.Call.{Call}
use Rattle.gh_base.specs.declared.errno.Errno.{Errno}
use Rattle.gh_base.specs.declared.mark.End.{End}
use Rattle.gh_base.specs.declared.mark.End.TheVariants as ends
use Rattle.gh_model.specs.History.{Event}
use Rattle.gh_model.specs.Legal.{CallIs, EndIs, FrameIs}
use Rattle.gh_model.specs.Marks.{InTurn, Made, Seen, cspace_of, place_after, place_after_call, place_after_looks}
use Rattle.gh_model.specs.Registers.{call_of}
use Rattle.gh_model.specs.declared.state.State.{State}

-- where no look's place is above a number, nor the place before them, that after them isn't
pub looks_within : (n last : ℕ) (looks : List Seen) → last ≤ n
    → ((i : ℕ) (seen : Seen) → slice_get looks i ≡ Some seen → seen.look.place ≤ n)
    → place_after_looks last looks ≤ n
looks_within n last [] within each = within
looks_within n last (seen ∷ looks) within each =
    looks_within n seen.look.place looks (each zero seen refl) (λ i other is. each (suc i) other is)

module _ (boot : State) (history : List Event) where
  end_within : (last : ℕ) (call : Call) (made : Made) (end : End) → made.mark.end ≡ end
      → EndIs boot history last call made end
      → place_after_looks last made.seen ≤ length history
      → place_after_call last made ≤ length history
  end_within last call made ends.Frame is ended looks = absurd ended
  end_within last call made ends.Refused is ended looks = rw is looks
  end_within last call made ends.Dead is ended looks = rw is looks
  end_within last call made (ends.Act at) is ended looks = rw is ended.0.within
  end_within last call made (ends.Short at held) is ended looks = rw is ended.refused.within
  end_within last call made (ends.Entry number) is ended looks =
      let before : ended.before < length history = slice_get_within history ended.before _ ended.event in
      let counts : number ≡ ended.before + 1 = ended.counts in
      rw is (omega arith)

  frame_within : (cspace last : ℕ) (made : Made) (shape : Result Call Errno) → last ≤ length history
      → FrameIs boot history cspace last made shape → place_after_call last made ≤ length history
  frame_within cspace last made (Err errno) within framed = rw (framed.end, framed.no_looks) within
  frame_within cspace last made (Ok call) within framed =
      end_within last call made made.mark.end refl framed.1
      (looks_within (length history) last made.seen within (λ i seen is. (framed.0 i seen is).within))

  -- nor is a call's place
  pub call_within : (cpu : ℕ) (front : List Made) (made : Made)
      → place_after front ≤ length history → CallIs boot history cpu front made
      → place_after (front ++ made ∷ []) ≤ length history
  call_within cpu front made within is =
      subst (λ (n : ℕ). n ≤ length history) (sym (fold-append place_after_call 0 front (made ∷ [])))
      (frame_within (cspace_of boot cpu) (place_after front) made (call_of made.frame) within is.frame)

  calls_within_from : (cpu : ℕ) (front calls : List Made) → place_after front ≤ length history
      → ((i : ℕ) (made : Made) → slice_get calls i ≡ Some made
      → CallIs boot history cpu (front ++ take i calls) made)
      → place_after (front ++ calls) ≤ length history
  calls_within_from cpu front [] within each =
      subst (λ (calls : List Made). place_after calls ≤ length history) (sym (append-nil front)) within
  calls_within_from cpu front (made ∷ calls) within each =
      let first : CallIs boot history cpu front made =
      subst (λ (before : List Made). CallIs boot history cpu before made) (append-nil front) (each zero made refl) in
      let all : place_after ((front ++ made ∷ []) ++ calls) ≤ length history =
      calls_within_from cpu (front ++ made ∷ []) calls (call_within cpu front made within first)
      (λ i other is. subst (λ (before : List Made). CallIs boot history cpu before other)
      (sym (append_assoc front (made ∷ []) (take i calls))) (each (suc i) other is)) in
      subst (λ (whole : List Made). place_after whole ≤ length history) (append_assoc front (made ∷ []) calls) all

  -- nor is the last place of a CPU
  pub calls_within : (cpu : ℕ) (calls : List Made) → InTurn (CallIs boot history cpu) calls
      → place_after calls ≤ length history
  calls_within cpu calls are = calls_within_from cpu [] calls (omega arith) are
