-- A call whose frame is refused: its mark is behind the others, and its CPU's seat counts it.
use Rattle.std.proofs.Common.{◌≡◌, ◌≢◌, ◌==◌, ◌+◌, ◌<◌, ◌∙◌, ◌||◌, inl, inr, ℕ, Bool, false, List, [], ◌∷◌, ◌++◌, length, refl, sym, ap, subst, arith, Option, Some, Err, slice_get}
use Rattle.std.specs.Prelude.{count_by}
use Rattle.std.specs.List.{list_any}
use Rattle.std.proofs.lemmas.Bool.{ne_eqb}
use Rattle.std.proofs.lemmas.List.{length-set, map_push}
use Rattle.std.proofs.lemmas.List.Folds.{list_any-append}
use Rattle.std.proofs.lemmas.List.Sums.{fold-append}
use Rattle.gh_base.specs.declared.errno.Errno.{Errno}
use Rattle.gh_base.specs.declared.frame.Frame.{Frame}
use Rattle.gh_base.specs.declared.limits.TheConstants.{CPUS}
use Rattle.gh_base.specs.declared.mark.Mark.{Mark}
use Rattle.gh_events.specs.Config.{Config}
use Rattle.gh_events.specs.Start.{MayGive, given, refused_frame, with_next}
use Rattle.gh_core.specs.declared.current.CurrentCall.{CurrentCall}
use Rattle.gh_events.proofs.Finding.{put_here, put_other}
use Rattle.gh_items.specs.Stands.{SeatStands, Stands, frame_mark, seat_refused, with_refused}
use Rattle.gh_items.specs.declared.progress.Progress.{Progress}
use Rattle.gh_items.specs.declared.progress.Seat.{Seat}
use Rattle.gh_items.proofs.EndLemmas.{length_snoc, or_none, other_marks, own_marks}
use Rattle.gh_items.proofs.EnterLemmas.{call_there}
use Rattle.gh_model.specs.Legal.{exits}
use Rattle.gh_model.specs.Marks.{Made, cspace_of, has_looks, mark_of, place_after_call}
use Rattle.gh_model.specs.Program.{is_exit}
use Rattle.gh_model.specs.Registers.{call_of}
use Rattle.gh_model.proofs.RunLists.{count_snoc}
use Rattle.gh_model.proofs.RunLists.{set_cases}

module _ (progress : Progress) (conf : Config) (stands : Stands progress conf) (at : ℕ) (within : at < CPUS) (number : ℕ)
    (may : MayGive conf at number) (seat : Seat) (seated : slice_get progress.seats at ≡ Some seat) where
  was : (call : Option CurrentCall) → slice_get progress.calls at ≡ Some call → SeatStands at (cspace_of conf.boot at) progress.marks seat call (conf.cpu at)
  was call is = stands.seats at seat call seated is

  pub calls_few : seat.calls + 1 < 4294967296
  calls_few =
      let counted = (was _ (call_there progress conf stands at within)).calls in
      omega (arith, counted, may.counts, may.bounded)

  module _ (frame : Frame) (errno : Errno) (refused : call_of frame ≡ Err errno) where
    abbrev made : Made
    made = refused_frame at number frame errno

    abbrev behind : Progress
    behind = with_refused progress at seat number frame errno

    refused_here : (given conf at number frame).cpu at ≡ record (conf.cpu at) { made = (conf.cpu at).made ++ made ∷ [] }
    refused_here = put_here conf.cpu at _ ∙ ap (with_next at number frame (conf.cpu at)) refused

    own_seat : (call : Option CurrentCall) → slice_get progress.calls at ≡ Some call
        → SeatStands at (cspace_of conf.boot at) behind.marks (seat_refused seat frame) call ((given conf at number frame).cpu at)
    own_seat call is =
        let old = was call is in
        subst (SeatStands at (cspace_of conf.boot at) behind.marks (seat_refused seat frame) call) (sym refused_here) (record {
          its_cpu = old.its_cpu;
          space = old.space;
          unasked = old.unasked;
          current = old.current;
          dropped = old.dropped;
          made =
              map_push mark_of (conf.cpu at).made made
              ∙ ap (λ (list : List Mark). list ++ frame_mark at number errno ∷ []) old.made
              ∙ sym (own_marks at progress.marks (frame_mark at number errno) refl);
          calls =
              let more : length ((conf.cpu at).made ++ made ∷ []) ≡ length (conf.cpu at).made + 1 = length_snoc (conf.cpu at).made made in
              omega (arith, more, old.calls);
          sections = old.sections ∙ sym (count_snoc has_looks (conf.cpu at).made made ∙ none (count_by has_looks (conf.cpu at).made));
          place = old.place ∙ sym (fold-append place_after_call 0 (conf.cpu at).made (made ∷ []));
          ended =
              ap (λ (b : Bool). b || is_exit frame) old.ended
              ∙ ap (λ (b : Bool). list_any exits (conf.cpu at).made || b) (or_none (is_exit frame))
              ∙ sym (list_any-append exits (conf.cpu at).made (made ∷ []));
        })
      where
        none : (n : ℕ) → n + 0 ≡ n
        none n = omega arith

    other_seat : (n : ℕ) (other : Seat) (one : Option CurrentCall) → n ≢ at → slice_get progress.seats n ≡ Some other
        → slice_get progress.calls n ≡ Some one → SeatStands n (cspace_of conf.boot n) behind.marks other one ((given conf at number frame).cpu n)
    other_seat n other one differs is is_one =
        let apart : (n == at) ≡ false = ne_eqb n at differs in
        let back : (at == n) ≡ false = ne_eqb at n (λ same. differs (sym same)) in
        let old = stands.seats n other one is is_one in
        subst (SeatStands n (cspace_of conf.boot n) behind.marks other one) (sym (put_other conf.cpu at _ n apart)) (record {
          its_cpu = old.its_cpu;
          space = old.space;
          unasked = old.unasked;
          current = old.current;
          dropped = old.dropped;
          made = old.made ∙ sym (other_marks n progress.marks (frame_mark at number errno) back);
          calls = old.calls;
          sections = old.sections;
          place = old.place;
          ended = old.ended;
        })

    all_seats : (n : ℕ) (other : Seat) (one : Option CurrentCall) → slice_get behind.seats n ≡ Some other → slice_get progress.calls n ≡ Some one
        → SeatStands n (cspace_of conf.boot n) behind.marks other one ((given conf at number frame).cpu n)
    all_seats n other one is is_one =
        elim (set_cases progress.seats at n seat (seat_refused seat frame) other seated is)
        as (λ _. SeatStands n (cspace_of conf.boot n) behind.marks other one ((given conf at number frame).cpu n)) [
          | inl same ↦
              subst (λ (m : ℕ). SeatStands m (cspace_of conf.boot m) behind.marks other one ((given conf at number frame).cpu m)) (sym same.0)
              (subst (λ (s : Seat). SeatStands at (cspace_of conf.boot at) behind.marks s one ((given conf at number frame).cpu at)) same.1
              (own_seat one (sym (ap (slice_get progress.calls) same.0) ∙ is_one)))
          | inr differs ↦ other_seat n other one differs.0 differs.1 is_one
        ]

    pub refuse_stands : Stands behind (given conf at number frame)
    refuse_stands = record {
      state = stands.state;
      entries = stands.entries;
      places = stands.places;
      all_placed = stands.all_placed;
      noted = stands.noted;
      all_noted = stands.all_noted;
      nine_seats = length-set progress.seats at (seat_refused seat frame) ∙ stands.nine_seats;
      nine_calls = stands.nine_calls;
      seats = all_seats;
    }
