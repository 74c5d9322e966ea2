-- A call that comes to its end: its mark is behind the others, and its CPU's seat counts it.
use Rattle.std.proofs.Common.{◌≡◌, ◌≢◌, ◌==◌, ◌+◌, ◌<◌, ◌∙◌, ◌||◌, inl, inr, ℕ, Bool, true, false, List, [], ◌∷◌, ◌++◌, length, refl, sym, ap, subst, arith, Option, Some, None, slice_get, slice_set, if◌then◌else◌}
use Rattle.std.specs.Prelude.{count_by, filter, nat_lt}
use Rattle.std.specs.List.{list_any}
use Rattle.std.proofs.lemmas.Bool.{ne_eqb}
use Rattle.std.proofs.lemmas.List.{append-nil, length-map, length-set, map_push}
use Rattle.std.proofs.lemmas.List.Elements.{filter-append}
use Rattle.std.proofs.lemmas.List.Folds.{list_any-append}
use Rattle.std.proofs.lemmas.List.Sums.{fold-append}
use Rattle.gh_base.specs.declared.frame.Reply.{Reply}
use Rattle.gh_base.specs.declared.limits.TheConstants.{CPUS}
use Rattle.gh_base.specs.declared.mark.End.{End}
use Rattle.gh_base.specs.declared.mark.Mark.{Mark}
use Rattle.gh_events.specs.CallEvents.{finished, with_end as ended_cpu}
use Rattle.gh_events.specs.Config.{Config, Cpu, Holder}
use Rattle.gh_core.specs.Running.{current_of, seen_of}
use Rattle.gh_core.specs.declared.current.CurrentCall.{CurrentCall}
use Rattle.gh_events.proofs.Finding.{same_number}
use Rattle.gh_items.specs.Stands.{SeatStands, Stands, mark_at, seat_behind, sections_of, with_call, with_end}
use Rattle.gh_items.specs.declared.progress.Progress.{Progress}
use Rattle.gh_items.specs.declared.progress.Seat.{Seat}
use Rattle.gh_items.proofs.SeatLemmas.{calls_there, moved, seat_stands, set_here, set_other}
use Rattle.gh_model.specs.Legal.{exits}
use Rattle.gh_model.specs.Marks.{Made, cspace_of, has_looks, mark_of, place_after, place_after_call}
use Rattle.gh_model.specs.Program.{is_exit}
use Rattle.gh_model.specs.Run.{is_mark_of}
use Rattle.gh_model.proofs.RunLists.{count_snoc}
use Rattle.gh_model.proofs.RunLists.{set_cases}

-- the marks of a CPU with one more of it, and of another

pub own_marks : (at : ℕ) (marks : List Mark) (mark : Mark) → mark.cpu.0 ≡ at → filter (is_mark_of at) (marks ++ mark ∷ []) ≡ filter (is_mark_of at) marks ++ mark ∷ []
own_marks at marks mark its =
    filter-append (is_mark_of at) marks (mark ∷ []) ∙ ap (λ (list : List Mark). filter (is_mark_of at) marks ++ list) (one (ap (λ (n : ℕ). n == at) its ∙ same_number at))
  where
    one : is_mark_of at mark ≡ true → filter (is_mark_of at) (mark ∷ []) ≡ mark ∷ []
    one is = rw is refl

pub other_marks : (at : ℕ) (marks : List Mark) (mark : Mark) → (mark.cpu.0 == at) ≡ false → filter (is_mark_of at) (marks ++ mark ∷ []) ≡ filter (is_mark_of at) marks
other_marks at marks mark differs =
    filter-append (is_mark_of at) marks (mark ∷ []) ∙ ap (λ (list : List Mark). filter (is_mark_of at) marks ++ list) (none differs) ∙ append-nil (filter (is_mark_of at) marks)
  where
    none : is_mark_of at mark ≡ false → filter (is_mark_of at) (mark ∷ []) ≡ []
    none is = rw is refl

-- one call more, and no more tests

pub length_snoc : (list : List Made) (one : Made) → length (list ++ one ∷ []) ≡ length list + 1
length_snoc [] one = refl
length_snoc (first ∷ list) one = omega (arith, length_snoc list one)

pub or_none : (b : Bool) → b ≡ (b || false)
or_none true = refl
or_none false = refl

module _ (progress : Progress) (conf : Config) (at : ℕ) (call : CurrentCall) (stands : Stands (with_call progress at (Some call)) conf)
    (within : at < CPUS) (seat : Seat) (seated : slice_get progress.seats at ≡ Some seat) (end : End) (reply : Reply)
    (counter count : ℕ → ℕ) (cpus : ℕ → Cpu) (turn : Option Holder) (others : (n : ℕ) → (n == at) ≡ false → cpus n ≡ conf.cpu n)
    (here : cpus at ≡ record (ended_cpu (conf.cpu at) (finished at (current_of call) end reply)) { pins = [] }) where
  abbrev made : Made
  made = finished at (current_of call) end reply

  abbrev behind : Progress
  behind = with_end progress at seat call end reply

  was : SeatStands at (cspace_of conf.boot at) progress.marks seat (Some call) (conf.cpu at)
  was = seat_stands progress conf at call stands within seat seated

  counts : seat.sections + sections_of call ≡ count_by has_looks ((conf.cpu at).made ++ made ∷ [])
  counts =
      let looked : sections_of call ≡ (if has_looks made then 1 else 0) =
      ap (λ (n : ℕ). if nat_lt 0 n then 1 else 0) (sym (length-map call.seen seen_of)) in
      let all : count_by has_looks ((conf.cpu at).made ++ made ∷ []) ≡ count_by has_looks (conf.cpu at).made + (if has_looks made then 1 else 0) =
      count_snoc has_looks (conf.cpu at).made made in
      omega (arith, looked, all, was.sections)

  its_place : (seat_behind seat call end).place ≡ place_after ((conf.cpu at).made ++ made ∷ [])
  its_place =
      ap (λ (n : ℕ). place_after_call n made) was.place
      ∙ sym (fold-append place_after_call 0 (conf.cpu at).made (made ∷ []))

  its_end : (seat_behind seat call end).ended ≡ list_any exits ((conf.cpu at).made ++ made ∷ [])
  its_end =
      ap (λ (b : Bool). b || is_exit call.given.frame) was.ended
      ∙ ap (λ (b : Bool). list_any exits (conf.cpu at).made || b) (or_none (is_exit call.given.frame))
      ∙ sym (list_any-append exits (conf.cpu at).made (made ∷ []))

  own_seat : SeatStands at (cspace_of conf.boot at) behind.marks (seat_behind seat call end) None (cpus at)
  own_seat =
      subst (SeatStands at (cspace_of conf.boot at) behind.marks (seat_behind seat call end) None) (sym here) (record {
        its_cpu = was.its_cpu;
        space = was.space;
        unasked = was.unasked;
        current = refl;
        dropped = λ none. refl;
        made =
            map_push mark_of (conf.cpu at).made made
            ∙ ap (λ (list : List Mark). list ++ mark_at at call end reply ∷ []) was.made
            ∙ sym (own_marks at progress.marks (mark_at at call end reply) refl);
        calls =
            let more : length ((conf.cpu at).made ++ made ∷ []) ≡ length (conf.cpu at).made + 1 = length_snoc (conf.cpu at).made made in
            omega (arith, more, was.calls);
        sections = counts;
        place = its_place;
        ended = its_end;
      })

  seats_there : at < length progress.seats
  seats_there = omega (arith, stands.nine_seats)

  other_seat : (n : ℕ) (other : Seat) (one : Option CurrentCall) → n ≢ at → slice_get progress.seats n ≡ Some other
      → slice_get progress.calls n ≡ Some one → SeatStands n (cspace_of conf.boot n) behind.marks other one (cpus n)
  other_seat n other one differs is is_one =
      let apart : (n == at) ≡ false = ne_eqb n at differs in
      let back : (at == n) ≡ false = ne_eqb at n (λ same. differs (sym same)) in
      let old = stands.seats n other one is (get_other n one differs is_one) in
      subst (SeatStands n (cspace_of conf.boot n) behind.marks other one) (sym (others n apart)) (record {
        its_cpu = old.its_cpu;
        space = old.space;
        unasked = old.unasked;
        current = old.current;
        dropped = old.dropped;
        made = old.made ∙ sym (other_marks n progress.marks (mark_at at call end reply) back);
        calls = old.calls;
        sections = old.sections;
        place = old.place;
        ended = old.ended;
      })
    where
      get_other : (n : ℕ) (one : Option CurrentCall) → n ≢ at → slice_get progress.calls n ≡ Some one
          → slice_get (slice_set progress.calls at (Some call)) n ≡ Some one
      get_other n one differs is = set_other progress.calls at n (Some call) differs ∙ is

  all_seats : (n : ℕ) (other : Seat) (one : Option CurrentCall) → slice_get behind.seats n ≡ Some other → slice_get behind.calls n ≡ Some one
      → SeatStands n (cspace_of conf.boot n) behind.marks other one (cpus n)
  all_seats n other one is is_one =
      elim (set_cases progress.seats at n seat (seat_behind seat call end) other seated is)
      as (λ _. SeatStands n (cspace_of conf.boot n) behind.marks other one (cpus n)) [
        | inl same ↦
            let gone : Option CurrentCall = None in
            let none : Some gone ≡ Some one =
            sym (set_here progress.calls at None (calls_there progress conf at call stands within)) ∙ ap (slice_get behind.calls) (sym same.0) ∙ is_one in
            let its_call : gone ≡ one = cc in
            subst (λ (m : ℕ). SeatStands m (cspace_of conf.boot m) behind.marks other one (cpus m)) (sym same.0)
            (subst (λ (s : Seat). SeatStands at (cspace_of conf.boot at) behind.marks s one (cpus at)) same.1
            (subst (λ (c : Option CurrentCall). SeatStands at (cspace_of conf.boot at) behind.marks (seat_behind seat call end) c (cpus at)) its_call own_seat))
        | inr differs ↦ other_seat n other one differs.0 differs.1 (sym (set_other progress.calls at n None differs.0) ∙ is_one)
      ]

  pub end_stands : Stands behind (record (moved conf counter count cpus) { turn = turn })
  end_stands = record {
    state = stands.state;
    entries = stands.entries;
    places = stands.places;
    all_placed = stands.all_placed;
    noted = stands.noted;
    all_noted = stands.all_noted;
    nine_seats = length-set progress.seats at (seat_behind seat call end) ∙ stands.nine_seats;
    nine_calls = length-set progress.calls at None ∙ sym (length-set progress.calls at (Some call)) ∙ stands.nine_calls;
    seats = all_seats;
  }
