-- A call that a CPU is given leaves the configuration shown.
use Rattle.std.proofs.Common.{◌≡◌, ◌∙◌, ℕ, [], ◌∷◌, refl, sym, ap, Option, Some, None, Result, Ok, Err}
use Rattle.std.proofs.lemmas.List.Sums.{fold-append}
use Rattle.gh_base.specs.declared.call.Call.{Call}
use Rattle.gh_base.specs.declared.errno.Errno.{Errno}
use Rattle.gh_base.specs.declared.frame.Frame.{Frame}
use Rattle.gh_events.specs.Config.{Config, Cpu, Current, last_place, put}
use Rattle.gh_events.specs.Sound.{looks_now, place_now}
use Rattle.gh_events.specs.Start.{MayGive, given, refused_frame, with_next}
use Rattle.gh_model.specs.Marks.{place_after_call}
use Rattle.gh_model.specs.Registers.{call_of}
use Rattle.gh_words.specs.Shows.{Shows, ShowsCpu}
use Rattle.gh_words.specs.declared.plain_words.PlainWords.{PlainWords}
use Rattle.gh_words.proofs.CallShown.{shows_gone}
use Rattle.gh_words.proofs.Puts.{each_place}
use Rattle.gh_events.proofs.Finding.{put_here, put_other}

-- a call whose frame is refused has no place
next_place : (at number : ℕ) (frame : Frame) (cpu : Cpu) (shape : Result Call Errno) → cpu.current ≡ None
    → place_now (with_next at number frame cpu shape) ≡ place_now cpu
next_place at number frame cpu (Ok call) none = refl
next_place at number frame cpu (Err errno) none =
    ap (λ (current : Option Current). last_place (with_next at number frame cpu (Err errno)) (looks_now current)) none
    ∙ fold-append place_after_call 0 cpu.made (refused_frame at number frame errno ∷ [])
    ∙ sym (ap (λ (current : Option Current). last_place cpu (looks_now current)) none)

pub given_shown : (words : PlainWords) (conf : Config) (at number : ℕ) (frame : Frame) → Shows words conf → MayGive conf at number
    → Shows words (given conf at number frame)
given_shown words conf at number frame shown may =
    let one : Cpu = with_next at number frame (conf.cpu at) (call_of frame) in
    shows_gone words conf shown at
    (λ call in_act. let never : None ≡ Some call = sym may.between.none ∙ in_act.is_current in absurd (let no : ⊥ = cc in no))
    one conf.counter conf.count words.references words.counters words.places shown.references
    (λ n few. let was = shown.fits n few in record { bounded = was.bounded; least = was.least; few = was.few; dead = was.dead })
    (λ n within.
    let there : ShowsCpu words conf n = shown.cpus n within in
    record {
      counter = there.counter;
      low = there.low;
      place = there.place ∙ ap (λ (m : ℕ). Some m) (sym (each_place (λ (n : ℕ). place_now (put conf.cpu at one n) ≡ place_now (conf.cpu n)) at n
          (ap place_now (put_here conf.cpu at one) ∙ next_place at number frame (conf.cpu at) (call_of frame) may.between.none)
          (λ differs. ap place_now (put_other conf.cpu at one n differs))));
    })
