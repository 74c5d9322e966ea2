-- The turn of plain words is taken, and freed.
use Rattle.std.proofs.Common.{◌≡◌, ◌<◌, ◌∙◌, ℕ, true, List, [], ◌∷◌, length, refl, sym, ap, subst, arith, Option, Some, None, slice_get, slice_set, is_some, if◌then◌else◌}
use Rattle.std.specs.Option.{unwrap_or}
use Rattle.std.proofs.lemmas.List.{length-map}
use Rattle.std.proofs.lemmas.List.Sums.{fold-append}
use Rattle.gh_base.specs.declared.cap_word.Grant.{Grant}
use Rattle.gh_base.specs.declared.frame.Frame.{Frame}
use Rattle.gh_base.specs.declared.ids.CpuNo.{CpuNo}
use Rattle.gh_base.specs.declared.limits.TheConstants.{CPUS}
use Rattle.gh_events.specs.CallEvents.{finished}
use Rattle.gh_events.specs.Config.{AtAct, Config, Cpu, Current, Holder, IsIn, entries, last_place, put}
use Rattle.gh_events.specs.References.{owed_at}
use Rattle.gh_events.specs.Sound.{looks_now, place_now}
use Rattle.gh_events.specs.TurnEvents.{Ending, MayEnd, end_call, ended, ending, new_holder, ready, with_ending}
use Rattle.gh_events.proofs.Finding.{put_here, put_other}
use Rattle.gh_events.proofs.GraceEnds.{end_place}
use Rattle.gh_events.proofs.TakeCalls.{Begins, Comes, Was, comes_by}
use Rattle.gh_model.specs.History.{entry_of}
use Rattle.gh_model.specs.Marks.{place, place_after_call}
use Rattle.gh_words.specs.Kept.{Kept}
use Rattle.gh_words.specs.Shows.{Fits, Shows, ShowsCpu, TurnIs}
use Rattle.gh_words.specs.Turns.{Frees, Takes, at_end, holder_of}
use Rattle.gh_words.specs.declared.plain_words.PlainWords.{PlainWords}
use Rattle.gh_words.specs.declared.plain_words.Turn.{Turn}
use Rattle.gh_words.proofs.Puts.{each_place, set_shows}

-- a configuration whose turn is another, and one CPU of which goes on
abbrev pub turned : Config → Option Holder → ℕ → Cpu → Config
turned conf turn at one = record conf { turn = turn; cpu = put conf.cpu at one }

-- where as much is owed as before, the words show it
module _ (words : PlainWords) (conf : Config) (shown : Shows words conf) (turn : Option Holder) (at : ℕ) (one : Cpu)
    (owes : (n : ℕ) → owed_at turn n ≡ owed_at conf.turn n) where
  pub shows_turned : (places : List ℕ) (log : Kept) (holds : Option Turn) → log.entries ≡ words.log.entries
      → TurnIs holds (turned conf turn at one)
      → ((cpu : ℕ) → cpu < CPUS → slice_get places cpu ≡ Some (place_now (put conf.cpu at one cpu)))
      → Shows (record words { places = places; log = log; turn = holds }) (turned conf turn at one)
  shows_turned places log holds same is are = record {
    caps = shown.caps;
    references = shown.references;
    fits = λ n few.
        let was : Fits conf n = shown.fits n few in
        record {
          bounded = omega (arith, owes n, was.bounded);
          least = omega (arith, owes n, was.least);
          few = omega (arith, owes n, was.few);
          dead = λ mark. omega (arith, owes n, was.dead mark);
        };
    cpus = λ cpu within.
        let there : ShowsCpu words conf cpu = shown.cpus cpu within in
        record {
          home = there.home;
          has_home = there.has_home;
          is_home = record { is = there.is_home.is; made = there.is_home.made; within = there.is_home.within };
          counter = there.counter;
          low = there.low;
          place = are cpu within;
        };
    entries = same ∙ shown.entries;
    turn = is;
  }

-- take

came_at_act : (cpu : Cpu) (call : Current) → Comes cpu call → call.stage ≡ AtAct
came_at_act cpu call (Was in_act) = in_act.at_stage
came_at_act cpu call (Begins given none next no_needs same) = ap (λ (one : Current). one.stage) same

came_looks : (cpu : Cpu) (call : Current) → Comes cpu call → call.seen ≡ looks_now cpu.current
came_looks cpu call (Was in_act) = sym (ap looks_now in_act.is_current)
came_looks cpu call (Begins given none next no_needs same) =
    ap (λ (one : Current). one.seen) same ∙ sym (ap looks_now none)

pub take_made : (words : PlainWords) (log : Kept) (cpu : CpuNo) (number : ℕ) (frame : Frame) (grants : List Grant)
    → cpu.0 < CPUS → log.entries ≡ words.log.entries
    → Takes words (record words { log = log; turn = Some (record { cpu = cpu; number = number; frame = frame; grants = grants }) }) cpu number frame grants
take_made words log cpu number frame grants is_cpu same conf shown may is =
    let old : Cpu = conf.cpu cpu.0 in
    let one : Cpu = record old { next = if is_some old.current then old.next else None; current = ready old } in
    let comes : Comes old is.call = comes_by old is.call old.current old.pins old.next refl refl is.is_ready in
    let place : place_now one ≡ place_now old =
    ap (λ (current : Option Current). last_place old (looks_now current)) is.is_ready ∙ ap (last_place old) (came_looks old is.call comes) in
    shows_turned words conf shown (Some (new_holder cpu.0)) cpu.0 one
    (λ n. sym (ap (λ (turn : Option Holder). owed_at turn n) may.free))
    words.places log (Some (record { cpu = cpu; number = number; frame = frame; grants = grants })) same
    (record {
      holder = new_holder cpu.0;
      call = is.call;
      has_turn = refl;
      its_cpu = refl;
      within = is_cpu;
      in_act = subst (λ (now : Cpu). IsIn now is.call AtAct) (sym (put_here conf.cpu cpu.0 one)) (record { is_current = is.is_ready; at_stage = came_at_act old is.call comes });
      number = is.number;
      frame = is.frame;
      grants = is.grants;
    })
    (λ n within. (shown.cpus n within).place ∙ ap (λ (m : ℕ). Some m) (sym (each_place (λ (n : ℕ). place_now (put conf.cpu cpu.0 one n) ≡ place_now (conf.cpu n)) cpu.0 n
    (ap place_now (put_here conf.cpu cpu.0 one) ∙ place)
    (λ differs. ap place_now (put_other conf.cpu cpu.0 one n differs)))))

-- free

ended_place : (at : ℕ) (cpu : Cpu) (call : Current) (number : ℕ) (end : Option Ending) → is_some end ≡ true
    → ((one : Ending) → end ≡ Some one → place one.end ≡ Some number) → place_now (with_ending at cpu call end) ≡ number
ended_place at cpu call number None is placed = absurd (let never : ⊥ = cc in never)
ended_place at cpu call number (Some end) is placed =
    fold-append place_after_call 0 cpu.made (finished at call end.end end.reply ∷ [])
    ∙ ap (λ (o : Option ℕ). unwrap_or o (last_place cpu call.seen)) (placed end refl)

module _ (conf : Config) (cpu : ℕ) (may : MayEnd conf cpu) where
  end_is : end_call conf cpu conf.turn (conf.cpu cpu).current ≡ with_ending cpu (conf.cpu cpu) may.call (ending conf cpu may.holder may.call)
  end_is =
      ap (λ (turn : Option Holder). end_call conf cpu turn (conf.cpu cpu).current) may.has_turn.turn
      ∙ ap (end_call conf cpu (Some may.holder)) may.in_act.is_current

  free_place : place_now (end_call conf cpu conf.turn (conf.cpu cpu).current) ≡ entries conf
  free_place =
      ap place_now end_is
      ∙ ended_place cpu (conf.cpu cpu) may.call (entries conf) (ending conf cpu may.holder may.call) may.has_ended
      (λ end is. end_place conf cpu may.holder may.call end is)

-- the turn of the words is the holder's
holds_cpu : (turn : Option Turn) (conf : Config) (cpu : ℕ) → TurnIs turn conf → MayEnd conf cpu
    → (holder : CpuNo) → holder_of turn ≡ Some holder → holder.0 ≡ cpu
holds_cpu None conf cpu is may holder has = absurd (let never : ⊥ = cc in never)
holds_cpu (Some turn) conf cpu is may holder has =
    let same : Some is.holder ≡ Some may.holder = sym is.has_turn ∙ may.has_turn.turn in
    let one : is.holder ≡ may.holder = cc in
    let its : turn.cpu ≡ holder = cc in
    ap (λ (c : CpuNo). c.0) (sym its) ∙ sym is.its_cpu ∙ ap (λ (h : Holder). h.cpu) one ∙ may.has_turn.its_cpu

pub holder_within : (turn : Option Turn) (conf : Config) → TurnIs turn conf → (holder : CpuNo) → holder_of turn ≡ Some holder → holder.0 < CPUS
holder_within None conf is holder has = absurd (let never : ⊥ = cc in never)
holder_within (Some turn) conf is holder has =
    let its : turn.cpu ≡ holder = cc in
    subst (λ (c : CpuNo). c.0 < CPUS) its is.within

-- while the turn is free none may be freed
pub no_holder : (turn : Option Turn) (conf : Config) (cpu : ℕ) → TurnIs turn conf → MayEnd conf cpu → holder_of turn ≡ None → ⊥
no_holder None conf cpu is may none = let never : None ≡ Some may.holder = sym is ∙ may.has_turn.turn in cc
no_holder (Some turn) conf cpu is may none = cc

pub free_made : (words : PlainWords) (holder : CpuNo) (last : ℕ) → holder_of words.turn ≡ Some holder → last ≡ length words.log.entries
    → Frees words (record words { places = slice_set words.places holder.0 last; turn = None })
free_made words holder last has is conf cpu shown may =
    let at : holder.0 ≡ cpu.0 = holds_cpu words.turn conf cpu.0 shown.turn may holder has in
    let end : last ≡ entries conf = is ∙ ap (λ (list : List _). length list) shown.entries ∙ length-map conf.history entry_of in
    let one : Cpu = end_call conf cpu.0 conf.turn (conf.cpu cpu.0).current in
    subst (λ (n : ℕ). Shows (record words { places = slice_set words.places n last; turn = None }) (ended conf cpu.0)) (sym at)
    (shows_turned words conf shown None cpu.0 one
    (λ n. sym (ap (λ (turn : Option Holder). owed_at turn n) may.has_turn.turn ∙ may.owes_nothing n))
    (slice_set words.places cpu.0 last) words.log None refl refl
    (λ n within. set_shows words.places cpu.0 n last (place_now (conf.cpu cpu.0)) (place_now (conf.cpu n)) (place_now (put conf.cpu cpu.0 one n))
    (shown.cpus cpu.0 may.is_cpu).place (shown.cpus n within).place
    (λ same. subst (λ (m : ℕ). place_now (put conf.cpu cpu.0 one m) ≡ last) (sym same) (ap place_now (put_here conf.cpu cpu.0 one) ∙ free_place conf cpu.0 may ∙ sym end))
    (λ differs. ap place_now (put_other conf.cpu cpu.0 one n differs))))

pub freed_made : (words ended_words : PlainWords) (found : Option CpuNo) → holder_of words.turn ≡ found → ended_words ≡ at_end words found
    → Frees words (record ended_words { turn = None })
freed_made words ended_words None is put conf cpu shown may = absurd (no_holder words.turn conf cpu.0 shown.turn may is)
freed_made words ended_words (Some holder) is put conf cpu shown may =
    subst (λ (w : PlainWords). Shows (record w { turn = None }) (ended conf cpu.0)) (sym put)
    (free_made words holder (length words.log.entries) is refl conf cpu shown may)
