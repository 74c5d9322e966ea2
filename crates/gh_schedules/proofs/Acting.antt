-- The act's entry: where the act is done in the present state it is committed, and where it is
-- refused the call ends without one.
use Rattle.std.proofs.Common.{◌≡◌, ◌==◌, ◌+◌, ◌-◌, ◌<◌, ◌∙◌, ◌⊎◌, inl, inr, ℕ, Bool, true, false, List, [], ◌∷◌, ◌++◌, refl, subst, sym, ap, arith, length, length-append, map, Option, Some, None, find, is_some, if◌then◌else◌}
use Rattle.std.specs.Prelude.{◌&&◌, ◌||◌}
use Rattle.std.specs.List.{list_any}
use Rattle.std.proofs.lemmas.Bool.{and_from}
use Rattle.std.proofs.lemmas.List.{take-append-le}
use Rattle.std.proofs.lemmas.List.Folds.{list_any-append}
use Rattle.std.proofs.lemmas.List.Sums.{fold-append}
use Rattle.gh_base.specs.declared.cap_word.CapWord.{CapWord}
use Rattle.gh_base.specs.declared.frame.Reply.{Reply}
use Rattle.gh_model.specs.Act.{Verdict, Done, Refused}
use Rattle.gh_model.specs.History as history
use Rattle.gh_model.specs.Marks.{word_of}
use Rattle.gh_model.specs.Registers.{needs_of}
use Rattle.gh_model.specs.Rows.{cpu_row, is_object}
use Rattle.gh_model.specs.declared.entry.Entry.{Entry}
use Rattle.gh_model.specs.declared.entry.Entry.TheVariants.{Acted}
use Rattle.gh_model.specs.declared.rows.CpuRow.{CpuRow}
use Rattle.gh_model.specs.declared.state.State.{State}
use Rattle.gh_model.proofs.Looks.{grants_are}
use Rattle.gh_model.proofs.RunLists.{take_all}
use Rattle.gh_invariant.specs.Grants.{is_running}
use Rattle.gh_invariant.specs.Lives.{lives}
use Rattle.gh_schedules.specs.Committing.{committing, cpu_no}
use Rattle.gh_events.specs.Config.{Config, Current, Holder, entries, has_acted, is_acted, judged, present}
use Rattle.gh_events.specs.Entries.{Allows, logged}
use Rattle.gh_events.specs.HolderEvents.{is_done}
use Rattle.gh_schedules.specs.Indices.{InBlocks}
use Rattle.gh_schedules.specs.Items.{acting, acts}
use Rattle.gh_events.specs.Sound.{IsSound}
use Rattle.gh_events.specs.TurnEvents.{acted_ending, ending}
use Rattle.gh_events.specs.ValidState as fits
use Rattle.gh_events.specs.ValidState.{CpuFits, IsExiting, MayRun}
use Rattle.gh_schedules.proofs.BlocksStay.{plain_blocks, entered_blocks, places_next}
use Rattle.gh_schedules.proofs.Commits.{IsActive, IsCommitted, entered_by, plain_commits}
use Rattle.gh_events.proofs.EntryKeeps.{some_of}
use Rattle.gh_schedules.proofs.EntryReferences.{MakesNone, MakesOne, Objects, event_objects}
use Rattle.gh_events.proofs.EventObjects.{Goes, event_goes}
use Rattle.gh_schedules.proofs.KilledNone.{NoneKilled, killed_in, life_killed, none_some}
use Rattle.gh_schedules.proofs.TraceLaws.{Leads, leads_none, leads_so}
use Rattle.gh_schedules.proofs.TurnItems.{HasActed}
use Rattle.gh_events.proofs.ValidEntries.{event_fits}

-- the act is judged next, behind its sweep or its parts
pub record IsJudged (conf : Config) (at : ℕ) (call : Current) : Type 0 where
  pub holder : Holder
  pub active : IsActive conf at holder call
  pub not_acted : has_acted holder ≡ false
  pub none_killed : NoneKilled (present conf) conf.index conf.dead

module _ (conf : Config) (at : ℕ) (call : Current) (judges : IsJudged conf at call) where
  abbrev holder : Holder
  holder = judges.holder

  abbrev entry : Entry
  entry = Acted (cpu_no at) call.given.number

  -- the CPU is there, and the call has its grants

  not_acts : fits.acts conf.turn at ≡ false
  not_acts =
      ap (λ (turn : Option Holder). fits.acts turn at) judges.active.has_turn.turn ∙ none (holder.cpu == at) (has_acted holder) judges.not_acted
    where
      none : (a b : Bool) → b ≡ false → (a && b) ≡ false
      none true b is = is
      none false b is = refl

  cpu_fits : CpuFits conf.boot (present conf) (fits.acts conf.turn at) at (conf.cpu at)
  cpu_fits = judges.active.sound.valid.cpus at

  running_by : (is_running (cpu_row (present conf) at) ≡ true) ⊎ IsExiting (fits.acts conf.turn at) (conf.cpu at)
      → is_running (cpu_row (present conf) at) ≡ true
  running_by (inl running) = running
  running_by (inr exiting) =
      let now : fits.acts conf.turn at ≡ true = exiting.acted_now in
      let never_now : fits.acts conf.turn at ≡ false = not_acts in
      absurd (let never : ⊥ = cc in never)

  or_some : (a b : Bool) → b ≡ true → (a || b) ≡ true
  or_some true b is = refl
  or_some false b is = is

  there_by : (found : Option CpuRow) → is_running found ≡ true → is_some found ≡ true
  there_by None running = absurd (let never : ⊥ = cc in never)
  there_by (Some row) running = refl

  is_there : is_some (cpu_row (present conf) at) ≡ true
  is_there =
      there_by (cpu_row (present conf) at)
      (running_by (cpu_fits.runs (cpu_fits.called (or_some (is_some (conf.cpu at).next) (is_some (conf.cpu at).current) (ap is_some judges.active.in_act.is_current)))))

  may_act : history.may_act (present conf) at call.given.call (map word_of call.seen) ≡ true
  may_act =
      and_from _ _ is_there
      (grants_are (needs_of call.given.call) (map word_of call.seen) ((cpu_fits.current call judges.active.in_act.is_current).granted judges.active.in_act.at_stage))

  -- the act is allowed where it is done

  pub record IsDone : Type 0 where
    pub new : State
    pub reply : Reply
    pub is : judged (present conf) at call ≡ Done new reply

  done_by : (verdict : Verdict) → judged (present conf) at call ≡ verdict → is_done verdict ≡ true → IsDone
  done_by (Done new reply) is done = record { new = new; reply = reply; is = is }
  done_by (Refused reply) is done = absurd (let never : ⊥ = cc in never)

  pub acted_allows : IsDone → Allows conf at entry holder call
  acted_allows done = record {
    has_turn = judges.active.has_turn;
    in_act = judges.active.in_act;
    not_acted = judges.not_acted;
    allowed = record {
      its_cpu = sym judges.active.has_turn.its_cpu;
      its_number = refl;
      may_act = may_act;
      new = done.new;
      reply = done.reply;
      is_done = done.is;
      none_killed = none_some (present conf) conf.index conf.dead judges.active.sound.valid.valid judges.none_killed;
    };
  }

  -- the state before the last entry

  front : (event : history.Event) → history.state_at conf.boot (conf.history ++ event ∷ []) (length (conf.history ++ event ∷ []) - 1) ≡ present conf
  front event =
      let last : length (conf.history ++ event ∷ []) - 1 ≡ length conf.history = before (length-append conf.history (event ∷ [])) in
      ap (history.state_at conf.boot (conf.history ++ event ∷ [])) last
      ∙ ap (history.replay conf.boot) (take-append-le (length conf.history) conf.history (event ∷ []) (omega arith) ∙ take_all conf.history)
    where
      before : length (conf.history ++ event ∷ []) ≡ length conf.history + length (event ∷ []) → length (conf.history ++ event ∷ []) - 1 ≡ length conf.history
      before all = omega (arith, all)

  -- the act's entry ends it
  has_one : (entries : List Entry) → list_any is_acted (entries ++ entry ∷ []) ≡ true
  has_one entries = list_any-append is_acted entries (entry ∷ []) ∙ either (list_any is_acted entries)
    where
      either : (a : Bool) → (a || (true || false)) ≡ true
      either true = refl
      either false = refl

  -- a configuration behind it, with any indices, words and amounts
  abbrev pub Behind : (ℕ → ℕ) → (ℕ → ℕ → CapWord) → (ℕ → ℕ) → (ℕ → Bool) → List ℕ → (ℕ → ℕ) → Config
  Behind later cap count dead revived owed = record conf {
    history = conf.history ++ logged entry call ∷ [];
    index = later;
    cap = cap;
    count = count;
    dead = dead;
    turn = Some (entered_by holder entry revived owed);
  }

  pub ending_there : (later : ℕ → ℕ) (cap : ℕ → ℕ → CapWord) (count : ℕ → ℕ) (dead : ℕ → Bool) (revived : List ℕ) (owed : ℕ → ℕ)
      → IsDone → is_some (ending (Behind later cap count dead revived owed) at (entered_by holder entry revived owed) call) ≡ true
  ending_there later cap count dead revived owed done =
      let acted_now : has_acted (entered_by holder entry revived owed) ≡ true = has_one holder.entries in
      let number : ℕ = length (conf.history ++ logged entry call ∷ []) in
      rw acted_now
      (ap (λ (s : State). is_some (acted_ending (length (conf.history ++ logged entry call ∷ [])) (judged s at call))) (front (logged entry call))
      ∙ ap (λ (verdict : Verdict). is_some (acted_ending (length (conf.history ++ logged entry call ∷ [])) verdict)) done.is)

  grown : history.replay conf.boot (conf.history ++ logged entry call ∷ []) ≡ history.after_event (present conf) (logged entry call)
  grown = fold-append history.after_event conf.boot conf.history (logged entry call ∷ [])

  pub has_acted_there : (later : ℕ → ℕ) (dead : ℕ → Bool) (revived : List ℕ) (new : Config) → IsDone
      → NoneKilled (history.after_event (present conf) (logged entry call)) later dead
      → InBlocks (history.after_event (present conf) (logged entry call)) (places_next conf (logged entry call)) later
      → IsCommitted conf holder entry call later dead revived new → HasActed new at
  has_acted_there later dead revived new done none blocks committed =
      subst (λ (there : Config). HasActed there at) (sym committed.is) record {
        sound = subst IsSound committed.is committed.sound;
        is_cpu = judges.active.is_cpu;
        holder = entered_by holder entry revived committed.owed;
        call = call;
        has_turn = record { turn = refl; its_cpu = judges.active.has_turn.its_cpu };
        in_act = judges.active.in_act;
        owes_nothing = committed.owes;
        none_killed = subst (λ (s : State). NoneKilled s later dead) (sym grown) none;
        has_ended = ending_there later committed.cap committed.count dead revived committed.owed done;
        blocks = entered_blocks conf (logged entry call) later blocks;
      }

  -- an act that makes no object

  module _ (makes : MakesNone (present conf) (logged entry call)) where
    none_plain : NoneKilled (history.after_event (present conf) (logged entry call)) conf.index conf.dead
    none_plain serial = by_goes (event_goes (present conf) (logged entry call) serial)
      where
        by_goes : Goes (present conf) (history.after_event (present conf) (logged entry call)) (logged entry call) entry serial
            → killed_in (history.after_event (present conf) (logged entry call)) conf.index conf.dead serial ≡ false
        by_goes (inl same) =
            life_killed (present conf) (history.after_event (present conf) (logged entry call)) conf.index conf.index conf.dead serial refl same ∙ judges.none_killed serial
        by_goes (inr made) =
            let alive : lives (history.after_event (present conf) (logged entry call)).objects serial ≡ true = some_of (find (is_object serial) (history.after_event (present conf) (logged entry call)).objects) None made.born in
            let below : serial < (present conf).next_serial = judges.active.sound.state.given serial (makes.lived serial alive) in
            absurd (omega (arith, below, made.next))

    plain_acts : IsDone → Leads conf (committing at entry conf) (λ new. HasActed new at)
    plain_acts done =
        leads_so conf (committing at entry conf) (IsCommitted conf holder entry call conf.index conf.dead holder.revived) (λ new. HasActed new at)
        (plain_commits conf at entry holder call judges.active (acted_allows done) makes)
        (λ new committed. has_acted_there conf.index conf.dead holder.revived new done none_plain (plain_blocks conf (logged entry call) conf.index makes judges.active.blocks) committed)

  -- what an act that is refused ends with
  refused_acts : is_some (ending conf at holder call) ≡ true → HasActed conf at
  refused_acts ends = record {
    sound = judges.active.sound;
    is_cpu = judges.active.is_cpu;
    holder = holder;
    call = call;
    has_turn = judges.active.has_turn;
    in_act = judges.active.in_act;
    owes_nothing = judges.active.owes_nothing;
    none_killed = judges.none_killed;
    has_ended = ends;
    blocks = judges.active.blocks;
  }

  -- the act, where one that makes an object can be committed
  module _ (creates : IsDone → MakesOne (present conf) (logged entry call) → Leads conf (committing at entry conf) (λ new. HasActed new at))
      (refused : is_done (judged (present conf) at call) ≡ false → is_some (ending conf at holder call) ≡ true) where
    commits_by : IsDone → Objects (present conf) (logged entry call) → Leads conf (committing at entry conf) (λ new. HasActed new at)
    commits_by done (inl none) = plain_acts none done
    commits_by done (inr one) = creates done one

    acts_by : (done : Bool) → is_done (judged (present conf) at call) ≡ done
        → Leads conf (if done then committing at entry conf else []) (λ new. HasActed new at)
    acts_by true done =
        let is : IsDone = done_by (judged (present conf) at call) refl done in
        commits_by is (event_objects (present conf) (logged entry call) judges.active.sound.valid.valid (event_fits conf at entry holder call conf.index (acted_allows is) judges.active.sound.valid))
    acts_by false done = leads_none conf (λ new. HasActed new at) (refused_acts (refused done))

    pub acting_leads : Leads conf (acting at conf) (λ new. HasActed new at)
    unfolding acting
    acting_leads =
        subst (λ (current : Option Current). Leads conf (acts at conf current) (λ new. HasActed new at)) (sym judges.active.in_act.is_current)
        (acts_by (is_done (judged (present conf) at call)) refl)
