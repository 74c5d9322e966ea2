-- What a program comes to behind its replies, and that its next call is one more of its frames.
use Rattle.std.proofs.Common.{◌≡◌, ◌==◌, ◌+◌, ◌<◌, ◌∙◌, ℕ, Bool, true, false, List, [], ◌∷◌, ◌++◌, length, refl, subst, sym, ap, arith, Option, Some, None, map, eq-eqb, if◌then◌else◌}
use Rattle.std.specs.Prelude.{◌||◌, Result, Ok, Err, option_map}
use Rattle.std.specs.List.{list_any}
use Rattle.std.proofs.lemmas.Bool.Decides.{nat_tests}
use Rattle.std.proofs.lemmas.Bool.{eqb-true, or_parts, or_right}
use Rattle.std.proofs.lemmas.List.{length-append, length-map, map-append}
use Rattle.std.proofs.lemmas.List.Folds.{list_any-append}
use Rattle.gh_base.specs.declared.call.Call.{Call}
use Rattle.gh_base.specs.declared.errno.Errno.{Errno}
use Rattle.gh_base.specs.declared.frame.Frame.{Frame}
use Rattle.gh_base.specs.declared.frame.Reply.{Reply}
use Rattle.gh_model.specs.Legal.{exits}
use Rattle.gh_model.specs.Marks.{Made, frame_of, reply_of}
use Rattle.gh_model.specs.Program.{exit_frame, is_exit, last_number}
use Rattle.gh_model.specs.Programs.{asked, frames_made, frames_on, unless_exit}
use Rattle.gh_model.specs.declared.program.Standing.{Standing}
use Rattle.gh_model.specs.declared.program.Step.{Step}
use Rattle.gh_model.proofs.RunLists.{last_or_snoc}
use Rattle.gh_events.specs.Config.{Cpu, Current, Given, IsBetween}
use Rattle.gh_schedules.specs.Course.{call_of_cpu, either_call, last_reply}
use Rattle.gh_events.specs.Start.{new_cpu, refused_frame, with_next}

-- the calls' frames tell whether there is an exit call
any_exit : (made : List Made) → list_any exits made ≡ list_any is_exit (map frame_of made)
any_exit [] = refl
any_exit (one ∷ made) = ap (λ (b : Bool). exits one || b) (any_exit made)

module _ {P : Type 0} (answer : P → Option Reply → Step) (after : P → Option Reply → P) where
  -- the standing of a program behind these replies
  abbrev standing_on : ℕ → Standing P → List Reply → Standing P
  standing_on number standing [] = standing
  standing_on number standing (reply ∷ replies) =
      standing_on (number + 1) (asked answer after (number + 1) standing.program (Some reply)) replies

  standing_snoc : (number : ℕ) (standing : Standing P) (replies : List Reply) (reply : Reply)
      → standing_on number standing (replies ++ reply ∷ [])
      ≡ asked answer after (number + length replies + 1) (standing_on number standing replies).program (Some reply)
  standing_snoc number standing [] reply =
      ap (λ (n : ℕ). asked answer after n standing.program (Some reply)) (let same : number + 1 ≡ number + 0 + 1 = omega arith in same)
  standing_snoc number standing (first ∷ replies) reply =
      standing_snoc (number + 1) (asked answer after (number + 1) standing.program (Some first)) replies reply
      ∙ ap (λ (n : ℕ). asked answer after n (standing_on number standing (first ∷ replies)).program (Some reply))
      (let same : number + 1 + length replies + 1 ≡ number + length (first ∷ replies) + 1 = omega arith in same)

  one_frame : (frame : Frame) → frame ∷ unless_exit frame [] ≡ frame ∷ []
  one_frame frame = ap (λ (others : List Frame). frame ∷ others) (nothing (is_exit frame))
    where
      nothing : (b : Bool) → (let none : List Frame = if b then [] else [] in none) ≡ []
      nothing true = refl
      nothing false = refl

  frames_snoc : (number : ℕ) (standing : Standing P) (replies : List Reply) (reply : Reply)
      → list_any is_exit (frames_on answer after number standing replies) ≡ false
      → frames_on answer after number standing (replies ++ reply ∷ [])
      ≡ frames_on answer after number standing replies ++ (standing_on number standing replies).frame ∷ []
  frames_snoc number standing [] reply none = one_frame standing.frame
  frames_snoc number standing (first ∷ replies) reply none =
      let next : Standing P = asked answer after (number + 1) standing.program (Some first) in
      let both =
      or_parts (is_exit standing.frame) (list_any is_exit (unless_exit standing.frame (frames_on answer after (number + 1) next replies))) none in
      let going : list_any is_exit (frames_on answer after (number + 1) next replies) ≡ false =
      sym (ap (λ (b : Bool). list_any is_exit (if b then [] else frames_on answer after (number + 1) next replies)) both.0)
      ∙ both.1 in
      ap (λ (b : Bool). standing.frame ∷ (if b then [] else frames_on answer after (number + 1) next (replies ++ reply ∷ []))) both.0
      ∙ ap (λ (others : List Frame). standing.frame ∷ others) (frames_snoc (number + 1) next replies reply going)
      ∙ ap (λ (b : Bool). standing.frame ∷ ((if b then [] else frames_on answer after (number + 1) next replies) ++ (standing_on (number + 1) next replies).frame ∷ [])) (sym both.0)

  -- the call of the last number is the exit call
  asked_last : (number : ℕ) (program : P) (reply : Option Reply) → number ≡ last_number
      → (asked answer after number program reply).frame ≡ exit_frame
  asked_last number program reply is = rw (eq-eqb number last_number is) refl

  last_frame : (number : ℕ) (standing : Standing P) (replies : List Reply)
      → (number ≡ last_number → standing.frame ≡ exit_frame)
      → number + length replies ≡ last_number → (standing_on number standing replies).frame ≡ exit_frame
  last_frame number standing [] last is = last (omega (arith, is))
  last_frame number standing (reply ∷ replies) last is =
      last_frame (number + 1) (asked answer after (number + 1) standing.program (Some reply)) replies
      (λ same. asked_last (number + 1) standing.program (Some reply) same) (omega (arith, is))

  -- what a program that begins so comes to behind these calls
  abbrev pub behind : P → List Made → Standing P
  behind first made = standing_on 1 (asked answer after 1 first None) (map reply_of made)

  -- a CPU's calls so far are those of its program, which has this left
  pub record Follows (first : P) (cpu : Cpu) (program : P) : Type 0 where
    pub frames : map frame_of cpu.made ≡ frames_made answer after first (map reply_of cpu.made)
    -- between calls it is to be asked for the next one, and else it was
    pub waits : call_of_cpu cpu ≡ None
        → asked answer after (length cpu.made + 1) program (last_reply cpu.made) ≡ behind first cpu.made
    pub program_is : (given : Given) → call_of_cpu cpu ≡ Some given → program ≡ (behind first cpu.made).program
    pub frame_is : (given : Given) → call_of_cpu cpu ≡ Some given → given.frame ≡ (behind first cpu.made).frame

  -- the same between items: no pins are left of a call that has ended, and the call of the last number
  -- is the exit call
  pub record FollowsSoFar (first : P) (cpu : Cpu) (program : P) : Type 0 where
    pub follows : Follows first cpu program
    pub idle : call_of_cpu cpu ≡ None → IsBetween cpu
    pub counted : list_any exits cpu.made ≡ false → length cpu.made < last_number

  -- one more call, of the frame that the program makes next
  module _ (first : P) (made : List Made) (call : Made) (going : list_any exits made ≡ false)
      (frames : map frame_of made ≡ frames_made answer after first (map reply_of made))
      (frame : call.frame ≡ (behind first made).frame) where
    replies_on : map reply_of (made ++ call ∷ []) ≡ map reply_of made ++ reply_of call ∷ []
    replies_on = map-append reply_of made (call ∷ [])

    pub frames_on_call : map frame_of (made ++ call ∷ []) ≡ frames_made answer after first (map reply_of (made ++ call ∷ []))
    frames_on_call =
        let none : list_any is_exit (frames_made answer after first (map reply_of made)) ≡ false =
        sym (ap (list_any is_exit) frames) ∙ sym (any_exit made) ∙ going in
        map-append frame_of made (call ∷ [])
        ∙ ap (λ (list : List Frame). list ++ call.frame ∷ []) frames
        ∙ ap (λ (one : Frame). frames_made answer after first (map reply_of made) ++ one ∷ []) frame
        ∙ sym (frames_snoc 1 (asked answer after 1 first None) (map reply_of made) (reply_of call) none)
        ∙ ap (frames_made answer after first) (sym replies_on)

    pub waits_on_call : asked answer after (length (made ++ call ∷ []) + 1) (behind first made).program (last_reply (made ++ call ∷ []))
        ≡ behind first (made ++ call ∷ [])
    waits_on_call =
        let longer : length (made ++ call ∷ []) + 1 ≡ 1 + length (map reply_of made) + 1 =
        omega (arith, length-append made (call ∷ []), length-map made reply_of) in
        ap (λ (n : ℕ). asked answer after n (behind first made).program (last_reply (made ++ call ∷ []))) longer
        ∙ ap (λ (last : Option Made). asked answer after (1 + length (map reply_of made) + 1) (behind first made).program (option_map reply_of last)) (last_or_snoc None made call)
        ∙ sym (standing_snoc 1 (asked answer after 1 first None) (map reply_of made) (reply_of call))
        ∙ ap (standing_on 1 (asked answer after 1 first None)) (sym replies_on)

    its_exit : length made + 1 ≡ last_number → exits call ≡ true
    its_exit is =
        let last : (behind first made).frame ≡ exit_frame =
        last_frame 1 (asked answer after 1 first None) (map reply_of made) (λ same. asked_last 1 first None same) (omega (arith, is, length-map made reply_of)) in
        ap is_exit (frame ∙ last)

    pub counted_on_call : length made < last_number → list_any exits (made ++ call ∷ []) ≡ false
        → length (made ++ call ∷ []) < last_number
    counted_on_call below none = by_last (length made + 1 == last_number) refl
      where
        by_last : (last : Bool) → (length made + 1 == last_number) ≡ last → length (made ++ call ∷ []) < last_number
        by_last true is =
            let exit : exits call ≡ true = its_exit (eqb-true (length made + 1) last_number is) in
            let some : list_any exits (made ++ call ∷ []) ≡ true =
            list_any-append exits made (call ∷ [])
            ∙ or_right (list_any exits made) (exits call || false) (ap (λ (b : Bool). b || false) exit) in
            absurd (let never : ⊥ = cc in never)
        by_last false is =
            let apart : (length made + 1 == last_number) ≡ false = is in
            let longer : length (made ++ call ∷ []) ≡ length made + 1 = length-append made (call ∷ []) in
            grind (arith, nat_tests)

  no_call : (cpu : Cpu) (one : Given) → call_of_cpu cpu ≡ None → call_of_cpu cpu ≡ Some one → ⊥
  no_call cpu one none is = let never : ⊥ = cc in never

  -- before its first call a CPU has its program
  pub new_follows : (first : P) → Follows first new_cpu first
  new_follows first = record {
    frames = refl;
    waits = λ is. refl;
    program_is = λ one is. absurd (no_call new_cpu one refl is);
    frame_is = λ one is. absurd (no_call new_cpu one refl is);
  }

  module _ (first : P) (cpu now : Cpu) (program : P) (was : Follows first cpu program) where
    -- the CPU has the same calls
    pub same_follows : now.made ≡ cpu.made → call_of_cpu now ≡ call_of_cpu cpu → Follows first now program
    same_follows made same = record {
      frames = subst (λ (list : List Made). map frame_of list ≡ frames_made answer after first (map reply_of list)) (sym made) was.frames;
      waits = λ is.
          subst (λ (list : List Made). asked answer after (length list + 1) program (last_reply list) ≡ behind first list) (sym made)
          (was.waits (sym same ∙ is));
      program_is = λ one is. was.program_is one (sym same ∙ is)
          ∙ ap (λ (list : List Made). (behind first list).program) (sym made);
      frame_is = λ one is. was.frame_is one (sym same ∙ is) ∙ ap (λ (list : List Made). (behind first list).frame) (sym made);
    }

    -- its call has ended
    pub end_follows : (given : Given) (call : Made) → list_any exits cpu.made ≡ false → call_of_cpu cpu ≡ Some given
        → now.made ≡ cpu.made ++ call ∷ [] → call.frame ≡ given.frame → call_of_cpu now ≡ None → Follows first now program
    end_follows given call going has made frame none =
        let its_frame : call.frame ≡ (behind first cpu.made).frame = frame ∙ was.frame_is given has in
        record {
          frames = subst (λ (list : List Made). map frame_of list ≡ frames_made answer after first (map reply_of list)) (sym made)
              (frames_on_call first cpu.made call going was.frames its_frame);
          waits = λ is.
              ap (λ (p : P). asked answer after (length now.made + 1) p (last_reply now.made)) (was.program_is given has)
              ∙ subst (λ (list : List Made). asked answer after (length list + 1) (behind first cpu.made).program (last_reply list) ≡ behind first list) (sym made)
              (waits_on_call first cpu.made call going was.frames its_frame);
          program_is = λ one is. absurd (no_call now one none is);
          frame_is = λ one is. absurd (no_call now one none is);
        }

    -- of the calls that are finished by then, the last one's number
    pub end_counted : (given : Given) (call : Made) → list_any exits cpu.made ≡ false → call_of_cpu cpu ≡ Some given
        → now.made ≡ cpu.made ++ call ∷ [] → call.frame ≡ given.frame → length cpu.made < last_number
        → list_any exits now.made ≡ false → length now.made < last_number
    end_counted given call going has made frame below =
        subst (λ (list : List Made). list_any exits list ≡ false → length list < last_number) (sym made)
        (counted_on_call first cpu.made call going was.frames (frame ∙ was.frame_is given has) below)

  -- it is given its program's next call, which has ended at once where its frame is refused
  module _ (first : P) (at number : ℕ) (cpu : Cpu) (program : P) (was : Follows first cpu program)
      (going : list_any exits cpu.made ≡ false) (free : cpu.current ≡ None) (none : call_of_cpu cpu ≡ None) where
    abbrev standing : Standing P
    standing = asked answer after (length cpu.made + 1) program (last_reply cpu.made)

    frame_same : standing.frame ≡ (behind first cpu.made).frame
    frame_same = ap (λ (one : Standing P). one.frame) (was.waits none)

    program_same : standing.program ≡ (behind first cpu.made).program
    program_same = ap (λ (one : Standing P). one.program) (was.waits none)

    pub next_follows : (shape : Result Call Errno)
        → Follows first (with_next at number standing.frame cpu shape) standing.program
    next_follows (Ok call) =
        let now : Given = record { number = number; frame = standing.frame; call = call } in
        let has : either_call cpu.current (Some now) ≡ Some now =
        ap (λ (one : Option Current). either_call one (Some now)) free in
        record {
          frames = was.frames;
          waits = λ is. absurd (let never : ⊥ = cc in never);
          program_is = λ one is. program_same;
          frame_is = λ one is. let same : now ≡ one = cc in ap (λ (g : Given). g.frame) (sym same) ∙ frame_same;
        }
    next_follows (Err errno) =
        let call : Made = refused_frame at number standing.frame errno in
        record {
          frames = frames_on_call first cpu.made call going was.frames frame_same;
          waits = λ is.
              ap (λ (p : P). asked answer after (length (cpu.made ++ call ∷ []) + 1) p (last_reply (cpu.made ++ call ∷ []))) program_same
              ∙ waits_on_call first cpu.made call going was.frames frame_same;
          program_is = λ one is. absurd (no_call cpu one none is);
          frame_is = λ one is. absurd (no_call cpu one none is);
        }

    pub next_counted : (shape : Result Call Errno) → length cpu.made < last_number
        → list_any exits (with_next at number standing.frame cpu shape).made ≡ false
        → length (with_next at number standing.frame cpu shape).made < last_number
    next_counted (Ok call) below none_exits = below
    next_counted (Err errno) below none_exits =
        counted_on_call first cpu.made (refused_frame at number standing.frame errno) going was.frames frame_same below none_exits
