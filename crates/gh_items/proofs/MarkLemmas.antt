-- What the end of a call does to the marks: its own is behind the others.
use Rattle.std.proofs.Common.{◌≡◌, ◌<◌, ◌∙◌, inl, inr, ℕ, List, [], ◌∷◌, ◌++◌, ap}
use Rattle.gh_base.specs.declared.errno.Errno.{Errno}
use Rattle.gh_base.specs.declared.frame.Frame.{Frame}
use Rattle.gh_base.specs.declared.frame.Reply.{Reply}
use Rattle.gh_base.specs.declared.limits.TheConstants.{CPUS}
use Rattle.gh_base.specs.declared.mark.End.{End}
use Rattle.gh_base.specs.declared.mark.End.TheVariants as ends
use Rattle.gh_base.specs.declared.mark.Mark.{Mark}
use Rattle.gh_core.specs.declared.current.CurrentCall.{CurrentCall}
use Rattle.gh_items.specs.Acts.{with_judged}
use Rattle.gh_items.specs.Calling.{AddsMark}
use Rattle.gh_items.specs.Stands.{frame_mark, mark_at, with_end, with_refused}
use Rattle.gh_items.specs.declared.progress.Progress.{Progress}
use Rattle.gh_items.specs.declared.progress.Seat.{Seat}
use Rattle.gh_model.specs.declared.plain.Judged.{Judged}
use Rattle.gh_model.specs.declared.plain.Judged.TheVariants as says

abbrev marks_of : Progress → List Mark
marks_of progress = progress.marks

-- one mark more
pub one_more : (before behind : List Mark) (mark : Mark) → mark.cpu.0 < CPUS → behind ≡ before ++ mark ∷ [] → AddsMark before behind
one_more before behind mark within is = inr (record { mark = mark; its_cpu = within; is = is })

-- marks that were the same before
pub from_same : (old before behind : List Mark) → before ≡ old → AddsMark before behind → AddsMark old behind
from_same old before behind same adds = elim adds as (λ _. AddsMark old behind) [
  | inl none ↦ inl (none ∙ same)
  | inr ended ↦ inr (record { mark = ended.mark; its_cpu = ended.its_cpu; is = ended.is ∙ ap (λ (marks : List Mark). marks ++ ended.mark ∷ []) same })
]

module _ (progress behind : Progress) (at : ℕ) (within : at < CPUS) (seat : Seat) where
  -- a call's end
  pub end_adds : (call : CurrentCall) (end : End) (reply : Reply) → behind ≡ with_end progress at seat call end reply → AddsMark progress.marks behind.marks
  end_adds call end reply is = one_more progress.marks behind.marks (mark_at at call end reply) within (ap marks_of is)

  -- a refused frame
  pub refused_adds : (number : ℕ) (frame : Frame) (errno : Errno) → behind ≡ with_refused progress at seat number frame errno
      → AddsMark progress.marks behind.marks
  refused_adds number frame errno is = one_more progress.marks behind.marks (frame_mark at number errno) within (ap marks_of is)

  -- an act that was judged
  pub judged_adds : (call : CurrentCall) (judged : Judged) → behind ≡ with_judged progress at seat call judged → AddsMark progress.marks behind.marks
  judged_adds call (says.Done reply) is =
      one_more progress.marks behind.marks (mark_at at call (ends.Entry progress.plain.entries) reply) within (ap marks_of is)
  judged_adds call (says.Refused reply) is =
      one_more progress.marks behind.marks (mark_at at call (ends.Act progress.plain.entries) reply) within (ap marks_of is)
