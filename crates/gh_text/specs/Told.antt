-- What the history text tells of a call: all of its mark but the words that its looks found.
use Rattle.std.specs.Prelude.{◌≡◌, ◌<◌, ◌^◌, ⊤, ℕ, List, filter, length, map}
use Rattle.std.specs.List.{AllByRecursion, flat_map}
use Rattle.gh_base.specs.declared.cap_word.CapWord.{CapWord}
use Rattle.gh_base.specs.declared.cap_word.Look.{Look}
use Rattle.gh_base.specs.declared.frame.Reply.{Reply}
use Rattle.gh_base.specs.declared.mark.End.{End}
use Rattle.gh_base.specs.declared.mark.End.TheVariants as ends
use Rattle.gh_base.specs.declared.mark.Held.{Held}
use Rattle.gh_base.specs.declared.mark.Held.TheVariants.{Pins, Reading}
use Rattle.gh_base.specs.declared.mark.Mark.{Mark}
use Rattle.gh_model.specs.Run.{is_mark_of}
use Rattle.gh_model.specs.declared.entry.Entry.{Entry}
use Rattle.gh_model.specs.declared.entry.Entry.TheVariants.{Acted, Part, Retired, Reclaimed}
use Rattle.gh_model.specs.declared.rows.CpuRow.{CpuRow}

-- a look without the word that it found
abbrev pub no_word : CapWord
no_word = record { 0 = 0 }

abbrev pub told_look : Look → Look
told_look look = record look { word = no_word }

-- a mark without them
abbrev pub told : Mark → Mark
told mark = record mark { looks = map told_look mark.looks }

-- the marks of some CPUs, CPU by CPU
abbrev pub marks_of : List Mark → CpuRow → List Mark
marks_of marks row = filter (is_mark_of row.cpu.0) marks

abbrev pub by_cpu : List Mark → List CpuRow → List Mark
by_cpu marks rows = flat_map (marks_of marks) rows

-- numbers that 64 bits can hold, as all of a run are

abbrev pub IsWord : ℕ → Type 0
IsWord n = n < 2 ^ 64

abbrev pub IsByte : ℕ → Type 0
IsByte n = n < 256

abbrev pub EntryFits : Entry → Type 0
EntryFits (Acted cpu number) = IsWord cpu.0 × IsWord number
EntryFits (Part cpu number space slot) =
    IsWord cpu.0 × (IsWord number × (IsWord space.0 × IsWord slot))
EntryFits (Retired serial seen) = IsWord serial.0 × AllByRecursion IsWord seen
EntryFits (Reclaimed serial seen) = IsWord serial.0 × AllByRecursion IsWord seen

abbrev pub LookFits : Look → Type 0
LookFits look = IsWord look.slot × IsWord look.place

abbrev pub HeldFits : Held → Type 0
HeldFits (Pins serial pins) = IsWord serial.0 × IsWord pins
HeldFits (Reading serial cpu counter) = IsWord serial.0 × (IsWord cpu.0 × IsWord counter)

abbrev pub EndFits : End → Type 0
EndFits ends.Frame = ⊤
EndFits ends.Refused = ⊤
EndFits ends.Dead = ⊤
EndFits (ends.Act place) = IsWord place
EndFits (ends.Short place held) = IsWord place × AllByRecursion HeldFits held
EndFits (ends.Entry number) = IsWord number

pub record ReplyFits (reply : Reply) : Type 0 where
  pub registers : AllByRecursion IsWord reply.x
  pub bytes : AllByRecursion IsByte reply.bytes

pub record MarkFits (mark : Mark) : Type 0 where
  pub cpu : IsWord mark.cpu.0
  pub number : IsWord mark.number
  pub section : IsWord mark.section
  pub looks : AllByRecursion LookFits mark.looks
  pub end : EndFits mark.end
  pub reply : ReplyFits mark.reply

-- all of a run fits, and its entries and calls can be numbered
pub record RunFits (entries : List Entry) (marks : List Mark) : Type 0 where
  pub entries_fit : AllByRecursion EntryFits entries
  pub marks_fit : AllByRecursion MarkFits marks
  pub entry_count : IsWord (length entries)
  pub mark_count : IsWord (length marks)
