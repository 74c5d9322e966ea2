-- The history text: the entries, the calls and the state, line by line.
use Rattle.std.specs.Prelude.{◌==◌, ◌&&◌, ◌||◌, ◌+◌, ◌/◌, ◌%◌, not}
use Rattle.std.specs.Prelude.{ℕ, zero, suc, Bool, false, List, [], ◌∷◌, ◌++◌}
use Rattle.std.specs.Prelude.{length, Option, Some, None, codes, filter, if◌then◌else◌}
use Rattle.std.specs.List.{flat_map, enumerate_from}
use Rattle.std.specs.Fmt.{decimal, digits, digit_glyph}
use Rattle.gh_base.specs.Kind.{kind_number}
use Rattle.gh_base.specs.declared.access.Access.{Access}
use Rattle.gh_base.specs.declared.cap_word.Look.{Look}
use Rattle.gh_base.specs.declared.ids.PageNo.{PageNo}
use Rattle.gh_base.specs.declared.frame.Reply.{Reply}
use Rattle.gh_base.specs.declared.mark.Mark.{Mark}
use Rattle.gh_base.specs.declared.mark.End.{End}
use Rattle.gh_base.specs.declared.mark.End.TheVariants as ends
use Rattle.gh_base.specs.declared.mark.Held.{Held}
use Rattle.gh_base.specs.declared.mark.Held.TheVariants.{Pins, Reading}
use Rattle.gh_model.specs.declared.entry.Entry.{Entry}
use Rattle.gh_model.specs.declared.entry.Entry.TheVariants.{Acted, Part, Retired, Reclaimed}
use Rattle.gh_model.specs.declared.rows.ObjectRow.{ObjectRow}
use Rattle.gh_model.specs.declared.rows.CpuRow.{CpuRow}
use Rattle.gh_model.specs.declared.access.PageRun.{PageRun}
use Rattle.gh_model.specs.declared.state.State.{State}
use Rattle.gh_model.specs.Units.{used_units, free_units, given_units}
use Rattle.gh_model.specs.Access.{access_at}
use Rattle.gh_model.specs.Order.{cpus_in_order}
use Rattle.gh_model.specs.Run.{is_mark_of}

-- a space and a number
abbrev pub spaced : ℕ → List ℕ
spaced n = codes " " ++ decimal n

-- a space and a register
abbrev pub spaced_register : ℕ → List ℕ
spaced_register x = codes " " ++ digits 16 false x

-- two hexadecimal digits
abbrev pub byte_text : ℕ → List ℕ
byte_text byte = digit_glyph false (byte / 16) ∷ digit_glyph false (byte % 16) ∷ []

-- what an entry says behind its number
abbrev pub entry_words : Entry → List ℕ
entry_words (Acted cpu number) = codes " act" ++ (spaced cpu.0 ++ spaced number)
entry_words (Part cpu number space slot) =
    codes " part" ++ (spaced cpu.0 ++ (spaced number ++ (spaced space.0 ++ spaced slot)))
entry_words (Retired serial seen) = codes " retire" ++ (spaced serial.0 ++ flat_map spaced seen)
entry_words (Reclaimed serial seen) = codes " reclaim" ++ (spaced serial.0 ++ flat_map spaced seen)

-- the line of an entry with its number
abbrev pub entry_line : ℕ × Entry → List ℕ
entry_line numbered = decimal numbered.0 ++ (entry_words numbered.1 ++ codes "\n")

-- the words of a look
abbrev pub look_words : Look → List ℕ
look_words look = codes " look" ++ (spaced look.slot ++ spaced look.place)

-- the words of what an unfinished reclaim found held
abbrev pub held_words : Held → List ℕ
held_words (Pins serial pins) = codes " pins" ++ (spaced serial.0 ++ spaced pins)
held_words (Reading serial cpu counter) =
    codes " reading" ++ (spaced serial.0 ++ (spaced cpu.0 ++ spaced counter))

-- the words of an end
abbrev pub end_words : End → List ℕ
end_words ends.Frame = codes " frame"
end_words ends.Refused = codes " refused"
end_words ends.Dead = codes " dead"
end_words (ends.Act place) = codes " act" ++ spaced place
end_words (ends.Short place held) = codes " short" ++ (spaced place ++ flat_map held_words held)
end_words (ends.Entry number) = codes " entry" ++ spaced number

-- the bytes of a reply that has some
abbrev pub bytes_words : List ℕ → List ℕ
bytes_words bytes = if length bytes == 0 then [] else codes " : " ++ flat_map byte_text bytes

-- the words of a reply: its registers and its bytes
abbrev pub reply_words : Reply → List ℕ
reply_words reply = codes " =" ++ (flat_map spaced_register reply.x ++ bytes_words reply.bytes)

-- the front of a call's line: its CPU, its number and its section
abbrev pub call_head : Mark → List ℕ
call_head mark = codes "call" ++ (spaced mark.cpu.0 ++ (spaced mark.number ++ spaced mark.section))

-- the line of a call
abbrev pub call_line : Mark → List ℕ
call_line mark =
    call_head mark
    ++ (flat_map look_words mark.looks
    ++ (end_words mark.end ++ (reply_words mark.reply ++ codes "\n")))

-- the calls of one CPU
abbrev pub cpu_lines : List Mark → CpuRow → List ℕ
cpu_lines marks row = flat_map call_line (filter (is_mark_of row.cpu.0) marks)

-- the object is a partition
abbrev pub is_partition_row : ObjectRow → Bool
is_partition_row row = kind_number row.kind == 1

-- the object is an address space
abbrev pub is_space_row : ObjectRow → Bool
is_space_row row = kind_number row.kind == 3

-- the units of a live partition
abbrev pub units_line : State → ObjectRow → List ℕ
units_line s row =
    codes "units"
    ++ (spaced row.serial.0
    ++ (spaced (used_units s row.serial.0)
    ++ (spaced (free_units s row.serial.0) ++ (spaced (given_units s row.serial.0) ++ codes "\n"))))

-- a run of pages of an address space
abbrev pub run_line : ℕ → PageRun → List ℕ
run_line space run =
    codes "access"
    ++ (spaced space
    ++ (spaced run.page
    ++ (spaced run.count ++ (spaced run.machine.0 ++ (spaced run.access.0 ++ codes "\n")))))

-- a run with no page yet
abbrev pub no_run : PageRun
no_run = record { page = 0; count = 0; machine = record { 0 = 0 }; access = record { 0 = 0 } }

-- the run goes on with this machine page and access
abbrev pub goes_on : PageRun → PageNo × Access → Bool
goes_on run found =
    not (run.count == 0) && (found.0.0 == run.machine.0 + run.count) && (found.1.0 == run.access.0)

-- a run with one page more
abbrev pub longer : PageRun → PageRun
longer run = record run { count = run.count + 1 }

-- a run of one page, which leads there
abbrev pub new_run : ℕ → PageNo × Access → PageRun
new_run page found = record { page = page; count = 1; machine = found.0; access = found.1 }

-- the run that is open after a page
abbrev pub open_run : PageRun → ℕ → Option (PageNo × Access) → PageRun
open_run run page None = no_run
open_run run page (Some found) = if goes_on run found then longer run else new_run page found

-- the run that a page ends
abbrev pub ended_run : ℕ → PageRun → Bool → List ℕ
ended_run space run goes = if goes || (run.count == 0) then [] else run_line space run

-- the page leads where the run goes on
abbrev pub goes_on_with : PageRun → Option (PageNo × Access) → Bool
goes_on_with run None = false
goes_on_with run (Some found) = goes_on run found

-- the lines of the longest runs of pages, from a page on, with the run that is open before it
abbrev pub runs_from : State → ℕ → PageRun → List ℕ → List ℕ
runs_from s space run [] = ended_run space run false
runs_from s space run (page ∷ pages) =
    ended_run space run (goes_on_with run (access_at s space page))
    ++ runs_from s space (open_run run page (access_at s space page)) pages

-- so many pages from one on
unfoldable pub pages_from : ℕ → ℕ → List ℕ
pages_from page zero = []
pages_from page (suc more) = page ∷ pages_from (page + 1) more

-- the pages of an address space
abbrev pub space_lines : State → ObjectRow → List ℕ
space_lines s row = runs_from s row.serial.0 no_run (pages_from 0 4096)

-- the part of the entries, each with its number
abbrev pub entries_part : List Entry → List ℕ
entries_part entries =
    codes "history"
    ++ (spaced (length entries) ++ (codes "\n" ++ flat_map entry_line (enumerate_from 1 entries)))

-- the part of the calls, CPU by CPU in order
abbrev pub calls_part : List Mark → State → List ℕ
calls_part marks s =
    codes "calls"
    ++ (spaced (length marks) ++ (codes "\n" ++ flat_map (cpu_lines marks) (cpus_in_order s)))

-- the part of the last state: the units of each partition, and the runs of each space
abbrev pub state_part : State → List ℕ
state_part s =
    codes "state\n"
    ++ (flat_map (units_line s) (filter is_partition_row s.objects)
    ++ (flat_map (space_lines s) (filter is_space_row s.objects) ++ codes "end\n"))

-- the text of a history, its calls and the state after it
abbrev pub history_text : List Entry → List Mark → State → List ℕ
history_text entries marks s = entries_part entries ++ (calls_part marks s ++ state_part s)
