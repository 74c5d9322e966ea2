-- What the program tells of a status.
use Rattle.std.specs.Prelude.{ℕ, List, [], ◌++◌, codes}
use Rattle.std.specs.Fmt.{decimal}
use Rattle.gh_io.specs.declared.files.LoadErr.{LoadErr}
use Rattle.gh_io.specs.declared.files.LoadErr.TheVariants as load
use Rattle.gh_io.specs.declared.sink.PutErr.{PutErr}
use Rattle.gh_io.specs.declared.sink.PutErr.TheVariants as put
use Rattle.gunyah.specs.declared.read_err.BadFile.{BadFile}
use Rattle.gunyah.specs.declared.read_err.BadFile.TheVariants as bad
use Rattle.gunyah.specs.declared.read_err.ReadErr.{ReadErr}
use Rattle.gunyah.specs.declared.read_err.ReadErr.TheVariants as stop
use Rattle.gunyah.specs.declared.status.Status.{Status}
use Rattle.gunyah.specs.declared.status.Status.TheVariants.{Done, Usage, ReadFault, WriteFault}
use Rattle.gunyah.specs.declared.status.Status.TheVariants.{BadBoot, BadCalls, BadSchedule}
use Rattle.gunyah.specs.declared.status.Status.TheVariants.{NoMemory, BadHistory, TooLarge}

-- the number with which the program ends
abbrev pub status_number : Status → ℕ
status_number Done = 0
status_number Usage = 1
status_number ReadFault = 2
status_number WriteFault = 3
status_number (BadBoot line) = 4
status_number (BadCalls file line) = 5
status_number (BadSchedule item) = 6
status_number NoMemory = 7
status_number (BadHistory line) = 8
status_number (TooLarge file) = 9

-- the forms of the words
abbrev pub usage : List ℕ
usage =
    codes "usage: gunyah step BOOT SCHEDULE CALLS.. | run BOOT CALLS.. "
    ++ codes "| check BOOT HISTORY CALLS.. | gen SEED VMS CALLS [boot|VM]"

-- what stands on standard error
abbrev pub status_text : Status → List ℕ
status_text Done = []
status_text Usage = usage
status_text ReadFault = codes "read fault"
status_text WriteFault = codes "write fault"
status_text (BadBoot line) = codes "boot line " ++ decimal line
status_text (BadCalls file line) =
    codes "calls file " ++ (decimal file ++ (codes " line " ++ decimal line))
status_text (BadSchedule item) = codes "schedule item " ++ decimal item
status_text NoMemory = codes "no memory"
status_text (BadHistory line) = codes "history line " ++ decimal line
status_text (TooLarge file) = codes "file " ++ (decimal file ++ codes " too large")

-- a load that gave no file
abbrev pub stop_of_load : LoadErr → ReadErr
stop_of_load load.Failed = stop.Failed
stop_of_load load.NoMemory = stop.NoMemory

-- the status of a faulty file
abbrev pub status_of_fault : BadFile → Status
status_of_fault (bad.TooLarge file) = TooLarge file
status_of_fault (bad.Boot line) = BadBoot line
status_of_fault (bad.Schedule item) = BadSchedule item
status_of_fault (bad.Calls file line) = BadCalls file line

-- the status where the files weren't read
abbrev pub status_of_stop : ReadErr → Status
status_of_stop stop.Failed = ReadFault
status_of_stop (stop.Bad fault) = status_of_fault fault
status_of_stop stop.NoMemory = NoMemory

-- the status of a put that took nothing
abbrev pub status_of_put : PutErr → Status
status_of_put put.Failed = WriteFault
status_of_put put.NoMemory = NoMemory
