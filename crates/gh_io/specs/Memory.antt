-- What callers see of files and sinks over memory.
use Rattle.std.specs.Prelude.{◌==◌, ◌||◌, ℕ, List, [], ◌∷◌, ◌++◌, take}
use Rattle.std.specs.Prelude.{Option, Some, None, Result, Ok, Err, Bool, true, false, Vec}
use Rattle.std.specs.Prelude.{is_none, unwrap_or, string_bytes, if◌then◌else◌}
use Rattle.std.specs.List.{find, list_any}
use Rattle.std.specs.Option.{option_map}
use Rattle.std.specs.Str.{bytes_eq}
use Rattle.std.specs.declared.alloc.Global.{Global}
use Rattle.std.specs.declared.string.String.{String}
use Rattle.gh_io.specs.Outside.{one_more}
use Rattle.gh_io.specs.declared.files.LoadErr.{LoadErr}
use Rattle.gh_io.specs.declared.files.LoadErr.TheVariants as load
use Rattle.gh_io.specs.declared.files.Request.{Request}
use Rattle.gh_io.specs.declared.sink.PutErr.{PutErr}
use Rattle.gh_io.specs.declared.sink.PutErr.TheVariants as put

-- files, each with its name
abbrev pub Entries : Type 0
Entries = List (String Global × Vec ℕ Global)

-- the bytes under a name: of two entries with one name the first counts
abbrev pub bytes_under : Entries → List ℕ → Option (List ℕ)
bytes_under entries name =
    option_map (λ entry. entry.1.items)
    (find (λ entry. bytes_eq (string_bytes entry.0) name) entries)

-- the contents by name; no bytes where no entry has the name
abbrev pub contents_of : Entries → List ℕ → List ℕ
contents_of entries name = unwrap_or (bytes_under entries name) []

-- calls that are to fail, by their numbers from 1, and how many calls were answered and have failed
pub record FaultPlan : Type 0 where
  pub failing : List ℕ
  pub calls : ℕ
  pub faults : ℕ

-- a plan before the first call
abbrev pub plan_of : List ℕ → FaultPlan
plan_of failing = record { failing = failing; calls = 0; faults = 0 }

-- the next call is to fail
abbrev pub fails_next : FaultPlan → Bool
fails_next plan = list_any (λ number. number == one_more plan.calls) plan.failing

-- after a call that was answered, by a fault or not
abbrev pub after_call : FaultPlan → Bool → FaultPlan
after_call plan failed =
    record plan {
      calls = one_more plan.calls;
      faults = if failed then one_more plan.faults else plan.faults;
    }

-- files over memory, what was asked for, and the loads that are to fail
pub record FilesInMemory : Type 0 where
  pub entries : Entries
  pub asked : List Request
  pub plan : FaultPlan

-- the next load fails, if it is of this name: it is to fail, or no entry has the name
abbrev pub load_fails : FilesInMemory → List ℕ → Bool
load_fails files name = fails_next files.plan || is_none (bytes_under files.entries name)

-- the bytes that the next load gives, if it is of this name; none where it fails
abbrev pub next_bytes : FilesInMemory → List ℕ → ℕ → Option (List ℕ)
next_bytes files name most =
    if load_fails files name then None else Some (take most (contents_of files.entries name))

-- after a load: an answer adds its request and counts as a call; without memory all stays
abbrev pub after_load :
    {T : Type 0} → FilesInMemory → Request → Result T LoadErr → FilesInMemory
after_load files asks (Ok _) =
    record files { asked = files.asked ++ asks ∷ []; plan = after_call files.plan false }
after_load files asks (Err load.Failed) =
    record files { asked = files.asked ++ asks ∷ []; plan = after_call files.plan true }
after_load files asks (Err load.NoMemory) = files

-- files over memory of which no load fails, and what was asked for
pub record SureFilesInMemory : Type 0 where
  pub entries : Entries
  pub asked : List Request

-- a sink over memory: the bytes taken, the most bytes of a put, and the puts that are to fail
pub record SinkInMemory : Type 0 where
  pub taken : List ℕ
  pub piece : ℕ
  pub plan : FaultPlan

-- after a put: an answer counts as a call, and so many bytes are taken; without memory all stays
abbrev pub after_put : SinkInMemory → List ℕ → Result ℕ PutErr → SinkInMemory
after_put sink piece (Ok count) =
    record sink { taken = sink.taken ++ take count piece; plan = after_call sink.plan false }
after_put sink piece (Err put.Failed) = record sink { plan = after_call sink.plan true }
after_put sink piece (Err put.NoMemory) = sink
