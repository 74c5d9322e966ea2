-- The text of a boot file: its lines as they are spelled, apart from any reader.
use Rattle.std.specs.Prelude.{◌==◌, ◌&&◌, ◌+◌, ◌++◌, ◌^◌, ℕ, Bool, true}
use Rattle.std.specs.Prelude.{false, List, [], ◌∷◌, codes, length, nat_lt, slice_index}
use Rattle.std.specs.List.{flat_map}
use Rattle.std.specs.Fmt.{decimal}
use Rattle.gh_bootfile.specs.declared.keyword.Keyword.{Keyword}
use Rattle.gh_bootfile.specs.declared.keyword.Keyword.TheVariants as word
use Rattle.gh_bootfile.specs.declared.parts.Parts.{Parts}
use Rattle.gh_model.specs.Text.{spaced}
use Rattle.gh_model.specs.declared.boot_line.BootLine.{BootLine}
use Rattle.gh_model.specs.declared.boot_line.BootLine.TheVariants.{Pages, Partition, Cspace}
use Rattle.gh_model.specs.declared.boot_line.BootLine.TheVariants.{Addrspace, Doorbell}
use Rattle.gh_model.specs.declared.boot_line.BootLine.TheVariants.{RootExtent, Extent, Msgqueue}
use Rattle.gh_model.specs.declared.boot_line.BootLine.TheVariants.{Map, Cap, Vm, Rm, Link}

-- the word that a line begins with
abbrev pub keyword_text : Keyword → List ℕ
keyword_text word.Pages = codes "pages"
keyword_text word.Partition = codes "partition"
keyword_text word.Cspace = codes "cspace"
keyword_text word.Addrspace = codes "addrspace"
keyword_text word.Doorbell = codes "doorbell"
keyword_text word.RootExtent = codes "rootextent"
keyword_text word.Extent = codes "extent"
keyword_text word.Msgqueue = codes "msgqueue"
keyword_text word.Map = codes "map"
keyword_text word.Cap = codes "cap"
keyword_text word.Vm = codes "vm"
keyword_text word.Rm = codes "rm"
keyword_text word.Link = codes "link"

-- a capability's mark: 1 where it is the object's master, else 0
abbrev pub mark_number : Bool → ℕ
mark_number true = 1
mark_number false = 0

-- a keyword and the numbers behind it
abbrev pub parts_of : Keyword → List ℕ → Parts
parts_of keyword numbers = record { keyword = keyword; numbers = numbers }

-- the parts of a line: its keyword, and its numbers in order
abbrev pub line_parts : BootLine → Parts
line_parts (Pages count) = parts_of word.Pages (count ∷ [])
line_parts (Partition quota) = parts_of word.Partition (quota ∷ [])
line_parts (Cspace partition) = parts_of word.Cspace (partition.0 ∷ [])
line_parts (Addrspace partition) = parts_of word.Addrspace (partition.0 ∷ [])
line_parts (Doorbell partition) = parts_of word.Doorbell (partition.0 ∷ [])
line_parts (RootExtent partition) = parts_of word.RootExtent (partition.0 ∷ [])
line_parts (Extent partition parent offset count access held_offset held_count) =
    parts_of word.Extent
    (partition.0 ∷ parent.0 ∷ offset ∷ count ∷ access.0 ∷ held_offset ∷ held_count
    ∷ [])
line_parts (Msgqueue partition depth size) =
    parts_of word.Msgqueue (partition.0 ∷ depth ∷ size ∷ [])
line_parts (Map space extent base offset count access) =
    parts_of word.Map (space.0 ∷ extent.0 ∷ base ∷ offset ∷ count ∷ access.0 ∷ [])
line_parts (Cap cspace slot object rights master) =
    parts_of word.Cap (cspace.0 ∷ slot ∷ object.0 ∷ rights.0 ∷ mark_number master ∷ [])
line_parts (Vm cspace space) = parts_of word.Vm (cspace.0 ∷ space.0 ∷ [])
line_parts (Rm cspace space partition) =
    parts_of word.Rm (cspace.0 ∷ space.0 ∷ partition.0 ∷ [])
line_parts (Link vm extent request reply) =
    parts_of word.Link (vm.0 ∷ extent.0 ∷ request.0 ∷ reply.0 ∷ [])

-- a word, and behind it numbers, each after a space
abbrev pub spelled : List ℕ → List ℕ → List ℕ
spelled word numbers = word ++ flat_map spaced numbers

-- parts as they are spelled
abbrev pub parts_text : Parts → List ℕ
parts_text parts = spelled (keyword_text parts.keyword) parts.numbers

-- a line without its line feed
abbrev pub line_text : BootLine → List ℕ
line_text line = parts_text (line_parts line)

-- the first line of every boot file, which names the format
abbrev pub format_line : List ℕ
format_line = codes "gunyah 1"

-- a line with its line feed
abbrev pub ended_line : BootLine → List ℕ
ended_line line = line_text line ++ codes "\n"

-- a boot file: the line of the format, and then its lines, each with a line feed
abbrev pub boot_text : List BootLine → List ℕ
boot_text lines = format_line ++ (codes "\n" ++ flat_map ended_line lines)

-- what the fields of a line hold

-- an object's number has 32 bits
abbrev pub serial_bound : ℕ
serial_bound = 2 ^ 32

-- counts, offsets, bases, quotas, depths, sizes and rights have 16 bits
abbrev pub small_bound : ℕ
small_bound = 2 ^ 16

-- slots, VMs and accesses have 8 bits
abbrev pub byte_bound : ℕ
byte_bound = 2 ^ 8

-- a capability's mark is 0 or 1
abbrev pub mark_bound : ℕ
mark_bound = 2

-- what each number behind a keyword is below
abbrev pub bounds : Keyword → List ℕ
bounds word.Pages = small_bound ∷ []
bounds word.Partition = small_bound ∷ []
bounds word.Cspace = serial_bound ∷ []
bounds word.Addrspace = serial_bound ∷ []
bounds word.Doorbell = serial_bound ∷ []
bounds word.RootExtent = serial_bound ∷ []
bounds word.Extent =
    serial_bound ∷ serial_bound ∷ small_bound ∷ small_bound ∷ byte_bound ∷ small_bound
    ∷ small_bound
    ∷ []
bounds word.Msgqueue = serial_bound ∷ small_bound ∷ small_bound ∷ []
bounds word.Map =
    serial_bound ∷ serial_bound ∷ small_bound ∷ small_bound ∷ small_bound ∷ byte_bound
    ∷ []
bounds word.Cap = serial_bound ∷ byte_bound ∷ serial_bound ∷ small_bound ∷ mark_bound ∷ []
bounds word.Vm = serial_bound ∷ serial_bound ∷ []
bounds word.Rm = serial_bound ∷ serial_bound ∷ serial_bound ∷ []
bounds word.Link = byte_bound ∷ serial_bound ∷ serial_bound ∷ serial_bound ∷ []

-- the numbers from a place on are below these bounds
abbrev pub are_below : List ℕ → List ℕ → ℕ → Bool
are_below [] numbers at = true
are_below (bound ∷ others) numbers at =
    nat_lt (slice_index numbers at) bound && are_below others numbers (at + 1)

-- there are as many numbers as the keyword wants, and each is below its bound
abbrev pub parts_hold : Parts → Bool
parts_hold parts =
    (length parts.numbers == length (bounds parts.keyword))
    && are_below (bounds parts.keyword) parts.numbers 0

-- each number of the line is within its field
abbrev pub fields_hold : BootLine → Bool
fields_hold line = parts_hold (line_parts line)
