-- What the parts stand for: the rows of the state, one record for each kind of row. Rows are looked
-- up by their serials, each at its object's index.
use Rattle.std.specs.Prelude.{◌≡◌, ◌==◌, ◌+◌, ◌<◌, ◌≤◌, ℕ, Bool, true, IsTrue, List, [], length}
use Rattle.std.specs.Prelude.{replicate, Option, Some, None, is_some, count_by, find, filter}
use Rattle.std.specs.Prelude.{slice_index_or}
use Rattle.std.specs.Option.{option_map}
use Rattle.gh_base.specs.CapWord.{filled_bits}
use Rattle.gh_base.specs.declared.cap_word.CapWord.{CapWord}
use Rattle.gh_base.specs.declared.ids.Serial.{Serial}
use Rattle.gh_base.specs.declared.kind.Kind.TheVariants as kind
use Rattle.gh_base.specs.declared.limits.TheConstants.{CSPACE_SLOTS, OBJECT_INDICES}
use Rattle.gh_addrspace.specs.Space.{Shows, Space as AddressSpace}
use Rattle.gh_extent.specs.Extents.{row_span}
use Rattle.gh_invariant.specs.Effects.{times}
use Rattle.gh_invariant.specs.Lives.{lives_as}
use Rattle.gh_model.specs.Boot.{is_row_of}
use Rattle.gh_model.specs.References.{references}
use Rattle.gh_model.specs.Rows.{fills, is_bell, is_extent, is_object, is_partition, is_queue}
use Rattle.gh_model.specs.Rows.{tells_setting}
use Rattle.gh_model.specs.Units.{given_by, used_by}
use Rattle.gh_model.specs.Word.{is_slot, setting_number}
use Rattle.gh_model.specs.declared.memory.Span.{Span}
use Rattle.gh_model.specs.declared.rows.BellRow.{BellRow}
use Rattle.gh_model.specs.declared.rows.CapabilityRow.{CapabilityRow}
use Rattle.gh_model.specs.declared.rows.ExtentRow.{ExtentRow}
use Rattle.gh_model.specs.declared.rows.MappingRow.{MappingRow}
use Rattle.gh_model.specs.declared.rows.ObjectRow.{ObjectRow}
use Rattle.gh_model.specs.declared.rows.PartitionRow.{PartitionRow}
use Rattle.gh_model.specs.declared.rows.QueueRow.{QueueRow}
use Rattle.gh_model.specs.declared.rows.SetAtRow.{SetAtRow}
use Rattle.gh_model.specs.declared.state.State.{State}
use Rattle.gh_objects.specs.Counts.{count_at}
use Rattle.gh_objects.specs.Headers.{header_at}
use Rattle.gh_objects.specs.declared.count.Count.{Count}
use Rattle.gh_objects.specs.declared.header.Header.{Header}
use Rattle.gh_parts.specs.Blocks.{BlocksStand}
use Rattle.gh_parts.specs.Bodies.{bell_in, body_of, fits_body, mappings_in, queue_in, space_in}
use Rattle.gh_parts.specs.Bodies.{span_in}
use Rattle.gh_parts.specs.Index.{AreIndexed, index_of, indexed}
use Rattle.gh_parts.specs.Shares.{AreShares, place_at}
use Rattle.gh_parts.specs.Slots.{is_home, name_in, no_serial, word_in}
use Rattle.gh_parts.specs.declared.journal.Account.{Account}
use Rattle.gh_parts.specs.declared.journal.Journal.{Journal}
use Rattle.gh_parts.specs.declared.journal.Memory.{Memory}
use Rattle.gh_parts.specs.declared.journal.Memory.TheVariants.{Bare, Held}
use Rattle.gh_parts.specs.declared.parts.Parts.{Parts}
use Rattle.gh_parts.specs.declared.shares.Place.{Place}
use Rattle.gh_parts.specs.declared.slots.Slots.{Slots}

-- objects

-- the header of an object, with its partition's index
abbrev pub header_of : List (Option Header) → ObjectRow → Header
header_of headers row = record {
  kind = row.kind;
  partition = indexed (index_of headers row.partition.0);
  serial = row.serial;
  stage = row.stage;
}

-- an object has its header at its index, and its cost and the counters of its retirement
pub record ObjectsStand (headers : List (Option Header)) (shares : List (List Place))
    (retirements : List (Option (List ℕ))) (objects : List ObjectRow) : Type 0 where
  pub indexed : AreIndexed headers
  pub whole : AreShares shares
  pub each : (serial : ℕ) → header_at headers (index_of headers serial)
      ≡ option_map (header_of headers) (find (is_object serial) objects)
  pub costs : (serial : ℕ) (row : ObjectRow) → find (is_object serial) objects ≡ Some row
      → (place_at shares (index_of headers serial)).cost ≡ row.cost
  pub retired : (serial : ℕ) (row : ObjectRow) → find (is_object serial) objects ≡ Some row
      → slice_index_or retirements (index_of headers serial) None ≡ row.retired
  pub room : length retirements ≡ OBJECT_INDICES

-- references

-- the count of an object: its references, and what is owed to it, once for each time
abbrev pub count_of : State → List Serial → ObjectRow → Count
count_of s owed row = record {
  serial = row.serial;
  references = references s row.serial.0 + times row.serial.0 owed;
  retired = is_some row.retired;
}

-- an object's count is at its index, and no count is where no object is
pub record ReferencesStand (headers : List (Option Header)) (counts : List (Option Count))
    (owed : List Serial) (s : State) : Type 0 where
  pub each : (serial : ℕ) → count_at counts (index_of headers serial)
      ≡ option_map (count_of s owed) (find (is_object serial) s.objects)
  pub bare : (index : ℕ) → header_at headers index ≡ None → count_at counts index ≡ None

-- bodies: kinds, doorbells, queues, spans

-- each object has the body of its kind
abbrev pub KindsStand : List (Option Header) → List (List Place) → List ObjectRow → Type 0
KindsStand headers shares objects =
    (serial : ℕ)
    → fits_body (body_of headers shares serial) (find (is_object serial) objects) ≡ true

-- each bell's words are those of its row, and so with queues
abbrev pub BellsStand : List (Option Header) → List (List Place) → List BellRow → Type 0
BellsStand headers shares rows =
    (serial : ℕ) → find (is_bell serial) rows ≡ bell_in serial (body_of headers shares serial)

abbrev pub QueuesStand : List (Option Header) → List (List Place) → List QueueRow → Type 0
QueuesStand headers shares rows =
    (serial : ℕ) → find (is_queue serial) rows ≡ queue_in serial (body_of headers shares serial)

-- each extent's share has a copy of its span
abbrev pub span_row_of : List ExtentRow → ℕ → Option Span
span_row_of rows extent = option_map row_span (find (is_extent extent) rows)

abbrev pub SpansStand : List (Option Header) → List (List Place) → List ExtentRow → Type 0
SpansStand headers shares rows =
    (serial : ℕ) → span_row_of rows serial ≡ span_in serial (body_of headers shares serial)

-- address spaces: each has its mapping rows in their order, and shows who holds the pages
pub record SpacesStand (headers : List (Option Header)) (shares : List (List Place))
    (extents : List ExtentRow) (holders : List Serial) (rows : List MappingRow) : Type 0 where
  pub mappings : (serial : ℕ)
      → filter (is_row_of serial) rows ≡ mappings_in serial (body_of headers shares serial)
  pub access : (serial : ℕ) (space : AddressSpace)
      → space_in (body_of headers shares serial) ≡ Some space
      → Shows (span_row_of extents) holders space

-- slots

-- a word is that of a filled slot: with the object's index where the capability is valid, and with
-- the object's serial beside it
pub record ShowsFilled (headers : List (Option Header)) (word : CapWord) (name : Serial)
    (row : CapabilityRow) (number : ℕ) : Type 0 where
  pub object : ℕ
  pub within : object < OBJECT_INDICES
  pub bits : word.0 ≡ filled_bits row.valid row.kind row.master object row.rights.0 number
  pub index : row.valid ≡ true → object ≡ index_of headers row.serial.0
  pub named : name ≡ row.serial

-- a word is that of a slot; an empty one is the number of the entry that set it
abbrev pub ShowsSlot : List (Option Header) → CapWord → Serial → Option CapabilityRow → ℕ → Type 0
ShowsSlot headers word name None number = word.0 ≡ number
ShowsSlot headers word name (Some row) number = ShowsFilled headers word name row number

-- the slots have a word and a serial each
pub record HavePlaces (slots : Slots) : Type 0 where
  pub words : length slots.words ≡ CSPACE_SLOTS
  pub names : length slots.names ≡ CSPACE_SLOTS

-- each live capability space has its slots once, and each slot its word
pub record SlotsStand (headers : List (Option Header)) (all : List Slots)
    (objects : List ObjectRow) (caps : List CapabilityRow) (set_at : List SetAtRow) : Type 0 where
  pub homes : (serial : ℕ)
      → is_some (find (is_home serial) all) ≡ lives_as objects serial kind.Cspace
  pub once : (serial : ℕ) → count_by (is_home serial) all ≤ 1
  pub sized : (serial : ℕ) (slots : Slots) → find (is_home serial) all ≡ Some slots
      → HavePlaces slots
  pub words : (cspace slot : ℕ) → IsTrue (is_slot slot)
      → ShowsSlot headers (word_in all cspace slot) (name_in all cspace slot)
      (find (fills cspace slot) caps) (setting_number (find (tells_setting cspace slot) set_at))

-- units

-- the account is that of the partition
abbrev pub is_account : ℕ → Account → Bool
is_account partition account = account.partition.0 == partition

-- a partition's account: its quota, what its objects use, and what it gave
abbrev pub account_of : List ObjectRow → List PartitionRow → PartitionRow → Account
account_of objects partitions row = record {
  partition = row.serial;
  parent = row.parent;
  units = record {
    quota = row.quota;
    used = used_by objects row.serial.0;
    given = given_by partitions row.serial.0;
  };
}

abbrev pub UnitsStand : List Account → List ObjectRow → List PartitionRow → Type 0
UnitsStand accounts objects partitions =
    (serial : ℕ) → find (is_account serial) accounts
    ≡ option_map (account_of objects partitions) (find (is_partition serial) partitions)

-- extents and holders

-- the rows of the extents; none while the pages are bare
abbrev pub extent_rows : Memory → List ExtentRow
extent_rows (Bare pages) = []
extent_rows (Held extents) = extents.rows

-- the holders of the pages; serial 0 while they are bare
abbrev pub page_holders : Memory → List Serial
page_holders (Bare pages) = replicate pages no_serial
page_holders (Held extents) = extents.holders

pub record MemoryStands (memory : Memory) (extents : List ExtentRow) (holders : List Serial)
    : Type 0 where
  pub rows : extent_rows memory ≡ extents
  pub pages : page_holders memory ≡ holders

-- CPUs and numbers are kept as they are; no parcels are made yet
pub record NumbersStand (journal : Journal) (s : State) : Type 0 where
  pub cpus : journal.cpus ≡ s.cpus
  pub links : journal.links ≡ s.links
  pub taken : journal.taken ≡ s.taken
  pub entries : journal.entries ≡ s.entries
  pub serials : journal.next_serial ≡ s.next_serial
  pub handles : journal.next_handle ≡ s.next_handle
  pub rings : journal.rings ≡ s.rings

-- the parts stand for the state, while these references are owed: counted and not yet in its rows,
-- or no more in them and still counted
pub record StandsOwing (owed : List Serial) (parts : Parts) (s : State) : Type 0 where
  pub objects :
      ObjectsStand parts.table.headers parts.shares parts.journal.retirements s.objects
  pub blocks : BlocksStand parts.table
  pub kinds : KindsStand parts.table.headers parts.shares s.objects
  pub references : ReferencesStand parts.table.headers parts.journal.counts owed s
  pub bells : BellsStand parts.table.headers parts.shares s.bells
  pub queues : QueuesStand parts.table.headers parts.shares s.queues
  pub spans : SpansStand parts.table.headers parts.shares s.extents
  pub spaces : SpacesStand parts.table.headers parts.shares s.extents s.holders s.mappings
  pub slots : SlotsStand parts.table.headers parts.journal.slots s.objects s.caps s.set_at
  pub units : UnitsStand parts.journal.accounts s.objects s.partitions
  pub memory : MemoryStands parts.journal.memory s.extents s.holders
  pub numbers : NumbersStand parts.journal s

-- the parts stand for the state, with nothing owed
abbrev pub Stands : Parts → State → Type 0
Stands parts s = StandsOwing [] parts s
