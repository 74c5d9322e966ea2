-- The parts with an object more: its header, what stands beside that, and what the journal has of
-- it.
use Rattle.std.specs.Prelude.{◌≡◌, ◌+◌, ◌++◌, ◌∷◌, ℕ, List, [], None, Some, false, IsSomeAnd}
use Rattle.std.specs.Prelude.{slice_set}
use Rattle.gh_addrspace.specs.Space.{IsEmptySpace}
use Rattle.gh_base.specs.declared.ids.Serial.{Serial}
use Rattle.gh_base.specs.declared.kind.Kind.{Kind}
use Rattle.gh_base.specs.declared.kind.Kind.TheVariants as kind
use Rattle.gh_doorbell.specs.Bell.{new_words}
use Rattle.gh_model.specs.declared.rows.ObjectRow.{ObjectRow}
use Rattle.gh_objects.specs.Headers.{HeaderTable, header_inserted, new_index}
use Rattle.gh_objects.specs.declared.header.Header.{Header}
use Rattle.gh_parts.specs.Bodies.{space_in}
use Rattle.gh_parts.specs.Index.{indexed}
use Rattle.gh_parts.specs.Shares.{with_place}
use Rattle.gh_parts.specs.Slots.{new_slots}
use Rattle.gh_parts.specs.declared.body.Body.{Body}
use Rattle.gh_parts.specs.declared.body.Body.TheVariants.{Bell, Extent, NewQueue, Nothing}
use Rattle.gh_parts.specs.declared.journal.Account.{Account}
use Rattle.gh_parts.specs.declared.parts.Parts.{Parts}
use Rattle.gh_parts.specs.declared.slots.Slots.{Slots}

-- the body of a new object: a bell's words are those of a new one, a queue has no room, an extent
-- no span and an address space no row
abbrev pub IsNewBody : Kind → Body → Type 0
IsNewBody kind.Partition body = body ≡ Nothing
IsNewBody kind.Cspace body = body ≡ Nothing
IsNewBody kind.Space body = IsSomeAnd (space_in body) IsEmptySpace
IsNewBody kind.Extent body = body ≡ Extent None
IsNewBody kind.Bell body = body ≡ Bell new_words
IsNewBody kind.Queue body = body ≡ NewQueue

-- the header of a new object in the partition at an index
abbrev pub new_header : ℕ → ObjectRow → Header
new_header home row = record {
  kind = row.kind;
  partition = indexed home;
  serial = row.serial;
  stage = row.stage;
}

-- the slots with those of a new capability space
abbrev pub with_space : Kind → Serial → List Slots → List Slots
with_space kind.Cspace serial all = all ++ new_slots serial ∷ []
with_space _ serial all = all

-- the account of a partition without a quota, and with a quota that no other gave and the one unit
-- used that the partition itself costs
abbrev pub new_account : Serial → Serial → Account
new_account partition parent = record {
  partition = partition;
  parent = parent;
  units = record { quota = 0; used = 0; given = 0 };
}

abbrev pub boot_account : Serial → ℕ → Account
boot_account partition quota = record {
  partition = partition;
  parent = record { 0 = 0 };
  units = record { quota = quota; used = 1; given = 0 };
}

-- the accounts with that of a new partition, which has no quota
abbrev pub with_account : Kind → Serial → Serial → List Account → List Account
with_account kind.Partition serial parent all = all ++ new_account serial parent ∷ []
with_account _ serial parent all = all

-- the parts with the slots of a new capability space, or the account of a new partition
abbrev pub opened : ObjectRow → Parts → Parts
opened row parts = record parts {
  journal = record (parts.journal) {
    slots = with_space row.kind row.serial parts.journal.slots;
    accounts = with_account row.kind row.serial row.partition parts.journal.accounts;
  };
}

-- the parts with the account of a new boot partition
abbrev pub booted : Serial → ℕ → Parts → Parts
booted partition quota parts = record parts {
  journal = record (parts.journal) {
    accounts = parts.journal.accounts ++ boot_account partition quota ∷ [];
  };
}

-- the parts with a new object at an index: these are the headers, and so much of it is counted
abbrev pub entered_at : HeaderTable → ℕ → Serial → ℕ → Body → ℕ → Parts → Parts
entered_at table index serial cost body references parts = record parts {
  table = table;
  shares = with_place parts.shares index (record { cost = cost; body = body });
  journal = record (parts.journal) {
    counts = slice_set parts.journal.counts index
        (Some (record { serial = serial; references = references; retired = false }));
    retirements = slice_set parts.journal.retirements index None;
    next_serial = parts.journal.next_serial + 1;
  };
}

-- the parts with a new object of a header, in its partition's block
abbrev pub entered : Header → ℕ → Body → ℕ → Parts → Parts
entered header cost body references parts =
    entered_at (header_inserted parts.table header) (new_index parts.table header.partition.0)
    header.serial cost body references parts
