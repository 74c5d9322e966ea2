-- The index of a live object, by its serial.
use Rattle.std.specs.Prelude.{◌≡◌, ℕ, List, Option, Some, length, position}
use Rattle.std.specs.List.{position_or_len}
use Rattle.std.specs.Option.{option_map, option_map_or}
use Rattle.gh_base.specs.declared.ids.ObjIndex.{ObjIndex}
use Rattle.gh_base.specs.declared.ids.Serial.{Serial}
use Rattle.gh_base.specs.declared.limits.TheConstants.{OBJECT_INDICES}
use Rattle.gh_objects.specs.Headers.{has_serial, header_at}
use Rattle.gh_objects.specs.declared.header.Header.{Header}

-- the index of the live object with this serial; the number of all indices where none has it
abbrev pub index_of : List (Option Header) → ℕ → ℕ
index_of headers serial = position_or_len (has_serial serial) headers

-- the number of an index
abbrev pub indexed : ℕ → ObjIndex
indexed index = record { 0 = index }

-- the index of the live object with this serial, if there is one
abbrev pub found_index : List (Option Header) → ℕ → Option ObjIndex
found_index headers serial = option_map indexed (position (has_serial serial) headers)

-- every index stands in the list, and no two live objects have one serial
pub record AreIndexed (headers : List (Option Header)) : Type 0 where
  pub indices : length headers ≡ OBJECT_INDICES
  pub alone : (index : ℕ) (header : Header) → header_at headers index ≡ Some header
      → index_of headers header.serial.0 ≡ index

-- the serial of the object at an index; 0 where there is none
abbrev pub serial_at : List (Option Header) → ℕ → Serial
serial_at headers index =
    option_map_or (λ (header : Header). header.serial) (header_at headers index) (record { 0 = 0 })

-- the index of the partition in a header; the number of all indices where there is no header
abbrev pub partition_in : Option Header → ℕ
partition_in header = option_map_or (λ (h : Header). h.partition.0) header OBJECT_INDICES

-- the serial of the partition that an object lives in
abbrev pub home_in : List (Option Header) → ℕ → Serial
home_in headers serial =
    serial_at headers (partition_in (header_at headers (index_of headers serial)))
