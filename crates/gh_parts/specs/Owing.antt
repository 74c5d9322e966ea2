-- References that are counted and not in the rows, in the midst of a change.
use Rattle.std.specs.Prelude.{◌≡◌, ℕ, Option, Some, None, IfSome}
use Rattle.gh_base.specs.declared.ids.Serial.{Serial}
use Rattle.gh_objects.specs.Counts.{count_at, count_changed, without_reference}
use Rattle.gh_objects.specs.Headers.{header_at}
use Rattle.gh_objects.specs.declared.count.Count.{Count}
use Rattle.gh_parts.specs.Index.{AreIndexed, index_of}
use Rattle.gh_parts.specs.declared.parts.Parts.{Parts}

-- the count of the live object with this serial
abbrev pub count_for : Parts → ℕ → Option Count
count_for parts serial = count_at parts.journal.counts (index_of parts.table.headers serial)

-- the parts with the count of an object changed
abbrev pub recounted : (Count → Count) → Parts → ℕ → Parts
recounted change parts serial = record parts {
  journal = record (parts.journal) {
    counts = count_changed change parts.journal.counts (index_of parts.table.headers serial);
  };
}

-- an object is found by its serial, no count is where no object is, and the object's count is so,
-- if there is the object
pub record HasCount (parts : Parts) (serial : ℕ) (is : ℕ → Type 0) : Type 0 where
  pub indexed : AreIndexed parts.table.headers
  pub bare : (index : ℕ) → header_at parts.table.headers index ≡ None
      → count_at parts.journal.counts index ≡ None
  pub count : IfSome (count_for parts serial) (λ (count : Count). is count.references)

-- the parts with a reference less counted to an object that is named
abbrev pub settled : Option Serial → Parts → Parts
settled None parts = parts
settled (Some object) parts = recounted without_reference parts object.0
