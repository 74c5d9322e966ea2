-- A request reads as it was written.
use Rattle.std.proofs.Common.{◌≡◌, ℕ, ◌+◌, ◌*◌, ◌<◌, ◌^◌}
use Rattle.std.proofs.Common.{◌∷◌, ◌++◌, length, List, [], All, drop, None, Ok}
use Rattle.std.proofs.Common.{refl, arith, sym, ◌∙◌, ap, append_assoc, length-append}
use Rattle.std.specs.Int.{w16, w32, w64, to_le_bytes}
use Rattle.std.specs.List.{flat_map}
use Rattle.std.proofs.Math.Seq.{drop-append_seam}
use Rattle.std.proofs.lemmas.Grind.{common_steps}
use Rattle.std.proofs.lemmas.List.{drop-drop}
use Rattle.std.proofs.lemmas.List.Elements.{All-head, All-tail}
use Rattle.std.proofs.lemmas.Nat.{from_le_bytes-to_le_bytes_2, from_le_bytes-to_le_bytes_4}
use Rattle.std.proofs.lemmas.Nat.{from_le_bytes-to_le_bytes_8}
use Rattle.gh_base.specs.Bytes.{u8_at, u16_at, u32_at, u64_at}
use Rattle.gh_base.specs.declared.rm.MemRequest.{MemRequest}
use Rattle.gh_base.specs.declared.rm.Request.{Request}
use Rattle.gh_base.specs.declared.rm.Request.TheVariants.{Lend, Share, Donate}
use Rattle.gh_base.specs.declared.rm.Request.TheVariants.{Accept, Release, Reclaim}
use Rattle.gh_base.specs.RmLayout.{MemoryFits, RequestFits, access_entry}
use Rattle.gh_base.specs.RmLayout.{access_entry_bytes, entries, memory_asked, memory_bytes}
use Rattle.gh_base.specs.RmLayout.{memory_entry, memory_entry_bytes, memory_part_bytes}
use Rattle.gh_base.specs.RmLayout.{memory_refusal, request_bytes, request_id, request_of}

-- ---- numbers

u16_front : (n : ℕ) (rest : List ℕ) → n < 2 ^ 16 → u16_at 0 (to_le_bytes w16 n ++ rest) ≡ n
unfolding u16_at
u16_front n rest fits = from_le_bytes-to_le_bytes_2 n fits

u32_front : (n : ℕ) (rest : List ℕ) → n < 2 ^ 32 → u32_at 0 (to_le_bytes w32 n ++ rest) ≡ n
unfolding u32_at
u32_front n rest fits = from_le_bytes-to_le_bytes_4 n fits

u64_front : (n : ℕ) (rest : List ℕ) → n < 2 ^ 64 → u64_at 0 (to_le_bytes w64 n ++ rest) ≡ n
unfolding u64_at
u64_front n rest fits = from_le_bytes-to_le_bytes_8 n fits

u16_behind : (offset : ℕ) (bytes rest : List ℕ) → drop offset bytes ≡ rest → u16_at offset bytes ≡ u16_at 0 rest
unfolding u16_at
u16_behind offset bytes rest behind = ap (u16_at 0) behind

u32_behind : (offset : ℕ) (bytes rest : List ℕ) → drop offset bytes ≡ rest → u32_at offset bytes ≡ u32_at 0 rest
unfolding u32_at
u32_behind offset bytes rest behind = ap (u32_at 0) behind

u64_behind : (offset : ℕ) (bytes rest : List ℕ) → drop offset bytes ≡ rest → u64_at offset bytes ≡ u64_at 0 rest
unfolding u64_at
u64_behind offset bytes rest behind = ap (u64_at 0) behind

-- ---- entries

-- entries read as they were written, where each one does
entries_written : {E : Type 0} (entry : List ℕ → E) (width : ℕ) (write : E → List ℕ) (P : E → Type 0)
    → ((e : E) (rest : List ℕ) → P e → entry (write e ++ rest) ≡ e)
    → ((e : E) (rest : List ℕ) → drop width (write e ++ rest) ≡ rest)
    → (es : List E) (rest : List ℕ) → All P es
    → entries entry width (length es) (flat_map write es ++ rest) ≡ es
unfolding entries
entries_written entry width write P one behind [] rest fit = refl
entries_written entry width write P one behind (e ∷ es) rest fit =
    let others = flat_map write es ++ rest in
    ap (λ bs. entry bs ∷ entries entry width (length es) (drop width bs)) (append_assoc (write e) (flat_map write es) rest)
    ∙ ap (λ x. x ∷ entries entry width (length es) (drop width (write e ++ others))) (one e others (All-head P e es fit))
    ∙ ap (λ bs. e ∷ entries entry width (length es) bs) (behind e others)
    ∙ ap (λ xs. e ∷ xs) (entries_written entry width write P one behind es rest (All-tail P e es fit))

length_written : {E : Type 0} (width : ℕ) (write : E → List ℕ) → ((e : E) → length (write e) ≡ width)
    → (es : List E) → length (flat_map write es) ≡ length es * width
length_written width write one [] = omega arith
length_written width write one (e ∷ es) =
    length-append (write e) (flat_map write es)
    ∙ ap (λ n. n + length (flat_map write es)) (one e)
    ∙ ap (λ n. width + n) (length_written width write one es)
    ∙ grind arith

access_written : (e : ℕ × ℕ) (rest : List ℕ) → e.0 < 2 ^ 16 → access_entry (access_entry_bytes e ++ rest) ≡ e
access_written e rest fits = ap (λ vm. (vm, e.1)) (u16_front e.0 (e.1 ∷ 0 ∷ rest) fits)

memory_written : (e : ℕ × ℕ) (rest : List ℕ) → (e.0 < 2 ^ 64) × (e.1 < 2 ^ 64)
    → memory_entry (memory_entry_bytes e ++ rest) ≡ e
memory_written e rest fits =
    ap (λ address. (address, u64_at 8 (memory_entry_bytes e ++ rest)))
    (u64_front e.0 (to_le_bytes w64 e.1 ++ rest) fits.0)
    ∙ ap (λ size. (e.0, size))
    (u64_behind 8 (memory_entry_bytes e ++ rest) (to_le_bytes w64 e.1 ++ rest) refl
    ∙ u64_front e.1 rest fits.1)

-- ---- a memory request

-- bytes whose counts are these are of the layout, and nothing refuses them
not_refused : (n m : ℕ) (bytes : List ℕ) → u32_at 8 bytes ≡ n → u16_at (12 + n * 4) bytes ≡ m
    → length bytes ≡ 12 + n * 4 + 4 + m * 16 + 4 → u32_at (12 + n * 4 + 4 + m * 16) bytes ≡ 0
    → u8_at 0 bytes ≡ 0 → u8_at 2 bytes ≡ 0 → memory_refusal bytes ≡ None
not_refused n m bytes counted counted_memory whole attributes mem_type flags =
    rw (counted, counted_memory, whole, attributes, mem_type, flags) (grind (arith, common_steps))

asked_of : (n m : ℕ) (bytes : List ℕ) (r : MemRequest) → u32_at 8 bytes ≡ n → u16_at (12 + n * 4) bytes ≡ m
    → u32_at 4 bytes ≡ r.label → entries access_entry 4 n (drop 12 bytes) ≡ r.access
    → entries memory_entry 16 m (drop (12 + n * 4 + 4) bytes) ≡ r.memory → memory_asked bytes ≡ r
asked_of n m bytes r counted counted_memory label access memory =
    rw (counted, counted_memory, label, access, memory)

-- where the parts of a written memory request stand, and what they hold
record IsWritten (r : MemRequest) : Type 0 where
  label : u32_at 4 (memory_bytes r) ≡ r.label
  access_count : u32_at 8 (memory_bytes r) ≡ length r.access
  memory_count : u16_at (12 + length r.access * 4) (memory_bytes r) ≡ length r.memory
  whole : length (memory_bytes r) ≡ 12 + length r.access * 4 + 4 + length r.memory * 16 + 4
  attributes : u32_at (12 + length r.access * 4 + 4 + length r.memory * 16) (memory_bytes r) ≡ 0
  access : entries access_entry 4 (length r.access) (drop 12 (memory_bytes r)) ≡ r.access
  memory : entries memory_entry 16 (length r.memory) (drop (12 + length r.access * 4 + 4) (memory_bytes r)) ≡ r.memory

access_length : (r : MemRequest) → length (flat_map access_entry_bytes r.access) ≡ length r.access * 4
access_length r = length_written 4 access_entry_bytes (λ e. refl) r.access

memory_length : (r : MemRequest) → length (flat_map memory_entry_bytes r.memory) ≡ length r.memory * 16
memory_length r = length_written 16 memory_entry_bytes (λ e. refl) r.memory

-- what stands behind so many bytes and more
behind : (n m : ℕ) (bytes rest : List ℕ) → drop n bytes ≡ rest → drop (n + m) bytes ≡ drop m rest
behind n m bytes rest first = sym (drop-drop m n bytes) ∙ ap (drop m) first

behind_part : (k : ℕ) (part rest : List ℕ) → length part ≡ k → drop k (part ++ rest) ≡ rest
behind_part k part rest same = ap (λ n. drop n (part ++ rest)) (sym same) ∙ drop-append_seam part rest

behind_access : (r : MemRequest) → drop (12 + length r.access * 4) (memory_bytes r) ≡ memory_part_bytes r
behind_access r =
    behind 12 (length r.access * 4) (memory_bytes r) (flat_map access_entry_bytes r.access ++ memory_part_bytes r) refl
    ∙ behind_part (length r.access * 4) (flat_map access_entry_bytes r.access) (memory_part_bytes r) (access_length r)

behind_count : (r : MemRequest)
    → drop (12 + length r.access * 4 + 4) (memory_bytes r)
    ≡ flat_map memory_entry_bytes r.memory ++ 0 ∷ 0 ∷ 0 ∷ 0 ∷ []
behind_count r = behind (12 + length r.access * 4) 4 (memory_bytes r) (memory_part_bytes r) (behind_access r)

behind_memory : (r : MemRequest)
    → drop (12 + length r.access * 4 + 4 + length r.memory * 16) (memory_bytes r) ≡ 0 ∷ 0 ∷ 0 ∷ 0 ∷ []
behind_memory r =
    behind (12 + length r.access * 4 + 4) (length r.memory * 16) (memory_bytes r)
    (flat_map memory_entry_bytes r.memory ++ 0 ∷ 0 ∷ 0 ∷ 0 ∷ []) (behind_count r)
    ∙ behind_part (length r.memory * 16) (flat_map memory_entry_bytes r.memory) (0 ∷ 0 ∷ 0 ∷ 0 ∷ []) (memory_length r)

whole_length : (r : MemRequest)
    → length (memory_bytes r) ≡ 12 + length r.access * 4 + 4 + length r.memory * 16 + 4
whole_length r =
    let access = flat_map access_entry_bytes r.access in
    let memory = flat_map memory_entry_bytes r.memory in
    omega (
      arith,
      length-append access (memory_part_bytes r),
      length-append memory (0 ∷ 0 ∷ 0 ∷ 0 ∷ []),
      access_length r,
      memory_length r,
    )

is_written : (r : MemRequest) → MemoryFits r → IsWritten r
unfolding u32_at
is_written r fits = record {
  label = u32_front r.label [] fits.label;
  access_count = u32_front (length r.access) [] fits.access;
  memory_count = u16_behind _ (memory_bytes r) _ (behind_access r) ∙ u16_front (length r.memory) _ fits.memory;
  whole = whole_length r;
  attributes = u32_behind _ (memory_bytes r) _ (behind_memory r);
  access = entries_written access_entry 4 access_entry_bytes (λ e. e.0 < 2 ^ 16) access_written (λ e rest. refl)
      r.access (memory_part_bytes r) fits.vms;
  memory = ap (entries memory_entry 16 (length r.memory)) (behind_count r)
      ∙ entries_written memory_entry 16 memory_entry_bytes (λ e. (e.0 < 2 ^ 64) × (e.1 < 2 ^ 64)) memory_written
      (λ e rest. refl) r.memory (0 ∷ 0 ∷ 0 ∷ 0 ∷ []) (λ k d below. (fits.addresses k d below, fits.sizes k d below));
}

memory_not_refused : (r : MemRequest) → MemoryFits r → memory_refusal (memory_bytes r) ≡ None
memory_not_refused r fits =
    let it = is_written r fits in
    not_refused (length r.access) (length r.memory) (memory_bytes r) it.access_count it.memory_count it.whole
    it.attributes refl refl

memory_read : (r : MemRequest) → MemoryFits r → memory_asked (memory_bytes r) ≡ r
memory_read r fits =
    let it = is_written r fits in
    asked_of (length r.access) (length r.memory) (memory_bytes r) r it.access_count it.memory_count it.label
    it.access it.memory

-- ---- all requests

pub request_read : (request : Request) → RequestFits request
    → request_of (request_id request) (request_bytes request) ≡ Ok request
request_read (Lend r) fits = rw (memory_not_refused r fits, memory_read r fits)
request_read (Share r) fits = rw (memory_not_refused r fits, memory_read r fits)
request_read (Donate r) fits = rw (memory_not_refused r fits, memory_read r fits)
request_read (Accept handle address) fits =
    rw (
      u32_front handle (0 ∷ 0 ∷ 0 ∷ 0 ∷ to_le_bytes w64 address) fits.handle,
      u64_behind 8 (request_bytes (Accept handle address)) (to_le_bytes w64 address ++ []) refl,
      u64_front address [] fits.address,
    )
request_read (Release handle) fits = rw (u32_front handle (0 ∷ 0 ∷ 0 ∷ 0 ∷ []) fits)
request_read (Reclaim handle) fits = rw (u32_front handle (0 ∷ 0 ∷ 0 ∷ 0 ∷ []) fits)
