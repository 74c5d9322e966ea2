-- The fields of a filled capability word, read from its bits.
use Rattle.std.proofs.Common.{◌≡◌, ◌<◌, ◌∙◌, ◌/◌, ◌==◌, ℕ, Bool, true, false, refl, ap, arith}
use Rattle.std.specs.Prelude.{bit_and}
use Rattle.std.proofs.lemmas.Bool.{eqb-true}
use Rattle.std.proofs.lemmas.Nat.{and_le_r, div-mul-add, div_below, mod-mul-add}
use Rattle.gh_base.specs.CapWord.{filled_bits, filled_state, kind_number_of, mark_number, master_number_of, object_of, packed}
use Rattle.gh_base.specs.CapWord.{revoked_bits, rights_of, set_at_of, state_number, state_number_of, state_numbered, state_of}
use Rattle.gh_base.specs.Kind.{kind_number, kind_rights}
use Rattle.gh_base.specs.declared.cap_word.CapState.TheVariants.{Empty}
use Rattle.gh_base.specs.declared.kind.Kind.{Kind}
use Rattle.gh_base.specs.declared.kind.Kind.TheVariants.{Partition, Cspace, Space, Extent, Bell, Queue}

-- six numbers that fit their places
pub record Fit (kind master object rights entry : ℕ) : Type 0 where
  pub kind_fits : kind < 8
  pub master_fits : master < 2
  pub object_fits : object < 1024
  pub rights_fit : rights < 65536
  pub entry_fits : entry < 4294967296

module _ (state kind master object rights entry : ℕ) (fit : Fit kind master object rights entry) where
  pub state_packed : state_number_of (packed state kind master object rights entry) ≡ state
  state_packed =
      rw (
        div-mul-add _ 4294967296 _ fit.entry_fits,
        div-mul-add _ 65536 _ fit.rights_fit,
        div-mul-add _ 1024 _ fit.object_fits,
        div-mul-add _ 2 _ fit.master_fits,
        div-mul-add _ 8 _ fit.kind_fits,
      ) refl

  pub kind_packed : kind_number_of (packed state kind master object rights entry) ≡ kind
  kind_packed =
      rw (
        div-mul-add _ 4294967296 _ fit.entry_fits,
        div-mul-add _ 65536 _ fit.rights_fit,
        div-mul-add _ 1024 _ fit.object_fits,
        div-mul-add _ 2 _ fit.master_fits,
        mod-mul-add _ 8 _ fit.kind_fits,
      ) refl

  pub master_packed : master_number_of (packed state kind master object rights entry) ≡ master
  master_packed =
      rw (
        div-mul-add _ 4294967296 _ fit.entry_fits,
        div-mul-add _ 65536 _ fit.rights_fit,
        div-mul-add _ 1024 _ fit.object_fits,
        mod-mul-add _ 2 _ fit.master_fits,
      ) refl

  pub object_packed : object_of (packed state kind master object rights entry) ≡ object
  object_packed =
      rw (
        div-mul-add _ 4294967296 _ fit.entry_fits,
        div-mul-add _ 65536 _ fit.rights_fit,
        mod-mul-add _ 1024 _ fit.object_fits,
      ) refl

  pub rights_packed : rights_of (packed state kind master object rights entry) ≡ rights
  rights_packed =
      rw (div-mul-add _ 4294967296 _ fit.entry_fits, mod-mul-add _ 65536 _ fit.rights_fit) refl

  pub entry_packed : set_at_of (packed state kind master object rights entry) ≡ entry
  entry_packed = mod-mul-add _ 4294967296 _ fit.entry_fits

-- a number of an entry is the word of an empty slot
pub empty_state : (number : ℕ) → number < 4294967296 → state_of number ≡ Empty
empty_state number small =
    let none : number / 4294967296 ≡ 0 =
    omega (arith, div_below number 4294967296 1 (omega arith) (omega arith)) in
    rw none refl

pub kind_fits : (k : Kind) → kind_number k < 8
kind_fits Partition = omega arith
kind_fits Cspace = omega arith
kind_fits Space = omega arith
kind_fits Extent = omega arith
kind_fits Bell = omega arith
kind_fits Queue = omega arith

pub mark_fits : (master : Bool) → mark_number master < 2
mark_fits true = omega arith
mark_fits false = omega arith

kind_rights_fit : (k : Kind) → kind_rights k < 65536
kind_rights_fit Partition = omega arith
kind_rights_fit Cspace = omega arith
kind_rights_fit Space = omega arith
kind_rights_fit Extent = omega arith
kind_rights_fit Bell = omega arith
kind_rights_fit Queue = omega arith

-- rights of a kind fit 16 bits
pub rights_small : (k : Kind) (rights : ℕ) → (bit_and rights (kind_rights k) == rights) ≡ true
    → rights < 65536
rights_small k rights within =
    omega (arith, eqb-true _ _ within, and_le_r rights (kind_rights k), kind_rights_fit k)

numbered_filled : (valid : Bool)
    → state_numbered (state_number (filled_state valid)) ≡ filled_state valid
numbered_filled true = refl
numbered_filled false = refl

-- a filled word is valid or revoked
pub filled_word_state : (valid : Bool) (k : Kind) (master : Bool) (object rights entry : ℕ)
    → Fit (kind_number k) (mark_number master) object rights entry
    → state_of (filled_bits valid k master object rights entry) ≡ filled_state valid
filled_word_state valid k master object rights entry fit =
    ap state_numbered (state_packed (state_number (filled_state valid)) _ _ _ _ _ fit)
    ∙ numbered_filled valid

-- and once it is revoked it is that of a revoked capability
pub revoked_filled : (valid : Bool) (k : Kind) (master : Bool) (object rights entry number : ℕ)
    → Fit (kind_number k) (mark_number master) object rights entry
    → revoked_bits (filled_bits valid k master object rights entry) number
    ≡ filled_bits false k master object rights number
revoked_filled valid k master object rights entry number fit =
    rw (
      kind_packed (state_number (filled_state valid)) _ _ _ _ _ fit,
      master_packed (state_number (filled_state valid)) _ _ _ _ _ fit,
      object_packed (state_number (filled_state valid)) _ _ _ _ _ fit,
      rights_packed (state_number (filled_state valid)) _ _ _ _ _ fit,
    ) refl
