-- The act of a call that fits the present state fits it: its CPU runs, its registers have the
-- call's shape, and its grants stand. What they name was made.
use Rattle.std.proofs.Common.{◌≡◌, ◌==◌, ◌-◌, ◌%◌, ◌^◌, ◌≤◌, ◌<◌, ◌∙◌, inl, inr, ℕ, zero, suc, Bool, true, false, not, List, [], ◌∷◌, length, take, refl, subst, sym, ap, arith, Option, Some, None, find, IsTrue, is_some, if◌then◌else◌}
use Rattle.std.specs.Prelude.{◌&&◌, ◌||◌, Result, Ok, Err, map, slice_get, slice_index, option_map}
use Rattle.std.specs.List.{list_all}
use Rattle.std.proofs.lemmas.Bool.{and_from, eqb-true}
use Rattle.std.proofs.lemmas.Bool.Decides.{nat_tests}
use Rattle.gh_base.specs.Kind.{kind_number}
use Rattle.gh_base.specs.declared.call.Call.{Call}
use Rattle.gh_base.specs.declared.cap_word.Need.{Need}
use Rattle.gh_base.specs.declared.errno.Errno.{Errno}
use Rattle.gh_base.specs.declared.errno.Errno.TheVariants.{ArgInval, CapRevoked, InsufRights, WrongType}
use Rattle.gh_base.specs.declared.frame.Frame.{Frame}
use Rattle.gh_base.specs.declared.ids.Serial.{Serial}
use Rattle.gh_base.specs.declared.kind.Kind.{Kind}
use Rattle.gh_invariant.specs.Grants.{grant_fits, grants_stand}
use Rattle.gh_invariant.specs.NamesLiving.{row_kind}
use Rattle.gh_invariant.proofs.Counting.{found_all, found_passes}
use Rattle.gh_invariant.proofs.KindsStay.{KindStays}
use Rattle.gh_invariant.proofs.SetsOne.{may_exit}
use Rattle.gh_model.specs.Act.{granted}
use Rattle.gh_model.specs.Boot.{is_of_kind}
use Rattle.gh_model.specs.Decisions.{grant_at}
use Rattle.gh_model.specs.Marks.{Grants, Outcome, Seen, on_grant, outcome, word_of}
use Rattle.gh_model.specs.Program.{is_exit}
use Rattle.gh_model.specs.Registers.{Function, breaks_zero, call_of, first_of, function_number, functions, read_function, shape_refusals, shaped}
use Rattle.gh_model.specs.Rows.{is_object}
use Rattle.gh_model.specs.Word.{kind_fits, look_reply, rights_fit, slot_reply}
use Rattle.gh_model.specs.declared.rows.CapabilityRow.{CapabilityRow}
use Rattle.gh_model.specs.declared.rows.ObjectRow.{ObjectRow}
use Rattle.gh_model.specs.declared.state.State.{State}
use Rattle.gh_model.specs.declared.word.Word.{Word}
use Rattle.gh_events.specs.ValidState.{IsFound, StillNames}

-- the shape of a call that is its frame's

ok_is : (a b : Call) (read : Result Call Errno) → read ≡ Ok a → read ≡ Ok b → a ≡ b
ok_is a b read first second = cc

shaped_by : (call other : Call) (bytes : ℕ) (refusal : Option Errno)
    → first_of (shape_refusals call bytes) ≡ refusal → shaped call refusal ≡ Ok other
    → (first_of (shape_refusals other bytes) ≡ None) × (call ≡ other)
shaped_by call other bytes None none is =
    let same : call ≡ other = ok_is call other (Ok call) refl is in
    (subst (λ (one : Call). first_of (shape_refusals one bytes) ≡ None) same none, same)
shaped_by call other bytes (Some errno) refused is = absurd (let never : ⊥ = cc in never)

zero_by : (frame : Frame) (row : Function) (call : Call) (breaks : Bool)
    → (if breaks then Err ArgInval else shaped (row.call frame.x) (first_of (shape_refusals (row.call frame.x) (length frame.bytes)))) ≡ Ok call
    → (first_of (shape_refusals call (length frame.bytes)) ≡ None) × (row.call frame.x ≡ call)
zero_by frame row call true is = absurd (let never : ⊥ = cc in never)
zero_by frame row call false is =
    shaped_by (row.call frame.x) call (length frame.bytes) (first_of (shape_refusals (row.call frame.x) (length frame.bytes))) refl is

-- the row of the table that a frame's call is of
record IsRead (frame : Frame) (found : Option Function) (call : Call) : Type 0 where
  row : Function
  is_found : found ≡ Some row
  reads : row.call frame.x ≡ call
  shape : first_of (shape_refusals call (length frame.bytes)) ≡ None

read_by : (frame : Frame) (found : Option Function) (call : Call)
    → read_function frame found ≡ Ok call → IsRead frame found call
read_by frame None call is = absurd (let never : ⊥ = cc in never)
read_by frame (Some row) call is =
    let parts = zero_by frame row call (breaks_zero frame.x row.zero) is in
    record { row = row; is_found = refl; reads = parts.1; shape = parts.0 }

read_of : (frame : Frame) (call : Call) → call_of frame ≡ Ok call
    → IsRead frame (find (λ row. row.number == function_number frame) functions) call
read_of frame call is =
    read_by frame (find (λ row. row.number == function_number frame) functions) call is

pub shape_of_call : (frame : Frame) (call : Call) → call_of frame ≡ Ok call
    → first_of (shape_refusals call (length frame.bytes)) ≡ None
shape_of_call frame call is = (read_of frame call is).shape

-- a call that may exit is that of an exit frame

exit_row : List ℕ → Function → Bool
exit_row x row = not (may_exit (row.call x)) || (row.number == 0x8240)

exit_rows : (x : List ℕ) → IsTrue (list_all (exit_row x) functions)
unfolding exit_row
exit_rows x = refl

exit_by : (exits same : Bool) → (not exits || same) ≡ true → exits ≡ true → same ≡ true
exit_by true same either is = either
exit_by false same either is = absurd (let never : ⊥ = cc in never)

exit_number : (n x : ℕ) → n ≡ 0x8240 → (n == (x - 0xc600_0000)) ≡ true → (x == 0xc600_8240) ≡ true
exit_number n x is same =
    let equal : n ≡ x - 0xc600_0000 = eqb-true n (x - 0xc600_0000) same in
    let value : x ≡ 0xc600_8240 = omega (arith, is, equal) in
    grind (arith, nat_tests)

pub exit_of_call : (frame : Frame) (call : Call) → call_of frame ≡ Ok call → may_exit call ≡ true
    → is_exit frame ≡ true
unfolding exit_row
exit_of_call frame call is exits_now =
    let read : IsRead frame (find (λ row. row.number == function_number frame) functions) call = read_of frame call is in
    let fits : exit_row frame.x read.row ≡ true = found_all (λ row. row.number == function_number frame) (exit_row frame.x) functions read.row (exit_rows frame.x) read.is_found in
    let there : may_exit (read.row.call frame.x) ≡ true = ap may_exit read.reads ∙ exits_now in
    let number : (read.row.number == 0x8240) ≡ true = exit_by (may_exit (read.row.call frame.x)) (read.row.number == 0x8240) fits there in
    exit_number read.row.number (slice_index frame.x 0 % 2 ^ 32) (eqb-true read.row.number 0x8240 number)
    (found_passes (λ row. row.number == function_number frame) functions read.row read.is_found)

-- grants

kind_by : (found : Option ObjectRow) (k needed : Kind)
    → (kind_number needed == kind_number k) ≡ true
    → (not (is_some found) || is_of_kind k found) ≡ true
    → (not (is_some found) || is_of_kind needed found) ≡ true
kind_by None k needed same fits = refl
kind_by (Some row) k needed same fits = grind (arith, nat_tests)

grant_needed : (objects : List ObjectRow) (row : CapabilityRow) (needed : Option Kind)
    → kind_fits needed row.kind ≡ true → IsTrue (grant_fits objects row.serial (Some row.kind))
    → IsTrue (grant_fits objects row.serial needed)
grant_needed objects row None kinds fits = refl
grant_needed objects row (Some needed) kinds fits =
    kind_by (find (is_object row.serial.0) objects) row.kind needed kinds fits

-- a look that is granted: the capability is valid and of the kind that is needed
record IsGrant (word : Word) (need : Need) : Type 0 where
  row : CapabilityRow
  holds : word.row ≡ Some row
  valid : row.valid ≡ true
  kinds : kind_fits need.kind row.kind ≡ true

reply_by : (row : CapabilityRow) (need : Need) (serial : Serial) (valid fits lacks : Bool)
    → (if not valid then Err CapRevoked else (if not fits then Err WrongType else (if lacks then Err InsufRights else Ok row.serial))) ≡ Ok serial
    → (valid ≡ true) × (fits ≡ true)
reply_by row need serial false fits lacks is = absurd (let never : ⊥ = cc in never)
reply_by row need serial true false lacks is = absurd (let never : ⊥ = cc in never)
reply_by row need serial true true lacks is = (refl, refl)

slot_by : (found : Option CapabilityRow) (word : Word) (need : Need) (serial : Serial)
    → word.row ≡ found → slot_reply found need ≡ Ok serial → IsGrant word need
slot_by None word need serial holds is = absurd (let never : ⊥ = cc in never)
slot_by (Some row) word need serial holds is =
    let parts = reply_by row need serial row.valid (kind_fits need.kind row.kind) (not (rights_fit need.rights.0 row.rights.0) || (need.master && not row.master)) is in
    record { row = row; holds = holds; valid = parts.0; kinds = parts.1 }

grants_on : (reply : Result Serial Errno) (others : Outcome) (word : Word) (need : Need)
    → look_reply word need ≡ reply → on_grant reply others ≡ Grants
    → IsGrant word need × (others ≡ Grants)
grants_on (Err errno) others word need is came = absurd (let never : ⊥ = cc in never)
grants_on (Ok serial) others word need is came =
    (slot_by word.row word need serial refl is, came)

grant_stands : (s : State) (word : Word) (need : Need) → IsGrant word need → IsFound s word
    → IsTrue (grant_fits s.objects (granted word) need.kind)
grant_stands s word need grant found =
    let names : StillNames s grant.row = found grant.row grant.holds grant.valid in
    let fits : IsTrue (grant_fits s.objects grant.row.serial need.kind) = grant_needed s.objects grant.row need.kind grant.kinds names.kind in
    subst (λ (row : Option CapabilityRow). IsTrue (grant_fits s.objects (granted (record { row = row; set_at = word.set_at })) need.kind)) (sym grant.holds) fits

pub grants_fit_all : (s : State) (needs : List (ℕ × Need)) (seen : List Seen)
    → outcome needs (map word_of seen) ≡ Grants
    → ((i : ℕ) (one : Seen) → slice_get seen i ≡ Some one → IsFound s one.word)
    → IsTrue (grants_stand s.objects needs (map granted (take (length needs) (map word_of seen))))
grants_fit_all s [] seen came found = refl
grants_fit_all s (need ∷ needs) [] came found = absurd (let never : ⊥ = cc in never)
grants_fit_all s (need ∷ needs) (one ∷ seen) came found =
    let parts = grants_on (look_reply one.word need.1) (outcome needs (map word_of seen)) one.word need.1 refl came in
    and_from (grant_fits s.objects (granted one.word) need.1.kind) (grants_stand s.objects needs (map granted (take (length needs) (map word_of seen))))
    (grant_stands s one.word need.1 parts.0 (found 0 one refl))
    (grants_fit_all s needs seen parts.1 (λ i other there. found (suc i) other there))

-- what the looks granted was made

granted_made : (s : State) (word : Word) (need : Need) → IsGrant word need → IsFound s word
    → (granted word).0 < s.next_serial
granted_made s word need grant found =
    let names : StillNames s grant.row = found grant.row grant.holds grant.valid in
    subst (λ (row : Option CapabilityRow). (granted (record { row = row; set_at = word.set_at })).0 < s.next_serial) (sym grant.holds) names.made

pub grants_made : (s : State) (needs : List (ℕ × Need)) (seen : List Seen)
    → outcome needs (map word_of seen) ≡ Grants
    → ((i : ℕ) (one : Seen) → slice_get seen i ≡ Some one → IsFound s one.word)
    → 0 < s.next_serial → (place : ℕ)
    → (grant_at (map granted (take (length needs) (map word_of seen))) place).0 < s.next_serial
grants_made s [] seen came found some place = some
grants_made s (need ∷ needs) [] came found some place = absurd (let never : ⊥ = cc in never)
grants_made s (need ∷ needs) (one ∷ seen) came found some zero =
    granted_made s one.word need.1 (grants_on (look_reply one.word need.1) (outcome needs (map word_of seen)) one.word need.1 refl came).0 (found 0 one refl)
grants_made s (need ∷ needs) (one ∷ seen) came found some (suc place) =
    grants_made s needs seen (grants_on (look_reply one.word need.1) (outcome needs (map word_of seen)) one.word need.1 refl came).1
    (λ i other there. found (suc i) other there) some place

-- what a grant names behind an event

kept_by : (old new : Option ObjectRow) (k : Kind) → option_map row_kind new ≡ option_map row_kind old
    → (not (is_some old) || is_of_kind k old) ≡ true → (not (is_some new) || is_of_kind k new) ≡ true
kept_by old None k same fits = refl
kept_by None (Some row) k same fits = absurd (let never : ⊥ = cc in never)
kept_by (Some old) (Some row) k same fits =
    let kinds : row.kind ≡ old.kind = cc in
    subst (λ (one : Kind). (kind_number one == kind_number k) ≡ true) (sym kinds) fits

none_by : (new : Option ObjectRow) (k : Kind) → option_map row_kind new ≡ None
    → (not (is_some new) || is_of_kind k new) ≡ true
none_by None k gone = refl
none_by (Some row) k gone = absurd (let never : ⊥ = cc in never)

pub names_on : (s new : State) (row : CapabilityRow) → KindStays s.objects new.objects row.serial.0
    → s.next_serial ≤ new.next_serial → StillNames s row → StillNames new row
names_on s new row (inl gone) rises names = record {
  made = omega (arith, rises, names.made);
  kind = none_by (find (is_object row.serial.0) new.objects) row.kind gone;
}
names_on s new row (inr same) rises names = record {
  made = omega (arith, rises, names.made);
  kind = kept_by (find (is_object row.serial.0) s.objects) (find (is_object row.serial.0) new.objects) row.kind same names.kind;
}
