-- Reading objects one after another, as a loop does.
use Rattle.std.proofs.Common.{◌≡◌, ℕ, suc, ◌-◌, ◌+◌, ◌≤◌, ◌<◌, List, [], ◌∷◌, ◌++◌, Result, Ok, Err, refl, sym, ap, ◌∙◌, append_assoc, arith}
use Rattle.std.proofs.lemmas.List.{append-nil}
use Rattle.modbus_frame.specs.declared.fault.Reason.{Reason}
use Rattle.modbus_frame.specs.declared.fault.PduError.{PduError}
use Rattle.modbus_frame.specs.declared.fault.PduError.TheVariants as error
use Rattle.modbus_frame.specs.declared.identification.DeviceIdObject.{DeviceIdObject}
use Rattle.modbus_pdu.specs.Decodes.{◌>>=◌, Fails}
use Rattle.modbus_pdu.specs.ResponseOf.{object_at, objects_at}

-- what was read before, and what is still read
abbrev pub with_front : List DeviceIdObject → Result (List DeviceIdObject × ℕ) Reason → Result (List DeviceIdObject × ℕ) Reason
with_front front read = read >>= λ x. Ok (front ++ x.0, x.1)

regroup : (front : List DeviceIdObject) (o : DeviceIdObject) (read : Result (List DeviceIdObject × ℕ) Reason) → with_front front (read >>= λ x. Ok (o ∷ x.0, x.1)) ≡ with_front (front ++ o ∷ []) read
regroup front o (Ok x) = ap (λ (os : List DeviceIdObject). Ok (os, x.1)) (simp append_assoc)
regroup front o (Err e) = refl

pub goes_on : (front : List DeviceIdObject) (count i place after : ℕ) (pdu : List ℕ) (o : DeviceIdObject) (total : Result (List DeviceIdObject × ℕ) Reason) → i < count → object_at place pdu ≡ Ok (o, after)
    → with_front front (objects_at (count - i) place pdu) ≡ total → with_front (front ++ o ∷ []) (objects_at (count - (i + 1)) after pdu) ≡ total
unfolding objects_at
goes_on front count i place after pdu o total lt h so_far =
    let k : count - i ≡ suc (count - (i + 1)) = omega arith in
    let one : with_front front (objects_at (count - i) place pdu) ≡ with_front (front ++ o ∷ []) (objects_at (count - (i + 1)) after pdu) = rw (k, h) (regroup front o (objects_at (count - (i + 1)) after pdu)) in
    sym one ∙ so_far

pub ends : (e : PduError) (front : List DeviceIdObject) (count i place : ℕ) (pdu : List ℕ) (total : Result (List DeviceIdObject × ℕ) Reason) → i < count → Fails e (object_at place pdu)
    → with_front front (objects_at (count - i) place pdu) ≡ total → Fails e total
unfolding objects_at
ends error.NoMemory front count i place pdu total lt h so_far = tt
ends (error.Refused r) front count i place pdu total lt h so_far =
    let k : count - i ≡ suc (count - (i + 1)) = omega arith in
    let one : with_front front (objects_at (count - i) place pdu) ≡ Err r = rw (k, h) refl in
    sym so_far ∙ one

pub is_done : (front : List DeviceIdObject) (count i place : ℕ) (pdu : List ℕ) (total : Result (List DeviceIdObject × ℕ) Reason) → count ≤ i → with_front front (objects_at (count - i) place pdu) ≡ total → total ≡ Ok (front, place)
unfolding objects_at
is_done front count i place pdu total le so_far =
    let k : count - i ≡ 0 = omega arith in
    let one : with_front front (objects_at (count - i) place pdu) ≡ Ok (front, place) = rw k (ap (λ (os : List DeviceIdObject). Ok (os, place)) (append-nil front)) in
    sym so_far ∙ one
