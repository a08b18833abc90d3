-- Objects that are written are read again.
use Rattle.std.proofs.Common.{◌≡◌, ℕ, ◌+◌, ◌≤◌, List, [], ◌∷◌, ◌++◌, length, get_or, take, drop, Ok, refl, arith, length-append, append_assoc, add-zero}
use Rattle.std.proofs.lemmas.Bool.Decides.{nat_tests}
use Rattle.std.proofs.lemmas.List.{get_or-append-add}
use Rattle.std.proofs.Math.Seq.{drop-append-add, take-append_seam, get_or-append_seam}
use Rattle.modbus_frame.specs.declared.identification.DeviceIdObject.{DeviceIdObject}
use Rattle.modbus_pdu.specs.ResponseOf.{object_at, objects_at}
use Rattle.modbus_pdu.specs.ResponsePdu.{object, objects}

-- an object, by the bytes at its places
object_read : (o : DeviceIdObject) (pdu : List ℕ) (place : ℕ) → get_or pdu place 0 ≡ o.id → get_or pdu (place + 1) 0 ≡ length o.value
    → take (length o.value) (drop (place + 2) pdu) ≡ o.value → place + 2 + length o.value ≤ length pdu → object_at place pdu ≡ Ok (o, place + 2 + length o.value)
unfolding object_at
object_read o pdu place id size value fits = rw (id, size, value) (grind (arith, nat_tests))

-- one object, wherever it stands
object_back : (front : List ℕ) (o : DeviceIdObject) (more : List ℕ) → object_at (length front) (front ++ (object o ++ more)) ≡ Ok (o, length front + 2 + length o.value)
object_back front o more =
    let rest = object o ++ more in
    let id : get_or (front ++ rest) (length front) 0 ≡ o.id = get_or-append_seam front o.id (length o.value ∷ o.value ++ more) 0 in
    let size : get_or (front ++ rest) (length front + 1) 0 ≡ length o.value = get_or-append-add front rest 1 0 in
    let value : take (length o.value) (drop (length front + 2) (front ++ rest)) ≡ o.value = rw (drop-append-add front rest 2) (take-append_seam o.value more) in
    let fits : length front + 2 + length o.value ≤ length (front ++ rest) = omega (arith, length-append front rest, length-append o.value more) in
    object_read o (front ++ rest) (length front) id size value fits

-- the objects after a front, and the place after them
pub objects_back : (front : List ℕ) (os : List DeviceIdObject) → objects_at (length os) (length front) (front ++ objects os) ≡ Ok (os, length front + length (objects os))
unfolding objects_at objects
objects_back front [] = rw add-zero refl
objects_back front (o ∷ os) =
    let after = front ++ object o in
    let grown : length after ≡ length front + 2 + length o.value = omega (arith, length-append front (object o)) in
    let whole : length after + length (objects os) ≡ length front + length (object o ++ objects os) = omega (arith, grown, length-append o.value (objects os)) in
    let pdu : after ++ objects os ≡ front ++ (object o ++ objects os) = append_assoc front (object o) (objects os) in
    let others : objects_at (length os) (length front + 2 + length o.value) (front ++ (object o ++ objects os)) ≡ Ok (os, length front + length (object o ++ objects os)) =
    rw (← grown, ← pdu, ← whole) (objects_back after os) in
    rw (object_back front o (objects os), others) refl
