-- The first bytes of a device identification tell its length.
use Rattle.std.proofs.Common.{◌≡◌, ℕ, suc, ◌+◌, ◌-◌, ◌≤◌, List, [], ◌∷◌, ◌++◌, length, Some, Ok, refl, ap, ◌∙◌, arith, length-append, append_assoc, add-zero}
use Rattle.std.specs.Prelude.{slice_get}
use Rattle.std.specs.Option.{option_map}
use Rattle.std.proofs.lemmas.Bool.{le-leb}
use Rattle.modbus_frame.specs.Codes.{read_code_number, level_number}
use Rattle.modbus_frame.specs.declared.identification.DeviceIdObject.{DeviceIdObject}
use Rattle.modbus_frame.specs.declared.identification.ReadDeviceIdentificationResponse.{ReadDeviceIdentificationResponse}
use Rattle.modbus_pdu.specs.ResponsePdu.{flag, object, objects, device_identification_pdu}
use Rattle.modbus_rtu.specs.ResponseHead.{response_head, response_rule, place_after_object, after_objects, identified_len}

-- the byte behind the first one of what follows a front
size_there : (front : List ℕ) (id size : ℕ) (more : List ℕ) → slice_get (front ++ id ∷ size ∷ more) (length front + 1) ≡ Some size
size_there [] id size more = refl
size_there (x ∷ front) id size more = let next : length (x ∷ front) + 1 ≡ suc (length front + 1) = omega arith in rw next (size_there front id size more)

object_passed : (front : List ℕ) (o : DeviceIdObject) (more : List ℕ) → place_after_object (front ++ (object o ++ more)) (length front) ≡ Some (length front + 2 + length o.value)
object_passed front o more =
    let fits : length front + 2 + length o.value ≤ length (front ++ (object o ++ more)) = omega (arith, length-append front (object o ++ more), length-append o.value more) in
    rw (size_there front o.id (length o.value) (o.value ++ more), le-leb (length front + 2 + length o.value) (length (front ++ (object o ++ more))) fits) refl

-- so many objects behind a front end where the bytes end
objects_passed : (front : List ℕ) (os : List DeviceIdObject) → after_objects (front ++ objects os) (length os) (length front) ≡ Some (length front + length (objects os))
unfolding after_objects objects
objects_passed front [] = rw add-zero refl
objects_passed front (o ∷ os) =
    let after = front ++ object o in
    let grown : length after ≡ length front + 2 + length o.value = omega (arith, length-append front (object o)) in
    let whole : length after + length (objects os) ≡ length front + length (object o ++ objects os) = omega (arith, grown, length-append o.value (objects os)) in
    let adu : after ++ objects os ≡ front ++ (object o ++ objects os) = append_assoc front (object o) (objects os) in
    let others : after_objects (front ++ (object o ++ objects os)) (length os) (length front + 2 + length o.value) ≡ Some (length front + length (object o ++ objects os)) =
    rw (← grown, ← adu, ← whole) (objects_passed after os) in
    rw (object_passed front o (objects os)) others

pub identified_head : (slave : ℕ) (found : ReadDeviceIdentificationResponse) → response_head (slave ∷ device_identification_pdu found) ≡ Ok (Some (length (device_identification_pdu found)))
unfolding response_head response_rule identified_len device_identification_pdu
identified_head slave found =
    let front = slave ∷ 0x2B ∷ 0x0E ∷ read_code_number found.read_code ∷ level_number found.conformity_level ∷ flag found.more_follows ∷ found.next_object_id ∷ length found.device_id_objects ∷ [] in
    let end : 8 + length (objects found.device_id_objects) - 1 ≡ 7 + length (objects found.device_id_objects) = omega arith in
    ap (λ o. Ok (option_map (λ end. end - 1) o)) (objects_passed front found.device_id_objects) ∙ ap (λ n. Ok (Some n)) (end ∙ omega arith)
