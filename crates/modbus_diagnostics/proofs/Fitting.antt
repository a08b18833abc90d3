-- What is told of objects fits a PDU.
use Rattle.std.proofs.Common.{ℕ, ◌≤◌, List, [], ◌∷◌, sym, subst, ap, arith}
use Rattle.std.specs.Prelude.{Ok}
use Rattle.std.specs.List.{All}
use Rattle.modbus_frame.specs.declared.code.ReadCode.{ReadCode}
use Rattle.modbus_frame.specs.declared.code.ReadCode.TheVariants.{Basic, Regular, Extended, Specific}
use Rattle.modbus_frame.specs.declared.identification.DeviceIdObject.{DeviceIdObject}
use Rattle.modbus_frame.specs.declared.identification.ReadDeviceIdentificationResponse.{ReadDeviceIdentificationResponse}
use Rattle.modbus_frame.specs.declared.response.Response.TheVariants as response
use Rattle.modbus_pdu.specs.Limits.{max_pdu}
use Rattle.modbus_pdu.specs.ResponseLaws.{response_size}
use Rattle.modbus_diagnostics.specs.IdentityAnswers.{objects_size, most_objects, StreamsObjects, IsOne, FindsObjects}
use Rattle.modbus_diagnostics.specs.Identity.{IdentityState, IsIdentity, FitsAlone}
use Rattle.modbus_diagnostics.proofs.Parts.{one_is}

abbrev pub Fits : ReadDeviceIdentificationResponse → Type 0
Fits found = response_size (response.ReadDeviceIdentification found) ≤ max_pdu

-- so many bytes of objects fit behind the head
few : (found : ReadDeviceIdentificationResponse) → objects_size found.device_id_objects ≤ most_objects → Fits found
few found within = omega (arith, within)

stream_fits : (objects : List DeviceIdObject) (code : ReadCode) (id : ℕ) (found : ReadDeviceIdentificationResponse) → StreamsObjects objects code id found → Fits found
stream_fits objects code id found s =
    few found (subst (λ (os : List DeviceIdObject). objects_size os ≤ most_objects) (sym (ap (λ (r : ReadDeviceIdentificationResponse). r.device_id_objects) s.tells)) s.fits)

alone_fits : (it : DeviceIdObject) → FitsAlone it → objects_size (it ∷ []) ≤ most_objects
alone_fits it fits = omega (arith, fits)

one_fits : (objects : List DeviceIdObject) (id : ℕ) (found : ReadDeviceIdentificationResponse) → All FitsAlone objects → IsOne objects id found → Fits found
one_fits objects id found all one =
    few found (subst (λ (os : List DeviceIdObject). objects_size os ≤ most_objects) (sym (ap (λ (r : ReadDeviceIdentificationResponse). r.device_id_objects) one.tells))
    (alone_fits one.it (one_is FitsAlone one.before one.after one.it (subst (λ (os : List DeviceIdObject). All FitsAlone os) one.parts all))))

pub objects_fit : (it : IdentityState) (code : ReadCode) (id : ℕ) (found : ReadDeviceIdentificationResponse) → IsIdentity it → FindsObjects it.objects code id (Ok found) → Fits found
objects_fit it Basic id found is finds = stream_fits it.objects Basic id found finds
objects_fit it Regular id found is finds = stream_fits it.objects Regular id found finds
objects_fit it Extended id found is finds = stream_fits it.objects Extended id found finds
objects_fit it Specific id found is finds = one_fits it.objects id found is.1 finds
