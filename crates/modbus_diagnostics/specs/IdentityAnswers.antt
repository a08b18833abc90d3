-- What a device answers that is asked what it is (Modbus Application Protocol V1.1b3, sections 6.13 and 6.21).
use Rattle.std.specs.Prelude.{◌≡◌, ◌≢◌, ◌<◌, ◌≤◌, ◌+◌, ◌⊎◌, ℕ, List, [], ◌∷◌, ◌++◌, length, sum_by, All, nat_lt, Bool, true, false, Option, Some, None, Result, Ok, Err, ⊤, if◌then◌else◌}
use Rattle.std.specs.List.{list_any}
use Rattle.modbus_frame.specs.Meaning.{Asked, ReportServerId, ReadDeviceIdentification}
use Rattle.modbus_frame.specs.declared.code.ConformityLevel.{ConformityLevel}
use Rattle.modbus_frame.specs.declared.code.ConformityLevel.TheVariants as level
use Rattle.modbus_frame.specs.declared.code.ExceptionCode.{ExceptionCode}
use Rattle.modbus_frame.specs.declared.code.ExceptionCode.TheVariants.{IllegalDataAddress}
use Rattle.modbus_frame.specs.declared.code.ReadCode.{ReadCode}
use Rattle.modbus_frame.specs.declared.code.ReadCode.TheVariants.{Basic, Regular, Extended, Specific}
use Rattle.modbus_frame.specs.declared.identification.DeviceIdObject.{DeviceIdObject}
use Rattle.modbus_frame.specs.declared.identification.ReadDeviceIdentificationResponse.{ReadDeviceIdentificationResponse}
use Rattle.modbus_frame.specs.declared.response.Response.{Response}
use Rattle.modbus_frame.specs.declared.response.Response.TheVariants as response
use Rattle.modbus_service.specs.declared.service.ServiceError.{ServiceError}
use Rattle.modbus_service.specs.declared.service.ServiceError.TheVariants.{Exception, NoMemory}
use Rattle.modbus_service.specs.OnlyUnit.{Giving}
use Rattle.modbus_service.specs.Outcome.{Outcome, silence, reply, exception}
use Rattle.modbus_diagnostics.specs.declared.identity.identified.Asks.{Asks}
use Rattle.modbus_diagnostics.specs.declared.identity.identified.Asks.TheVariants.{Number as AsksNumber, Objects as AsksObjects, Other as AsksOther}
use Rattle.modbus_diagnostics.specs.declared.identity.identified.Identified.{Identified}
use Rattle.modbus_diagnostics.specs.Identity.{last_basic, last_regular}

-- the most bytes of the objects of a response: a PDU has 253, of which 7 stand before them
abbrev pub most_objects : ℕ
most_objects = 246

-- the bytes of objects in a response: each has its number, its length and its value
abbrev pub objects_size : List DeviceIdObject → ℕ
objects_size objects = sum_by (λ o. 2 + length o.value) objects

-- the last object of a category, which has those of the categories below it too
abbrev pub last_of_category : ReadCode → ℕ
last_of_category Basic = last_basic
last_of_category Regular = last_regular
last_of_category Extended = 0xFF
last_of_category Specific = 0xFF

-- the conformity level of these objects: that of the highest category of which there is one
abbrev pub conformity_of : List DeviceIdObject → ConformityLevel
conformity_of objects =
    if list_any (λ o. nat_lt last_regular o.id) objects then level.ExtendedIdentification
    else if list_any (λ o. nat_lt last_basic o.id) objects then level.RegularIdentification else level.BasicIdentification

-- the number of the first of these, if there is one, else 0
abbrev pub next_id : List DeviceIdObject → ℕ
next_id [] = 0
next_id (o ∷ rest) = o.id

abbrev pub is_left : List DeviceIdObject → Bool
is_left [] = false
is_left (o ∷ rest) = true

-- no more of these fits behind so many bytes
abbrev pub NoneFits : ℕ → List DeviceIdObject → Type 0
NoneFits size [] = ⊤
NoneFits size (o ∷ rest) = most_objects < size + 2 + length o.value

-- A category begins with the object that was asked for, or at its first one where it has no such object.
abbrev pub StreamBegins : ℕ → List DeviceIdObject → List DeviceIdObject → Type 0
StreamBegins id before (o ∷ rest) = (o.id ≡ id) ⊎ (before ≡ []) × All (λ it. it.id ≢ id) (o ∷ rest)
StreamBegins id before [] = before ≡ []

-- a response of these objects, of which others are left
abbrev pub objects_response : ReadCode → List DeviceIdObject → List DeviceIdObject → List DeviceIdObject → ReadDeviceIdentificationResponse
objects_response code all left shown = record {
  read_code = code;
  conformity_level = conformity_of all;
  more_follows = is_left left;
  next_object_id = next_id left;
  device_id_objects = shown;
}

-- The objects of a category, as a stream: from the object that was asked for on, as many as fit the response, and where to go on.
pub record StreamsObjects (objects : List DeviceIdObject) (code : ReadCode) (id : ℕ) (found : ReadDeviceIdentificationResponse) : Type 0 where
  pub before : List DeviceIdObject
  pub shown : List DeviceIdObject
  pub left : List DeviceIdObject
  pub others : List DeviceIdObject
  pub parts : objects ≡ (before ++ (shown ++ left)) ++ others
  pub of_category : All (λ o. o.id ≤ last_of_category code) (before ++ (shown ++ left))
  pub above : All (λ o. last_of_category code < o.id) others
  pub begins : StreamBegins id before (shown ++ left)
  pub fits : objects_size shown ≤ most_objects
  pub full : NoneFits (objects_size shown) left
  pub tells : found ≡ objects_response code objects left shown

-- one object alone
pub record IsOne (objects : List DeviceIdObject) (id : ℕ) (found : ReadDeviceIdentificationResponse) : Type 0 where
  pub before : List DeviceIdObject
  pub it : DeviceIdObject
  pub after : List DeviceIdObject
  pub parts : objects ≡ before ++ it ∷ after
  pub is : it.id ≡ id
  pub tells : found ≡ objects_response Specific objects [] (it ∷ [])

-- What is found: the objects of a category as a stream; one object alone, or exception 02 where it is not there.
abbrev pub FindsObjects : List DeviceIdObject → ReadCode → ℕ → Result ReadDeviceIdentificationResponse ExceptionCode → Type 0
FindsObjects objects Basic id (Ok found) = StreamsObjects objects Basic id found
FindsObjects objects Regular id (Ok found) = StreamsObjects objects Regular id found
FindsObjects objects Extended id (Ok found) = StreamsObjects objects Extended id found
FindsObjects objects Specific id (Ok found) = IsOne objects id found
FindsObjects objects Specific id (Err code) = (code ≡ IllegalDataAddress) × All (λ o. o.id ≢ id) objects
FindsObjects objects _ id (Err code) = ⊥

-- how it is told
abbrev pub TellsObjects : List DeviceIdObject → ReadCode → ℕ → Outcome → Type 0
TellsObjects objects code id silence = ⊥
TellsObjects objects code id (reply told) = (found : ReadDeviceIdentificationResponse) × FindsObjects objects code id (Ok found) × (told ≡ response.ReadDeviceIdentification found)
TellsObjects objects code id (exception e) = FindsObjects objects code id (Err e)

-- the same of a call, which may lack memory
abbrev pub AnswersObjects : List DeviceIdObject → ReadCode → ℕ → Result (Option Response) ServiceError → Type 0
AnswersObjects objects code id (Ok None) = ⊥
AnswersObjects objects code id (Ok (Some told)) = TellsObjects objects code id (reply told)
AnswersObjects objects code id (Err (Exception e)) = TellsObjects objects code id (exception e)
AnswersObjects objects code id (Err NoMemory) = ⊤

-- what a request asks of a device's identity
abbrev pub asks_of : Asked → Asks
asks_of ReportServerId = AsksNumber
asks_of (ReadDeviceIdentification code id) = AsksObjects code id
asks_of _ = AsksOther

-- What is told: to Report Server ID the number, that the device runs, and its further bytes; to Read Device Identification the objects. All else
-- is the service's.
abbrev pub GivesIdentity : {S : Type 0} → Giving S → Asks → Giving (Identified S)
GivesIdentity gives AsksNumber old slave request told new = (told ≡ reply (response.ReportServerId old.identity.server_id true old.identity.extra)) × (new ≡ old)
GivesIdentity gives (AsksObjects code id) old slave request told new = TellsObjects old.identity.objects code id told × (new ≡ old)
GivesIdentity gives AsksOther old slave request told new = gives old.service slave request told new.service × (new.identity ≡ old.identity)

abbrev pub identified_answers : {S : Type 0} → Giving S → Giving (Identified S)
identified_answers gives old slave request told new = GivesIdentity gives (asks_of request) old slave request told new

-- what is told of the device itself may take memory
abbrev pub TakesForIdentity : Asks → Type 0 → Type 0
TakesForIdentity AsksNumber takes = ⊤
TakesForIdentity (AsksObjects code id) takes = ⊤
TakesForIdentity AsksOther takes = takes

abbrev pub identified_takes : {S : Type 0} → (S → ℕ → Asked → Type 0) → Identified S → ℕ → Asked → Type 0
identified_takes takes it slave request = TakesForIdentity (asks_of request) (takes it.service slave request)
