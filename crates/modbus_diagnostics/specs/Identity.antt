-- What a device says of itself (Modbus Application Protocol V1.1b3, sections 6.13 and 6.21).
use Rattle.std.specs.Prelude.{◌≡◌, ◌<◌, ◌≤◌, ◌⊎◌, ℕ, List, [], ◌∷◌, ◌++◌, length, All, AllPairs, Any, Result, Ok, Err}
use Rattle.modbus_frame.specs.declared.identification.DeviceIdObject.{DeviceIdObject}
use Rattle.modbus_diagnostics.specs.declared.identity.objects.IdentityError.{IdentityError}
use Rattle.modbus_diagnostics.specs.declared.identity.objects.IdentityError.TheVariants.{Reserved, OutOfOrder, TooLong, NoMemory}

-- the most bytes of an object, and of the further bytes of Report Server ID, so that each fits a PDU of 253 bytes
abbrev pub longest_value : ℕ
longest_value = 244

abbrev pub longest_extra : ℕ
longest_extra = 249

-- the last of the basic objects and of the regular ones, and the first that a device may define itself
abbrev pub last_basic : ℕ
last_basic = 0x02

abbrev pub last_regular : ℕ
last_regular = 0x06

abbrev pub first_extended : ℕ
first_extended = 0x80

-- the number and the further bytes of Report Server ID, and the objects of the device identification
pub record IdentityState : Type 0 where
  pub server_id : ℕ
  pub extra : List ℕ
  pub objects : List DeviceIdObject

abbrev pub object_of : ℕ → List ℕ → DeviceIdObject
object_of id value = record { id = id; value = value }

abbrev pub FitsAlone : DeviceIdObject → Type 0
FitsAlone it = length it.value ≤ longest_value

-- The objects rise, so no two have the same number. Each fits a response alone, and so do the further bytes.
abbrev pub IsIdentity : IdentityState → Type 0
IsIdentity it = AllPairs (λ a b. a.id < b.id) it.objects × All FitsAlone it.objects × (length it.extra ≤ longest_extra)

-- the basic objects, which every device has: its vendor's name, its product code and its revision
abbrev pub basic_objects : List ℕ → List ℕ → List ℕ → List DeviceIdObject
basic_objects vendor product revision = object_of 0 vendor ∷ object_of 1 product ∷ object_of 2 revision ∷ []

-- An identity of these texts was made. It is told as too long exactly where one of them does not fit a response.
abbrev pub MakesIdentity : ℕ → List ℕ → List DeviceIdObject → Result IdentityState IdentityError → Type 0
MakesIdentity server_id extra objects (Ok it) = it ≡ record { server_id = server_id; extra = extra; objects = objects }
MakesIdentity server_id extra objects (Err TooLong) = (longest_extra < length extra) ⊎ Any (λ o. longest_value < length o.value) objects
MakesIdentity server_id extra objects (Err NoMemory) = All FitsAlone objects × (length extra ≤ longest_extra)
MakesIdentity server_id extra objects (Err Reserved) = ⊥
MakesIdentity server_id extra objects (Err OutOfOrder) = ⊥

-- the standard reserves these numbers
abbrev pub IsReserved : ℕ → Type 0
IsReserved id = (last_regular < id) × (id < first_extended)

-- an object of this number may come behind these
abbrev pub MayFollow : ℕ → List DeviceIdObject → Type 0
MayFollow id objects = (IsReserved id → ⊥) × All (λ o. o.id < id) objects

-- One more object was taken, or the first rule that it breaks is told, and nothing changes.
abbrev pub GainsObject : IdentityState → ℕ → List ℕ → Result (Unit {0}) IdentityError → IdentityState → Type 0
GainsObject old id value (Ok done) new = MayFollow id old.objects × (length value ≤ longest_value) × (new ≡ record old { objects = old.objects ++ object_of id value ∷ [] })
GainsObject old id value (Err Reserved) new = IsReserved id × (new ≡ old)
GainsObject old id value (Err OutOfOrder) new = (IsReserved id → ⊥) × Any (λ o. id ≤ o.id) old.objects × (new ≡ old)
GainsObject old id value (Err TooLong) new = MayFollow id old.objects × (longest_value < length value) × (new ≡ old)
GainsObject old id value (Err NoMemory) new = MayFollow id old.objects × (length value ≤ longest_value) × (new ≡ old)
