-- What answers on a line that others share (MODBUS over Serial Line V1.02, sections 2.1 and 2.2).
use Rattle.std.specs.Prelude.{◌≡◌, ◌⊎◌, ℕ, ◌==◌, Bool, true, List, All, map}
use Rattle.std.specs.List.{flat_map, list_any}
use Rattle.modbus_frame.specs.Meaning.{Asked}
use Rattle.modbus_pdu.specs.SlavePdu.{SlavePdu}
use Rattle.modbus_link.specs.Outside.{IsFront}
use Rattle.modbus_rtu.specs.Frame.{frame}
use Rattle.modbus_service.specs.Answering.{Answering}
use Rattle.modbus_service.specs.declared.only_unit.OnlyUnit.{OnlyUnit}
use Rattle.modbus_service.specs.Outcome.{Outcome, silence}

-- one of these addresses is the slave's
abbrev pub is_among : List ℕ → ℕ → Bool
is_among addresses slave = list_any (λ address. address == slave) addresses

-- the addresses of units
abbrev pub addresses_of : {S : Type 0} → List (OnlyUnit S) → List ℕ
addresses_of units = map (λ it. it.unit) units

-- From a state that is quiet, what is for no address of the state's has no answer; and the next one is quiet too, and has the same
-- addresses, be it an answer or refused memory that left it.
pub record KeepsToOwn {S : Type 0} (A : Answering S) (addresses : S → List ℕ) (IsQuiet : S → Type 0) : Type 0 where
  pub gives : (old new : S) (slave : ℕ) (request : Asked) (outcome : Outcome) → IsQuiet old → A.gives old slave request outcome new
      → IsQuiet new × (addresses new ≡ addresses old) × ((is_among (addresses old) slave ≡ true) ⊎ (outcome ≡ silence))
  pub wants : (old new : S) (slave : ℕ) (request : Asked) → IsQuiet old → A.wants old slave request new → IsQuiet new × (addresses new ≡ addresses old)

-- the frame of a PDU for a slave
abbrev pub frame_to : SlavePdu → List ℕ
frame_to said = frame said.header said.pdu

-- These bytes are frames one after another, each of them under one of these addresses, or a front of such frames.
pub record IsOfOwn (own written : List ℕ) : Type 0 where
  pub frames : List SlavePdu
  pub each : All (λ it. is_among own it.header ≡ true) frames
  pub front : IsFront written (flat_map frame_to frames)
