-- What a driver moves between a connection and the outside.
use Rattle.std.specs.Prelude.{◌≡◌, ◌≢◌, ℕ, ◌<◌, ◌≤◌, List, [], ◌∷◌, ◌++◌, length, IsTrue, false, Result, Ok, Err}
use Rattle.modbus_link.specs.declared.outside.Cut.{Cut}
use Rattle.modbus_link.specs.declared.polled.Polled.{Polled}
use Rattle.modbus_link.specs.Outside.{cut_at, Input, Outside, Rose, Advances, bytes_read, cuts_made}
use Rattle.modbus_pdu.specs.Message.{Message}
use Rattle.modbus_link.specs.Polled.{PollsPiece}
use Rattle.modbus_server.specs.declared.error.ProcessError.{ProcessError}
use Rattle.modbus_server.specs.declared.error.ProcessError.TheVariants.{ReadFault, WriteFault, BytesRemaining, NoMemory}
use Rattle.modbus_server.specs.declared.error.Step.{Step}
use Rattle.modbus_server.specs.declared.error.Step.TheVariants.{Answered, MoreRead, Ended}
use Rattle.modbus_server.specs.Framing.{Framing}
use Rattle.modbus_server.specs.State.{State}

-- all that waited was written, or the sink failed
abbrev pub WritesOnce : State → State → Result Step ProcessError → Type 0
WritesOnce old new (Ok Answered) = (new.held ≡ old.held) × (new.waiting ≡ []) × (new.is_open ≡ old.is_open)
WritesOnce old new (Ok _) = ⊥
WritesOnce old new (Err WriteFault) = (new.held ≡ old.held) × (new.is_open ≡ false)
WritesOnce old new (Err _) = ⊥

-- of the bytes that were fed, the reads that gave bytes, and the answer
abbrev pub GivesAs : Framing → State → State → List ℕ → List Cut → Result Step ProcessError → Type 0
GivesAs F old new fed made (Ok MoreRead) =
    (room : ℕ) × (made ≡ cut_at (length fed) room ∷ []) × (0 < length fed) × (new.waiting ≡ old.waiting) × (new.is_open ≡ old.is_open) × (length new.held ≤ F.most)
    × ((bytes cuts : List ℕ) (taken : List (Message F.Header)) → F.StandsFor bytes cuts old.held taken → F.HasRoom bytes room × F.StandsFor (bytes ++ fed) (cuts ++ length (bytes ++ fed) ∷ []) new.held taken)
GivesAs F old new fed made (Ok Ended) = (fed ≡ []) × (made ≡ []) × (old.held ≡ []) × (new.held ≡ old.held) × (new.waiting ≡ old.waiting) × (new.is_open ≡ false)
GivesAs F old new fed made (Ok _) = ⊥
GivesAs F old new fed made (Err BytesRemaining) = (fed ≡ []) × (made ≡ []) × (old.held ≢ []) × (new.is_open ≡ false)
GivesAs F old new fed made (Err ReadFault) = (fed ≡ []) × (made ≡ []) × (new.is_open ≡ false)
GivesAs F old new fed made (Err NoMemory) = (fed ≡ []) × (made ≡ []) × (new.is_open ≡ false) × F.ReadsTakeMemory
GivesAs F old new fed made (Err _) = ⊥

-- One read was made into the room of the held bytes, and what it gave was appended to them. One that failed or found the link not
-- ready gave none.
pub record Fills (F : Framing) {E : Type 0} (old new : Outside) (before now : ℕ) (held_before held_now : List ℕ) (result : Result (Polled ℕ) E) : Type 0 where
  pub piece : List ℕ
  pub polls : PollsPiece old new before now (F.room held_before) piece result
  pub held : held_now ≡ held_before ++ piece
  pub most : 0 < length piece → length held_now ≤ F.most
  pub stands : (bytes cuts : List ℕ) (taken : List (Message F.Header)) → F.StandsFor bytes cuts held_before taken → 0 < length piece
      → F.HasRoom bytes (F.room held_before) × F.StandsFor (bytes ++ piece) (cuts ++ length (bytes ++ piece) ∷ []) held_now taken

-- whether the input ended
abbrev pub EndsInput : Result Step ProcessError → List ℕ → Type 0
EndsInput (Ok Ended) left = left ≡ []
EndsInput (Err BytesRemaining) left = left ≡ []
EndsInput _ left = Unit {0}

-- one read was made, or none where memory was refused
pub record ReadsOnce (F : Framing) (from to : Input) (old new : State) (result : Result Step ProcessError) : Type 0 where
  pub fed : List ℕ
  pub made : List Cut
  pub source : Advances from to
  pub read : IsTrue from.told → bytes_read from to ≡ fed
  pub cuts : IsTrue from.told → cuts_made from to ≡ made
  pub gives : GivesAs F old new fed made result
  pub ended : IsTrue from.told → EndsInput result to.left
  pub cause : result ≡ Err ReadFault → Rose from.faults to.faults
