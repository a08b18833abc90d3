-- The numbers of the reasons for which a PDU is refused, and which statuses a call may tell.
use Rattle.std.specs.Prelude.{◌≡◌, ◌⊎◌, ℕ}
use Rattle.modbus_frame.specs.declared.fault.Reason.{Reason}
use Rattle.modbus_frame.specs.declared.fault.Reason.TheVariants as reason
use Rattle.modbus_c.specs.declared.status.TheConstants.{MODBUS_DONE, MODBUS_REFUSED, MODBUS_NO_MEMORY, MODBUS_NO_ROOM, MODBUS_UNTOLD, MODBUS_TOO_LONG, MODBUS_WAITING, MODBUS_NO_LENGTH, MODBUS_FOREIGN, MODBUS_CROWD, MODBUS_HEADER_MISMATCH, MODBUS_FUNCTION_MISMATCH, MODBUS_FULL, MODBUS_MISMATCH, MODBUS_EXCEPTION}

abbrev pub reason_number : Reason → ℕ
reason_number reason.UnexpectedEnd = 1
reason_number reason.SizeExceeded = 2
reason_number reason.TooShort = 3
reason_number reason.InvalidQuantity = 4
reason_number (reason.InvalidCoil word) = 5
reason_number (reason.UnsupportedMei mei) = 6
reason_number (reason.InvalidReadCode code) = 7
reason_number (reason.InvalidConformity level) = 8
reason_number (reason.InvalidRunStatus status) = 9
reason_number reason.InvalidObjectLength = 10
reason_number (reason.InvalidFunction code) = 11
reason_number reason.UndecodedData = 12

-- the statuses of the reading of a PDU, and of the writing
abbrev pub IsReading : ℕ → Type 0
IsReading s = (s ≡ MODBUS_DONE) ⊎ (s ≡ MODBUS_REFUSED) ⊎ (s ≡ MODBUS_UNTOLD) ⊎ (s ≡ MODBUS_NO_ROOM) ⊎ (s ≡ MODBUS_NO_MEMORY)

abbrev pub IsWriting : ℕ → Type 0
IsWriting s = (s ≡ MODBUS_DONE) ⊎ (s ≡ MODBUS_UNTOLD) ⊎ (s ≡ MODBUS_NO_ROOM) ⊎ (s ≡ MODBUS_TOO_LONG) ⊎ (s ≡ MODBUS_NO_MEMORY)

-- the statuses of the beginning of a call
abbrev pub IsBeginning : ℕ → Type 0
IsBeginning s = IsWriting s ⊎ (s ≡ MODBUS_REFUSED)

-- the statuses of the judgement of a reply, and of the answer of a call
abbrev pub IsTelling : ℕ → Type 0
IsTelling s = (s ≡ MODBUS_DONE) ⊎ (s ≡ MODBUS_HEADER_MISMATCH) ⊎ (s ≡ MODBUS_FUNCTION_MISMATCH) ⊎ (s ≡ MODBUS_MISMATCH) ⊎ (s ≡ MODBUS_UNTOLD) ⊎ (s ≡ MODBUS_NO_ROOM)

abbrev pub IsAnswering : ℕ → Type 0
IsAnswering s = IsTelling s ⊎ (s ≡ MODBUS_REFUSED) ⊎ (s ≡ MODBUS_NO_MEMORY) ⊎ (s ≡ MODBUS_WAITING) ⊎ (s ≡ MODBUS_FULL)
    ⊎ (s ≡ MODBUS_CROWD) ⊎ (s ≡ MODBUS_NO_LENGTH) ⊎ (s ≡ MODBUS_FOREIGN)

-- the same where the reply is handed out as its PDU
abbrev pub IsTellingRaw : ℕ → Type 0
IsTellingRaw s = (s ≡ MODBUS_DONE) ⊎ (s ≡ MODBUS_EXCEPTION) ⊎ (s ≡ MODBUS_HEADER_MISMATCH) ⊎ (s ≡ MODBUS_FUNCTION_MISMATCH) ⊎ (s ≡ MODBUS_REFUSED) ⊎ (s ≡ MODBUS_NO_ROOM)

abbrev pub IsAnsweringRaw : ℕ → Type 0
IsAnsweringRaw s = IsTellingRaw s ⊎ (s ≡ MODBUS_WAITING) ⊎ (s ≡ MODBUS_FULL) ⊎ (s ≡ MODBUS_CROWD) ⊎ (s ≡ MODBUS_NO_LENGTH) ⊎ (s ≡ MODBUS_FOREIGN)
