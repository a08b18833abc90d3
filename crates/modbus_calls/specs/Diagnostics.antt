-- The sub-functions of Diagnostics (Modbus Application Protocol V1.1b3, section 6.8.1).
use Rattle.std.specs.Prelude.{ℕ, ◌*◌, ◌==◌, ◌&&◌, ◌||◌, not, Bool, true, false, if◌then◌else◌, List, [], ◌∷◌, Option, Some, None}
use Rattle.modbus_pdu.specs.Word.{word}
use Rattle.modbus_calls.specs.Data.{word_of}
use Rattle.modbus_calls.specs.declared.diagnostic.Diagnostic.{Diagnostic}
use Rattle.modbus_calls.specs.declared.diagnostic.Diagnostic.TheVariants.{ReturnQueryData, RestartCommunications, ReturnDiagnosticRegister, ChangeAsciiDelimiter, ForceListenOnly, ClearCounters, ReturnBusMessageCount, ReturnBusCommunicationErrorCount, ReturnBusExceptionErrorCount, ReturnServerMessageCount, ReturnServerNoResponseCount, ReturnServerNakCount, ReturnServerBusyCount, ReturnBusCharacterOverrunCount, ClearOverrunCounter}

-- the number of a sub-function
abbrev pub sub_function : Diagnostic → ℕ
sub_function (ReturnQueryData data_word) = 0x00
sub_function (RestartCommunications clear_log) = 0x01
sub_function ReturnDiagnosticRegister = 0x02
sub_function (ChangeAsciiDelimiter delimiter) = 0x03
sub_function ForceListenOnly = 0x04
sub_function ClearCounters = 0x0A
sub_function ReturnBusMessageCount = 0x0B
sub_function ReturnBusCommunicationErrorCount = 0x0C
sub_function ReturnBusExceptionErrorCount = 0x0D
sub_function ReturnServerMessageCount = 0x0E
sub_function ReturnServerNoResponseCount = 0x0F
sub_function ReturnServerNakCount = 0x10
sub_function ReturnServerBusyCount = 0x11
sub_function ReturnBusCharacterOverrunCount = 0x12
sub_function ClearOverrunCounter = 0x14

-- The data field of its request: the word that comes back; FF00 where the log of events is to be cleared; the delimiter before a byte of 0;
-- and else 0000.
abbrev pub data_field : Diagnostic → ℕ
data_field (ReturnQueryData data_word) = data_word
data_field (RestartCommunications clear_log) = if clear_log then 0xFF00 else 0
data_field (ChangeAsciiDelimiter delimiter) = 256 * delimiter
data_field _ = 0

-- a sub-function whose response repeats its request; that of any other has a word of the device as its data field
abbrev pub is_echoed : Diagnostic → Bool
is_echoed (ReturnQueryData data_word) = true
is_echoed (RestartCommunications clear_log) = true
is_echoed (ChangeAsciiDelimiter delimiter) = true
is_echoed ForceListenOnly = true
is_echoed ClearCounters = true
is_echoed ClearOverrunCounter = true
is_echoed _ = false

-- the data of its request: the sub-function as a word, and the data field
abbrev pub diagnostic_data : Diagnostic → List ℕ
diagnostic_data diagnostic = 0 ∷ sub_function diagnostic ∷ word (data_field diagnostic)

-- the data field of a response of this sub-function, which is that of the request where it repeats it
abbrev pub field_of : Diagnostic → List ℕ → Option ℕ
field_of diagnostic (zero_byte ∷ sub ∷ high ∷ low ∷ []) =
    if zero_byte == 0 && sub == sub_function diagnostic && (not (is_echoed diagnostic) || word_of high low == data_field diagnostic)
    then Some (word_of high low) else None
field_of diagnostic _ = None
