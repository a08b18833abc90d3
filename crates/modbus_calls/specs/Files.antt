-- Records of files (Modbus Application Protocol V1.1b3, sections 6.14 and 6.15).
use Rattle.std.specs.Prelude.{◌≡◌, ◌⊎◌, ℕ, ◌+◌, ◌-◌, ◌*◌, ◌^◌, ◌<◌, ◌≤◌, ◌==◌, ◌&&◌, min, Bool, false, if◌then◌else◌, List, ◌∷◌, ◌++◌, length, drop, Option, Some, None, Ok, Err}
use Rattle.std.specs.Str.{bytes_eq}
use Rattle.modbus_frame.specs.Meaning.{Asked, Custom, function_asked}
use Rattle.modbus_frame.specs.FunctionCodes.{read_file_record, write_file_record}
use Rattle.modbus_frame.specs.declared.code.FunctionCode.{FunctionCode}
use Rattle.modbus_frame.specs.declared.code.FunctionCode.TheVariants as function
use Rattle.modbus_frame.specs.declared.fault.Error.TheVariants.{Transport, NoMemory}
use Rattle.modbus_frame.specs.declared.fault.TransportError.TheVariants.{RequestTooLong}
use Rattle.modbus_frame.specs.declared.response.Response.{Response}
use Rattle.modbus_frame.specs.declared.response.Response.TheVariants as response
use Rattle.modbus_pdu.specs.Fields.{words_of}
use Rattle.modbus_pdu.specs.Word.{word, words}
use Rattle.modbus_client.specs.Matches.{Answer}
use Rattle.modbus_client.specs.Typed.{AnswerOf, Pick, picked, Asks, typed_answer}
use Rattle.modbus_calls.specs.Picks.{data_read}
use Rattle.modbus_calls.specs.FileLimits.{most_written}
use Rattle.modbus_calls.specs.declared.place.FilePlace.{FilePlace}
use Rattle.modbus_calls.specs.declared.place.FileRange.{FileRange}

-- the reference type of every group (6.14, 6.15)
abbrev pub reference_type : ℕ
reference_type = 6

-- the bytes before the registers of a response, behind the function code
abbrev pub read_head : ℕ
read_head = 3

-- a group that names records: the reference type, the file, the first record, and how many registers
abbrev pub group : FilePlace → ℕ → List ℕ
group place quantity = reference_type ∷ word place.file ++ word place.record_number ++ word quantity

-- the data of a request that reads one group: the byte count, and the group (6.14)
abbrev pub read_data : FileRange → List ℕ
read_data range = 7 ∷ group range.place range.len

-- the data of a request that writes one group: the byte count, the group, and its registers (6.15)
abbrev pub write_data : FilePlace → List ℕ → List ℕ
write_data place registers = (7 + 2 * length registers) ∷ group place (length registers) ++ words registers

-- The data of a response has a group of so many registers: the byte count, the length of the group, the reference type, and the
-- registers (6.14).
abbrev pub has_registers : ℕ → List ℕ → Bool
has_registers quantity (count ∷ len ∷ reference ∷ registers) =
    (count == 2 + 2 * quantity) && (len == 1 + 2 * quantity) && (reference == reference_type) && (length registers == 2 * quantity)
has_registers quantity _ = false

-- these registers
abbrev pub registers_read : ℕ → List ℕ → Option (List ℕ)
registers_read quantity bytes = if has_registers quantity bytes then Some (words_of (drop read_head bytes) quantity) else None

-- the response to a write repeats its request (6.15)
abbrev pub repeated : List ℕ → List ℕ → Option (Unit {0})
repeated request bytes = if bytes_eq bytes request then Some tt else None

-- What a typed call answers that takes memory: what it makes of its client's answer, or that memory was refused for the value that it picks
-- from a response.
abbrev pub TypedInMemory : {A : Type 0} → FunctionCode → (Response → Pick A) → Answer → AnswerOf A → Type 0
TypedInMemory {A} function pick answer result =
    (result ≡ typed_answer function pick answer)
    ⊎ ((result ≡ Err NoMemory) × (found : Response) × (value : A) × (answer ≡ Ok (Ok found)) × (pick found ≡ picked value))

-- what such a call makes of the data of a response that reads so many registers
abbrev pub ReadsRegisters : ℕ → List ℕ → AnswerOf (List ℕ) → Type 0
ReadsRegisters quantity bytes result =
    TypedInMemory (function.Custom read_file_record) (data_read read_file_record (registers_read quantity)) (Ok (Ok (response.Custom read_file_record bytes))) result

-- such a call makes one call of its client, which asks this
pub record AsksInMemory {S A : Type 0} (answers : S → Asked → Answer → S → Type 0) (old : S) (asked : Asked) (pick : Response → Pick A) (result : AnswerOf A) (new : S) : Type 0 where
  pub answer : Answer
  pub called : answers old asked answer new
  pub typed : TypedInMemory (function_asked asked) pick answer result

-- the size that is told of a request that is too long: the greatest number stands for more than that
abbrev pub told_write_size : ℕ → ℕ
told_write_size quantity = min (9 + 2 * quantity) (2 ^ 64 - 1)

-- A write of these registers makes one call, where they fit a request; else it makes none, and tells the size of the PDU in bytes.
abbrev pub WritesRecords : {S : Type 0} → (S → Asked → Answer → S → Type 0) → S → FilePlace → List ℕ → AnswerOf (Unit {0}) → S → Type 0
WritesRecords answers old place registers result new =
    let request = write_data place registers in
    (length registers ≤ most_written → Asks answers old (Custom write_file_record request) (data_read write_file_record (repeated request)) result new)
    × (most_written < length registers → (result ≡ Err (Transport (RequestTooLong (told_write_size (length registers))))) × (new ≡ old))
