-- What a typed call makes of the answer of its client (Modbus Application Protocol V1.1b3, section 6).
use Rattle.std.specs.Prelude.{◌≡◌, ℕ, Bool, ◌&&◌, ◌==◌, nat_le, if◌then◌else◌, List, length, take, Result, Ok, Err}
use Rattle.std.specs.Bool.{beq}
use Rattle.modbus_frame.specs.Meaning.{Asked, function_asked}
use Rattle.modbus_frame.specs.declared.code.ExceptionCode.{ExceptionCode}
use Rattle.modbus_frame.specs.declared.code.FunctionCode.{FunctionCode}
use Rattle.modbus_frame.specs.declared.fault.Error.{Error}
use Rattle.modbus_frame.specs.declared.fault.Error.TheVariants.{Protocol}
use Rattle.modbus_frame.specs.declared.fault.ProtocolError.TheVariants.{FunctionCodeMismatch, PayloadMismatch}
use Rattle.modbus_frame.specs.declared.identification.ReadDeviceIdentificationResponse.{ReadDeviceIdentificationResponse}
use Rattle.modbus_frame.specs.declared.response.Response.{Response}
use Rattle.modbus_frame.specs.declared.response.Response.TheVariants as response
use Rattle.modbus_client.specs.Matches.{Answer}

-- what a typed call answers: its fault, or in it the exception of the server or the value that was asked for
abbrev pub AnswerOf : Type 0 → Type 0
AnswerOf A = Result (Result A ExceptionCode) Error

-- the same answer, with what a view shows of the value
abbrev pub answer_map : {A B : Type 0} → (A → B) → AnswerOf A → AnswerOf B
answer_map view (Err error) = Err error
answer_map view (Ok (Err code)) = Ok (Err code)
answer_map view (Ok (Ok value)) = Ok (Ok (view value))

-- what a typed call picks from a response: this value; none, since it is of the kind that was asked for and does not fit the request;
-- none, since it is of another kind
pub data Pick (A : Type 0) : Type 0 where
  picked : (value : A) → Pick A
  unequal : Pick A
  another_kind : Pick A

-- the value of a response of the right kind, where this holds of it
abbrev pub picked_if : {A : Type 0} → Bool → A → Pick A
picked_if holds value = if holds then picked value else unequal

-- the coils of a response: at least as many as were asked for, cut to these, since each byte carries eight (6.1, 6.2)
abbrev pub coils_read : ℕ → Response → Pick (List Bool)
coils_read quantity (response.ReadCoils found) = picked_if (nat_le quantity (length found)) (take quantity found)
coils_read quantity _ = another_kind

abbrev pub discrete_inputs_read : ℕ → Response → Pick (List Bool)
discrete_inputs_read quantity (response.ReadDiscreteInputs found) = picked_if (nat_le quantity (length found)) (take quantity found)
discrete_inputs_read quantity _ = another_kind

-- the registers of a response: exactly as many as were asked for (6.3, 6.4, 6.17)
abbrev pub holding_registers_read : ℕ → Response → Pick (List ℕ)
holding_registers_read quantity (response.ReadHoldingRegisters found) = picked_if (length found == quantity) found
holding_registers_read quantity _ = another_kind

abbrev pub input_registers_read : ℕ → Response → Pick (List ℕ)
input_registers_read quantity (response.ReadInputRegisters found) = picked_if (length found == quantity) found
input_registers_read quantity _ = another_kind

abbrev pub registers_read_after_write : ℕ → Response → Pick (List ℕ)
registers_read_after_write quantity (response.ReadWriteMultipleRegisters found) = picked_if (length found == quantity) found
registers_read_after_write quantity _ = another_kind

-- the registers of any queue (6.18)
abbrev pub queue_read : Response → Pick (List ℕ)
queue_read (response.ReadFifoQueue found) = picked found
queue_read _ = another_kind

-- any device identification (6.21)
abbrev pub identification_read : Response → Pick ReadDeviceIdentificationResponse
identification_read (response.ReadDeviceIdentification found) = picked found
identification_read _ = another_kind

-- the address and the value of a write, which a device echoes (6.5, 6.6, 6.16)
abbrev pub coil_written : ℕ → Bool → Response → Pick (Unit {0})
coil_written address coil (response.WriteSingleCoil at state) = picked_if ((at == address) && beq state coil) tt
coil_written address coil _ = another_kind

abbrev pub register_written : ℕ → ℕ → Response → Pick (Unit {0})
register_written address word (response.WriteSingleRegister at found) = picked_if ((at == address) && (found == word)) tt
register_written address word _ = another_kind

abbrev pub register_masked : ℕ → ℕ → ℕ → Response → Pick (Unit {0})
register_masked address and_mask or_mask (response.MaskWriteRegister at found_and found_or) =
    picked_if ((at == address) && (found_and == and_mask) && (found_or == or_mask)) tt
register_masked address and_mask or_mask _ = another_kind

-- the address of a write, and how many coils or registers were written (6.11, 6.12)
abbrev pub coils_written : ℕ → ℕ → Response → Pick (Unit {0})
coils_written address quantity (response.WriteMultipleCoils at found) = picked_if ((at == address) && (found == quantity)) tt
coils_written address quantity _ = another_kind

abbrev pub registers_written : ℕ → ℕ → Response → Pick (Unit {0})
registers_written address quantity (response.WriteMultipleRegisters at found) = picked_if ((at == address) && (found == quantity)) tt
registers_written address quantity _ = another_kind

-- what is answered for a response, by the function of the request and by what is picked from it
abbrev pub pick_answer : {A : Type 0} → FunctionCode → Response → Pick A → AnswerOf A
pick_answer function found (picked value) = Ok (Ok value)
pick_answer function found unequal = Err (Protocol (PayloadMismatch found))
pick_answer function found another_kind = Err (Protocol (FunctionCodeMismatch function (Ok found)))

-- what is answered for the client's answer: faults and exceptions are passed on
abbrev pub typed_answer : {A : Type 0} → FunctionCode → (Response → Pick A) → Answer → AnswerOf A
typed_answer function pick (Err error) = Err error
typed_answer function pick (Ok (Err code)) = Ok (Err code)
typed_answer function pick (Ok (Ok found)) = pick_answer function found (pick found)

-- A typed call makes one call of its client, which asks this, and answers what it makes of the client's answer.
pub record Asks {S A : Type 0} (answers : S → Asked → Answer → S → Type 0) (old : S) (asked : Asked) (pick : Response → Pick A) (result : AnswerOf A) (new : S) : Type 0 where
  pub answer : Answer
  pub called : answers old asked answer new
  pub typed : result ≡ typed_answer (function_asked asked) pick answer
