-- Each answer of a store fits a PDU.
use Rattle.std.proofs.Common.{◌≡◌, ℕ, ◌+◌, ◌≤◌, Bool, true, false, cond, ◌&&◌, leb, eqb, List, length, drop, refl, arith}
use Rattle.std.proofs.lemmas.List.{length-take}
use Rattle.std.proofs.lemmas.Bool.{leb-true}
use Rattle.modbus_frame.specs.declared.code.ExceptionCode.{ExceptionCode}
use Rattle.modbus_frame.specs.declared.code.ExceptionCode.TheVariants as code
use Rattle.modbus_frame.specs.declared.response.Response.{Response}
use Rattle.modbus_frame.specs.declared.response.Response.TheVariants as response
use Rattle.modbus_frame.specs.Meaning.{Asked, ReadCoils, ReadDiscreteInputs, WriteSingleCoil, WriteMultipleCoils, ReadInputRegisters, ReadHoldingRegisters, WriteSingleRegister, WriteMultipleRegisters, ReportServerId, MaskWriteRegister, ReadWriteMultipleRegisters, ReadFifoQueue, ReadDeviceIdentification, Custom}
use Rattle.modbus_pdu.specs.Limits.{max_pdu}
use Rattle.modbus_pdu.specs.Limits.{max_read_coils, max_write_coils, max_read_registers, max_write_registers, max_read_write_registers, max_fifo_count}
use Rattle.modbus_pdu.specs.ResponseLaws.{response_size}
use Rattle.modbus_pdu.specs.ResponsePdu.{response_pdu}
use Rattle.modbus_service.specs.Outcome.{Outcome, silence, reply, exception, reply_pdu}
use Rattle.modbus_store.specs.Tables.{Tables, entries, with_entries}
use Rattle.modbus_store.specs.Step.{is_quantity, inside, if_in_bounds, both_count, both_inside, is_queue_count, queue_count, step_of, store_step}

abbrev IsShort : ℕ → Outcome → Type 0
IsShort n outcome = length (reply_pdu n outcome) ≤ max_pdu

exception_fits : (n : ℕ) (e : ExceptionCode) → IsShort n (exception e)
unfolding reply_pdu
exception_fits n e = omega arith

silent_fits : (n : ℕ) → IsShort n silence
unfolding reply_pdu
silent_fits n = omega arith

-- what is checked fits where it does so within its count
checked_fits : (n : ℕ) (count range : Bool) (done : Outcome × Tables) (t : Tables) → (count ≡ true → IsShort n done.0)
    → IsShort n (if_in_bounds count range done t).0
checked_fits n true true done t fits = fits refl
checked_fits n true false done t fits = exception_fits n code.IllegalDataAddress
checked_fits n false range done t fits = exception_fits n code.IllegalDataValue

right : (a b : Bool) → (a && b) ≡ true → b ≡ true
right true b e = e
right false b e = cc

left : (a b : Bool) → (a && b) ≡ true → a ≡ true
left true b e = refl
left false b e = cc

most_of : (most count : ℕ) → is_quantity most count ≡ true → count ≤ most
most_of most count e = leb-true count most (right (leb 1 count) (leb count most) e)

-- by the sizes of responses
module _ (sizes : (r : Response) → length (response_pdu r) ≡ response_size r) where
  reply_fits : (n : ℕ) (r : Response) → response_size r ≤ max_pdu → IsShort n (reply r)
  unfolding reply_pdu
  reply_fits n r fits = omega (arith, sizes r)

  coils_fit : (n a m : ℕ) (table : List Bool) → m ≤ max_read_coils → IsShort n (reply (response.ReadCoils (entries a m table)))
  coils_fit n a m table most = reply_fits n _ (omega (arith, length-take m (drop a table)))

  inputs_fit : (n a m : ℕ) (table : List Bool) → m ≤ max_read_coils → IsShort n (reply (response.ReadDiscreteInputs (entries a m table)))
  inputs_fit n a m table most = reply_fits n _ (omega (arith, length-take m (drop a table)))

  holding_fits : (n a m : ℕ) (table : List ℕ) → m ≤ max_read_registers → IsShort n (reply (response.ReadHoldingRegisters (entries a m table)))
  holding_fits n a m table most = reply_fits n _ (omega (arith, length-take m (drop a table)))

  input_fits : (n a m : ℕ) (table : List ℕ) → m ≤ max_read_registers → IsShort n (reply (response.ReadInputRegisters (entries a m table)))
  input_fits n a m table most = reply_fits n _ (omega (arith, length-take m (drop a table)))

  both_fit : (n a m : ℕ) (table : List ℕ) → m ≤ max_read_registers → IsShort n (reply (response.ReadWriteMultipleRegisters (entries a m table)))
  both_fit n a m table most = reply_fits n _ (omega (arith, length-take m (drop a table)))

  queue_fits : (n a m : ℕ) (table : List ℕ) → m ≤ max_fifo_count → IsShort n (reply (response.ReadFifoQueue (entries a m table)))
  queue_fits n a m table most = reply_fits n _ (omega (arith, length-take m (drop a table)))

  step_fits : (n : ℕ) (t : Tables) (request : Asked) → IsShort n (step_of t request).0
  unfolding step_of
  step_fits n t (ReadCoils a m) = checked_fits n (is_quantity max_read_coils m) (inside (length t.coils) a m) _ t (λ e. coils_fit n a m t.coils (most_of max_read_coils m e))
  step_fits n t (ReadDiscreteInputs a m) = checked_fits n (is_quantity max_read_coils m) (inside (length t.discrete_inputs) a m) _ t (λ e. inputs_fit n a m t.discrete_inputs (most_of max_read_coils m e))
  step_fits n t (ReadHoldingRegisters a m) = checked_fits n (is_quantity max_read_registers m) (inside (length t.holding_registers) a m) _ t (λ e. holding_fits n a m t.holding_registers (most_of max_read_registers m e))
  step_fits n t (ReadInputRegisters a m) = checked_fits n (is_quantity max_read_registers m) (inside (length t.input_registers) a m) _ t (λ e. input_fits n a m t.input_registers (most_of max_read_registers m e))
  step_fits n t (WriteSingleCoil a coil) = checked_fits n true (inside (length t.coils) a 1) _ t (λ e. reply_fits n _ (omega arith))
  step_fits n t (WriteSingleRegister a w) = checked_fits n true (inside (length t.holding_registers) a 1) _ t (λ e. reply_fits n _ (omega arith))
  step_fits n t (WriteMultipleCoils a coils) = checked_fits n (is_quantity max_write_coils (length coils)) (inside (length t.coils) a (length coils)) _ t (λ e. reply_fits n _ (omega arith))
  step_fits n t (WriteMultipleRegisters a ws) = checked_fits n (is_quantity max_write_registers (length ws)) (inside (length t.holding_registers) a (length ws)) _ t (λ e. reply_fits n _ (omega arith))
  step_fits n t (MaskWriteRegister a b c) = checked_fits n true (inside (length t.holding_registers) a 1) _ t (λ e. reply_fits n _ (omega arith))
  step_fits n t (ReadWriteMultipleRegisters a m b ws) = checked_fits n (both_count m (length ws)) (both_inside (length t.holding_registers) a m b (length ws)) _ t
      (λ e. both_fit n a m (with_entries b ws t.holding_registers) (most_of max_read_registers m (left (is_quantity max_read_registers m) (is_quantity max_read_write_registers (length ws)) e)))
  step_fits n t (ReadFifoQueue a) =
      let m = queue_count a t.holding_registers in
      checked_fits n true (inside (length t.holding_registers) a 1) _ t
      (λ e. checked_fits n (is_queue_count m) (inside (length t.holding_registers) (a + 1) m) _ t (λ e. queue_fits n (a + 1) m t.holding_registers (leb-true m max_fifo_count e)))
  step_fits n t ReportServerId = exception_fits n code.IllegalFunction
  step_fits n t (ReadDeviceIdentification read id) = exception_fits n code.IllegalFunction
  step_fits n t (Custom function bytes) = exception_fits n code.IllegalFunction

  pub store_fits : (n : ℕ) (t : Tables) (slave : ℕ) (request : Asked) → length (reply_pdu n (store_step t slave request).0) ≤ max_pdu
  unfolding store_step
  store_fits n t slave request = go (t.broadcast && eqb slave 0)
    where
      go : (b : Bool) → IsShort n (cond b (silence, (step_of t request).1) (step_of t request)).0
      go true = silent_fits n
      go false = step_fits n t request
