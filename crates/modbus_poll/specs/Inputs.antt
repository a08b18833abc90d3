-- Polls of input registers (Modbus Application Protocol V1.1b3, section 6.4).
use Rattle.modbus_frame.specs.Meaning.{Asked, ReadInputRegisters}
use Rattle.modbus_client.specs.Matches.{Answer}
use Rattle.modbus_client.specs.Typed.{Asks, input_registers_read}
use Rattle.modbus_poll.specs.declared.read.Read.{Read}
use Rattle.modbus_poll.specs.Polls.{PollMeaning}

-- the request of a read of input registers
abbrev pub asked_inputs : Read → Asked
asked_inputs read = ReadInputRegisters read.address read.count

-- a client was asked a read of input registers once, by its typed call
abbrev pub AsksInputs : {S : Type 0} → (S → Asked → Answer → S → Type 0) → PollMeaning S
AsksInputs answers old read answer new =
    Asks answers old (asked_inputs read) (input_registers_read read.count) answer new
