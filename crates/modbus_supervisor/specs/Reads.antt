-- The reads of a device's poll, and what they are answered (Modbus Application Protocol V1.1b3, sections 6.1 to 6.4).
use Rattle.std.specs.Prelude.{ℕ, ◌+◌, ◌&&◌, ◌==◌, nat_le, nat_lt, Bool, List, ◌++◌, length, map, take, Option, Some, None, Result, Ok, Err, if◌then◌else◌}
use Rattle.modbus_frame.specs.Meaning.{Asked, ReadCoils, ReadDiscreteInputs, ReadInputRegisters, ReadHoldingRegisters}
use Rattle.modbus_frame.specs.declared.code.ExceptionCode.{ExceptionCode}
use Rattle.modbus_frame.specs.declared.response.Response.{Response}
use Rattle.modbus_frame.specs.declared.response.Response.TheVariants as response
use Rattle.modbus_poll.specs.declared.read.Read.{Read}
use Rattle.modbus_poll.specs.Spans.{is_within}
use Rattle.modbus_map.specs.declared.given.Given.{Given}
use Rattle.modbus_map.specs.declared.kind.Table.{Table}
use Rattle.modbus_map.specs.declared.kind.Table.TheVariants.{Coils, DiscreteInputs, InputRegisters, HoldingRegisters}
use Rattle.modbus_map.specs.declared.point.Point.{Point}
use Rattle.modbus_map.specs.declared.tables.Tables.{Tables}
use Rattle.modbus_map.specs.Asking.{word_of}
use Rattle.modbus_map.specs.Gathering.{is_in, span_of}
use Rattle.modbus_supervisor.specs.declared.reads.TableRead.{TableRead}

-- a read of this table
abbrev pub in_table : Table → Read → TableRead
in_table table read = record { table = table; read = read }

-- the reads of all tables, in the order in which they are made
abbrev pub all_reads : Tables (List Read) → List TableRead
all_reads plans =
    map (in_table Coils) plans.coils ++ map (in_table DiscreteInputs) plans.discrete_inputs
    ++ map (in_table InputRegisters) plans.input_registers ++ map (in_table HoldingRegisters) plans.holding_registers

-- what a read of a table asks for
abbrev pub asked_in : Table → Read → Asked
asked_in Coils read = ReadCoils read.address read.count
asked_in DiscreteInputs read = ReadDiscreteInputs read.address read.count
asked_in InputRegisters read = ReadInputRegisters read.address read.count
asked_in HoldingRegisters read = ReadHoldingRegisters read.address read.count

abbrev pub asked_by : TableRead → Asked
asked_by asked = asked_in asked.table asked.read

-- it reads the table of a point, and each register of the point, or its bit
abbrev pub gives : TableRead → Point → Bool
gives asked point = is_in asked.table point.table && is_within (span_of point) asked.read

-- so many registers as were asked for
abbrev pub words_of_registers : Read → List ℕ → Option (List ℕ)
words_of_registers read words = if length words == read.count then Some words else None

-- so many states as were asked for, filled up to whole bytes
abbrev pub has_states : ℕ → ℕ → Bool
has_states count states = nat_le count states && nat_lt states (count + 8)

-- those that were asked for, as words
abbrev pub words_of_bits : Read → List Bool → Option (List ℕ)
words_of_bits read states = if has_states read.count (length states) then Some (map word_of (take read.count states)) else None

-- the words of a response to a read of a table; none where it is no response to it
abbrev pub words_in : Table → Read → Response → Option (List ℕ)
words_in Coils read (response.ReadCoils states) = words_of_bits read states
words_in DiscreteInputs read (response.ReadDiscreteInputs states) = words_of_bits read states
words_in InputRegisters read (response.ReadInputRegisters words) = words_of_registers read words
words_in HoldingRegisters read (response.ReadHoldingRegisters words) = words_of_registers read words
words_in table read _ = None

abbrev pub words_told : TableRead → Response → Option (List ℕ)
words_told asked told = words_in asked.table asked.read told

abbrev pub given_of_words : Read → Option (List ℕ) → Option Given
given_of_words read None = None
given_of_words read (Some words) = Some (record { read = read; words = Ok words })

-- what an answer to a read gives: the words of its response, or the exception; none where it is no answer to it
abbrev pub given_by : TableRead → Result Response ExceptionCode → Option Given
given_by asked (Ok told) = given_of_words asked.read (words_told asked told)
given_by asked (Err code) = Some (record { read = asked.read; words = Err code })
