use Rattle.std.proofs.Common.{refl}
use Rattle.modbus_map.specs.declared.kind.Table.TheVariants.{Coils, DiscreteInputs, InputRegisters, HoldingRegisters}
use Rattle.modbus_map.proofs.Stopping.{stops_with}
use Rattle.modbus_map.proofs.gathering.gather.Goals as goal

pub returns-clause-made : goal.returns-clause-made
returns-clause-made g c = record {
  first = c.read_of.new.reader;
  second = c.read_of-2.new.reader;
  third = c.read_of-3.new.reader;
  coils = c.in_ok-coils.ensures.made;
  discrete_inputs = c.in_ok-discrete_inputs.ensures.made;
  input_registers = c.in_ok-input_registers.ensures.made;
  holding_registers = c.in_ok-holding_registers.ensures.made;
}

pub returns-in_err-coils-clause-stops : goal.returns-in_err-coils-clause-stops
returns-in_err-coils-clause-stops g c =
    stops_with g.R.Client.answers c.args.reader.now c.args.reader.now c.read_of.new.reader c.args.plans.now Coils c.in_err-coils.field-0.0 _
    c.from_residual.ensures.1 c.in_err-coils.ensures.told refl c.in_err-coils.ensures.stops

pub returns-in_err-discrete_inputs-clause-stops : goal.returns-in_err-discrete_inputs-clause-stops
returns-in_err-discrete_inputs-clause-stops g c =
    stops_with g.R.Client.answers c.args.reader.now c.read_of.new.reader c.read_of-2.new.reader c.args.plans.now DiscreteInputs c.in_err-discrete_inputs.field-0.0 _
    c.from_residual-in_err-discrete_inputs.ensures.1 c.in_err-discrete_inputs.ensures.told (c.in_ok-coils.coils.items, c.in_ok-coils.ensures.made)
    c.in_err-discrete_inputs.ensures.stops

pub returns-in_err-input_registers-clause-stops : goal.returns-in_err-input_registers-clause-stops
returns-in_err-input_registers-clause-stops g c =
    stops_with g.R.Client.answers c.args.reader.now c.read_of-2.new.reader c.read_of-3.new.reader c.args.plans.now InputRegisters c.in_err-input_registers.field-0.0 _
    c.from_residual-in_err-input_registers.ensures.1 c.in_err-input_registers.ensures.told
    (c.read_of.new.reader, (c.in_ok-coils.coils.items, c.in_ok-coils.ensures.made), (c.in_ok-discrete_inputs.discrete_inputs.items, c.in_ok-discrete_inputs.ensures.made))
    c.in_err-input_registers.ensures.stops

pub returns-in_err-holding_registers-clause-stops : goal.returns-in_err-holding_registers-clause-stops
returns-in_err-holding_registers-clause-stops g c =
    stops_with g.R.Client.answers c.args.reader.now c.read_of-3.new.reader c.read_of-4.new.reader c.args.plans.now HoldingRegisters c.in_err-holding_registers.field-0.0 _
    c.from_residual-in_err-holding_registers.ensures.1 c.in_err-holding_registers.ensures.told (
      c.read_of-2.new.reader,
      (c.read_of.new.reader, (c.in_ok-coils.coils.items, c.in_ok-coils.ensures.made), (c.in_ok-discrete_inputs.discrete_inputs.items, c.in_ok-discrete_inputs.ensures.made)),
      (c.in_ok-input_registers.input_registers.items, c.in_ok-input_registers.ensures.made),
    )
    c.in_err-holding_registers.ensures.stops
