use Rattle.std.proofs.Common.{refl, sym, subst}
use Rattle.std.specs.Result.{IfErr}
use Rattle.modbus_client.specs.Typed.{answer_map}
use Rattle.modbus_map.specs.declared.kind.Table.{Table}
use Rattle.modbus_map.specs.declared.kind.Table.TheVariants.{Coils, DiscreteInputs}
use Rattle.modbus_map.specs.Asking.{AsksTable, Loses}
use Rattle.modbus_map.proofs.TableReads.{loses_bits}
use Rattle.modbus_map.proofs.given.ask.Goals as goal

pub returns-in-Coils-clause-lost : goal.returns-in-Coils-clause-lost
returns-in-Coils-clause-lost g c =
    subst (λ (table : Table). IfErr c.answer_in_words.result (λ error. Loses (AsksTable g.R.Client.answers table) c.args.reader.now c.args.read.now c.read_coils.new.self)) (sym c.in-Coils.is)
    (loses_bits (AsksTable g.R.Client.answers Coils) c.args.reader.now c.read_coils.new.self c.args.read.now (answer_map (λ v. v.items) c.read_coils.result) c.answer_in_words.result
    (answer_map (λ v. v.items) c.read_coils.result, c.read_coils.ensures, refl) c.answer_in_words.ensures.lost)

pub returns-in-DiscreteInputs-clause-lost : goal.returns-in-DiscreteInputs-clause-lost
returns-in-DiscreteInputs-clause-lost g c =
    subst (λ (table : Table). IfErr c.answer_in_words-in-DiscreteInputs.result
    (λ error. Loses (AsksTable g.R.Client.answers table) c.args.reader.now c.args.read.now c.read_discrete_inputs.new.self)) (sym c.in-DiscreteInputs.is)
    (loses_bits (AsksTable g.R.Client.answers DiscreteInputs) c.args.reader.now c.read_discrete_inputs.new.self c.args.read.now (answer_map (λ v. v.items) c.read_discrete_inputs.result)
    c.answer_in_words-in-DiscreteInputs.result (answer_map (λ v. v.items) c.read_discrete_inputs.result, c.read_discrete_inputs.ensures, refl) c.answer_in_words-in-DiscreteInputs.ensures.lost)
