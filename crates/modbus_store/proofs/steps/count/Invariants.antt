use Rattle.modbus_frame.specs.Meaning.{meaning}
use Rattle.modbus_store.specs.Outcomes.{outcome_of}
use Rattle.modbus_store.specs.Legal.{call}
use Rattle.modbus_store.proofs.steps.count.Given as goal

abbrev pub ghosts-count_as : goal.ghosts-count_as
ghosts-count_as a = record { added = call a.number a.request.now.slave (meaning a.request.now.request) (outcome_of a.outcome.now) }
