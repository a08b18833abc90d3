use Rattle.modbus_plant.proofs.Unopened.{address_found, address_missed}
use Rattle.modbus_plant.proofs.opening.address_of.Goals as goal

pub returns-clause-address : goal.returns-clause-address
returns-clause-address g c =
    address_found c.args.word.now c.in-Some.host.now c.in-Some.port c.in-Some.ensures.named c.first_address.result c.first_address.ensures.address

pub returns-clause-why : goal.returns-clause-why
returns-clause-why g c =
    address_missed c.args.word.now c.in-Some.host.now c.in-Some.port c.in-Some.ensures.named c.first_address.result c.first_address.ensures.why c.first_address.ensures.unspelled
