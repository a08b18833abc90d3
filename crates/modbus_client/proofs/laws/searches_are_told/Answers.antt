use Rattle.modbus_client.proofs.Exactly.{told_of, tells_waiting}
use Rattle.modbus_client.proofs.laws.searches_are_told.Goals as goal

pub returns-clause-found : goal.returns-clause-found
returns-clause-found g c = λ from to sunk sinks header asked turns held answer r found finds.
    told_of g.P.Protocol.protocol c.laws.ensures.opening c.laws.ensures.one_way from to sunk sinks header asked turns held answer r found finds

pub returns-clause-waiting : goal.returns-clause-waiting
returns-clause-waiting g c = λ from to sunk sinks header asked turns held kept answer r finds fits no_read no_write.
    tells_waiting g.P.Protocol.protocol c.laws.ensures.opening c.laws.ensures.one_way from to sunk sinks header asked turns held kept fits no_read no_write answer r finds
