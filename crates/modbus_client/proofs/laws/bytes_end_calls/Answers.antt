use Rattle.std.proofs.Common.{Some}
use Rattle.modbus_client.proofs.Turning.{answered_ends, fed_goes}
use Rattle.modbus_client.proofs.laws.bytes_end_calls.Goals as goal

pub returns-clause-ends : goal.returns-clause-ends
returns-clause-ends g c = answered_ends g.P.Protocol.protocol

pub returns-clause-anywhere : goal.returns-clause-anywhere
returns-clause-anywhere g c = λ answer left late. fed_goes (Some answer) left late
