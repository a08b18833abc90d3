use Rattle.std.proofs.Common.{refl, rules}
use Rattle.modbus_server.proofs.listener.accept_one.Goals as goal

pub returns-in_default-share-clause-accepts_one : goal.returns-in_default-share-clause-accepts_one
returns-in_default-share-clause-accepts_one g c = ((c.in-Ok-Some.service, c.in-Ok-Some.link), search rules, refl)

pub returns-in-Err-start-clause-accepts_one : goal.returns-in-Err-start-clause-accepts_one
returns-in-Err-start-clause-accepts_one g c = ((c.in-Ok-Some.service, c.in-Ok-Some.link), search rules, search rules)
