use Rattle.std.proofs.Common.{◌≡◌, List, [], ◌∷◌, take, subst}
use Rattle.std.specs.declared.net.socket_addr.SocketAddr.{SocketAddr}
use Rattle.std.specs.Net.ToAddrs.{IsHostAndPort}
use Rattle.modbus_plant.proofs.Unopened.{only_first}
use Rattle.modbus_plant.proofs.opening.first_address.Goals as goal

pub returns-in-Some-clause-address : goal.returns-in-Some-clause-address
returns-in-Some-clause-address g c = λ ip spelled.
    let given = c.in-Ok.ensures.gives ip spelled in
    let taken : take c.in-Ok.addresses.n (c.in-Some.address ∷ _) ≡ given.0 ∷ [] =
    subst (λ (addresses : List SocketAddr). take c.in-Ok.addresses.n addresses ≡ given.0 ∷ []) c.in-Some.ensures.steps.0 given.1 in
    subst (λ (address : SocketAddr). IsHostAndPort c.args.host.now c.args.port address)
    (only_first c.in-Ok.addresses.n _ _ given.0 c.in-Some.address taken c.in-Some.ensures.steps.1) given.2
