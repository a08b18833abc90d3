use Rattle.std.proofs.Common.{◌++◌, ◌∷◌, ◌∙◌, [], ap, length, subst, List, ℕ}
use Rattle.modbus_client.specs.Call.{LooksAs}
use Rattle.modbus_client.specs.Tcp.{tcp_protocol}
use Rattle.modbus_client.proofs.tcp.AdusProtocol.look.Goals as goal

pub returns-clause-looks : goal.returns-clause-looks
returns-clause-looks c = λ bytes cuts earlier more s is some.
    let now = cuts ++ length (bytes ++ more) ∷ [] in
    subst (λ (b : List ℕ). LooksAs tcp_protocol c.args._asked b now c.take_adu.new.held.items c.take_adu.result) (is ∙ ap (λ (e : List ℕ). e ++ more) s.1) (c.take_adu.ensures.looks c.args._asked now)
