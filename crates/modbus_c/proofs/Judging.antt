-- A message that was found, under the header that was asked.
use Rattle.std.proofs.Common.{◌≡◌, ℕ, Bool, List, sym, subst}
use Rattle.modbus_frame.specs.declared.fault.HeaderSeen.{HeaderSeen}
use Rattle.modbus_client.specs.Protocol.{reply}
use Rattle.modbus_c.specs.Calls.{FindsMessageBy}

pub found_under : (tcp : Bool) (asked header seen : HeaderSeen) (held bytes left pdu : List ℕ) → FindsMessageBy tcp asked bytes (reply left seen pdu) → asked ≡ header → seen ≡ asked → held ≡ bytes
    → FindsMessageBy tcp header held (reply left header pdu)
found_under tcp asked header seen held bytes left pdu f a s h =
    subst (λ b. FindsMessageBy tcp header b (reply left header pdu)) (sym h)
    (subst (λ x. FindsMessageBy tcp x bytes (reply left x pdu)) a (subst (λ x. FindsMessageBy tcp asked bytes (reply left x pdu)) s f))
