-- What is told of the frame that is the reply.
use Rattle.std.specs.Prelude.{◌≡◌, ℕ, List, Option, Some, None, Result, Ok, Err, IsOkAnd}
use Rattle.modbus_pdu.specs.ResponseOf.{AnswerCarriesMemory}
use Rattle.modbus_client.specs.declared.protocol.Reply.{Reply}
use Rattle.modbus_client.specs.declared.protocol.LookError.{LookError}
use Rattle.modbus_client.specs.declared.protocol.LookError.TheVariants as look
use Rattle.modbus_client.specs.Protocol.{Meaning}
use Rattle.modbus_client.specs.Rtu.{slave_seen}

-- what its PDU stands for; or the PDU is refused for this reason; or memory was refused for it
abbrev pub ReadsReply : Meaning → ℕ → List ℕ → Result (Option Reply) LookError → Type 0
ReadsReply means slave pdu (Ok None) = ⊥
ReadsReply means slave pdu (Ok (Some found)) = (found.header ≡ slave_seen slave) × (means pdu ≡ Ok found.result)
ReadsReply means slave pdu (Err (look.Broken fault)) = ⊥
ReadsReply means slave pdu (Err (look.Refused reason)) = means pdu ≡ Err reason
ReadsReply means slave pdu (Err look.NoMemory) = IsOkAnd (means pdu) AnswerCarriesMemory
