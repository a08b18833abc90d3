-- A PDU with what stands beside it, as one message.
use Rattle.std.specs.Prelude.{ℕ, List}

-- A PDU under what stands beside it: the slave address of a frame, or the MBAP header of an ADU.
pub record Message (H : Type 0) : Type 0 where
  pub header : H
  pub pdu : List ℕ

-- this PDU under this header
abbrev pub message : {H : Type 0} → H → List ℕ → Message H
message header pdu = record { header = header; pdu = pdu }
