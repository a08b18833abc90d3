-- Frames in the ASCII transmission mode as a client sees them (MODBUS over Serial Line V1.02, section 2.5.2).
use Rattle.std.specs.Prelude.{◌≡◌, ℕ, ◌+◌, ◌-◌, ◌^◌, ◌==◌, min, if◌then◌else◌, List, [], ◌∷◌}
use Rattle.modbus_frame.specs.declared.rtu.Header.{Header}
use Rattle.modbus_frame.specs.declared.fault.HeaderSeen.{HeaderSeen}
use Rattle.modbus_pdu.specs.SlavePdu.{SlavePdu, IsFramed}
use Rattle.modbus_pdu.specs.Message.{message}
use Rattle.modbus_pdu.specs.ResponseOf.{response_result_of}
use Rattle.modbus_ascii.specs.Encoder.{frame}
use Rattle.modbus_ascii.specs.Frames.{frames}
use Rattle.modbus_ascii.specs.OpenFrames.{open_frame}
use Rattle.modbus_client.specs.Protocol.{Protocol, Meaning, Found, waiting, reply}
use Rattle.modbus_client.specs.Rtu.{slave_seen}

-- The first frame of this slave is the reply; with none the search waits, and holds these bytes.
abbrev pub first_of : ℕ → List ℕ → List SlavePdu → Found
first_of slave held [] = waiting held
first_of slave held (found ∷ others) = if found.header == slave then reply [] (slave_seen slave) found.pdu else first_of slave held others

-- how many frames stand before the first one of this slave
abbrev pub others_before : ℕ → List SlavePdu → ℕ
others_before slave [] = 0
others_before slave (found ∷ others) = if found.header == slave then 0 else 1 + others_before slave others

-- How the search for the reply of a slave stands in bytes, whatever pieces they came in: the reply is the first whole and right frame of
-- the slave that the `:` of the bytes deliver, and all else is dropped. A search that waits holds the front of a frame that the bytes end
-- with.
abbrev pub reply_of : ℕ → List ℕ → Found
reply_of slave bytes = first_of slave (open_frame bytes) (frames bytes)

abbrev pub FindsReplyFrame : HeaderSeen → List ℕ → List ℕ → Found → Type 0
FindsReplyFrame asked bytes cuts found = found ≡ reply_of asked.slave_id bytes

-- a counter of 64 bits stands still at its end
abbrev pub counted : ℕ → ℕ
counted n = min n (2 ^ 64 - 1)

-- the frames of other slaves before the reply, or all of them where there is none
abbrev pub CountsOthers : HeaderSeen → List ℕ → List ℕ → ℕ → Type 0
CountsOthers asked bytes cuts dropped = dropped ≡ counted (others_before asked.slave_id (frames bytes))

-- the search for a reply, whose PDU stands for what `means` tells; a frame has the address of its slave alone, as on a line of the RTU mode
abbrev pub texts_by : Meaning → Protocol Header
texts_by means = record {
  seen = λ header. slave_seen header.slave_id;
  adu = λ header pdu. frame header.slave_id pdu;
  means = means;
  Finds = FindsReplyFrame;
  Counts = CountsOthers;
  IsWhole = λ header pdu. IsFramed (message header.slave_id pdu);
}

abbrev pub ascii_protocol : Protocol Header
ascii_protocol = texts_by response_result_of

-- At a silence there is no reply, and what is held of a frame that was begun is dropped.
abbrev pub FindsNone : HeaderSeen → List ℕ → List ℕ → Found → Type 0
FindsNone asked bytes cuts found = found ≡ waiting []

abbrev pub silent_ascii : Protocol Header
silent_ascii = record {
  seen = λ header. slave_seen header.slave_id;
  adu = λ header pdu. frame header.slave_id pdu;
  means = response_result_of;
  Finds = FindsNone;
  Counts = CountsOthers;
  IsWhole = λ header pdu. IsFramed (message header.slave_id pdu);
}
