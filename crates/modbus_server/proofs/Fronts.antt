-- What the readers of frames and of ADUs find at the front of the held bytes, as a connection takes it.
use Rattle.std.proofs.Common.{ℕ, List, drop, arith, Result, Ok, Err, length-drop}
use Rattle.modbus_frame.specs.declared.front.Front.{Front}
use Rattle.modbus_frame.specs.declared.front.Front.TheVariants as front
use Rattle.modbus_frame.specs.declared.tcp.Header.{Header}
use Rattle.modbus_pdu.specs.SlavePdu.{SlavePdu}
use Rattle.modbus_pdu.specs.Message.{Message, message}
use Rattle.modbus_rtu.specs.declared.front.Crowd.{Crowd}
use Rattle.modbus_rtu.specs.Front.{FindsFrame, FindsFrameIn}
use Rattle.modbus_tcp.specs.Decoder.{FindsAdu}
use Rattle.modbus_tcp.specs.Stream.{no_length, foreign}
use Rattle.modbus_tcp.specs.declared.stream.HeaderFault.{HeaderFault}
use Rattle.modbus_tcp.specs.declared.stream.HeaderFault.TheVariants as fault
use Rattle.modbus_server.specs.declared.error.ProcessError.TheVariants.{TooManyRetries}
use Rattle.modbus_server.specs.Next.{FindsNext, IsFrontWithin}
use Rattle.modbus_server.specs.Rtu.{rtu, BeginsOpen}
use Rattle.modbus_server.specs.Tcp.{tcp, Follows, IsShort, told_fault}
use Rattle.modbus_server.proofs.TcpIntake.{next_adu, split_with, all_adus}

pub finds_frame : (bytes cuts : List ℕ) (taken : List SlavePdu) (held : List ℕ) (result : Result (Front ℕ) Crowd)
    → FindsFrameIn bytes cuts taken held result → FindsNext rtu (λ slave. slave) (λ crowd. TooManyRetries) bytes cuts taken held result
finds_frame bytes cuts taken held (Ok (front.Message slave pdu end)) found = found
finds_frame bytes cuts taken held (Ok (front.Waiting dropped)) found = (found.0, found.1)
finds_frame bytes cuts taken held (Err crowd) found = found

pub frame_within : (held : List ℕ) (result : Result (Front ℕ) Crowd) → FindsFrame held result → IsFrontWithin BeginsOpen held result
frame_within held (Ok (front.Message slave pdu end)) (start, n, next, address, same, stops, fits) = (omega (arith, stops), fits)
frame_within held (Ok (front.Waiting dropped)) (next, within, short) = (within, (omega (arith, within, short, length-drop dropped held), next.2))
frame_within held (Err crowd) found = tt

module _ (bytes cuts held : List ℕ) (taken : List (Message Header)) (s : Follows bytes cuts held taken) where
  pub finds_adu : (result : Result (Front Header) HeaderFault) → FindsAdu held result → FindsNext tcp (λ header. header) told_fault bytes cuts taken held result
  finds_adu (Ok (front.Message header pdu end)) found = next_adu bytes cuts held taken s (message header pdu.now) (drop end held) found.0
  finds_adu (Ok (front.Waiting dropped)) found = rw found.0 (s, all_adus bytes cuts held taken s found.1)
  finds_adu (Err fault.InvalidLength) found = (held, split_with bytes cuts held taken s no_length found)
  finds_adu (Err (fault.InvalidProtocol protocol)) found = (held, split_with bytes cuts held taken s (foreign protocol) found)

pub adu_within : (held : List ℕ) (result : Result (Front Header) HeaderFault) → FindsAdu held result → IsFrontWithin IsShort held result
adu_within held (Ok (front.Message header pdu end)) found = (found.1, found.2)
adu_within held (Ok (front.Waiting dropped)) found = rw found.0 (omega arith, found.2)
adu_within held (Err fault) found = tt
