-- What is found at the front, in terms of all bytes that were given.
use Rattle.std.proofs.Common.{ℕ, List, Result, Ok, Err}
use Rattle.modbus_frame.specs.declared.front.Front.{Front}
use Rattle.modbus_frame.specs.declared.front.Front.TheVariants as front
use Rattle.modbus_pdu.specs.SlavePdu.{SlavePdu}
use Rattle.modbus_rtu.specs.declared.front.Crowd.{Crowd}
use Rattle.modbus_rtu.specs.Front.{FindsFrame, FindsFrameIn}
use Rattle.modbus_rtu.specs.Stands.{StandsFor}
use Rattle.modbus_rtu.proofs.Standing.{stands_frame, next_taken, stands_waiting, used_up, first_crowd}
use Rattle.modbus_rtu.proofs.Carrying.{open_at_front}

pub finds_in : (held : List ℕ) (result : Result (Front ℕ) Crowd) → FindsFrame held result → (bytes cuts : List ℕ) (taken : List SlavePdu) → StandsFor bytes cuts held taken → FindsFrameIn bytes cuts taken held result
finds_in held (Ok (front.Message slave pdu end)) (start, n, next, address, same, stops, fits) bytes cuts taken s =
    rw (address, same, stops) (stands_frame bytes cuts held taken s start n next, next_taken bytes cuts held taken s start n next)
finds_in held (Ok (front.Waiting dropped)) (next, within, short) bytes cuts taken s =
    (stands_waiting bytes cuts held taken s dropped next, used_up bytes cuts held taken s dropped next, open_at_front held dropped next)
finds_in held (Err crowd) (next, long) bytes cuts taken s = (s.place, first_crowd bytes cuts held taken s next)
