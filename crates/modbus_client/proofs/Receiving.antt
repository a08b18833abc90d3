-- What one turn of waiting for a reply spends, reads and answers.
use Rattle.std.proofs.Common.{inl, inr, ℕ, ◌+◌, ◌<◌, ◌≤◌, List, length, Some, Ok, Err, refl, ap, arith}
use Rattle.modbus_link.specs.declared.outside.Cut.{Cut}
use Rattle.modbus_link.specs.Outside.{Rose, cuts_from}
use Rattle.modbus_link.specs.Reads.{HaveRooms, Spends}
use Rattle.modbus_frame.specs.declared.fault.Error.TheVariants.{Protocol as protocol, Transport, NoMemory}
use Rattle.modbus_frame.specs.declared.fault.TransportError.TheVariants as transport
use Rattle.modbus_client.specs.Matches.{Answer}
use Rattle.modbus_client.specs.Calls.{HasRoom, call_spending, IsOneRead, TurnSpends, IsOfReply}

pub rose_later : (a b c : ℕ) → a ≤ b → Rose b c → Rose a c
rose_later a b c le rose = omega (arith, rose)

pub late_turn : (answer : Answer) (count : ℕ) → TurnSpends (Some answer) count → IsOfReply answer
late_turn (Ok result) count spends = tt
late_turn (Err (protocol fault)) count spends = (λ e. cc, λ e. cc)
late_turn (Err (Transport transport.NotConnected)) count spends = let stage = spends.0 in absurd cc
late_turn (Err (Transport (transport.RequestTooLong size))) count spends = let stage = spends.0 in absurd cc
late_turn (Err (Transport transport.WriteFault)) count spends = let stage = spends.0 in absurd cc
late_turn (Err (Transport _)) count spends = (λ e. cc, λ e. cc)
late_turn (Err NoMemory) count spends = (λ e. cc, λ e. cc)

pub spends_by : (answer : Answer) (made count turns : ℕ) → TurnSpends (Some answer) count → count ≤ 1 → made < turns → Spends (call_spending answer) (made + count) turns
spends_by (Ok result) made count turns spends most less = omega arith
spends_by (Err (protocol fault)) made count turns spends most less = omega arith
spends_by (Err (Transport transport.BrokenPipe)) made count turns spends most less = omega (arith, spends)
spends_by (Err (Transport transport.BytesRemaining)) made count turns spends most less = omega (arith, spends)
spends_by (Err (Transport transport.ReadFault)) made count turns spends most less = omega (arith, spends)
spends_by (Err (Transport transport.TurnLimit)) made count turns spends most less = let stage = spends.0 in absurd cc
spends_by (Err (Transport _)) made count turns spends most less = omega arith
spends_by (Err NoMemory) made count turns spends most less = omega arith

pub once_most : (fed : List ℕ) (made : List Cut) → IsOneRead fed made → length made ≤ 1
once_most fed made once = elim once [
  | inl none ↦ omega (arith, ap length none.1)
  | inr one ↦ omega (arith, ap length one.1)
]

pub once_rooms : (all fed : List ℕ) (made : List Cut) (total : ℕ) → IsOneRead fed made → HaveRooms HasRoom all total (cuts_from total made)
once_rooms all fed made total once = elim once [
  | inl none ↦ rw none.1 tt
  | inr one ↦ rw one.1 (refl, tt)
]
