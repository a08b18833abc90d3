-- What a protocol says of the bytes of a call: how a request is framed, and how the reply stands in the bytes that were read.
use Rattle.std.specs.Prelude.{◌≡◌, ◌≢◌, ℕ, List, [], Result}
use Rattle.modbus_frame.specs.declared.fault.HeaderSeen.{HeaderSeen}
use Rattle.modbus_frame.specs.declared.fault.Reason.{Reason}
use Rattle.modbus_frame.specs.declared.fault.TransportError.{TransportError}
use Rattle.modbus_frame.specs.declared.fault.TransportError.TheVariants.{TooManyRetries, InvalidLength, InvalidProtocol}
use Rattle.modbus_frame.specs.declared.response.Response.{Response}
use Rattle.modbus_frame.specs.declared.response.ExceptionResponse.{ExceptionResponse}

-- How the search for a reply stands, and which bytes are then held.
pub data Found : Type 0 where
  -- there is none yet
  waiting : (held : List ℕ) → Found
  -- a message: what is compared of its header, and its PDU
  reply : (held : List ℕ) (header : HeaderSeen) (pdu : List ℕ) → Found
  -- there is none, and none comes by waiting
  broken : (held : List ℕ) (fault : TransportError) → Found

-- what the PDU of a reply stands for, or why it stands for nothing
abbrev pub Meaning : Type 0
Meaning = List ℕ → Result (Result Response ExceptionResponse) Reason

-- `Header` is what stands beside the PDU of a request.
pub record Protocol (Header : Type 0) : Type 1 where
  -- what is compared of it
  pub seen : Header → HeaderSeen
  -- the bytes of a message
  pub adu : Header → List ℕ → List ℕ
  -- what the PDU of a reply stands for
  pub means : Meaning
  -- of what is compared of the request's header, of bytes, cuts and a search: so it stands in these bytes, which were read with these
  -- cuts
  pub Finds : HeaderSeen → List ℕ → List ℕ → Found → Type 0
  -- of the same and a number: so many messages of other requests does it drop in these bytes, which were read with these cuts
  pub Counts : HeaderSeen → List ℕ → List ℕ → ℕ → Type 0
  -- of a header and a PDU: the first bytes of this message tell where it ends
  pub IsWhole : Header → List ℕ → Type 0

-- How a client heads its requests, by the identifiers that it keeps between its calls.
pub record Heading (Header Ids : Type 0) : Type 0 where
  -- those of a client that asked nothing yet
  pub first : Ids
  -- the header of the next request to a slave
  pub header : Ids → ℕ → Header
  -- the identifiers after it
  pub next : Ids → Ids

-- the faults that are left to protocols
abbrev pub IsOfProtocol : TransportError → Type 0
IsOfProtocol TooManyRetries = Unit {0}
IsOfProtocol InvalidLength = Unit {0}
IsOfProtocol (InvalidProtocol protocol) = Unit {0}
IsOfProtocol _ = ⊥

-- In a front of a message alone, before a rest, the search waits where the rest isn't empty, and else it finds the message.
abbrev pub IsOfMessage : HeaderSeen → List ℕ → List ℕ → Found → Type 0
IsOfMessage seen pdu rest (waiting held) = rest ≢ []
IsOfMessage seen pdu rest (reply held header found) = (rest ≡ []) × (held ≡ []) × (header ≡ seen) × (found ≡ pdu)
IsOfMessage seen pdu rest (broken held fault) = ⊥
