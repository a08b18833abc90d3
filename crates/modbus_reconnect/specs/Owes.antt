-- Which answers of a call leave nothing owed on its link: no reply to it comes any more, and no byte of one lies unread.
use Rattle.std.specs.Prelude.{ℕ, ◌-◌, Bool, true, false, ◌&&◌, ◌||◌, if◌then◌else◌, List, [], ◌∷◌, Ok, Err}
use Rattle.modbus_frame.specs.Meaning.{Asked}
use Rattle.modbus_frame.specs.Stage.{Stage, unsent, writing, reading, of_bytes, memory, error_stage}
use Rattle.modbus_frame.specs.declared.fault.Error.TheVariants.{Transport}
use Rattle.modbus_frame.specs.declared.fault.TransportError.TheVariants.{ReadFault}
use Rattle.modbus_client.specs.Matches.{Answer}
use Rattle.modbus_reconnect.specs.Replies.{is_reply_to}

-- Whether an error settles its call, by how far this came:
-- `unsent`: not connected, or the request is too long. No byte of it was sent, so no reply comes.
-- `writing`: a front of the request may stand on the link, and the next request would be taken for the rest of it.
-- `reading`: a read failed, as one does that nothing came for in time, or no further read is allowed: the reply may still come. Or the link
-- ended, and none comes at all.
-- `of_bytes`: what came is another's reply, and the own one may still come; or no message begins where the next one is looked for.
-- `memory`: it may have been refused after the request was sent.
abbrev pub settles : Stage → Bool
settles unsent = true
settles writing = false
settles reading = false
settles of_bytes = false
settles memory = false

-- The call was answered by its own reply, or sent nothing. A response that the request could not have is another's, though its header and
-- its function are those of the request.
abbrev pub is_settled : Asked → Answer → Bool
is_settled asked (Ok (Ok response)) = is_reply_to asked response
is_settled asked (Ok (Err code)) = true
is_settled asked (Err error) = settles (error_stage error)

-- the same, and no byte is left over behind the reply
abbrev pub leaves_nothing : Asked → Answer → List ℕ → Bool
leaves_nothing asked answer [] = is_settled asked answer
leaves_nothing asked answer (byte ∷ bytes) = false

-- a read failed, as one does that nothing came for in time
abbrev pub is_read_fault : Answer → Bool
is_read_fault (Err (Transport ReadFault)) = true
is_read_fault _ = false

-- a call was given up at a read fault, with no byte of a reply read
abbrev pub is_late : Answer → List ℕ → Bool
is_late answer [] = is_read_fault answer
is_late answer (byte ∷ bytes) = false

-- A link is kept where nothing is owed on it; and where a reply is late, by a client that lets it come.
abbrev pub is_kept : Bool → Asked → Answer → List ℕ → Bool
is_kept patient asked answer held = leaves_nothing asked answer held || (patient && is_late answer held)

-- How many more time-outs in a row a link is kept through, after a call with this answer: one less after a time-out, as many as at first
-- after a reply, and for a new link.
abbrev pub left_after : Bool → Answer → ℕ → ℕ → ℕ
left_after false answer patience left = patience
left_after true answer patience left = if is_read_fault answer then left - 1 else patience
