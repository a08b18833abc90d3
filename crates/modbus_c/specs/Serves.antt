-- What one message of an input is answered by lent tables.
use Rattle.std.specs.Prelude.{◌≡◌, ◌⊎◌, ℕ, ◌+◌, ◌<◌, ◌≤◌, List, [], length, take, drop, slice_index, Option, Some, None, Result, Ok, Err}
use Rattle.modbus_frame.specs.Meaning.{Asked}
use Rattle.modbus_frame.specs.declared.fault.PduError.{PduError}
use Rattle.modbus_frame.specs.declared.fault.PduError.TheVariants as fault
use Rattle.modbus_frame.specs.declared.response.Response.{Response}
use Rattle.modbus_frame.specs.declared.response.ExceptionResponse.{ExceptionResponse}
use Rattle.modbus_frame.specs.declared.tcp.Header.{Header}
use Rattle.modbus_pdu.specs.RequestOf.{request_of}
use Rattle.modbus_pdu.specs.ResponsePdu.{response_result_pdu}
use Rattle.modbus_pdu.specs.Message.{message}
use Rattle.modbus_rtu.specs.declared.front.Crowd.{Crowd}
use Rattle.modbus_rtu.specs.declared.search.Next.TheVariants as next
use Rattle.modbus_rtu.specs.Frame.{frame}
use Rattle.modbus_rtu.specs.Limits.{overhead, max_frame, max_retries}
use Rattle.modbus_rtu.specs.Next.{IsNext}
use Rattle.modbus_service.specs.Outcome.{reply_pdu, code_of}
use Rattle.modbus_store.specs.Step.{store_step}
use Rattle.modbus_store.specs.Tables.{Tables}
use Rattle.modbus_tcp.specs.declared.stream.HeaderFault.{HeaderFault}
use Rattle.modbus_tcp.specs.Adu.{adu_of}
use Rattle.modbus_tcp.specs.Decoder.{FindsAdu}
use Rattle.modbus_tcp.specs.Stream.{IsRest, empty, unfinished, BeginsWith}
use Rattle.modbus_c.specs.declared.serve.Served.{Served}
use Rattle.modbus_c.specs.declared.serve.Served.TheVariants as served
use Rattle.modbus_c.specs.Layout.{laid}

-- The PDU stands for a request, and a store with these tables answers it by this PDU, and then has those tables. The PDU of an answer
-- is empty exactly where there is none.
pub record Replies (old : Tables) (slave : ℕ) (pdu answer : List ℕ) (new : Tables) : Type 0 where
  pub request : Asked
  pub asked : request_of pdu ≡ Ok request
  pub made : answer ≡ reply_pdu (code_of request) (store_step old slave request).0
  pub tables : new ≡ (store_step old slave request).1

-- the same of what a function answers; after an error the tables are as they were
abbrev pub RepliesAs : Tables → ℕ → List ℕ → Result (Option (Result Response ExceptionResponse)) PduError → Tables → Type 0
RepliesAs old slave pdu (Ok (Some answer)) new = Replies old slave pdu (response_result_pdu answer) new
RepliesAs old slave pdu (Ok None) new = Replies old slave pdu [] new
RepliesAs old slave pdu (Err (fault.Refused reason)) new = (request_of pdu ≡ Err reason) × (new ≡ old)
RepliesAs old slave pdu (Err fault.NoMemory) new = new ≡ old

-- the output has this reply at its front, and so many bytes were written
abbrev pub WritesReply : List ℕ → List ℕ → ℕ → List ℕ → Type 0
WritesReply reply old written new = (new ≡ laid reply old) × (written ≡ length reply) × (written ≤ length old)

-- What is done with the ADU at the front of an input: the reply is an ADU under the same header. Where there is no reply nothing is
-- written, and where there is no request no table changes.
abbrev pub ServesAdu : Tables → List ℕ → List ℕ → Result Served HeaderFault → List ℕ → Tables → Type 0
ServesAdu old input room (Ok (served.Answered used written)) output new = (header : Header) × (pdu made : List ℕ)
    × BeginsWith input (message header pdu) (drop used input) × (used ≤ length input) × Replies old header.unit_id pdu made new × WritesReply (adu_of header made) room written output
ServesAdu old input room (Ok (served.Silent used)) output new = (header : Header) × (pdu : List ℕ)
    × BeginsWith input (message header pdu) (drop used input) × (used ≤ length input) × Replies old header.unit_id pdu [] new × (output ≡ room)
ServesAdu old input room (Ok (served.Refused used reason)) output new = (header : Header) × (pdu : List ℕ)
    × BeginsWith input (message header pdu) (drop used input) × (used ≤ length input) × (request_of pdu ≡ Err reason) × (new ≡ old) × (output ≡ room)
ServesAdu old input room (Ok (served.Waiting dropped)) output new = (dropped ≡ 0) × (IsRest input empty ⊎ IsRest input unfinished) × (new ≡ old) × (output ≡ room)
ServesAdu old input room (Ok served.NoMemory) output new = (new ≡ old) × (output ≡ room)
ServesAdu old input room (Err fault) output new = FindsAdu input (Err fault) × (new ≡ old) × (output ≡ room)

-- the slave address and the PDU of a frame at an offset
abbrev pub slave_at : List ℕ → ℕ → ℕ
slave_at input start = slice_index input start

abbrev pub pdu_at : List ℕ → ℕ → ℕ → List ℕ
pdu_at input start n = take n (drop (start + 1) input)

-- the next frame of an input, which may stand behind bytes that are no frame, and where it ends
abbrev pub EndsAt : List ℕ → ℕ → ℕ → ℕ → Type 0
EndsAt input start n used = IsNext input (next.Frame start n) × (used ≡ start + n + overhead) × (used ≤ length input)

-- The same of the next frame of an input.
abbrev pub ServesFrame : Tables → List ℕ → List ℕ → Result Served Crowd → List ℕ → Tables → Type 0
ServesFrame old input room (Ok (served.Answered used written)) output new = (start n : ℕ) × (made : List ℕ)
    × EndsAt input start n used × Replies old (slave_at input start) (pdu_at input start n) made new × WritesReply (frame (slave_at input start) made) room written output
ServesFrame old input room (Ok (served.Silent used)) output new = (start n : ℕ)
    × EndsAt input start n used × Replies old (slave_at input start) (pdu_at input start n) [] new × (output ≡ room)
ServesFrame old input room (Ok (served.Refused used reason)) output new = (start n : ℕ)
    × EndsAt input start n used × (request_of (pdu_at input start n) ≡ Err reason) × (new ≡ old) × (output ≡ room)
ServesFrame old input room (Ok (served.Waiting dropped)) output new = IsNext input (next.Waiting dropped) × (dropped ≤ length input) × (length input < dropped + max_frame) × (new ≡ old) × (output ≡ room)
ServesFrame old input room (Ok served.NoMemory) output new = (new ≡ old) × (output ≡ room)
ServesFrame old input room (Err crowd) output new = IsNext input next.TooManyRetries × (max_retries ≤ length input) × (new ≡ old) × (output ≡ room)
