-- What the gateway of one TCP connection does, in records.
use Rattle.std.specs.Prelude.{◌≡◌, ◌≢◌, ◌⊎◌, ℕ, ◌<◌, List, [], ◌∷◌, ◌++◌, length, map, All, IsTrue, None, Result, Ok, Err}
use Rattle.modbus_link.specs.Outside.{Outside, Rose}
use Rattle.modbus_link.specs.Line.{LinkMeaning}
use Rattle.modbus_link.specs.Reads.{totals}
use Rattle.modbus_frame.specs.Meaning.{Asked}
use Rattle.modbus_frame.specs.declared.tcp.Header.{Header}
use Rattle.modbus_frame.specs.declared.fault.Reason.{Reason}
use Rattle.modbus_pdu.specs.RequestOf.{request_of}
use Rattle.modbus_pdu.specs.Message.{Message}
use Rattle.modbus_tcp.specs.Adu.{Adus, stream_of, IsAdu}
use Rattle.modbus_tcp.specs.Stream.{IsSplit, empty}
use Rattle.modbus_server.specs.declared.error.ProcessError.{ProcessError}
use Rattle.modbus_server.specs.declared.error.ProcessError.TheVariants.{ReadFault, WriteFault, TooManyRetries, BytesRemaining, InvalidRequest, ResponseTooLong, TurnLimit, InvalidLength, InvalidProtocol, NoMemory}
use Rattle.modbus_server.specs.Complete.{IsCleanLine}
use Rattle.modbus_server.specs.Exchanges.{asked_of}
use Rattle.modbus_server.specs.Served.{IsEndOf}
use Rattle.modbus_server.specs.Step.{Ran}
use Rattle.modbus_server.specs.Tcp.{tcp, AreAllAdus, IsNextAdu, IsFaultAfter}
use Rattle.modbus_gateway.specs.Answer.{line_outcome}
use Rattle.modbus_gateway.specs.Forwards.{LineState, forwards}
use Rattle.modbus_gateway.specs.Records.{view_of, LineRecord, Recorded, record_reply, replies}
use Rattle.modbus_server.specs.Moment.{Moment}

-- what was asked in a record
abbrev pub question_asked : LineRecord → Header × Result Asked Reason
question_asked r = (r.header, Ok r.request)

-- the bytes begin with these ADUs
abbrev pub BeginWith : List ℕ → Adus → Type 0
BeginWith bytes adus = (rest : List ℕ) × (bytes ≡ stream_of adus ++ rest) × All IsAdu adus

-- Where a connection stops in the bytes that it was fed, after these ADUs: they are all, and how many bytes are left; or the next one is
-- no request; or what follows has a fault of its header.
abbrev pub StopsAfter : List ℕ → List ℕ → Adus → Result (Unit {0}) ProcessError → Type 0
StopsAfter bytes cuts adus (Ok done) = IsSplit bytes adus [] empty
StopsAfter bytes cuts adus (Err BytesRemaining) = (left : List ℕ) × (left ≢ []) × AreAllAdus bytes cuts left adus
StopsAfter bytes cuts adus (Err ReadFault) = (left : List ℕ) × AreAllAdus bytes cuts left adus
StopsAfter bytes cuts adus (Err TurnLimit) = (left : List ℕ) × AreAllAdus bytes cuts left adus
StopsAfter bytes cuts adus (Err (InvalidRequest reason)) = (next : Message Header) × IsNextAdu bytes cuts adus next × (request_of next.pdu ≡ Err reason)
StopsAfter bytes cuts adus (Err InvalidLength) = IsFaultAfter bytes cuts adus InvalidLength
StopsAfter bytes cuts adus (Err (InvalidProtocol protocol)) = IsFaultAfter bytes cuts adus (InvalidProtocol protocol)
StopsAfter bytes cuts adus (Err WriteFault) = BeginWith bytes adus
StopsAfter bytes cuts adus (Err NoMemory) = BeginWith bytes adus
StopsAfter bytes cuts adus (Err TooManyRetries) = ⊥
StopsAfter bytes cuts adus (Err (ResponseTooLong size)) = ⊥

-- memory was not wanting in this record, and in the last of these records alone
abbrev pub HasOutcome : LineRecord → Type 0
HasOutcome r = line_outcome r.answer ≢ None

abbrev pub LastWantsMemory : List LineRecord → Type 0
LastWantsMemory records =
    (earlier : List LineRecord) × (last : LineRecord) × (records ≡ earlier ++ last ∷ []) × All HasOutcome earlier × (line_outcome last.answer ≡ None)

-- the reply to the last of them
abbrev pub last_record_reply : List LineRecord → List ℕ
last_record_reply [] = []
last_record_reply (r ∷ []) = record_reply r
last_record_reply (r ∷ s ∷ rs) = last_record_reply (s ∷ rs)

-- What the TCP side was sent of the replies: all of them. Where its sink failed a rest of the last one is wanting; where memory was
-- wanting in the last exchange that one has no reply.
abbrev pub SendsAs : List LineRecord → List ℕ → Result (Unit {0}) ProcessError → Type 0
SendsAs records sent (Err WriteFault) = All HasOutcome records × (waiting : List ℕ) × (sent ++ waiting ≡ replies records) × IsEndOf waiting (last_record_reply records)
SendsAs records sent (Err NoMemory) = (All HasOutcome records ⊎ LastWantsMemory records) × (sent ≡ replies records)
SendsAs records sent _ = All HasOutcome records × (sent ≡ replies records)

-- By what the TCP side was fed and sent: there is one list of records, one for each ADU in order, joined from the line as it was to the
-- line as it is.
pub record InRecords {L : Type 0} (M : LinkMeaning L) (old new : LineState L) (fed cuts sent : List ℕ) (result : Result (Unit {0}) ProcessError) : Type 0 where
  pub adus : Adus
  pub records : List LineRecord
  pub asked : map (asked_of tcp) adus ≡ map question_asked records
  pub recorded : Recorded old.turns (view_of M old) records (view_of M new)
  -- what only calls of the client set
  pub turns : new.turns ≡ old.turns
  pub timeout : new.timeout ≡ old.timeout
  pub stops : StopsAfter fed cuts adus result
  pub sends : SendsAs records sent result

-- What the gateway of one TCP connection promises: all that a server of its answers promises, in records of the line.
pub record Forwarded {L : Type 0} (M : LinkMeaning L) (turns : ℕ) (before after : Moment (LineState L)) (result : Result (Unit {0}) ProcessError) : Type 0 where
  pub ran : Ran tcp (forwards M) turns before after result
  pub in_records : InRecords M before.service after.service ran.fed (totals ran.made) ran.sent result

-- Completeness: a source that gives ADUs that are requests, with nothing behind them and in fewer bytes than there are turns, is forwarded to
-- its end, whatever the line does, where neither the source nor the sink has a fault; or memory is wanting.
abbrev pub IsForwarded : Outside → Outside → ℕ → Result (Unit {0}) ProcessError → Type 0
IsForwarded from to turns result = IsTrue from.input.told → IsCleanLine tcp from.input.left → length from.input.left < turns
    → (Rose from.input.faults to.input.faults → ⊥) → (Rose from.output.faults to.output.faults → ⊥) → (result ≡ Ok tt) ⊎ (result ≡ Err NoMemory)
