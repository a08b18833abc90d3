-- How a client of a serial line reads what comes for its reply (MODBUS over Serial Line V1.02, sections 2.4.1 and 2.5.1.1; Modbus
-- Application Protocol V1.1b3, section 6). The reading is a function of the bytes, in whatever pieces they came.
--
-- While bytes come, a frame ends where its length says. The line's silence ends every frame: then a frame that is not whole is none, and
-- one of a function that tells no length is all that came.
use Rattle.std.specs.Prelude.{◌≡◌, ℕ, zero, suc, ◌+◌, ◌-◌, ◌^◌, ◌<◌, ◌≤◌, min, ◌||◌, ◌&&◌, not, if◌then◌else◌, ◌==◌, nat_lt, nat_le, Bool, true, false, List, [], ◌∷◌, length, take, drop, slice_get, slice_index, Option, Some, None, Result, Ok, Err, IsOkAnd}
use Rattle.std.specs.Option.{option_map}
use Rattle.modbus_frame.specs.FunctionCodes as number
use Rattle.modbus_frame.specs.declared.rtu.Header.{Header}
use Rattle.modbus_frame.specs.declared.fault.HeaderSeen.{HeaderSeen}
use Rattle.modbus_pdu.specs.Limits.{max_pdu, mei_device_identification, one_byte_pdu, two_words_pdu, read_head}
use Rattle.modbus_rtu.specs.declared.verdict.Verdict.{Verdict}
use Rattle.modbus_rtu.specs.declared.verdict.Verdict.TheVariants.{Open, Bad, Good}
use Rattle.modbus_rtu.specs.Frame.{Head, frame, verdict_by, judged_by}
use Rattle.modbus_rtu.specs.Limits.{overhead, max_frame}
use Rattle.modbus_rtu.specs.ResponseHead.{ResponseRule, response_rule, word_len, identified_len}
use Rattle.modbus_rtu.specs.ResponseHead.ResponseRule.{fixed, counted, counted_word, identification, unknown}
use Rattle.modbus_pdu.specs.ResponseOf.{AnswerCarriesMemory, response_result_of}
use Rattle.modbus_client.specs.declared.line.Step.{Step}
use Rattle.modbus_client.specs.declared.line.Step.TheVariants.{Waits, Own, Past}
use Rattle.modbus_client.specs.declared.protocol.Reply.{Reply}
use Rattle.modbus_client.specs.declared.protocol.LookError.{LookError}
use Rattle.modbus_client.specs.declared.protocol.LookError.TheVariants as look
use Rattle.modbus_client.specs.Protocol.{Protocol, Meaning, Found, waiting, reply}
use Rattle.modbus_client.specs.Call.{LooksAs}
use Rattle.modbus_client.specs.Rtu.{slave_seen}

-- the fewest bytes of a frame: one whose PDU is a function code alone
abbrev pub shortest_frame : ℕ
shortest_frame = overhead + 1

-- the functions of file records: the byte behind the function code is the count of those that follow it (V1.1b3, 6.14 and 6.15)
abbrev pub is_file_record : ℕ → Bool
is_file_record code = code == number.read_file_record || code == number.write_file_record

-- The rule of a function code. Each code from 80 (hex) on is that of an exception (V1.1b3, sections 4.1 and 7).
unfoldable pub line_rule : ℕ → ResponseRule
line_rule code =
    if is_file_record code then counted else
    if nat_le number.exception_bit code then fixed one_byte_pdu else
    response_rule code

-- whether a rule tells a length, by the byte behind the function code, which is the MEI type of an encapsulated interface (V1.1b3, 6.19)
abbrev pub tells_length : ResponseRule → Option ℕ → Bool
tells_length unknown next = false
tells_length identification (Some mei) = mei == mei_device_identification
tells_length _ next = true

-- the length of a device identification; none for another MEI type
abbrev pub identification_told : List ℕ → Option ℕ → Option ℕ
identification_told adu None = None
identification_told adu (Some mei) = if mei == mei_device_identification then identified_len adu else None

-- the length of the PDU by a rule, in bytes that begin with the slave address; none where a byte that tells it is missing
abbrev pub len_by : List ℕ → ResponseRule → Option ℕ
len_by adu (fixed n) = Some n
len_by adu counted = option_map (λ byte. read_head + byte) (slice_get adu 2)
len_by adu counted_word = word_len (slice_get adu 2) (slice_get adu 3)
len_by adu identification = identification_told adu (slice_get adu 2)
len_by adu unknown = None

abbrev pub len_at : List ℕ → Option ℕ → Option ℕ
len_at adu None = None
len_at adu (Some code) = len_by adu (line_rule code)

-- the length of the PDU, as far as the bytes tell it
unfoldable pub told_len : List ℕ → Option ℕ
told_len adu = len_at adu (slice_get adu 1)

-- A length of more bytes than a PDU has is none, and no frame begins with more bytes than one has that tell no length (V1.1b3, section
-- 4.1).
abbrev pub bounded : ℕ → ℕ → Option ℕ → Head
bounded code count (Some n) = if nat_lt max_pdu n then Err (record { 0 = code }) else Ok (Some n)
bounded code count None = if nat_lt max_frame count then Err (record { 0 = code }) else Ok None

-- The head of a reply while bytes come. Of the bytes no more than those of the longest frame are read.
unfoldable pub line_head : List ℕ → Head
line_head adu = bounded (slice_index adu 1) (length adu) (told_len (take max_frame adu))

-- a function whose replies tell no length; what has no function code yet is none
abbrev pub is_untold : List ℕ → Option ℕ → Bool
is_untold adu None = false
is_untold adu (Some code) = not (tells_length (line_rule code) (slice_get adu 2))

-- all bytes, but for the slave address and the checksum, where they are as many as a frame has
abbrev pub whole_head : List ℕ → Head
whole_head adu =
    if nat_lt (length adu) shortest_frame || nat_lt max_frame (length adu) then Err (record { 0 = slice_index adu 1 })
    else Ok (Some (length adu - overhead))

-- the head of a reply at a silence: one of a function that tells no length is all that came
unfoldable pub silent_head : List ℕ → Head
silent_head adu = if is_untold adu (slice_get adu 1) then whole_head adu else line_head adu

-- at a silence nothing is waited for
abbrev pub closed : Verdict → Verdict
closed Open = Bad
closed verdict = verdict

-- what stands at the front of bytes that begin with a slave address if there is a frame: while bytes come, and at a silence
unfoldable pub line_verdict : List ℕ → Verdict
line_verdict adu = judged_by line_head adu

unfoldable pub silent_verdict : List ℕ → Verdict
silent_verdict adu = closed (judged_by silent_head adu)

-- what is no frame yet is waited for, in no more bytes than one has
abbrev pub awaited : ℕ → Verdict → Verdict
awaited count Bad = if nat_lt max_frame count then Bad else Open
awaited count verdict = verdict

-- The same over a connection, on which no silence ends a frame. There a reply of the slave that was asked whose function tells no length is
-- all that came, and one of another slave is passed byte by byte.
unfoldable pub reply_verdict : ℕ → List ℕ → Verdict
reply_verdict asked adu =
    if not (is_untold adu (slice_get adu 1)) then line_verdict adu else
    if slice_index adu 0 == asked then awaited (length adu) (judged_by silent_head adu) else
    Bad

-- A connection may carry what other masters of its line ask too. The functions whose request is a function code and two words (V1.1b3,
-- sections 6.1 to 6.6).
abbrev pub asks_two_words : ℕ → Bool
asks_two_words code = nat_le number.read_coils code && nat_le code number.write_single_register

-- whether bytes may begin such a request for another slave
abbrev pub may_ask : ℕ → List ℕ → Option ℕ → Bool
may_ask asked adu None = false
may_ask asked adu (Some code) = not (slice_index adu 0 == asked) && asks_two_words code

abbrev pub is_good : Verdict → Bool
is_good (Good n) = true
is_good _ = false

-- whether bytes begin with a whole reply of the slave that was asked
abbrev pub is_own : ℕ → List ℕ → Bool
is_own asked adu = slice_index adu 0 == asked && is_good (line_verdict adu)

-- whether such a reply stands behind the first byte, the second or the third: behind them no other is whole in fewer bytes than a request has
abbrev pub hides_reply : ℕ → List ℕ → Bool
hides_reply asked adu = is_own asked (drop 1 adu) || is_own asked (drop 2 adu) || is_own asked (drop 3 adu)

-- the bytes of such a request, but for its last one
abbrev pub before_last : List ℕ → List ℕ
before_last adu = take (two_words_pdu + overhead - 1) adu

-- whether the bytes of a request are a reply, or hide one, before the last of them came
unfoldable pub is_settled : ℕ → List ℕ → Bool
is_settled asked first = is_good (line_verdict first) || hides_reply asked first

-- What stands at the front as another slave's request by two words: it is waited for only while no reply stands in its bytes.
unfoldable pub request_verdict : ℕ → List ℕ → Verdict
request_verdict asked adu =
    if not (may_ask asked adu (slice_get adu 1)) then Bad else
    if is_settled asked (before_last adu) then Bad else
    verdict_by adu (Ok (Some two_words_pdu))

-- the first that isn't bad
abbrev pub else_as : Verdict → Verdict → Verdict
else_as Bad other = other
else_as verdict other = verdict

-- What stands at the front over a connection: another slave's request, which is passed whole, or what is read as a reply.
unfoldable pub stream_verdict : ℕ → List ℕ → Verdict
stream_verdict asked adu = else_as (request_verdict asked adu) (reply_verdict asked adu)

-- what a reading found, and how many frames of other slaves it passed
pub record LineRead : Type 0 where
  pub found : Found
  pub others : ℕ

-- the same with so many frames of other slaves before it
abbrev pub behind : ℕ → LineRead → LineRead
behind count read = record { found = read.found; others = count + read.others }

-- What stands at the front of bytes: an offset that is open waits; from a bad one the reading goes on one byte further; a frame of another
-- slave is passed, and one of the slave that was asked is the reply. `on` is the reading behind the first byte and so many more.
abbrev pub read_as : ℕ → List ℕ → Verdict → (ℕ → LineRead) → LineRead
read_as asked adu Open on = record { found = waiting adu; others = 0 }
read_as asked adu Bad on = on 0
read_as asked adu (Good n) on =
    if slice_index adu 0 == asked then record { found = reply (drop (n + overhead) adu) (slave_seen asked) (take n (drop 1 adu)); others = 0 }
    else behind 1 (on (n + 2))

-- the reading of bytes from so many on, for a reply of this slave, by what stands at the front of bytes
unfoldable pub read_from : (List ℕ → Verdict) → ℕ → ℕ → List ℕ → LineRead
read_from judge asked skip [] = record { found = waiting []; others = 0 }
read_from judge asked zero (byte ∷ rest) = read_as asked (byte ∷ rest) (judge (byte ∷ rest)) (λ skip. read_from judge asked skip rest)
read_from judge asked (suc skip) (byte ∷ rest) = read_from judge asked skip rest

-- how many frames a counter of 64 bits tells: it stands still at its end
abbrev pub told_count : ℕ → ℕ
told_count count = min count (2 ^ 64 - 1)

-- a slave address and the PDU of a reply whose first bytes tell its length
abbrev pub HasLineHead : ℕ → List ℕ → Type 0
HasLineHead slave pdu = line_head (slave ∷ pdu) ≡ Ok (Some (length pdu))

-- One step of the reading at the front of bytes: it waits; the frame of the slave that was asked stands there, with the length of its PDU;
-- or noise or so many frames of other slaves stand there, up to an end.
abbrev pub StepsAs : (List ℕ → Verdict) → ℕ → List ℕ → Step → Type 0
StepsAs judge asked adu Waits = read_from judge asked 0 adu ≡ record { found = waiting adu; others = 0 }
StepsAs judge asked adu (Own n) =
    (n + overhead ≤ length adu)
    × (read_from judge asked 0 adu ≡ record { found = reply (drop (n + overhead) adu) (slave_seen asked) (take n (drop 1 adu)); others = 0 })
StepsAs judge asked adu (Past end others) =
    (0 < end) × (end ≤ length adu) × (read_from judge asked 0 adu ≡ behind others (read_from judge asked 0 (drop end adu)))

-- what is left of bytes whose front was dropped: it waits, or begins with the frame of the slave that was asked
abbrev pub LeavesAs : (List ℕ → Verdict) → ℕ → List ℕ → Option ℕ → Type 0
LeavesAs judge asked left None = StepsAs judge asked left Waits
LeavesAs judge asked left (Some n) = StepsAs judge asked left (Own n)

-- Noise and frames of other slaves were dropped from the front of bytes, so many frames: what is left reads as all of them did.
pub record DropsFront (judge : List ℕ → Verdict) (asked : ℕ) (bytes left : List ℕ) (dropped : ℕ) (found : Option ℕ) : Type 0 where
  pub others : ℕ
  pub reads : read_from judge asked 0 bytes ≡ behind others (read_from judge asked 0 left)
  pub tells : dropped ≡ told_count others
  pub leaves : LeavesAs judge asked left found

-- The frame at the front of bytes is taken off, whose PDU has so many bytes: what the PDU tells, or memory is wanting.
abbrev pub TakesReply : Meaning → ℕ → ℕ → List ℕ → List ℕ → Result Reply LookError → Type 0
TakesReply means asked n bytes left (Ok found) =
    (found.header ≡ slave_seen asked) × (means (take n (drop 1 bytes)) ≡ Ok found.result) × (left ≡ drop (n + overhead) bytes)
TakesReply means asked n bytes left (Err (look.Broken fault)) = ⊥
TakesReply means asked n bytes left (Err (look.Refused reason)) = (means (take n (drop 1 bytes)) ≡ Err reason) × (left ≡ drop (n + overhead) bytes)
TakesReply means asked n bytes left (Err look.NoMemory) = IsOkAnd (means (take n (drop 1 bytes))) AnswerCarriesMemory

-- the frames of a serial line, as the front of bytes is judged for the slave that was asked, and as a PDU is read: the first of that slave
-- is the reply
abbrev pub frames_by : (ℕ → List ℕ → Verdict) → Meaning → Protocol Header
frames_by judge means = record {
  seen = λ header. slave_seen header.slave_id;
  adu = λ header pdu. frame header.slave_id pdu;
  means = means;
  Finds = λ asked bytes cuts found. found ≡ (read_from (judge asked.slave_id) asked.slave_id 0 bytes).found;
  Counts = λ asked bytes cuts dropped. dropped ≡ told_count (read_from (judge asked.slave_id) asked.slave_id 0 bytes).others;
  IsWhole = λ header pdu. HasLineHead header.slave_id pdu;
}

-- while more bytes may come, and in those that came until the line fell silent
abbrev pub line_protocol : Protocol Header
line_protocol = frames_by (λ asked. line_verdict) response_result_of

abbrev pub silent_protocol : Protocol Header
silent_protocol = frames_by (λ asked. silent_verdict) response_result_of

-- over a connection
abbrev pub stream_protocol : Protocol Header
stream_protocol = frames_by stream_verdict response_result_of

-- One look at held bytes, as their front is judged for the slave that was asked: what their reading finds, and how many frames of other
-- slaves it passed, beside those that were passed before.
pub record LooksBy (judge : ℕ → List ℕ → Verdict) (means : Meaning) (asked : HeaderSeen) (bytes left : List ℕ) (before after : ℕ) (result : Result (Option Reply) LookError) : Type 0 where
  pub finds : LooksAs (frames_by judge means) asked bytes [] left result
  pub counts : after ≡ told_count (before + (read_from (judge asked.slave_id) asked.slave_id 0 bytes).others)
