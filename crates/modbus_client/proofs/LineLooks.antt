-- What a look at the held bytes of a serial line finds, in terms of all bytes that were read.
use Rattle.std.proofs.Common.{◌≡◌, ◌≢◌, ℕ, ◌+◌, ◌-◌, ◌^◌, ◌≤◌, min, List, [], ◌++◌, length, take, drop, Option, Some, None, Result, Ok, Err, sym, ap, ◌∙◌, arith, append-nil}
use Rattle.modbus_frame.specs.declared.fault.HeaderSeen.{HeaderSeen}
use Rattle.modbus_rtu.specs.declared.verdict.Verdict.{Verdict}
use Rattle.modbus_rtu.specs.declared.verdict.Verdict.TheVariants.{Open, Good}
use Rattle.modbus_rtu.specs.Limits.{overhead}
use Rattle.modbus_client.specs.declared.protocol.Reply.{Reply}
use Rattle.modbus_client.specs.declared.protocol.LookError.{LookError}
use Rattle.modbus_client.specs.declared.protocol.LookError.TheVariants as look
use Rattle.modbus_client.specs.Protocol.{Meaning, waiting, reply}
use Rattle.modbus_client.specs.Rtu.{slave_seen}
use Rattle.modbus_client.specs.Call.{LooksAs, IsOwn}
use Rattle.modbus_client.specs.LineReading.{LineRead, behind, read_from, told_count, DropsFront, TakesReply, LooksBy, frames_by, line_verdict, silent_verdict}
use Rattle.modbus_client.proofs.LineVerdict.{line_within, silent_decided}
use Rattle.modbus_client.proofs.LineReads.{Passes, passes_decided, reads_on}

found_of : (a b : LineRead) → a ≡ b → a.found ≡ b.found
found_of a b e = ap (λ (r : LineRead). r.found) e

others_of : (a b : LineRead) → a ≡ b → a.others ≡ b.others
others_of a b e = ap (λ (r : LineRead). r.others) e

-- bytes whose reading finds the same, give the same look
pub looks_same : (judge judge' : ℕ → List ℕ → Verdict) (means : Meaning) (asked : HeaderSeen) (a b cuts cuts' left : List ℕ) (result : Result (Option Reply) LookError)
    → (read_from (judge asked.slave_id) asked.slave_id 0 a).found ≡ (read_from (judge' asked.slave_id) asked.slave_id 0 b).found → LooksAs (frames_by judge means) asked a cuts left result → LooksAs (frames_by judge' means) asked b cuts' left result
looks_same judge judge' read asked a b cuts cuts' left (Ok None) same finds = finds ∙ same
looks_same judge judge' read asked a b cuts cuts' left (Ok (Some found)) same (pdu, finds, is) = (pdu, finds ∙ same, is)
looks_same judge judge' read asked a b cuts cuts' left (Err (look.Broken fault)) same finds = finds ∙ same
looks_same judge judge' read asked a b cuts cuts' left (Err (look.Refused reason)) same (header, pdu, finds, is) = (header, pdu, finds ∙ same, is)
looks_same judge judge' read asked a b cuts cuts' left (Err look.NoMemory) same (rest, header, pdu, finds, carries) = (rest, header, pdu, finds ∙ same, carries)

-- one look
module _ (judge : ℕ → List ℕ → Verdict) (means : Meaning) (asked : HeaderSeen) (bytes held : List ℕ) (dropped before after : ℕ) (sum : after ≡ min (before + dropped) (2 ^ 64 - 1)) where
  front_found : (found : Option ℕ) (d : DropsFront (judge asked.slave_id) asked.slave_id bytes held dropped found) → (read_from (judge asked.slave_id) asked.slave_id 0 bytes).found ≡ (read_from (judge asked.slave_id) asked.slave_id 0 held).found
  front_found found d = found_of _ _ d.reads

  count_by : (found : Option ℕ) (d : DropsFront (judge asked.slave_id) asked.slave_id bytes held dropped found) → (read_from (judge asked.slave_id) asked.slave_id 0 held).others ≡ 0
      → after ≡ told_count (before + (read_from (judge asked.slave_id) asked.slave_id 0 bytes).others)
  count_by found d none = let all = others_of _ _ d.reads in let tells = d.tells in omega (arith, sum, none, all, tells)

  pub looks_waiting : DropsFront (judge asked.slave_id) asked.slave_id bytes held dropped None → LooksBy judge means asked bytes held before after (Ok None)
  looks_waiting d = record {
    finds = sym (front_found None d ∙ found_of _ _ d.leaves);
    counts = count_by None d (others_of _ _ d.leaves);
  }

  module _ (n : ℕ) (d : DropsFront (judge asked.slave_id) asked.slave_id bytes held dropped (Some n)) where
    is_reply : reply (drop (n + overhead) held) (slave_seen asked.slave_id) (take n (drop 1 held)) ≡ (read_from (judge asked.slave_id) asked.slave_id 0 bytes).found
    is_reply = sym (front_found (Some n) d ∙ found_of _ _ d.leaves.1)

    counted : after ≡ told_count (before + (read_from (judge asked.slave_id) asked.slave_id 0 bytes).others)
    counted = count_by (Some n) d (others_of _ _ d.leaves.1)

    at_left : (left : List ℕ) → left ≡ drop (n + overhead) held → reply left (slave_seen asked.slave_id) (take n (drop 1 held)) ≡ (read_from (judge asked.slave_id) asked.slave_id 0 bytes).found
    at_left left is = ap (λ l. reply l (slave_seen asked.slave_id) (take n (drop 1 held))) is ∙ is_reply

    pub looks_taken : (left : List ℕ) (found : Reply) → TakesReply means asked.slave_id n held left (Ok found) → LooksBy judge means asked bytes left before after (Ok (Some found))
    looks_taken left found (header, is, rest) = record {
      finds = (take n (drop 1 held), ap (λ h. reply left h (take n (drop 1 held))) header ∙ at_left left rest, is);
      counts = counted;
    }

    pub looks_failed : (left : List ℕ) (error : LookError) → TakesReply means asked.slave_id n held left (Err error) → LooksBy judge means asked bytes left before after (Err error)
    looks_failed left (look.Broken fault) takes = absurd takes
    looks_failed left (look.Refused reason) (is, rest) = record { finds = (slave_seen asked.slave_id, take n (drop 1 held), at_left left rest, is); counts = counted }
    looks_failed left look.NoMemory carries = record {
      finds = (drop (n + overhead) held, slave_seen asked.slave_id, take n (drop 1 held), is_reply, carries);
      counts = counted;
    }

-- bytes came behind those in which the search waited, by a judge whose verdicts stay where they are passed
module _ (judge : ℕ → List ℕ → Verdict) (asked : HeaderSeen) (passed : (adu more : List ℕ) → Passes (judge asked.slave_id) asked.slave_id adu → judge asked.slave_id (adu ++ more) ≡ judge asked.slave_id adu)
    (within : (adu : List ℕ) (n : ℕ) → judge asked.slave_id adu ≡ Good n → n + overhead ≤ length adu)
    (means : Meaning) (bytes cuts earlier more old : List ℕ) (s : waiting earlier ≡ (read_from (judge asked.slave_id) asked.slave_id 0 bytes).found) (is : old ≡ earlier ++ more) where
  whole_read : read_from (judge asked.slave_id) asked.slave_id 0 (bytes ++ more)
      ≡ behind (read_from (judge asked.slave_id) asked.slave_id 0 bytes).others (read_from (judge asked.slave_id) asked.slave_id 0 old)
  whole_read =
      reads_on (judge asked.slave_id) (judge asked.slave_id) more asked.slave_id (λ adu. passed adu more) within 0 bytes (omega arith) earlier (sym s)
      ∙ ap (λ b. behind (read_from (judge asked.slave_id) asked.slave_id 0 bytes).others (read_from (judge asked.slave_id) asked.slave_id 0 b)) (sym is)

  pub more_looks : (now left : List ℕ) (before after : ℕ) (result : Result (Option Reply) LookError) → LooksBy judge means asked old left before after result → LooksAs (frames_by judge means) asked (bytes ++ more) now left result
  more_looks now left before after result l = looks_same judge judge means asked old (bytes ++ more) [] now left result (sym (found_of _ _ whole_read)) l.finds

  pub more_counts : (left : List ℕ) (before after : ℕ) (result : Result (Option Reply) LookError) → LooksBy judge means asked old left before after result
      → before ≡ told_count (read_from (judge asked.slave_id) asked.slave_id 0 bytes).others → after ≡ told_count (read_from (judge asked.slave_id) asked.slave_id 0 (bytes ++ more)).others
  more_counts left before after result l counts = let all = others_of _ _ whole_read in let now = l.counts in omega (arith, all, now, counts)

-- the line fell silent behind bytes in which the search waited
module _ (means : Meaning) (asked : HeaderSeen) (bytes cuts old : List ℕ) (s : waiting old ≡ (read_from line_verdict asked.slave_id 0 bytes).found) where
  silent_again : (adu : List ℕ) → line_verdict adu ≢ Open → silent_verdict (adu ++ []) ≡ line_verdict adu
  silent_again adu ne = ap silent_verdict (append-nil adu) ∙ silent_decided adu ne

  silent_read : read_from silent_verdict asked.slave_id 0 bytes ≡ behind (read_from line_verdict asked.slave_id 0 bytes).others (read_from silent_verdict asked.slave_id 0 old)
  silent_read =
      ap (read_from silent_verdict asked.slave_id 0) (sym (append-nil bytes))
      ∙ reads_on line_verdict silent_verdict [] asked.slave_id (λ adu p. silent_again adu (passes_decided p)) line_within 0 bytes (omega arith) old (sym s)
      ∙ ap (λ b. behind (read_from line_verdict asked.slave_id 0 bytes).others (read_from silent_verdict asked.slave_id 0 b)) (append-nil old)

  pub silent_looks : (left : List ℕ) (before after : ℕ) (result : Result (Option Reply) LookError) → LooksBy (λ asked. silent_verdict) means asked old left before after result → LooksAs (frames_by (λ asked. silent_verdict) means) asked bytes cuts left result
  silent_looks left before after result l = looks_same (λ asked. silent_verdict) (λ asked. silent_verdict) means asked old bytes [] cuts left result (sym (found_of _ _ silent_read)) l.finds

-- a frame that is taken off is of no fault of a protocol
pub takes_own : (means : Meaning) (asked n : ℕ) (bytes left : List ℕ) (error : LookError) → TakesReply means asked n bytes left (Err error) → (let result : Result (Option Reply) LookError = Err error in IsOwn result)
takes_own means asked n bytes left (look.Broken fault) takes = absurd takes
takes_own means asked n bytes left (look.Refused reason) takes = tt
takes_own means asked n bytes left look.NoMemory takes = tt
