-- What a reader that holds bytes stands for: the bytes that it was given so far, the cuts between its reads, and the frames that it
-- gave away.
use Rattle.std.specs.Prelude.{◌≡◌, ℕ, ◌+◌, ◌-◌, ◌<◌, ◌≤◌, List, map, take, drop, slice_index, Contains}
use Rattle.modbus_pdu.specs.SlavePdu.{SlavePdu}
use Rattle.modbus_pdu.specs.Message.{message}
use Rattle.modbus_link.specs.Reads.{last_cut_but_one, IsRead, AreCuts}
use Rattle.modbus_rtu.specs.declared.verdict.Verdict.{Verdict}
use Rattle.modbus_rtu.specs.declared.verdict.Verdict.TheVariants.{Open, Bad, Good}
use Rattle.modbus_rtu.specs.Frame.{verdict}
use Rattle.modbus_rtu.specs.Leftmost.{IsLeftmost}
use Rattle.modbus_rtu.specs.Place.{IsCrowd, IsPlace, frames_below}
use Rattle.modbus_rtu.specs.Limits.{max_retries}

-- the slave address and the PDU of the frame at an offset
abbrev pub pdu_len_of : Verdict → ℕ
pdu_len_of Open = 0
pdu_len_of Bad = 0
pdu_len_of (Good n) = n

abbrev pub frame_at : List ℕ → ℕ → SlavePdu
frame_at bytes f = message (slice_index bytes f) (take (pdu_len_of (verdict bytes f)) (drop (f + 1) bytes))

-- one of the reads brought a crowd that begins at k
abbrev pub HasCrowd : List ℕ → List ℕ → ℕ → Type 0
HasCrowd bytes cuts k = (b : ℕ) × (e : ℕ) × IsRead 0 cuts b e × IsCrowd (take b bytes) (take e bytes) k

-- The crowd at k is the first one, and the frames given away are those before its last offset.
pub record IsFirstCrowd (bytes cuts : List ℕ) (taken : List SlavePdu) (k : ℕ) : Type 0 where
  pub crowd : HasCrowd bytes cuts k
  pub first : (j : ℕ) → HasCrowd bytes cuts j → k ≤ j
  pub took : (frames : List ℕ) (stop : ℕ) → IsLeftmost bytes frames stop → taken ≡ map (frame_at bytes) (frames_below (k + (max_retries - 1)) frames)

-- The frame that is given away after these is the next delivered one, and it begins below the last offset of each crowd.
pub record IsTakenNext (bytes cuts : List ℕ) (taken : List SlavePdu) (frame : SlavePdu) : Type 0 where
  pub offset : ℕ
  pub calm : (k : ℕ) → HasCrowd bytes cuts k → offset < k + (max_retries - 1)
  pub within : (frames : List ℕ) (stop : ℕ) → IsLeftmost bytes frames stop → Contains frames offset
  pub is : frame_at bytes offset ≡ frame
  pub earlier : (frames : List ℕ) (stop : ℕ) → IsLeftmost bytes frames stop → taken ≡ map (frame_at bytes) (frames_below offset frames)

-- All delivered frames were given away, the held bytes begin at the stop, and no read brought a crowd.
pub record IsUsedUp (bytes cuts held : List ℕ) (taken : List SlavePdu) : Type 0 where
  pub frames : List ℕ
  pub stop : ℕ
  pub reading : IsLeftmost bytes frames stop
  pub holds : held ≡ drop stop bytes
  pub took : taken ≡ map (frame_at bytes) frames
  pub calm : (k : ℕ) → HasCrowd bytes cuts k → ⊥

-- The reader was given these bytes with these cuts. It holds what stands from some place on, gave away the delivered frames below
-- that place, and no crowd lies wholly below it.
pub record StandsFor (bytes cuts held : List ℕ) (taken : List SlavePdu) : Type 0 where
  pub are_cuts : AreCuts bytes cuts
  pub place : ℕ
  pub at : IsPlace (take (last_cut_but_one 0 cuts) bytes) bytes place
  pub holds : held ≡ drop place bytes
  pub calm : (k : ℕ) → HasCrowd bytes cuts k → place < k + max_retries
  pub took : (frames : List ℕ) (stop : ℕ) → IsLeftmost bytes frames stop → taken ≡ map (frame_at bytes) (frames_below place frames)
