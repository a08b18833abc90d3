-- What a link does that gives back what is written, and what is left of it without that echo. A transceiver of a two-wire line whose
-- receiver stays on is such a link (MODBUS over Serial Line V1.02, section 3.3.2).
use Rattle.std.specs.Prelude.{◌≡◌, ◌≢◌, ◌⊎◌, ℕ, ◌+◌, ◌<◌, ◌≤◌, Bool, true, false, List, [], ◌++◌, length, take, IsTrue, Result, Ok, IsErr, OnErr}
use Rattle.modbus_link.specs.declared.outside.Failed.{Failed}
use Rattle.modbus_link.specs.declared.polled.Polled.{Polled}
use Rattle.modbus_link.specs.declared.polled.Polled.TheVariants.{Ready}
use Rattle.modbus_link.specs.Outside.{Input, Rose, Advances, IsFront, bytes_read, front_of}
use Rattle.modbus_link.specs.Memory.{faults_after}
use Rattle.modbus_link.specs.Polled.{at_once, waits_after}

-- how many bytes of an echo are kept: as many as the longest frame has, an ASCII frame
abbrev pub echo_room : ℕ
echo_room = 513

-- how many bytes of a collision are kept
abbrev pub collision_room : ℕ
collision_room = 16

-- a link over one that gives back what is written
pub record EchoedState (L : Type 0) : Type 0 where
  pub link : L
  -- whether what is written is expected back
  pub is_on : Bool
  -- what was written and was not given back yet
  pub owed : List ℕ
  -- what came in place of the echo at the last read; nothing where that was no collision
  pub collision : List ℕ
  -- how many of its reads failed, and how many of its writes; they stay at the last number of a counter
  pub read_faults : ℕ
  pub write_faults : ℕ
  -- how many looks found nothing; it stays at the last number of a counter
  pub looks : ℕ

-- one that nothing was done to
abbrev pub echoed_at_start : {L : Type 0} → L → EchoedState L
echoed_at_start link = record { link = link; is_on = false; owed = []; collision = []; read_faults = 0; write_faults = 0; looks = 0 }

-- of an echo these bytes were dropped, and these came in place of what was to come next
pub record IsCollision (owed dropped came : List ℕ) : Type 0 where
  pub front : IsFront dropped owed
  pub differs : IsFront (dropped ++ came) owed → ⊥

-- What is still owed of an echo of which these bytes were dropped, and in place of which these came: all behind what was dropped; nothing
-- after a collision.
pub record LeavesEcho (owed dropped came left : List ℕ) : Type 0 where
  pub echo : came ≡ [] → owed ≡ dropped ++ left
  pub collision : came ≢ [] → IsCollision owed dropped came × (left ≡ [])

-- So much of an echo that was owed was read and dropped, and these bytes came in place of it.
pub record DropsEcho (from to : Input) (owed left came : List ℕ) : Type 0 where
  pub dropped : List ℕ
  pub source : Advances from to
  pub read : IsTrue from.told → bytes_read from to ≡ dropped ++ came
  pub leaves : LeavesEcho owed dropped came left

-- What one read gives came behind the echo that was owed, which was dropped, so no byte of it is given. It fails where the link did, or
-- at a collision, of which the first bytes are told.
pub record GivesBehindEcho (from to : Input) (owed left given : List ℕ) (result : Result (Polled ℕ) Failed) (collision : List ℕ) : Type 0 where
  pub dropped : List ℕ
  pub came : List ℕ
  pub source : Advances from to
  pub read : IsTrue from.told → bytes_read from to ≡ dropped ++ (came ++ front_of (at_once result) given)
  pub leaves : LeavesEcho owed dropped came left
  pub behind : front_of (at_once result) given ≢ [] → left ≡ []
  pub told : collision ≡ take collision_room came
  pub stray : came ≢ [] → IsErr result
  pub fails : OnErr result ((came ≢ []) ⊎ Rose from.faults to.faults)
  pub ended : result ≡ Ok (Ready 0) → IsTrue from.told → to.left ≡ []

-- One read, which counts where it fails.
pub record ReadsBehindEcho {L : Type 0} (input : L → Input) (old new : EchoedState L) (given : List ℕ) (result : Result (Polled ℕ) Failed) : Type 0 where
  pub gives : GivesBehindEcho (input old.link) (input new.link) old.owed new.owed given result new.collision
  pub counts : new ≡ record old { link = new.link; owed = new.owed; collision = new.collision; read_faults = faults_after result old.read_faults }

-- One look, which gives what a read would, and counts where it found nothing.
pub record LooksBehindEcho {L : Type 0} (input : L → Input) (old new : EchoedState L) (given : List ℕ) (result : Result (Polled ℕ) Failed) : Type 0 where
  pub gives : GivesBehindEcho (input old.link) (input new.link) old.owed new.owed given result new.collision
  pub counts : new ≡ record old { link = new.link; owed = new.owed; collision = new.collision; read_faults = faults_after result old.read_faults; looks = waits_after result old.looks }

-- what is expected back of a piece that was written
abbrev pub echo_of : Bool → List ℕ → List ℕ
echo_of true piece = piece
echo_of false piece = []

-- as many bytes of an echo are owed as are kept
abbrev pub IsFull : {L : Type 0} → EchoedState L → Type 0
IsFull it = IsTrue it.is_on × (echo_room ≤ length it.owed)

-- so many bytes of a piece of this length may be written, the echo of which can be kept
pub record IsWritable {L : Type 0} (it : EchoedState L) (size most : ℕ) : Type 0 where
  pub within : most ≤ size
  pub some : 0 < size → 0 < most
  pub fits : IsTrue it.is_on → length it.owed + most ≤ echo_room
  pub room : IsFull it → size ≡ 0

-- What is taken of a piece is expected back. Where no more can be, nothing is written and the write fails, and the echo is forgotten.
pub record OwesEcho {L : Type 0} (old : EchoedState L) (link : L) (owed piece : List ℕ) (before after : ℕ) (result : Result (Polled ℕ) Failed) : Type 0 where
  pub full : IsFull old → 0 < length piece → IsErr result × (link ≡ old.link) × (owed ≡ [])
  pub owes : (IsFull old → length piece ≡ 0) → owed ≡ old.owed ++ echo_of old.is_on (front_of (at_once result) piece)
  -- by the link's counts of faults
  pub fails : (IsFull old → length piece ≡ 0) → OnErr result (Rose before after)

-- One write, which counts where it fails.
pub record WritesWithEcho {L : Type 0} (old new : EchoedState L) (piece : List ℕ) (before after : ℕ) (result : Result (Polled ℕ) Failed) : Type 0 where
  pub owes : OwesEcho old new.link new.owed piece before after result
  pub counts : new ≡ record old { link = new.link; owed = new.owed; write_faults = faults_after result old.write_faults }
