-- What a server and a client say of the reads of a call: the totals after those that gave bytes, their rooms, and how many of the
-- turns they spent.
use Rattle.std.specs.Prelude.{◌≡◌, ◌↔◌, ◌⊎◌, ℕ, ◌<◌, ◌≤◌, List, [], ◌∷◌, length, map, take, IsTrue, Result, Ok, Err, IfOk}
use Rattle.modbus_link.specs.declared.outside.Cut.{Cut}
use Rattle.modbus_link.specs.Outside.{Input, Advances, bytes_read, cuts_made, cut_of}

-- the totals after the reads, without their rooms
abbrev pub totals : List Cut → List ℕ
totals cuts = map (λ cut. cut.total) cuts

-- The totals after the reads that gave bytes. The first of these reads begins at the given total.
abbrev pub last_cut : ℕ → List ℕ → ℕ
last_cut total [] = total
last_cut total (cut ∷ cuts) = last_cut cut cuts

abbrev pub last_cut_but_one : ℕ → List ℕ → ℕ
last_cut_but_one total [] = total
last_cut_but_one total (cut ∷ []) = total
last_cut_but_one total (cut ∷ next ∷ cuts) = last_cut_but_one cut (next ∷ cuts)

-- one of the reads went from the total b to the total e
abbrev pub IsRead : ℕ → List ℕ → ℕ → ℕ → Type 0
IsRead total [] b e = ⊥
IsRead total (cut ∷ cuts) b e = ((b ≡ total) × (e ≡ cut)) ⊎ IsRead cut cuts b e

-- each read gave bytes
abbrev pub Rise : ℕ → List ℕ → Type 0
Rise total [] = Unit {0}
Rise total (cut ∷ cuts) = (total < cut) × Rise cut cuts

-- the cuts of reads that gave these bytes
pub record AreCuts (bytes cuts : List ℕ) : Type 0 where
  pub rise : Rise 0 cuts
  pub all : last_cut 0 cuts ≡ length bytes

-- Each of these reads, the first of them from a total, has a room that fits the bytes before it.
abbrev pub HaveRooms : (List ℕ → ℕ → Type 0) → List ℕ → ℕ → List Cut → Type 0
HaveRooms HasRoom bytes total [] = Unit {0}
HaveRooms HasRoom bytes total (cut ∷ cuts) = HasRoom (take total bytes) cut.room × HaveRooms HasRoom bytes cut.total cuts

-- how many of the turns the reads that gave bytes spent
pub data Spending : Type 0 where
  all_turns : Spending
  fewer_turns : Spending
  some_turns : Spending

abbrev pub Spends : Spending → ℕ → ℕ → Type 0
Spends all_turns count turns = count ≡ turns
Spends fewer_turns count turns = count < turns
Spends some_turns count turns = count ≤ turns

-- how many bytes a read gave
abbrev pub count_of : {E : Type 0} → Result ℕ E → ℕ
count_of (Ok n) = n
count_of (Err _) = 0

-- One read into a room of this length gave this piece, of which a source that tells its bytes tells the rest. It gave none exactly
-- where the input had ended; a read that failed gave none.
pub record ReadsPiece {E : Type 0} (old new : Input) (room : ℕ) (piece : List ℕ) (result : Result ℕ E) : Type 0 where
  pub source : Advances old new
  pub count : length piece ≡ count_of result
  pub within : length piece ≤ room
  pub read : IsTrue old.told → bytes_read old new ≡ piece
  pub cuts : IsTrue old.told → cuts_made old new ≡ cut_of result room
  pub ended : IsTrue old.told → IfOk result (λ n. (n ≡ 0) ↔ (old.left ≡ []))
