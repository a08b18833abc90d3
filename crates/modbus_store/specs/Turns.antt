-- What the parts of a call say of the seat.
use Rattle.std.specs.Prelude.{◌≡◌, ℕ, ◌+◌, ◌^◌, ◌<◌, true, List, [], ◌∷◌, ◌++◌, length, Option, Some, None}
use Rattle.std.specs.Option.{option_map}
use Rattle.atomic_table.specs.Seated.{TableId}
use Rattle.modbus_store.specs.declared.lock.Stored.{Stored}
use Rattle.modbus_store.specs.declared.turn.Filed.{Filed}
use Rattle.modbus_store.specs.Legal.{Call, answer_to, tables_after, replay, IsLegal, calls_by, StartsWith}
use Rattle.modbus_store.specs.Views.{resting, serving, View, split_view}
use Rattle.modbus_store.specs.Lock.{Holds}
use Rattle.modbus_store.specs.Plays.{Mine, with_stage, known_of, with_number}

-- a table of the lock's size
abbrev pub IsDesk : TableId → Type 0
IsDesk z = (z.words ≡ 6) × (z.slots ≡ 1)

abbrev pub IsNumbered : ℕ → View → Type 0
IsNumbered n v = (v.live ≡ true) × (v.number ≡ Some n)

-- the seat of a pass between two calls
abbrev pub IsAtRest : ℕ → Mine → Type 0
IsAtRest n m = IsNumbered n m.0 × (m.0.stage ≡ resting) × (m.1 ≡ [])

-- the value is what all calls of the history leave; the history is legal and begins with what was seen, and of this number it has the
-- view's own calls
abbrev pub Ripe : ℕ → View → List Call → Stored → Type 0
Ripe n v log y =
    Holds v.opening log y × IsLegal v.opening.tables log × StartsWith log v.seen
    × (calls_by n log ≡ v.mine) × (calls_by n v.seen ≡ v.mine)

-- the seat has the turn, and the value was taken out of its slot
abbrev pub TookTurn : ℕ → Mine → Mine → Stored → Type 0
TookTurn n m m' y =
    (t : ℕ) × (m' ≡ (with_stage (serving t (known_of m'.0.stage)) m.0, (0, None) ∷ [])) × Ripe n m.0 (known_of m'.0.stage) y

abbrev pub HasTurnOf : ℕ → List Call → Mine → Type 0
HasTurnOf n log m = IsNumbered n m.0 × ((t : ℕ) × (m.0.stage ≡ serving t log)) × (m.1 ≡ (0, None) ∷ [])

-- the call was answered as a store of one caller answers it here
abbrev pub MayCount : List Call → Call → View → Type 0
MayCount log c v = (c.outcome ≡ answer_to (replay v.opening.tables log) c) × (length log + 1 < 2 ^ 64)

-- the seat that was split off, with a number of its own
abbrev pub IsGiven : ℕ → ℕ → View → Mine → Type 0
IsGiven old n v m = (m ≡ (with_number n (split_view v), [])) × (calls_by n v.seen ≡ []) × (old < n)

-- one call: the view has then seen what it had seen, calls of others, and this call. The whole is legal, and the view's calls in it are all
-- that it made
abbrev pub ExtendsView : Call → View → View → Type 0
ExtendsView c v w =
    (w ≡ record v { seen = w.seen; mine = v.mine ++ c ∷ [] })
    × ((others : List Call) × (calls_by c.number others ≡ []) × (w.seen ≡ (v.seen ++ others) ++ c ∷ []))
    × IsLegal v.opening.tables w.seen
    × (calls_by c.number w.seen ≡ w.mine)

-- the stored value after a call that was answered as a store of one caller answers it
pub record ServesCall (old : Stored) (c : Call) (new : Stored) : Type 0 where
  pub answer : c.outcome ≡ answer_to old.store c
  pub store : new.store ≡ tables_after old.store c
  pub count : new.count ≡ old.count + 1
  pub fits : old.count + 1 < 2 ^ 64
  pub history : new.history ≡ option_map (λ kept. kept ++ c ∷ []) old.history

-- the room for an entry and the entry, where there is a record
abbrev pub Files : Option (List Call) → Call → Option Filed → Type 0
Files None c None = Unit {0}
Files (Some kept) c (Some filed) = (filed.room ≡ kept) × (filed.entry ≡ c)
Files _ c _ = ⊥
