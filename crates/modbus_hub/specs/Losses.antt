-- How many connections were lost, and who is told.
use Rattle.std.specs.Prelude.{◌≡◌, ◌-◌, ◌+◌, ◌^◌, ℕ, min, List, [], ◌∷◌, Result, Ok, Err}
use Rattle.modbus_link.specs.declared.outside.Failed.{Failed}
use Rattle.modbus_hub.specs.declared.losses.Losses.{Losses}

-- none was lost
abbrev pub no_losses : Losses
no_losses = record { memory = 0; share = 0; late = 0; gave_way = 0 }

-- how many were since it was so many
abbrev pub losses_since : Losses → Losses → Losses
losses_since before now = record {
  memory = now.memory - before.memory;
  share = now.share - before.share;
  late = now.late - before.late;
  gave_way = now.gave_way - before.gave_way;
}

-- no link more was dropped at once
abbrev pub SameRefused : Losses → Losses → Type 0
SameRefused old new = (new.memory ≡ old.memory) × (new.share ≡ old.share)

-- no connection more was let go since it was late, or gave way
abbrev pub SameGone : Losses → Losses → Type 0
SameGone old new = (new.late ≡ old.late) × (new.gave_way ≡ old.gave_way)

-- a count with so many more as there are fewer connections now than before, up to the last number of a counter
abbrev pub gone_more : ℕ → ℕ → ℕ → ℕ
gone_more before now count = min (count + (before - now)) (2 ^ 64 - 1)

-- the connections that went were late
abbrev pub more_late : ℕ → ℕ → Losses → Losses
more_late before now losses = record losses { late = gone_more before now losses.late }

-- the connections that went gave way to others
abbrev pub more_gave_way : ℕ → ℕ → Losses → Losses
more_gave_way before now losses = record losses { gave_way = gone_more before now losses.gave_way }

module _ {W : Type 0} (tells : W → Losses → W → Type 0) where
  -- From one count to another by these on the way: who is told is told of each how many more it is than the one before, in order and once.
  abbrev pub TellsEach : List Losses → Losses → Losses → W → W → Type 0
  TellsEach [] old new watcher watcher' = (new ≡ old) × (watcher' ≡ watcher)
  TellsEach (next ∷ later) old new watcher watcher' = (told : W) × tells watcher (losses_since old next) told × TellsEach later next new told watcher'

  -- all that were lost from one count to another were told, each once
  abbrev pub TellsAll : Losses → Losses → W → W → Type 0
  TellsAll old new watcher watcher' = (counts : List Losses) × TellsEach counts old new watcher watcher'

  -- behind a round it is told how many were lost in it; of one that failed nothing is
  abbrev pub TellsRoundOf : Result (Unit {0}) Failed → Losses → Losses → W → W → Type 0
  TellsRoundOf (Ok done) old new watcher watcher' = tells watcher (losses_since old new) watcher'
  TellsRoundOf (Err failed) old new watcher watcher' = watcher' ≡ watcher

  -- all were told; where the last round failed, all but what that lost
  abbrev pub TellsUntil : {R : Type 0} → Result R Failed → Losses → Losses → W → W → Type 0
  TellsUntil (Ok done) old new watcher watcher' = TellsAll old new watcher watcher'
  TellsUntil (Err failed) old new watcher watcher' = (last : Losses) × TellsAll old last watcher watcher'
