-- Which connection has not moved for longest.
use Rattle.std.specs.Prelude.{◌≡◌, ◌⊎◌, ℕ, ◌<◌, ◌≤◌, Option, Some, None, ⊤}
use Rattle.slab.specs.Slab.{Slab, Updates, get}
use Rattle.modbus_hub.specs.declared.seats.Idle.{Idle}
use Rattle.modbus_hub.specs.Events.{Place}

-- The connection of this key is there, and of those under such keys none had the last turn in which it moved before that.
pub record IsIdlestOf {L : Type 0} (P : ℕ → Type 0) (seats : Slab (Place L)) (idle : Idle) : Type 0 where
  pub place : Place L
  pub there : get seats idle.key ≡ Some place
  pub last : idle.last ≡ place.last
  pub least : (key : ℕ) (other : Place L) → P key → get seats key ≡ Some other → idle.last ≤ other.last

module _ {L : Type 0} where
  -- the same of the keys below one; or there is no connection under these
  abbrev pub IsIdlestBelow : ℕ → Slab (Place L) → Option Idle → Type 0
  IsIdlestBelow below seats None = (key : ℕ) → key < below → get seats key ≡ None
  IsIdlestBelow below seats (Some idle) = IsIdlestOf (λ key. key < below) seats idle

  -- of all keys
  abbrev pub IsIdlest : Slab (Place L) → Option Idle → Type 0
  IsIdlest seats None = (key : ℕ) → get seats key ≡ None
  IsIdlest seats (Some idle) = IsIdlestOf (λ key. ⊤) seats idle

  -- the connection that has not moved for longest is let go, and all others stay; where there is none all is as it was
  abbrev pub LeavesIdlest : Slab (Place L) → Slab (Place L) → Type 0
  LeavesIdlest old new = ((idle : Idle) × IsIdlest old (Some idle) × Updates old new idle.key None) ⊎ (IsIdlest old None × ((key : ℕ) → get new key ≡ get old key))
