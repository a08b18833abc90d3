-- Whose turn it is at a connection that several devices share.
use Rattle.std.specs.Prelude.{◌≡◌, ℕ, List, [], ◌∷◌, ◌++◌, Option, Some, None, Bool, true, false, Result, Ok, Err}
use Rattle.std.specs.declared.alloc.AllocError.{AllocError}

-- whose poll is under way, and who waits, in this order
pub record QueueState : Type 0 where
  pub current : Option ℕ
  pub waiting : List ℕ

-- A device is polled at once where no poll is under way; else it waits behind the others, where memory is not refused.
abbrev pub IsEntered : ℕ → QueueState → Result Bool AllocError → QueueState → Type 0
IsEntered key old (Ok true) new = (old.current ≡ None) × (new ≡ record old { current = Some key })
IsEntered key old (Ok false) new = (current : ℕ) × (old.current ≡ Some current) × (new ≡ record old { waiting = old.waiting ++ key ∷ [] })
IsEntered key old (Err error) new = new ≡ old
