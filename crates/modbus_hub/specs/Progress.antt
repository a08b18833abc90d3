-- How far a connection is with its next message, and what is marked of it.
use Rattle.std.specs.Prelude.{◌≡◌, ℕ, ◌||◌, Bool, true, false, if◌then◌else◌}
use Rattle.modbus_link.specs.Line.{LinkMeaning}
use Rattle.modbus_hub.specs.declared.progress.Progress.{Progress}
use Rattle.modbus_hub.specs.declared.progress.Progress.TheVariants.{Resting, Begun, Late}
use Rattle.modbus_hub.specs.Turn.{GaveIfTold}
use Rattle.modbus_hub.specs.Events.{Place}

-- after a turn in which a message was completed or not, and bytes came or not
abbrev pub progress_after : Bool → Bool → Progress → Progress
progress_after true came progress = Resting
progress_after false true Resting = Begun
progress_after false true progress = progress
progress_after false false progress = progress

-- after a look at who is late
abbrev pub later : Progress → Progress
later Resting = Resting
later Begun = Late
later Late = Late

abbrev pub is_late : Progress → Bool
is_late Resting = false
is_late Begun = false
is_late Late = true

-- What is marked of a connection in a turn with this number, in which a message was completed or not: whether bytes came, as far as the link
-- tells that.
pub record Marks {L : Type 0} (M : LinkMeaning L) (number : ℕ) (completed : Bool) (old new : Place L) : Type 0 where
  pub came : Bool
  pub gave : GaveIfTold M old.seat.link new.seat.link came
  pub fresh : new.is_fresh ≡ (old.is_fresh || (completed || came))
  pub progress : new.progress ≡ progress_after completed came old.progress
  pub last : new.last ≡ (if completed || came then number else old.last)
