-- What is told of a line as it changes.
use Rattle.std.specs.Prelude.{◌≡◌, ℕ, Bool, true, false, Option, Some, None}
use Rattle.modbus_gateway.specs.declared.watcher.LineChange.{LineChange}
use Rattle.modbus_gateway.specs.declared.watcher.LineChange.TheVariants.{SlaveDead, SlaveAlive, LineLost, LineBack}

-- what of a slave is told, by whether it was dead before an exchange and after it
abbrev pub slave_change : ℕ → Bool → Bool → Option LineChange
slave_change unit false true = Some (SlaveDead unit)
slave_change unit true false = Some (SlaveAlive unit)
slave_change unit false false = None
slave_change unit true true = None

-- what of a line is told, by whether it was open before and after
abbrev pub line_change : Bool → Bool → Option LineChange
line_change true false = Some LineLost
line_change false true = Some LineBack
line_change false false = None
line_change true true = None

-- who is told is told a change once; where there is none they are told nothing
abbrev pub TellsIf : {W : Type 0} → (W → LineChange → W → Type 0) → Option LineChange → W → W → Type 0
TellsIf tells None old new = new ≡ old
TellsIf tells (Some change) old new = tells old change new
