-- What the fields of a pass stand for.
use Rattle.std.specs.Prelude.{◌≡◌, true, [], Some, length}
use Rattle.modbus_store.specs.declared.pass.StorePass.TheInside.{Inside}
use Rattle.modbus_store.specs.declared.pass.LastTurn.TheInside as last
use Rattle.modbus_store.specs.Legal.{IsLegal, calls_by}
use Rattle.modbus_store.specs.Views.{resting}
use Rattle.modbus_store.specs.Plays.{known_of}
use Rattle.modbus_store.specs.Turns.{HasTurnOf}
use Rattle.modbus_store.specs.Passes.{Pass}

abbrev pub pass_of : Inside → Pass
pass_of p = record {
  table = p.seat.table_id;
  opening = p.seat.me.0.opening;
  number = p.number;
  seen = p.seat.me.0.seen;
  mine = p.seat.me.0.mine;
  drawn = p.drawn;
}

-- the seat rests between two calls, and the plain fields tell of its view
pub record StandsInside (p : Inside) : Type 0 where
  pub live : p.seat.me.0.live ≡ true
  pub numbered : p.seat.me.0.number ≡ Some p.number
  pub rests : p.seat.me.0.stage ≡ resting
  pub empty : p.seat.me.1 ≡ []
  pub last_drawn : p.drawn ≡ p.seat.me.0.drawn
  pub counted : p.seen ≡ length p.seat.me.0.seen
  pub legal : IsLegal p.seat.me.0.opening.tables p.seat.me.0.seen
  pub own : calls_by p.number p.seat.me.0.seen ≡ p.seat.me.0.mine

-- a pass that has its turn: it has seen the whole history
abbrev pub last_of : last.Inside → Pass
last_of p = record {
  table = p.seat.table_id;
  opening = p.seat.me.0.opening;
  number = p.number;
  seen = known_of p.seat.me.0.stage;
  mine = p.seat.me.0.mine;
  drawn = p.seat.me.0.drawn;
}

-- the seat has the turn, and the slot is empty
abbrev pub IsLast : last.Inside → Type 0
IsLast p = HasTurnOf p.number (known_of p.seat.me.0.stage) p.seat.me
