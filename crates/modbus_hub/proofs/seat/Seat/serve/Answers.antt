use Rattle.modbus_hub.proofs.seat.Seat.serve.Goals as goal

pub returns-clause-turn : goal.returns-clause-turn
returns-clause-turn g c = rw (← c.self.view_is) c.take_turn-taken.ensures.turn
