use Rattle.modbus_gateway.proofs.turns.SharedLine.exchange.Goals as goal

-- the turn is the exchange that was made under the lock
pub returns-clause-turn : goal.returns-clause-turn
returns-clause-turn g c = (
  c.deref_mut.result.now.turns,
  c.deref_mut.result.now.line,
  c.exchange.new.self.line,
  c.exchange.ensures.led,
  (c.exchange.ensures.exchanges, c.exchange.ensures.asked),
)
