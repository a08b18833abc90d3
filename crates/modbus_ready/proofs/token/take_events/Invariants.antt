use Rattle.std.proofs.Common.{◌≡◌, map, take}
use Rattle.mio.specs.Events.{items}
use Rattle.mio.specs.Event.{event_token}
use Rattle.modbus_ready.specs.Tokens.{ready_of}
use Rattle.modbus_ready.proofs.token.take_events.Given as goal

abbrev pub invariant-loop-event : goal.invariant-loop-event
invariant-loop-event l = l.found.items ≡ map (λ event. ready_of (event_token event)) (take l.event-index (items l.events))
