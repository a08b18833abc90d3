use Rattle.std.proofs.Common.{◌≡◌, ◌<◌, ◌^◌, []}
use Rattle.modbus_store.specs.Views.{split_view}
use Rattle.modbus_store.specs.Plays.{with_ticket}
use Rattle.modbus_store.proofs.steps.split.Given as goal

abbrev pub invariant-loop : goal.invariant-loop
invariant-loop g l = (l.seat.table_id ≡ l.initial.seat.table_id) × (l.seat.me ≡ (with_ticket l.drawn l.fn.seat.me.0, [])) × (l.number < l.drawn) × (l.drawn < 2 ^ 32)
    × (l.new.table_id ≡ l.initial.new.table_id) × (l.new.me ≡ (split_view l.fn.seat.me.0, []))
