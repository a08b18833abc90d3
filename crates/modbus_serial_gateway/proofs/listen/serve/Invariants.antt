use Rattle.std.specs.Prelude.{◌≡◌}
use Rattle.modbus_gateway.specs.Timely.{timely_at_start}
use Rattle.modbus_serial_gateway.proofs.listen.serve.Given as goal

-- the line that is served is the one that was opened, with its limit
abbrev pub ghosts-serve_line-J-Opening : goal.ghosts-serve_line-J-Opening
ghosts-serve_line-J-Opening g a = record { opens = λ it. it ≡ timely_at_start a.shared.line a.shared.limit }

abbrev pub ghosts-serve_line-J-Ledger : goal.ghosts-serve_line-J-Ledger
ghosts-serve_line-J-Ledger g a = record { name = a.ledger.name; parts = a.ledger.parts }
