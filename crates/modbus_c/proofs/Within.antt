-- What is used lies within the input.
use Rattle.std.proofs.Common.{ℕ, ◌≤◌, List, length, Result, Ok, Err, arith}
use Rattle.modbus_rtu.specs.declared.front.Crowd.{Crowd}
use Rattle.modbus_store.specs.Tables.{Tables}
use Rattle.modbus_c.specs.declared.serve.Served.{Served}
use Rattle.modbus_c.specs.declared.serve.Served.TheVariants.{Answered, Silent, Refused, Waiting, NoMemory}
use Rattle.modbus_c.specs.Served.{flat_frame}
use Rattle.modbus_c.specs.Serves.{ServesFrame}

pub used_within : (old : Tables) (input room output : List ℕ) (done : Result Served Crowd) (new : Tables) → ServesFrame old input room done output new → (flat_frame done).used ≤ length input
used_within old input room output (Ok (Answered used written)) new h = h.3.2
used_within old input room output (Ok (Silent used)) new h = h.2.2
used_within old input room output (Ok (Refused used reason)) new h = h.2.2
used_within old input room output (Ok (Waiting dropped)) new h = h.1
used_within old input room output (Ok NoMemory) new h = omega arith
used_within old input room output (Err crowd) new h = h.1
