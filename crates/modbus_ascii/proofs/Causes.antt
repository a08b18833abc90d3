-- Bytes have no fault, so no server tells one of them.
use Rattle.std.specs.Prelude.{ℕ, List, Result, Ok, Err, IfErr}
use Rattle.modbus_server.specs.declared.error.ProcessError.{ProcessError}
use Rattle.modbus_server.specs.declared.error.ProcessError.TheVariants.{TooManyRetries, InvalidLength, InvalidProtocol}
use Rattle.modbus_server.specs.Framing.{IsOfFraming}
use Rattle.modbus_server.specs.Served.{EndsAs}
use Rattle.modbus_service.specs.Answering.{Answering}
use Rattle.modbus_ascii.specs.Framing.{ascii}

pub no-fault : {S : Type 0} (A : Answering S) (bytes cuts : List ℕ) (opening now : S) (written : List ℕ) (result : Result (Unit {0}) ProcessError)
    → EndsAs ascii A bytes cuts opening now written result → IfErr result (λ error. IsOfFraming error → ⊥)
no-fault A bytes cuts opening now written (Ok done) ends = tt
no-fault A bytes cuts opening now written (Err TooManyRetries) ends = λ f. ends.halts.0
no-fault A bytes cuts opening now written (Err InvalidLength) ends = λ f. ends.halts.0
no-fault A bytes cuts opening now written (Err (InvalidProtocol protocol)) ends = λ f. ends.halts.0
no-fault A bytes cuts opening now written (Err _) ends = λ f. f
