-- What a server of a stream never answers.
use Rattle.std.proofs.Common.{ℕ, List, Result, Ok, Err}
use Rattle.std.specs.Prelude.{IfErr}
use Rattle.modbus_frame.specs.declared.fault.Reason.{Reason}
use Rattle.modbus_service.specs.Answering.{Answering}
use Rattle.modbus_server.specs.declared.error.ProcessError.{ProcessError}
use Rattle.modbus_server.specs.declared.error.ProcessError.TheVariants.{TooManyRetries, InvalidRequest}
use Rattle.modbus_server.specs.Served.{Served, Halts, refused, EndsAs}
use Rattle.modbus_field.specs.StreamFraming.{stream}
use Rattle.modbus_field.specs.StreamLine.{IsOfNoStream}

module _ {S : Type 0} (A : Answering S) (bytes cuts : List ℕ) (opening now : S) (written : List ℕ) where
  none_refused : (reason : Reason) → Served stream A bytes cuts opening now written (refused reason) → ⊥
  none_refused reason s = by_halts s.halts
    where
      by_halts : Halts stream A bytes cuts s.before s.ends now (refused reason) → ⊥
      by_halts (message, is_next, bad, same) = cc

  pub no_fault : (result : Result (Unit {0}) ProcessError) → EndsAs stream A bytes cuts opening now written result → IfErr result (λ error. IsOfNoStream error → ⊥)
  no_fault (Ok done) ends = tt
  no_fault (Err TooManyRetries) ends = λ f. ends.halts.0
  no_fault (Err (InvalidRequest reason)) ends = λ f. none_refused reason ends
  no_fault (Err _) ends = λ f. f
