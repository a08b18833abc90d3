-- A quiet line has no fault.
use Rattle.std.proofs.Common.{ℕ, List, ◌++◌}
use Rattle.modbus_pdu.specs.SlavePdu.{SlavePdu}
use Rattle.modbus_rtu.specs.Stands.{HasCrowd}
use Rattle.modbus_rtu.specs.Quiet.{IsQuietLine}
use Rattle.modbus_server.specs.declared.error.ProcessError.{ProcessError}
use Rattle.modbus_server.specs.declared.error.ProcessError.TheVariants.{TooManyRetries}
use Rattle.modbus_server.specs.Rtu.{IsCrowdedAfter}

module _ (calm : (read rest cuts : List ℕ) (messages : List SlavePdu) (k : ℕ) → IsQuietLine (read ++ rest) messages → HasCrowd read cuts k → ⊥) where
  pub unbroken : (read rest cuts : List ℕ) (messages before : List SlavePdu) (fault : ProcessError) → IsQuietLine (read ++ rest) messages → IsCrowdedAfter read cuts before fault → ⊥
  unbroken read rest cuts messages before TooManyRetries clean (k, first) = calm read rest cuts messages k clean first.crowd
  unbroken read rest cuts messages before _ clean b = absurd b
