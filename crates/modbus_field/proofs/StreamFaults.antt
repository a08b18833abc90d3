-- Bytes that are pieces alone have no header that ends the stream.
use Rattle.std.proofs.Common.{ℕ, List, ◌++◌}
use Rattle.modbus_frame.specs.declared.tcp.Header.{Header}
use Rattle.modbus_pdu.specs.Message.{Message}
use Rattle.modbus_server.specs.declared.error.ProcessError.{ProcessError}
use Rattle.modbus_server.specs.declared.error.ProcessError.TheVariants.{InvalidLength, InvalidProtocol}
use Rattle.modbus_field.specs.StreamFraming.{HasFault, AreOnlyPieces}
use Rattle.modbus_field.proofs.StreamPieces.{no_foreign, no_unlengthed}

pub unbroken : (read rest cuts : List ℕ) (messages before : List (Message Header)) (fault : ProcessError) → AreOnlyPieces (read ++ rest) messages
    → HasFault read cuts before fault → ⊥
unbroken read rest cuts messages before InvalidLength clean (left, are, none) = no_unlengthed read rest left messages before clean are none
unbroken read rest cuts messages before (InvalidProtocol protocol) clean (left, are, foreign) = no_foreign read rest left messages before clean are protocol foreign
unbroken read rest cuts messages before _ clean b = absurd b
