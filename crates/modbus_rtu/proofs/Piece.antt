-- One read of a source gave a piece: the front of its room.
use Rattle.std.proofs.Common.{ℕ, ◌≤◌, List, [], length, Result, Ok, Err, refl, arith, IsTrue}
use Rattle.std.specs.Prelude.{IsErr}
use Rattle.std.specs.Io.{ReadsAtMost}
use Rattle.modbus_link.specs.declared.outside.Failed.{Failed}
use Rattle.std.proofs.lemmas.List.{length-take-le}
use Rattle.modbus_link.specs.Outside.{Input, Advances, ReadIsTold, front_of}
use Rattle.modbus_link.specs.Reads.{ReadsPiece}

pub reads_piece : {E : Type 0} (old new : Input) (before after : List ℕ) (result : Result ℕ E) → Advances old new
    → (IsTrue old.told → ReadIsTold old new before after result) → ReadsAtMost result after → length after ≤ length before
    → ReadsPiece old new (length before) (front_of result after) result
reads_piece {E} old new before after (Ok n) source told bound same = record {
  source = source;
  count = length-take-le n after bound.0;
  within = omega (arith, length-take-le n after bound.0);
  read = λ t. (told t).bytes;
  cuts = λ t. (told t).cuts;
  ended = λ t. (told t).ended;
}
reads_piece {E} old new before after (Err e) source told bound same = record {
  source = source;
  count = refl;
  within = omega arith;
  read = λ t. (told t).bytes;
  cuts = λ t. (told t).cuts;
  ended = λ t. tt;
}

-- a read that failed gave nothing, whatever its room
pub read_failed : (old new : Input) (room other : ℕ) (result : Result ℕ Failed) (failed : Failed) → IsErr result
    → ReadsPiece old new room [] (Err failed) → ReadsPiece old new other [] result
read_failed old new room other (Ok n) failed is r = cc
read_failed old new room other (Err e) failed is r = record { source = r.source; count = refl; within = omega arith; read = r.read; cuts = r.cuts; ended = λ told. tt }
