-- A service that has files, or none.
use Rattle.std.specs.Prelude.{ℕ}
use Rattle.modbus_frame.specs.Meaning.{Asked}
use Rattle.modbus_service.specs.OnlyUnit.{Giving}
use Rattle.modbus_files.specs.declared.maybe_filed.MaybeFiled.{MaybeFiled}
use Rattle.modbus_files.specs.declared.maybe_filed.MaybeFiled.TheVariants.{With, Without}
use Rattle.modbus_files.specs.Filed.{filed_answers, filed_takes}

-- With files it answers as a service that has them, without as the service alone; and it never changes which of the two it is.
abbrev pub maybe_filed_answers : {S : Type 0} → Giving S → Giving (MaybeFiled S)
maybe_filed_answers gives (With old) slave request outcome (With new) = filed_answers gives old slave request outcome new
maybe_filed_answers gives (Without old) slave request outcome (Without new) = gives old slave request outcome new
maybe_filed_answers gives _ slave request outcome _ = ⊥

-- it takes memory where the one that it is does
abbrev pub maybe_filed_takes : {S : Type 0} → (S → ℕ → Asked → Type 0) → MaybeFiled S → ℕ → Asked → Type 0
maybe_filed_takes takes (With it) slave request = filed_takes takes it slave request
maybe_filed_takes takes (Without it) slave request = takes it slave request
