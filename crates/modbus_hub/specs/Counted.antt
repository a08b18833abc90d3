-- A service that counts how often it was asked.
use Rattle.std.specs.Prelude.{◌≡◌, ℕ}
use Rattle.modbus_link.specs.Memory.{next_count}
use Rattle.modbus_service.specs.Answering.{Answering}

-- a service, and how often it was asked
pub record CountedState (S : Type 0) : Type 0 where
  pub service : S
  pub asked : ℕ

-- it answers as the service does, and counts each time that it is asked, also where memory was refused
abbrev pub counted : {S : Type 0} → Answering S → Answering (CountedState S)
counted A = record {
  gives = λ old slave request outcome new. A.gives old.service slave request outcome new.service × (new.asked ≡ next_count old.asked);
  wants = λ old slave request new. A.wants old.service slave request new.service × (new.asked ≡ next_count old.asked);
}
