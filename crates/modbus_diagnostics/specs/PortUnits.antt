-- The units behind a port, and how a message for all of them ended (MODBUS over Serial Line V1.02, sections 2.1 and 2.2).
use Rattle.std.specs.Prelude.{◌≡◌, List, [], ◌∷◌, map}
use Rattle.std.specs.List.{AllZip}
use Rattle.modbus_frame.specs.Meaning.{Asked}
use Rattle.modbus_service.specs.Answering.{Answering}
use Rattle.modbus_service.specs.Outcome.{Outcome}
use Rattle.modbus_service.specs.declared.only_unit.OnlyUnit.{OnlyUnit}
use Rattle.modbus_diagnostics.specs.declared.counters.Ended.{Ended}
use Rattle.modbus_diagnostics.specs.declared.counters.Ended.TheVariants.{Well, Refused, Silent}
use Rattle.modbus_diagnostics.specs.Counters.{outcome_counted}

-- How a message ended that ended so for one unit, and so for those after it: with the first exception; else without an answer, where one
-- of them had none; else well.
abbrev pub worse : Ended → Ended → Ended
worse Well later = later
worse (Refused code) later = Refused code
worse Silent (Refused code) = Refused code
worse Silent later = Silent

-- how it ended for all of them; a message for no unit is done well
abbrev pub worst : List Ended → Ended
worst [] = Well
worst (end ∷ ends) = worse end (worst ends)

-- a unit after a message for all, and how that ended for it
pub record Done (S : Type 0) : Type 0 where
  pub unit : OnlyUnit S
  pub end : Ended

-- a service did a message for all, and it ended as what the service told
abbrev pub EndsAt : {S : Type 0} → Answering S → S → Asked → Ended → S → Type 0
EndsAt A old request end new = (told : Outcome) × (end ≡ outcome_counted told) × A.gives old 0 request told new

-- so did a unit
abbrev pub DidSo : {S : Type 0} → Answering S → Asked → OnlyUnit S → Done S → Type 0
DidSo A request old done = (done.unit.unit ≡ old.unit) × EndsAt A old.service request done.end done.unit.service

-- each of these units did a message for all in turn, and so it ended
pub record AllDid {S : Type 0} (A : Answering S) (request : Asked) (old new : List (OnlyUnit S)) (end : Ended) : Type 0 where
  pub done : List (Done S)
  pub each : AllZip (DidSo A request) old done
  pub now_is : new ≡ map (λ it. it.unit) done
  pub ended : end ≡ worst (map (λ it. it.end) done)
