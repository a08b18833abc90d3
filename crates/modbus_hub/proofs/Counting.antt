-- How many connections there are.
use Rattle.std.proofs.Common.{◌∙◌, arith}
use Rattle.modbus_hub.specs.Seats.{SeatsState, NoMore, KeepsLimit}

module _ {L : Type 0} where
  pub none_more : (a b c : SeatsState L) → NoMore a b → NoMore b c → NoMore a c
  none_more a b c first second = (second.0 ∙ first.0, second.1 ∙ first.1, omega (arith, first.2, second.2))

  pub within_both : (a b c : SeatsState L) → KeepsLimit a b → KeepsLimit b c → KeepsLimit a c
  within_both a b c first second = (second.0 ∙ first.0, second.1 ∙ first.1, λ within. second.2 (first.2 within))
