-- One exchange more, and what it tells.
use Rattle.std.proofs.Common.{◌≡◌, ℕ, ◌+◌, Result, Ok, Err, sym, subst}
use Rattle.std.specs.Prelude.{Option, Some, None}
use Rattle.modbus_frame.specs.Meaning.{Asked}
use Rattle.modbus_frame.specs.declared.response.Response.{Response}
use Rattle.modbus_service.specs.declared.service.ServiceError.{ServiceError}
use Rattle.modbus_service.specs.declared.service.ServiceError.TheVariants.{Exception, NoMemory}
use Rattle.modbus_service.specs.Answering.{Answering, Keeps}
use Rattle.modbus_link.specs.Memory.{next_count}
use Rattle.modbus_gateway.specs.Timely.{TimelyState}
use Rattle.modbus_gateway.specs.Turns.{Turns, untouched, exchanged, IsLed, ServiceState, TakesTurn, served_in_turn}

-- a line that was opened
pub led_by_none : {S : Type 0} (opens : S → Type 0) (A : Answering S) (line : S) (count : ℕ) → opens line → count ≡ 0 → IsLed opens A count line
led_by_none opens A line count opened none = (line, opened, subst (λ (n : ℕ). Turns A line n line) (sym none) untouched)

-- one more exchange
pub led_on : {S : Type 0} (opens : S → Type 0) (A : Answering S) (count more : ℕ) (before after : S) (unit : ℕ) (request : Asked) (told : Result (Option Response) ServiceError)
    → IsLed opens A count before → Keeps A before unit request told after → more ≡ count + 1 → IsLed opens A more after
led_on opens A count more before after unit request told led keeps is =
    (led.0, led.1, subst (λ (n : ℕ). Turns A led.0 n after) (sym is) (exchanged count before after unit request told led.2 keeps))

-- what a service tells that took a turn
pub keeps_turn : {S : Type 0} (opens : TimelyState S → Type 0) (A : Answering S) (old new : ServiceState) (unit : ℕ) (request : Asked) (told : Result (Option Response) ServiceError)
    → TakesTurn opens A new.asked.at unit request told → new.made ≡ old.made + 1 → new.asked.number ≡ next_count old.readings → new.readings ≡ new.asked.number
    → Keeps (served_in_turn opens A) old unit request told new
keeps_turn opens A old new unit request (Ok None) turn made number readings = (record { made = made; number = number; readings = readings }, turn)
keeps_turn opens A old new unit request (Ok (Some response)) turn made number readings = (record { made = made; number = number; readings = readings }, turn)
keeps_turn opens A old new unit request (Err (Exception code)) turn made number readings = (record { made = made; number = number; readings = readings }, turn)
keeps_turn opens A old new unit request (Err NoMemory) turn made number readings = (record { made = made; number = number; readings = readings }, turn)
