-- Polls of bits: coils and discrete inputs (Modbus Application Protocol V1.1b3, sections 6.1 and 6.2).
use Rattle.std.specs.Prelude.{◌≡◌, ℕ, ◌-◌, Bool, false, List, [], ◌∷◌, map, slice_index_or, if◌then◌else◌}
use Rattle.modbus_frame.specs.Meaning.{Asked, ReadCoils, ReadDiscreteInputs}
use Rattle.modbus_client.specs.Matches.{Answer}
use Rattle.modbus_client.specs.Typed.{Asks, coils_read, discrete_inputs_read}
use Rattle.modbus_poll.specs.declared.read.Read.{Read}
use Rattle.modbus_poll.specs.declared.states.Bits.{Bits}
use Rattle.modbus_poll.specs.declared.states.Bits.TheVariants as bits
use Rattle.modbus_poll.specs.Spans.{one, is_within}
use Rattle.modbus_poll.specs.Polls.{ReadMeaning, ReadsEach}

-- a client was asked a read of bits once, by the typed call for their table
abbrev pub AsksBits : {S : Type 0} → (S → Asked → Answer → S → Type 0) → Bits → ReadMeaning Bool S
AsksBits answers bits.Coils old read answer new =
    Asks answers old (ReadCoils read.address read.count) (coils_read read.count) answer new
AsksBits answers bits.DiscreteInputs old read answer new =
    Asks answers old (ReadDiscreteInputs read.address read.count) (discrete_inputs_read read.count) answer new

-- of coils
abbrev pub AsksCoils : {S : Type 0} → (S → Asked → Answer → S → Type 0) → ReadMeaning Bool S
AsksCoils answers = AsksBits answers bits.Coils

-- of discrete inputs
abbrev pub AsksDiscreteInputs : {S : Type 0} → (S → Asked → Answer → S → Type 0) → ReadMeaning Bool S
AsksDiscreteInputs answers = AsksBits answers bits.DiscreteInputs

-- the state of the bit at an address, as it stands in the read that gives it, the earliest of several
abbrev pub state_among : List Read → List (List Bool) → ℕ → Bool
state_among (read ∷ reads) (states ∷ found) address =
    if is_within (one address) read then slice_index_or states (address - read.address) false
    else state_among reads found address
state_among _ _ address = false

-- the states of the bits at these addresses, in their order
abbrev pub states_among : List Read → List (List Bool) → List ℕ → List Bool
states_among reads found addresses = map (state_among reads found) addresses

-- Each read was made once, in order, and each state is that of its bit among those that they gave.
pub record GivesStates {S : Type 0} (asks : ReadMeaning Bool S) (old : S) (reads : List Read)
    (addresses : List ℕ) (states : List Bool) (new : S) : Type 0 where
  pub found : List (List Bool)
  pub made : ReadsEach asks old reads found new
  pub given : states ≡ states_among reads found addresses
