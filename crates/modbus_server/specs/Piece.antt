-- What the driver over memory promises: its input is one piece of bytes.
use Rattle.std.specs.Prelude.{◌≡◌, ◌⊎◌, ℕ, List, [], ◌∷◌, ◌++◌, length, Result, Ok, Err}
use Rattle.modbus_server.specs.declared.error.ProcessError.{ProcessError}
use Rattle.modbus_server.specs.declared.error.ProcessError.TheVariants.{ReadFault, WriteFault, TurnLimit, NoMemory}
use Rattle.modbus_server.specs.Framing.{Framing}
use Rattle.modbus_service.specs.Answering.{Answering}
use Rattle.modbus_server.specs.Exchanges.{Exchange, Run}
use Rattle.modbus_server.specs.Served.{Past, past, Stands, EndsAfter, EndsAs}
use Rattle.modbus_server.specs.Complete.{IsCleanLine, RepliesFit}

-- an answer that comes of no read
abbrev pub IsOfNoRead : Result (Unit {0}) ProcessError → Type 0
IsOfNoRead (Err ReadFault) = ⊥
IsOfNoRead (Err TurnLimit) = ⊥
IsOfNoRead _ = Unit {0}

-- Of a connection that holds these bytes: the service went on by these exchanges, these bytes are appended to the replies, and for all that
-- the connection stood for, it ended so with that and these.
pub record ServedHeld (F : Framing) {S : Type 0} (A : Answering S) (held : List ℕ) (before after : S) (old new : List ℕ) (result : Result (Unit {0}) ProcessError) : Type 0 where
  pub sent : List ℕ
  pub appended : new ≡ old ++ sent
  pub only : IsOfNoRead result
  pub fresh : List (Exchange F)
  pub ends : S
  pub run : Run F A before fresh ends
  pub served : (behind : Past F) → Stands F behind held []
      → EndsAfter F A (past behind.bytes behind.cuts (behind.written ++ sent) (behind.exchanges ++ fresh)) ends after result

-- Of a piece as the whole input, which one read gave: the run ends so, and these bytes are appended to the replies. Or memory for a
-- connection was refused, and nothing was done.
pub record ServedPiece (F : Framing) {S : Type 0} (A : Answering S) (piece : List ℕ) (before after : S) (old new : List ℕ) (result : Result (Unit {0}) ProcessError) : Type 0 where
  pub sent : List ℕ
  pub appended : new ≡ old ++ sent
  pub only : IsOfNoRead result
  pub ends : EndsAs F A piece (length piece ∷ []) before after sent result ⊎ ((result ≡ Err NoMemory) × (after ≡ before) × (sent ≡ []))

-- A piece that is a clean line is served to its end, where every reply fits, or memory is wanting, for a reply too.
abbrev pub CompletesPiece : (F : Framing) → {S : Type 0} → Answering S → S → List ℕ → Result (Unit {0}) ProcessError → Type 0
CompletesPiece F A opening piece result = (clean : IsCleanLine F piece) → RepliesFit F A opening clean.messages
    → (result ≡ Ok tt) ⊎ ((result ≡ Err NoMemory) ⊎ (result ≡ Err WriteFault))
