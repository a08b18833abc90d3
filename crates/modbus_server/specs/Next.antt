-- What a connection does with the bytes that it holds, and with those that it is fed. There is no IO in it.
use Rattle.std.specs.Prelude.{◌≡◌, ◌≢◌, ℕ, ◌<◌, ◌≤◌, List, [], ◌∷◌, ◌++◌, length, drop, Result, Ok, Err, is_ok}
use Rattle.modbus_server.specs.declared.error.ProcessError.{ProcessError}
use Rattle.modbus_server.specs.declared.error.ProcessError.TheVariants as process
use Rattle.modbus_frame.specs.declared.front.Front.{Front}
use Rattle.modbus_frame.specs.declared.front.Front.TheVariants as front
use Rattle.modbus_pdu.specs.Message.{Message, message}
use Rattle.modbus_server.specs.declared.error.NextError.{NextError}
use Rattle.modbus_server.specs.declared.error.NextError.TheVariants.{Broken, Refused, TooLong, NoMemory}
use Rattle.modbus_server.specs.declared.error.Next.{Next}
use Rattle.modbus_server.specs.declared.error.Next.TheVariants.{Reply, Silent, Waiting}
use Rattle.modbus_service.specs.Outcome.{silence}
use Rattle.modbus_server.specs.Framing.{Framing, IsOfFraming}
use Rattle.modbus_service.specs.Answering.{Answering}
use Rattle.modbus_server.specs.Exchanges.{Exchange, Run}
use Rattle.modbus_server.specs.Served.{Past, with_exchanges, Stands, HasTakenAll, NextIsRequest, StopsAfter, broken, refused, too_long, NextTakesMemory, WantsAfter}
use Rattle.modbus_server.specs.State.{State}

-- what stands at the front of the held bytes: the next message, which is taken off with all bytes before it; or these are all, and the
-- bytes of no use are dropped; or there is a fault
abbrev pub FindsNext : (F : Framing) → {H E : Type 0} → (H → F.Header) → (E → ProcessError) → List ℕ → List ℕ → List (Message F.Header) → List ℕ → Result (Front H) E → Type 0
FindsNext F header_of told bytes cuts taken held (Ok (front.Message header pdu end)) =
    F.StandsFor bytes cuts (drop end held) (taken ++ message (header_of header) pdu.now ∷ []) × F.IsNext bytes cuts taken (message (header_of header) pdu.now)
FindsNext F header_of told bytes cuts taken held (Ok (front.Waiting dropped)) =
    F.StandsFor bytes cuts (drop dropped held) taken × F.IsAll bytes cuts (drop dropped held) taken
FindsNext F header_of told bytes cuts taken held (Err fault) = F.IsBroken bytes cuts taken (told fault)

-- a message takes a byte at least, and what is taken off is held; where there is none, what stays waits for more
abbrev pub IsFrontWithin : {H E : Type 0} → (List ℕ → Type 0) → List ℕ → Result (Front H) E → Type 0
IsFrontWithin Waits held (Ok (front.Message header pdu end)) = (0 < end) × (end ≤ length held)
IsFrontWithin Waits held (Ok (front.Waiting dropped)) = (dropped ≤ length held) × Waits (drop dropped held)
IsFrontWithin Waits held (Err fault) = Unit {0}

-- the service was asked once for a reply or a silence, which left it there, and in no other exchange
abbrev pub AsksAs : (F : Framing) → {S E : Type 0} → List (Exchange F) → S → S → Result Next (NextError E) → Type 0
AsksAs F fresh ends after (Ok Reply) = (x : Exchange F) × (fresh ≡ x ∷ []) × (x.outcome ≢ silence) × (after ≡ ends)
AsksAs F fresh ends after (Ok Silent) = (x : Exchange F) × (fresh ≡ x ∷ []) × (x.outcome ≡ silence) × (after ≡ ends)
AsksAs F fresh ends after (Ok Waiting) = (fresh ≡ []) × (after ≡ ends)
AsksAs F fresh ends after (Err error) = fresh ≡ []

-- What it stands for that has this behind it, holds the first of these bytes, and of which the second wait. An error comes right after
-- the exchanges.
abbrev pub TakesAs : (F : Framing) → {S E : Type 0} → Answering S → (E → ProcessError) → Past F → List ℕ × List ℕ → S → S → Result Next (NextError E) → Type 0
TakesAs F A told behind kept ends now (Ok Reply) = Stands F behind kept.0 kept.1
TakesAs F A told behind kept ends now (Ok Silent) = Stands F behind kept.0 []
TakesAs F A told behind kept ends now (Ok Waiting) = HasTakenAll F behind kept.0 []
TakesAs F A told behind kept ends now (Err (Broken fault)) = StopsAfter F A behind ends now (broken (told fault))
TakesAs F A told behind kept ends now (Err (Refused reason)) = StopsAfter F A behind ends now (refused reason)
TakesAs F A told behind kept ends now (Err (TooLong size)) = StopsAfter F A behind ends now (too_long size)
TakesAs F A told behind kept ends now (Err NoMemory) = WantsAfter F A behind ends now × NextIsRequest F behind.bytes behind.cuts behind.exchanges

-- What is taken off the held bytes: the service went on by these exchanges, and for all that the connection may have behind it, it stands
-- for that and these then, with these bytes held and these waiting; or it ended so.
pub record Takes (F : Framing) {S E : Type 0} (A : Answering S) (told : E → ProcessError) (old : List ℕ) (kept : List ℕ × List ℕ) (before after : S) (result : Result Next (NextError E)) : Type 0 where
  pub fresh : List (Exchange F)
  pub ends : S
  pub run : Run F A before fresh ends
  pub asked : AsksAs F fresh ends after result
  pub stands : (behind : Past F) → Stands F behind old [] → TakesAs F A told (with_exchanges behind fresh) kept ends after result

-- what is held and what waits then
abbrev pub KeepsAs : {S E : Type 0} → (List ℕ → Type 0) → List ℕ → List ℕ → List ℕ → S → S → Result Next (NextError E) → Type 0
KeepsAs Waits old new waiting before after (Ok Reply) = length new < length old
KeepsAs Waits old new waiting before after (Ok Silent) = (length new < length old) × (waiting ≡ [])
KeepsAs Waits old new waiting before after (Ok Waiting) = Waits new × (waiting ≡ []) × (after ≡ before)
KeepsAs Waits old new waiting before after (Err error) = Unit {0}

-- What `next` promises.
pub record Took (F : Framing) {S E : Type 0} (A : Answering S) (told : E → ProcessError) (old new : State) (before after : S) (result : Result Next (NextError E)) : Type 0 where
  pub takes : Takes F A told old.held (new.held, new.waiting) before after result
  pub keeps : KeepsAs F.Waits old.held new.held new.waiting before after result
  -- memory is wanting only for the next message
  pub memory : result ≡ Err NoMemory → (bytes cuts : List ℕ) (taken : List (Message F.Header)) → F.StandsFor bytes cuts old.held taken
      → NextTakesMemory F A bytes cuts taken before after
  -- it goes on until it tells an error
  pub goes_on : new.is_open ≡ is_ok result

-- how a server tells why there is no next reply
abbrev pub told_next : {E : Type 0} → (E → ProcessError) → NextError E → ProcessError
told_next told (Broken fault) = told fault
told_next told (Refused reason) = process.InvalidRequest reason
told_next told (TooLong size) = process.ResponseTooLong size
told_next told NoMemory = process.NoMemory

-- a fault of the framing is told as one
abbrev pub IsToldWell : {E : Type 0} → (E → ProcessError) → NextError E → Type 0
IsToldWell told (Broken fault) = IsOfFraming (told fault)
IsToldWell told (Refused reason) = Unit {0}
IsToldWell told (TooLong size) = Unit {0}
IsToldWell told NoMemory = Unit {0}

-- What `feed` promises: for all bytes and cuts, it goes on by the piece.
pub record Fed (F : Framing) (old new : State) (piece : List ℕ) : Type 0 where
  pub held : new.held ≡ old.held ++ piece
  pub waiting : new.waiting ≡ old.waiting
  pub is_open : new.is_open ≡ old.is_open
  pub grows : (bytes cuts : List ℕ) (taken : List (Message F.Header)) → F.StandsFor bytes cuts old.held taken → 0 < length piece
      → F.StandsFor (bytes ++ piece) (cuts ++ length (bytes ++ piece) ∷ []) new.held taken
