-- What one turn of a connection promises, where others have their turns before and after it.
use Rattle.std.specs.Prelude.{◌≡◌, ◌⊎◌, ℕ, ◌≤◌, nat_lt, List, ◌++◌, map, length, Bool, true, false, IsTrue, Result}
use Rattle.modbus_link.specs.declared.outside.Cut.{Cut}
use Rattle.modbus_link.specs.Line.{LinkMeaning}
use Rattle.modbus_link.specs.Outside.{Outside, outside, cuts_made}
use Rattle.modbus_link.specs.Passes.{Passes}
use Rattle.modbus_server.specs.declared.error.ProcessError.{ProcessError}
use Rattle.modbus_server.specs.Exchanges.{Exchange}
use Rattle.modbus_server.specs.Framing.{Framing}
use Rattle.modbus_server.specs.Polled.{polled, PolledPast, polled_past, PolledProcessState, PollStands, PolledRan, CompletesAfter, Rests}
use Rattle.modbus_service.specs.Answering.{Answering}
use Rattle.modbus_service.specs.Exchange as service
use Rattle.modbus_hub.specs.declared.turn.Turn.{Turn}
use Rattle.modbus_hub.specs.declared.turn.Turn.TheVariants.{Waiting, Spent, Over}
use Rattle.modbus_hub.specs.declared.turn.TurnLimits.{TurnLimits}

-- what a service was asked, for this slave, and its outcome, whatever framed it
abbrev pub Said : Type 0
Said = service.Exchange ℕ

-- one exchange with its framing left out
abbrev pub unframed : (F : Framing) → Exchange F → Said
unframed F x = record { header = F.slave x.header; request = x.request; outcome = x.outcome }

abbrev pub all_unframed : (F : Framing) → List (Exchange F) → List Said
all_unframed F xs = map (unframed F) xs

-- the service goes from one state to another over all this
abbrev pub RunOver : {S : Type 0} → Answering S → S → List Said → S → Type 0
RunOver A start all end = service.Run (λ slave. slave) A start all end

-- a connection: its link, and what its server keeps
pub record SeatState (L : Type 0) : Type 0 where
  pub link : L
  pub process : PolledProcessState

-- whether the connection goes on after a turn
abbrev pub is_going_on : Turn → Bool
is_going_on Waiting = true
is_going_on Spent = true
is_going_on (Over result) = false

-- whether it was cut off by its limits
abbrev pub is_spent : Turn → Bool
is_spent Waiting = false
is_spent Spent = true
is_spent (Over result) = false

-- the two ends of a link
abbrev pub ends_of : {L : Type 0} → LinkMeaning L → L → Outside
ends_of M link = outside (M.input link) (M.output link)

-- Of a link that tells its content: no more of its reads gave bytes than these.
abbrev pub TakesFew : {L : Type 0} → LinkMeaning L → ℕ → L → L → Type 0
TakesFew M reads old new = IsTrue (M.input old).told → length (cuts_made (M.input old) (M.input new)) ≤ reads

-- of the same: so many of its reads gave bytes, no more and no fewer
abbrev pub UsesUp : {L : Type 0} → LinkMeaning L → ℕ → L → L → Type 0
UsesUp M reads old new = IsTrue (M.input old).told → length (cuts_made (M.input old) (M.input new)) ≡ reads

-- of the same: whether some of its reads gave bytes
abbrev pub GaveIfTold : {L : Type 0} → LinkMeaning L → L → L → Bool → Type 0
GaveIfTold M old new gave = IsTrue (M.input old).told → gave ≡ nat_lt 0 (length (cuts_made (M.input old) (M.input new)))

-- A turn that took so many messages keeps to its limits, whatever its link tells. Where they cut it off, it took as many messages as it may,
-- or as many reads.
pub record IsWithin {L : Type 0} (M : LinkMeaning L) (limits : TurnLimits) (old new : L) (taken : ℕ) (turn : Turn) : Type 0 where
  pub reads : TakesFew M limits.reads old new
  pub messages : taken ≤ limits.messages
  pub spent : turn ≡ Spent → (taken ≡ limits.messages) ⊎ UsesUp M limits.reads old new

-- A connection that came with this link, and may have so many reads that give bytes, was told just this by the service: it stands for what
-- its link gave and took, and for exchanges that say this, whatever else the service does.
pub record SeatStands (F : Framing) {L : Type 0} (M : LinkMeaning L) (turns : ℕ) (first : L) (own : List Said) (seat : SeatState L) : Type 0 where
  pub bytes : List ℕ
  pub made : List Cut
  pub written : List ℕ
  pub exchanges : List (Exchange F)
  pub told : all_unframed F exchanges ≡ own
  pub passes : Passes (ends_of M first) (ends_of M seat.link) bytes made written
  pub stands : PollStands F (polled_past turns bytes made written exchanges) (polled seat.process.connection seat.process.left)

-- what a turn that took so many messages leaves unanswered: nothing where it goes on, unless its messages are used up
abbrev pub LeavesNone : Framing → TurnLimits → PolledProcessState → ℕ → Turn → Type 0
LeavesNone F limits new taken Waiting = Rests F new.connection
LeavesNone F limits new taken Spent = (taken ≡ limits.messages) ⊎ Rests F new.connection
LeavesNone F limits new taken (Over result) = Unit {0}

module _ (F : Framing) {S : Type 0} (A : Answering S) {L : Type 0} (M : LinkMeaning L) where
  -- Such a connection is over: over its link from first to last it did what `process` does, which serves a clean line to its end, but that
  -- others asked the service between its exchanges. After the last of these the service stood at `ends`, and goes to another state only
  -- where it refused memory or its response was too long.
  abbrev pub SeatEnds : ℕ → L → List Said → L → S → S → Result (Unit {0}) ProcessError → Type 0
  SeatEnds turns first own last ends after result = (behind : PolledPast F) × (behind.turns ≡ turns) × (all_unframed F behind.exchanges ≡ own)
      × PolledRan F A behind ends after (ends_of M first) (ends_of M last) result × CompletesAfter F A behind ends (ends_of M first) (ends_of M last) result

  -- what a connection that was told this is after a turn, at which the service came to a state and then to another
  abbrev pub TurnLeaves : ℕ → L → List Said → SeatState L → S → S → Turn → Type 0
  TurnLeaves turns first own new ends after Waiting = (after ≡ ends) × SeatStands F M turns first own new
  TurnLeaves turns first own new ends after Spent = (after ≡ ends) × SeatStands F M turns first own new
  TurnLeaves turns first own new ends after (Over result) = SeatEnds turns first own new.link ends after result

  -- One turn within limits: the connection was told some more, by one run of the service, and for all that it was told before, it is what
  -- that and this leave.
  abbrev pub TakesTurn : TurnLimits → SeatState L → SeatState L → S → S → Turn → Type 0
  TakesTurn limits old new before after result = (fresh : List Said) × (ends : S) × RunOver A before fresh ends
      × IsWithin M limits old.link new.link (length fresh) result × LeavesNone F limits new.process (length fresh) result
      × ((turns : ℕ) (first : L) (own : List Said) → SeatStands F M turns first own old → TurnLeaves turns first (own ++ fresh) new ends after result)
