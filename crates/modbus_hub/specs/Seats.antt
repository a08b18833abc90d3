-- What connections that take turns at one service stand for.
use Rattle.std.specs.Prelude.{◌≡◌, ◌⊎◌, ℕ, ◌+◌, ◌-◌, ◌^◌, ◌≤◌, List, [], ◌∷◌, ◌++◌, Option, Some, None, IsSome, Result, Ok, Err, Bool, false, if◌then◌else◌, IsTrue}
use Rattle.modbus_link.specs.Line.{LinkMeaning}
use Rattle.modbus_link.specs.Outside.{Rose}
use Rattle.modbus_server.specs.Framing.{Framing}
use Rattle.modbus_service.specs.Answering.{Answering}
use Rattle.modbus_service.specs.Exchange.{GivesOutcome}
use Rattle.modbus_hub.specs.declared.turn.Turn.{Turn}
use Rattle.modbus_hub.specs.declared.turn.Turn.TheVariants.{Waiting, Spent, Over}
use Rattle.modbus_hub.specs.Turn.{Said}
use Rattle.modbus_hub.specs.Turn.{SeatStands, SeatEnds, IsWithin, TakesFew}
use Rattle.modbus_hub.specs.declared.turn.TurnLimits.{TurnLimits}
use Rattle.modbus_hub.specs.declared.seats.Places.{Places}
use Rattle.modbus_hub.specs.Progress.{Marks, is_late, later}
use Rattle.modbus_hub.specs.Shares.{HaveFew}
use Rattle.slab.specs.Slab.{Slab, get, slab_len}
use Rattle.modbus_ready.specs.declared.readiness.Ready.{Ready}
use Rattle.modbus_ready.specs.declared.readiness.Ready.TheVariants.{Peer, Link}
use Rattle.modbus_hub.specs.Events.{Event, came, refused, told, turned, dropped, no_memory, Place, Account, KeyAccount, account_of, by_key, HasAnyTurn, TurnsAmong, links_of}

-- the connections of one thread
pub record SeatsState (L : Type 0) : Type 0 where
  pub seats : Slab (Place L)
  -- whether one may be left whose last turn was cut off by its limits
  pub has_spent : Bool
  -- what a turn may take
  pub limits : TurnLimits
  -- how many connections there may be at a time, and of one address
  pub places : Places
  -- how many turns there were, with the connections that came
  pub count : ℕ

-- no more connections than there were, under the same limits
abbrev pub NoMore : {L : Type 0} → SeatsState L → SeatsState L → Type 0
NoMore old new = (new.limits ≡ old.limits) × (new.places ≡ old.places) × (slab_len new.seats ≤ slab_len old.seats)

-- one more at most
abbrev pub OneMore : {L : Type 0} → SeatsState L → SeatsState L → Type 0
OneMore old new = (new.limits ≡ old.limits) × (new.places ≡ old.places) × (slab_len new.seats ≤ slab_len old.seats + 1)

-- no address has more connections than one may have, where none had before
abbrev pub KeepsFew : {L : Type 0} → SeatsState L → SeatsState L → Type 0
KeepsFew old new = HaveFew old.places.per_peer old.seats → HaveFew new.places.per_peer new.seats

-- no more connections than there may be
abbrev pub KeepsLimit : {L : Type 0} → SeatsState L → SeatsState L → Type 0
KeepsLimit old new = (new.limits ≡ old.limits) × (new.places ≡ old.places)
    × (slab_len old.seats ≤ old.places.connections → slab_len new.seats ≤ new.places.connections)

-- the link under this key was found ready
abbrev pub IsFound : ℕ → List Ready → Type 0
IsFound key [] = ⊥
IsFound key (ready ∷ found) = (ready ≡ Link key) ⊎ IsFound key found

-- this tells of a link that was found ready before
abbrev pub IsTold : List Ready → Ready → Type 0
IsTold earlier Peer = ⊥
IsTold earlier (Link key) = IsFound key earlier

-- how many reads of a connection may give bytes in all
abbrev pub turns : ℕ
turns = 2 ^ 64 - 1

-- what a contract knows of a link that is polled: its ends, how often it was not ready, and what a turn over it may take
pub record PolledMeaning (L : Type 0) : Type 1 where
  pub link : LinkMeaning L
  pub not_ready : L → ℕ
  pub limits : TurnLimits

abbrev pub polled_by : {L : Type 0} → LinkMeaning L → (L → ℕ) → TurnLimits → PolledMeaning L
polled_by link not_ready limits = record { link = link; not_ready = not_ready; limits = limits }

-- What happens after these events without the service: links come, under keys that have no connection, or are dropped, and connections are
-- let go.
abbrev pub AsksNone : {L : Type 0} → List (Event L) → List (Event L) → Type 0
AsksNone earlier [] = Unit {0}
AsksNone earlier (came key link ∷ es) = (account_of key None earlier ≡ None) × AsksNone (earlier ++ came key link ∷ []) es
AsksNone earlier (refused cause link ∷ es) = AsksNone (earlier ++ refused cause link ∷ []) es
AsksNone earlier (dropped key ∷ es) = AsksNone (earlier ++ dropped key ∷ []) es
AsksNone earlier (e ∷ es) = ⊥

module _ (F : Framing) {L : Type 0} (M : LinkMeaning L) where
  -- there is a connection exactly where there is an account, and it stands for that, between its turns
  abbrev pub IsSeatedAs : KeyAccount L → Option (Place L) → Type 0
  IsSeatedAs None None = Unit {0}
  IsSeatedAs None (Some place) = ⊥
  IsSeatedAs (Some account) None = ⊥
  IsSeatedAs (Some account) (Some place) = IsTrue place.seat.process.connection.is_open × SeatStands F M turns account.first account.own place.seat
      × (place.seat.link ≡ account.last) × (place.is_spent ≡ account.is_spent) × (account.in_turn ≡ 0)

  -- after these events each connection stands for its account
  abbrev pub AllStand : List (Event L) → Slab (Place L) → Type 0
  AllStand history seats = (key : ℕ) → IsSeatedAs (account_of key None history) (get seats key)

  -- The connections stay, whatever happened before: links come and go, and of that, with what was before, this is told.
  abbrev pub SeatsStay : (List (Event L) → List (Event L) → Type 0) → Slab (Place L) → Slab (Place L) → Type 0
  SeatsStay Tells old new = (history : List (Event L)) → AllStand history old
      → (more : List (Event L)) × AsksNone history more × AllStand (history ++ more) new × Tells history more

module _ (F : Framing) {S : Type 0} (A : Answering S) {L : Type 0} (M : PolledMeaning L) where
  -- Where the connection with this account had a turn that ended so, the service goes from one state to another. It stays, but where the
  -- connection is over for want of memory, or since a response is too long: that was asked last, and is told to nobody. One that waits asked
  -- its link, which was not ready.
  abbrev pub EndsSo : Account L → L → S → S → Turn → Type 0
  EndsSo account last old new Waiting = (new ≡ old) × Rose (M.not_ready account.last) (M.not_ready last)
  EndsSo account last old new Spent = new ≡ old
  EndsSo account last old new (Over result) = SeatEnds F A M.link turns account.first account.own last old new result

  -- The same, and the turn was within its limits: it took all that the connection was told since its turn before. One that was cut off took
  -- as many messages, or as many reads, as a turn may.
  abbrev pub EndsTurn : KeyAccount L → L → S → S → Turn → Type 0
  EndsTurn None last old new turn = ⊥
  EndsTurn (Some account) last old new turn = IsWithin M.link M.limits account.last last account.in_turn turn × EndsSo account last old new turn

  -- what an event after these does to the service
  abbrev pub Happens : List (Event L) → S → Event L → S → Type 0
  Happens earlier old (came key link) new = (account_of key None earlier ≡ None) × (new ≡ old)
  Happens earlier old (refused cause link) new = new ≡ old
  Happens earlier old (told key x) new = IsSome (account_of key None earlier) × GivesOutcome (λ slave. slave) A old x new
  Happens earlier old (turned key last turn) new = EndsTurn (account_of key None earlier) last old new turn
  Happens earlier old (dropped key) new = new ≡ old

  -- the service goes from one state to another over these events, which come after those
  abbrev pub RunsOn : List (Event L) → S → List (Event L) → S → Type 0
  RunsOn earlier old [] new = new ≡ old
  RunsOn earlier old (e ∷ es) new = (next : S) × Happens earlier old e next × RunsOn (earlier ++ e ∷ []) next es new

  -- One run of the service over all that happened brought it here, and each connection stands for its account.
  pub record AreSeated (start : S) (history : List (Event L)) (seats : Slab (Place L)) (service : S) : Type 0 where
    pub run : RunsOn [] start history service
    pub each : AllStand F M.link history seats

  -- The connections go on, whatever happened before: some more happens, and of all that, with what was before, this is told.
  abbrev pub SeatsGoOn : (List (Event L) → List (Event L) → Type 0) → Slab (Place L) → Slab (Place L) → S → S → Type 0
  SeatsGoOn Tells old new before after = (start : S) (history : List (Event L)) → AreSeated start history old before
      → (more : List (Event L)) × AreSeated start (history ++ more) new after × Tells history more

module _ {L : Type 0} where
  -- what the turn of a key is in a history: what its connection was told, and how it ended; nothing where there is no connection
  abbrev pub IsTurnOf : ℕ → Option Turn → List (Event L) → List (Event L) → Type 0
  IsTurnOf key None history more = (more ≡ []) × (account_of key None history ≡ None)
  IsTurnOf key (Some turn) history more = (fresh : List Said) × (last : L) × (more ≡ by_key key fresh ++ turned key last turn ∷ [])

  -- a link came under this key, or was dropped since memory was refused for its connection
  abbrev pub Admits : {E : Type 0} → L → Result ℕ E → List (Event L) → List (Event L) → Type 0
  Admits link (Ok key) history more = more ≡ came key link ∷ []
  Admits link (Err error) history more = more ≡ refused no_memory link ∷ []

  abbrev pub is_spent_at : Option (Place L) → Bool
  is_spent_at None = false
  is_spent_at (Some place) = place.is_spent

  -- the number of the last turn in which it moved
  abbrev pub last_at : Option (Place L) → ℕ
  last_at None = 0
  last_at (Some place) = place.last

  -- each connection is still there, or had a turn
  abbrev pub StaysOrTurns : List (Event L) → List (Event L) → Type 0
  StaysOrTurns history more = (key : ℕ) → IsSome (account_of key None history) → HasAnyTurn key more ⊎ IsSome (account_of key None (history ++ more))

  -- no connection was let go
  abbrev pub DropsNone : List (Event L) → Type 0
  DropsNone [] = Unit {0}
  DropsNone (dropped key ∷ more) = ⊥
  DropsNone (e ∷ more) = DropsNone more

  -- no link came, and no connection went but by its turn
  abbrev pub ServesInTurn : List (Event L) → List (Event L) → Type 0
  ServesInTurn history more = (links_of more ≡ []) × StaysOrTurns history more × DropsNone more

  -- the last turn of the connection under this key was cut off by its limits, and its link is not among those that were found ready
  abbrev pub IsLeft : List Ready → ℕ → Option (Place L) → Type 0
  IsLeft found key slot = IsTrue (is_spent_at slot) × (IsFound key found → ⊥)

  -- no link came, and no connection went but by its turn; the connection under a key had another turn exactly where it is left so, and no
  -- other had any
  abbrev pub TurnsIfLeft : List Ready → ℕ → Option (Place L) → List (Event L) → List (Event L) → Type 0
  TurnsIfLeft found key slot history more = ServesInTurn history more × (IsTrue (is_spent_at slot) → IsFound key found ⊎ HasAnyTurn key more)
      × TurnsAmong (λ k. (k ≡ key) × IsLeft found key slot) more

  -- The same of each connection: those whose last turn was cut off had another turn, but those whose links were found ready. No other had
  -- any, and none had two.
  abbrev pub ServesSpent : List Ready → Slab (Place L) → List (Event L) → List (Event L) → Type 0
  ServesSpent found old history more = ServesInTurn history more × ((key : ℕ) → IsTrue (is_spent_at (get old key)) → IsFound key found ⊎ HasAnyTurn key more)
      × TurnsAmong (λ key. IsLeft found key (get old key)) more

  -- a connection stays where it moved in a turn, or came, since this was last asked
  abbrev pub kept : Option (Place L) → Option (Place L)
  kept None = None
  kept (Some place) = if place.is_fresh then Some (record place { is_fresh = false }) else None

  -- a connection stays but where it was late already; it is late from then on where it began a message
  abbrev pub on_time : Option (Place L) → Option (Place L)
  on_time None = None
  on_time (Some place) = if is_late place.progress then None else Some (record place { progress = later place.progress })

  -- what is marked of the connection under a key in a turn with this number, where it goes on
  abbrev pub MarksAt : LinkMeaning L → ℕ → Bool → Option (Place L) → Option (Place L) → Type 0
  MarksAt M number completed (Some old) (Some new) = Marks M number completed old new
  MarksAt M number completed _ _ = Unit {0}

  -- a turn of the connection under a key takes few reads, where it goes on
  abbrev pub TakesFewAt : LinkMeaning L → ℕ → Option (Place L) → Option (Place L) → Type 0
  TakesFewAt M reads (Some old) (Some new) = TakesFew M reads old.seat.link new.seat.link
  TakesFewAt M reads _ _ = Unit {0}

  -- connections were let go, and nothing else happened
  abbrev pub IsDrop : List (Event L) → List (Event L) → Type 0
  IsDrop history [] = Unit {0}
  IsDrop history (dropped key ∷ more) = IsDrop history more
  IsDrop history (e ∷ more) = ⊥

-- where the last turn of a connection was cut off, it is known that one may be left
abbrev pub MarksLeft : {L : Type 0} → SeatsState L → Type 0
MarksLeft seats = (key : ℕ) → IsTrue (is_spent_at (get seats.seats key)) → IsTrue seats.has_spent

-- the same, where it was so before
abbrev pub KeepsMarks : {L : Type 0} → SeatsState L → SeatsState L → Type 0
KeepsMarks old new = MarksLeft old → MarksLeft new

-- where it is known that one may be left, the last turn of one was cut off
abbrev pub IsOneLeft : {L : Type 0} → SeatsState L → Type 0
IsOneLeft seats = IsTrue seats.has_spent → (key : ℕ) × IsTrue (is_spent_at (get seats.seats key))

-- those whose last turn was cut off are the same, and so is what is known of them
abbrev pub SameLeft : {L : Type 0} → SeatsState L → SeatsState L → Type 0
SameLeft old new = (new.has_spent ≡ old.has_spent) × ((key : ℕ) → is_spent_at (get new.seats key) ≡ is_spent_at (get old.seats key))
