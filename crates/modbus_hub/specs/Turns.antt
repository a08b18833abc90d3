-- What a server of many connections on one thread does, round by round.
use Rattle.std.specs.Prelude.{◌≡◌, ◌⊎◌, ℕ, ◌≤◌, ◌==◌, nat_le, nat_lt, ◌&&◌, ◌||◌, if◌then◌else◌, List, [], ◌∷◌, ◌++◌, length, Option, Some, None, IsSome, Result, Ok, Err, Bool, true, false, IsTrue}
use Rattle.modbus_link.specs.declared.outside.Failed.{Failed}
use Rattle.modbus_link.specs.declared.polled.Polled.{Polled}
use Rattle.slab.specs.Slab.{Slab, get, slab_len}
use Rattle.modbus_ready.specs.declared.readiness.Ready.{Ready}
use Rattle.modbus_ready.specs.declared.readiness.Ready.TheVariants.{Peer}
use Rattle.modbus_hub.specs.Accepts.{GivesLinks, GivesUntil, IsNobody, IsFault}
use Rattle.modbus_ready.specs.declared.peered.PeerAddress.{PeerAddress}
use Rattle.modbus_hub.specs.declared.losses.Losses.{Losses}
use Rattle.modbus_hub.specs.Losses.{SameGone, SameRefused, more_gave_way, more_late}
use Rattle.modbus_hub.specs.Shares.{HasShare, LacksShare}
use Rattle.modbus_hub.specs.Events.{Event, Place, refused, no_watch, no_memory, no_share, account_of, HasAnyTurn, TurnsAmong, links_of, counted_over}
use Rattle.modbus_link.specs.Memory.{next_count}
use Rattle.modbus_hub.specs.declared.sweeps.Deadlines.{Deadlines}
use Rattle.modbus_hub.specs.Sweeps.{Reading, Sweeps, all_looked, begun_with, is_due, shorter_of, stays_if}
use Rattle.modbus_hub.specs.Seats.{SeatsState, DropsNone, IsDrop, IsFound, IsLeft, IsOneLeft, IsTold, KeepsMarks, ServesInTurn, is_spent_at, kept, on_time}
use Rattle.modbus_hub.specs.Idlest.{LeavesIdlest}

-- a server over such an acceptor and source of readiness, with such links
pub record ServerState (A S L : Type 0) : Type 0 where
  pub acceptor : A
  pub readiness : S
  pub seats : SeatsState L
  -- how many links were dropped at once, and connections let go, by the cause
  pub losses : Losses
  -- whether a peer may wait to be accepted
  pub is_asked : Bool
  -- whether as many peers were accepted in the last round as are accepted in a round
  pub is_crowded : Bool

-- a round, as the state that it left, when it is looked next who is to be let go, and what happened in it
pub record Round (A S L : Type 0) : Type 0 where
  pub left : ServerState A S L
  pub sweeps : Sweeps
  pub happened : List (Event L)

-- how many peers are accepted in a round at most
abbrev pub accepts_a_round : ℕ
accepts_a_round = 64

-- after how many nanoseconds an accept that failed is tried again
abbrev pub retry : ℕ
retry = 50_000_000

-- a peer may wait, and there are fewer connections than there may be
abbrev pub can_accept : {A S L : Type 0} → ServerState A S L → Bool
can_accept it = it.is_asked && nat_lt (slab_len it.seats.seats) it.seats.places.connections

-- no place is left for a peer that comes
abbrev pub is_full : {L : Type 0} → ℕ → Slab (Place L) → Bool
is_full most seats = nat_le most (slab_len seats)

-- the same, or the last accept failed since the process has as many files open as it may
abbrev pub wants_room : {A S L : Type 0} → (A → Bool) → ServerState A S L → Bool
wants_room lacks it = is_full it.seats.places.connections it.seats.seats || lacks it.acceptor

-- The connection that has not moved for longest is let go, and counted; all others stay.
abbrev pub LeavesOne : {A S L : Type 0} → ServerState A S L → ServerState A S L → Type 0
LeavesOne old new = LeavesIdlest old.seats.seats new.seats.seats × (new.losses ≡ more_gave_way (slab_len old.seats.seats) (slab_len new.seats.seats) old.losses)

-- Where no place or no file is left for a peer that comes it is so. Else all stay, and nothing is counted.
abbrev pub GivesWay : {A S L : Type 0} → (A → Bool) → ServerState A S L → ServerState A S L → Type 0
GivesWay lacks old new = (IsTrue (wants_room lacks old) × LeavesOne old new)
    ⊎ ((wants_room lacks old ≡ false) × ((key : ℕ) → get new.seats.seats key ≡ get old.seats.seats key) × (new.losses ≡ old.losses))

-- Late connections are let go where that is due, and counted, and no others.
abbrev pub LateGo : {A S L : Type 0} → Bool → ServerState A S L → ServerState A S L → Type 0
LateGo late old new = ((key : ℕ) → get new.seats.seats key ≡ stays_if late on_time (get old.seats.seats key))
    × (new.losses ≡ (if late then more_late (slab_len old.seats.seats) (slab_len new.seats.seats) old.losses else old.losses))

-- Idle connections are let go where that is due, and no others; nothing is counted.
abbrev pub IdleGo : {A S L : Type 0} → Bool → ServerState A S L → ServerState A S L → Type 0
IdleGo idle old new = ((key : ℕ) → get new.seats.seats key ≡ stays_if idle kept (get old.seats.seats key)) × (new.losses ≡ old.losses)

-- Both, one behind the other, under the same limits.
abbrev pub Swept : {A S L : Type 0} → Bool → Bool → ServerState A S L → ServerState A S L → Type 0
Swept {A} {S} {L} idle late old new = (between : ServerState A S L) × IdleGo idle old between × LateGo late between new × (new.seats.places ≡ old.seats.places)

-- Idle connections are let go and late ones, each where that is due, and no others; and then one where no place or no file is left.
abbrev pub Went : {A S L : Type 0} → (A → Bool) → Bool → Bool → ServerState A S L → ServerState A S L → Type 0
Went {A} {S} {L} lacks idle late old new = (between : ServerState A S L) × Swept idle late old between × (between.acceptor ≡ old.acceptor)
    × GivesWay lacks between new

-- How long a wait may take that is to take so many nanoseconds, or any time: none where a connection is left whose last turn was cut off,
-- or more peers can be accepted than were in a round; and not past the next try where an accept failed.
abbrev pub patience_of : {A S L : Type 0} → ServerState A S L → Option ℕ → Option ℕ
patience_of it timeout =
    if it.seats.has_spent then Some 0 else if can_accept it then Some (if it.is_crowded then 0 else shorter_of timeout retry) else timeout

-- a peer was found to wait
abbrev pub IsPeerFound : List Ready → Type 0
IsPeerFound [] = ⊥
IsPeerFound (ready ∷ found) = (ready ≡ Peer) ⊎ IsPeerFound found

-- each connection whose link was found ready had a turn
abbrev pub TurnsFound : {L : Type 0} → List Ready → List (Event L) → List (Event L) → Type 0
TurnsFound found history more = (key : ℕ) → IsFound key found → IsSome (account_of key None history) → HasAnyTurn key more

-- the same, no link came, and no connection went but by its turn; no other had a turn, and none had two
abbrev pub ServesFound : {L : Type 0} → List Ready → List (Event L) → List (Event L) → Type 0
ServesFound found history more = ServesInTurn history more × TurnsFound found history more × TurnsAmong (λ key. IsFound key found) more

-- where this is told after those, the same of the link that it tells of, unless they told of it
abbrev pub ServesNext : {L : Type 0} → List Ready → Ready → List (Event L) → List (Event L) → Type 0
ServesNext earlier ready history more = ServesInTurn history more
    × (IsTold earlier ready ⊎ TurnsFound (ready ∷ []) history more)
    × TurnsAmong (λ key. IsFound key (ready ∷ []) × (IsTold earlier ready → ⊥)) more

-- each connection whose last turn was cut off had another turn
abbrev pub TurnsLeft : {L : Type 0} → SeatsState L → List (Event L) → Type 0
TurnsLeft seats more = IsTrue seats.has_spent → (key : ℕ) → IsTrue (is_spent_at (get seats.seats key)) → HasAnyTurn key more

-- The same, but of those whose links were found ready. No link came, and no connection went but by its turn; no other had a turn, and none
-- had two.
abbrev pub ServesLeft : {L : Type 0} → List Ready → SeatsState L → List (Event L) → List (Event L) → Type 0
ServesLeft found seats history more = ServesInTurn history more
    × (IsTrue seats.has_spent → (key : ℕ) → IsTrue (is_spent_at (get seats.seats key)) → IsFound key found ⊎ HasAnyTurn key more)
    × TurnsAmong (λ key. IsLeft found key (get seats.seats key)) more

-- the link under this key was found ready, or the last turn of its connection had been cut off
abbrev pub IsDue : {L : Type 0} → List Ready → SeatsState L → ℕ → Type 0
IsDue found seats key = IsFound key found ⊎ IsTrue (is_spent_at (get seats.seats key))

-- Each link that was dropped at once is counted, by its cause: by the source of readiness, with its other faults, where it could not be
-- watched; and by the server, with nothing else, where memory was refused for its connection, or its address had its share.
pub record CountsDrops {A S L : Type 0} (faults : S → ℕ) (old new : ServerState A S L) (more : List (Event L)) : Type 0 where
  pub watch : counted_over no_watch more (faults old.readiness) ≤ faults new.readiness
  pub memory : new.losses.memory ≡ counted_over no_memory more old.losses.memory
  pub share : new.losses.share ≡ counted_over no_share more old.losses.share

-- this link came, and no other; it is a connection, or its cause is counted
pub record Brings {A S L : Type 0} (faults : S → ℕ) (link : L) (old new : ServerState A S L) (history more : List (Event L)) : Type 0 where
  pub links : links_of more ≡ link ∷ []
  pub counts : CountsDrops faults old new more
  pub none : DropsNone more
  pub gone : SameGone old.losses new.losses

-- this link was refused since its address had its share
abbrev pub IsCrowdedOut : {A S L : Type 0} → L → ServerState A S L → ServerState A S L → List (Event L) → Type 0
IsCrowdedOut link old new more = (more ≡ refused no_share link ∷ []) × (new ≡ record old { losses = record old.losses { share = next_count old.losses.share } })

-- A link of a peer of this address came: where the address has its share, the link is refused for that, and nothing else changes; else it is
-- refused for nothing of the kind.
pub record BringsPeer {A S L : Type 0} (faults : S → ℕ) (peer : PeerAddress) (link : L) (old new : ServerState A S L) (history more : List (Event L)) : Type 0 where
  pub brings : Brings faults link old new history more
  pub share : (HasShare old.seats.places.per_peer peer old.seats.seats × IsCrowdedOut link old new more)
      ⊎ (LacksShare old.seats.places.per_peer peer old.seats.seats × (new.losses.share ≡ old.losses.share))

module _ {A S L : Type 0} (accepts : A → Result (Polled L) Failed → A → Type 0) (faults : S → ℕ) where
  -- Of what happened, the links that came are just those that the acceptor gave, in order, and each is a connection then, or its cause is
  -- counted.
  pub record Comes (old new : ServerState A S L) (history more : List (Event L)) : Type 0 where
    pub gives : GivesLinks accepts old.acceptor (links_of more) new.acceptor
    pub counts : CountsDrops faults old new more

  -- the same, and no connection was let go, or is counted so
  abbrev pub PeersCome : ServerState A S L → ServerState A S L → List (Event L) → List (Event L) → Type 0
  PeersCome old new history more = Comes old new history more × DropsNone more × SameGone old.losses new.losses

  -- Peers were accepted until nobody waits. Or another may wait still, since there are as many connections as there may be, the acceptor
  -- failed, or as many links came as may in a round.
  abbrev pub AcceptsWaiting : ServerState A S L → ServerState A S L → List (Event L) → Type 0
  AcceptsWaiting old new more = GivesUntil IsNobody accepts old.acceptor (links_of more) new.acceptor ⊎ (
      IsTrue new.is_asked
      × ((new.seats.places.connections ≤ slab_len new.seats.seats) ⊎ GivesUntil IsFault accepts old.acceptor (links_of more) new.acceptor ⊎ (length (links_of more) ≡ accepts_a_round))
      )

  -- peers came, no more than may in a round, with whether it was as many; where one may wait they were accepted so
  abbrev pub AcceptsUpTo : Bool → ServerState A S L → ServerState A S L → List (Event L) → List (Event L) → Type 0
  AcceptsUpTo is_crowded old new history more = PeersCome old new history more × (length (links_of more) ≤ accepts_a_round)
      × (is_crowded ≡ (length (links_of more) == accepts_a_round)) × (IsTrue old.is_asked → AcceptsWaiting old new more)

  -- the same, and it is kept whether it was as many
  abbrev pub AcceptsAsked : ServerState A S L → ServerState A S L → List (Event L) → List (Event L) → Type 0
  AcceptsAsked old new history more = AcceptsUpTo new.is_crowded old new history more

  -- one came, and another may wait as before; or none came
  abbrev pub AcceptsNext : Bool → ServerState A S L → ServerState A S L → List (Event L) → List (Event L) → Type 0
  AcceptsNext true old new history more = PeersCome old new history more × (length (links_of more) ≡ 1) × (new.is_asked ≡ old.is_asked)
  AcceptsNext false old new history more = PeersCome old new history more × (links_of more ≡ []) × (IsTrue old.is_asked → AcceptsWaiting old new more)

  -- One round, at whose beginning these were found ready.
  pub record ServesRound (found : List Ready) (old new : ServerState A S L) (history more : List (Event L)) : Type 0 where
    -- the links that came are just those that the acceptor gave, and none was let go
    pub come : PeersCome old new history more
    -- each connection whose last turn was cut off had another turn, and so had each whose link was found ready
    pub left : TurnsLeft old.seats more
    pub told : TurnsFound found history more
    -- no other had a turn, and none had two
    pub once : TurnsAmong (λ key. IsDue found old.seats key) more
    -- where one may be left whose last turn was cut off, there is one
    pub one_left : IsOneLeft new.seats
    -- no more peers came than may in a round, and it is kept whether it was as many
    pub few : length (links_of more) ≤ accepts_a_round
    pub crowded : new.is_crowded ≡ (length (links_of more) == accepts_a_round)
    -- where a peer may have waited before, or was found to, peers were accepted until none waits, or another may wait still
    pub waits : IsTrue old.is_asked ⊎ IsPeerFound found → AcceptsWaiting old new more

  -- a round; one that fails is none
  abbrev pub TakesRound : (S → List Ready) → ServerState A S L → ServerState A S L → Result (Unit {0}) Failed → List (Event L) → List (Event L) → Type 0
  TakesRound found old new (Ok done) history more = ServesRound (found new.readiness) old new history more
  TakesRound found old new (Err failed) history more = (more ≡ []) × (new.acceptor ≡ old.acceptor) × (new.losses ≡ old.losses)

  -- connections were let go, and nothing else changed but their counts
  abbrev pub LetsGo : ServerState A S L → ServerState A S L → List (Event L) → List (Event L) → Type 0
  LetsGo old new history more = IsDrop history more × (new.acceptor ≡ old.acceptor) × (new.readiness ≡ old.readiness) × SameRefused old.losses new.losses × (new.is_asked ≡ old.is_asked)
      × (new.is_crowded ≡ old.is_crowded)

  -- A round, and then, by the next reading of the clock, idle and late connections were let go, where that was due, and one where no place or
  -- no file was left, and no others; what is left stays marked.
  pub record RoundAndDrops (found : S → List Ready) (lacks : A → Bool) (sweeps sweeps' : Sweeps) (old new : ServerState A S L) (history more : List (Event L)) : Type 0 where
    pub now : ServerState A S L
    pub taken : List (Event L)
    pub gone : List (Event L)
    pub both : more ≡ taken ++ gone
    pub round : TakesRound found old now (Ok tt) history taken
    pub lets_go : LetsGo now new (history ++ taken) gone
    pub marks : KeepsMarks old.seats new.seats
    pub next : sweeps'.last.number ≡ next_count sweeps.last.number
    pub looked : sweeps' ≡ all_looked sweeps sweeps'.last
    pub went : Went lacks (is_due sweeps.idle sweeps'.last.at) (is_due sweeps.late sweeps'.last.at) now new

  -- such rounds, one after another
  abbrev pub GoesByRounds : (S → List Ready) → (A → Bool) → List (Round A S L) → Sweeps → ServerState A S L → ServerState A S L → List (Event L) → List (Event L) → Type 0
  GoesByRounds found lacks [] sweeps old new history more = (more ≡ []) × (new ≡ old)
  GoesByRounds found lacks (round ∷ rounds) sweeps old new history more = (later : List (Event L)) × (more ≡ round.happened ++ later)
      × RoundAndDrops found lacks sweeps round.sweeps old round.left history round.happened
      × GoesByRounds found lacks rounds round.sweeps round.left new (history ++ round.happened) later

  -- one that may have failed, and the links that came
  abbrev pub TellsRound : (S → List Ready) → (A → Bool) → Sweeps → Sweeps → ServerState A S L → ServerState A S L → Result (Unit {0}) Failed → List (Event L) → List (Event L) → Type 0
  TellsRound found lacks sweeps sweeps' old new (Ok done) history more = Comes old new history more × RoundAndDrops found lacks sweeps sweeps' old new history more
  TellsRound found lacks sweeps sweeps' old new (Err failed) history more = Comes old new history more × TakesRound found old new (Err failed) history more

  -- rounds one after another, of which the last may have failed, and the links that came; the time of these deadlines ran from a first reading
  -- of the clock on
  abbrev pub TellsRounds : {R : Type 0} → (S → List Ready) → (A → Bool) → Deadlines → ServerState A S L → ServerState A S L → Result R Failed → List (Event L) → List (Event L) → Type 0
  TellsRounds found lacks deadlines old new (Ok done) history more = Comes old new history more
      × ((first : Reading) × (first.number ≡ 1) × (rounds : List (Round A S L)) × GoesByRounds found lacks rounds (begun_with deadlines first) old new history more)
  TellsRounds found lacks deadlines old new (Err failed) history more = Comes old new history more
      × ((first : Reading) × (first.number ≡ 1) × (rounds : List (Round A S L)) × (last : ServerState A S L)
      × GoesByRounds found lacks rounds (begun_with deadlines first) old last history more × TakesRound found last new (Err failed) (history ++ more) [])
