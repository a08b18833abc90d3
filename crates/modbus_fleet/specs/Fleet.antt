-- What becomes of many devices, each under a key.
use Rattle.std.specs.Prelude.{◌≡◌, ◌≢◌, ℕ, ◌==◌, List, [], ◌∷◌, ◌++◌, Option, Some, None, Result, drop, if◌then◌else◌}
use Rattle.modbus_frame.specs.Meaning.{Asked}
use Rattle.modbus_frame.specs.declared.fault.Error.{Error}
use Rattle.modbus_client.specs.Protocol.{Protocol, Heading}
use Rattle.modbus_client.specs.Matches.{Answer}
use Rattle.slab.specs.Slab.{Slab, get}
use Rattle.modbus_ready.specs.declared.readiness.Ready.{Ready}
use Rattle.modbus_ready.specs.declared.readiness.Ready.TheVariants.{Peer, Link}
use Rattle.modbus_fleet.specs.declared.conversation.Stand.TheVariants.{Away, Idle}
use Rattle.modbus_fleet.specs.declared.fleet.Told.{Told}
use Rattle.modbus_fleet.specs.Device.{DeviceState, FleetMeaning, Begins, Polls, IsDue}

pub record FleetState (I L S : Type 0) : Type 0 where
  pub devices : Slab (DeviceState I L)
  pub readiness : S
  -- how many of those were taken that its last wait found
  pub taken : ℕ

abbrev pub answer_list : Option Answer → List Answer
answer_list None = []
answer_list (Some answer) = answer ∷ []

-- A device goes on by polls alone, one after another, and these are just the answers that they gave.
pub data Goes {H I L : Type 0} (m : FleetMeaning H L) (old : DeviceState I L) : List Answer → DeviceState I L → Type 0 where
  rests : Goes m old [] old
  polls : (mid new : DeviceState I L) (answers : List Answer) (told : Option Answer) → Goes m old answers mid → Polls m mid told new → Goes m old (answers ++ answer_list told) new

-- the same of what stands under a key; where no device is, none comes and nothing is told
abbrev pub GoesAt : {H I L : Type 0} → FleetMeaning H L → Option (DeviceState I L) → List Answer → Option (DeviceState I L) → Type 0
GoesAt m None answers None = answers ≡ []
GoesAt m None answers (Some new) = ⊥
GoesAt m (Some old) answers None = ⊥
GoesAt m (Some old) answers (Some new) = Goes m old answers new

-- what is told of the device under a key
abbrev pub answers_of : ℕ → Option Told → List Answer
answers_of key None = []
answers_of key (Some told) = if told.key == key then told.answer ∷ [] else []

-- Each device goes on by polls of its own call, over its own link, and what is told with its key is just what these answered.
abbrev pub EachGoes : {H I L : Type 0} → FleetMeaning H L → Slab (DeviceState I L) → Option Told → Slab (DeviceState I L) → Type 0
EachGoes m old told new = (key : ℕ) → GoesAt m (get old key) (answers_of key told) (get new key)

-- one poll of what stands under a key
abbrev pub PollsAt : {H I L : Type 0} → FleetMeaning H L → Option (DeviceState I L) → Option Answer → Option (DeviceState I L) → Type 0
PollsAt m None told new = (told ≡ None) × (new ≡ None)
PollsAt m (Some old) told None = ⊥
PollsAt m (Some old) told (Some new) = Polls m old told new

-- every other key has what it had
abbrev pub OthersStay : {X : Type 0} → ℕ → Slab X → Slab X → Type 0
OthersStay key old new = (other : ℕ) → other ≢ key → get new other ≡ get old other

-- the answer of such a poll, with the key of its device
abbrev pub told_at : ℕ → Option Answer → Option Told
told_at key None = None
told_at key (Some answer) = Some (record { key = key; answer = answer })

-- Of what was found ready one is taken: the device under the key of a link is polled once, and no other changes; a peer is nothing to it.
abbrev pub TakesReady : {H I L : Type 0} → FleetMeaning H L → Ready → Slab (DeviceState I L) → Option Told → Slab (DeviceState I L) → Type 0
TakesReady m Peer old told new = (told ≡ None) × (new ≡ old)
TakesReady m (Link key) old told new = (answer : Option Answer) × (told ≡ told_at key answer) × PollsAt m (get old key) answer (get new key) × OthersStay key old new

-- What was found ready is taken in order, until one answers, which is told, and the rest is left; or all of it, and none answered.
pub data TakesInTurn {H I L : Type 0} (m : FleetMeaning H L) : Slab (DeviceState I L) → List Ready → Option Told → List Ready → Slab (DeviceState I L) → Type 0 where
  none_left : (devices : Slab (DeviceState I L)) → TakesInTurn m devices [] None [] devices
  one_answers : (old new : Slab (DeviceState I L)) (ready : Ready) (left : List Ready) (told : Told) → TakesReady m ready old (Some told) new → TakesInTurn m old (ready ∷ left) (Some told) left new
  goes_on : (old mid new : Slab (DeviceState I L)) (ready : Ready) (rest left : List Ready) (told : Option Told) → TakesReady m ready old None mid → TakesInTurn m mid rest told left new → TakesInTurn m old (ready ∷ rest) told left new

-- what the last wait found ready and was not taken since
abbrev pub waiting : {I L S : Type 0} → (S → List Ready) → FleetState I L S → List Ready
waiting found fleet = drop fleet.taken (found fleet.readiness)

-- a call is begun there
abbrev pub BeginsAt : {H I L : Type 0} → Protocol H → Heading H I → Asked → ℕ → Option (DeviceState I L) → Option (Result (Unit {0}) Error) → Option (DeviceState I L) → Type 0
BeginsAt P N asked now None told new = (told ≡ None) × (new ≡ None)
BeginsAt P N asked now (Some old) told None = ⊥
BeginsAt P N asked now (Some old) told (Some new) = Begins P N asked now old told new

-- a device under a key has a new link, on which nothing was sent
abbrev pub with_link : {I L : Type 0} → L → Option (DeviceState I L) → Option (DeviceState I L)
with_link link None = None
with_link link (Some device) = Some (record device { stand = Idle link })

-- the next requests of a device under a key go to this slave
abbrev pub of_slave : {I L : Type 0} → ℕ → Option (DeviceState I L) → Option (DeviceState I L)
of_slave slave None = None
of_slave slave (Some device) = Some (record device { slave = slave })

-- a call is under way under a key that is to be given up at this time
abbrev pub IsDueAt : {I L : Type 0} → ℕ → Option (DeviceState I L) → Type 0
IsDueAt now None = ⊥
IsDueAt now (Some device) = IsDue now device.stand

-- it is given up, with its link
abbrev pub given_up : {I L : Type 0} → Option (DeviceState I L) → Option (DeviceState I L)
given_up None = None
given_up (Some device) = Some (record device { stand = Away })

-- Of the devices whose calls are to be given up at this time one is, which is told by its key, and no other changes. None is told exactly
-- where there is none, and then all stay as they are.
abbrev pub ExpiresOne : {I L : Type 0} → ℕ → Slab (DeviceState I L) → Option ℕ → Slab (DeviceState I L) → Type 0
ExpiresOne now old (Some key) new = IsDueAt now (get old key) × (get new key ≡ given_up (get old key)) × OthersStay key old new
ExpiresOne now old None new = (key : ℕ) → (IsDueAt now (get old key) → ⊥) × (get new key ≡ get old key)
