-- What happens to the connections of one thread, in order, and what that says of the connection under each key.
use Rattle.std.specs.Prelude.{◌≡◌, ◌⊎◌, ℕ, ◌+◌, ◌==◌, List, [], ◌∷◌, ◌++◌, map, Option, Some, None, Bool, true, false, if◌then◌else◌}
use Rattle.modbus_link.specs.Memory.{next_count}
use Rattle.modbus_ready.specs.declared.peered.PeerAddress.{PeerAddress}
use Rattle.modbus_hub.specs.declared.progress.Progress.{Progress}
use Rattle.modbus_hub.specs.declared.turn.Turn.{Turn}
use Rattle.modbus_hub.specs.declared.turn.Turn.TheVariants.{Waiting, Spent, Over}
use Rattle.modbus_hub.specs.Turn.{Said}
use Rattle.modbus_hub.specs.Turn.{SeatState}

-- why a link that came is dropped at once
pub data Refusal : Type 0 where
  -- the source of readiness can't watch it
  no_watch : Refusal
  -- memory is refused for its connection
  no_memory : Refusal
  -- its address has as many connections as one may have
  no_share : Refusal

pub data Event (L : Type 0) : Type 0 where
  -- this link came, as a connection under this key
  came : ℕ → L → Event L
  -- this link came, and was dropped at once for this
  refused : Refusal → L → Event L
  -- the service told this to the connection under this key
  told : ℕ → Said → Event L
  -- a turn of the connection under this key ended so, with its link as it was then; that of one that is over is dropped
  turned : ℕ → L → Turn → Event L
  -- the connection under this key was let go, since it had been idle or late, or gave way to another
  dropped : ℕ → Event L

-- a connection as its seat keeps it
pub record Place (L : Type 0) : Type 0 where
  pub seat : SeatState L
  -- whether it moved in a turn, or came, since that was last asked
  pub is_fresh : Bool
  -- whether its last turn was cut off by its limits
  pub is_spent : Bool
  -- how far it is with its next message
  pub progress : Progress
  -- the number of the last turn in which it moved
  pub last : ℕ
  -- the address of its peer, as it came
  pub peer : PeerAddress

-- The account of a connection: the link with which it came, all that it was told since, how many messages that is since its last turn
-- ended, its link after that, and whether that was cut off by its limits.
pub record Account (L : Type 0) : Type 0 where
  pub first : L
  pub own : List Said
  pub in_turn : ℕ
  pub last : L
  pub is_spent : Bool

-- one that came with this link
abbrev pub begun_with : {L : Type 0} → L → Account L
begun_with link = record { first = link; own = []; in_turn = 0; last = link; is_spent = false }

-- of a key: none where there is no connection
abbrev pub KeyAccount : Type 0 → Type 0
KeyAccount L = Option (Account L)

-- it was told this too
abbrev pub told_more : {L : Type 0} → Said → KeyAccount L → KeyAccount L
told_more x None = None
told_more x (Some account) = Some (record account { own = account.own ++ x ∷ []; in_turn = account.in_turn + 1 })

-- its turn left this link
abbrev pub left_with : {L : Type 0} → L → Bool → KeyAccount L → KeyAccount L
left_with link spent None = None
left_with link spent (Some account) = Some (record account { in_turn = 0; last = link; is_spent = spent })

-- a connection that is over has no account any more
abbrev pub after_turn : {L : Type 0} → L → Turn → KeyAccount L → KeyAccount L
after_turn link Waiting account = left_with link false account
after_turn link Spent account = left_with link true account
after_turn link (Over result) account = None

abbrev pub account_after : {L : Type 0} → ℕ → KeyAccount L → Event L → KeyAccount L
account_after key account (came j link) = if j == key then Some (begun_with link) else account
account_after key account (refused cause link) = account
account_after key account (told j x) = if j == key then told_more x account else account
account_after key account (turned j link turn) = if j == key then after_turn link turn account else account
account_after key account (dropped j) = if j == key then None else account

-- the account of a key after these events
abbrev pub account_of : {L : Type 0} → ℕ → KeyAccount L → List (Event L) → KeyAccount L
account_of key account [] = account
account_of key account (e ∷ es) = account_of key (account_after key account e) es

-- all this was told to the connection under a key
abbrev pub by_key : {L : Type 0} → ℕ → List Said → List (Event L)
by_key {L} key xs = map (λ (x : Said). let e : Event L = told key x in e) xs

-- the connection under a key had a turn
abbrev pub HasAnyTurn : {L : Type 0} → ℕ → List (Event L) → Type 0
HasAnyTurn {L} key events = (earlier later : List (Event L)) × (link : L) × (turn : Turn) × (events ≡ earlier ++ turned key link turn ∷ later)

-- how many turns the connections under a key had
abbrev pub turns_of : {L : Type 0} → ℕ → List (Event L) → ℕ
turns_of key [] = 0
turns_of key (came j link ∷ es) = turns_of key es
turns_of key (refused cause link ∷ es) = turns_of key es
turns_of key (told j x ∷ es) = turns_of key es
turns_of key (turned j link turn ∷ es) = if j == key then turns_of key es + 1 else turns_of key es
turns_of key (dropped j ∷ es) = turns_of key es

-- no connections had a turn but those under such keys, and each of these one
abbrev pub TurnsAmong : {L : Type 0} → (ℕ → Type 0) → List (Event L) → Type 0
TurnsAmong P events = (key : ℕ) → (turns_of key events ≡ 0) ⊎ (P key × (turns_of key events ≡ 1))

-- the links that came, in order
abbrev pub links_of : {L : Type 0} → List (Event L) → List L
links_of [] = []
links_of (came key link ∷ es) = link ∷ links_of es
links_of (refused cause link ∷ es) = link ∷ links_of es
links_of (told key x ∷ es) = links_of es
links_of (turned key link turn ∷ es) = links_of es
links_of (dropped key ∷ es) = links_of es

-- a counter after an event, which counts each link that is dropped at once for this
abbrev pub counted_if : {L : Type 0} → Refusal → Event L → ℕ → ℕ
counted_if no_watch (refused no_watch link) count = next_count count
counted_if no_memory (refused no_memory link) count = next_count count
counted_if no_share (refused no_share link) count = next_count count
counted_if cause e count = count

-- the same after these events
abbrev pub counted_over : {L : Type 0} → Refusal → List (Event L) → ℕ → ℕ
counted_over cause [] count = count
counted_over cause (e ∷ es) count = counted_over cause es (counted_if cause e count)
