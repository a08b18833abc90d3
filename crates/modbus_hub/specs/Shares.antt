-- How many connections are of one address.
use Rattle.std.specs.Prelude.{◌≡◌, ◌≢◌, ◌⊎◌, ℕ, zero, suc, ◌+◌, ◌==◌, ◌<◌, ◌≤◌, Option, Some, None, Bool, false, if◌then◌else◌, IsTrue}
use Rattle.slab.specs.Slab.{Slab, Updates, get}
use Rattle.modbus_ready.specs.declared.peered.PeerAddress.{PeerAddress}
use Rattle.modbus_hub.specs.Events.{Place}

module _ {L : Type 0} where
  -- there is a connection, and it is of this address
  abbrev pub is_of : PeerAddress → Option (Place L) → Bool
  is_of peer None = false
  is_of peer (Some place) = place.peer.bits == peer.bits

  -- how many connections under the keys below one are of this address
  abbrev pub share_below : ℕ → PeerAddress → Slab (Place L) → ℕ
  share_below zero peer seats = 0
  share_below (suc key) peer seats = share_below key peer seats + (if is_of peer (get seats key) then 1 else 0)

  -- so many connections are of this address, under all keys
  abbrev pub IsShare : PeerAddress → Slab (Place L) → ℕ → Type 0
  IsShare peer seats share = ((below : ℕ) × (share ≡ share_below below peer seats)) × ((below : ℕ) → share_below below peer seats ≤ share)

  -- this address has as many as one may have
  abbrev pub HasShare : ℕ → PeerAddress → Slab (Place L) → Type 0
  HasShare most peer seats = (below : ℕ) × (most ≤ share_below below peer seats)

  -- it has fewer
  abbrev pub LacksShare : ℕ → PeerAddress → Slab (Place L) → Type 0
  LacksShare most peer seats = (below : ℕ) → share_below below peer seats < most

  -- no address has more than one may have
  abbrev pub HaveFew : ℕ → Slab (Place L) → Type 0
  HaveFew most seats = (peer : PeerAddress) (below : ℕ) → share_below below peer seats ≤ most

  -- each connection is one that was there before, of the same address
  abbrev pub NoNewPeers : Slab (Place L) → Slab (Place L) → Type 0
  NoNewPeers old new = (key : ℕ) (peer : PeerAddress) → IsTrue (is_of peer (get new key)) → IsTrue (is_of peer (get old key))

  -- the same, but that one of this address may have come
  abbrev pub OneJoins : PeerAddress → Slab (Place L) → Slab (Place L) → Type 0
  OneJoins peer old new = NoNewPeers old new ⊎ (
      (key : ℕ) × (place : Place L) × (place.peer ≡ peer) × (get old key ≡ None) × Updates old new key (Some place)
      )

  -- no connection came or went under another key than this
  abbrev pub ComesUnder : Option ℕ → Slab (Place L) → Slab (Place L) → Type 0
  ComesUnder own old new = (key : ℕ) → own ≢ Some key → get new key ≡ get old key
