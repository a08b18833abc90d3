-- How many connections are of one address.
use Rattle.std.proofs.Common.{◌≡◌, ◌≢◌, ◌⊎◌, inl, inr, ℕ, zero, suc, ◌+◌, ◌==◌, ◌<◌, ◌≤◌, Bool, true, false, IsTrue, Option, Some, None, IsSome, length, refl, sym, ap, ◌∙◌, subst, ne_eqb, arith}
use Rattle.std.proofs.lemmas.Bool.{cases_eq}
use Rattle.std.proofs.Math.Nat.{le_trans}
use Rattle.std.specs.Prelude.{if◌then◌else◌}
use Rattle.slab.specs.Slab.{Slab, Updates, get}
use Rattle.slab.proofs.SlabLemmas.{ContainsKey-within}
use Rattle.modbus_ready.specs.declared.peered.PeerAddress.{PeerAddress}
use Rattle.modbus_hub.specs.declared.seats.Places.{Places}
use Rattle.modbus_hub.specs.Events.{Place}
use Rattle.modbus_hub.specs.Seats.{SeatsState, KeepsFew}
use Rattle.modbus_hub.specs.Shares.{HaveFew, IsShare, LacksShare, NoNewPeers, OneJoins, is_of, share_below}

no_both : (b : Bool) → b ≡ false → b ≡ true → ⊥
no_both b e f = cc

le_both : (a b c d : ℕ) → a ≤ b → c ≤ d → a + c ≤ b + d
le_both a b c d first second = omega (arith, first, second)

le_one : (a b c d : ℕ) → a ≤ b → c ≤ d + 1 → a + c ≤ b + d + 1
le_one a b c d first second = omega (arith, first, second)

le_later : (a b c d : ℕ) → a ≤ b + 1 → c ≤ d → a + c ≤ b + d + 1
le_later a b c d first second = omega (arith, first, second)

same_sum : (a b c d : ℕ) → a ≡ b → c ≡ d → a + c ≡ b + d
same_sum a b c d first second = omega (arith, first, second)

le_step : (a b : ℕ) → a ≤ a + b
le_step a b = omega arith

le_none : (a b c : ℕ) → a ≤ b → c ≤ 0 → a + c ≤ b
le_none a b c first second = omega (arith, first, second)

le_or : (a b : ℕ) → (a ≤ b) ⊎ (suc b ≤ a)
le_or zero b = inl (omega arith)
le_or (suc a) zero = inr (omega arith)
le_or (suc a) (suc b) =
    elim (le_or a b) [
      | inl less ↦ inl (omega (arith, less))
      | inr more ↦ inr (omega (arith, more))
    ]

plus_one : (n : ℕ) → suc n ≡ n + 1
plus_one n = omega arith

ones : (a b : Bool) → (IsTrue a → IsTrue b) → (if a then 1 else 0) ≤ (if b then 1 else 0)
ones false true says = omega arith
ones false false says = omega arith
ones true true says = omega arith
ones true false says = absurd (no_both false refl (says refl))

one_most : (a b : Bool) → (if a then 1 else 0) ≤ (if b then 1 else 0) + 1
one_most false true = omega arith
one_most false false = omega arith
one_most true true = omega arith
one_most true false = omega arith

module _ {L : Type 0} where
  pub peers_both : (a b c : Slab (Place L)) → NoNewPeers a b → NoNewPeers b c → NoNewPeers a c
  peers_both a b c first second key peer is = first key peer (second key peer is)

  -- all connections but one are as they were
  pub peers_at : (olds news : Slab (Place L)) (key : ℕ) → ((other : ℕ) → other ≢ key → get news other ≡ get olds other)
      → ((peer : PeerAddress) → IsTrue (is_of peer (get news key)) → IsTrue (is_of peer (get olds key))) → NoNewPeers olds news
  peers_at olds news key others here k peer is =
      elim (cases_eq k key) [
        | inl same ↦
            subst (λ (n : ℕ). IsTrue (is_of peer (get olds n))) (sym same) (here peer (subst (λ (n : ℕ). IsTrue (is_of peer (get news n))) same is))
        | inr differs ↦ subst (λ (slot : Option (Place L)). IsTrue (is_of peer slot)) (others k differs) is
      ]

  -- all are as they were
  pub peers_as : (olds news : Slab (Place L)) → ((key : ℕ) → get news key ≡ get olds key) → NoNewPeers olds news
  peers_as olds news same key peer is = subst (λ (slot : Option (Place L)). IsTrue (is_of peer slot)) (same key) is

  -- that one is gone
  pub peers_gone : (olds news : Slab (Place L)) (key : ℕ) → Updates olds news key None → NoNewPeers olds news
  peers_gone olds news key u =
      peers_at olds news key u.others (λ peer is. absurd (no_both false refl (subst (λ (slot : Option (Place L)). IsTrue (is_of peer slot)) u.changed is)))

  of_same : (peer : PeerAddress) (place now : Place L) → now.peer ≡ place.peer → IsTrue (is_of peer (Some now)) → IsTrue (is_of peer (Some place))
  of_same peer place now same is = subst (λ (p : PeerAddress). IsTrue (p.bits == peer.bits)) same is

  -- that one is still of its address
  pub peers_stay : (olds news : Slab (Place L)) (key : ℕ) (place now : Place L) → get olds key ≡ Some place → now.peer ≡ place.peer → Updates olds news key (Some now)
      → NoNewPeers olds news
  peers_stay olds news key place now here same u =
      peers_at olds news key u.others
      (λ peer is.
      subst (λ (slot : Option (Place L)). IsTrue (is_of peer slot)) (sym here)
      (of_same peer place now same (subst (λ (slot : Option (Place L)). IsTrue (is_of peer slot)) u.changed is)))

  share_le : (peer : PeerAddress) (old new : Slab (Place L)) → ((key : ℕ) → IsTrue (is_of peer (get new key)) → IsTrue (is_of peer (get old key))) → (below : ℕ)
      → share_below below peer new ≤ share_below below peer old
  share_le peer old new says zero = omega arith
  share_le peer old new says (suc key) =
      le_both (share_below key peer new) (share_below key peer old) (if is_of peer (get new key) then 1 else 0) (if is_of peer (get old key) then 1 else 0)
      (share_le peer old new says key) (ones (is_of peer (get new key)) (is_of peer (get old key)) (says key))

  pub few_kept : (most : ℕ) (old new : Slab (Place L)) → NoNewPeers old new → HaveFew most old → HaveFew most new
  few_kept most old new none few peer below = le_trans (share_le peer old new (λ key. none key peer) below) (few peer below)

  pub few_after : (a b : SeatsState L) → b.places ≡ a.places → NoNewPeers a.seats b.seats → KeepsFew a b
  few_after a b same none few = subst (λ (p : Places). HaveFew p.per_peer b.seats) (sym same) (few_kept a.places.per_peer a.seats b.seats none few)

  -- one of any address joins
  module _ (peer : PeerAddress) (old new : Slab (Place L)) (key : ℕ) (others : (other : ℕ) → other ≢ key → get new other ≡ get old other) where
    same_other : (k : ℕ) → k ≢ key → (if is_of peer (get new k) then 1 else 0) ≤ (if is_of peer (get old k) then 1 else 0)
    same_other k differs =
        ones (is_of peer (get new k)) (is_of peer (get old k)) (λ is. subst (λ (slot : Option (Place L)). IsTrue (is_of peer slot)) (others k differs) is)

    joined_low : (below : ℕ) → below ≤ key → share_below below peer new ≤ share_below below peer old
    joined_low zero low = omega arith
    joined_low (suc k) low =
        le_both (share_below k peer new) (share_below k peer old) (if is_of peer (get new k) then 1 else 0) (if is_of peer (get old k) then 1 else 0)
        (joined_low k (omega (arith, low))) (same_other k (λ e. omega (arith, low, e)))

    joined : (below : ℕ) → share_below below peer new ≤ share_below below peer old + 1
    joined zero = omega arith
    joined (suc k) =
        elim (cases_eq k key) [
          | inl same ↦
              le_one (share_below k peer new) (share_below k peer old) (if is_of peer (get new k) then 1 else 0) (if is_of peer (get old k) then 1 else 0)
              (joined_low k (omega (arith, same))) (one_most (is_of peer (get new k)) (is_of peer (get old k)))
          | inr differs ↦
              le_later (share_below k peer new) (share_below k peer old) (if is_of peer (get new k) then 1 else 0) (if is_of peer (get old k) then 1 else 0)
              (joined k) (same_other k differs)
        ]

  same_of : (peer other : PeerAddress) → peer.bits ≡ other.bits → (slot : Option (Place L)) → is_of peer slot ≡ is_of other slot
  same_of peer other e None = refl
  same_of peer other e (Some place) = ap (λ (n : ℕ). place.peer.bits == n) e

  same_share : (peer other : PeerAddress) → peer.bits ≡ other.bits → (seats : Slab (Place L)) (below : ℕ) → share_below below peer seats ≡ share_below below other seats
  same_share peer other e seats zero = refl
  same_share peer other e seats (suc k) =
      same_sum (share_below k peer seats) (share_below k other seats) (if is_of peer (get seats k) then 1 else 0) (if is_of other (get seats k) then 1 else 0)
      (same_share peer other e seats k) (ap (λ (b : Bool). if b then 1 else 0) (same_of peer other e (get seats k)))

  -- an address that has fewer than one may have has no more than that with one more
  pub few_joined : (most : ℕ) (peer : PeerAddress) (old new : Slab (Place L)) → OneJoins peer old new → LacksShare most peer old → HaveFew most old → HaveFew most new
  few_joined most peer old new (inl none) lacks few other below = few_kept most old new none few other below
  few_joined most peer old new (inr (key, place, same, vacant, u)) lacks few other below =
      elim (cases_eq place.peer.bits other.bits) [
        | inl e ↦
            let more = joined other old new key u.others below in
            let less = lacks below in
            let sames = same_share peer other (sym (ap (λ (p : PeerAddress). p.bits) same) ∙ e) old below in
            omega (arith, more, less, sames)
        | inr differs ↦
            let unlike : IsTrue (is_of other (Some place)) → ⊥ = λ is. no_both (place.peer.bits == other.bits) (ne_eqb place.peer.bits other.bits differs) is in
            le_trans (share_le other old new (λ k is.
            elim (cases_eq k key) [
              | inl at ↦ absurd (unlike (subst (λ (slot : Option (Place L)). IsTrue (is_of other slot)) u.changed (subst (λ (n : ℕ). IsTrue (is_of other (get new n))) at is)))
              | inr apart ↦ subst (λ (slot : Option (Place L)). IsTrue (is_of other slot)) (u.others k apart) is
            ]) below) (few other below)
      ]

  -- beyond all keys there is none
  some_if_of : (peer : PeerAddress) (slot : Option (Place L)) → IsTrue (is_of peer slot) → IsSome slot
  some_if_of peer None is = absurd (no_both false refl is)
  some_if_of peer (Some place) is = refl

  module _ (peer : PeerAddress) (seats : Slab (Place L)) where
    share_up : (below k : ℕ) → k ≤ below → share_below k peer seats ≤ share_below below peer seats
    share_up zero zero low = omega arith
    share_up zero (suc k) low = absurd (omega (arith, low))
    share_up (suc m) k low =
        elim (cases_eq k (suc m)) [
          | inl same ↦ let e = ap (λ (n : ℕ). share_below n peer seats) same in omega (arith, e)
          | inr differs ↦ le_trans (share_up m k (omega (arith, low, differs))) (le_step (share_below m peer seats) (if is_of peer (get seats m) then 1 else 0))
        ]

    share_all : (room : ℕ) → length seats.slots ≤ room → (below : ℕ) → share_below below peer seats ≤ share_below room peer seats
    share_all room all zero = omega arith
    share_all room all (suc k) =
        elim (le_or room k) [
          | inl past ↦
              le_none (share_below k peer seats) (share_below room peer seats) (if is_of peer (get seats k) then 1 else 0) (share_all room all k)
              (ones (is_of peer (get seats k)) false
              (λ is. let within = ContainsKey-within seats k (some_if_of peer (get seats k) is) in absurd (omega (arith, within, all, past))))
          | inr low ↦ share_up room (suc k) low
        ]

    pub share_next : (key share one : ℕ) → one ≡ (if is_of peer (get seats key) then 1 else 0) → share ≡ share_below key peer seats
        → share + one ≡ share_below (key + 1) peer seats
    share_next key share one is e =
        subst (λ (n : ℕ). share + one ≡ share_below n peer seats) (plus_one key)
        (same_sum share (share_below key peer seats) one (if is_of peer (get seats key) then 1 else 0) e is)

    pub is_share : (room share : ℕ) → length seats.slots ≤ room → share ≡ share_below room peer seats → IsShare peer seats share
    is_share room share all e = ((room, e), λ below. subst (λ (n : ℕ). share_below below peer seats ≤ n) (sym e) (share_all room all below))
