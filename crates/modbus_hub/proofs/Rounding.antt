-- One round after another, and the links that came in them.
use Rattle.std.proofs.Common.{◌≡◌, ◌⊎◌, inl, inr, ℕ, List, [], ◌∷◌, ◌++◌, Option, Some, None, IsSome, Result, Ok, Err, Bool, true, false, IsTrue, ◌≤◌, ◌<◌, ◌+◌, ◌==◌, length, refl, sym, ap, ◌∙◌, subst, arith, length-append, eq-eqb, ne_eqb, take, drop, get_or}
use Rattle.std.proofs.lemmas.List.{take-append-drop, take_more}
use Rattle.std.proofs.Math.Nat.{le_trans, le_refl}
use Rattle.modbus_link.specs.Memory.{next_count}
use Rattle.modbus_link.specs.declared.outside.Failed.{Failed}
use Rattle.modbus_link.specs.declared.polled.Polled.{Polled}
use Rattle.modbus_link.specs.declared.polled.Polled.TheVariants as polled
use Rattle.modbus_hub.specs.declared.turn.Turn.{Turn}
use Rattle.modbus_hub.specs.Accepts.{with_given, GivesByPolls, GivesLinks, EndsIn, GivesUntil, IsNobody, IsFault}
use Rattle.modbus_ready.specs.declared.readiness.Ready.{Ready}
use Rattle.modbus_ready.specs.declared.readiness.Ready.TheVariants.{Peer, Link}
use Rattle.modbus_hub.specs.declared.losses.Losses.{Losses}
use Rattle.modbus_hub.specs.Losses.{SameGone, SameRefused}
use Rattle.modbus_hub.specs.Events.{Event, Place, Refusal, no_watch, no_memory, no_share, came, refused, told, turned, dropped, KeyAccount, account_of, by_key, HasAnyTurn, TurnsAmong, links_of, counted_if, counted_over}
use Rattle.slab.specs.Slab.{get}
use Rattle.modbus_link.specs.Line.{LinkMeaning}
use Rattle.modbus_server.specs.Framing.{Framing}
use Rattle.modbus_hub.specs.Seats.{SeatsState, AllStand, AsksNone, IsTurnOf, DropsNone, ServesInTurn, IsDrop, IsFound, IsLeft, IsOneLeft, IsTold, is_spent_at}
use Rattle.modbus_hub.specs.Turns.{ServerState, IsPeerFound, IsDue, TurnsFound, TurnsLeft, ServesFound, ServesNext, CountsDrops, Brings, ServesLeft, PeersCome, Comes, AcceptsWaiting, AcceptsUpTo, AcceptsAsked, AcceptsNext, TakesRound, accepts_a_round}
use Rattle.modbus_hub.proofs.Histories.{among_as, among_both, links_more, none_both, turn_among, turn_before, turn_after, turns_aside, stays_none, serves_both, turn_serves}
use Rattle.modbus_hub.proofs.Seating.{there_if_spent}

counted_up : (a b : ℕ) → a ≤ b → next_count a ≤ next_count b
counted_up a b h = grind (arith)

-- a server of these parts
abbrev pub state : {A S L : Type 0} → A → S → SeatsState L → Losses → Bool → Bool → ServerState A S L
state acceptor readiness seats losses is_asked is_crowded =
    record { acceptor = acceptor; readiness = readiness; seats = seats; losses = losses; is_asked = is_asked; is_crowded = is_crowded }

no_link : (key : ℕ) → Peer ≡ Link key → ⊥
no_link key e = cc

pub found_in : (key : ℕ) (first second : List Ready) → IsFound key (first ++ second) → IsFound key first ⊎ IsFound key second
found_in key [] second is = inr is
found_in key (ready ∷ first) second (inl e) = inl (inl e)
found_in key (ready ∷ first) second (inr is) =
    elim (found_in key first second is) [
      | inl there ↦ inl (inr there)
      | inr there ↦ inr there
    ]

-- those that were found, with others
pub found_before : (key : ℕ) (first second : List Ready) → IsFound key first → IsFound key (first ++ second)
found_before key [] second is = absurd is
found_before key (ready ∷ first) second (inl e) = inl e
found_before key (ready ∷ first) second (inr is) = inr (found_before key first second is)

pub found_after : (key : ℕ) (first second : List Ready) → IsFound key second → IsFound key (first ++ second)
found_after key [] second is = is
found_after key (ready ∷ first) second is = inr (found_after key first second is)

pub link_key : (j key : ℕ) → Link j ≡ Link key → j ≡ key
link_key j key e = cc

-- one tells of a link, and so does one before it
told_of : (key : ℕ) (earlier : List Ready) (ready : Ready) → IsFound key (ready ∷ []) → IsFound key earlier → IsTold earlier ready
told_of key earlier Peer (inl e) early = absurd (no_link key e)
told_of key earlier (Link j) (inl e) early = subst (λ (n : ℕ). IsFound n earlier) (sym (link_key j key e)) early
told_of key earlier ready (inr never) early = absurd never

found_told : (key : ℕ) (earlier : List Ready) (ready : Ready) → IsFound key (ready ∷ []) → IsTold earlier ready → IsFound key earlier
found_told key earlier Peer is tells = absurd tells
found_told key earlier (Link j) (inl e) tells = subst (λ (n : ℕ). IsFound n earlier) (link_key j key e) tells
found_told key earlier (Link j) (inr never) tells = absurd never

-- one that is told of at a place
pub found_at : (key : ℕ) (found : List Ready) (index : ℕ) → index < length found → get_or found index Peer ≡ Link key → IsFound key found
found_at key found index low e =
    subst (λ (l : List Ready). IsFound key l) (take-append-drop (index + 1) found)
    (found_before key (take (index + 1) found) (drop (index + 1) found)
    (subst (λ (l : List Ready). IsFound key l) (sym (take_more found index Peer low)) (found_after key (take index found) (get_or found index Peer ∷ []) (inl e))))

-- where it is not at a place either
pub found_more : (key : ℕ) (found : List Ready) (index : ℕ) → index < length found → (IsFound key (take index found) → ⊥) → (get_or found index Peer ≡ Link key → ⊥)
    → IsFound key (take (index + 1) found) → ⊥
found_more key found index low before here is =
    elim (found_in key (take index found) (get_or found index Peer ∷ []) (subst (λ (l : List Ready). IsFound key l) (take_more found index Peer low) is)) [
      | inl there ↦ before there
      | inr there ↦
          elim there [
            | inl e ↦ here e
            | inr never ↦ never
          ]
    ]

pub peer_in : (first second : List Ready) → IsPeerFound (first ++ second) → IsPeerFound first ⊎ IsPeerFound second
peer_in [] second is = inr is
peer_in (ready ∷ first) second (inl e) = inl (inl e)
peer_in (ready ∷ first) second (inr is) =
    elim (peer_in first second is) [
      | inl there ↦ inl (inr there)
      | inr there ↦ inr there
    ]

module _ {L : Type 0} where
  not_some : (account : KeyAccount L) → account ≡ None → IsSome account → ⊥
  not_some None e is = cc
  not_some (Some account) e is = cc

  -- a connection that was found ready has its turn
  pub found_turn : (key : ℕ) (turn : Option Turn) (history more : List (Event L)) → IsTurnOf key turn history more → ServesFound (Link key ∷ []) history more
  found_turn key None history more (none, account) = (
    turn_serves key None history more (none, account),
    λ k is here.
        elim is [
          | inl e ↦ let same : k ≡ key = cc in absurd (not_some (account_of k None history) (subst (λ (n : ℕ). account_of n None history ≡ None) (sym same) account) here)
          | inr never ↦ absurd never
        ],
    among_as (λ k. k ≡ key) (λ k. IsFound k (Link key ∷ [])) more (turn_among key None history more (none, account)) (λ k e. inl (ap Link (sym e))),
  )
  found_turn key (Some turn) history more (fresh, last, e) = (
    turn_serves key (Some turn) history more (fresh, last, e),
    λ k is here.
        elim is [
          | inl same ↦ let there : k ≡ key = cc in subst (λ (n : ℕ). HasAnyTurn n more) (sym there) (by_key key fresh, [], last, turn, e)
          | inr never ↦ absurd never
        ],
    among_as (λ k. k ≡ key) (λ k. IsFound k (Link key ∷ [])) more (turn_among key (Some turn) history more (fresh, last, e)) (λ k f. inl (ap Link (sym f))),
  )

  pub found_peer : (history : List (Event L)) → ServesFound (Peer ∷ []) history []
  found_peer history = (
    (refl, stays_none history, tt),
    λ key is here.
        elim is [
          | inl e ↦ absurd (no_link key e)
          | inr never ↦ absurd never
        ],
    λ key. inl refl,
  )

  pub found_nothing : (history : List (Event L)) → ServesFound [] history []
  found_nothing history = ((refl, stays_none history, tt), λ key is here. absurd is, λ key. inl refl)

  turns_next : (earlier : List Ready) (ready : Ready) (history xs ys : List (Event L)) → ServesInTurn history xs → TurnsFound earlier history xs
      → IsTold earlier ready ⊎ TurnsFound (ready ∷ []) (history ++ xs) ys → TurnsFound (earlier ++ ready ∷ []) history (xs ++ ys)
  turns_next earlier ready history xs ys serves had has key is here =
      elim (found_in key earlier (ready ∷ []) is) [
        | inl there ↦ turn_after key xs ys (had key there here)
        | inr there ↦
            elim has [
              | inl tells ↦ turn_after key xs ys (had key (found_told key earlier ready there tells) here)
              | inr turns ↦
                  elim (serves.1 key here) [
                    | inl went ↦ turn_after key xs ys went
                    | inr stays ↦ turn_before key xs ys (turns key there stays)
                  ]
            ]
      ]

  -- those that were found, and then the next
  pub found_next : (earlier : List Ready) (ready : Ready) (history xs ys : List (Event L)) → ServesFound earlier history xs → ServesNext earlier ready (history ++ xs) ys
      → ServesFound (earlier ++ ready ∷ []) history (xs ++ ys)
  found_next earlier ready history xs ys first second = (
    serves_both history xs ys first.0 second.0,
    turns_next earlier ready history xs ys first.0 first.1 second.1,
    among_both (λ key. IsFound key earlier) (λ key. IsFound key (ready ∷ []) × (IsTold earlier ready → ⊥)) (λ key. IsFound key (earlier ++ ready ∷ []))
        xs ys first.2 second.2
        (λ key is. found_before key earlier (ready ∷ []) is)
        (λ key is. found_after key earlier (ready ∷ []) is.0)
        (λ key is next. next.1 (told_of key earlier ready next.0 is)),
  )

  -- the next tells of a link that was told of before, or of none that was
  pub next_told : (earlier : List Ready) (ready : Ready) (history : List (Event L)) → IsTold earlier ready → ServesNext earlier ready history []
  next_told earlier ready history tells = ((refl, stays_none history, tt), inl tells, λ key. inl refl)

  pub next_untold : (earlier : List Ready) (ready : Ready) (history more : List (Event L)) → (IsTold earlier ready → ⊥) → ServesFound (ready ∷ []) history more
      → ServesNext earlier ready history more
  next_untold earlier ready history more untold serves = (
    serves.0,
    inr serves.1,
    among_as (λ key. IsFound key (ready ∷ [])) (λ key. IsFound key (ready ∷ []) × (IsTold earlier ready → ⊥)) more serves.2 (λ key is. (is, untold)),
  )

  -- a connection is as it was, unless it was found
  pub others_next : (earlier : List Ready) (ready : Ready) (key : ℕ) (a b c : Option (Place L)) → IsFound key earlier ⊎ (b ≡ a) → IsFound key (ready ∷ []) ⊎ (c ≡ b)
      → IsFound key (earlier ++ ready ∷ []) ⊎ (c ≡ a)
  others_next earlier ready key a b c first second =
      elim first [
        | inl is ↦ inl (found_before key earlier (ready ∷ []) is)
        | inr same ↦
            elim second [
              | inl is ↦ inl (found_after key earlier (ready ∷ []) is)
              | inr still ↦ inr (still ∙ same)
            ]
      ]

  -- a round before the peers are accepted
  abbrev pub ServesDue : SeatsState L → List Ready → List (Event L) → List (Event L) → Type 0
  ServesDue seats found history more = ServesInTurn history more × TurnsLeft seats more × TurnsFound found history more × TurnsAmong (λ key. IsDue found seats key) more

  module _ (F : Framing) (M : LinkMeaning L) (seats now : SeatsState L) (found : List Ready) (stays : IsTrue seats.has_spent → IsTrue now.has_spent)
      (others : (key : ℕ) → IsFound key found ⊎ (get now.seats key ≡ get seats.seats key)) where
    pub due_both : (history xs ys : List (Event L)) → ServesFound found history xs × AllStand F M history seats.seats → ServesLeft found now (history ++ xs) ys
        → ServesDue seats found history (xs ++ ys)
    due_both history xs ys first second =
        let had : (key : ℕ) → IsTrue (is_spent_at (get seats.seats key)) → IsFound key found → HasAnyTurn key (xs ++ ys) =
        λ key spent is. turn_after key xs ys (first.0.1 key is (there_if_spent F M (account_of key None history) (get seats.seats key) (first.1 key) spent)) in (
          serves_both history xs ys first.0.0 second.0,
          λ known key spent.
              elim (others key) [
                | inl is ↦ had key spent is
                | inr same ↦
                    elim (second.1 (stays known) key (subst (λ (slot : Option (Place L)). IsTrue (is_spent_at slot)) (sym same) spent)) [
                      | inl is ↦ had key spent is
                      | inr went ↦ turn_before key xs ys went
                    ]
              ],
          λ key is here. turn_after key xs ys (first.0.1 key is here),
          among_both (λ key. IsFound key found) (λ key. IsLeft found key (get now.seats key)) (λ key. IsDue found seats key) xs ys first.0.2 second.2
              (λ key is. inl is)
              (λ key left.
              elim (others key) [
                | inl is ↦ inl is
                | inr same ↦ inr (subst (λ (slot : Option (Place L)). IsTrue (is_spent_at slot)) same left.0)
              ])
              (λ key is left. left.1 is),
        )

  pub drops_links : (history more : List (Event L)) → IsDrop history more → links_of more ≡ []
  drops_links history [] s = refl
  drops_links history (dropped key ∷ more) s = drops_links history more s
  drops_links history (came key link ∷ more) s = absurd s
  drops_links history (refused cause link ∷ more) s = absurd s
  drops_links history (told key x ∷ more) s = absurd s
  drops_links history (turned key link turn ∷ more) s = absurd s

  pub counted_more : (cause : Refusal) (xs ys : List (Event L)) (count : ℕ) → counted_over cause (xs ++ ys) count ≡ counted_over cause ys (counted_over cause xs count)
  counted_more cause [] ys count = refl
  counted_more cause (x ∷ xs) ys count = counted_more cause xs ys (counted_if cause x count)

  -- where no link came none was dropped
  pub counted_none : (cause : Refusal) (xs : List (Event L)) (count : ℕ) → links_of xs ≡ [] → counted_over cause xs count ≡ count
  counted_none cause [] count none = refl
  counted_none cause (came key link ∷ xs) count none = absurd (cc)
  counted_none cause (refused other link ∷ xs) count none = absurd (cc)
  counted_none no_watch (told key x ∷ xs) count none = counted_none no_watch xs count none
  counted_none no_memory (told key x ∷ xs) count none = counted_none no_memory xs count none
  counted_none no_share (told key x ∷ xs) count none = counted_none no_share xs count none
  counted_none no_watch (turned key link turn ∷ xs) count none = counted_none no_watch xs count none
  counted_none no_memory (turned key link turn ∷ xs) count none = counted_none no_memory xs count none
  counted_none no_share (turned key link turn ∷ xs) count none = counted_none no_share xs count none
  counted_none no_watch (dropped key ∷ xs) count none = counted_none no_watch xs count none
  counted_none no_memory (dropped key ∷ xs) count none = counted_none no_memory xs count none
  counted_none no_share (dropped key ∷ xs) count none = counted_none no_share xs count none

  counts_up : (cause : Refusal) (x : Event L) (a b : ℕ) → a ≤ b → counted_if cause x a ≤ counted_if cause x b
  counts_up no_watch (refused no_watch link) a b h = counted_up a b h
  counts_up no_memory (refused no_memory link) a b h = counted_up a b h
  counts_up no_watch (refused no_memory link) a b h = h
  counts_up no_memory (refused no_watch link) a b h = h
  counts_up no_watch (came key link) a b h = h
  counts_up no_memory (came key link) a b h = h
  counts_up no_watch (told key x) a b h = h
  counts_up no_memory (told key x) a b h = h
  counts_up no_watch (turned key link turn) a b h = h
  counts_up no_memory (turned key link turn) a b h = h
  counts_up no_watch (dropped key) a b h = h
  counts_up no_memory (dropped key) a b h = h
  counts_up no_share (refused no_share link) a b h = counted_up a b h
  counts_up no_watch (refused no_share link) a b h = h
  counts_up no_memory (refused no_share link) a b h = h
  counts_up no_share (refused no_watch link) a b h = h
  counts_up no_share (refused no_memory link) a b h = h
  counts_up no_share (came key link) a b h = h
  counts_up no_share (told key x) a b h = h
  counts_up no_share (turned key link turn) a b h = h
  counts_up no_share (dropped key) a b h = h

  -- a counter that was further on is further on afterwards
  pub counted_on : (cause : Refusal) (xs : List (Event L)) (a b : ℕ) → a ≤ b → counted_over cause xs a ≤ counted_over cause xs b
  counted_on cause [] a b h = h
  counted_on cause (x ∷ xs) a b h = counted_on cause xs (counted_if cause x a) (counted_if cause x b) (counts_up cause x a b h)

pub same_refused : (a b : Losses) → b ≡ a → SameRefused a b
same_refused a b same = (ap (λ (l : Losses). l.memory) same, ap (λ (l : Losses). l.share) same)

pub same_gone : (a b : Losses) → b ≡ a → SameGone a b
same_gone a b same = (ap (λ (l : Losses). l.late) same, ap (λ (l : Losses). l.gave_way) same)

pub gone_both : (a b c : Losses) → SameGone a b → SameGone b c → SameGone a c
gone_both a b c first second = (second.0 ∙ first.0, second.1 ∙ first.1)

module _ {A S L : Type 0} (faults : S → ℕ) where
  pub counts_both : (a b c : ServerState A S L) (xs ys : List (Event L)) → CountsDrops faults a b xs → CountsDrops faults b c ys → CountsDrops faults a c (xs ++ ys)
  counts_both a b c xs ys first second = record {
    watch = subst (λ (n : ℕ). n ≤ faults c.readiness) (sym (counted_more no_watch xs ys (faults a.readiness)))
        (le_trans (counted_on no_watch ys (counted_over no_watch xs (faults a.readiness)) (faults b.readiness) first.watch) second.watch);
    memory = second.memory ∙ ap (λ (n : ℕ). counted_over no_memory ys n) first.memory ∙ sym (counted_more no_memory xs ys a.losses.memory);
    share = second.share ∙ ap (λ (n : ℕ). counted_over no_share ys n) first.share ∙ sym (counted_more no_share xs ys a.losses.share);
  }

  -- where no link came each count is as it was, or further on
  pub counts_none : (a b : ServerState A S L) (more : List (Event L)) → links_of more ≡ [] → faults a.readiness ≤ faults b.readiness → SameRefused a.losses b.losses → CountsDrops faults a b more
  counts_none a b more none later same = record {
    watch = subst (λ (n : ℕ). n ≤ faults b.readiness) (sym (counted_none no_watch more (faults a.readiness) none)) later;
    memory = same.0 ∙ sym (counted_none no_memory more a.losses.memory none);
    share = same.1 ∙ sym (counted_none no_share more a.losses.share none);
  }

  -- a link that came is a connection
  pub brings_seat : (a b : ServerState A S L) (key : ℕ) (link : L) (history more : List (Event L)) → faults a.readiness ≤ faults b.readiness → b.losses ≡ a.losses
      → more ≡ came key link ∷ [] → Brings faults link a b history more
  brings_seat a b key link history more later count e = record {
    links = ap links_of e;
    counts = record {
      watch = subst (λ (l : List (Event L)). counted_over no_watch l (faults a.readiness) ≤ faults b.readiness) (sym e) later;
      memory = subst (λ (l : List (Event L)). b.losses.memory ≡ counted_over no_memory l a.losses.memory) (sym e) (ap (λ (l : Losses). l.memory) count);
      share = subst (λ (l : List (Event L)). b.losses.share ≡ counted_over no_share l a.losses.share) (sym e) (ap (λ (l : Losses). l.share) count);
    };
    none = subst (λ (l : List (Event L)). DropsNone l) (sym e) tt;
    gone = same_gone a.losses b.losses count;
  }

  -- one that could not be watched
  pub brings_unwatched : (a b : ServerState A S L) (link : L) (history more : List (Event L)) → next_count (faults a.readiness) ≤ faults b.readiness → b.losses ≡ a.losses
      → more ≡ refused no_watch link ∷ [] → Brings faults link a b history more
  brings_unwatched a b link history more rose count e = record {
    links = ap links_of e;
    counts = record {
      watch = subst (λ (l : List (Event L)). counted_over no_watch l (faults a.readiness) ≤ faults b.readiness) (sym e) rose;
      memory = subst (λ (l : List (Event L)). b.losses.memory ≡ counted_over no_memory l a.losses.memory) (sym e) (ap (λ (l : Losses). l.memory) count);
      share = subst (λ (l : List (Event L)). b.losses.share ≡ counted_over no_share l a.losses.share) (sym e) (ap (λ (l : Losses). l.share) count);
    };
    none = subst (λ (l : List (Event L)). DropsNone l) (sym e) tt;
    gone = same_gone a.losses b.losses count;
  }

  -- one for which memory was refused
  pub brings_unseated : (a b : ServerState A S L) (link : L) (history more : List (Event L)) → faults a.readiness ≤ faults b.readiness → b.losses.memory ≡ next_count a.losses.memory
      → b.losses.share ≡ a.losses.share → SameGone a.losses b.losses → more ≡ refused no_memory link ∷ [] → Brings faults link a b history more
  brings_unseated a b link history more later count same gone e = record {
    links = ap links_of e;
    counts = record {
      watch = subst (λ (l : List (Event L)). counted_over no_watch l (faults a.readiness) ≤ faults b.readiness) (sym e) later;
      memory = subst (λ (l : List (Event L)). b.losses.memory ≡ counted_over no_memory l a.losses.memory) (sym e) count;
      share = subst (λ (l : List (Event L)). b.losses.share ≡ counted_over no_share l a.losses.share) (sym e) same;
    };
    none = subst (λ (l : List (Event L)). DropsNone l) (sym e) tt;
    gone = gone;
  }

  -- one whose address had its share
  pub brings_crowded : (a b : ServerState A S L) (link : L) (history more : List (Event L)) → faults a.readiness ≤ faults b.readiness → b.losses.memory ≡ a.losses.memory
      → b.losses.share ≡ next_count a.losses.share → SameGone a.losses b.losses → more ≡ refused no_share link ∷ [] → Brings faults link a b history more
  brings_crowded a b link history more later same count gone e = record {
    links = ap links_of e;
    counts = record {
      watch = subst (λ (l : List (Event L)). counted_over no_watch l (faults a.readiness) ≤ faults b.readiness) (sym e) later;
      memory = subst (λ (l : List (Event L)). b.losses.memory ≡ counted_over no_memory l a.losses.memory) (sym e) same;
      share = subst (λ (l : List (Event L)). b.losses.share ≡ counted_over no_share l a.losses.share) (sym e) count;
    };
    none = subst (λ (l : List (Event L)). DropsNone l) (sym e) tt;
    gone = gone;
  }

module _ {A L : Type 0} (accepts : A → Result (Polled L) Failed → A → Type 0) where
  pub none_given : (a : A) → GivesLinks accepts a [] a
  none_given a = ([], (refl, refl))

  given_more : (poll : Result (Polled L) Failed) (later ys : List L) → with_given poll later ++ ys ≡ with_given poll (later ++ ys)
  given_more (Ok (polled.Ready link)) later ys = refl
  given_more (Ok polled.Pending) later ys = refl
  given_more (Err failed) later ys = refl

  pub gives_both : (a b c : A) (polls : List (Result (Polled L) Failed)) (xs ys : List L) → GivesByPolls accepts a polls xs b → GivesLinks accepts b ys c → GivesLinks accepts a (xs ++ ys) c
  gives_both a b c [] xs ys (none, same) second =
      subst (λ (l : List L). GivesLinks accepts a (l ++ ys) c) (sym none) (subst (λ (x : A). GivesLinks accepts x ys c) same second)
  gives_both a b c (poll ∷ polls) xs ys (next, later, accepted, e, rest) second =
      let on = gives_both next b c polls later ys rest second in
      (poll ∷ on.0, (next, later ++ ys, accepted, ap (λ (l : List L). l ++ ys) e ∙ given_more poll later ys, on.1))

  ends_on : (P : Result (Polled L) Failed → Type 0) (poll : Result (Polled L) Failed) (polls : List (Result (Polled L) Failed)) → EndsIn P polls → EndsIn P (poll ∷ polls)
  ends_on P poll [] ends = absurd ends
  ends_on P poll (next ∷ later) ends = ends

  -- some polls, and then others until one is such a one
  gives_until : (P : Result (Polled L) Failed → Type 0) (a b c : A) (polls : List (Result (Polled L) Failed)) (xs ys : List L) → GivesByPolls accepts a polls xs b → GivesUntil P accepts b ys c
      → GivesUntil P accepts a (xs ++ ys) c
  gives_until P a b c [] xs ys (none, same) second =
      subst (λ (l : List L). GivesUntil P accepts a (l ++ ys) c) (sym none) (subst (λ (x : A). GivesUntil P accepts x ys c) same second)
  gives_until P a b c (poll ∷ polls) xs ys (next, later, accepted, e, rest) second =
      let on = gives_until P next b c polls later ys rest second in
      (poll ∷ on.0, (next, later ++ ys, accepted, ap (λ (l : List L). l ++ ys) e ∙ given_more poll later ys, on.1), ends_on P poll on.0 on.2)

module _ {A S L : Type 0} (accepts : A → Result (Polled L) Failed → A → Type 0) (faults : S → ℕ) where
  abbrev Server : Type 0
  Server = ServerState A S L

  abbrev Came : Server → Server → List (Event L) → List (Event L) → Type 0
  Came a b history more = Comes accepts faults a b history more

  abbrev Accepted : Server → Server → List (Event L) → List (Event L) → Type 0
  Accepted a b history more = PeersCome accepts faults a b history more

  pub comes_both : (a b c : Server) (history xs ys : List (Event L)) → Came a b history xs → Came b c (history ++ xs) ys → Came a c history (xs ++ ys)
  comes_both a b c history xs ys first second = record {
    gives = subst (λ (l : List L). GivesLinks accepts a.acceptor l c.acceptor) (sym (links_more xs ys))
        (gives_both accepts a.acceptor b.acceptor c.acceptor first.gives.0 (links_of xs) (links_of ys) first.gives.1 second.gives);
    counts = counts_both faults a b c xs ys first.counts second.counts;
  }

  pub accepts_both : (a b c : Server) (history xs ys : List (Event L)) → Accepted a b history xs → Accepted b c (history ++ xs) ys → Accepted a c history (xs ++ ys)
  accepts_both a b c history xs ys first second = (
    comes_both a b c history xs ys first.0 second.0,
    none_both xs ys first.1 second.1,
    gone_both a.losses b.losses c.losses first.2 second.2,
  )

  -- where no link came the acceptor is as it was
  pub none_come : (a b : Server) (history more : List (Event L)) → b.acceptor ≡ a.acceptor → faults a.readiness ≤ faults b.readiness → SameRefused a.losses b.losses → links_of more ≡ []
      → Came a b history more
  none_come a b history more same later count none = record {
    gives = subst (λ (l : List L). GivesLinks accepts a.acceptor l b.acceptor) (sym none)
        (subst (λ (x : A). GivesLinks accepts a.acceptor [] x) (sym same) (none_given accepts a.acceptor));
    counts = counts_none faults a b more none later count;
  }

  -- one poll
  pub brings : (a now b : Server) (link : L) (history more : List (Event L)) → accepts a.acceptor (Ok (polled.Ready link)) now.acceptor → b.acceptor ≡ now.acceptor
      → faults now.readiness ≡ faults a.readiness → now.losses ≡ a.losses → Brings faults link now b history more → Came a b history more
  brings a now b link history more accepted same later count e = record {
    gives = subst (λ (x : A). GivesLinks accepts a.acceptor (links_of more) x) (sym same) (Ok (polled.Ready link) ∷ [], (now.acceptor, [], accepted, e.links, (refl, refl)));
    counts = record {
      watch = subst (λ (n : ℕ). counted_over no_watch more n ≤ faults b.readiness) later e.counts.watch;
      memory = subst (λ (n : ℕ). b.losses.memory ≡ counted_over no_memory more n) (ap (λ (l : Losses). l.memory) count) e.counts.memory;
      share = subst (λ (n : ℕ). b.losses.share ≡ counted_over no_share more n) (ap (λ (l : Losses). l.share) count) e.counts.share;
    };
  }

  pub nobody : (a b : Server) (history : List (Event L)) (poll : Result (Polled L) Failed) → with_given poll [] ≡ [] → accepts a.acceptor poll b.acceptor
      → faults a.readiness ≤ faults b.readiness → SameRefused a.losses b.losses → Came a b history []
  nobody a b history poll none accepted later count = record {
    gives = (poll ∷ [], (b.acceptor, [], accepted, sym none, (refl, refl)));
    counts = counts_none faults a b [] refl later count;
  }

  -- peers came, and then they were accepted until nobody waits, or another may wait still
  waits_after : (a now b : Server) (history xs ys : List (Event L)) → Came a now history xs
      → (length (links_of ys) ≡ accepts_a_round → length (links_of (xs ++ ys)) ≡ accepts_a_round) → AcceptsWaiting accepts faults now b ys
      → AcceptsWaiting accepts faults a b (xs ++ ys)
  waits_after a now b history xs ys first many second =
      let until : (P : Result (Polled L) Failed → Type 0) → GivesUntil P accepts now.acceptor (links_of ys) b.acceptor → GivesUntil P accepts a.acceptor (links_of (xs ++ ys)) b.acceptor =
      λ P gives. subst (λ (l : List L). GivesUntil P accepts a.acceptor l b.acceptor) (sym (links_more xs ys))
      (gives_until accepts P a.acceptor now.acceptor b.acceptor first.gives.0 (links_of xs) (links_of ys) first.gives.1 gives) in
      elim second [
        | inl nobody ↦ inl (until IsNobody nobody)
        | inr waits ↦
            inr (
              waits.0,
              elim waits.1 [
                | inl full ↦ inl full
                | inr other ↦
                    inr (
                    elim other [
                      | inl fault ↦ inl (until IsFault fault)
                      | inr full ↦ inr (many full)
                    ]
                    )
              ],
            )
      ]

  -- so many peers came, and another may wait as before
  abbrev pub AcceptsSome : ℕ → Server → Server → List (Event L) → List (Event L) → Type 0
  AcceptsSome count a b history more = Accepted a b history more × (length (links_of more) ≡ count) × (b.is_asked ≡ a.is_asked)

  pub accepts_none : (a : Server) (history : List (Event L)) → AcceptsSome 0 a a history []
  accepts_none a history = ((none_come a a history [] refl (le_refl (faults a.readiness)) (refl, refl) refl, tt, (refl, refl)), refl, refl)

  pub accepts_more : (count : ℕ) (a now b : Server) (history xs ys : List (Event L)) → AcceptsSome count a now history xs → AcceptsNext accepts faults true now b (history ++ xs) ys
      → AcceptsSome (count + 1) a b history (xs ++ ys)
  accepts_more count a now b history xs ys first second = (
    accepts_both a now b history xs ys first.0 second.0,
    omega (arith, ap length (links_more xs ys), length-append (links_of xs) (links_of ys), first.1, second.1),
    second.2 ∙ first.2,
  )

  no_crowd : (n : ℕ) → n < accepts_a_round → false ≡ (n == accepts_a_round)
  no_crowd n few = sym (ne_eqb n accepts_a_round (λ e. omega (arith, few, e)))

  a_crowd : (n : ℕ) → n ≡ accepts_a_round → true ≡ (n == accepts_a_round)
  a_crowd n many = sym (eq-eqb n accepts_a_round many)

  pub accepts_last : (count : ℕ) (a now b : Server) (history xs ys : List (Event L)) → count < accepts_a_round → AcceptsSome count a now history xs
      → AcceptsNext accepts faults false now b (history ++ xs) ys → AcceptsUpTo accepts faults false a b history (xs ++ ys)
  accepts_last count a now b history xs ys few first second =
      let none : length (links_of ys) ≡ 0 = ap length second.1 in
      let all : length (links_of (xs ++ ys)) ≡ count = omega (arith, ap length (links_more xs ys), length-append (links_of xs) (links_of ys), first.1, none) in (
        accepts_both a now b history xs ys first.0 second.0,
        omega (arith, all, few),
        subst (λ (n : ℕ). false ≡ (n == accepts_a_round)) (sym all) (no_crowd count few),
        λ asked. waits_after a now b history xs ys first.0.0 (λ full. absurd (omega (arith, full, none))) (second.2 (subst IsTrue (sym first.2) asked)),
      )

  -- as many came as may in a round
  pub accepts_many : (count : ℕ) (a b : Server) (history more : List (Event L)) → count ≡ accepts_a_round → AcceptsSome count a b history more
      → AcceptsUpTo accepts faults true a b history more
  accepts_many count a b history more many some =
      let all : length (links_of more) ≡ accepts_a_round = some.1 ∙ many in
      (some.0, omega (arith, all), a_crowd (length (links_of more)) all, λ asked. inr (subst IsTrue (sym some.2) asked, inr (inr all)))

  pub round_of : (found : S → List Ready) (a now b : Server) (history xs ys : List (Event L)) → now.acceptor ≡ a.acceptor → faults a.readiness ≤ faults now.readiness
      → now.losses ≡ a.losses → IsOneLeft b.seats → (IsTrue a.is_asked ⊎ IsPeerFound (found b.readiness) → IsTrue now.is_asked)
      → ServesDue a.seats (found b.readiness) history xs
      → AcceptsAsked accepts faults now b (history ++ xs) ys × AsksNone (history ++ xs) ys
      → TakesRound accepts faults found a b (Ok tt) history (xs ++ ys)
  round_of found a now b history xs ys same later count one asks first second =
      let links : links_of (xs ++ ys) ≡ links_of ys = links_more xs ys ∙ ap (λ (l : List L). l ++ links_of ys) first.0.0 in
      let came = none_come a now history xs same later (same_refused a.losses now.losses count) first.0.0 in record {
        come = (
          comes_both a now b history xs ys came second.0.0.0,
          none_both xs ys first.0.2 second.0.0.1,
          gone_both a.losses now.losses b.losses (same_gone a.losses now.losses count) second.0.0.2,
        );
        left = λ left key spent. turn_after key xs ys (first.1 left key spent);
        told = λ key is here. turn_after key xs ys (first.2 key is here);
        once = among_both (λ key. IsDue (found b.readiness) a.seats key) (λ key. ⊥) (λ key. IsDue (found b.readiness) a.seats key) xs ys first.3
            (λ key. inl (turns_aside key (history ++ xs) ys second.1))
            (λ key due. due) (λ key never. absurd never) (λ key due never. never);
        one_left = one;
        few = subst (λ (l : List L). length l ≤ accepts_a_round) (sym links) second.0.1;
        crowded = subst (λ (l : List L). b.is_crowded ≡ (length l == accepts_a_round)) (sym links) second.0.2;
        waits = λ asked. waits_after a now b history xs ys came (λ full. ap length links ∙ full) (second.0.3 (asks asked));
      }

  pub then_drops : (found : S → List Ready) (a now b : Server) (history xs ys : List (Event L)) → b.acceptor ≡ now.acceptor → b.readiness ≡ now.readiness → SameRefused now.losses b.losses
      → TakesRound accepts faults found a now (Ok tt) history xs → IsDrop (history ++ xs) ys → Came a b history (xs ++ ys)
  then_drops found a now b history xs ys same ready count first second =
      let later : faults now.readiness ≤ faults b.readiness = subst (λ (s : S). faults now.readiness ≤ faults s) (sym ready) (le_refl (faults now.readiness)) in
      comes_both a now b history xs ys first.come.0 (none_come now b (history ++ xs) ys same later count (drops_links (history ++ xs) ys second))
