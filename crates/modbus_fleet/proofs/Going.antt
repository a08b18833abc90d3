-- Devices that go on one poll after another.
use Rattle.std.proofs.Common.{◌≡◌, ◌≢◌, ℕ, suc, ◌+◌, ◌<◌, ◌≤◌, Bool, List, [], ◌∷◌, length, get_or, drop, drop-cons, drop_of_length-le, Option, Some, None, refl, sym, ap, ◌∙◌, subst, inl, inr, arith, eq-eqb, ne_eqb}
use Rattle.std.specs.Prelude.{if◌then◌else◌}
use Rattle.std.proofs.lemmas.Bool.{cases_eq}
use Rattle.modbus_client.specs.Matches.{Answer}
use Rattle.slab.specs.Slab.{Slab, get, SameValues}
use Rattle.modbus_fleet.specs.declared.fleet.Told.{Told}
use Rattle.modbus_fleet.specs.Device.{DeviceState, FleetMeaning, Polls}
use Rattle.modbus_ready.specs.declared.readiness.Ready.{Ready}
use Rattle.modbus_fleet.specs.Fleet.{answer_list, Goes, rests, polls, GoesAt, answers_of, EachGoes, PollsAt, OthersStay, told_at, FleetState, waiting, TakesReady, TakesInTurn, none_left, one_answers, goes_on}

answers_here : (key : ℕ) (told : Option Answer) → answers_of key (told_at key told) ≡ answer_list told
answers_here key None = refl
answers_here key (Some answer) = ap (λ (b : Bool). if b then answer ∷ [] else []) (eq-eqb key key refl)

answers_there : (key other : ℕ) (told : Option Answer) → other ≢ key → answers_of other (told_at key told) ≡ []
answers_there key other None differs = refl
answers_there key other (Some answer) differs = ap (λ (b : Bool). if b then answer ∷ [] else []) (ne_eqb key other (λ e. differs (sym e)))

split_at : (found : List Ready) (index : ℕ) (ready : Ready) → index < length found → drop index found ≡ get_or found index ready ∷ drop (index + 1) found
split_at found index ready low =
    let next : suc index ≡ index + 1 = omega arith in
    drop-cons found index ready low ∙ ap (λ (n : ℕ). get_or found index ready ∷ drop n found) next

module _ {H I L : Type 0} (m : FleetMeaning H L) where
  after : (a b c : DeviceState I L) (answers : List Answer) → Goes m a [] b → Goes m b answers c → Goes m a answers c
  after a b c answers first rests = first
  after a b c answers first (polls mid new earlier told goes last) = polls mid new earlier told (after a b mid earlier first goes) last

  rests_at : (a : Option (DeviceState I L)) → GoesAt m a [] a
  rests_at None = refl
  rests_at (Some device) = rests

  after_at : (a b c : Option (DeviceState I L)) (answers : List Answer) → GoesAt m a [] b → GoesAt m b answers c → GoesAt m a answers c
  after_at None None None answers first second = second
  after_at None None (Some z) answers first second = absurd second
  after_at None (Some y) c answers first second = absurd first
  after_at (Some x) None c answers first second = absurd first
  after_at (Some x) (Some y) None answers first second = absurd second
  after_at (Some x) (Some y) (Some z) answers first second = after x y z answers first second

  polled_at : (a b : Option (DeviceState I L)) (told : Option Answer) → PollsAt m a told b → GoesAt m a (answer_list told) b
  polled_at None None told p = ap answer_list p.0
  polled_at None (Some y) told p = absurd (no_some y p.1)
    where
      no_some : (y : DeviceState I L) → Some y ≡ None → ⊥
      no_some y e = cc
  polled_at (Some x) None told p = absurd p
  polled_at (Some x) (Some y) told p = polls x y [] told rests p

  pub polls_here : (key : ℕ) (old new : Slab (DeviceState I L)) (before after : DeviceState I L) (told : Option Answer)
      → get old key ≡ Some before → get new key ≡ Some after → Polls m before told after → PollsAt m (get old key) told (get new key)
  polls_here key old new before after told was is p =
      subst (λ (slot : Option (DeviceState I L)). PollsAt m (get old key) told slot) (sym is)
      (subst (λ (slot : Option (DeviceState I L)). PollsAt m slot told (Some after)) (sym was) p)

  pub each_rests : (old new : Slab (DeviceState I L)) → SameValues old new → EachGoes m old None new
  each_rests old new same key = subst (λ (slot : Option (DeviceState I L)). GoesAt m (get old key) [] slot) (sym (same key)) (rests_at (get old key))

  pub each_after : (a b c : Slab (DeviceState I L)) (told : Option Told) → EachGoes m a None b → EachGoes m b told c → EachGoes m a told c
  each_after a b c told first second key = after_at (get a key) (get b key) (get c key) (answers_of key told) (first key) (second key)

  pub each_polls : (key : ℕ) (old new : Slab (DeviceState I L)) (told : Option Answer) → PollsAt m (get old key) told (get new key) → OthersStay key old new
      → EachGoes m old (told_at key told) new
  each_polls key old new told p others k =
      elim (cases_eq k key) [
        | inl same ↦
            subst (λ (n : ℕ). GoesAt m (get old n) (answers_of n (told_at key told)) (get new n)) (sym same)
            (subst (λ (answers : List Answer). GoesAt m (get old key) answers (get new key)) (sym (answers_here key told)) (polled_at (get old key) (get new key) told p))
        | inr differs ↦
            subst (λ (slot : Option (DeviceState I L)). GoesAt m (get old k) (answers_of k (told_at key told)) slot) (sym (others k differs))
            (subst (λ (answers : List Answer). GoesAt m (get old k) answers (get old k)) (sym (answers_there key k told differs)) (rests_at (get old k)))
      ]

  -- whatever comes of the rest comes of all
  abbrev pub Follows : Slab (DeviceState I L) → List Ready → Slab (DeviceState I L) → List Ready → Type 0
  Follows first found now rest = (told : Option Told) (left : List Ready) (new : Slab (DeviceState I L)) → TakesInTurn m now rest told left new → TakesInTurn m first found told left new

  -- one more was taken, which a look at what was found saw, and did not answer
  pub follows_next : (first now next : Slab (DeviceState I L)) (found seen : List Ready) (start index : ℕ) (ready : Ready) → seen ≡ found → index < length found
      → TakesReady m (get_or seen index ready) now None next → Follows first (drop start found) now (drop index found) → Follows first (drop start found) next (drop (index + 1) found)
  follows_next first now next found seen start index ready same low took before told left new rest =
      before told left new
      (subst (λ (l : List Ready). TakesInTurn m now l told left new) (sym (split_at found index ready low))
      (goes_on now next new (get_or found index ready) (drop (index + 1) found) left told
      (subst (λ (l : List Ready). TakesReady m (get_or l index ready) now None next) same took) rest))

  -- or answered
  pub answers_last : (first now new : Slab (DeviceState I L)) (found seen rest : List Ready) (start index : ℕ) (ready : Ready) (told : Told) → seen ≡ found → index < length found
      → rest ≡ drop (index + 1) found → TakesReady m (get_or seen index ready) now (Some told) new → Follows first (drop start found) now (drop index found)
      → TakesInTurn m first (drop start found) (Some told) rest new
  answers_last first now new found seen rest start index ready told same low left took before =
      subst (λ (l : List Ready). TakesInTurn m first (drop start found) (Some told) l new) (sym left)
      (before (Some told) (drop (index + 1) found) new
      (subst (λ (l : List Ready). TakesInTurn m now l (Some told) (drop (index + 1) found) new) (sym (split_at found index ready low))
      (one_answers now new (get_or found index ready) (drop (index + 1) found) told
      (subst (λ (l : List Ready). TakesReady m (get_or l index ready) now (Some told) new) same took))))

  -- all were taken, and none answered
  pub none_last : (first now : Slab (DeviceState I L)) (found rest : List Ready) (start index : ℕ) → rest ≡ drop index found → length found ≤ index
      → Follows first (drop start found) now (drop index found) → TakesInTurn m first (drop start found) None rest now
  none_last first now found rest start index left past before =
      let none : drop index found ≡ [] = drop_of_length-le found past in
      subst (λ (l : List Ready). TakesInTurn m first (drop start found) None l now) (sym left)
      (before None (drop index found) now (subst (λ (l : List Ready). TakesInTurn m now l None l now) (sym none) (none_left now)))

-- what waits, by what was taken of what was found
pub waiting_is : {I L S : Type 0} (found : S → List Ready) (fleet : FleetState I L S) (readiness : S) (taken : ℕ) → fleet.readiness ≡ readiness → fleet.taken ≡ taken
    → waiting found fleet ≡ drop taken (found readiness)
waiting_is {S = S} found fleet readiness taken same count =
    ap (λ (n : ℕ). drop n (found fleet.readiness)) count ∙ ap (λ (r : S). drop taken (found r)) same
