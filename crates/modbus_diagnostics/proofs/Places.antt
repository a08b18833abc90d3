-- Lists of units, place by place.
use Rattle.std.proofs.Common.{◌≡◌, ◌≢◌, ℕ, ◌+◌, ◌<◌, List, [], ◌∷◌, ◌++◌, length, take, drop, set, get_or, sym, subst, ap, ◌∙◌, ◌≤◌, ◌⊎◌, inl, inr, add-one, add-zero, arith}
use Rattle.std.specs.List.{All, AllPairs, AllZip}
use Rattle.std.specs.Prelude.{Option, Some, None, Result, Ok, Err}
use Rattle.std.proofs.lemmas.List.{take-append-drop, drop_more, take_more, drop-set-lt, set_at, set_split, get_or_at, get_or-drop, length-take-le}
use Rattle.std.proofs.lemmas.Grind.{drop_more_same}
use Rattle.std.proofs.lemmas.List.Quantifiers.{all_pairs_push}
use Rattle.std.proofs.lemmas.Bool.{cases_eq}
use Rattle.std.proofs.lemmas.List.Elements.{All-push}
use Rattle.modbus_service.specs.declared.only_unit.OnlyUnit.{OnlyUnit}
use Rattle.modbus_frame.specs.Meaning.{Asked}
use Rattle.modbus_frame.specs.declared.response.Response.{Response}
use Rattle.modbus_service.specs.declared.service.ServiceError.{ServiceError}
use Rattle.modbus_service.specs.declared.service.ServiceError.TheVariants.{Exception, NoMemory}
use Rattle.modbus_service.specs.Outcome.{silence, reply, exception}
use Rattle.modbus_service.specs.Answering.{Answering, Keeps}
use Rattle.modbus_service.specs.Units.{LineUnits, NoneAt, unit_at, FirstAt, OneAsked, Proper, Did, StoppedAtUnit, units_answering}

-- a list around the item at a place
pub split_at : {X : Type 0} (xs : List X) (i : ℕ) (x : X) → i < length xs → x ≡ get_or xs i x → xs ≡ take i xs ++ x ∷ drop (i + 1) xs
split_at xs i x within is =
    sym (take-append-drop i xs) ∙ ap (λ ys. take i xs ++ ys) (drop_more xs i x within ∙ ap (λ y. y ∷ drop (i + 1) xs) (sym is))

-- one more item is looked at
pub take_push : {X : Type 0} (xs : List X) (i : ℕ) (x : X) → i < length xs → x ≡ get_or xs i x → take (i + 1) xs ≡ take i xs ++ x ∷ []
take_push xs i x within is = take_more xs i x within ∙ ap (λ y. take i xs ++ y ∷ []) (sym is)

pub all_more : {X : Type 0} (P : X → Type 0) (xs : List X) (i : ℕ) (x : X) → i < length xs → x ≡ get_or xs i x → All P (take i xs) → P x → All P (take (i + 1) xs)
all_more P xs i x within is all here = subst (λ ys. All P ys) (sym (take_push xs i x within is)) (All-push P (take i xs) x all here)

-- the unit at a place is the first at its address
pub first_here : {S : Type 0} (units : List (OnlyUnit S)) (place slave : ℕ) (it : OnlyUnit S) → place < length units → it ≡ get_or units place it
    → it.unit ≡ slave → NoneAt slave (take place units) → (at : FirstAt slave units) × (length at.before ≡ place)
first_here units place slave it within is here none = (
  record {
    before = take place units;
    service = it.service;
    after = drop (place + 1) units;
    none_before = none;
    is = split_at units place it within is ∙ ap (λ n. take place units ++ unit_at n it.service ∷ drop (place + 1) units) here;
  },
  length-take-le place units (omega arith),
)

-- its service is asked, and written back
pub one_asked : {S : Type 0} (Does : S → S → Type 0) (slave : ℕ) (units news : List (OnlyUnit S)) (at : FirstAt slave units) (place : ℕ)
    (it : OnlyUnit S) (next : S) → length at.before ≡ place → it ≡ get_or units place it → news ≡ set units place (record it { service = next })
    → Does it.service next → OneAsked Does slave units news
one_asked Does slave units news at place it next long is wrote did =
    let found : it ≡ unit_at slave at.service = is ∙ ap (λ us. get_or us place it) at.is ∙ get_or_at at.before (unit_at slave at.service) at.after it place long in
    let whole : news ≡ at.before ++ record it { service = next } ∷ at.after =
    wrote ∙ ap (λ us. set us place (record it { service = next })) at.is
    ∙ set_at at.before (unit_at slave at.service) at.after (record it { service = next }) place long in
    record {
      at = at;
      next = next;
      did = subst (λ s. Does s next) (ap (λ u. u.service) found) did;
      now_is = whole ∙ ap (λ n. at.before ++ unit_at n next ∷ at.after) (ap (λ u. u.unit) found);
    }

-- so units do what it does
pub keeps_one : {S : Type 0} (A : Answering S) (old new : LineUnits S) (slave : ℕ) (request : Asked) (result : Result (Option Response) ServiceError)
    (at : FirstAt slave old.units) (place : ℕ) (it : OnlyUnit S) (next : S) → slave ≢ 0 → new.absent ≡ old.absent → length at.before ≡ place
    → it ≡ get_or old.units place it → new.units ≡ set old.units place (record it { service = next })
    → Keeps A it.service slave request result next → Keeps (units_answering A) old slave request result new
keeps_one A old new slave request (Ok None) at place it next one kept long is wrote did =
    (kept, inr (inl (one, one_asked (λ s t. A.gives s slave request silence t) slave old.units new.units at place it next long is wrote did)))
keeps_one A old new slave request (Ok (Some response)) at place it next one kept long is wrote did =
    (kept, inr (inl (one, one_asked (λ s t. A.gives s slave request (reply response) t) slave old.units new.units at place it next long is wrote did)))
keeps_one A old new slave request (Err (Exception code)) at place it next one kept long is wrote did =
    (kept, inr (inl (one, one_asked (λ s t. A.gives s slave request (exception code) t) slave old.units new.units at place it next long is wrote did)))
keeps_one A old new slave request (Err NoMemory) at place it next one kept long is wrote did =
    (kept, inr (one, one_asked (λ s t. A.wants s slave request t) slave old.units new.units at place it next long is wrote did))

-- one more unit is proper
pub proper_more : {S : Type 0} (units : List (OnlyUnit S)) (i : ℕ) (it : OnlyUnit S) → i < length units → it ≡ get_or units i it
    → (1 ≤ it.unit) × (it.unit ≤ 247) → NoneAt it.unit (take i units) → Proper (take i units) → Proper (take (i + 1) units)
proper_more units i it within is single none proper = (
  all_more (λ u. (1 ≤ u.unit) × (u.unit ≤ 247)) units i it within is proper.0 single,
  subst (λ us. AllPairs (λ a b. a.unit ≢ b.unit) us) (sym (take_push units i it within is))
      (all_pairs_push (λ a b. a.unit ≢ b.unit) (take i units) it proper.1 (λ k d below. none k d below)),
)

pub out_of_range : (n : ℕ) → ((1 ≤ n) × (n ≤ 247) → ⊥) → (n ≡ 0) ⊎ (248 ≤ n)
out_of_range n out = elim (cases_eq n 0) [ inl zero ↦ inl zero | inr other ↦ inr (grind arith) ]

-- a place in what was written so far is as it was at the start
pub still : {X : Type 0} (olds news : List X) (i : ℕ) (x : X) → x ≡ get_or news i x → drop i news ≡ drop i olds → x ≡ get_or olds i x
still {X = X} olds news i x is rest =
    let here : (l : List X) → get_or (drop i l) 0 x ≡ get_or l i x = λ l. get_or-drop i l 0 x ∙ ap (λ n. get_or l n x) (add-zero i) in
    is ∙ sym (here news) ∙ ap (λ l. get_or l 0 x) rest ∙ here olds

pub rest_more : {X : Type 0} (olds news : List X) (i : ℕ) (y : X) → drop i news ≡ drop i olds → drop (i + 1) (set news i y) ≡ drop (i + 1) olds
rest_more olds news i y rest = drop-set-lt (i + 1) news i y (omega arith) ∙ drop_more_same news olds i rest

pub stopped_at : {S : Type 0} (A : Answering S) (request : Asked) (olds news : List (OnlyUnit S)) (i : ℕ) (x : OnlyUnit S) (next : S) → i < length news
    → length news ≡ length olds → x ≡ get_or news i x → drop i news ≡ drop i olds → AllZip (Did A request) (take i olds) (take i news)
    → A.wants x.service 0 request next → StoppedAtUnit A request olds (set news i (record x { service = next }))
stopped_at A request olds news i x next within long is rest told wants =
    let inside : i < length olds = omega arith in
    record {
      before = take i olds;
      did = take i news;
      at = x;
      next = next;
      after = drop (i + 1) olds;
      was = split_at olds i x inside (still olds news i x is rest);
      now_is = set_split news i (record x { service = next }) within
          ∙ ap (λ n. take i news ++ unit_at x.unit next ∷ drop n news) (sym (add-one i))
          ∙ ap (λ us. take i news ++ unit_at x.unit next ∷ us) (drop_more_same news olds i rest);
      done = told;
      wants = wants;
    }
