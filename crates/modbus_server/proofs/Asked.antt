-- The exchanges of a run, beside the messages that were asked in them.
use Rattle.std.proofs.Common.{◌≡◌, ◌⊎◌, inl, inr, ℕ, ◌<◌, ◌≤◌, List, [], ◌∷◌, ◌++◌, map, length, refl, sym, ap, ◌∙◌, subst, arith, Ok, Err, length-append}
use Rattle.std.specs.Prelude.{All, Contains}
use Rattle.std.proofs.lemmas.List.Elements.{All-contains, Contains-append_right}
use Rattle.modbus_frame.specs.declared.fault.Reason.{Reason}
use Rattle.modbus_pdu.specs.Limits.{max_pdu}
use Rattle.modbus_pdu.specs.Message.{Message}
use Rattle.modbus_server.specs.Framing.{Framing}
use Rattle.modbus_server.specs.Served.{Halt, remaining, broken, refused, too_long}
use Rattle.modbus_server.specs.First.{IsFirst}
use Rattle.modbus_server.specs.Exchanges.{Exchange, Question, ReplyFits, told_reply_size, asked_of, asks}

-- none of the exchanges that fit is too long
pub all_fit : (F : Framing) (xs earlier later : List (Exchange F)) (x : Exchange F) (size : ℕ) → All (ReplyFits F) xs → xs ≡ earlier ++ x ∷ later → size ≡ told_reply_size F x → max_pdu < size → ⊥
all_fit F xs earlier later x size fit e is long =
    let within : Contains (earlier ++ x ∷ later) x = Contains-append_right earlier (x ∷ later) x (0, omega arith, refl) in
    let fits : ReplyFits F x = All-contains (ReplyFits F) xs x fit (subst (λ ys. Contains ys x) (sym e) within) in
    omega arith

-- one more exchange is the last, or the rest fits
pub last_or_within : (F : Framing) (xs earlier later : List (Exchange F)) (y x : Exchange F) → xs ++ y ∷ [] ≡ earlier ++ x ∷ later → ((rest : List (Exchange F)) × (xs ≡ earlier ++ x ∷ rest)) ⊎ (length earlier ≡ length xs)
last_or_within F [] [] later y x e = inr refl
last_or_within F [] (z ∷ earlier) [] y x e = absurd (omega (arith, ap length e, length-append earlier (x ∷ [])))
last_or_within F [] (z ∷ earlier) (w ∷ later) y x e = absurd (omega (arith, ap length e, length-append earlier (x ∷ w ∷ later)))
last_or_within F (a ∷ xs) [] later y x e = inl (xs, (let h : a ≡ x = cc in ap (λ z. z ∷ xs) h))
last_or_within F (a ∷ xs) (z ∷ earlier) later y x e =
    let h : a ≡ z = cc in
    let rest : xs ++ y ∷ [] ≡ earlier ++ x ∷ later = cc in
    elim (last_or_within F xs earlier later y x rest) [
      | inl (r, same) ↦ inl (r, cc (h, same))
      | inr same ↦ inr (omega arith)
    ]

-- the item after so many
pub same_after : {A : Type 0} (xs ys : List A) (x y : A) (later after : List A) → xs ++ x ∷ later ≡ ys ++ y ∷ after → length xs ≡ length ys → x ≡ y
same_after [] [] x y later after e n = cc
same_after [] (z ∷ ys) x y later after e n = absurd (omega arith)
same_after (z ∷ xs) [] x y later after e n = absurd (omega arith)
same_after (z ∷ xs) (w ∷ ys) x y later after e n =
    let rest : xs ++ x ∷ later ≡ ys ++ y ∷ after = cc in
    same_after xs ys x y later after rest (omega arith)

-- none of the messages that were asked is refused
pub no_refusal : (F : Framing) (earlier : List (Message F.Header)) (message : Message F.Header) (later : List (Message F.Header)) (xs : List (Exchange F)) (reason : Reason)
    → map (asked_of F) (earlier ++ message ∷ later) ≡ map (asks F) xs → F.request_of message.pdu ≡ Err reason → ⊥
no_refusal F [] message later [] reason e bad = cc
no_refusal F [] message later (x ∷ xs) reason e bad =
    let first : asked_of F message ≡ asks F x = cc in
    let ok : F.request_of message.pdu ≡ Ok x.request = ap (λ (q : Question F). q.1) first in
    let clash : Err reason ≡ Ok x.request = sym bad ∙ ok in
    cc
no_refusal F (m ∷ earlier) message later [] reason e bad = cc
no_refusal F (m ∷ earlier) message later (x ∷ xs) reason e bad =
    let rest : map (asked_of F) (earlier ++ message ∷ later) ≡ map (asks F) xs = cc in
    no_refusal F earlier message later xs reason rest bad

-- as many were asked as there are exchanges
pub as_many : (F : Framing) (messages : List (Message F.Header)) (xs : List (Exchange F)) → map (asked_of F) messages ≡ map (asks F) xs → length messages ≡ length xs
as_many F [] [] e = refl
as_many F [] (x ∷ xs) e = cc
as_many F (m ∷ messages) [] e = cc
as_many F (m ∷ messages) (x ∷ xs) e =
    let rest : map (asked_of F) messages ≡ map (asks F) xs = cc in
    let same = as_many F messages xs rest in omega arith

-- an item before the end of a front stands in the front
pub within_front : {A : Type 0} (front tail earlier : List A) (x : A) (later : List A) → front ++ tail ≡ earlier ++ x ∷ later → length earlier < length front
    → (middle : List A) × (front ≡ earlier ++ x ∷ middle)
within_front [] tail earlier x later e less = absurd (omega arith)
within_front (f ∷ front) tail [] x later e less = (front, (let same : f ≡ x = cc in ap (λ y. y ∷ front) same))
within_front (f ∷ front) tail (z ∷ earlier) x later e less =
    let first : f ≡ z = cc in
    let rest : front ++ tail ≡ earlier ++ x ∷ later = cc in
    let inner = within_front front tail earlier x later rest (omega arith) in
    (inner.0, cc (first, inner.1))

-- a message that is refused was asked in no exchange
pub asked_well : (F : Framing) (message : Message F.Header) (x : Exchange F) (reason : Reason) → F.request_of message.pdu ≡ Err reason → asked_of F message ≡ asks F x → ⊥
asked_well F message x reason bad asked =
    let ok : F.request_of message.pdu ≡ Ok x.request = ap (λ (q : Question F). q.1) asked in
    let clash : Err reason ≡ Ok x.request = sym bad ∙ ok in
    cc

-- two kinds of fault are not both the first, where one place has one kind
module _ (Fails : ℕ → Halt → Type 0) (none_left : (place : ℕ) (left : List ℕ) → Fails place (remaining left) → ⊥)
    (same_at : (place : ℕ) (f g : Halt) → Fails place f → Fails place g → f ≡ g) where
  abbrev Places : Halt → Type 0
  Places halt = (place : ℕ) × Fails place halt × ((other : ℕ) (fault : Halt) → Fails other fault → place ≤ other)

  places : (place : ℕ) (halt : Halt) → Fails place halt → IsFirst Fails halt → Places halt
  places place (remaining left) h first = absurd (none_left place left h)
  places place (broken fault) h first = first
  places place (refused reason) h first = first
  places place (too_long size) h first = first

  same_first : (f g : Halt) → Places f → Places g → f ≡ g
  same_first f g (p, a, first) (q, b, first') =
      let same : q ≡ p = omega (arith, first q g b, first' p f a) in
      same_at p f g a (subst (λ r. Fails r g) same b)

  pub one_first : (p q : ℕ) (f g : Halt) → Fails p f → Fails q g → IsFirst Fails f → IsFirst Fails g → f ≡ g
  one_first p q f g a b first first' = same_first f g (places p f a first) (places q g b first')
