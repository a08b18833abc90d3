-- A list of bytes is ADUs and a rest in one way.
use Rattle.std.proofs.Common.{◌≡◌, inl, inr, ℕ, zero, suc, ◌≤◌, List, [], ◌∷◌, ◌++◌, length, drop, refl, sym, ap, ◌∙◌, subst, arith, append_assoc}
use Rattle.std.specs.Prelude.{All}
use Rattle.std.proofs.lemmas.List.{drop_at}
use Rattle.std.proofs.lemmas.List.Elements.{All-drop, All-nil, All-cons, All-head, All-tail}
use Rattle.modbus_frame.specs.declared.tcp.Header.{Header}
use Rattle.modbus_pdu.specs.Laws.{IsByte}
use Rattle.modbus_pdu.specs.Message.{Message}
use Rattle.modbus_tcp.specs.Adu.{adu_of, IsAdu, stream_of}
use Rattle.modbus_tcp.specs.Stream.{Rest, IsRest, IsSplit, BeginsWith}
use Rattle.modbus_tcp.proofs.Fronts.{told, front_of, same_adu, same_rest, no_rest}

-- one more ADU in front
one_more : {bytes others rest : List ℕ} {message : Message Header} {adus : List (Message Header)} {kind : Rest} → BeginsWith bytes message others → IsSplit others adus rest kind → IsSplit bytes (message ∷ adus) rest kind
one_more {rest = rest} {message} {adus} begins split = record {
  joined = begins.joined ∙ ap (λ bytes. adu_of message.header message.pdu ++ bytes) split.joined ∙ sym (append_assoc (adu_of message.header message.pdu) (stream_of adus) rest);
  whole = All-cons IsAdu message adus begins.whole split.whole;
  left = split.left;
}

others_bounded : {bytes others : List ℕ} {message : Message Header} → BeginsWith bytes message others → All IsByte bytes → All IsByte others
others_bounded {bytes} {others} {message} begins bounded =
    let n = length (adu_of message.header message.pdu) in
    let rest : drop n bytes ≡ others = ap (drop n) begins.joined ∙ drop_at (adu_of message.header message.pdu) others n refl in
    subst (All IsByte) rest (All-drop IsByte n bytes bounded)

abbrev Splits : List ℕ → Type 0
Splits bytes = (adus : List (Message Header)) × (rest : List ℕ) × (kind : Rest) × IsSplit bytes adus rest kind

nothing_taken : (bytes : List ℕ) (kind : Rest) → IsRest bytes kind → Splits bytes
nothing_taken bytes kind is = ([], bytes, kind, record { joined = refl; whole = All-nil IsAdu; left = is })

splits_by : (n : ℕ) (bytes : List ℕ) → length bytes ≤ n → All IsByte bytes → Splits bytes
splits_by zero bytes most bounded = elim (front_of bytes bounded) [
  | inl (message, others, begins) ↦ let tells = told begins in absurd (omega (arith, tells.all))
  | inr (kind, is) ↦ nothing_taken bytes kind is
]
splits_by (suc n) bytes most bounded = elim (front_of bytes bounded) [
  | inl (message, others, begins) ↦ (let tells = told begins in
      let s = splits_by n others (omega (arith, tells.all)) (others_bounded begins bounded) in
      (message ∷ s.0, s.1, s.2, one_more begins s.3))
  | inr (kind, is) ↦ nothing_taken bytes kind is
]

pub some_splitting : (bytes : List ℕ) → All IsByte bytes → Splits bytes
some_splitting bytes bounded = splits_by (length bytes) bytes (omega arith) bounded

-- the first ADU, and the splitting of what follows
first_of_split : {bytes rest : List ℕ} {message : Message Header} {adus : List (Message Header)} {kind : Rest} → IsSplit bytes (message ∷ adus) rest kind → BeginsWith bytes message (stream_of adus ++ rest)
first_of_split {rest = rest} {message} {adus} split = record {
  joined = split.joined ∙ append_assoc (adu_of message.header message.pdu) (stream_of adus) rest;
  whole = All-head IsAdu message adus split.whole;
}

after_first : {bytes rest : List ℕ} {message : Message Header} {adus : List (Message Header)} {kind : Rest} → IsSplit bytes (message ∷ adus) rest kind → IsSplit (stream_of adus ++ rest) adus rest kind
after_first {message = message} {adus} split = record { joined = refl; whole = All-tail IsAdu message adus split.whole; left = split.left }

moved : {bytes other rest : List ℕ} {adus : List (Message Header)} {kind : Rest} → bytes ≡ other → IsSplit bytes adus rest kind → IsSplit other adus rest kind
moved {rest = rest} {adus} {kind} e split = subst (λ all. IsSplit all adus rest kind) e split

left_is_all : {bytes rest : List ℕ} {kind : Rest} → IsSplit bytes [] rest kind → IsRest bytes kind
left_is_all {kind = kind} split = subst (λ all. IsRest all kind) (sym split.joined) split.left

pub same_splitting : (bytes rest left : List ℕ) (adus others : List (Message Header)) (kind other : Rest) → IsSplit bytes adus rest kind → IsSplit bytes others left other → (adus ≡ others) × (rest ≡ left) × (kind ≡ other)
same_splitting bytes rest left [] [] kind other split again =
    (refl, sym split.joined ∙ again.joined, same_rest bytes kind other (left_is_all split) (left_is_all again))
same_splitting bytes rest left [] (n ∷ others) kind other split again = absurd (no_rest kind (first_of_split again) (left_is_all split))
same_splitting bytes rest left (m ∷ adus) [] kind other split again = absurd (no_rest other (first_of_split split) (left_is_all again))
same_splitting bytes rest left (m ∷ adus) (n ∷ others) kind other split again =
    let one = same_adu (first_of_split split) (first_of_split again) in
    let later = same_splitting (stream_of adus ++ rest) rest left adus others kind other (after_first split) (moved (sym one.1) (after_first again)) in
    (cc (one.0, later.0), later.1, later.2)

front_of_adus : (message : Message Header) (adus : List (Message Header)) (held : List ℕ) → All IsAdu (message ∷ adus) → BeginsWith (stream_of (message ∷ adus) ++ held) message (stream_of adus ++ held)
front_of_adus message adus held whole = record {
  joined = append_assoc (adu_of message.header message.pdu) (stream_of adus) held;
  whole = All-head IsAdu message adus whole;
}

-- ADUs, and then what follows them
pub split_behind : (adus : List (Message Header)) (held rest : List ℕ) (later : List (Message Header)) (kind : Rest) → All IsAdu adus → IsSplit held later rest kind → IsSplit (stream_of adus ++ held) (adus ++ later) rest kind
split_behind [] held rest later kind whole split = split
split_behind (message ∷ adus) held rest later kind whole split =
    one_more (front_of_adus message adus held whole) (split_behind adus held rest later kind (All-tail IsAdu message adus whole) split)

-- ADUs at the front are the first ADUs of the whole
pub first_adus : (adus : List (Message Header)) (held rest : List ℕ) (all : List (Message Header)) (kind : Rest) → All IsAdu adus → IsSplit (stream_of adus ++ held) all rest kind →
    (later : List (Message Header)) × (all ≡ adus ++ later) × IsSplit held later rest kind
first_adus [] held rest all kind whole split = (all, refl, split)
first_adus (message ∷ adus) held rest [] kind whole split = absurd (no_rest kind (front_of_adus message adus held whole) (left_is_all split))
first_adus (message ∷ adus) held rest (other ∷ all) kind whole split =
    let one = same_adu (front_of_adus message adus held whole) (first_of_split split) in
    let later = first_adus adus held rest all kind (All-tail IsAdu message adus whole) (moved (sym one.1) (after_first split)) in
    (later.0, cc (one.0, later.1), later.2)
