-- What stands at the front of bytes: an ADU, or a rest of one kind.
use Rattle.std.proofs.Common.{◌≡◌, ◌⊎◌, inl, inr, ℕ, zero, suc, ◌+◌, ◌-◌, ◌*◌, ◌^◌, ◌<◌, ◌≤◌, List, [], ◌∷◌, ◌++◌, length, take, drop, get_or, refl, sym, ap, ◌∙◌, subst, arith, length-append, length-drop, append_assoc}
use Rattle.std.specs.Prelude.{All}
use Rattle.std.proofs.lemmas.Bool.{cases_lt}
use Rattle.std.proofs.lemmas.List.{take_at, drop_at, drop-take, take-append-drop, length-take-le}
use Rattle.std.proofs.lemmas.List.Elements.{All-get_or}
use Rattle.std.proofs.lemmas.Nat.{be_bytes_2, from_be_bytes-to_be_bytes_2}
use Rattle.modbus_frame.specs.declared.tcp.Header.{Header}
use Rattle.modbus_pdu.specs.Fields.{word_at}
use Rattle.modbus_pdu.specs.Laws.{IsByte}
use Rattle.modbus_pdu.specs.Word.{word}
use Rattle.modbus_pdu.specs.Message.{Message, message}
use Rattle.modbus_tcp.specs.declared.mbap.Mbap.{Mbap}
use Rattle.modbus_tcp.specs.Decoder.{TellsHeader}
use Rattle.modbus_tcp.specs.Adu.{adu_of, IsAdu}
use Rattle.modbus_tcp.specs.Stream.{told_length, Rest, empty, unfinished, no_length, foreign, IsRest, BeginsWith}
use Rattle.modbus_tcp.specs.Limits.{uncounted, unit_identifier, mbap_header, modbus_protocol}

-- two bytes as a number, and back
word_back : (n : ℕ) → n < 2 ^ 16 → word_at (word n) 0 ≡ n
word_back n lt = omega (arith, from_be_bytes-to_be_bytes_2 n lt)

pair_small : (a b : ℕ) → a < 256 → b < 256 → (i : ℕ) → get_or (a ∷ b ∷ []) i 0 < 256
pair_small a b p q zero = p
pair_small a b p q (suc i) = one i
  where
    one : (i : ℕ) → get_or (b ∷ []) i 0 < 256
    one zero = q
    one (suc i) = omega arith

word_of_bytes : (a b : ℕ) → a < 256 → b < 256 → word (a * 256 + b) ≡ a ∷ b ∷ []
word_of_bytes a b p q = be_bytes_2 (a ∷ b ∷ []) (a * 256 + b) refl (pair_small a b p q) (omega arith)

-- what the bytes of an ADU tell
pub record Told (bytes : List ℕ) (message : Message Header) (others : List ℕ) : Type 0 where
  pub transaction : word_at bytes 0 ≡ message.header.transaction_id
  pub protocol : word_at bytes 2 ≡ modbus_protocol
  pub size : told_length bytes ≡ length message.pdu + 1
  pub unit_id : get_or bytes 6 0 ≡ message.header.unit_id
  pub body : drop mbap_header bytes ≡ message.pdu ++ others
  pub all : length bytes ≡ length message.pdu + length others + mbap_header

told_by_adu : (header : Header) (pdu others : List ℕ) → IsAdu (message header pdu) → Told (adu_of header pdu ++ others) (message header pdu) others
unfolding adu_of
told_by_adu header pdu others is = record {
  transaction = word_back header.transaction_id is.transaction;
  protocol = refl;
  size = word_back (length pdu + 1) (omega (arith, is.size));
  unit_id = refl;
  body = refl;
  all = omega (arith, length-append pdu others);
}

pub told : {bytes others : List ℕ} {message : Message Header} → BeginsWith bytes message others → Told bytes message others
told {bytes} {others} {message} begins =
    subst (λ all. Told all message others) (sym begins.joined) (told_by_adu message.header message.pdu others begins.whole)

-- bytes that tell an ADU begin with it
begins_by_parts : (a b c d e f u : ℕ) (pdu others : List ℕ) → a < 256 → b < 256 → e < 256 → f < 256 → c * 256 + d ≡ 0 → e * 256 + f ≡ length pdu + 1 →
    BeginsWith (a ∷ b ∷ c ∷ d ∷ e ∷ f ∷ u ∷ (pdu ++ others)) (message (record { transaction_id = a * 256 + b; unit_id = u }) pdu) others
unfolding adu_of
begins_by_parts a b c d e f u pdu others p q r s none size =
    let high : c ≡ 0 = omega arith in
    let low : d ≡ 0 = omega arith in
    let first : word (a * 256 + b) ≡ a ∷ b ∷ [] = word_of_bytes a b p q in
    let third : word (length pdu + unit_identifier) ≡ e ∷ f ∷ [] = subst (λ n. word n ≡ e ∷ f ∷ []) size (word_of_bytes e f r s) in
    let is : (a ∷ b ∷ []) ++ (c ∷ d ∷ []) ++ (e ∷ f ∷ []) ++ (u ∷ (pdu ++ others)) ≡ word (a * 256 + b) ++ word modbus_protocol ++ word (length pdu + unit_identifier) ++ (u ∷ (pdu ++ others)) = cc in
    record {
      joined = is;
      whole = record { transaction = omega arith; size = omega arith };
    }

abbrev pub header_of : List ℕ → Header
header_of bytes = record { transaction_id = word_at bytes 0; unit_id = get_or bytes 6 0 }

at : (bytes : List ℕ) → All IsByte bytes → (i : ℕ) → i < length bytes → get_or bytes i 0 < 256
at bytes bounded i lt = All-get_or IsByte bytes i 0 lt bounded

pub begins : (bytes : List ℕ) (count : ℕ) → All IsByte bytes → mbap_header ≤ count → count ≤ length bytes → word_at bytes 2 ≡ modbus_protocol → count ≡ uncounted + told_length bytes →
    BeginsWith bytes (message (header_of bytes) (drop mbap_header (take count bytes))) (drop count bytes)
begins (a ∷ b ∷ c ∷ d ∷ e ∷ f ∷ u ∷ body) count bounded low high none size =
    let k = count - mbap_header in
    let bytes = a ∷ b ∷ c ∷ d ∷ e ∷ f ∷ u ∷ body in
    let more : count ≡ suc (suc (suc (suc (suc (suc (suc k)))))) = omega arith in
    let all : take k body ++ drop k body ≡ body = take-append-drop k body in
    let pdu_len : length (take k body) ≡ k = length-take-le k body (omega arith) in
    rw more (subst (λ rest. BeginsWith (a ∷ b ∷ c ∷ d ∷ e ∷ f ∷ u ∷ rest) (message (header_of bytes) (take k body)) (drop k body)) all
    (begins_by_parts a b c d e f u (take k body) (drop k body) (at bytes bounded 0 (omega arith)) (at bytes bounded 1 (omega arith)) (at bytes bounded 4 (omega arith)) (at bytes bounded 5 (omega arith)) none (omega arith)))
begins _ count bounded low high none size = absurd (omega arith)

same_header : (header other : Header) → header.transaction_id ≡ other.transaction_id → header.unit_id ≡ other.unit_id → header ≡ other
same_header header other p q =
    let with : ℕ → ℕ → Header = λ t u. record { transaction_id = t; unit_id = u } in
    ap (λ t. with t header.unit_id) p ∙ ap (λ u. with other.transaction_id u) q

-- what a header tells of its ADU
pub tells_adu : (bytes : List ℕ) (mbap : Mbap) (end : ℕ) → All IsByte bytes → TellsHeader bytes mbap → 0 < mbap.length → end ≤ length bytes → mbap.protocol ≡ modbus_protocol → end ≡ uncounted + mbap.length →
    BeginsWith bytes (message mbap.header (take (end - mbap_header) (drop mbap_header bytes))) (drop end bytes)
tells_adu bytes mbap end bounded tells some whole ours is =
    let header : mbap.header ≡ header_of bytes = same_header mbap.header (header_of bytes) tells.transaction tells.unit_id in
    let size : end ≡ mbap_header + (end - mbap_header) = omega arith in
    let pdu : drop mbap_header (take end bytes) ≡ take (end - mbap_header) (drop mbap_header bytes) = ap (λ n. drop mbap_header (take n bytes)) size ∙ drop-take mbap_header (end - mbap_header) bytes in
    rw (header, ← pdu) (begins bytes end bounded (omega arith) whole (sym tells.protocol ∙ ours) (omega (arith, tells.length)))

-- the ADU that ends where the others begin: what it has behind its header
pub taken_off : {bytes : List ℕ} {message : Message Header} (end : ℕ) → BeginsWith bytes message (drop end bytes) → end ≤ length bytes → (mbap_header ≤ length (take end bytes)) × (drop mbap_header (take end bytes) ≡ message.pdu)
taken_off {bytes} {message} end begins within =
    let tells = told begins in
    let size : end ≡ mbap_header + length message.pdu = omega (arith, tells.all, length-drop end bytes) in
    (omega (arith, length-take-le end bytes within), rw (size, drop-take mbap_header (length message.pdu) bytes, tells.body) (take_at message.pdu (drop end bytes) (length message.pdu) refl))

-- a short list
pub short_rest : (bytes : List ℕ) → length bytes < mbap_header → IsRest bytes empty ⊎ IsRest bytes unfinished
short_rest [] lt = inl refl
short_rest (b ∷ bytes) lt = inr (omega arith, inl lt)

-- of bytes exactly one holds
pub front_of : (bytes : List ℕ) → All IsByte bytes → ((message : Message Header) × (others : List ℕ) × BeginsWith bytes message others) ⊎ ((kind : Rest) × IsRest bytes kind)
front_of bytes bounded = elim (cases_lt (length bytes) mbap_header) [
  | inl short ↦ elim (short_rest bytes short) [
    | inl none ↦ inr (empty, none)
    | inr some ↦ inr (unfinished, some)
  ]
  | inr long ↦ elim (cases_lt 0 (told_length bytes)) [
    | inr none ↦ inr (no_length, (long, omega arith))
    | inl some ↦ elim (cases_lt (length bytes) (uncounted + told_length bytes)) [
      | inl part ↦ inr (unfinished, (omega arith, inr (some, part)))
      | inr whole ↦ elim (cases_lt 0 (word_at bytes 2)) [
        | inl other ↦ inr (foreign (word_at bytes 2), (long, some, whole, refl, λ e. omega (arith, e)))
        | inr ours ↦ inl (
          message (header_of bytes) (drop mbap_header (take (uncounted + told_length bytes) bytes)),
          drop (uncounted + told_length bytes) bytes,
          begins bytes (uncounted + told_length bytes) bounded (omega arith) whole (omega arith) refl,
        )
      ]
    ]
  ]
]

pub same_adu : {bytes others left : List ℕ} {message other : Message Header} → BeginsWith bytes message others → BeginsWith bytes other left → (message ≡ other) × (others ≡ left)
same_adu {bytes} {others} {left} {message} {other} begins again =
    let tells = told begins in
    let again_tells = told again in
    let size : length message.pdu ≡ length other.pdu = omega (arith, tells.size, again_tells.size) in
    let bodies : message.pdu ++ others ≡ other.pdu ++ left = sym tells.body ∙ again_tells.body in
    let header : message.header ≡ other.header = same_header message.header other.header (sym tells.transaction ∙ again_tells.transaction) (sym tells.unit_id ∙ again_tells.unit_id) in
    let pdu : message.pdu ≡ other.pdu = sym (take_at message.pdu others (length other.pdu) size) ∙ ap (take (length other.pdu)) bodies ∙ take_at other.pdu left (length other.pdu) refl in
    let rest : others ≡ left = sym (drop_at message.pdu others (length other.pdu) size) ∙ ap (drop (length other.pdu)) bodies ∙ drop_at other.pdu left (length other.pdu) refl in
    let both : Header → List ℕ → Message Header = λ h p. record { header = h; pdu = p } in
    (ap (λ h. both h message.pdu) header ∙ ap (λ p. both other.header p) pdu, rest)

pub no_rest : {bytes others : List ℕ} {message : Message Header} (kind : Rest) → BeginsWith bytes message others → IsRest bytes kind → ⊥
no_rest empty begins is = let tells = told begins in omega (arith, tells.all, ap length is)
no_rest unfinished begins is = let tells = told begins in elim is.1 [
  | inl short ↦ omega (arith, tells.all)
  | inr part ↦ omega (arith, tells.all, tells.size)
]
no_rest no_length begins is = let tells = told begins in omega (arith, tells.size)
no_rest (foreign protocol) begins is = let tells = told begins in is.4 (is.3 ∙ tells.protocol)

pub same_rest : (bytes : List ℕ) (kind other : Rest) → IsRest bytes kind → IsRest bytes other → kind ≡ other
same_rest bytes empty empty is or = refl
same_rest bytes empty unfinished is or = absurd (omega (arith, ap length is))
same_rest bytes empty no_length is or = absurd (omega (arith, ap length is))
same_rest bytes empty (foreign q) is or = absurd (omega (arith, ap length is))
same_rest bytes unfinished empty is or = absurd (omega (arith, ap length or))
same_rest bytes unfinished unfinished is or = refl
same_rest bytes unfinished no_length is or = absurd (elim is.1 [ inl short ↦ omega arith | inr part ↦ omega arith ])
same_rest bytes unfinished (foreign q) is or = absurd (elim is.1 [ inl short ↦ omega arith | inr part ↦ omega arith ])
same_rest bytes no_length empty is or = absurd (omega (arith, ap length or))
same_rest bytes no_length unfinished is or = absurd (elim or.1 [ inl short ↦ omega arith | inr part ↦ omega arith ])
same_rest bytes no_length no_length is or = refl
same_rest bytes no_length (foreign q) is or = absurd (omega arith)
same_rest bytes (foreign p) empty is or = absurd (omega (arith, ap length or))
same_rest bytes (foreign p) unfinished is or = absurd (elim or.1 [ inl short ↦ omega arith | inr part ↦ omega arith ])
same_rest bytes (foreign p) no_length is or = absurd (omega arith)
same_rest bytes (foreign p) (foreign q) is or = ap foreign (is.3 ∙ sym or.3)

-- a front of an unfinished ADU begins no ADU
pub none_unfinished : (bytes more others : List ℕ) (message : Message Header) → IsRest (bytes ++ more) unfinished → BeginsWith bytes message others → ⊥
none_unfinished bytes more others message is begins = no_rest unfinished (begins_longer begins more) is
  where
    begins_longer : {bytes others : List ℕ} {message : Message Header} → BeginsWith bytes message others → (more : List ℕ) → BeginsWith (bytes ++ more) message (others ++ more)
    begins_longer {bytes} {others} {message} begins more = record {
      joined = ap (λ front. front ++ more) begins.joined ∙ append_assoc (adu_of message.header message.pdu) others more;
      whole = begins.whole;
    }
