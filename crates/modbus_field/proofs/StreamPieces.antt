-- The pieces of a stream: they are taken off one after another, and bytes are pieces and a rest in one way.
use Rattle.std.proofs.Common.{◌≡◌, inl, inr, ℕ, ◌≤◌, List, [], ◌∷◌, ◌++◌, length, ◌+◌, ◌-◌, map, take, drop, refl, sym, ap, ◌∙◌, subst, arith, length-append, append-nil, append_assoc}
use Rattle.std.specs.Prelude.{◌⊎◌, ◌<◌, All}
use lib.Seq.{paste}
use Rattle.std.proofs.lemmas.List.{get_or_append_left, length-drop, take_all, map-append, take-append-drop, take_at, drop_at}
use Rattle.std.proofs.lemmas.List.Elements.{All-append, All-cons, All-nil, All-head, All-tail}
use Rattle.std.proofs.lemmas.Grind.{flat_map-append}
use Rattle.modbus_frame.specs.declared.tcp.Header.{Header}
use Rattle.modbus_pdu.specs.Message.{Message}
use Rattle.modbus_pdu.specs.Fields.{word_at}
use Rattle.modbus_tcp.specs.Limits.{uncounted}
use Rattle.modbus_tcp.specs.Stream.{told_length}
use Rattle.modbus_field.specs.Pieces.{IsPiece, IsPartial, IsForeign, HasNoLength, protocol_end, most_told, stream_of, message_in_piece, AreMessages}

abbrev Messages : Type 0
Messages = List (Message Header)

stream_more : (pieces : List (List ℕ)) (piece rest : List ℕ) → stream_of (pieces ++ piece ∷ []) ++ rest ≡ stream_of pieces ++ (piece ++ rest)
stream_more pieces piece rest =
    let itself : List ℕ → List ℕ = λ p. p in
    ap (λ bytes. bytes ++ rest) (flat_map-append itself pieces (piece ∷ []) ∙ ap (λ bytes. stream_of pieces ++ bytes) (append-nil piece))
    ∙ append_assoc (stream_of pieces) piece rest

-- one more piece is taken off
pub one_more : (bytes held : List ℕ) (end : ℕ) (messages : Messages) → AreMessages bytes held messages → IsPiece (take end held)
    → AreMessages bytes (drop end held) (messages ++ message_in_piece (take end held) ∷ [])
one_more bytes held end messages are piece = record {
  pieces = are.pieces ++ take end held ∷ [];
  joined = are.joined ∙ ap (λ rest. stream_of are.pieces ++ rest) (sym (take-append-drop end held)) ∙ sym (stream_more are.pieces (take end held) (drop end held));
  whole = All-append IsPiece are.pieces (take end held ∷ []) are.whole (All-cons IsPiece (take end held) [] piece (All-nil IsPiece));
  are = ap (λ front. front ++ message_in_piece (take end held) ∷ []) are.are ∙ sym (map-append message_in_piece are.pieces (take end held ∷ []));
}

-- bytes that follow belong to the rest
pub grown : (bytes held more : List ℕ) (messages : Messages) → AreMessages bytes held messages → AreMessages (bytes ++ more) (held ++ more) messages
grown bytes held more messages are = record {
  pieces = are.pieces;
  joined = ap (λ front. front ++ more) are.joined ∙ append_assoc (stream_of are.pieces) held more;
  whole = are.whole;
  are = are.are;
}

pub nothing_read : AreMessages [] [] []
nothing_read = record { pieces = []; joined = refl; whole = All-nil IsPiece; are = refl }

-- what the first bytes tell is told by all bytes that begin with them
told_in_front : (piece rest : List ℕ) → uncounted ≤ length piece → told_length (piece ++ rest) ≡ told_length piece
told_in_front piece rest long =
    let high = get_or_append_left piece rest 0 4 (omega arith) in
    let low = get_or_append_left piece rest 0 5 (omega arith) in
    omega (arith, high, low)

protocol_in_front : (piece rest : List ℕ) → protocol_end ≤ length piece → word_at (piece ++ rest) 2 ≡ word_at piece 2
protocol_in_front piece rest long =
    let high = get_or_append_left piece rest 0 2 (omega arith) in
    let low = get_or_append_left piece rest 0 3 (omega arith) in
    omega (arith, high, low)

-- bytes that begin with a piece are not partial
not_partial : (piece rest : List ℕ) → IsPiece piece → IsPartial (piece ++ rest) → ⊥
not_partial piece rest (long, told, size) (inl short) = omega (arith, length-append piece rest)
not_partial piece rest (long, told, size) (inr (inl (modbus, short))) = omega (arith, length-append piece rest)
not_partial piece rest (long, told, size) (inr (inr (tells, short))) = omega (arith, length-append piece rest, told_in_front piece rest long)

-- two pieces that the same bytes begin with are the same
same_front : (p q r s : List ℕ) → IsPiece p → IsPiece q → p ++ r ≡ q ++ s → (p ≡ q) × (r ≡ s)
same_front p q r s (p_long, p_told, p_size) (q_long, q_told, q_size) e =
    let told : told_length p ≡ told_length q = sym (told_in_front p r p_long) ∙ ap told_length e ∙ told_in_front q s q_long in
    let size : length p ≡ length q = omega (arith, told) in
    (sym (take_at p r (length q) size) ∙ ap (take (length q)) e ∙ take_at q s (length q) refl, sym (drop_at p r (length q) size) ∙ ap (drop (length q)) e ∙ drop_at q s (length q) refl)

-- pieces in front of bytes are the first of those that all of the bytes are
pub first_pieces : (ps qs : List (List ℕ)) (r s : List ℕ) → All IsPiece ps → All IsPiece qs → stream_of ps ++ r ≡ stream_of qs ++ s → IsPartial s
    → (later : List (List ℕ)) × (qs ≡ ps ++ later) × (r ≡ stream_of later ++ s)
first_pieces [] qs r s p_whole q_whole e partial = (qs, refl, e)
first_pieces (p ∷ ps) [] r s p_whole q_whole e partial =
    let begins : p ++ (stream_of ps ++ r) ≡ s = sym (append_assoc p (stream_of ps) r) ∙ e in
    absurd (not_partial p (stream_of ps ++ r) (All-head IsPiece p ps p_whole) (subst IsPartial (sym begins) partial))
first_pieces (p ∷ ps) (q ∷ qs) r s p_whole q_whole e partial =
    let all : p ++ (stream_of ps ++ r) ≡ q ++ (stream_of qs ++ s) = sym (append_assoc p (stream_of ps) r) ∙ e ∙ append_assoc q (stream_of qs) s in
    let same = same_front p q (stream_of ps ++ r) (stream_of qs ++ s) (All-head IsPiece p ps p_whole) (All-head IsPiece q qs q_whole) all in
    let inner = first_pieces ps qs r s (All-tail IsPiece p ps p_whole) (All-tail IsPiece q qs q_whole) same.1 partial in
    (inner.0, cc (same.0, inner.1), inner.2)

nothing_is_partial : IsPartial []
nothing_is_partial = inl (omega arith)

-- the messages of a front of bytes are the first of those of all
pub goes_on : (read rest others : List ℕ) (messages front : Messages) → AreMessages (read ++ rest) [] messages → AreMessages read others front
    → (later : Messages) × (messages ≡ front ++ later)
goes_on read rest others messages front clean are =
    let all : stream_of are.pieces ++ (others ++ rest) ≡ stream_of clean.pieces ++ [] =
    sym (append_assoc (stream_of are.pieces) others rest) ∙ ap (λ bytes. bytes ++ rest) (sym are.joined) ∙ clean.joined in
    let first = first_pieces are.pieces clean.pieces (others ++ rest) [] are.whole clean.whole all nothing_is_partial in
    (map message_in_piece first.0, clean.are ∙ ap (map message_in_piece) first.1 ∙ map-append message_in_piece are.pieces first.0 ∙ ap (λ m. m ++ map message_in_piece first.0) (sym are.are))

-- the later of pieces are pieces
whole_later : (ps later : List (List ℕ)) → All IsPiece (ps ++ later) → All IsPiece later
whole_later [] later whole = whole
whole_later (p ∷ ps) later whole = whole_later ps later (All-tail IsPiece p (ps ++ later) whole)

-- bytes that are pieces, and begin with none, are nothing
none_partial : (left : List ℕ) (later : List (List ℕ)) → All IsPiece later → left ≡ stream_of later → IsPartial left → left ≡ []
none_partial left [] whole e partial = e
none_partial left (p ∷ later) whole e partial = absurd (not_partial p (stream_of later) (All-head IsPiece p later whole) (subst IsPartial e partial))

-- where all bytes are pieces, nothing is left behind them
pub nothing_left : (read left : List ℕ) (messages before : Messages) → AreMessages read [] messages → AreMessages read left before → IsPartial left → left ≡ []
nothing_left read left messages before clean are partial =
    let all : stream_of are.pieces ++ left ≡ stream_of clean.pieces ++ [] = sym are.joined ∙ clean.joined in
    let first = first_pieces are.pieces clean.pieces left [] are.whole clean.whole all nothing_is_partial in
    none_partial left first.0 (whole_later are.pieces first.0 (subst (All IsPiece) first.1 clean.whole)) (first.2 ∙ append-nil (stream_of first.0)) partial

-- a header that ends the stream is in front of no piece
not_foreign : (left rest piece others : List ℕ) (protocol : ℕ) → IsForeign left protocol → IsPiece piece → left ++ rest ≡ piece ++ others → ⊥
not_foreign left rest piece others protocol (long, tells, other) (whole, told, size) e =
    other (sym tells ∙ sym (protocol_in_front left rest long) ∙ ap (λ bytes. word_at bytes 2) e ∙ protocol_in_front piece others (omega (arith, whole)) ∙ told.0)

not_unlengthed : (left rest piece others : List ℕ) → HasNoLength left → IsPiece piece → left ++ rest ≡ piece ++ others → ⊥
not_unlengthed left rest piece others (long, modbus, wrong) (whole, told, size) e =
    let same : told_length left ≡ told_length piece = sym (told_in_front left rest long) ∙ ap told_length e ∙ told_in_front piece others whole in
    by_length wrong same
  where
    by_length : (told_length left ≡ 0) ⊎ (most_told < told_length left) → told_length left ≡ told_length piece → ⊥
    by_length (inl none) same = omega (arith, none, same, told.1)
    by_length (inr much) same = omega (arith, much, same, told.2)

-- behind pieces of a stream that is pieces alone no such header stands
module _ (read rest left : List ℕ) (messages before : Messages) (clean : AreMessages (read ++ rest) [] messages) (are : AreMessages read left before) where
  behind : (some : 0 < length left) → (piece : List ℕ) × (others : List ℕ) × IsPiece piece × (left ++ rest ≡ piece ++ others)
  behind some =
      let all : stream_of are.pieces ++ (left ++ rest) ≡ stream_of clean.pieces ++ [] =
      sym (append_assoc (stream_of are.pieces) left rest) ∙ ap (λ bytes. bytes ++ rest) (sym are.joined) ∙ clean.joined in
      let first = first_pieces are.pieces clean.pieces (left ++ rest) [] are.whole clean.whole all nothing_is_partial in
      by_later first.0 (whole_later are.pieces first.0 (subst (All IsPiece) first.1 clean.whole)) (first.2 ∙ append-nil (stream_of first.0))
    where
      by_later : (later : List (List ℕ)) → All IsPiece later → left ++ rest ≡ stream_of later → (piece : List ℕ) × (others : List ℕ) × IsPiece piece × (left ++ rest ≡ piece ++ others)
      by_later [] whole e = absurd (omega (arith, some, length-append left rest, ap length e))
      by_later (p ∷ later) whole e = (p, stream_of later, All-head IsPiece p later whole, e)

  pub no_foreign : (protocol : ℕ) → IsForeign left protocol → ⊥
  no_foreign protocol foreign =
      let it = behind (omega (arith, foreign.0)) in
      not_foreign left rest it.0 it.1 protocol foreign it.2 it.3

  pub no_unlengthed : HasNoLength left → ⊥
  no_unlengthed none =
      let it = behind (omega (arith, none.0)) in
      not_unlengthed left rest it.0 it.1 none it.2 it.3

-- what is left of bytes whose rest was moved to the front
pub moved : (bytes : List ℕ) (count left : ℕ) → left ≡ length bytes - count → take left (paste bytes 0 (drop count bytes) (length bytes - count)) ≡ drop count bytes
moved bytes count left e =
    let rest = drop count bytes in
    let size : length rest ≡ length bytes - count = length-drop count bytes in
    let all : take (length bytes - count) rest ≡ rest = take_all (length bytes - count) rest (omega (arith, size)) in
    ap (λ front. take left (front ++ drop (0 + (length bytes - count)) bytes)) all ∙ take_at rest (drop (0 + (length bytes - count)) bytes) left (size ∙ sym e)
