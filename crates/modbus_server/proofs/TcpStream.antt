-- ADUs with nothing left have no fault, and go on as they were read.
use Rattle.std.proofs.Common.{◌≡◌, inl, inr, ℕ, List, [], ◌∷◌, ◌++◌, sym, ap, ◌∙◌, append_assoc}
use Rattle.std.specs.Prelude.{All}
use Rattle.modbus_frame.specs.declared.tcp.Header.{Header}
use Rattle.modbus_pdu.specs.Message.{Message}
use Rattle.modbus_tcp.specs.Adu.{IsAdu, stream_of}
use Rattle.modbus_tcp.specs.Stream.{Rest, empty, unfinished, no_length, foreign, IsRest, IsSplit}
use Rattle.modbus_server.specs.declared.error.ProcessError.{ProcessError}
use Rattle.modbus_server.specs.declared.error.ProcessError.TheVariants.{InvalidLength, InvalidProtocol}
use Rattle.modbus_server.specs.Tcp.{IsNextAdu, AreAllAdus, IsFaultAfter, AreOnlyAdus}

module _ (one : (bytes rest left : List ℕ) (adus others : List (Message Header)) (kind other : Rest) → IsSplit bytes adus rest kind → IsSplit bytes others left other
    → (adus ≡ others) × (rest ≡ left) × (kind ≡ other))
    (first : (bytes held rest : List ℕ) (adus all : List (Message Header)) (kind : Rest) → bytes ≡ stream_of adus ++ held → All IsAdu adus → IsSplit bytes all rest kind
    → (later : List (Message Header)) × (all ≡ adus ++ later) × IsSplit held later rest kind)
    (stays_without : (bytes more : List ℕ) → IsRest bytes no_length → IsRest (bytes ++ more) no_length)
    (stays_foreign : (bytes more : List ℕ) (protocol : ℕ) → IsRest bytes (foreign protocol) → IsRest (bytes ++ more) (foreign protocol))
    (read rest cuts : List ℕ) (messages before : List (Message Header)) where
  pub unbroken : (fault : ProcessError) → AreOnlyAdus (read ++ rest) messages → IsFaultAfter read cuts before fault → ⊥
  unbroken InvalidLength clean (left, split) =
      let more : IsSplit (read ++ rest) before (left ++ rest) no_length = record {
        joined = ap (λ bytes. bytes ++ rest) split.joined ∙ append_assoc (stream_of before) left rest;
        whole = split.whole;
        left = stays_without left rest split.left;
      } in
      let kinds : empty ≡ no_length = (one (read ++ rest) [] (left ++ rest) messages before empty no_length clean more).2 in
      cc
  unbroken (InvalidProtocol protocol) clean (left, split) =
      let more : IsSplit (read ++ rest) before (left ++ rest) (foreign protocol) = record {
        joined = ap (λ bytes. bytes ++ rest) split.joined ∙ append_assoc (stream_of before) left rest;
        whole = split.whole;
        left = stays_foreign left rest protocol split.left;
      } in
      let kinds : empty ≡ foreign protocol = (one (read ++ rest) [] (left ++ rest) messages before empty (foreign protocol) clean more).2 in
      cc
  unbroken _ clean b = absurd b

  pub next : (message : Message Header) → AreOnlyAdus (read ++ rest) messages → IsNextAdu read cuts before message
      → (later : List (Message Header)) × (messages ≡ (before ++ message ∷ []) ++ later)
  next message clean (others, joined, whole) =
      let all : read ++ rest ≡ stream_of (before ++ message ∷ []) ++ (others ++ rest) =
      ap (λ bytes. bytes ++ rest) joined ∙ append_assoc (stream_of (before ++ message ∷ [])) others rest in
      let more = first (read ++ rest) (others ++ rest) [] (before ++ message ∷ []) messages empty all whole clean in
      (more.0, more.1)

  pub used : (left : List ℕ) → AreOnlyAdus read messages → AreAllAdus read cuts left before → left ≡ []
  used left clean (inl split) = split.left
  used left clean (inr split) = sym (one read [] left messages before empty unfinished clean split).1
