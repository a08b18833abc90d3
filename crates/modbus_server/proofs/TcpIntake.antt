-- What a buffer of ADUs gives.
use Rattle.std.proofs.Common.{◌≡◌, ◌⊎◌, inl, inr, ℕ, List, [], ◌∷◌, ◌++◌, sym, ap, ◌∙◌, append-nil, append_assoc}
use Rattle.std.specs.Prelude.{All}
use Rattle.std.proofs.lemmas.List.Elements.{All-append, All-cons, All-nil}
use Rattle.std.proofs.lemmas.Grind.{flat_map-append}
use Rattle.modbus_frame.specs.declared.tcp.Header.{Header}
use Rattle.modbus_pdu.specs.Message.{Message}
use Rattle.modbus_tcp.specs.Adu.{adu_of, IsAdu, stream_of}
use Rattle.modbus_tcp.specs.Stream.{Rest, empty, unfinished, IsRest, IsSplit, BeginsWith}
use Rattle.modbus_server.specs.Tcp.{Follows, IsNextAdu, AreAllAdus}

stream_more : (adus : List (Message Header)) (message : Message Header) (others : List ℕ)
    → stream_of (adus ++ message ∷ []) ++ others ≡ stream_of adus ++ (adu_of message.header message.pdu ++ others)
stream_more adus message others =
    let bytes_of : Message Header → List ℕ = λ m. adu_of m.header m.pdu in
    ap (λ bytes. bytes ++ others) (flat_map-append bytes_of adus (message ∷ []) ∙ ap (λ bytes. stream_of adus ++ bytes) (append-nil (adu_of message.header message.pdu)))
    ∙ append_assoc (stream_of adus) (adu_of message.header message.pdu) others

module _ (bytes cuts held : List ℕ) (taken : List (Message Header)) (s : Follows bytes cuts held taken) where
  pub next_adu : (message : Message Header) (others : List ℕ) → BeginsWith held message others
      → Follows bytes cuts others (taken ++ message ∷ []) × IsNextAdu bytes cuts taken message
  next_adu message others begins =
      let joined : bytes ≡ stream_of (taken ++ message ∷ []) ++ others = s.0 ∙ ap (λ rest. stream_of taken ++ rest) begins.joined ∙ sym (stream_more taken message others) in
      let whole : All IsAdu (taken ++ message ∷ []) = All-append IsAdu taken (message ∷ []) s.1 (All-cons IsAdu message [] begins.whole (All-nil IsAdu)) in
      ((joined, whole), (others, joined, whole))

  pub split_with : (kind : Rest) → IsRest held kind → IsSplit bytes taken held kind
  split_with kind left = record { joined = s.0; whole = s.1; left = left }

  pub all_adus : IsRest held empty ⊎ IsRest held unfinished → AreAllAdus bytes cuts held taken
  all_adus (inl none) = inl (split_with empty none)
  all_adus (inr part) = inr (split_with unfinished part)
