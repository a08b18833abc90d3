-- ADUs of other transactions or units at the front of bytes, one after another.
use Rattle.std.proofs.Common.{◌≡◌, ℕ, ◌+◌, List, [], ◌∷◌, ◌++◌, length, drop, take, ◌-◌, Some, None, refl, sym, ap, ◌∙◌, subst, arith, append-nil, append_assoc, length-drop}
use Rattle.std.proofs.lemmas.List.{drop-drop, take_all}
use Rattle.std.proofs.lemmas.List.Elements.{All-append, All-cons, All-nil}
use Rattle.std.proofs.lemmas.Grind.{flat_map-append, common_steps}
use Rattle.modbus_frame.specs.declared.fault.HeaderSeen.{HeaderSeen}
use Rattle.modbus_frame.specs.declared.tcp.Header.{Header}
use Rattle.modbus_tcp.specs.Adu.{Adus, adu_of, IsAdu, stream_of}
use Rattle.modbus_frame.specs.declared.fault.TransportError.TheVariants.{InvalidProtocol}
use Rattle.modbus_pdu.specs.Message.{Message, message}
use Rattle.modbus_tcp.specs.Stream.{BeginsWith, foreign, IsRest}
use Rattle.modbus_client.specs.Protocol.{reply, broken}
use Rattle.modbus_client.specs.Tcp.{header_seen, IsOfAnother, DropsAdus, EndsOfAnother, FindsOwnAdu}

-- a slice from a place on
pub rest_of : (bytes : List ℕ) (start : ℕ) → take (length bytes - start) (drop start bytes) ≡ drop start bytes
rest_of bytes start = take_all (length bytes - start) (drop start bytes) (omega (arith, length-drop start bytes))

-- a place behind another
further : (bytes held : List ℕ) (start more next : ℕ) → held ≡ drop start bytes → next ≡ start + more → drop more held ≡ drop next bytes
further bytes held start more next same sum = grind (arith, common_steps, drop-drop, same, sum)

module _ (asked : HeaderSeen) where
  pub drops_none : (bytes : List ℕ) → DropsAdus asked bytes [] bytes
  drops_none bytes = record { joined = refl; whole = All-nil IsAdu; others = All-nil (IsOfAnother asked) }

  drops_one : (bytes left : List ℕ) (message : Message Header) → BeginsWith bytes message left → IsOfAnother asked message → DropsAdus asked bytes (message ∷ []) left
  drops_one bytes left message begins other = record {
    joined = begins.joined ∙ ap (λ adu. adu ++ left) (sym (append-nil (adu_of message.header message.pdu)));
    whole = All-cons IsAdu message [] begins.whole (All-nil IsAdu);
    others = All-cons (IsOfAnother asked) message [] other (All-nil (IsOfAnother asked));
  }

  drops_both : (bytes held left : List ℕ) (adus more : Adus) → DropsAdus asked bytes adus held → DropsAdus asked held more left → DropsAdus asked bytes (adus ++ more) left
  drops_both bytes held left adus more a b =
      let bytes_of : Message Header → List ℕ = λ m. adu_of m.header m.pdu in record {
        joined = a.joined ∙ ap (λ rest. stream_of adus ++ rest) b.joined ∙ sym (append_assoc (stream_of adus) (stream_of more) left)
            ∙ ap (λ adus. adus ++ left) (sym (flat_map-append bytes_of adus more));
        whole = All-append IsAdu adus more a.whole b.whole;
        others = All-append (IsOfAnother asked) adus more a.others b.others;
      }

  -- the next ADU is of another too
  pub drops_next : (bytes held : List ℕ) (start end next : ℕ) (adus : Adus) → held ≡ drop start bytes → DropsAdus asked bytes adus (drop start bytes)
      → EndsOfAnother asked held (Some end) → next ≡ start + end → (all : Adus) × DropsAdus asked bytes all (drop next bytes)
  drops_next bytes held start end next adus same d (some, within, message, begins, other) sum =
      let one : DropsAdus asked held (message ∷ []) (drop end held) = drops_one held (drop end held) message begins other in
      let here = further bytes held start end next same sum in
      (adus ++ message ∷ [], drops_both bytes (drop start bytes) (drop next bytes) adus (message ∷ []) d (subst (λ left. DropsAdus asked (drop start bytes) (message ∷ []) left) here (subst (λ b. DropsAdus asked b (message ∷ []) (drop end held)) same one)))

  -- the ADU behind them is the reply
  pub own_adu : (bytes held pdu : List ℕ) (start end used : ℕ) (header : Header) (seen : HeaderSeen) (adus : Adus) → held ≡ drop start bytes
      → DropsAdus asked bytes adus (drop start bytes) → EndsOfAnother asked (drop start bytes) None → BeginsWith held (message header pdu) (drop end held) → used ≡ start + end
      → seen ≡ header_seen header → FindsOwnAdu asked bytes [] (reply (drop used bytes) seen pdu)
  own_adu bytes held pdu start end used header seen adus same d all begins sum is =
      let here : BeginsWith (drop start bytes) (message header pdu) (drop used bytes) =
      subst (λ left. BeginsWith (drop start bytes) (message header pdu) left) (further bytes held start end used same sum) (subst (λ b. BeginsWith b (message header pdu) (drop end held)) same begins) in record {
        dropped = adus;
        left = drop start bytes;
        drops = d;
        finds = (header, here, is);
        own = is ∙ all (message header pdu) (drop used bytes) here;
      }

  -- a header behind them is of another protocol
  pub foreign_behind : (bytes held : List ℕ) (start used protocol : ℕ) (adus : Adus) → held ≡ drop start bytes → DropsAdus asked bytes adus (drop start bytes)
      → IsRest held (foreign protocol) → used ≡ start + 7 → FindsOwnAdu asked bytes [] (broken (drop used bytes) (InvalidProtocol protocol))
  foreign_behind bytes held start used protocol adus same d rest sum = record {
    dropped = adus;
    left = drop start bytes;
    drops = d;
    finds = (subst (λ b. IsRest b (foreign protocol)) same rest, sym (further bytes (drop start bytes) start 7 used refl sum));
    own = tt;
  }
