-- In given bytes the search of a TCP client stands in one way, and an ADU alone is found in whatever pieces it comes.
use Rattle.std.proofs.Common.{◌≡◌, ◌⊎◌, inl, inr, ℕ, List, [], ◌∷◌, ◌++◌, refl, sym, ap, ◌∙◌, append-nil}
use Rattle.modbus_frame.specs.declared.tcp.Header.{Header}
use Rattle.modbus_frame.specs.declared.fault.TransportError.{TransportError}
use Rattle.modbus_frame.specs.declared.fault.TransportError.TheVariants.{InvalidLength, InvalidProtocol}
use Rattle.modbus_pdu.specs.Message.{Message, message}
use Rattle.modbus_tcp.specs.Adu.{adu_of, IsAdu}
use Rattle.modbus_tcp.specs.Stream.{Rest, empty, unfinished, no_length, foreign, IsRest, BeginsWith}
use Rattle.modbus_client.specs.Protocol.{Found, waiting, reply, broken, IsOfMessage}
use Rattle.modbus_client.specs.Tcp.{header_seen, IsBrokenAt, FindsReplyAdu}
use Rattle.modbus_client.proofs.OneFrame.{same_reply, same_broken}

-- one front of bytes: an ADU and the others, or a rest of one kind
abbrev pub OneBegins : Type 0
OneBegins = (bytes others left : List ℕ) (message other : Message Header) → BeginsWith bytes message others → BeginsWith bytes other left → (message ≡ other) × (others ≡ left)

abbrev pub OneRest : Type 0
OneRest = (bytes : List ℕ) (kind other : Rest) → IsRest bytes kind → IsRest bytes other → kind ≡ other

abbrev pub AreApart : Type 0
AreApart = (bytes others : List ℕ) (message : Message Header) (kind : Rest) → BeginsWith bytes message others → IsRest bytes kind → ⊥

module _ (one_begins : OneBegins) (one_rest : OneRest) (apart : AreApart) where
  module _ (bytes cuts : List ℕ) where
    not_both : {P : Type 0} (held : List ℕ) (fault : TransportError) → IsRest bytes empty ⊎ IsRest bytes unfinished → IsBrokenAt bytes held fault → P
    not_both held InvalidLength rest b = elim rest [
      | inl none ↦ (let e : empty ≡ no_length = one_rest bytes empty no_length none b.0 in cc)
      | inr some ↦ (let e : unfinished ≡ no_length = one_rest bytes unfinished no_length some b.0 in cc)
    ]
    not_both held (InvalidProtocol protocol) rest b = elim rest [
      | inl none ↦ (let e : empty ≡ foreign protocol = one_rest bytes empty (foreign protocol) none b.0 in cc)
      | inr some ↦ (let e : unfinished ≡ foreign protocol = one_rest bytes unfinished (foreign protocol) some b.0 in cc)
    ]
    not_both held _ rest b = absurd b

    pub not_waiting : {P : Type 0} (held : List ℕ) (message : Message Header) → IsRest bytes empty ⊎ IsRest bytes unfinished → BeginsWith bytes message held → P
    not_waiting held message rest b = elim rest [
      | inl none ↦ absurd (apart bytes held message empty b none)
      | inr some ↦ absurd (apart bytes held message unfinished b some)
    ]

    pub not_broken : {P : Type 0} (held held' : List ℕ) (message : Message Header) (fault : TransportError) → BeginsWith bytes message held → IsBrokenAt bytes held' fault → P
    not_broken held held' message InvalidLength b r = absurd (apart bytes held message no_length b r.0)
    not_broken held held' message (InvalidProtocol protocol) b r = absurd (apart bytes held message (foreign protocol) b r.0)
    not_broken held held' message _ b r = absurd r

    one_broken : (held held' : List ℕ) (fault fault' : TransportError) → IsBrokenAt bytes held fault → IsBrokenAt bytes held' fault' → broken held fault ≡ broken held' fault'
    one_broken held held' InvalidLength InvalidLength a b = same_broken held held' InvalidLength InvalidLength (a.1 ∙ sym b.1) refl
    one_broken held held' InvalidLength (InvalidProtocol p) a b = let e : no_length ≡ foreign p = one_rest bytes no_length (foreign p) a.0 b.0 in cc
    one_broken held held' (InvalidProtocol p) InvalidLength a b = let e : foreign p ≡ no_length = one_rest bytes (foreign p) no_length a.0 b.0 in cc
    one_broken held held' (InvalidProtocol p) (InvalidProtocol q) a b =
        let e : foreign p ≡ foreign q = one_rest bytes (foreign p) (foreign q) a.0 b.0 in
        let same : p ≡ q = cc in
        same_broken held held' (InvalidProtocol p) (InvalidProtocol q) (a.1 ∙ sym b.1) (ap InvalidProtocol same)
    one_broken held held' InvalidLength _ a b = absurd b
    one_broken held held' (InvalidProtocol p) _ a b = absurd b
    one_broken held held' _ fault' a b = absurd a

    pub one_adu : (found other : Found) → FindsReplyAdu bytes cuts found → FindsReplyAdu bytes cuts other → found ≡ other
    one_adu (waiting held) (waiting held') a b = ap waiting (a.1 ∙ sym b.1)
    one_adu (waiting held) (reply held' seen pdu) a (header, begins, is) = not_waiting held' (message header pdu) a.0 begins
    one_adu (waiting held) (broken held' fault) a b = not_both held' fault a.0 b
    one_adu (reply held seen pdu) (waiting held') (header, begins, is) b = not_waiting held (message header pdu) b.0 begins
    one_adu (reply held seen pdu) (reply held' seen' pdu') (header, begins, is) (header', begins', is') =
        let same = one_begins bytes held held' (message header pdu) (message header' pdu') begins begins' in
        let first : header ≡ header' = ap (λ (m : Message Header). m.header) same.0 in
        let second : pdu ≡ pdu' = ap (λ (m : Message Header). m.pdu) same.0 in
        same_reply held held' seen seen' pdu pdu' same.1 (is ∙ ap header_seen first ∙ sym is') second
    one_adu (reply held seen pdu) (broken held' fault) (header, begins, is) b = not_broken held held' (message header pdu) fault begins b
    one_adu (broken held fault) (waiting held') a b = not_both held fault b.0 a
    one_adu (broken held fault) (reply held' seen pdu) a (header, begins, is) = not_broken held' held (message header pdu) fault begins a
    one_adu (broken held fault) (broken held' fault') a b = one_broken held held' fault fault' a b

  -- what stands at the front stays when bytes follow
  module _ (begins_on : (bytes more others : List ℕ) (message : Message Header) → BeginsWith bytes message others → BeginsWith (bytes ++ more) message (others ++ more))
      (no_length_on : (bytes more : List ℕ) → IsRest bytes no_length → IsRest (bytes ++ more) no_length)
      (foreign_on : (bytes more : List ℕ) (protocol : ℕ) → IsRest bytes (foreign protocol) → IsRest (bytes ++ more) (foreign protocol))
      (header : Header) (pdu bytes rest cuts : List ℕ) (whole : IsAdu (message header pdu)) (joined : adu_of header pdu ≡ bytes ++ rest) where
    begins : BeginsWith (bytes ++ rest) (message header pdu) []
    begins = record { joined = sym joined ∙ sym (append-nil (adu_of header pdu)); whole = whole }

    both_none : (xs ys : List ℕ) → xs ++ ys ≡ [] → (xs ≡ []) × (ys ≡ [])
    both_none [] ys e = (refl, e)
    both_none (x ∷ xs) ys e = cc

    no_fault : (held : List ℕ) (fault : TransportError) → IsBrokenAt bytes held fault → ⊥
    no_fault held InvalidLength b = apart (bytes ++ rest) [] (message header pdu) no_length begins (no_length_on bytes rest b.0)
    no_fault held (InvalidProtocol protocol) b = apart (bytes ++ rest) [] (message header pdu) (foreign protocol) begins (foreign_on bytes rest protocol b.0)
    no_fault held _ b = b

    pub adu_alone : (found : Found) → FindsReplyAdu bytes cuts found → IsOfMessage (header_seen header) pdu rest found
    adu_alone (waiting held) a = λ none.
        let alone : BeginsWith bytes (message header pdu) [] = record { joined = sym (joined ∙ ap (λ r. bytes ++ r) none ∙ append-nil bytes) ∙ sym (append-nil (adu_of header pdu)); whole = whole } in
        not_waiting bytes cuts [] (message header pdu) a.0 alone
    adu_alone (reply held seen found) (other, here, is) =
        let same = one_begins (bytes ++ rest) (held ++ rest) [] (message other found) (message header pdu) (begins_on bytes rest held (message other found) here) begins in
        let none = both_none held rest same.1 in
        (none.1, none.0, is ∙ ap (λ (m : Message Header). header_seen m.header) same.0, ap (λ (m : Message Header). m.pdu) same.0)
    adu_alone (broken held fault) a = no_fault held fault a
