-- The first ADU of the transaction and the unit that were asked, after those of others.
use Rattle.std.proofs.Common.{◌≡◌, ◌≢◌, inl, ℕ, ◌+◌, ◌-◌, ◌^◌, min, List, [], ◌∷◌, ◌++◌, length, drop, Option, Some, None, Result, Ok, Err, refl, sym, ap, ◌∙◌, subst, arith, append-nil, append_assoc, length-append}
use Rattle.std.proofs.lemmas.List.Elements.{All-append, All-cons, All-nil, All-head, All-tail}
use Rattle.std.proofs.lemmas.Grind.{flat_map-append}
use Rattle.modbus_link.specs.Outside.{outside, Input, Output}
use Rattle.modbus_link.specs.Reads.{totals}
use Rattle.modbus_frame.specs.Meaning.{Asked, function_asked}
use Rattle.modbus_frame.specs.declared.response.Response.{Response}
use Rattle.modbus_frame.specs.declared.response.ExceptionResponse.{ExceptionResponse}
use Rattle.modbus_frame.specs.declared.fault.Error.TheVariants.{Protocol}
use Rattle.modbus_frame.specs.declared.fault.ProtocolError.TheVariants.{HeaderMismatch}
use Rattle.modbus_frame.specs.declared.tcp.Header.{Header}
use Rattle.modbus_frame.specs.declared.fault.HeaderSeen.{HeaderSeen}
use Rattle.modbus_pdu.specs.Message.{Message, message}
use Rattle.modbus_tcp.specs.Adu.{Adus, adu_of, IsAdu, stream_of}
use Rattle.modbus_tcp.specs.Stream.{no_length, foreign, IsRest, BeginsWith}
use Rattle.modbus_client.specs.declared.protocol.Reply.{Reply}
use Rattle.modbus_client.specs.declared.protocol.LookError.{LookError}
use Rattle.modbus_client.specs.declared.protocol.LookError.TheVariants as look
use Rattle.modbus_client.specs.Protocol.{Meaning, Found, waiting, reply, broken, IsOfMessage}
use Rattle.modbus_client.specs.Matches.{Answer}
use Rattle.modbus_client.specs.Call.{LooksAs}
use Rattle.modbus_client.specs.Calls.{CallEndsAs, Exchanged}
use Rattle.modbus_client.specs.Tcp.{header_seen, FindsReplyAdu, tcp_protocol, IsOfAnother, DropsAdus, EndsOfAnother, IsUnder, FindsOwnAdu, adus_in, CountsOthers, matching_protocol}
use Rattle.modbus_client.proofs.OneAdu.{OneBegins, OneRest, AreApart, not_waiting, not_broken, one_adu, adu_alone}

module _ (asked : HeaderSeen) where
  -- nothing is dropped
  pub drops_none : (bytes : List ℕ) → DropsAdus asked bytes [] bytes
  drops_none bytes = record { joined = refl; whole = All-nil IsAdu; others = All-nil (IsOfAnother asked) }

  -- with no byte the search waits
  pub opening : FindsOwnAdu asked [] [] (waiting [])
  opening = record { dropped = []; left = []; drops = drops_none []; finds = (inl refl, refl); own = tt }

  -- one ADU of another is dropped
  drops_one : (bytes left : List ℕ) (message : Message Header) → BeginsWith bytes message left → IsOfAnother asked message → DropsAdus asked bytes (message ∷ []) left
  drops_one bytes left message begins other = record {
    joined = begins.joined ∙ ap (λ adu. adu ++ left) (sym (append-nil (adu_of message.header message.pdu)));
    whole = All-cons IsAdu message [] begins.whole (All-nil IsAdu);
    others = All-cons (IsOfAnother asked) message [] other (All-nil (IsOfAnother asked));
  }

  drops_both : (bytes held left : List ℕ) (adus more : Adus) → DropsAdus asked bytes adus held → DropsAdus asked held more left → DropsAdus asked bytes (adus ++ more) left
  drops_both bytes held left adus more a b =
      let bytes_of : Message Header → List ℕ = λ m. adu_of m.header m.pdu in record {
        joined = a.joined ∙ ap (λ rest. stream_of adus ++ rest) b.joined ∙ sym (append_assoc (stream_of adus) (stream_of more) left)
            ∙ ap (λ adus. adus ++ left) (sym (flat_map-append bytes_of adus more));
        whole = All-append IsAdu adus more a.whole b.whole;
        others = All-append (IsOfAnother asked) adus more a.others b.others;
      }

  -- the next ADU is of another too, and is counted
  pub drops_next : (bytes held : List ℕ) (adus : Adus) (end : ℕ) → DropsAdus asked bytes adus held → EndsOfAnother asked held (Some end)
      → (all : Adus) × DropsAdus asked bytes all (drop end held) × (length all ≡ length adus + 1)
  drops_next bytes held adus end d (some, within, message, begins, other) = (
    adus ++ message ∷ [],
    drops_both bytes held (drop end held) adus (message ∷ []) d (drops_one held (drop end held) message begins other),
    length-append adus (message ∷ []),
  )

  drops_on : (bytes left more : List ℕ) (adus : Adus) → DropsAdus asked bytes adus left → DropsAdus asked (bytes ++ more) adus (left ++ more)
  drops_on bytes left more adus d = record {
    joined = ap (λ b. b ++ more) d.joined ∙ append_assoc (stream_of adus) left more;
    whole = d.whole;
    others = d.others;
  }

  -- bytes came after those in which the search waited, and what was held with them begins with more ADUs of others
  pub drops_further : (bytes cuts earlier more old left : List ℕ) (s : FindsOwnAdu asked bytes cuts (waiting earlier)) → old ≡ earlier ++ more → (adus : Adus) → DropsAdus asked old adus left
      → DropsAdus asked (bytes ++ more) (s.dropped ++ adus) left
  drops_further bytes cuts earlier more old left s is adus d =
      let held : old ≡ s.left ++ more = is ∙ ap (λ e. e ++ more) s.finds.1 in
      drops_both (bytes ++ more) (s.left ++ more) left s.dropped adus (drops_on bytes s.left more s.dropped s.drops) (subst (λ b. DropsAdus asked b adus left) held d)

  -- what is left begins with no ADU of another
  module _ (bytes cuts left : List ℕ) (adus : Adus) (d : DropsAdus asked bytes adus left) (none : EndsOfAnother asked left None) where
    finds_own : (found : Found) → FindsReplyAdu left cuts found → FindsOwnAdu asked bytes cuts found
    finds_own found finds = record { dropped = adus; left = left; drops = d; finds = finds; own = under found finds }
      where
        under : (found : Found) → FindsReplyAdu left cuts found → IsUnder asked found
        under (waiting held) finds = tt
        under (reply held seen pdu) (header, begins, is) = is ∙ none (message header pdu) held begins
        under (broken held fault) finds = tt

    pub looks_own : (reading : Meaning) (new : List ℕ) (result : Result (Option Reply) LookError) → LooksAs (record tcp_protocol { means = reading }) asked left cuts new result → LooksAs (record matching_protocol { means = reading }) asked bytes cuts new result
    looks_own reading new (Ok None) finds = finds_own (waiting new) finds
    looks_own reading new (Ok (Some found)) (pdu, finds, means) = (pdu, finds_own (reply new found.header pdu) finds, means)
    looks_own reading new (Err (look.Broken fault)) finds = finds_own (broken new fault) finds
    looks_own reading new (Err (look.Refused reason)) (header, pdu, finds, means) = (header, pdu, finds_own (reply new header pdu) finds, means)
    looks_own reading new (Err look.NoMemory) (rest, header, pdu, finds, carries) = (rest, header, pdu, finds_own (reply rest header pdu) finds, carries)

    pub counts_own : (reading : Meaning) (dropped : ℕ) → dropped ≡ adus_in adus → (new : List ℕ) (result : Result (Option Reply) LookError) → LooksAs (record tcp_protocol { means = reading }) asked left cuts new result → CountsOthers asked bytes cuts dropped
    unfolding finds_own
    counts_own reading dropped tells new (Ok None) finds = record { found = waiting new; finds = finds_own (waiting new) finds; tells = tells }
    counts_own reading dropped tells new (Ok (Some found)) (pdu, finds, means) = record { found = reply new found.header pdu; finds = finds_own (reply new found.header pdu) finds; tells = tells }
    counts_own reading dropped tells new (Err (look.Broken fault)) finds = record { found = broken new fault; finds = finds_own (broken new fault) finds; tells = tells }
    counts_own reading dropped tells new (Err (look.Refused reason)) (header, pdu, finds, means) = record { found = reply new header pdu; finds = finds_own (reply new header pdu) finds; tells = tells }
    counts_own reading dropped tells new (Err look.NoMemory) (rest, header, pdu, finds, carries) = record { found = reply rest header pdu; finds = finds_own (reply rest header pdu) finds; tells = tells }

  -- with no byte nothing is dropped
  pub none_dropped : CountsOthers asked [] [] 0
  unfolding opening
  none_dropped = record { found = waiting []; finds = opening; tells = refl }

  -- a counter that told some ADUs counts on by more
  pub count_on : (before after : ℕ) (adus more : Adus) → before ≡ adus_in adus → after ≡ min (before + adus_in more) (2 ^ 64 - 1) → after ≡ adus_in (adus ++ more)
  count_on before after adus more told on = omega (arith, told, on, length-append adus more)

  -- what begins with ADUs that are dropped begins with the first of them
  begins_first : (bytes left : List ℕ) (message : Message Header) (adus : Adus) → DropsAdus asked bytes (message ∷ adus) left → BeginsWith bytes message (stream_of adus ++ left)
  begins_first bytes left message adus d = record { joined = d.joined ∙ append_assoc (adu_of message.header message.pdu) (stream_of adus) left; whole = All-head IsAdu message adus d.whole }

  drops_rest : (bytes left : List ℕ) (message : Message Header) (adus : Adus) → DropsAdus asked bytes (message ∷ adus) left → DropsAdus asked (stream_of adus ++ left) adus left
  drops_rest bytes left message adus d = record { joined = refl; whole = All-tail IsAdu message adus d.whole; others = All-tail (IsOfAnother asked) message adus d.others }

module _ (one_begins : OneBegins) (one_rest : OneRest) (apart : AreApart) where
  module _ (asked : HeaderSeen) (cuts : List ℕ) where
    -- where a search that dropped nothing stands, the bytes begin with no ADU of another
    not_other : (left others : List ℕ) (found : Found) (message : Message Header) → FindsReplyAdu left cuts found → IsUnder asked found → BeginsWith left message others → IsOfAnother asked message → ⊥
    not_other left others (waiting held) message finds own begins other = not_waiting one_begins one_rest apart left cuts others message finds.0 begins
    not_other left others (reply held seen pdu) message (header, here, is) own begins other =
        let same = one_begins left held others (record { header = header; pdu = pdu }) message here begins in
        other (sym (ap (λ (m : Message Header). header_seen m.header) same.0) ∙ sym is ∙ own)
    not_other left others (broken held fault) message finds own begins other = not_broken one_begins one_rest apart left cuts others held message fault begins finds

    -- two searches in the same bytes drop the same ADUs
    module _ (found found' : Found) (left left' : List ℕ) (finds : FindsReplyAdu left cuts found) (finds' : FindsReplyAdu left' cuts found') (own : IsUnder asked found) (own' : IsUnder asked found') where
      same_left : (bytes : List ℕ) (adus adus' : Adus) → DropsAdus asked bytes adus left → DropsAdus asked bytes adus' left' → left ≡ left'
      same_left bytes [] [] d d' = sym d.joined ∙ d'.joined
      same_left bytes [] (message ∷ adus') d d' =
          let begins = subst (λ b. BeginsWith b message (stream_of adus' ++ left')) d.joined (begins_first asked bytes left' message adus' d') in
          absurd (not_other left (stream_of adus' ++ left') found message finds own begins (All-head (IsOfAnother asked) message adus' d'.others))
      same_left bytes (message ∷ adus) [] d d' =
          let begins = subst (λ b. BeginsWith b message (stream_of adus ++ left)) d'.joined (begins_first asked bytes left message adus d) in
          absurd (not_other left' (stream_of adus ++ left) found' message finds' own' begins (All-head (IsOfAnother asked) message adus d.others))
      same_left bytes (message ∷ adus) (message' ∷ adus') d d' =
          let same = one_begins bytes (stream_of adus ++ left) (stream_of adus' ++ left') message message' (begins_first asked bytes left message adus d) (begins_first asked bytes left' message' adus' d') in
          same_left (stream_of adus ++ left) adus adus' (drops_rest asked bytes left message adus d)
          (subst (λ b. DropsAdus asked b adus' left') (sym same.1) (drops_rest asked bytes left' message' adus' d'))

    pub one_own : (bytes : List ℕ) (found other : Found) → FindsOwnAdu asked bytes cuts found → FindsOwnAdu asked bytes cuts other → found ≡ other
    one_own bytes found other a b =
        let same = same_left found other a.left b.left a.finds b.finds a.own b.own bytes a.dropped b.dropped a.drops b.drops in
        one_adu one_begins one_rest apart a.left cuts found other a.finds (subst (λ l. FindsReplyAdu l cuts other) (sym same) b.finds)

    -- a number tells the ADUs that the search drops where it stands
    pub count_of : (bytes : List ℕ) (dropped : ℕ) (found : Found) → CountsOthers asked bytes cuts dropped → FindsOwnAdu asked bytes cuts found
        → (finds : FindsOwnAdu asked bytes cuts found) × (dropped ≡ adus_in finds.dropped)
    count_of bytes dropped found counts finds =
        subst (λ found. (finds : FindsOwnAdu asked bytes cuts found) × (dropped ≡ adus_in finds.dropped)) (one_own bytes counts.found found counts.finds finds) (counts.finds, counts.tells)

  module _ (begins_on : (bytes more others : List ℕ) (message : Message Header) → BeginsWith bytes message others → BeginsWith (bytes ++ more) message (others ++ more))
      (no_length_on : (bytes more : List ℕ) → IsRest bytes no_length → IsRest (bytes ++ more) no_length)
      (foreign_on : (bytes more : List ℕ) (protocol : ℕ) → IsRest bytes (foreign protocol) → IsRest (bytes ++ more) (foreign protocol))
      (header : Header) (pdu bytes rest cuts : List ℕ) (whole : IsAdu (message header pdu)) (joined : adu_of header pdu ≡ bytes ++ rest) where
    -- a front of one message alone begins with no ADU of another
    alone_by : (found : Found) (left : List ℕ) (adus : Adus) → DropsAdus (header_seen header) bytes adus left → FindsReplyAdu left cuts found → IsOfMessage (header_seen header) pdu rest found
    alone_by found left [] d finds =
        adu_alone one_begins one_rest apart begins_on no_length_on foreign_on header pdu bytes rest cuts whole joined found (subst (λ l. FindsReplyAdu l cuts found) (sym d.joined) finds)
    alone_by found left (message ∷ adus) d finds =
        let all : BeginsWith (bytes ++ rest) (record { header = header; pdu = pdu }) [] = record { joined = sym joined ∙ sym (append-nil (adu_of header pdu)); whole = whole } in
        let here = begins_on bytes rest (stream_of adus ++ left) message (begins_first (header_seen header) bytes left message adus d) in
        let same = one_begins (bytes ++ rest) ((stream_of adus ++ left) ++ rest) [] message (record { header = header; pdu = pdu }) here all in
        absurd (All-head (IsOfAnother (header_seen header)) message adus d.others (ap (λ (m : Message Header). header_seen m.header) same.0))

    pub own_alone : (found : Found) → FindsOwnAdu (header_seen header) bytes cuts found → IsOfMessage (header_seen header) pdu rest found
    own_alone found a = alone_by found a.left a.dropped a.drops a.finds

-- a call over this search tells no mismatch of headers
pub no_mismatch : (from to : Input) (sunk sinks : Output) (header : Header) (asked : Asked) (turns : ℕ) (held : List ℕ) (answer : Answer)
    → Exchanged matching_protocol (outside from sunk) (outside to sinks) header asked turns held answer → (request response : HeaderSeen) (received : Result Response ExceptionResponse)
    → answer ≢ Err (Protocol (HeaderMismatch request response received))
no_mismatch from to sunk sinks header asked turns held answer r request response received e =
    let ends = subst (λ (a : Answer). CallEndsAs matching_protocol (header_seen header) (function_asked asked) r.fed (totals r.made) held a) e r.ends in
    let (seen, pdu, result, finds, means, judges) = ends in judges.0 finds.own
