-- In given bytes with given cuts the search of a client of a serial line stands in one way.
use Rattle.std.proofs.Common.{◌≡◌, ℕ, ◌+◌, List, take, drop, sym, ap, ◌∙◌}
use Rattle.std.specs.Prelude.{slice_index}
use Rattle.modbus_frame.specs.declared.fault.HeaderSeen.{HeaderSeen}
use Rattle.modbus_frame.specs.declared.fault.TransportError.{TransportError}
use Rattle.modbus_client.specs.Protocol.{Found, waiting, reply, broken}
use Rattle.modbus_client.specs.Search as search
use Rattle.modbus_client.specs.Rtu.{slave_seen, FindsReplyFrame, FoundFrame}
use Rattle.modbus_client.proofs.OneSearch.{one_search}

pub same_reply : (h h' : List ℕ) (s s' : HeaderSeen) (p p' : List ℕ) → h ≡ h' → s ≡ s' → p ≡ p' → reply h s p ≡ reply h' s' p'
same_reply h h' s s' p p' e f g = ap (λ x. reply x s p) e ∙ ap (λ x. reply h' x p) f ∙ ap (λ x. reply h' s' x) g

pub same_broken : (h h' : List ℕ) (f f' : TransportError) → h ≡ h' → f ≡ f' → broken h f ≡ broken h' f'
same_broken h h' f f' e g = ap (λ x. broken x f) e ∙ ap (λ x. broken h' x) g

module _ (bytes cuts : List ℕ) where
  same_frame : (held held' : List ℕ) (header header' : HeaderSeen) (pdu pdu' : List ℕ) → FoundFrame bytes cuts held header pdu → FoundFrame bytes cuts held' header' pdu' → reply held header pdu ≡ reply held' header' pdu'
  same_frame held held' header header' pdu pdu' a b =
      let e : search.reply a.offset a.pdu_len ≡ search.reply b.offset b.pdu_len = one_search bytes cuts (search.reply a.offset a.pdu_len) (search.reply b.offset b.pdu_len) a.finds b.finds in
      let at : a.offset ≡ b.offset = cc in
      let long : a.pdu_len ≡ b.pdu_len = cc in
      same_reply held held' header header' pdu pdu'
      (a.holds ∙ ap (λ n. drop (n + (a.pdu_len + 3)) bytes) at ∙ ap (λ n. drop (b.offset + (n + 3)) bytes) long ∙ sym b.holds)
      (a.from ∙ ap (λ n. slave_seen (slice_index bytes n)) at ∙ sym b.from)
      (a.is ∙ ap (λ n. take a.pdu_len (drop (n + 1) bytes)) at ∙ ap (λ n. take n (drop (b.offset + 1) bytes)) long ∙ sym b.is)

  pub one_frame : (found other : Found) → FindsReplyFrame bytes cuts found → FindsReplyFrame bytes cuts other → found ≡ other
  one_frame (waiting held) (waiting held') a b =
      let e : search.waiting a.place ≡ search.waiting b.place = one_search bytes cuts (search.waiting a.place) (search.waiting b.place) a.finds b.finds in
      let at : a.place ≡ b.place = cc in
      ap waiting (a.holds ∙ ap (λ n. drop n bytes) at ∙ sym b.holds)
  one_frame (waiting held) (reply held' header pdu) a b =
      let e : search.waiting a.place ≡ search.reply b.offset b.pdu_len = one_search bytes cuts (search.waiting a.place) (search.reply b.offset b.pdu_len) a.finds b.finds in cc
  one_frame (waiting held) (broken held' fault) a b =
      let e : search.waiting a.place ≡ search.crowd b.offset = one_search bytes cuts (search.waiting a.place) (search.crowd b.offset) a.finds b.finds in cc
  one_frame (reply held header pdu) (waiting held') a b =
      let e : search.reply a.offset a.pdu_len ≡ search.waiting b.place = one_search bytes cuts (search.reply a.offset a.pdu_len) (search.waiting b.place) a.finds b.finds in cc
  one_frame (reply held header pdu) (reply held' header' pdu') a b = same_frame held held' header header' pdu pdu' a b
  one_frame (reply held header pdu) (broken held' fault) a b =
      let e : search.reply a.offset a.pdu_len ≡ search.crowd b.offset = one_search bytes cuts (search.reply a.offset a.pdu_len) (search.crowd b.offset) a.finds b.finds in cc
  one_frame (broken held fault) (waiting held') a b =
      let e : search.crowd a.offset ≡ search.waiting b.place = one_search bytes cuts (search.crowd a.offset) (search.waiting b.place) a.finds b.finds in cc
  one_frame (broken held fault) (reply held' header pdu) a b =
      let e : search.crowd a.offset ≡ search.reply b.offset b.pdu_len = one_search bytes cuts (search.crowd a.offset) (search.reply b.offset b.pdu_len) a.finds b.finds in cc
  one_frame (broken held fault) (broken held' fault') a b =
      let e : search.crowd a.offset ≡ search.crowd b.offset = one_search bytes cuts (search.crowd a.offset) (search.crowd b.offset) a.finds b.finds in
      let at : a.offset ≡ b.offset = cc in
      same_broken held held' fault fault' (a.holds ∙ ap (λ n. drop (n + 1) bytes) at ∙ sym b.holds) (a.is ∙ sym b.is)
