-- The first frame of a slave, as bytes go on.
use Rattle.std.proofs.Common.{◌≡◌, ◌≢◌, ℕ, ◌+◌, ◌-◌, ◌^◌, ◌≤◌, ◌==◌, nat_le, min, Bool, true, false, if◌then◌else◌, List, [], ◌∷◌, ◌++◌, length, refl, sym, ap, ◌∙◌, subst, arith, append-nil, Option, Some, None, Result, Ok, Err}
use Rattle.std.specs.List.{AllByRecursion}
use Rattle.std.proofs.lemmas.Bool.{eqb-true}
use Rattle.modbus_frame.specs.declared.fault.HeaderSeen.{HeaderSeen}
use Rattle.modbus_frame.specs.declared.fault.TransportError.{TransportError}
use Rattle.modbus_pdu.specs.SlavePdu.{SlavePdu, IsFramed}
use Rattle.modbus_pdu.specs.Message.{message}
use Rattle.modbus_ascii.specs.Encoder.{frame}
use Rattle.modbus_ascii.specs.Frames.{frames}
use Rattle.modbus_ascii.specs.Text.{open_end}
use Rattle.modbus_ascii.specs.Limits.{max_frame}
use Rattle.modbus_ascii.specs.OpenFrames.{if_fits, open_frame}
use Rattle.modbus_ascii.specs.Stands.{AreOnlyFrames}
use Rattle.modbus_ascii.specs.WholeReading.{stream_of}
use Rattle.modbus_client.specs.declared.protocol.Reply.{Reply}
use Rattle.modbus_client.specs.declared.protocol.LookError.{LookError}
use Rattle.modbus_client.specs.declared.protocol.LookError.TheVariants.{Broken, Refused, NoMemory}
use Rattle.modbus_client.specs.Call.{LooksAs}
use Rattle.modbus_client.specs.Protocol.{Meaning, Found, waiting, reply, broken, IsOfMessage}
use Rattle.modbus_client.specs.Rtu.{slave_seen}
use Rattle.modbus_ascii_client.specs.Frames.{first_of, others_before, reply_of, counted, texts_by}
use Rattle.modbus_ascii_client.specs.Laws.{IsFirstOf}
use Rattle.modbus_ascii_client.specs.Reads.{ReadsReply}
use Rattle.modbus_ascii_client.specs.Search.{AreOthers}

-- ---- frames of other slaves

pub first-behind : (slave : ℕ) (held : List ℕ) (xs ys : List SlavePdu) → AreOthers slave xs → first_of slave held (xs ++ ys) ≡ first_of slave held ys
first-behind slave held [] ys o = refl
first-behind slave held (x ∷ xs) ys o = rw o.0 (first-behind slave held xs ys o.1)

pub count-behind : (slave : ℕ) (xs ys : List SlavePdu) → AreOthers slave xs → others_before slave (xs ++ ys) ≡ length xs + others_before slave ys
count-behind slave [] ys o = omega arith
count-behind slave (x ∷ xs) ys o = rw o.0 (omega (arith, count-behind slave xs ys o.1))

pub count-all : (slave : ℕ) (xs : List SlavePdu) → AreOthers slave xs → others_before slave xs ≡ length xs
count-all slave [] o = refl
count-all slave (x ∷ xs) o = rw o.0 (omega (arith, count-all slave xs o.1))

pub others-join : (slave : ℕ) (xs ys : List SlavePdu) → AreOthers slave xs → AreOthers slave ys → AreOthers slave (xs ++ ys)
others-join slave [] ys o p = p
others-join slave (x ∷ xs) ys o p = (o.0, others-join slave xs ys o.1 p)

same : (slave : ℕ) → (slave == slave) ≡ true
same slave = grind arith

pub first-own : (slave : ℕ) (held pdu : List ℕ) (ys : List SlavePdu) → first_of slave held (message slave pdu ∷ ys) ≡ reply [] (slave_seen slave) pdu
first-own slave held pdu ys = rw (same slave) refl

pub count-own : (slave : ℕ) (pdu : List ℕ) (ys : List SlavePdu) → others_before slave (message slave pdu ∷ ys) ≡ 0
count-own slave pdu ys = rw (same slave) refl

-- a search that waits found no frame of the slave
pub waits-for : (slave : ℕ) (held left : List ℕ) (xs : List SlavePdu) → waiting left ≡ first_of slave held xs → AreOthers slave xs × (left ≡ held)
waits-for slave held left [] e = (tt, cc)
waits-for slave held left (x ∷ xs) e = by_test (x.header == slave) (waits-for slave held left xs) e
  where
    by_test : (b : Bool) → (waiting left ≡ first_of slave held xs → AreOthers slave xs × (left ≡ held))
        → waiting left ≡ (if b then reply [] (slave_seen slave) x.pdu else first_of slave held xs) → ((b ≡ false) × AreOthers slave xs) × (left ≡ held)
    by_test true ih e = cc
    by_test false ih e = let rest = ih e in ((refl, rest.0), rest.1)

-- ---- more bytes

abbrev pub Delivers : Type 0
Delivers = (bytes more : List ℕ) → frames (bytes ++ more) ≡ frames bytes ++ frames (open_frame bytes ++ more)

abbrev pub Leaves : Type 0
Leaves = (bytes more : List ℕ) → open_frame (bytes ++ more) ≡ open_frame (open_frame bytes ++ more)

pub reply-on : Delivers → Leaves → (slave : ℕ) (bytes earlier more : List ℕ) → waiting earlier ≡ reply_of slave bytes → reply_of slave (bytes ++ more) ≡ reply_of slave (earlier ++ more)
reply-on delivers leaves slave bytes earlier more e =
    let (others, is) = waits-for slave (open_frame bytes) earlier (frames bytes) e in
    ap (λ xs. first_of slave (open_frame (bytes ++ more)) xs) (delivers bytes more)
    ∙ first-behind slave (open_frame (bytes ++ more)) (frames bytes) (frames (open_frame bytes ++ more)) others
    ∙ ap (λ h. first_of slave h (frames (open_frame bytes ++ more))) (leaves bytes more)
    ∙ ap (λ b. reply_of slave (b ++ more)) (sym is)

pub count-on : Delivers → (slave : ℕ) (bytes earlier more : List ℕ) → waiting earlier ≡ reply_of slave bytes
    → (before found after : ℕ) → before ≡ counted (others_before slave (frames bytes)) → found ≡ counted (others_before slave (frames (earlier ++ more)))
    → after ≡ min (before + found) (2 ^ 64 - 1) → after ≡ counted (others_before slave (frames (bytes ++ more)))
count-on delivers slave bytes earlier more e before found after b f a =
    let (others, is) = waits-for slave (open_frame bytes) earlier (frames bytes) e in
    let all = count-all slave (frames bytes) others in
    let both : others_before slave (frames (bytes ++ more)) ≡ length (frames bytes) + others_before slave (frames (open_frame bytes ++ more)) =
    ap (others_before slave) (delivers bytes more) ∙ count-behind slave (frames bytes) (frames (open_frame bytes ++ more)) others in
    let last : others_before slave (frames (earlier ++ more)) ≡ others_before slave (frames (open_frame bytes ++ more)) =
    ap (λ x. others_before slave (frames (x ++ more))) is in
    omega (arith, a, b, f, all, both, last)

pub held-on : Delivers → Leaves → (slave : ℕ) (bytes earlier more held : List ℕ) (found : Found) → waiting earlier ≡ reply_of slave bytes → held ≡ earlier ++ more
    → found ≡ reply_of slave held → found ≡ reply_of slave (bytes ++ more)
held-on delivers leaves slave bytes earlier more held found e is f = f ∙ ap (reply_of slave) is ∙ sym (reply-on delivers leaves slave bytes earlier more e)

-- one look at held bytes
module _ (means : Meaning) (asked : HeaderSeen) (bytes : List ℕ) where
  pub looks-read : (slave : ℕ) (pdu held : List ℕ) (result : Result (Option Reply) LookError)
      → reply [] (slave_seen slave) pdu ≡ reply_of asked.slave_id bytes → held ≡ [] → ReadsReply means slave pdu result → LooksAs (texts_by means) asked bytes [] held result
  looks-read slave pdu held (Ok None) e none r = absurd r
  looks-read slave pdu held (Ok (Some found)) e none r = (pdu, ap (λ h. reply h found.header pdu) none ∙ ap (λ seen. reply [] seen pdu) r.0 ∙ e, r.1)
  looks-read slave pdu held (Err (Broken fault)) e none r = absurd r
  looks-read slave pdu held (Err (Refused reason)) e none r = (slave_seen slave, pdu, ap (λ h. reply h (slave_seen slave) pdu) none ∙ e, r)
  looks-read slave pdu held (Err NoMemory) e none r = ([], slave_seen slave, pdu, e, r)

-- bytes in which the same is found, give the same look
pub looks-same : (means : Meaning) (asked : HeaderSeen) (held bytes cuts left : List ℕ) (result : Result (Option Reply) LookError) → reply_of asked.slave_id held ≡ reply_of asked.slave_id bytes
    → LooksAs (texts_by means) asked held [] left result → LooksAs (texts_by means) asked bytes cuts left result
looks-same means asked held bytes cuts left (Ok None) same finds = finds ∙ same
looks-same means asked held bytes cuts left (Ok (Some found)) same (pdu, finds, is) = (pdu, finds ∙ same, is)
looks-same means asked held bytes cuts left (Err (Broken fault)) same finds = finds ∙ same
looks-same means asked held bytes cuts left (Err (Refused reason)) same (header, pdu, finds, is) = (header, pdu, finds ∙ same, is)
looks-same means asked held bytes cuts left (Err NoMemory) same (rest, header, pdu, finds, carries) = (rest, header, pdu, finds ∙ same, carries)

-- a look at held bytes, in terms of all bytes that were read
pub looks-on : Delivers → Leaves → (means : Meaning) (asked : HeaderSeen) (bytes cuts earlier more held left : List ℕ) (result : Result (Option Reply) LookError)
    → waiting earlier ≡ reply_of asked.slave_id bytes → held ≡ earlier ++ more → LooksAs (texts_by means) asked held [] left result → LooksAs (texts_by means) asked (bytes ++ more) cuts left result
looks-on delivers leaves means asked bytes cuts earlier more held left result e is looks =
    looks-same means asked held (bytes ++ more) cuts left result (held-on delivers leaves asked.slave_id bytes earlier more held _ e is refl) looks

-- ---- no byte, and a frame alone

pub no-byte : (slave : ℕ) → waiting [] ≡ reply_of slave []
unfolding frames open_end
no-byte slave = refl

pub none-counted : (slave : ℕ) → 0 ≡ counted (others_before slave (frames []))
unfolding frames
none-counted slave = refl

pub alone : ((messages : List SlavePdu) → AllByRecursion IsFramed messages → AreOnlyFrames (stream_of messages) messages)
    → ((m : SlavePdu) (bytes rest : List ℕ) → IsFramed m → frame m.header m.pdu ≡ bytes ++ rest → rest ≢ [] → frames bytes ≡ [])
    → (slave : ℕ) (pdu bytes rest : List ℕ) (found : Found) → IsFramed (message slave pdu) → frame slave pdu ≡ bytes ++ rest → found ≡ reply_of slave bytes
    → IsOfMessage (slave_seen slave) pdu rest found
alone whole front slave pdu bytes [] found framed joined e =
    let bare : bytes ≡ stream_of (message slave pdu ∷ []) = sym (append-nil bytes) ∙ sym joined ∙ sym (append-nil (frame slave pdu)) in
    let delivers : frames bytes ≡ message slave pdu ∷ [] = ap frames bare ∙ sym (whole (message slave pdu ∷ []) (framed, tt)).0 in
    let is : reply [] (slave_seen slave) pdu ≡ found =
    sym (e ∙ ap (λ xs. first_of slave (open_frame bytes) xs) delivers ∙ first-own slave (open_frame bytes) pdu []) in
    subst (λ f. IsOfMessage (slave_seen slave) pdu [] f) is (refl, refl, refl, refl)
alone whole front slave pdu bytes (x ∷ rest) found framed joined e =
    let none : frames bytes ≡ [] = front (message slave pdu) bytes (x ∷ rest) framed joined some in
    let is : waiting (open_frame bytes) ≡ found = sym (e ∙ ap (λ xs. first_of slave (open_frame bytes) xs) none) in
    subst (λ f. IsOfMessage (slave_seen slave) pdu (x ∷ rest) f) is some
  where
    some : x ∷ rest ≢ []
    some is = cc

-- ---- what a search finds, among the frames

pub first-is : (slave : ℕ) (held left pdu : List ℕ) (header : HeaderSeen) (xs : List SlavePdu) → reply left header pdu ≡ first_of slave held xs → IsFirstOf slave xs header pdu
first-is slave held left pdu header [] e = cc
first-is slave held left pdu header (x ∷ xs) e = by_test (x.header == slave) refl (first-is slave held left pdu header xs) e
  where
    by_test : (b : Bool) → (x.header == slave) ≡ b → (reply left header pdu ≡ first_of slave held xs → IsFirstOf slave xs header pdu)
        → reply left header pdu ≡ (if b then reply [] (slave_seen slave) x.pdu else first_of slave held xs) → IsFirstOf slave (x ∷ xs) header pdu
    by_test true is ih e =
        let pdus : x.pdu ≡ pdu = cc in
        let own : message x.header x.pdu ≡ message slave pdu = ap (λ s. message s x.pdu) (eqb-true x.header slave is) ∙ ap (λ p. message slave p) pdus in
        record { before = []; after = xs; among = ap (λ (y : SlavePdu). y ∷ xs) own; others = tt; from = cc }
    by_test false is ih e =
        let f = ih e in
        record { before = x ∷ f.before; after = f.after; among = ap (λ ys. x ∷ ys) f.among; others = (is, f.others); from = f.from }

pub not-broken : (slave : ℕ) (held left : List ℕ) (fault : TransportError) (xs : List SlavePdu) → broken left fault ≡ first_of slave held xs → ⊥
not-broken slave held left fault [] e = cc
not-broken slave held left fault (x ∷ xs) e = by_test (x.header == slave) (not-broken slave held left fault xs) e
  where
    by_test : (b : Bool) → (broken left fault ≡ first_of slave held xs → ⊥) → broken left fault ≡ (if b then reply [] (slave_seen slave) x.pdu else first_of slave held xs) → ⊥
    by_test true ih e = cc
    by_test false ih e = ih e

pub few-held : (slave : ℕ) (bytes held : List ℕ) → waiting held ≡ reply_of slave bytes → length held ≤ max_frame
few-held slave bytes held e =
    let (others, is) = waits-for slave (open_frame bytes) held (frames bytes) e in
    subst (λ h. length h ≤ max_frame) (sym is) (fits (open_end bytes))
  where
    fits : (now : List ℕ) → length (if_fits now) ≤ max_frame
    fits now = by_test (nat_le (length now) max_frame) below
      where
        below : nat_le (length now) max_frame ≡ true → length now ≤ max_frame
        below h = grind arith

        by_test : (b : Bool) → (b ≡ true → length now ≤ max_frame) → length (if b then now else []) ≤ max_frame
        by_test true f = f refl
        by_test false f = omega arith
