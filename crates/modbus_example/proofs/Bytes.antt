-- The next byte is taken off, and bytes that are not 0 go on as they were read.
use Rattle.std.proofs.Common.{◌≡◌, ℕ, ◌<◌, List, [], ◌∷◌, ◌++◌, length, take, drop, slice_index_or, refl, sym, ap, ◌∙◌, arith, append_assoc}
use Rattle.std.specs.Prelude.{All}
use Rattle.std.proofs.lemmas.List.{map-append}
use Rattle.std.proofs.lemmas.List.Elements.{All-append, All-cons, All-nil, All-head, All-tail}
use Rattle.modbus_pdu.specs.SlavePdu.{SlavePdu}
use Rattle.modbus_pdu.specs.Message.{message}
use Rattle.modbus_server.specs.declared.error.ProcessError.{ProcessError}
use Rattle.modbus_server.specs.declared.error.ProcessError.TheVariants.{InvalidLength}
use Rattle.modbus_example.specs.Single.{bytes_of, IsAlone, IsSome, Follows, IsNextByte, IsZeroAfter, AreOnlyBytes}

abbrev pub first_of : List ℕ → SlavePdu
first_of held = message (slice_index_or held 0 0) (take 1 held)

pub takes_first : (bytes cuts held : List ℕ) (taken : List SlavePdu) → 0 < length held → Follows bytes cuts held taken
    → Follows bytes cuts (drop 1 held) (taken ++ first_of held ∷ []) × IsNextByte bytes cuts taken (first_of held)
takes_first bytes cuts [] taken some s = absurd (omega arith)
takes_first bytes cuts (x ∷ xs) taken some (s, alone) =
    let first : SlavePdu = message x (x ∷ []) in
    let more : bytes ≡ bytes_of (taken ++ first ∷ []) ++ xs =
    s ∙ sym (append_assoc (bytes_of taken) (x ∷ []) xs) ∙ ap (λ front. front ++ xs) (sym (map-append (λ (m : SlavePdu). m.header) taken (first ∷ []))) in
    let each : All IsAlone (taken ++ first ∷ []) = All-append IsAlone taken (first ∷ []) alone (All-cons IsAlone first [] refl (All-nil IsAlone)) in
    ((more, each), (xs, (more, each)))

-- no byte of messages that have none is 0
no_zero : (messages : List SlavePdu) (front others : List ℕ) → All IsSome messages → bytes_of messages ≡ front ++ 0 ∷ others → ⊥
no_zero [] [] others some e = cc
no_zero [] (f ∷ front) others some e = cc
no_zero (m ∷ messages) [] others some e =
    let zero : m.header ≡ 0 = cc in (All-head IsSome m messages some) zero
no_zero (m ∷ messages) (f ∷ front) others some e =
    let rest : bytes_of messages ≡ front ++ 0 ∷ others = cc in no_zero messages front others (All-tail IsSome m messages some) rest

pub unbroken : (read rest cuts : List ℕ) (messages before : List SlavePdu) (fault : ProcessError) → AreOnlyBytes (read ++ rest) messages → IsZeroAfter read cuts before fault → ⊥
unbroken read rest cuts messages before InvalidLength clean (others, e) =
    no_zero messages (bytes_of before) (others ++ rest) clean.some
    (sym clean.joined ∙ ap (λ bytes. bytes ++ rest) e ∙ append_assoc (bytes_of before) (0 ∷ others) rest)
unbroken read rest cuts messages before _ clean b = absurd b

-- messages are told by their bytes
begins : (front messages : List SlavePdu) (others : List ℕ) → All IsAlone front → All IsAlone messages → bytes_of messages ≡ bytes_of front ++ others
    → (later : List SlavePdu) × (messages ≡ front ++ later)
begins [] messages others alone each e = (messages, refl)
begins (f ∷ front) [] others alone each e = cc
begins (f ∷ front) (m ∷ messages) others alone each e =
    let byte : m.header ≡ f.header = cc in
    let rest : bytes_of messages ≡ bytes_of front ++ others = cc in
    let same : m ≡ f = pairs m f byte (All-head IsAlone m messages each ∙ ap (λ (b : ℕ). b ∷ []) byte ∙ sym (All-head IsAlone f front alone)) in
    let more = begins front messages others (All-tail IsAlone f front alone) (All-tail IsAlone m messages each) rest in
    (more.0, cc (same, more.1))
  where
    pairs : (p q : SlavePdu) → p.header ≡ q.header → p.pdu ≡ q.pdu → p ≡ q
    pairs p q x y = ap (λ (h : ℕ). message h p.pdu) x ∙ ap (λ (l : List ℕ). message q.header l) y

pub next : (read rest cuts : List ℕ) (messages before : List SlavePdu) (message : SlavePdu) → AreOnlyBytes (read ++ rest) messages → IsNextByte read cuts before message
    → (later : List SlavePdu) × (messages ≡ (before ++ message ∷ []) ++ later)
next read rest cuts messages before message clean (others, (joined, alone)) =
    begins (before ++ message ∷ []) messages (others ++ rest) alone clean.alone
    (sym clean.joined ∙ ap (λ bytes. bytes ++ rest) joined ∙ append_assoc (bytes_of (before ++ message ∷ [])) others rest)
