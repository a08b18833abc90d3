-- A search that looks at one byte more.
use Rattle.std.proofs.Common.{◌≡◌, ◌≢◌, ℕ, zero, suc, ◌+◌, ◌-◌, ◌<◌, ◌≤◌, ◌==◌, nat_le, true, false, List, [], ◌∷◌, ◌++◌, length, take, drop, refl, sym, ap, ◌∙◌, subst, arith, append-nil, append_assoc, length-append, length-drop, get_or, ◌^◌, min}
use Rattle.modbus_pdu.specs.SlavePdu.{SlavePdu}
use Rattle.modbus_pdu.specs.Message.{message}
use Rattle.modbus_ascii.specs.Frames.{frames}
use Rattle.modbus_ascii.specs.Limits.{colon, max_frame}
use Rattle.modbus_ascii.specs.Text.{open_end}
use Rattle.modbus_ascii.specs.OpenFrames.{open_frame}
use Rattle.modbus_client.specs.Protocol.{waiting, reply}
use Rattle.modbus_client.specs.Rtu.{slave_seen}
use Rattle.modbus_ascii_client.specs.Frames.{first_of, others_before, reply_of, counted}
use Rattle.modbus_ascii_client.specs.Search.{AreOthers, OpensAt}
use Rattle.modbus_ascii_client.proofs.Finding.{first-behind, count-behind, count-all, others-join, first-own, count-own}

drop-push : (k : ℕ) (a : List ℕ) (b : ℕ) → k ≤ length a → drop k (a ++ b ∷ []) ≡ drop k a ++ b ∷ []
drop-push zero a b h = refl
drop-push (suc k) [] b h = absurd (omega arith)
drop-push (suc k) (x ∷ a) b h = drop-push k a b (omega arith)

drop-front : (a b : List ℕ) → drop (length a) (a ++ b) ≡ b
drop-front [] b = refl
drop-front (x ∷ a) b = drop-front a b

drop-past : (a : List ℕ) (n : ℕ) → length a ≤ n → drop n a ≡ []
drop-past [] zero h = refl
drop-past [] (suc n) h = refl
drop-past (x ∷ a) zero h = absurd (omega arith)
drop-past (x ∷ a) (suc n) h = drop-past a n (omega arith)

closed-list : (o : List ℕ) → (o ≢ [] → ⊥) → o ≡ []
closed-list [] h = refl
closed-list (x ∷ o) h = absurd (h some)
  where
    some : x ∷ o ≢ []
    some e = cc

-- ---- where the text begins that is open

pub opens-colon : ((bytes : List ℕ) → open_end (bytes ++ colon ∷ []) ≡ colon ∷ []) → (seen : List ℕ) (b n : ℕ) → b ≡ colon → n ≡ length seen → OpensAt (seen ++ b ∷ []) n
opens-colon begins seen b n is at = record {
  within = omega (arith, at, length-append seen (b ∷ []));
  is = ap (λ x. open_end (seen ++ x ∷ [])) is ∙ begins seen ∙ ap (λ (x : ℕ). x ∷ []) (sym is) ∙ sym (drop-front seen (b ∷ [])) ∙ ap (λ k. drop k (seen ++ b ∷ [])) (sym at);
}

pub opens-on : ((bytes : List ℕ) (byte : ℕ) → byte ≢ colon → open_end (bytes ++ byte ∷ []) ≢ [] → open_end (bytes ++ byte ∷ []) ≡ open_end bytes ++ byte ∷ [])
    → (seen : List ℕ) (b n : ℕ) → b ≢ colon → open_end (seen ++ b ∷ []) ≢ [] → OpensAt seen n → OpensAt (seen ++ b ∷ []) n
opens-on joins seen b n other some o = record {
  within = omega (arith, o.within, length-append seen (b ∷ []));
  is = joins seen b other some ∙ ap (λ x. x ++ b ∷ []) o.is ∙ sym (drop-push n seen b o.within);
}

pub opens-none : (seen : List ℕ) (b n : ℕ) → (open_end (seen ++ b ∷ []) ≢ [] → ⊥) → n ≡ length seen + 1 → OpensAt (seen ++ b ∷ []) n
opens-none seen b n none at = record {
  within = omega (arith, at, length-append seen (b ∷ []));
  is = closed-list (open_end (seen ++ b ∷ [])) none ∙ sym (drop-past (seen ++ b ∷ []) n (omega (arith, at, length-append seen (b ∷ []))));
}

-- ---- the end of a search

-- a text that is too long is not held, and what is open else is
pub held-front : (held : List ℕ) (start : ℕ) → OpensAt held start → length held - start ≤ max_frame → open_frame held ≡ drop start held
held-front held start o fits =
    let size : length (open_end held) ≡ length held - start = ap length o.is ∙ length-drop start held in
    let yes : nat_le (length (open_end held)) max_frame ≡ true = grind (arith, size, fits) in
    rw yes o.is

pub held-none : (held : List ℕ) (start n : ℕ) → OpensAt held start → max_frame < length held - start → n ≡ length held → open_frame held ≡ drop n held
held-none held start n o long at =
    let size : length (open_end held) ≡ length held - start = ap length o.is ∙ length-drop start held in
    let no : nat_le (length (open_end held)) max_frame ≡ false = grind (arith, size, long) in
    rw no (sym (drop-past held n (omega (arith, at))))

pub told-none : (slave : ℕ) (held left : List ℕ) → AreOthers slave (frames held) → open_frame held ≡ left → waiting left ≡ reply_of slave held
told-none slave held left others is =
    sym (ap (λ xs. first_of slave (open_frame held) xs) (sym (append-nil (frames held))) ∙ first-behind slave (open_frame held) (frames held) [] others ∙ ap waiting is)

pub counted-none : (slave : ℕ) (held : List ℕ) (n : ℕ) → AreOthers slave (frames held) → n ≡ counted (length (frames held)) → n ≡ counted (others_before slave (frames held))
counted-none slave held n others is = is ∙ ap counted (sym (count-all slave (frames held) others))

-- ---- a frame of the slave among more bytes

abbrev pub GoesOn : Type 0
GoesOn = (bytes more : List ℕ) → (later : List SlavePdu) × (frames (bytes ++ more) ≡ frames bytes ++ later)

frames-found : GoesOn → (held seen now rest pdu : List ℕ) (slave : ℕ) → held ≡ now ++ rest → frames now ≡ frames seen ++ message slave pdu ∷ []
    → (later : List SlavePdu) × (frames held ≡ frames seen ++ message slave pdu ∷ later)
frames-found on held seen now rest pdu slave parts is =
    let (later, e) = on now rest in
    (later, ap frames parts ∙ e ∙ ap (λ f. f ++ later) is ∙ append_assoc (frames seen) (message slave pdu ∷ []) later)

pub told-reply : GoesOn → (held seen now rest pdu : List ℕ) (slave own : ℕ) → held ≡ now ++ rest → frames now ≡ frames seen ++ message own pdu ∷ [] → own ≡ slave
    → AreOthers slave (frames seen) → reply [] (slave_seen own) pdu ≡ reply_of slave held
told-reply on held seen now rest pdu slave own parts is same others =
    let (later, e) = frames-found on held seen now rest pdu slave parts (is ∙ ap (λ s. frames seen ++ message s pdu ∷ []) same) in
    ap (λ s. reply [] (slave_seen s) pdu) same
    ∙ sym (ap (λ xs. first_of slave (open_frame held) xs) e ∙ first-behind slave (open_frame held) (frames seen) (message slave pdu ∷ later) others ∙ first-own slave (open_frame held) pdu later)

pub counted-reply : GoesOn → (held seen now rest pdu : List ℕ) (slave own n : ℕ) → held ≡ now ++ rest → frames now ≡ frames seen ++ message own pdu ∷ [] → own ≡ slave
    → AreOthers slave (frames seen) → n ≡ counted (length (frames seen)) → n ≡ counted (others_before slave (frames held))
counted-reply on held seen now rest pdu slave own n parts is same others count =
    let (later, e) = frames-found on held seen now rest pdu slave parts (is ∙ ap (λ s. frames seen ++ message s pdu ∷ []) same) in
    let before : others_before slave (frames held) ≡ length (frames seen) =
    ap (others_before slave) e ∙ count-behind slave (frames seen) (message slave pdu ∷ later) others ∙ ap (λ k. length (frames seen) + k) (count-own slave pdu later) ∙ omega arith in
    count ∙ ap counted (sym before)

-- ---- a byte more

pub opens-nothing : OpensAt [] 0
unfolding open_end
opens-nothing = record { within = omega arith; is = refl }

pub no-others : (slave : ℕ) → AreOthers slave (frames [])
unfolding frames
no-others slave = tt

pub none-yet : 0 ≡ counted (length (frames []))
unfolding frames
none-yet = refl

pub other-frame : (slave own : ℕ) (pdu seen now : List ℕ) → own ≢ slave → frames now ≡ frames seen ++ message own pdu ∷ [] → AreOthers slave (frames seen) → AreOthers slave (frames now)
other-frame slave own pdu seen now other is others =
    let apart : (own == slave) ≡ false = grind (arith, other) in
    subst (λ xs. AreOthers slave xs) (sym is) (others-join slave (frames seen) (message own pdu ∷ []) others (apart, tt))

pub other-counted : (own : ℕ) (pdu seen now : List ℕ) (before after : ℕ) → frames now ≡ frames seen ++ message own pdu ∷ [] → before ≡ counted (length (frames seen))
    → after ≡ min (before + 1) (2 ^ 64 - 1) → after ≡ counted (length (frames now))
other-counted own pdu seen now before after is b a =
    let size : length (frames now) ≡ length (frames seen) + 1 = ap length is ∙ length-append (frames seen) (message own pdu ∷ []) in
    omega (arith, a, b, size)

-- the bytes up to a place, the one there, and those behind it
pub parts-at : (i : ℕ) (held : List ℕ) → i < length held → held ≡ (take i held ++ get_or held i 0 ∷ []) ++ drop (suc i) held
parts-at zero [] h = absurd (omega arith)
parts-at zero (x ∷ held) h = refl
parts-at (suc i) [] h = absurd (omega arith)
parts-at (suc i) (x ∷ held) h = ap (λ l. x ∷ l) (parts-at i held (omega arith))

pub all-taken : (i : ℕ) (held : List ℕ) → i ≡ length held → take i held ≡ held
all-taken zero [] e = refl
all-taken zero (x ∷ held) e = absurd (omega (arith, e))
all-taken (suc i) [] e = absurd (omega (arith, e))
all-taken (suc i) (x ∷ held) e = ap (λ l. x ∷ l) (all-taken i held (omega (arith, e)))
