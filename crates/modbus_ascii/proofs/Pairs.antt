-- How a decoder goes on by two digits that make a byte.
use Rattle.std.proofs.Common.{◌≡◌, ◌≢◌, ℕ, ◌+◌, ◌*◌, ◌-◌, ◌<◌, min, true, List, [], ◌∷◌, ◌++◌, length, None, sym, ap, ◌∙◌, subst, arith, length-append, append-nil, append_assoc}
use Rattle.modbus_ascii.specs.declared.decoder.Phase.TheVariants.{Digits}
use Rattle.modbus_ascii.specs.Limits.{colon, line_feed, most_open}
use Rattle.modbus_ascii.specs.Text.{open_end}
use Rattle.modbus_ascii.specs.Frames.{is_hex_digit, digit_value, frames}
use Rattle.modbus_ascii.specs.Decoder.{KeepsInPhase, FollowOpen}
use Rattle.modbus_ascii.specs.Stands.{kept_of, held_open}
use Rattle.modbus_ascii.proofs.Going.{length-kept}
use Rattle.modbus_ascii.proofs.Ends.{opened, open_end-more}
use Rattle.modbus_ascii.proofs.Decoding.{on-quiet, pair-step, half-step, frames-quiet}

-- both digits of a byte
pub pair-keeps : (fed bytes more : List ℕ) (high low sixteens ones : ℕ) → more ≡ bytes ++ (16 * sixteens + ones) ∷ [] → is_hex_digit high ≡ true → is_hex_digit low ≡ true
    → sixteens ≡ digit_value high → ones ≡ digit_value low → ones < 16 → KeepsInPhase Digits bytes None (open_end fed)
    → KeepsInPhase Digits more None (open_end (fed ++ high ∷ low ∷ []))
pair-keeps fed bytes more high low sixteens ones made dh dl vh vl below k =
    let first = half-step fed bytes high sixteens dh vh k in
    let second = pair-step (fed ++ high ∷ []) bytes more sixteens low ones made dl vl below first in
    let P : List ℕ → Type 0 = λ l. KeepsInPhase Digits more None (open_end l) in
    subst P (append_assoc fed (high ∷ []) (low ∷ [])) second

no-colon : (c : ℕ) → is_hex_digit c ≡ true → c ≢ colon
no-colon c d = λ e. cc (d, ap is_hex_digit e)

no-feed : (c : ℕ) → is_hex_digit c ≡ true → c ≢ line_feed
no-feed c d = λ e. cc (d, ap is_hex_digit e)

pub pair-follows : (fed bytes : List ℕ) (high low : ℕ) → is_hex_digit high ≡ true → is_hex_digit low ≡ true → KeepsInPhase Digits bytes None (open_end fed) → FollowOpen fed high low
pair-follows fed bytes high low dh dl (text, is, d) =
    let first : open_end (fed ++ high ∷ []) ≡ colon ∷ text ++ high ∷ [] =
    open_end-more fed high ∙ ap (λ n. opened n high) is ∙ on-quiet text high (no-colon high dh) (no-feed high dh) in
    let second : open_end ((fed ++ high ∷ []) ++ low ∷ []) ≡ colon ∷ (text ++ high ∷ []) ++ low ∷ [] =
    open_end-more (fed ++ high ∷ []) low ∙ ap (λ n. opened n low) first ∙ on-quiet (text ++ high ∷ []) low (no-colon low dl) (no-feed low dl) in
    record {
      digits = (dh, dl);
      «open» = λ e. cc (sym is ∙ e);
      grows = ap open_end (sym (append_assoc fed (high ∷ []) (low ∷ []))) ∙ second ∙ ap (λ t. colon ∷ t) (append_assoc text (high ∷ []) (low ∷ []))
          ∙ sym (ap (λ n. n ++ high ∷ low ∷ []) is);
    }

-- how many bytes of the open end are held, after two digits
pub open-pair : (seen : List ℕ) (high low : ℕ) → FollowOpen seen high low → length (held_open (seen ++ high ∷ low ∷ [])) ≡ min (length (held_open seen) + 2) most_open
open-pair seen high low f =
    let now = open_end seen in
    let kept : length (kept_of now) ≡ length now - (length now - most_open) = length-kept now in
    let grown : length (kept_of (now ++ high ∷ low ∷ [])) ≡ length (now ++ high ∷ low ∷ []) - (length (now ++ high ∷ low ∷ []) - most_open) = length-kept (now ++ high ∷ low ∷ []) in
    let size : length (now ++ high ∷ low ∷ []) ≡ length now + 2 = length-append now (high ∷ low ∷ []) in
    ap (λ n. length (kept_of n)) f.grows ∙ omega (arith, kept, grown, size)

-- two digits end no frame
pub pair-quiet : (seen : List ℕ) (high low : ℕ) → is_hex_digit high ≡ true → is_hex_digit low ≡ true → frames (seen ++ high ∷ low ∷ []) ≡ frames seen
pair-quiet seen high low dh dl =
    ap frames (sym (append_assoc seen (high ∷ []) (low ∷ [])))
    ∙ frames-quiet (seen ++ high ∷ []) low (no-feed low dl) ∙ append-nil (frames (seen ++ high ∷ []))
    ∙ frames-quiet seen high (no-feed high dh) ∙ append-nil (frames seen)
