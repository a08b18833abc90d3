-- What a burst says goes on behind its first message.
use Rattle.std.proofs.Common.{◌≡◌, ℕ, zero, suc, ◌-◌, ◌<◌, ◌≤◌, Bool, true, false, List, [], ◌∷◌, length, take, drop, refl, sym, ap, ◌∙◌, arith}
use Rattle.std.specs.Prelude.{if◌then◌else◌, ◌==◌, nat_le, slice_index}
use Rattle.std.proofs.lemmas.List.{drop_all, take_all, length-drop}
use Rattle.modbus_rtu.specs.Limits.{overhead}
use Rattle.modbus_field.specs.declared.burst.frame.Part.{Part}
use Rattle.modbus_field.specs.BurstLimits.{most_read}
use Rattle.modbus_field.specs.Bursts.{Heard, heard, frame_length, is_reply, part_before, part_at, message_at, noise, said, said_from}

-- from a place on it is what is said of what stands there
pub said_at : (place : ℕ) (bytes : List ℕ) → said_from place bytes ≡ said_from 0 (drop place bytes)
unfolding said_from
said_at zero bytes = refl
said_at (suc place) [] = refl
said_at (suc place) (byte ∷ rest) = said_at place rest

chosen_long : (b : Bool) (few : List Heard) → b ≡ true → (if b then noise ∷ [] else few) ≡ noise ∷ []
chosen_long true few e = refl
chosen_long false few e = cc

chosen_short : (b : Bool) (few : List Heard) → b ≡ false → (if b then noise ∷ [] else few) ≡ few
chosen_short true few e = cc
chosen_short false few e = refl

pub said_nothing : said [] ≡ []
unfolding said said_from
said_nothing = refl

pub said_short : (burst : List ℕ) → length burst < most_read → said burst ≡ said_from 0 burst
unfolding said
said_short burst short = chosen_short (nat_le most_read (length burst)) (said_from 0 burst) (grind (arith, short))

-- behind all of it nothing is said
nothing_behind : (burst : List ℕ) → said (drop (length burst) burst) ≡ []
nothing_behind burst = ap said (drop_all (length burst) burst (omega arith)) ∙ said_nothing

pub said_long : (burst : List ℕ) → most_read ≤ length burst → said burst ≡ noise ∷ said (drop (length burst) burst)
unfolding said
said_long burst long =
    chosen_long (nat_le most_read (length burst)) (said_from 0 burst) (grind (arith, long)) ∙ ap (λ (xs : List Heard). noise ∷ xs) (sym (nothing_behind burst))

module _ (byte : ℕ) (rest : List ℕ) where
  pub none_stands : (n : ℕ) → frame_length (byte ∷ rest) ≡ n → n ≡ 0 → said_from 0 (byte ∷ rest) ≡ noise ∷ []
  unfolding said_from
  none_stands n e none = rw (e ∙ none) refl

  pub one_stands : (n : ℕ) → frame_length (byte ∷ rest) ≡ suc n → said_from 0 (byte ∷ rest) ≡ message_at (byte ∷ rest) ∷ said_from n rest
  unfolding said_from
  one_stands n e =
      chosen_short (frame_length (byte ∷ rest) == 0) (message_at (byte ∷ rest) ∷ said_from (frame_length (byte ∷ rest) - 1) rest) (grind (arith, e))
      ∙ ap (λ k. message_at (byte ∷ rest) ∷ said_from k rest) (omega (arith, e))

pub said_none : (burst : List ℕ) → length burst < most_read → 0 < length burst → frame_length burst ≡ 0 → said burst ≡ noise ∷ said (drop (length burst) burst)
said_none [] short some none = absurd (omega arith)
said_none (byte ∷ rest) short some none =
    said_short (byte ∷ rest) short ∙ none_stands byte rest 0 none refl ∙ ap (λ (xs : List Heard). noise ∷ xs) (sym (nothing_behind (byte ∷ rest)))

-- behind the first frame what is left is said
pub said_one : (burst : List ℕ) → length burst < most_read → 0 < frame_length burst → 0 < length burst → said burst ≡ message_at burst ∷ said (drop (frame_length burst) burst)
said_one [] short stands some = absurd (omega arith)
said_one (byte ∷ rest) short stands some = by_length (frame_length (byte ∷ rest)) refl stands
  where
    by_length : (n : ℕ) → frame_length (byte ∷ rest) ≡ n → 0 < n → said (byte ∷ rest) ≡ message_at (byte ∷ rest) ∷ said (drop (frame_length (byte ∷ rest)) (byte ∷ rest))
    by_length zero e more = absurd (omega arith)
    by_length (suc n) e more =
        let behind : drop (frame_length (byte ∷ rest)) (byte ∷ rest) ≡ drop n rest = ap (λ k. drop k (byte ∷ rest)) e in
        let left : length (drop n rest) < most_read = omega (arith, short, length-drop n rest) in
        said_short (byte ∷ rest) short ∙ one_stands byte rest n e
        ∙ ap (λ (xs : List Heard). message_at (byte ∷ rest) ∷ xs) (said_at n rest ∙ sym (said_short (drop n rest) left) ∙ ap said (sym behind))

-- the same of a frame whose parts are known
pub said_parts : (burst : List ℕ) (n : ℕ) (reply : Bool) (part : Part) → length burst < most_read → n ≡ frame_length burst → reply ≡ is_reply burst → 4 ≤ n → n ≤ length burst
    → part ≡ part_before reply (take (length burst - n) (drop n burst)) → said burst ≡ heard (slice_index burst 0) part (take (n - 2 - 1) (drop 1 burst)) ∷ said (drop n burst)
unfolding message_at
said_parts burst n reply part short n_is reply_is long within part_is =
    let behind : take (length burst - n) (drop n burst) ≡ drop n burst = take_all (length burst - n) (drop n burst) (omega (arith, length-drop n burst)) in
    let same : part_at burst ≡ part =
    ap (λ k. part_before (is_reply burst) (drop k burst)) (sym n_is) ∙ ap (λ r. part_before r (drop n burst)) (sym reply_is)
    ∙ ap (part_before reply) (sym behind) ∙ sym part_is in
    said_one burst short (omega (arith, n_is, long)) (omega (arith, long, within))
    ∙ ap (λ (m : Heard). m ∷ said (drop (frame_length burst) burst)) (message_parts same)
    ∙ ap (λ k. heard (slice_index burst 0) part (take (n - 2 - 1) (drop 1 burst)) ∷ said (drop k burst)) (sym n_is)
  where
    message_parts : part_at burst ≡ part → message_at burst ≡ heard (slice_index burst 0) part (take (n - 2 - 1) (drop 1 burst))
    message_parts same =
        let size : frame_length burst - overhead ≡ n - 2 - 1 = omega (arith, n_is) in
        ap (λ (p : Part). heard (slice_index burst 0) p (take (frame_length burst - overhead) (drop 1 burst))) same
        ∙ ap (λ k. heard (slice_index burst 0) part (take k (drop 1 burst))) size

pub says_noise : (burst : List ℕ) → most_read ≤ length burst → said burst ≡ noise ∷ []
says_noise burst long = said_long burst long ∙ ap (λ (xs : List Heard). noise ∷ xs) (nothing_behind burst)
