-- A burst is frames and a rest in one way, and says what they say.
use Rattle.std.proofs.Common.{◌≡◌, ℕ, zero, suc, ◌+◌, ◌-◌, ◌*◌, ◌<◌, ◌≤◌, Bool, true, false, List, [], ◌∷◌, ◌++◌, length, take, drop, slice_index, map, Some, None, Ok, Err, refl, sym, ap, ◌∙◌, subst, arith, length-take, length-drop, append_assoc}
use Rattle.std.specs.Prelude.{All, ◌==◌, ◌&&◌, nat_lt, nat_le}
use Rattle.std.specs.List.{flat_map}
use Rattle.std.proofs.lemmas.Bool.Decides.{nat_tests}
use Rattle.std.proofs.lemmas.List.{take_all, take_at, drop_at, take-append-drop, take-append-le, get_or-take}
use Rattle.std.proofs.lemmas.List.Elements.{All-cons, All-nil}
use Rattle.modbus_pdu.specs.Limits.{max_pdu}
use Rattle.modbus_pdu.specs.SlavePdu.{SlavePdu}
use Rattle.modbus_pdu.specs.Message.{message}
use Rattle.modbus_rtu.specs.Checksum.{crc}
use Rattle.modbus_rtu.specs.Frame.{Head, head, rule, unknown, verdict_by}
use Rattle.modbus_rtu.specs.ResponseHead.{held_len, response_head, response_rule, unknown as open_end}
use Rattle.modbus_rtu.specs.Limits.{overhead}
use Rattle.modbus_field.specs.BurstLength.{own_head, request_head, reply_head}
use Rattle.modbus_field.specs.BurstLimits.{most_read}
use Rattle.modbus_field.specs.Bursts.{Heard, frame_length, request_length, reply_length, length_told, is_frame, slave_and_pdu, message_at, said, said_from, frames_in_message, is_answered, is_reply, noise}
use Rattle.modbus_field.specs.BurstReading.{StandInRow, IsRead, IsFrame, noise_of, messages_of}
use Rattle.modbus_field.specs.Pieces.{stream_of}
use Rattle.modbus_field.proofs.Framed.{no_frame}
use Rattle.modbus_field.proofs.Said.{said_at, said_short, none_stands, one_stands, says_noise}

-- what a verdict tells of a frame: it lies within the bytes, and is one
pub record Tells (bytes : List ℕ) (n : ℕ) : Type 0 where
  pub within : n ≤ length bytes
  pub framed : 0 < n → is_frame (take n bytes) ≡ true

take_less : (m n : ℕ) (xs : List ℕ) → m ≤ n → take m (take n xs) ≡ take m xs
take_less zero n xs less = refl
take_less (suc m) zero xs less = absurd (omega arith)
take_less (suc m) (suc n) [] less = refl
take_less (suc m) (suc n) (x ∷ xs) less = ap (λ ys. x ∷ ys) (take_less m n xs (omega arith))

nothing_told : (bytes : List ℕ) → Tells bytes 0
nothing_told bytes = record { within = omega arith; framed = λ some. absurd (omega arith) }

-- so many bytes end with the checksum of the others
module _ (bytes : List ℕ) (n : ℕ) (within : n + 3 ≤ length bytes) (sum : crc (take (n + 1) bytes) ≡ slice_index bytes (n + 1) + 256 * slice_index bytes (n + 2)) (some : 0 < n) (fits : n ≤ 253) where
  front_size : length (take (n + 3) bytes) ≡ n + 3
  front_size = omega (arith, length-take (n + 3) bytes, within)

  front_sum : crc (take (length (take (n + 3) bytes) - 2) (take (n + 3) bytes))
      ≡ slice_index (take (n + 3) bytes) (length (take (n + 3) bytes) - 2) + 256 * slice_index (take (n + 3) bytes) (length (take (n + 3) bytes) - 1)
  front_sum =
      let low : length (take (n + 3) bytes) - 2 ≡ n + 1 = omega (arith, front_size) in
      let high : length (take (n + 3) bytes) - 1 ≡ n + 2 = omega (arith, front_size) in
      let body : take (length (take (n + 3) bytes) - 2) (take (n + 3) bytes) ≡ take (n + 1) bytes =
      ap (λ k. take k (take (n + 3) bytes)) low ∙ take_less (n + 1) (n + 3) bytes (omega arith) in
      let first : slice_index (take (n + 3) bytes) (length (take (n + 3) bytes) - 2) ≡ slice_index bytes (n + 1) =
      ap (slice_index (take (n + 3) bytes)) low ∙ get_or-take (n + 3) bytes (n + 1) 0 (omega arith) in
      let second : slice_index (take (n + 3) bytes) (length (take (n + 3) bytes) - 1) ≡ slice_index bytes (n + 2) =
      ap (slice_index (take (n + 3) bytes)) high ∙ get_or-take (n + 3) bytes (n + 2) 0 (omega arith) in
      ap crc body ∙ sum ∙ sym (ap (λ a. a + 256 * slice_index (take (n + 3) bytes) (length (take (n + 3) bytes) - 1)) first ∙ ap (λ b. slice_index bytes (n + 1) + 256 * b) second)

  front_is : is_frame (take (n + 3) bytes) ≡ true
  front_is = grind (arith, nat_tests, front_size, front_sum, some, fits)

told_by : (bytes : List ℕ) (h : Head) → Tells bytes (length_told (verdict_by bytes h))
told_by bytes (Ok None) = nothing_told bytes
told_by bytes (Err no_length) = nothing_told bytes
told_by bytes (Ok (Some n)) =
    by_size (nat_lt (length bytes) (n + overhead)) (crc (take (n + 1) bytes) == slice_index bytes (n + 1) + 256 * slice_index bytes (n + 2)) (nat_lt 0 n && nat_le n max_pdu) refl refl refl
  where
    by_size : (short right fits : Bool) → nat_lt (length bytes) (n + overhead) ≡ short
        → (crc (take (n + 1) bytes) == slice_index bytes (n + 1) + 256 * slice_index bytes (n + 2)) ≡ right → (nat_lt 0 n && nat_le n max_pdu) ≡ fits
        → Tells bytes (length_told (verdict_by bytes (Ok (Some n))))
    by_size true right fits e f g = rw e (nothing_told bytes)
    by_size false false fits e f g = rw e (rw f (nothing_told bytes))
    by_size false true false e f g = rw e (rw f (rw g (nothing_told bytes)))
    by_size false true true e f g =
        let within : n + 3 ≤ length bytes = grind (arith, nat_tests, e) in
        let sum : crc (take (n + 1) bytes) ≡ slice_index bytes (n + 1) + 256 * slice_index bytes (n + 2) = grind (arith, nat_tests, f) in
        let some : 0 < n = grind (arith, nat_tests, g) in
        let most : n ≤ 253 = grind (arith, nat_tests, g) in
        rw e (rw f (rw g (record { within = within; framed = λ more. front_is bytes n within sum some most })))

-- the same of the frame at the front of bytes of a burst
pub first_told : (bytes : List ℕ) → Tells bytes (frame_length bytes)
unfolding frame_length request_length reply_length
first_told bytes = by_kind (is_frame bytes) (nat_lt 0 (request_length bytes)) refl refl
  where
    by_kind : (whole request : Bool) → is_frame bytes ≡ whole → nat_lt 0 (request_length bytes) ≡ request → Tells bytes (frame_length bytes)
    by_kind true request e f = rw e (record { within = omega arith; framed = λ some. subst (λ xs. is_frame xs ≡ true) (sym (take_all (length bytes) bytes (omega arith))) e })
    by_kind false true e f = rw e (rw f (told_by bytes (request_head bytes)))
    by_kind false false e f = rw e (rw f (told_by bytes (reply_head bytes)))

-- a frame that stands first in bytes is one
pub piece_framed : (p behind : List ℕ) → 0 < length p → frame_length (p ++ behind) ≡ length p → is_frame p ≡ true
piece_framed p behind some stands =
    let framed = (first_told (p ++ behind)).framed (omega (arith, some, stands)) in
    subst (λ xs. is_frame xs ≡ true) (ap (λ k. take k (p ++ behind)) stands ∙ take_at p behind (length p) refl) framed

same_front : (p q x y : List ℕ) → length p ≡ length q → p ++ x ≡ q ++ y → (p ≡ q) × (x ≡ y)
same_front p q x y size e =
    (sym (take_at p x (length q) size) ∙ ap (take (length q)) e ∙ take_at q y (length q) refl, sym (drop_at p x (length q) size) ∙ ap (drop (length q)) e ∙ drop_at q y (length q) refl)

stream_on : (piece : List ℕ) (pieces : List (List ℕ)) (rest : List ℕ) → stream_of (piece ∷ pieces) ++ rest ≡ piece ++ (stream_of pieces ++ rest)
stream_on piece pieces rest = append_assoc piece (stream_of pieces) rest

one_row : (pieces others : List (List ℕ)) (rest other : List ℕ) → StandInRow pieces rest → StandInRow others other → stream_of pieces ++ rest ≡ stream_of others ++ other → (pieces ≡ others) × (rest ≡ other)
one_row [] [] rest other none bare e = (refl, e)
one_row [] (q ∷ qs) rest other none (some, stands, row) e =
    let bytes = ap frame_length (e ∙ stream_on q qs other) in absurd (omega (arith, bytes, none, some, stands))
one_row (p ∷ ps) [] rest other (some, stands, row) none e =
    let bytes = ap frame_length (sym (stream_on p ps rest) ∙ e) in absurd (omega (arith, bytes, none, some, stands))
one_row (p ∷ ps) (q ∷ qs) rest other (some, stands, row) (more, holds, line) e =
    let joined : p ++ (stream_of ps ++ rest) ≡ q ++ (stream_of qs ++ other) = sym (stream_on p ps rest) ∙ e ∙ stream_on q qs other in
    let front = same_front p q (stream_of ps ++ rest) (stream_of qs ++ other) (sym stands ∙ ap frame_length joined ∙ holds) joined in
    let back = one_row ps qs rest other row line front.1 in
    (ap (λ (x : List ℕ). x ∷ ps) front.0 ∙ ap (λ (xs : List (List ℕ)). q ∷ xs) back.0, back.1)

pub one : (burst rest other : List ℕ) (pieces others : List (List ℕ)) → IsRead burst pieces rest → IsRead burst others other → (pieces ≡ others) × (rest ≡ other)
one burst rest other pieces others first second = one_row pieces others rest other first.stand second.stand (sym first.joined ∙ second.joined)

-- each of the row is a frame
row_framed : (pieces : List (List ℕ)) (rest : List ℕ) → StandInRow pieces rest → All IsFrame pieces
row_framed [] rest none = All-nil IsFrame
row_framed (p ∷ ps) rest (some, stands, row) = All-cons IsFrame p ps (piece_framed p (stream_of ps ++ rest) some stands) (row_framed ps rest row)

pub frames : (burst rest : List ℕ) (pieces : List (List ℕ)) → IsRead burst pieces rest → All IsFrame pieces
frames burst rest pieces is = row_framed pieces rest is.stand

-- the message of a frame is its slave address and its PDU
module _ (p behind : List ℕ) (some : 0 < length p) (stands : frame_length (p ++ behind) ≡ length p) where
  framed_size : (4 ≤ length p)
  framed_size = (let is = piece_framed p behind some stands in grind (arith, nat_tests, is))

among_one : (p behind : List ℕ) → 0 < length p → frame_length (p ++ behind) ≡ length p → frames_in_message (message_at (p ++ behind)) ≡ slave_and_pdu p ∷ []
unfolding message_at
among_one [] behind some stands = absurd (omega arith)
among_one (b ∷ bs) behind some stands =
    let long = framed_size (b ∷ bs) behind some stands in
    let pdu : take (frame_length (b ∷ (bs ++ behind)) - overhead) (bs ++ behind) ≡ take (length (b ∷ bs) - overhead) bs =
    ap (λ k. take (k - overhead) (bs ++ behind)) stands ∙ take-append-le (length (b ∷ bs) - overhead) bs behind (omega arith) in
    let size : length (take (length (b ∷ bs) - overhead) bs) ≡ length (b ∷ bs) - overhead = omega (arith, length-take (length (b ∷ bs) - overhead) bs) in
    let not : (length (take (frame_length (b ∷ (bs ++ behind)) - overhead) (bs ++ behind)) == 0) ≡ false = (let same = ap length pdu in grind (arith, nat_tests, same, size, long)) in
    rw not (ap (λ (xs : List ℕ). message b xs ∷ []) pdu)

nothing_among : (rest : List ℕ) → flat_map frames_in_message (noise_of rest) ≡ []
nothing_among [] = refl
nothing_among (byte ∷ rest) = refl

row_among : (pieces : List (List ℕ)) (rest : List ℕ) → StandInRow pieces rest → flat_map frames_in_message (messages_of pieces rest) ≡ map slave_and_pdu pieces
row_among [] rest none = nothing_among rest
row_among (p ∷ ps) rest (some, stands, row) =
    ap (λ (front : List SlavePdu). front ++ flat_map frames_in_message (messages_of ps rest)) (among_one p (stream_of ps ++ rest) some stands)
    ∙ ap (λ (back : List SlavePdu). slave_and_pdu p ∷ back) (row_among ps rest row)

pub among : (burst rest : List ℕ) (pieces : List (List ℕ)) → IsRead burst pieces rest → flat_map frames_in_message (messages_of pieces rest) ≡ map slave_and_pdu pieces
among burst rest pieces is = row_among pieces rest is.stand

-- there is such a reading, and it is what is said
pub record Reads (bytes : List ℕ) : Type 0 where
  pub pieces : List (List ℕ)
  pub rest : List ℕ
  pub is : IsRead bytes pieces rest
  pub says : said_from 0 bytes ≡ messages_of pieces rest

reads_nothing : Reads []
unfolding said_from
reads_nothing = record { pieces = []; rest = []; is = record { joined = refl; stand = no_frame }; says = refl }

reads_more : (byte : ℕ) (left : List ℕ) (n : ℕ) → frame_length (byte ∷ left) ≡ suc n → Reads (drop n left) → Reads (byte ∷ left)
reads_more byte left n e behind =
    let bytes : List ℕ = byte ∷ left in
    let piece : List ℕ = take (suc n) bytes in
    let low : suc n ≤ length bytes = (let within = (first_told bytes).within in omega (arith, e, within)) in
    let size : length piece ≡ suc n = omega (arith, low, length-take (suc n) bytes) in
    let joined : bytes ≡ piece ++ (stream_of behind.pieces ++ behind.rest) =
    sym (take-append-drop (suc n) bytes) ∙ ap (λ back. piece ++ back) behind.is.joined in
    record {
      pieces = piece ∷ behind.pieces;
      rest = behind.rest;
      is = record {
        joined = joined ∙ sym (stream_on piece behind.pieces behind.rest);
        stand = (omega (arith, size), sym (ap frame_length joined) ∙ e ∙ sym size, behind.is.stand);
      };
      says = one_stands byte left n e ∙ ap (λ (m : Heard). m ∷ said_from n left) (ap message_at joined)
          ∙ ap (λ (back : List Heard). message_at (piece ++ (stream_of behind.pieces ++ behind.rest)) ∷ back) (said_at n left ∙ behind.says);
    }

reads_up_to : (most : ℕ) (bytes : List ℕ) → length bytes ≤ most → Reads bytes
reads_up_to most [] few = reads_nothing
reads_up_to zero (byte ∷ left) few = absurd (omega arith)
reads_up_to (suc most) (byte ∷ left) few = by_length (frame_length (byte ∷ left)) refl (λ n. reads_up_to most (drop n left) (omega (arith, few, length-drop n left)))
  where
    by_length : (n : ℕ) → frame_length (byte ∷ left) ≡ n → ((k : ℕ) → Reads (drop k left)) → Reads (byte ∷ left)
    by_length zero e behind = record { pieces = []; rest = byte ∷ left; is = record { joined = refl; stand = e }; says = none_stands byte left 0 e refl }
    by_length (suc n) e behind = reads_more byte left n e (behind n)

pub read : (burst : List ℕ) → length burst < most_read → (pieces : List (List ℕ)) × (rest : List ℕ) × IsRead burst pieces rest × (said burst ≡ messages_of pieces rest)
read burst short =
    let it = reads_up_to (length burst) burst (omega arith) in
    (it.pieces, it.rest, it.is, said_short burst short ∙ it.says)

-- a verdict of so many bytes tells that many, or none
told_size : (bytes : List ℕ) (n : ℕ) → 0 < length_told (verdict_by bytes (Ok (Some n))) → length_told (verdict_by bytes (Ok (Some n))) ≡ n + overhead
told_size bytes n = by_size (nat_lt (length bytes) (n + overhead)) (crc (take (n + 1) bytes) == slice_index bytes (n + 1) + 256 * slice_index bytes (n + 2)) (nat_lt 0 n && nat_le n max_pdu) refl refl refl
  where
    by_size : (short right fits : Bool) → nat_lt (length bytes) (n + overhead) ≡ short
        → (crc (take (n + 1) bytes) == slice_index bytes (n + 1) + 256 * slice_index bytes (n + 2)) ≡ right → (nat_lt 0 n && nat_le n max_pdu) ≡ fits
        → 0 < length_told (verdict_by bytes (Ok (Some n))) → length_told (verdict_by bytes (Ok (Some n))) ≡ n + overhead
    by_size true right fits e f g = rw e (λ some. absurd (omega (arith, some)))
    by_size false false fits e f g = rw e (rw f (λ some. absurd (omega (arith, some))))
    by_size false true false e f g = rw e (rw f (rw g (λ some. absurd (omega (arith, some)))))
    by_size false true true e f g = rw e (rw f (rw g (λ some. refl)))

-- a frame of an unknown function has all bytes that are left
module _ (slave code : ℕ) (rest : List ℕ) (own : own_head (slave ∷ code ∷ rest) ≡ None) (unasked : rule code ≡ unknown) (untold : response_rule code ≡ open_end) where
  abbrev bytes : List ℕ
  bytes = slave ∷ code ∷ rest

  no_request : request_length bytes ≡ 0
  unfolding request_length request_head head
  no_request = rw own (rw unasked refl)

  all_held : reply_length bytes ≡ length_told (verdict_by bytes (held_len code bytes))
  unfolding reply_length reply_head response_head
  all_held = rw own (rw untold refl)

  held_told : (short : Bool) → nat_lt (length bytes) overhead ≡ short → 0 < length_told (verdict_by bytes (held_len code bytes))
      → length_told (verdict_by bytes (held_len code bytes)) ≡ length bytes
  held_told true e = rw e (λ some. absurd (omega (arith, some)))
  held_told false e = rw e (λ some. told_size bytes (length bytes - overhead) some ∙ (let long : 3 ≤ length bytes = grind (arith, nat_tests, e) in omega (arith, long)))

  by_whole : (whole : Bool) → is_frame bytes ≡ whole → 0 < frame_length bytes → frame_length bytes ≡ length bytes
  unfolding frame_length
  by_whole true e = rw e (λ some. refl)
  by_whole false e =
      rw e (rw no_request (rw all_held (held_told (nat_lt (length bytes) overhead) refl)))

  pub unknown_fills : 0 < frame_length bytes → frame_length bytes ≡ length bytes
  unknown_fills = by_whole (is_frame bytes) refl

noise_unanswered : is_answered noise.header ≡ true → ⊥
noise_unanswered e = cc

-- behind a frame that is answered none stands
behind_last : (bytes : List ℕ) → is_answered (message_at bytes).header ≡ true → frame_length (drop (frame_length bytes) bytes) ≡ 0
unfolding message_at
behind_last bytes last = by_part (is_reply bytes) (frame_length (drop (frame_length bytes) bytes) == 0) refl refl last
  where
    by_part : (reply none : Bool) → is_reply bytes ≡ reply → (frame_length (drop (frame_length bytes) bytes) == 0) ≡ none → is_answered (message_at bytes).header ≡ true
        → frame_length (drop (frame_length bytes) bytes) ≡ 0
    by_part reply true e f is = grind (arith, nat_tests, f)
    by_part true false e f is = (let never = rw e at is in cc)
    by_part false false e f is = (let never = rw f at (rw e at is) in cc)

-- frames in a row of which the first is none are no frames
row_none : (pieces : List (List ℕ)) (rest : List ℕ) → StandInRow pieces rest → frame_length (stream_of pieces ++ rest) ≡ 0 → flat_map frames_in_message (messages_of pieces rest) ≡ []
row_none [] rest none bare = nothing_among rest
row_none (p ∷ ps) rest (some, stands, row) bare = (let first = ap frame_length (stream_on p ps rest) in absurd (omega (arith, first, bare, stands, some)))

row_last : (pieces : List (List ℕ)) (rest : List ℕ) (front later : List Heard) (m : Heard) → StandInRow pieces rest → messages_of pieces rest ≡ front ++ m ∷ later
    → is_answered m.header ≡ true → flat_map frames_in_message later ≡ []
row_last [] [] [] later m none e is = cc
row_last [] [] (f ∷ fs) later m none e is = cc
row_last [] (byte ∷ rest) [] later m none e is = (let same : noise ≡ m = cc in absurd (noise_unanswered (subst (λ (x : Heard). is_answered x.header ≡ true) (sym same) is)))
row_last [] (byte ∷ rest) (f ∷ []) later m none e is = cc
row_last [] (byte ∷ rest) (f ∷ g ∷ fs) later m none e is = cc
row_last (p ∷ ps) rest [] later m (some, stands, row) e is =
    let behind : List ℕ = stream_of ps ++ rest in
    let first : message_at (p ++ behind) ≡ m = cc in
    let others : messages_of ps rest ≡ later = cc in
    let none = behind_last (p ++ behind) (subst (λ (x : Heard). is_answered x.header ≡ true) (sym first) is) in
    let left : drop (frame_length (p ++ behind)) (p ++ behind) ≡ behind = ap (λ k. drop k (p ++ behind)) stands ∙ drop_at p behind (length p) refl in
    ap (flat_map frames_in_message) (sym others) ∙ row_none ps rest row (sym (ap frame_length left) ∙ none)
row_last (p ∷ ps) rest (f ∷ fs) later m (some, stands, row) e is =
    let others : messages_of ps rest ≡ fs ++ m ∷ later = cc in row_last ps rest fs later m row others is

pub last_alone : (burst : List ℕ) (front later : List Heard) (m : Heard) → said burst ≡ front ++ m ∷ later → is_answered m.header ≡ true → flat_map frames_in_message later ≡ []
last_alone burst front later m e is = by_size (nat_lt (length burst) most_read) refl
  where
    long_one : (front : List Heard) → noise ∷ [] ≡ front ++ m ∷ later → flat_map frames_in_message later ≡ []
    long_one [] e = (let same : noise ≡ m = cc in absurd (noise_unanswered (subst (λ (x : Heard). is_answered x.header ≡ true) (sym same) is)))
    long_one (f ∷ []) e = cc
    long_one (f ∷ g ∷ fs) e = cc

    by_size : (short : Bool) → nat_lt (length burst) most_read ≡ short → flat_map frames_in_message later ≡ []
    by_size true s =
        let it = reads_up_to (length burst) burst (omega arith) in
        row_last it.pieces it.rest front later m it.is.stand (sym (said_short burst (grind (arith, nat_tests, s)) ∙ it.says) ∙ e) is
    by_size false s = long_one front (sym (says_noise burst (grind (arith, nat_tests, s))) ∙ e)
