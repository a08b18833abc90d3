-- Which bursts are frames, and which message each burst is.
use Rattle.std.proofs.Common.{◌≡◌, ◌↔◌, ℕ, ◌+◌, ◌-◌, ◌*◌, ◌/◌, ◌%◌, ◌<◌, ◌≤◌, Bool, true, false, List, [], ◌∷◌, ◌++◌, length, take, drop, slice_index, refl, sym, ap, ◌∙◌, subst, arith, length-append}
use Rattle.std.specs.Prelude.{if◌then◌else◌}
use Rattle.std.specs.List.{AllByRecursion}
use Rattle.std.proofs.lemmas.Grind.{common_steps}
use Rattle.std.proofs.lemmas.List.{drop_all, take_at, get_or_at}
use Rattle.modbus_pdu.specs.Laws.{IsByte}
use Rattle.modbus_pdu.specs.SlavePdu.{SlavePdu, IsFramed}
use Rattle.modbus_pdu.specs.Message.{message}
use Rattle.modbus_rtu.specs.Checksum.{crc}
use Rattle.modbus_rtu.specs.Frame.{frame}
use Rattle.modbus_rtu.specs.Frame.{head}
use Rattle.modbus_rtu.specs.ResponseHead.{response_head}
use Rattle.modbus_field.specs.declared.burst.frame.Part.TheVariants.{Last}
use Rattle.modbus_field.specs.BurstLength.{own_head, request_head, reply_head}
use Rattle.modbus_field.specs.Bursts.{Heard, heard, is_frame, slave_and_pdu, frame_of, frame_length, request_length, reply_length, is_reply, part_at, message_at, said}
use Rattle.modbus_field.proofs.Said.{said_nothing, said_one}

-- a slave address, a PDU and two bytes
abbrev shape : ℕ → List ℕ → ℕ → ℕ → List ℕ
shape slave pdu low high = slave ∷ pdu ++ low ∷ high ∷ []

-- a list of so many bytes has its last two apart
apart : (xs : List ℕ) → 2 ≤ length xs → (front : List ℕ) × (low : ℕ) × (high : ℕ) × (xs ≡ front ++ low ∷ high ∷ [])
apart [] some = absurd (omega arith)
apart (x ∷ []) some = absurd (omega arith)
apart (x ∷ y ∷ []) some = ([], x, y, refl)
apart (x ∷ y ∷ z ∷ zs) some =
    let rest = apart (y ∷ z ∷ zs) (omega arith) in
    (x ∷ rest.0, rest.1, rest.2, ap (λ ys. x ∷ ys) rest.3)

front-bytes : (xs ys : List ℕ) → AllByRecursion IsByte (xs ++ ys) → AllByRecursion IsByte xs
front-bytes [] ys all = tt
front-bytes (x ∷ xs) ys all = (all.0, front-bytes xs ys all.1)

back-bytes : (xs ys : List ℕ) → AllByRecursion IsByte (xs ++ ys) → AllByRecursion IsByte ys
back-bytes [] ys all = all
back-bytes (x ∷ xs) ys all = back-bytes xs ys all.1

module _ (slave : ℕ) (pdu : List ℕ) (low high : ℕ) where
  size : length (shape slave pdu low high) ≡ length pdu + 3
  size = omega (arith, length-append pdu (low ∷ high ∷ []))

  body_of : take (length (shape slave pdu low high) - 2) (shape slave pdu low high) ≡ slave ∷ pdu
  body_of =
      let n : length (shape slave pdu low high) - 2 ≡ length (slave ∷ pdu) = omega (arith, size) in
      ap (λ k. take k (shape slave pdu low high)) n ∙ take_at (slave ∷ pdu) (low ∷ high ∷ []) (length (slave ∷ pdu)) refl

  low_of : slice_index (shape slave pdu low high) (length (shape slave pdu low high) - 2) ≡ low
  low_of = get_or_at (slave ∷ pdu) low (high ∷ []) 0 (length (shape slave pdu low high) - 2) (omega (arith, size))

  high_of : slice_index (shape slave pdu low high) (length (shape slave pdu low high) - 1) ≡ high
  high_of =
      let join : shape slave pdu low high ≡ (slave ∷ pdu ++ low ∷ []) ++ high ∷ [] = grind (arith, common_steps) in
      let n : length (slave ∷ pdu ++ low ∷ []) ≡ length (shape slave pdu low high) - 1 = omega (arith, size, length-append pdu (low ∷ [])) in
      ap (λ xs. slice_index xs (length (shape slave pdu low high) - 1)) join ∙ get_or_at (slave ∷ pdu ++ low ∷ []) high [] 0 (length (shape slave pdu low high) - 1) n

  parts_of : slave_and_pdu (shape slave pdu low high) ≡ message slave pdu
  parts_of =
      let n : length (shape slave pdu low high) - 3 ≡ length pdu = omega (arith, size) in
      ap (λ (p : List ℕ). message slave p) (ap (λ k. take k (pdu ++ low ∷ high ∷ [])) n ∙ take_at pdu (low ∷ high ∷ []) (length pdu) refl)

  is_shape : is_frame (shape slave pdu low high) ≡ true → (0 < length pdu) × (length pdu ≤ 253) × (crc (slave ∷ pdu) ≡ low + 256 * high)
  is_shape is = (grind (arith, size), grind (arith, size), grind (arith, size, body_of, low_of, high_of))

  shape_is : 0 < length pdu → length pdu ≤ 253 → crc (slave ∷ pdu) ≡ low + 256 * high → is_frame (shape slave pdu low high) ≡ true
  shape_is some fits sum = grind (arith, size, body_of, low_of, high_of)

  shape_frame : crc (slave ∷ pdu) ≡ low + 256 * high → low < 256 → shape slave pdu low high ≡ frame slave pdu
  unfolding frame
  shape_frame sum less =
      let l : low ≡ crc (slave ∷ pdu) % 256 = omega (arith, sum, less) in
      let h : high ≡ crc (slave ∷ pdu) / 256 = omega (arith, sum, less) in
      ap (λ x. shape slave pdu x high) l ∙ ap (λ y. shape slave pdu (crc (slave ∷ pdu) % 256) y) h

  -- a shape that is a frame is that of its parts
  shape_framed : (message : SlavePdu) → AllByRecursion IsByte (shape slave pdu low high) → is_frame (shape slave pdu low high) ≡ true
      → slave_and_pdu (shape slave pdu low high) ≡ message → (shape slave pdu low high ≡ frame message.header message.pdu) × IsFramed message
  shape_framed message bytes is same =
      let known = is_shape is in
      let less : low < 256 = (back-bytes pdu (low ∷ high ∷ []) bytes.1).0 in
      subst (λ (m : SlavePdu). (shape slave pdu low high ≡ frame m.header m.pdu) × IsFramed m) (sym parts_of ∙ same)
      (shape_frame known.2 less, record { slave = bytes.0; bytes = front-bytes pdu (low ∷ high ∷ []) bytes.1; some = known.0; fits = known.1 })

found_frame : (b : Bool) (p m : SlavePdu) → (if b then p ∷ [] else []) ≡ m ∷ [] → (b ≡ true) × (p ≡ m)
found_frame true p m e = (refl, cc)
found_frame false p m e = cc

given_frame : (b : Bool) (p m : SlavePdu) → b ≡ true → p ≡ m → (if b then p ∷ [] else []) ≡ m ∷ []
given_frame true p m e same = ap (λ (x : SlavePdu). x ∷ []) same
given_frame false p m e same = cc

is_of : (burst : List ℕ) (message : SlavePdu) → AllByRecursion IsByte burst → is_frame burst ≡ true → slave_and_pdu burst ≡ message
    → (burst ≡ frame message.header message.pdu) × IsFramed message
is_of [] message bytes is same = cc
is_of (slave ∷ rest) message bytes is same =
    let long : 2 ≤ length rest = grind arith in
    let a = apart rest long in
    let shaped : slave ∷ rest ≡ shape slave a.0 a.1 a.2 = ap (λ xs. slave ∷ xs) a.3 in
    let known = shape_framed slave a.0 a.1 a.2 message (subst (AllByRecursion IsByte) shaped bytes) (subst (λ b. is_frame b ≡ true) shaped is) (ap slave_and_pdu (sym shaped) ∙ same) in
    (shaped ∙ known.0, known.1)

is_framed : (slave : ℕ) (pdu : List ℕ) → 0 < length pdu → length pdu ≤ 253 → frame_of (frame slave pdu) ≡ message slave pdu ∷ []
unfolding frame_of frame
is_framed slave pdu some fits =
    let sum : ℕ = crc (slave ∷ pdu) in
    let same : sum ≡ sum % 256 + 256 * (sum / 256) = omega arith in
    given_frame (is_frame (shape slave pdu (sum % 256) (sum / 256))) (slave_and_pdu (shape slave pdu (sum % 256) (sum / 256))) (message slave pdu)
    (shape_is slave pdu (sum % 256) (sum / 256) some fits same) (parts_of slave pdu (sum % 256) (sum / 256))

pub frames_are : (burst : List ℕ) (message : SlavePdu) → AllByRecursion IsByte burst
    → (frame_of burst ≡ message ∷ []) ↔ ((burst ≡ frame message.header message.pdu) × IsFramed message)
unfolding frame_of
frames_are burst message bytes = (forth, back)
  where
    forth : frame_of burst ≡ message ∷ [] → (burst ≡ frame message.header message.pdu) × IsFramed message
    forth e =
        let known = found_frame (is_frame burst) (slave_and_pdu burst) message e in
        is_of burst message bytes known.0 known.1

    back : (burst ≡ frame message.header message.pdu) × IsFramed message → frame_of burst ≡ message ∷ []
    back (e, is) = ap frame_of e ∙ is_framed message.header message.pdu is.some is.fits

-- no frame stands where nothing does
pub no_frame : frame_length [] ≡ 0
unfolding frame_length request_length reply_length request_head reply_head own_head head response_head
no_frame = refl

-- a burst that is a frame says that frame alone
module _ (burst : List ℕ) (is : is_frame burst ≡ true) where
  whole_length : frame_length burst ≡ length burst
  unfolding frame_length
  whole_length = rw is refl

  whole_no_reply : is_reply burst ≡ false
  unfolding is_reply
  whole_no_reply = rw is refl

  whole_sizes : (4 ≤ length burst) × (length burst ≤ 256)
  whole_sizes = (grind arith, grind arith)

  whole_is_last : part_at burst ≡ Last
  whole_is_last =
      let none : frame_length (drop (frame_length burst) burst) ≡ 0 = ap frame_length (drop_all (frame_length burst) burst (omega (arith, whole_length))) ∙ no_frame in
      rw whole_no_reply (rw none refl)

  whole_message : message_at burst ≡ heard (slave_and_pdu burst).header Last (slave_and_pdu burst).pdu
  unfolding message_at
  whole_message = rw whole_is_last (rw whole_length refl)

  whole_said : said burst ≡ heard (slave_and_pdu burst).header Last (slave_and_pdu burst).pdu ∷ []
  whole_said =
      let n = whole_length in
      said_one burst (omega (arith, whole_sizes.1)) (omega (arith, n, whole_sizes.0)) (omega (arith, whole_sizes.0))
      ∙ ap (λ (m : Heard). m ∷ said (drop (frame_length burst) burst)) whole_message
      ∙ ap (λ (xs : List Heard). heard (slave_and_pdu burst).header Last (slave_and_pdu burst).pdu ∷ xs)
      (ap said (drop_all (frame_length burst) burst (omega (arith, n))) ∙ said_nothing)

pub frame_said : (burst : List ℕ) (message : SlavePdu) → frame_of burst ≡ message ∷ [] → said burst ≡ heard message.header Last message.pdu ∷ []
unfolding frame_of
frame_said burst message e =
    let known = found_frame (is_frame burst) (slave_and_pdu burst) message e in
    whole_said burst known.0 ∙ ap (λ (m : SlavePdu). heard m.header Last m.pdu ∷ []) known.1
