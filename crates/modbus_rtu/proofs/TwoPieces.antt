-- What is found in the first of two pieces of bytes is found in both.
use Rattle.std.proofs.Common.{◌≡◌, ℕ, ◌+◌, ◌≤◌, List, ◌++◌, length, take, drop, sym, ap, ◌∙◌, arith, Ok, Err, length-append, length-drop}
use Rattle.std.proofs.lemmas.List.{drop-append-le, take-append-le, get_or_append_left}
use Rattle.modbus_frame.specs.declared.front.Front.TheVariants as front
use Rattle.modbus_rtu.specs.declared.front.Crowd.{Crowd}
use Rattle.modbus_rtu.specs.Front.{FindsFrame}
use Rattle.modbus_rtu.specs.Next.{AreBad}
use Rattle.modbus_rtu.proofs.Verdicts.{verdict-append, good_within, good_not_open, bad_not_open}
use Rattle.modbus_rtu.specs.Limits.{overhead, max_retries}

bad_on : (first second : List ℕ) (n : ℕ) → AreBad first n → AreBad (first ++ second) n
bad_on first second n bad i lt = verdict-append first second i (bad_not_open (bad i lt)) ∙ bad i lt

pub frame_on : (first second : List ℕ) (slave : ℕ) (pdu : _) (end : ℕ) → FindsFrame first (Ok (front.Message slave pdu end)) → FindsFrame (first ++ second) (Ok (front.Message slave pdu end))
frame_on first second slave pdu end (start, n, (few, bad, good), address, same, stops, fits) =
    let inside : start + (n + overhead) ≤ length first = good_within first start n good in
    let at : slave ≡ _ = address ∙ sym (get_or_append_left first second 0 start (omega arith)) in
    let whole : pdu.now ≡ take n (drop (start + 1) (first ++ second)) =
    same ∙ sym (ap (take n) (drop-append-le (start + 1) first second (omega arith)) ∙ take-append-le n (drop (start + 1) first) second (omega (arith, length-drop (start + 1) first))) in
    (start, n, (few, bad_on first second start bad, verdict-append first second start (good_not_open good) ∙ good), at, whole, stops, omega (arith, length-append first second))

pub crowd_on : (first second : List ℕ) (crowd : Crowd) → FindsFrame first (Err crowd) → FindsFrame (first ++ second) (Err crowd)
crowd_on first second crowd (bad, long) = (bad_on first second max_retries bad, omega (arith, length-append first second))
