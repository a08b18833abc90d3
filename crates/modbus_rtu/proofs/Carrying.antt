-- What a call of an inbox carries on.
use Rattle.std.proofs.Common.{◌≡◌, ℕ, ◌+◌, ◌<◌, ◌≤◌, List, [], ◌∷◌, ◌++◌, length, drop, Option, Some, None, Result, Ok, Err, refl, ap, arith, length-drop}
use Rattle.std.specs.Prelude.{IfOk, IfErr, IfSome}
use Rattle.modbus_pdu.specs.SlavePdu.{SlavePdu}
use Rattle.modbus_rtu.proofs.Verdicts.{good_within}
use Rattle.modbus_rtu.specs.declared.verdict.Verdict.TheVariants.{Open}
use Rattle.modbus_rtu.specs.declared.search.Next.TheVariants.{Waiting}
use Rattle.modbus_rtu.specs.declared.inbox.RtuFrame.{RtuFrame}
use Rattle.modbus_rtu.specs.declared.inbox.RtuError.{RtuError}
use Rattle.modbus_rtu.specs.declared.inbox.RtuError.TheVariants as errors
use Rattle.modbus_rtu.specs.Frame.{verdict}
use Rattle.modbus_rtu.specs.Next.{IsNext}
use Rattle.modbus_rtu.specs.Stands.{StandsFor, IsTakenNext, IsUsedUp}
use Rattle.modbus_rtu.specs.Inbox.{TakesFrame, StandsAfter, slave_and_pdu}
use Rattle.modbus_rtu.proofs.Standing.{stands_frame, next_taken, stands_waiting, stands_read, used_up, first_crowd}
use Rattle.modbus_rtu.specs.Limits.{overhead}

-- an open offset at the front is where the search waits
waits_at_front : (held : List ℕ) → verdict held 0 ≡ Open → IsNext held (Waiting 0)
waits_at_front held open' = (omega arith, (λ i lt. absurd (omega arith)), open')

pub used_up_after : (bytes cuts held : List ℕ) (taken : List SlavePdu) → StandsFor bytes cuts held taken → verdict held 0 ≡ Open → IsUsedUp bytes cuts held taken
used_up_after bytes cuts held taken s open' = used_up bytes cuts held taken s 0 (waits_at_front held open')

length_zero : (xs : List ℕ) → length xs ≡ 0 → xs ≡ []
length_zero [] e = refl
length_zero (x ∷ xs) e = absurd (omega (arith, e))

-- what stays to be looked at begins with the open offset
pub open_at_front : (held : List ℕ) (dropped : ℕ) → IsNext held (Waiting dropped) → verdict (drop dropped held) 0 ≡ Open
open_at_front held dropped next = next.2

pub stands_after : (old : List ℕ) (result : Result (Option RtuFrame) RtuError) (new : List ℕ) → TakesFrame old result new → (bytes cuts : List ℕ) (taken : List SlavePdu) → StandsFor bytes cuts old taken → StandsAfter bytes cuts taken result new
stands_after old (Ok (Some frame)) new (start, n, next, same, rest) bytes cuts taken s =
    rw (same, rest) (stands_frame bytes cuts old taken s start n next)
stands_after old (Ok None) new (dropped, next, rest) bytes cuts taken s =
    rw rest (stands_waiting bytes cuts old taken s dropped next, open_at_front old dropped next, used_up bytes cuts old taken s dropped next)
stands_after old (Err errors.TooManyRetries) new (next, rest) bytes cuts taken s = (s.place, first_crowd bytes cuts old taken s next)
stands_after old (Err (errors.Invalid reason)) new gives bytes cuts taken s = absurd gives
stands_after old (Err errors.NoMemory) new gives bytes cuts taken s = absurd gives

-- a read where nothing can be taken
pub stands_after_read : (bytes cuts held more : List ℕ) (taken : List SlavePdu) → StandsFor bytes cuts held taken → verdict held 0 ≡ Open → 0 < length more → StandsFor (bytes ++ more) (cuts ++ length (bytes ++ more) ∷ []) (held ++ more) taken
stands_after_read bytes cuts held more taken s open' some =
    stands_read bytes cuts held taken s 0 (waits_at_front held open') more some

-- a frame that is taken off leaves fewer bytes
pub gives_less : (old : List ℕ) (frame : RtuFrame) (new : List ℕ) → TakesFrame old (Ok (Some frame)) new → length new < length old
gives_less old frame new (start, n, next, same, rest) =
    let fits : start + (n + overhead) ≤ length old = good_within old start n next.2 in
    omega (arith, ap length rest, length-drop (start + (n + overhead)) old)

pub gives_no_more : (old : List ℕ) (result : Result (Option RtuFrame) RtuError) (new : List ℕ) → TakesFrame old result new → IfOk result (λ found. IfSome found (λ frame. length new < length old))
gives_no_more old (Ok (Some frame)) new gives = gives_less old frame new gives
gives_no_more old (Ok None) new gives = tt
gives_no_more old (Err e) new gives = tt

pub gives_open : (old : List ℕ) (result : Result (Option RtuFrame) RtuError) (new : List ℕ) → TakesFrame old result new → result ≡ Ok None → verdict new 0 ≡ Open
gives_open old (Ok (Some frame)) new gives e = cc
gives_open old (Ok None) new (dropped, next, rest) e = rw rest (open_at_front old dropped next)
gives_open old (Err x) new gives e = cc

pub gives_next : (old : List ℕ) (result : Result (Option RtuFrame) RtuError) (new : List ℕ) → TakesFrame old result new →
    IfOk result (λ found. IfSome found (λ frame. (bytes cuts : List ℕ) (taken : List SlavePdu) → StandsFor bytes cuts old taken → IsTakenNext bytes cuts taken (slave_and_pdu frame)))
gives_next old (Ok (Some frame)) new (start, n, next, same, rest) = λ bytes cuts taken s. rw same (next_taken bytes cuts old taken s start n next)
gives_next old (Ok None) new gives = tt
gives_next old (Err e) new gives = tt

pub gives_cause : (old : List ℕ) (result : Result (Option RtuFrame) RtuError) (new : List ℕ) → TakesFrame old result new → IfErr result (λ error. error ≡ errors.TooManyRetries)
gives_cause old (Ok found) new gives = tt
gives_cause old (Err errors.TooManyRetries) new gives = refl
gives_cause old (Err (errors.Invalid reason)) new gives = absurd gives
gives_cause old (Err errors.NoMemory) new gives = absurd gives

-- what an inbox stands for after a read
pub read_stands : (old new piece bytes cuts : List ℕ) (taken : List SlavePdu) → new ≡ old ++ piece → 0 < length piece → StandsFor bytes cuts old taken → verdict old 0 ≡ Open → StandsFor (bytes ++ piece) (cuts ++ length (bytes ++ piece) ∷ []) new taken
read_stands old new piece bytes cuts taken e some s open' = rw e (stands_after_read bytes cuts old piece taken s open' some)
