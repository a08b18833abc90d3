-- Each answer of a gateway fits.
use Rattle.std.proofs.Common.{◌≡◌, ℕ, ◌≤◌, Bool, true, false, if◌then◌else◌, nat_le, List, [], ◌∷◌, length, refl, subst, arith, Ok, Err}
use Rattle.std.specs.Prelude.{Option, Some, None, All}
use Rattle.std.proofs.lemmas.List.Elements.{All-cons, All-nil}
use Rattle.std.proofs.lemmas.Bool.{leb-true}
use Rattle.modbus_link.specs.Line.{LinkMeaning}
use Rattle.modbus_frame.specs.declared.code.ExceptionCode.TheVariants.{GatewayTargetDevice}
use Rattle.modbus_frame.specs.declared.response.Response.{Response}
use Rattle.modbus_pdu.specs.ResponsePdu.{response_pdu}
use Rattle.modbus_frame.specs.declared.fault.Error.TheVariants as call
use Rattle.modbus_pdu.specs.Limits.{max_pdu}
use Rattle.modbus_pdu.specs.Message.{Message}
use Rattle.modbus_service.specs.Outcome.{Outcome, reply, exception, code_of, reply_pdu}
use Rattle.modbus_server.specs.declared.error.ProcessError.TheVariants.{TooManyRetries}
use Rattle.modbus_server.specs.Exchanges.{Exchange, Run, GivesOutcome, ReplyFits}
use Rattle.modbus_server.specs.Served.{Served, Halts, broken, too_long}
use Rattle.modbus_server.specs.Complete.{RepliesFit}
use Rattle.modbus_server.specs.Tcp.{tcp}
use Rattle.modbus_gateway.specs.Answer.{LineAnswer, of_call, of_sending, line_outcome}
use Rattle.modbus_gateway.specs.Forwards.{LineState, forwards}

-- an outcome that fits, or none
abbrev FitsIfSome : ℕ → Option Outcome → Type 0
FitsIfSome code (Some outcome) = length (reply_pdu code outcome) ≤ max_pdu
FitsIfSome code None = Unit {0}

response_fits : (code : ℕ) (response : Response) (fits : Bool) → nat_le (length (response_pdu response)) max_pdu ≡ fits
    → FitsIfSome code (Some (if fits then reply response else exception GatewayTargetDevice))
unfolding reply_pdu
response_fits code response true e = leb-true (length (response_pdu response)) max_pdu e
response_fits code response false e = omega arith

told_fits : (code : ℕ) (answer : LineAnswer) → FitsIfSome code (line_outcome answer)
unfolding reply_pdu
told_fits code (of_call (Ok (Ok response))) = response_fits code response (nat_le (length (response_pdu response)) max_pdu) refl
told_fits code (of_call (Ok (Err refusal))) = omega arith
told_fits code (of_call (Err (call.Protocol fault))) = omega arith
told_fits code (of_call (Err (call.Transport fault))) = omega arith
told_fits code (of_call (Err call.NoMemory)) = tt
told_fits code (of_sending (Ok done)) = omega arith
told_fits code (of_sending (Err (call.Protocol fault))) = omega arith
told_fits code (of_sending (Err (call.Transport fault))) = omega arith
told_fits code (of_sending (Err call.NoMemory)) = tt

module _ {L : Type 0} (M : LinkMeaning L) where
  step_fits : (x : Exchange tcp) (old new : LineState L) → GivesOutcome tcp (forwards M) old x new → ReplyFits tcp x
  step_fits x old new (answer, asks, told) = subst (FitsIfSome (code_of x.request)) told (told_fits (code_of x.request) answer)

  pub run_fits : (xs : List (Exchange tcp)) (start end : LineState L) → Run tcp (forwards M) start xs end → All (ReplyFits tcp) xs
  run_fits [] start end run = All-nil (ReplyFits tcp)
  run_fits (x ∷ xs) start end (next, step, rest) = All-cons (ReplyFits tcp) x xs (step_fits x start next step) (run_fits xs next end rest)

  pub replies_fit : (opening : LineState L) (messages : List (Message tcp.Header)) → RepliesFit tcp (forwards M) opening messages
  replies_fit opening messages xs end front rest run split asked = run_fits xs opening end run

  module _ (bytes cuts : List ℕ) (opening now : LineState L) (written : List ℕ) where
    pub none_too_long : (size : ℕ) → Served tcp (forwards M) bytes cuts opening now written (too_long size) → ⊥
    none_too_long size s = by_halts s.halts
      where
        by_halts : Halts tcp (forwards M) bytes cuts s.before s.ends now (too_long size) → ⊥
        by_halts (message, next, x, asked, step, told, long) =
            let fits : ReplyFits tcp x = step_fits x s.ends now step in
            omega arith

    pub none_crowded : Served tcp (forwards M) bytes cuts opening now written (broken TooManyRetries) → ⊥
    none_crowded s = by_halts s.halts
      where
        by_halts : Halts tcp (forwards M) bytes cuts s.before s.ends now (broken TooManyRetries) → ⊥
        by_halts (bad, same) = bad
