-- Each reply of the device fits a PDU.
use Rattle.std.proofs.Common.{◌≡◌, ℕ, ◌≤◌, List, [], ◌∷◌, length, ap, subst, arith, Result, Err}
use Rattle.std.specs.Prelude.{All}
use Rattle.std.proofs.lemmas.List.Elements.{All-cons, All-nil}
use Rattle.modbus_frame.specs.Meaning.{Asked}
use Rattle.modbus_pdu.specs.Limits.{max_pdu}
use Rattle.modbus_pdu.specs.Message.{Message}
use Rattle.modbus_service.specs.Outcome.{Outcome, reply_pdu, code_of}
use Rattle.modbus_server.specs.Exchanges.{Exchange, GivesOutcome, Run, ReplyFits}
use Rattle.modbus_server.specs.Framing.{Framing}
use Rattle.modbus_server.specs.Complete.{RepliesFit}
use Rattle.modbus_server.specs.Served.{EndsAs, Served, Halts, too_long}
use Rattle.modbus_server.specs.declared.error.ProcessError.{ProcessError}
use Rattle.modbus_server.specs.declared.error.ProcessError.TheVariants.{ResponseTooLong}
use Rattle.modbus_store.specs.Tables.{Tables}
use Rattle.modbus_store.specs.Step.{device, store_step}

-- where the store's answers fit
module _ (answers_fit : (code : ℕ) (tables : Tables) (slave : ℕ) (request : Asked) → length (reply_pdu code (store_step tables slave request).0) ≤ max_pdu) where
  pub each_fits : (F : Framing) (old new : Tables) (x : Exchange F) → GivesOutcome F device old x new → ReplyFits F x
  each_fits F old new x e = omega (arith, ap (λ (o : Outcome × Tables). length (reply_pdu (code_of x.request) o.0)) e, answers_fit (code_of x.request) old (F.slave x.header) x.request)

  all_fit : (F : Framing) (start : Tables) (xs : List (Exchange F)) (end : Tables) → Run F device start xs end → All (ReplyFits F) xs
  all_fit F start [] end run = All-nil (ReplyFits F)
  all_fit F start (x ∷ xs) end (next, step, rest) = All-cons (ReplyFits F) x xs (each_fits F start next x step) (all_fit F next xs end rest)

  -- so the replies to any input fit
  pub replies_fit : (F : Framing) (start : Tables) (messages : List (Message F.Header)) → RepliesFit F device start messages
  replies_fit F start messages = λ xs end front rest run parts asked. all_fit F start xs end run

  -- and none is ever too long
  pub never_long : (F : Framing) (bytes cuts : List ℕ) (opening now : Tables) (written : List ℕ) (result : Result (Unit {0}) ProcessError) (size : ℕ)
      → EndsAs F device bytes cuts opening now written result → result ≡ Err (ResponseTooLong size) → ⊥
  never_long F bytes cuts opening now written result size ends e = served (subst (λ r. EndsAs F device bytes cuts opening now written r) e ends)
    where
      halted : (before : List (Message F.Header)) (middle : Tables) → Halts F device bytes cuts before middle now (too_long size) → ⊥
      halted before middle (message, next, x, asked, step, told, long) = omega (arith, told, long, each_fits F middle now x step)

      served : Served F device bytes cuts opening now written (too_long size) → ⊥
      served s = halted s.before s.ends s.halts
