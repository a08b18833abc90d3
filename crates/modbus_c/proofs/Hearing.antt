-- What units heard of a burst so far, and one message more.
use Rattle.std.proofs.Common.{◌≡◌, inl, inr, ℕ, ◌+◌, ◌≤◌, List, [], ◌∷◌, ◌++◌, length, drop, Option, Some, None, refl, sym, ap, ◌∙◌, subst, arith, append_assoc, append-nil}
use Rattle.std.proofs.lemmas.List.{drop-drop, drop_all}
use Rattle.std.proofs.lemmas.Grind.{common_steps}
use Rattle.modbus_frame.specs.Codes.{function_number, exception_number}
use Rattle.modbus_frame.specs.Meaning.{Asked, function_asked}
use Rattle.modbus_frame.specs.declared.code.ExceptionCode.{ExceptionCode}
use Rattle.modbus_frame.specs.declared.code.FunctionCode.{FunctionCode}
use Rattle.modbus_frame.specs.declared.response.Response.{Response}
use Rattle.modbus_pdu.specs.Limits.{max_pdu}
use Rattle.modbus_pdu.specs.ResponsePdu.{response_pdu, exception_pdu}
use Rattle.modbus_rtu.specs.Frame.{frame}
use Rattle.modbus_service.specs.Outcome.{Outcome, silence, reply, exception, reply_pdu, code_of}
use Rattle.modbus_store.specs.Step.{store_step}
use Rattle.modbus_store.specs.Tables.{Tables}
use Rattle.modbus_field.specs.declared.standard.answers.Unread.{Unread}
use Rattle.modbus_field.specs.declared.standard.answers.Unread.TheVariants.{Refused, Silent}
use Rattle.modbus_field.specs.Bursts.{Heard, said}
use Rattle.modbus_field.proofs.Said.{said_nothing}
use Rattle.modbus_c.specs.Line.{told_frame, Hears, HearsEach}
use Rattle.modbus_c.specs.Units.{Units, TellsUnless, UnitsTell}

pub silently : {U : Type 0} (V : Units U) (slave : ℕ) (asked request : Asked) (old new : List U) → asked ≡ request → UnitsTell V slave request silence old new
    → (outcome : Outcome) × UnitsTell V slave asked outcome old new × ([] ≡ told_frame slave (code_of asked) outcome)
silently V slave asked request old new same told = (silence, subst (λ r. UnitsTell V slave r silence old new) (sym same) told, refl)

pub responded : {U : Type 0} (V : Units U) (slave : ℕ) (asked request : Asked) (response : Response) (old new : List U) → asked ≡ request → UnitsTell V slave request (reply response) old new
    → (outcome : Outcome) × UnitsTell V slave asked outcome old new × (frame slave (response_pdu response) ≡ told_frame slave (code_of asked) outcome)
unfolding reply_pdu
responded V slave asked request response old new same told =
    (reply response, subst (λ r. UnitsTell V slave r (reply response) old new) (sym same) told, refl)

pub refused : {U : Type 0} (V : Units U) (slave : ℕ) (asked request : Asked) (code : ExceptionCode) (function : FunctionCode) (old new : List U) → asked ≡ request
    → function ≡ function_asked request → UnitsTell V slave request (exception code) old new
    → (outcome : Outcome) × UnitsTell V slave asked outcome old new
    × (frame slave (exception_pdu (record { function = function; exception = code })) ≡ told_frame slave (code_of asked) outcome)
unfolding reply_pdu
refused V slave asked request code function old new same named told = (
  exception code,
  subst (λ r. UnitsTell V slave r (exception code) old new) (sym same) told,
  ap (λ f. frame slave ((function_number f + 0x80) ∷ exception_number code ∷ [])) (named ∙ ap function_asked (sym same)),
)

-- what is told fits, as what a store answers does
silence_fits : (code : ℕ) → length (reply_pdu code silence) ≤ max_pdu
unfolding reply_pdu
silence_fits code = omega arith

exception_fits : (code : ℕ) (told : ExceptionCode) → length (reply_pdu code (exception told)) ≤ max_pdu
unfolding reply_pdu
exception_fits code told = omega arith

module _ (fits : (code : ℕ) (tables : Tables) (slave : ℕ) (request : Asked) → length (reply_pdu code (store_step tables slave request).0) ≤ max_pdu) where
  pub unless_fits : (it : Option Unread) (old : Tables) (slave : ℕ) (request : Asked) (outcome : Outcome) (new : Tables) (code : ℕ)
      → TellsUnless it old slave request outcome new → length (reply_pdu code outcome) ≤ max_pdu
  unless_fits (Some (Refused told)) old slave request outcome new code (e, k) = subst (λ x. length (reply_pdu code x) ≤ max_pdu) (sym e) (exception_fits code told)
  unless_fits (Some Silent) old slave request outcome new code (e, k) = subst (λ x. length (reply_pdu code x) ≤ max_pdu) (sym e) (silence_fits code)
  unless_fits None old slave request outcome new code (inl step) = subst (λ x. length (reply_pdu code x.0) ≤ max_pdu) step (fits code old slave request)
  unless_fits None old slave request outcome new code (inr (e, k, n)) = subst (λ x. length (reply_pdu code x) ≤ max_pdu) (sym e) (exception_fits code _)

-- one message more was heard
pub heard_more : {U : Type 0} (V : Units U) (old : List U) (was : List ℕ) (ms : List Heard) (it : Heard) (mid new : List U) (so_far behind : List ℕ)
    → HearsEach V old was ms mid so_far → Hears V mid so_far it new behind → HearsEach V old was (ms ++ it ∷ []) new behind
heard_more V old was [] it mid new so_far behind (same, kept) hears =
    (new, behind, subst (λ r. Hears V old r it new behind) kept (subst (λ u. Hears V u so_far it new behind) same hears), (refl, refl))
heard_more V old was (m ∷ ms) it mid new so_far behind (next, after, first, rest) hears =
    (next, after, first, heard_more V next after ms it mid new so_far behind rest hears)

pub said_more : (burst rest : List ℕ) (start end next : ℕ) (ms : List Heard) (it : Heard) → rest ≡ drop start burst → next ≡ start + end
    → said burst ≡ ms ++ said (drop start burst) → said rest ≡ it ∷ said (drop end rest) → said burst ≡ (ms ++ it ∷ []) ++ said (drop next burst)
said_more burst rest start end next ms it same sum so_far first =
    let further : drop end rest ≡ drop next burst = grind (arith, common_steps, drop-drop, same, sum) in
    so_far ∙ ap (λ b. ms ++ said b) (sym same) ∙ ap (λ xs. ms ++ xs) first ∙ ap (λ b. ms ++ it ∷ said b) further
    ∙ sym (append_assoc ms (it ∷ []) (said (drop next burst)))

-- at its end all of a burst was heard
pub said_all : (burst : List ℕ) (start : ℕ) (ms : List Heard) → length burst ≤ start → said burst ≡ ms ++ said (drop start burst) → said burst ≡ ms
said_all burst start ms end so_far =
    so_far ∙ ap (λ b. ms ++ said b) (drop_all start burst end) ∙ ap (λ xs. ms ++ xs) said_nothing ∙ append-nil ms
