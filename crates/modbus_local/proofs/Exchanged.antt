-- An exchange, by what the server did with the request and what the call made of the replies.
use Rattle.std.proofs.Common.{◌≡◌, ◌⊎◌, inl, inr, ℕ, ◌+◌, ◌/◌, ◌%◌, List, [], ◌∷◌, length, Err, Result, refl, subst, arith, length-append}
use Rattle.modbus_frame.specs.Meaning.{Asked}
use Rattle.modbus_frame.specs.declared.fault.Error.TheVariants.{NoMemory}
use Rattle.modbus_pdu.specs.Encodes.{Fits}
use Rattle.modbus_pdu.specs.RequestPdu.{request_pdu}
use Rattle.modbus_rtu.specs.Checksum.{crc}
use Rattle.modbus_rtu.specs.Frame.{frame}
use Rattle.modbus_service.specs.Answering.{Answering}
use Rattle.modbus_server.specs.declared.error.ProcessError.{ProcessError}
use Rattle.modbus_server.specs.Piece.{ServedPiece}
use Rattle.modbus_server.specs.Rtu.{rtu}
use Rattle.modbus_client.specs.Matches.{Answer}
use Rattle.modbus_client.specs.Protocol.{waiting}
use Rattle.modbus_client.specs.Rtu.{FindsReplyFrame}
use Rattle.modbus_local.specs.Exchange.{IsOfReplies, IsWantOfMemory, LocalExchange, ExchangesLocally}
use Rattle.modbus_local.specs.Back.{ComesBack}

module _ {S : Type 0} (A : Answering S) (slave : ℕ) (asked : Asked) (before after : S) (fits : Fits (request_pdu asked)) (opening : FindsReplyFrame [] [] (waiting [])) where
  exchange_by : (answer : Answer) → IsOfReplies answer → LocalExchange A before after slave asked answer ⊎ ((answer ≡ Err NoMemory) × (after ≡ before)) → ExchangesLocally A before after slave asked answer
  exchange_by answer of asks = record {
    too_long = λ size. (λ e. absurd ((subst IsOfReplies e of).0 refl), λ p. absurd (omega (arith, p.0, fits)));
    unasked = λ l. absurd (omega (arith, l, fits));
    asks = λ f. asks;
  }

  module _ (old new : List ℕ) (result : Result (Unit {0}) ProcessError) (s : ServedPiece rtu A (frame slave (request_pdu asked)) before after old new result) where
    pub exchange_unserved : IsWantOfMemory result → ExchangesLocally A before after slave asked (Err NoMemory)
    exchange_unserved wants = exchange_by (Err NoMemory) (λ e. cc, λ e. cc) (elim s.ends [
      | inl ends ↦ inl (record {
        sent = s.sent;
        served = result;
        only = s.only;
        server = ends;
        wanting = λ w. refl;
        held = [];
        client = record { only = (λ e. cc, λ e. cc); reads = 0; ends = inl ([], opening); ended = tt };
      })
      | inr none ↦ inr (refl, none.1)
    ])

pub length-frame : (slave : ℕ) (pdu : List ℕ) → length (frame slave pdu) ≡ length pdu + 3
unfolding frame
length-frame slave pdu = omega (arith, length-append (slave ∷ pdu) (crc (slave ∷ pdu) % 256 ∷ crc (slave ∷ pdu) / 256 ∷ []))

-- what comes back, by what the exchange promises
pub exchange_back : {S : Type 0} (A : Answering S) (before after : S) (slave : ℕ) (asked : Asked) (answer : Answer)
    → (LocalExchange A before after slave asked answer → ComesBack A before after slave asked answer)
    → ExchangesLocally A before after slave asked answer → ComesBack A before after slave asked answer
exchange_back A before after slave asked answer law exchanges = λ of fits some. elim (exchanges.asks fits) [
  | inl local ↦ law local of fits some
  | inr none ↦ absurd (some none.0)
]
