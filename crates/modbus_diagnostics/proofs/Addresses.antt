-- The addresses of the units behind a port stay those that it counts for.
use Rattle.std.proofs.Common.{◌≡◌, inl, inr, ℕ, List, [], ◌∷◌, refl, sym, ap, ◌∙◌}
use Rattle.std.specs.List.{AllZip}
use Rattle.std.proofs.lemmas.List.{map-append}
use Rattle.modbus_frame.specs.Meaning.{Asked}
use Rattle.modbus_service.specs.Answering.{Answering}
use Rattle.modbus_service.specs.Exchange.{Exchange, Run}
use Rattle.modbus_service.specs.Outcome.{Outcome}
use Rattle.modbus_service.specs.Units.{LineUnits, unit_at, Did, OneAsked, units_give, units_answering}
use Rattle.modbus_service.specs.declared.only_unit.OnlyUnit.{OnlyUnit}
use Rattle.modbus_field.specs.LineAnswers.{addresses_of}
use Rattle.modbus_diagnostics.specs.declared.heard.Heard.{Heard}
use Rattle.modbus_diagnostics.specs.declared.heard.Heard.TheVariants.{Noise, Another, Broadcast, Own, Asks, Monitored, MonitoredBroadcast, MonitoredAnother}
use Rattle.modbus_diagnostics.specs.Journal.{JournalState}
use Rattle.modbus_diagnostics.specs.Port.{PortState, Answers, port_answering}

module _ {S : Type 0} (A : Answering S) where
  did_all : (request : Asked) (old new : List (OnlyUnit S)) → AllZip (Did A request) old new → addresses_of new ≡ addresses_of old
  did_all request [] [] all = refl
  did_all request [] (y ∷ ys) all = absurd all
  did_all request (x ∷ xs) [] all = absurd all
  did_all request (x ∷ xs) (y ∷ ys) (did, rest) = ap (λ unit. unit ∷ addresses_of ys) did.0 ∙ ap (λ units. x.unit ∷ units) (did_all request xs ys rest)

  one : (Does : S → S → Type 0) (slave : ℕ) (old new : List (OnlyUnit S)) → OneAsked Does slave old new → addresses_of new ≡ addresses_of old
  one Does slave old new asked =
      let at = asked.at in
      ap addresses_of asked.now_is ∙ map-append (λ (it : OnlyUnit S). it.unit) at.before (unit_at slave asked.next ∷ at.after)
      ∙ sym (map-append (λ (it : OnlyUnit S). it.unit) at.before (unit_at slave at.service ∷ at.after)) ∙ sym (ap addresses_of at.is)

  given : (old new : LineUnits S) (slave : ℕ) (request : Asked) (outcome : Outcome) → units_give A old slave request outcome new
      → addresses_of new.units ≡ addresses_of old.units
  given old new slave request outcome (absent, inl (zero, silent, all)) = did_all request old.units new.units all
  given old new slave request outcome (absent, inr (inl (some, asked))) = one (λ it next. A.gives it slave request outcome next) slave old.units new.units asked
  given old new slave request outcome (absent, inr (inr (some, none, told, same))) = ap addresses_of same

  answered : (j : JournalState) (h : Heard) (old new : LineUnits S) (slave : ℕ) (request : Asked) (outcome : Outcome)
      → Answers (units_answering A) j h old slave request outcome new → addresses_of new.units ≡ addresses_of old.units
  answered j Noise old new slave request outcome (silent, same) = ap (λ s. addresses_of s.units) same
  answered j Monitored old new slave request outcome (silent, same) = ap (λ s. addresses_of s.units) same
  answered j MonitoredBroadcast old new slave request outcome (silent, same) = ap (λ s. addresses_of s.units) same
  answered j MonitoredAnother old new slave request outcome (silent, same) = ap (λ s. addresses_of s.units) same
  answered j (Asks query) old new slave request outcome (told, same) = ap (λ s. addresses_of s.units) same
  answered j Broadcast old new slave request outcome gives = given old new 0 request outcome gives
  answered j Own old new slave request outcome gives = given old new slave request outcome gives
  answered j Another old new slave request outcome gives = given old new slave request outcome gives

  pub stay_true : {Header : Type 0} (slave : Header → ℕ) (start last : PortState S) (xs : List (Exchange Header))
      → Run slave (port_answering A) start xs last → start.units ≡ addresses_of start.line.units → last.units ≡ addresses_of last.line.units
  stay_true slave start last [] same true = ap (λ p. p.units) same ∙ true ∙ sym (ap (λ p. addresses_of p.line.units) same)
  stay_true slave start last (x ∷ xs) (next, (note, step), rest) true =
      let behind = answered start.journal note.heard start.line next.line (slave x.header) x.request x.outcome step.3 in
      stay_true slave next last xs rest (step.0 ∙ true ∙ sym behind)
