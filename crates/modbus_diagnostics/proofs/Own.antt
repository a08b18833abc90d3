-- A port answers what is for its addresses alone.
use Rattle.std.proofs.Common.{◌≡◌, ◌⊎◌, inl, inr, ℕ, ◌==◌, Bool, true, false, if◌then◌else◌, List, Result, Ok, Err, Option, Some, None, refl, sym, ap, ◌∙◌, subst}
use Rattle.modbus_frame.specs.Meaning.{Asked}
use Rattle.modbus_frame.specs.declared.response.Response.{Response}
use Rattle.modbus_service.specs.Answering.{Answering, Keeps}
use Rattle.modbus_service.specs.Outcome.{Outcome, silence, reply, exception}
use Rattle.modbus_service.specs.Units.{LineUnits, units_give, units_answering}
use Rattle.modbus_service.specs.declared.service.ServiceError.{ServiceError}
use Rattle.modbus_service.specs.declared.service.ServiceError.TheVariants.{Exception, NoMemory}
use Rattle.modbus_field.specs.LineAnswers.{addresses_of, is_among, KeepsToOwn}
use Rattle.modbus_diagnostics.specs.declared.heard.Heard.{Heard}
use Rattle.modbus_diagnostics.specs.declared.heard.Heard.TheVariants.{Noise, Another, Broadcast, Own, Asks, Monitored, MonitoredBroadcast, MonitoredAnother}
use Rattle.modbus_diagnostics.specs.Heard.{is_noise, own, to_all, to_another, heard_as}
use Rattle.modbus_diagnostics.specs.Journal.{JournalState}
use Rattle.modbus_diagnostics.specs.Port.{PortState, IsQuiet, Answers, Wants, hearing, port_gives, port_wants, port_answering}

-- it is not for one of the units
IsForeign : Heard → Type 0
IsForeign Own = ⊥
IsForeign (Asks query) = ⊥
IsForeign _ = Unit {0}

foreign : (noise all one listens : Bool) (request : Asked) → one ≡ false
    → IsForeign (if noise then Noise else if all then to_all listens else if one then own listens request else to_another listens)
unfolding IsForeign
foreign true all one listens request no_unit = tt
foreign false true one true request no_unit = tt
foreign false true one false request no_unit = tt
foreign false false true listens request no_unit = cc
foreign false false false true request no_unit = tt
foreign false false false false request no_unit = tt

-- a message for all has no answer
to_all_silent : {S : Type 0} (A : Answering S) (old new : LineUnits S) (request : Asked) (outcome : Outcome) → units_give A old 0 request outcome new → outcome ≡ silence
to_all_silent A old new request outcome (absent, inl (zero, silent, all)) = silent
to_all_silent A old new request outcome (absent, inr (inl (some, asked))) = absurd (some refl)
to_all_silent A old new request outcome (absent, inr (inr (some, none, told, same))) = absurd (some refl)

module _ {S : Type 0} (A : Answering S) (keeps : KeepsToOwn (units_answering A) (λ it. addresses_of it.units) (λ it. it.absent ≡ None)) where
  module _ (units : List ℕ) (old new : LineUnits S) (quiet : IsQuiet units old) where
    moved : (new.absent ≡ None) → addresses_of new.units ≡ addresses_of old.units → IsQuiet units new
    moved absent same = (quiet.0 ∙ sym same, absent)

    gave : (slave : ℕ) (request : Asked) (outcome : Outcome) → units_give A old slave request outcome new → IsQuiet units new
    gave slave request outcome step = let after = keeps.gives old new slave request outcome quiet.1 step in moved after.0 after.1

    wanted : (slave : ℕ) (request : Asked) → (units_answering A).wants old slave request new → IsQuiet units new
    wanted slave request step = let after = keeps.wants old new slave request quiet.1 step in moved after.0 after.1

    stays : new ≡ old → IsQuiet units new
    stays same = subst (IsQuiet units) (sym same) quiet

    answered : (j : JournalState) (h : Heard) (slave : ℕ) (request : Asked) (outcome : Outcome) → Answers (units_answering A) j h old slave request outcome new → IsQuiet units new
    answered j Noise slave request outcome (silent, same) = stays same
    answered j Monitored slave request outcome (silent, same) = stays same
    answered j MonitoredBroadcast slave request outcome (silent, same) = stays same
    answered j MonitoredAnother slave request outcome (silent, same) = stays same
    answered j (Asks query) slave request outcome (told, same) = stays same
    answered j Broadcast slave request outcome gives = gave 0 request outcome gives
    answered j Own slave request outcome gives = gave slave request outcome gives
    answered j Another slave request outcome gives = gave slave request outcome gives

    refused : (h : Heard) (slave : ℕ) (request : Asked) → Wants (units_answering A) h old slave request new → IsQuiet units new
    refused (Asks query) slave request same = stays same
    refused Broadcast slave request wants = wanted 0 request wants
    refused Own slave request wants = wanted slave request wants
    refused Another slave request wants = wanted slave request wants
    refused _ slave request wants = absurd wants

    -- what a port has behind it after a call is quiet
    pub kept : (j : JournalState) (h : Heard) (slave : ℕ) (request : Asked) (told : Result (Option Response) ServiceError)
        → Keeps (hearing (units_answering A) j h) old slave request told new → IsQuiet units new
    kept j h slave request (Ok None) gives = answered j h slave request silence gives
    kept j h slave request (Ok (Some response)) gives = answered j h slave request (reply response) gives
    kept j h slave request (Err (Exception code)) gives = answered j h slave request (exception code) gives
    kept j h slave request (Err NoMemory) wants = refused h slave request wants

    silent : (j : JournalState) (h : Heard) (slave : ℕ) (request : Asked) (outcome : Outcome) → IsForeign h → is_among units slave ≡ false
        → Answers (units_answering A) j h old slave request outcome new → outcome ≡ silence
    unfolding IsForeign
    silent j Noise slave request outcome foreign no_unit (told, same) = told
    silent j Monitored slave request outcome foreign no_unit (told, same) = told
    silent j MonitoredBroadcast slave request outcome foreign no_unit (told, same) = told
    silent j MonitoredAnother slave request outcome foreign no_unit (told, same) = told
    silent j (Asks query) slave request outcome foreign no_unit gives = absurd foreign
    silent j Own slave request outcome foreign no_unit gives = absurd foreign
    silent j Broadcast slave request outcome foreign no_unit gives = to_all_silent A old new request outcome gives
    silent j Another slave request outcome foreign no_unit gives = by_unit (keeps.gives old new slave request outcome quiet.1 gives).2
      where
        by_unit : (is_among (addresses_of old.units) slave ≡ true) ⊎ (outcome ≡ silence) → outcome ≡ silence
        by_unit (inl one) = let same = quiet.0 in cc
        by_unit (inr told) = told

    by_address : (found : Bool) (listens : Bool) (j : JournalState) (h : Heard) (slave : ℕ) (request : Asked) (outcome : Outcome)
        → found ≡ is_among units slave → h ≡ heard_as units listens slave request
        → Answers (units_answering A) j h old slave request outcome new → (is_among units slave ≡ true) ⊎ (outcome ≡ silence)
    by_address true listens j h slave request outcome is heard gives = inl (sym is)
    by_address false listens j h slave request outcome is heard gives =
        inr (silent j h slave request outcome (subst IsForeign (sym heard) (foreign (is_noise request) (slave == 0) (is_among units slave) listens request (sym is))) (sym is) gives)

  pub keep : KeepsToOwn (port_answering A) (λ it. it.units) (λ it. IsQuiet it.units it.line)
  keep = record {
    gives = λ old new slave request outcome quiet (note, (same, heard, journal, did, ends)). (
      subst (λ us. IsQuiet us new.line) (sym same) (answered old.units old.line new.line quiet old.journal note.heard slave request outcome did),
      same,
      by_address old.units old.line new.line quiet (is_among old.units slave) old.journal.listens_only old.journal note.heard slave request outcome refl heard did,
    );
    wants = λ old new slave request quiet (same, journal, wants). (
      subst (λ us. IsQuiet us new.line) (sym same)
          (refused old.units old.line new.line quiet (heard_as old.units old.journal.listens_only slave request) slave request wants),
      same,
    );
  }
