use Rattle.std.proofs.Common.{◌≡◌, ℕ, refl, subst, ap, ◌∙◌}
use Rattle.std.specs.Prelude.{Option, Some, None, Result, Ok, Err}
use Rattle.modbus_frame.specs.Meaning.{Asked, meaning}
use Rattle.modbus_frame.specs.declared.response.Response.{Response}
use Rattle.modbus_service.specs.Answering.{Answering, Keeps}
use Rattle.modbus_service.specs.Outcome.{Outcome, silence, reply, exception}
use Rattle.modbus_service.specs.Units.{LineUnits, units_answering}
use Rattle.modbus_service.specs.declared.service.ServiceError.{ServiceError}
use Rattle.modbus_service.specs.declared.service.ServiceError.TheVariants.{Exception, NoMemory}
use Rattle.modbus_diagnostics.specs.declared.counters.Ended.{Ended}
use Rattle.modbus_diagnostics.specs.declared.counters.Ended.TheVariants.{Well, Refused, Silent}
use Rattle.modbus_diagnostics.specs.declared.heard.Heard.{Heard}
use Rattle.modbus_diagnostics.specs.declared.heard.Heard.TheVariants.{Broadcast}
use Rattle.modbus_diagnostics.specs.Heard.{heard_as}
use Rattle.modbus_diagnostics.specs.Port.{PortState, noted_when, hearing, Answers, Ends, TellsEnd, port_gives, port_answering}
use Rattle.modbus_diagnostics.proofs.Own.{kept}
use Rattle.modbus_diagnostics.proofs.port.PortAnswerer.ask.Goals as goal

module _ {S : Type 0} (A : Answering S) where
  -- how it ended is known where it is told
  Ended_so : Heard → Asked → LineUnits S → LineUnits S → Outcome → Option Ended → Type 0
  Ended_so h request old new outcome end = (e : Ended) × (end ≡ Some e) × Ends A h request old new outcome e

  with_silence : (h : Heard) (request : Asked) (old new : LineUnits S) (end : Option Ended) → TellsEnd A h request old new (Ok None) end
      → Ended_so h request old new silence end
  unfolding Ended_so
  with_silence Broadcast request old new None ends = absurd ends
  with_silence Broadcast request old new (Some e) ends = (e, refl, ends)
  with_silence _ request old new end ends = (Silent, ends, refl)

  with_response : (h : Heard) (request : Asked) (old new : LineUnits S) (response : Response) (end : Option Ended)
      → TellsEnd A h request old new (Ok (Some response)) end → Ended_so h request old new (reply response) end
  unfolding Ended_so
  with_response Broadcast request old new response None ends = absurd ends
  with_response Broadcast request old new response (Some e) ends = (e, refl, ends)
  with_response _ request old new response end ends = (Well, ends, refl)

  with_exception : (h : Heard) (request : Asked) (old new : LineUnits S) (code : _) (end : Option Ended)
      → TellsEnd A h request old new (Err (Exception code)) end → Ended_so h request old new (exception code) end
  unfolding Ended_so
  with_exception Broadcast request old new code None ends = absurd ends
  with_exception Broadcast request old new code (Some e) ends = (e, refl, ends)
  with_exception _ request old new code end ends = (Refused code, ends, refl)

  without_memory : (h : Heard) (request : Asked) (old new : LineUnits S) (end : Option Ended) → TellsEnd A h request old new (Err NoMemory) end → end ≡ None
  without_memory Broadcast request old new end ends = ends
  without_memory _ request old new end ends = ends

  gives : (old new : PortState S) (slave : ℕ) (request : Asked) (h : Heard) (outcome : Outcome) (end : Option Ended)
      → h ≡ heard_as old.units old.journal.listens_only slave request → new.units ≡ old.units → new.journal ≡ noted_when old.journal h end
      → Answers (units_answering A) old.journal h old.line slave request outcome new.line
      → Ended_so h request old.line new.line outcome end → port_gives A old slave request outcome new
  unfolding Ended_so
  gives old new slave request h outcome end is same noted did ended =
      (record { heard = h; end = ended.0 }, (same, is, noted ∙ ap (noted_when old.journal h) ended.1, did, ended.2))

  keeps_port : (old new : PortState S) (slave : ℕ) (request : Asked) (h : Heard)
      (told : Result (Option Response) ServiceError) (end : Option Ended) → h ≡ heard_as old.units old.journal.listens_only slave request
      → Keeps (hearing (units_answering A) old.journal h) old.line slave request told new.line
      → TellsEnd A h request old.line new.line told end → new.journal ≡ noted_when old.journal h end → new.units ≡ old.units
      → Keeps (port_answering A) old slave request told new
  keeps_port old new slave request h (Ok None) end is keeps ends noted same =
      gives old new slave request h silence end is same noted keeps (with_silence h request old.line new.line end ends)
  keeps_port old new slave request h (Ok (Some response)) end is keeps ends noted same =
      gives old new slave request h (reply response) end is same noted keeps (with_response h request old.line new.line response end ends)
  keeps_port old new slave request h (Err (Exception code)) end is keeps ends noted same =
      gives old new slave request h (exception code) end is same noted keeps (with_exception h request old.line new.line code end ends)
  keeps_port old new slave request h (Err NoMemory) end is keeps ends noted same = (
    same,
    noted ∙ ap (noted_when old.journal h) (without_memory h request old.line new.line end ends),
    subst (λ k. (hearing (units_answering A) old.journal k).wants old.line slave request new.line) is keeps,
  )

  keeps_seen : (seen old new : PortState S) (slave : ℕ) (request : Asked) (told : Result (Option Response) ServiceError)
      → seen ≡ old → Keeps (port_answering A) seen slave request told new → Keeps (port_answering A) old slave request told new
  keeps_seen seen old new slave request told same = subst (λ p. Keeps (port_answering A) p slave request told new) same

pub returns : goal.returns
returns g c =
    let A = g.S.Answerer.answering in
    let slave = c.args.request.slave in
    let request = meaning c.args.request.request in
    keeps_seen A _ _ _ slave request c.tell-told.result.0 c.self.view_is
    (keeps_port A (record { units = c.self.inside.units.items; line = c.self.inside.line; journal = c.self.inside.journal })
    (record { units = c.self.inside.units.items; line = c.tell-told.new.line; journal = c.note_when.new.journal })
    slave request c.hear-heard.result c.tell-told.result.0 c.tell-told.result.1
    (c.hear-heard.ensures ∙ ap (λ us. heard_as us c.listens_only.result slave request) c.deref.ensures.value
    ∙ ap (λ l. heard_as c.self.inside.units.items l slave request) c.listens_only.ensures)
    c.tell-told.ensures.keeps c.tell-told.ensures.ends c.note_when.ensures refl)

pub invariant_of-self : goal.invariant_of-self
invariant_of-self g c =
    kept g.S.Answerer.answering c.units_keep_to_own.ensures c.self.inside.units.items c.self.inside.line c.tell-told.new.line c.self.invariant
    c.self.inside.journal c.hear-heard.result c.args.request.slave (meaning c.args.request.request) c.tell-told.result.0 c.tell-told.ensures.keeps
