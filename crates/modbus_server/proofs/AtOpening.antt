-- Where no message takes memory, it is wanting only as a connection is opened.
use Rattle.std.proofs.Common.{◌≡◌, ℕ, List, [], ◌∷◌, map, refl, sym, ap, ◌∙◌, subst, Err, append-nil, inl, inr}
use Rattle.std.specs.Prelude.{All}
use Rattle.std.proofs.lemmas.List.Elements.{All-contains}
use Rattle.modbus_pdu.specs.SlavePdu.{SlavePdu}
use Rattle.modbus_rtu.specs.Leftmost.{IsLeftmost}
use Rattle.modbus_rtu.specs.Stands.{frame_at}
use Rattle.modbus_server.specs.declared.error.ProcessError.TheVariants.{NoMemory}
use Rattle.modbus_service.specs.Answering.{Answering}
use Rattle.modbus_server.specs.Exchanges.{Exchange, Run, output, asked_of, asks}
use Rattle.modbus_server.specs.Served.{NextTakesMemory}
use Rattle.modbus_server.specs.Memory.{TakesNone}
use Rattle.modbus_server.specs.Step.{Ran}
use Rattle.modbus_server.specs.Rtu.{rtu}
use Rattle.modbus_server.specs.Moment.{Moment}

module _ {S : Type 0} (A : Answering S) where
  -- nothing was asked
  none_asked : (exchanges : List (Exchange rtu)) → map (asked_of rtu) [] ≡ map (asks rtu) exchanges → exchanges ≡ []
  none_asked [] e = refl
  none_asked (x ∷ xs) e = cc

  no_next : (bytes cuts : List ℕ) (taken : List SlavePdu) (old new : S) (frames : List ℕ) (stop : ℕ) → IsLeftmost bytes frames stop
      → All (λ f. TakesNone rtu A (frame_at bytes f)) frames → NextTakesMemory rtu A bytes cuts taken old new → ⊥
  no_next bytes cuts taken old new frames stop reading none (message, next, (request, asked, wants)) =
      let free : TakesNone rtu A message = subst (TakesNone rtu A) next.is (All-contains (λ f. TakesNone rtu A (frame_at bytes f)) frames next.offset none (next.within frames stop reading)) in
      elim wants [
        | inl listed ↦ (free request asked).0 listed.0
        | inr wanted ↦ (free request asked).1 old new wanted
      ]

  pub nothing_done : (turns : ℕ) (before after : Moment S) (ran : Ran rtu A turns before after (Err NoMemory))
      → (frames : List ℕ) (stop : ℕ) → IsLeftmost ran.fed frames stop → All (λ f. TakesNone rtu A (frame_at ran.fed f)) frames
      → (ran.fed ≡ []) × (ran.sent ≡ []) × (after.service ≡ before.service)
  nothing_done turns before after ran frames stop reading none =
      let wanting = ran.served in
      elim wanting.cause [
        | inl next ↦ absurd (no_next ran.fed _ wanting.stood.taken wanting.ends after.service frames stop reading none next)
        | inr (inl read) ↦ absurd read.0
        | inr (inr nothing) ↦ (let empty : wanting.exchanges ≡ [] = none_asked wanting.exchanges (ap (map (asked_of rtu)) (sym nothing.1) ∙ wanting.stood.asked) in (
          nothing.0,
          sym (append-nil ran.sent) ∙ wanting.stood.wrote ∙ ap (output rtu) empty,
          nothing.2 ∙ subst (λ xs. Run rtu A before.service xs wanting.ends) empty wanting.run,
        ))
      ]
