-- The runs of a default unit are those of what lies below, for the units that are asked.
use Rattle.std.proofs.Common.{◌≡◌, ℕ, cond, List, [], ◌∷◌, refl, sym, subst, ap, ◌∙◌}
use Rattle.modbus_service.specs.Answering.{Answering}
use Rattle.modbus_service.specs.Exchange.{Exchange, Run}
use Rattle.modbus_field.specs.declared.stream.default_unit.DefaultUnit.{DefaultUnit}
use Rattle.modbus_field.specs.DefaultUnit.{is_for_device, unit_asked, SameDefault, default_unit}

asks_same : {S : Type 0} (a b : DefaultUnit S) → SameDefault a b → (unit : ℕ) → unit_asked b unit ≡ unit_asked a unit
asks_same a b (units, zeros) unit =
    ap (λ z. cond (is_for_device z unit) b.unit unit) zeros
    ∙ ap (λ u. cond (is_for_device a.zero_is_broadcast unit) u unit) units

module _ {Header S : Type 0} (unit : Header → ℕ) (A : Answering S) where
  runs_from : (first start last : DefaultUnit S) (xs : List (Exchange Header)) → Run unit (default_unit A) start xs last
      → SameDefault first start → SameDefault first last × Run (λ header. unit_asked first (unit header)) A start.service xs last.service
  runs_from first start last [] same kept = (subst (λ p. SameDefault first p) (sym same) kept, ap (λ p. p.service) same)
  runs_from first start last (x ∷ xs) (next, step, rest) kept =
      let more = runs_from first next last xs rest (step.0.0 ∙ kept.0, step.0.1 ∙ kept.1) in
      let did = subst (λ u. A.gives start.service u x.request x.outcome next.service) (asks_same first start kept (unit x.header)) step.1 in
      (more.0, (next.service, did, more.1))

  pub runs_below : (start last : DefaultUnit S) (xs : List (Exchange Header)) → Run unit (default_unit A) start xs last
      → SameDefault start last × Run (λ header. unit_asked start (unit header)) A start.service xs last.service
  runs_below start last xs run = runs_from start start last xs run (refl, refl)

  comes_from : (it : DefaultUnit S) (start last : S) (xs : List (Exchange Header))
      → Run (λ header. unit_asked it (unit header)) A start xs last
      → Run unit (default_unit A) (record it { service = start }) xs (record it { service = last })
  comes_from it start last [] same = ap (λ s. record it { service = s }) same
  comes_from it start last (x ∷ xs) (next, did, rest) = (record it { service = next }, ((refl, refl), did), comes_from it next last xs rest)

  pub comes_of_below : (start : DefaultUnit S) (last : S) (xs : List (Exchange Header))
      → Run (λ header. unit_asked start (unit header)) A start.service xs last
      → Run unit (default_unit A) start xs (record start { service = last })
  comes_of_below start last xs run = comes_from start start.service last xs run
