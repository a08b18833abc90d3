-- The runs of a line that is asked for no one who has waited too long.
use Rattle.std.proofs.Common.{◌≡◌, ℕ, Bool, true, false, List, [], ◌∷◌, refl, ap, subst, ◌∙◌}
use Rattle.modbus_service.specs.Answering.{Answering}
use Rattle.modbus_service.specs.Exchange.{Exchange, Run}
use Rattle.modbus_gateway.specs.Timely.{TimelyState, is_stale, turned, GivesInTime, timely, WithFresh, Passes}

module _ {Header S : Type 0} (unit : Header → ℕ) (A : Answering S) where
  -- the exchanges that the line had, where the first one was stale or not
  goes_on : (stale : Bool) (old next : TimelyState S) (last : S) (x : Exchange Header) (rest : List (Exchange Header))
      → GivesInTime A stale (turned next.asked next.judged old) (unit x.header) x.request x.outcome next → Run unit A next.line rest last
      → (fresh : List (Exchange Header)) × WithFresh stale x fresh rest × Run unit A old.line fresh last
  goes_on true old next last x rest gives run = (rest, refl, subst (λ (line : S). Run unit A line rest last) (ap (λ (it : TimelyState S). it.line) gives.1) run)
  goes_on false old next last x rest gives run = (x ∷ rest, refl, (next.line, gives.0, run))

  -- one request leaves the limit
  keeps_limit : (stale : Bool) (old next : TimelyState S) (x : Exchange Header) → GivesInTime A stale (turned next.asked next.judged old) (unit x.header) x.request x.outcome next
      → next.limit ≡ old.limit
  keeps_limit true old next x gives = ap (λ (it : TimelyState S). it.limit) gives.1
  keeps_limit false old next x gives = ap (λ (it : TimelyState S). it.limit) gives.1

  -- what is timely runs over its line by what was not stale
  pub passes : (start last : TimelyState S) (xs : List (Exchange Header)) → Run unit (timely A) start xs last
      → (last.limit ≡ start.limit) × ((fresh : List (Exchange Header)) × Passes unit A start xs fresh last × Run unit A start.line fresh last.line)
  passes start last [] same = (ap (λ (it : TimelyState S). it.limit) same, ([], (refl, same), ap (λ (it : TimelyState S). it.line) same))
  passes start last (x ∷ xs) (next, step, more) =
      let rest = passes next last xs more in
      let on = goes_on (is_stale start.limit next.asked next.judged.at) start next last.line x rest.1.0 step.1 rest.1.2 in
      (rest.0 ∙ keeps_limit (is_stale start.limit next.asked next.judged.at) start next x step.1, (on.0, (next, rest.1.0, step, on.1, rest.1.1), on.2))
