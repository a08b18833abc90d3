-- What a unit hears of a run of its line is a run of its service.
use Rattle.std.proofs.Common.{◌≡◌, ◌≢◌, inl, inr, ◌⊎◌, ℕ, true, false, cond, List, [], ◌∷◌, refl, sym, subst, ap, arith}
use Rattle.std.specs.List.{All}
use Rattle.std.proofs.lemmas.List.Elements.{All-nil, All-cons}
use Rattle.std.proofs.lemmas.Bool.Decides.{nat_tests}
use Rattle.modbus_frame.specs.Meaning.{Asked}
use Rattle.modbus_service.specs.declared.only_unit.OnlyUnit.{OnlyUnit}
use Rattle.modbus_service.specs.Outcome.{Outcome, silence}
use Rattle.modbus_service.specs.Answering.{Answering, steady}
use Rattle.modbus_service.specs.Exchange.{Exchange, Run, GivesOutcome}
use Rattle.modbus_service.specs.OnlyUnit.{Giving, only_unit, only_unit_takes}
use Rattle.modbus_service.specs.Shared.{hears, exchanges_heard, Seen, RunsOverHeard}

hears_all : (unit k : ℕ) → k ≡ 0 → hears unit k ≡ true
hears_all unit k all = grind (arith, nat_tests)

hears_own : (unit k : ℕ) → k ≡ unit → hears unit k ≡ true
hears_own unit k own = grind (arith, nat_tests)

hears_none : (unit k : ℕ) → k ≢ 0 → k ≢ unit → hears unit k ≡ false
hears_none unit k one other = grind (arith, nat_tests)

-- what one exchange of the line was to the service at an address
pub data Step {Header S : Type 0} (slave : Header → ℕ) (A : Answering S) (unit : ℕ) (old : S) (x : Exchange Header) (new : S) : Type 0 where
  broadcast : slave x.header ≡ 0 → (told : Outcome) → A.gives old (slave x.header) x.request told new → Step slave A unit old x new
  own : slave x.header ≡ unit → A.gives old (slave x.header) x.request x.outcome new → Step slave A unit old x new
  another : slave x.header ≢ 0 → slave x.header ≢ unit → new ≡ old → Step slave A unit old x new

module _ {Header S : Type 0} (slave : Header → ℕ) (A : Answering S) (unit : ℕ) where
  hear : (old new end : S) (x y : Exchange Header) (xs : List (Exchange Header)) → hears unit (slave x.header) ≡ true
      → y.header ≡ x.header → y.request ≡ x.request → (slave x.header ≢ 0 → y.outcome ≡ x.outcome)
      → GivesOutcome slave A old y new → RunsOverHeard slave A unit new xs end → RunsOverHeard slave A unit old (x ∷ xs) end
  hear old new end x y xs heeds header request outcome gives more = (
    y ∷ more.0,
    subst (λ b. Seen slave (cond b (x ∷ exchanges_heard slave unit xs) (exchanges_heard slave unit xs)) (y ∷ more.0)) (sym heeds) (header, request, outcome, more.1),
    (new, gives, more.2),
  )

  pub heard_step : (old new end : S) (x : Exchange Header) (xs : List (Exchange Header)) → Step slave A unit old x new
      → RunsOverHeard slave A unit new xs end → RunsOverHeard slave A unit old (x ∷ xs) end
  heard_step old new end x xs (broadcast all told gives) more =
      hear old new end x (record x { outcome = told }) xs (hears_all unit (slave x.header) all) refl refl (λ one. absurd (one all)) gives more
  heard_step old new end x xs (own here gives) more =
      hear old new end x x xs (hears_own unit (slave x.header) here) refl refl (λ _. refl) gives more
  heard_step old new end x xs (another one other same) more = (
    more.0,
    subst (λ b. Seen slave (cond b (x ∷ exchanges_heard slave unit xs) (exchanges_heard slave unit xs)) more.0) (sym (hears_none unit (slave x.header) one other)) more.1,
    subst (λ s. Run slave A s more.0 end) same more.2,
  )

module _ {Header S : Type 0} (slave : Header → ℕ) (gives : Giving S) (takes : S → ℕ → Asked → Type 0) where
  only_step : (old new : OnlyUnit S) (x : Exchange Header) → only_unit gives old (slave x.header) x.request x.outcome new
      → Step slave (steady gives takes) old.unit old.service x new.service
  only_step old new x (same, inl (all, quiet, (told, step))) = broadcast all told step
  only_step old new x (same, inr (inl (one, here, step))) = own here step
  only_step old new x (same, inr (inr (one, other, quiet, kept))) = another one other kept

  only_silent : (old new : OnlyUnit S) (x : Exchange Header) → only_unit gives old (slave x.header) x.request x.outcome new
      → (slave x.header ≡ 0) ⊎ (slave x.header ≢ old.unit) → x.outcome ≡ silence
  only_silent old new x (same, inl (all, quiet, step)) none = quiet
  only_silent old new x (same, inr (inl (one, here, step))) (inl all) = absurd (one all)
  only_silent old new x (same, inr (inl (one, here, step))) (inr other) = absurd (other here)
  only_silent old new x (same, inr (inr (one, other, quiet, kept))) none = quiet

  pub unit_runs : (start end : OnlyUnit S) (xs : List (Exchange Header)) → Run slave (steady (only_unit gives) (only_unit_takes takes)) start xs end
      → RunsOverHeard slave (steady gives takes) start.unit start.service xs end.service
  unit_runs start end [] same = ([], tt, ap (λ it. it.service) same)
  unit_runs start end (x ∷ xs) (next, step, rest) =
      let more = subst (λ unit. RunsOverHeard slave (steady gives takes) unit next.service xs end.service) step.0 (unit_runs next end xs rest) in
      heard_step slave (steady gives takes) start.unit start.service next.service end.service x xs (only_step start next x step) more

  pub unit_is_silent : (start end : OnlyUnit S) (xs : List (Exchange Header)) → Run slave (steady (only_unit gives) (only_unit_takes takes)) start xs end
      → All (λ x. (slave x.header ≡ 0) ⊎ (slave x.header ≢ start.unit) → x.outcome ≡ silence) xs
  unit_is_silent start end [] same = All-nil _
  unit_is_silent start end (x ∷ xs) (next, step, rest) =
      let Quiet : ℕ → Exchange Header → Type 0 = λ unit y. (slave y.header ≡ 0) ⊎ (slave y.header ≢ unit) → y.outcome ≡ silence in
      let more = subst (λ unit. All (Quiet unit) xs) step.0 (unit_is_silent next end xs rest) in
      All-cons (Quiet start.unit) x xs (only_silent start next x step) more
