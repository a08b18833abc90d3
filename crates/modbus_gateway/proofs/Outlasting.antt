-- The runs of a line that is spared the exchanges with dead slaves.
use Rattle.std.proofs.Common.{◌≡◌, ◌≢◌, ◌⊎◌, inl, inr, ℕ, ◌<◌, ◌==◌, Bool, true, false, if◌then◌else◌, List, [], ◌∷◌, length, refl, sym, ap, subst, ◌∙◌}
use Rattle.std.specs.Prelude.{slice_get, slice_set, unwrap_or}
use Rattle.std.proofs.lemmas.Bool.Decides.{eqb_tells}
use Rattle.std.proofs.lemmas.List.{length-set, get_or-set_same, get_or-set_other}
use Rattle.std.proofs.lemmas.Option.{unwrap_or-slice_get}
use Rattle.modbus_service.specs.Answering.{Answering}
use Rattle.modbus_service.specs.Exchange.{Exchange, Run}
use Rattle.modbus_gateway.specs.Sparing.{SparingState, alive, sign_of, counted_by, counted_up, missed_once_more, slave_at, judged_by, is_spared, KeepsEnd, GivesJudged, sparing, WithAsked, Spares, missed_in_a_row}
use Rattle.modbus_gateway.specs.declared.standing.Sign.{Sign}
use Rattle.modbus_gateway.specs.declared.standing.Sign.TheVariants.{Missed, Answered, Nothing}
use Rattle.modbus_gateway.specs.declared.watcher.LineChange.{LineChange}
use Rattle.modbus_gateway.specs.declared.standing.SparingLimits.{SparingLimits}
use Rattle.modbus_gateway.specs.declared.standing.Standing.{Standing}

module _ {Header W S : Type 0} (unit : Header → ℕ) (tells : W → LineChange → W → Type 0) (A : Answering S) where
  -- the exchanges that the line had, where the first one was spared or not
  goes_on : (is_out : Bool) (old next : SparingState W S) (last : S) (x : Exchange Header) (rest : List (Exchange Header))
      → GivesJudged tells A is_out (judged_by next.judged old) (unit x.header) x.request x.outcome next → Run unit A next.line rest last
      → (asked : List (Exchange Header)) × WithAsked is_out x asked rest × Run unit A old.line asked last
  goes_on true old next last x rest gives run = (rest, refl, subst (λ (line : S). Run unit A line rest last) (ap (λ (it : SparingState W S). it.line) gives.1) run)
  goes_on false old next last x rest gives run = (x ∷ rest, refl, (next.line, gives.0, run))

  -- what spares a line runs over it by what was not spared
  pub spares : (start last : SparingState W S) (xs : List (Exchange Header)) → Run unit (sparing tells A) start xs last
      → (asked : List (Exchange Header)) × Spares unit tells A start xs asked last × Run unit A start.line asked last.line
  spares start last [] same = ([], (refl, same), ap (λ (it : SparingState W S). it.line) same)
  spares start last (x ∷ xs) (next, step, more) =
      let rest = spares next last xs more in
      let on = goes_on (is_spared start (unit x.header) next.judged.at) start next last.line x rest.0 step.1 rest.2 in
      (on.0, (next, rest.0, step, on.1, rest.1), on.2)

-- the count that is kept of a slave
abbrev missed_in : List Standing → ℕ → ℕ
missed_in slaves slave = (unwrap_or (slice_get slaves slave) alive).missed

-- the count of one slave, where what is kept at an address was set
set_at : (slaves : List Standing) (unit slave : ℕ) (kept : Standing) → slave < length slaves
    → missed_in (slice_set slaves unit kept) slave ≡ if unit == slave then kept.missed else missed_in slaves slave
set_at slaves unit slave kept inside = by_cases (eqb_tells unit slave)
  where
    by_cases : (((unit == slave) ≡ true) × (unit ≡ slave)) ⊎ (((unit == slave) ≡ false) × (unit ≢ slave))
        → missed_in (slice_set slaves unit kept) slave ≡ if unit == slave then kept.missed else missed_in slaves slave
    by_cases (inl (is, same)) =
        rw (is, same) (ap (λ (it : Standing). it.missed) (unwrap_or-slice_get (slice_set slaves slave kept) slave alive ∙ get_or-set_same slaves slave kept alive inside))
    by_cases (inr (is, other)) =
        rw (is) (ap (λ (it : Standing). it.missed) (unwrap_or-slice_get (slice_set slaves unit kept) slave alive
        ∙ get_or-set_other slaves unit slave kept alive (λ same. other (sym same)) ∙ sym (unwrap_or-slice_get slaves slave alive)))

module _ {Header W S : Type 0} (unit : Header → ℕ) (tells : W → LineChange → W → Type 0) (A : Answering S) (slave : ℕ) where
  -- the count of one slave after an exchange with one
  kept_count : (sign : Sign) (old new : SparingState W S) (address : ℕ) → KeepsEnd sign old address new → slave < length old.slaves
      → (slave_at new slave).missed ≡ if address == slave then counted_by old.limits.misses (slave_at old slave).missed sign else (slave_at old slave).missed
  kept_count Missed old new address keeps inside =
      ap (λ (it : SparingState W S). (slave_at it slave).missed) keeps.1 ∙ set_at old.slaves address slave (missed_once_more old.limits (slave_at old address) new.ended.at) inside ∙ by_cases (eqb_tells address slave)
    where
      by_cases : (((address == slave) ≡ true) × (address ≡ slave)) ⊎ (((address == slave) ≡ false) × (address ≢ slave))
          → (if address == slave then counted_up old.limits.misses (slave_at old address).missed else (slave_at old slave).missed)
          ≡ if address == slave then counted_up old.limits.misses (slave_at old slave).missed else (slave_at old slave).missed
      by_cases (inl (is, same)) = ap (λ (n : ℕ). if address == slave then counted_up old.limits.misses (slave_at old n).missed else (slave_at old slave).missed) same
      by_cases (inr (is, other)) = rw (is) refl
  kept_count Answered old new address keeps inside = ap (λ (it : SparingState W S). (slave_at it slave).missed) keeps ∙ set_at old.slaves address slave alive inside
  kept_count Nothing old new address keeps inside = ap (λ (it : SparingState W S). (slave_at it slave).missed) keeps ∙ either (eqb_tells address slave)
    where
      either : (((address == slave) ≡ true) × (address ≡ slave)) ⊎ (((address == slave) ≡ false) × (address ≢ slave))
          → (slave_at old slave).missed ≡ if address == slave then (slave_at old slave).missed else (slave_at old slave).missed
      either (inl (is, same)) = rw (is) refl
      either (inr (is, other)) = rw (is) refl

  -- what no exchange changes
  kept_rest : (sign : Sign) (old new : SparingState W S) (address : ℕ) → KeepsEnd sign old address new → (length new.slaves ≡ length old.slaves) × (new.limits ≡ old.limits)
  kept_rest Missed old new address keeps = (
    ap (λ (it : SparingState W S). length it.slaves) keeps.1 ∙ length-set old.slaves address (missed_once_more old.limits (slave_at old address) new.ended.at),
    ap (λ (it : SparingState W S). it.limits) keeps.1,
  )
  kept_rest Answered old new address keeps = (
    ap (λ (it : SparingState W S). length it.slaves) keeps ∙ length-set old.slaves address alive,
    ap (λ (it : SparingState W S). it.limits) keeps,
  )
  kept_rest Nothing old new address keeps = (ap (λ (it : SparingState W S). length it.slaves) keeps, ap (λ (it : SparingState W S). it.limits) keeps)

  -- the state behind one request, with who was told before it
  abbrev untold : SparingState W S → SparingState W S → SparingState W S
  untold old next = record next { watcher = old.watcher }

  -- one request, which was spared or not
  one_count : (is_out : Bool) (old next : SparingState W S) (x : Exchange Header) (asked rest : List (Exchange Header))
      → GivesJudged tells A is_out (judged_by next.judged old) (unit x.header) x.request x.outcome next → WithAsked is_out x asked rest → slave < length old.slaves
      → missed_in_a_row unit slave old.limits.misses (slave_at old slave).missed asked ≡ missed_in_a_row unit slave old.limits.misses (slave_at next slave).missed rest
  one_count true old next x asked rest gives is inside =
      rw (is) (ap (λ (it : SparingState W S). missed_in_a_row unit slave old.limits.misses (slave_at it slave).missed rest) (sym gives.1))
  one_count false old next x asked rest gives is inside =
      rw (is) (ap (λ (n : ℕ). missed_in_a_row unit slave old.limits.misses n rest)
      (sym (kept_count (sign_of x.outcome) (record (judged_by next.judged old) { line = next.line }) (untold old next) (unit x.header) gives.1.0 inside)))

  one_rest : (is_out : Bool) (old next : SparingState W S) (x : Exchange Header) → GivesJudged tells A is_out (judged_by next.judged old) (unit x.header) x.request x.outcome next
      → (length next.slaves ≡ length old.slaves) × (next.limits ≡ old.limits)
  one_rest true old next x gives = (ap (λ (it : SparingState W S). length it.slaves) gives.1, ap (λ (it : SparingState W S). it.limits) gives.1)
  one_rest false old next x gives = kept_rest (sign_of x.outcome) (record (judged_by next.judged old) { line = next.line }) (untold old next) (unit x.header) gives.1.0

  -- the count of one slave after a run, by what the line had
  pub counts : (start last : SparingState W S) (xs asked : List (Exchange Header)) → Spares unit tells A start xs asked last → slave < length start.slaves
      → (slave_at last slave).missed ≡ missed_in_a_row unit slave start.limits.misses (slave_at start slave).missed asked
  counts start last [] asked (none, same) inside = rw (none, same) refl
  counts start last (x ∷ xs) asked (next, rest, step, is, more) inside =
      let is_out : Bool = is_spared start (unit x.header) next.judged.at in
      let kept = one_rest is_out start next x step.1 in
      let later : (slave_at last slave).missed ≡ missed_in_a_row unit slave next.limits.misses (slave_at next slave).missed rest =
      counts next last xs rest more (subst (λ n. slave < n) (sym kept.0) inside) in
      later ∙ ap (λ (limits : SparingLimits). missed_in_a_row unit slave limits.misses (slave_at next slave).missed rest) kept.1
      ∙ sym (one_count is_out start next x asked rest step.1 is inside)
