-- What units behind their addresses did is, for each, what it did.
use Rattle.std.proofs.Common.{◌≡◌, ◌≢◌, inl, inr, ℕ, ◌==◌, false, cond, List, [], ◌∷◌, ◌++◌, refl, sym, subst, ap, ◌∙◌, arith}
use Rattle.std.specs.Prelude.{Option, Some, None}
use Rattle.std.specs.List.{AllZip}
use Rattle.std.proofs.lemmas.List.Elements.{All-nil, All-cons, All-head, All-tail}
use Rattle.std.proofs.lemmas.Bool.{cases_eq, eq-eqb}
use Rattle.std.proofs.lemmas.Bool.Decides.{nat_tests}
use Rattle.modbus_frame.specs.Meaning.{Asked}
use Rattle.modbus_service.specs.declared.only_unit.OnlyUnit.{OnlyUnit}
use Rattle.modbus_service.specs.Outcome.{Outcome}
use Rattle.modbus_service.specs.Answering.{Answering}
use Rattle.modbus_service.specs.Exchange.{Exchange, Run}
use Rattle.modbus_service.specs.Units.{LineUnits, NoneAt, unit_at, FirstAt, Did, units_give, units_answering}
use Rattle.modbus_service.specs.Shared.{RunsOverHeard}
use Rattle.modbus_service.proofs.Heard.{Step, broadcast, own, another, heard_step}

-- the service of the first unit at an address
abbrev look : {S : Type 0} → ℕ → List (OnlyUnit S) → Option S
look slave [] = None
look slave (it ∷ units) = cond (it.unit == slave) (Some it.service) (look slave units)

unequal : (a b : ℕ) → a ≢ b → (a == b) ≡ false
unequal a b other = grind (arith, nat_tests)

look_here : {S : Type 0} (slave : ℕ) (it : OnlyUnit S) (units : List (OnlyUnit S)) → it.unit ≡ slave → look slave (it ∷ units) ≡ Some it.service
look_here slave it units here = ap (λ b. cond b (Some it.service) (look slave units)) (eq-eqb it.unit slave here)

look_past : {S : Type 0} (slave : ℕ) (it : OnlyUnit S) (units : List (OnlyUnit S)) → it.unit ≢ slave → look slave (it ∷ units) ≡ look slave units
look_past slave it units other = ap (λ b. cond b (Some it.service) (look slave units)) (unequal it.unit slave other)

look_none : {S : Type 0} (slave : ℕ) (units : List (OnlyUnit S)) → NoneAt slave units → look slave units ≡ None
look_none slave [] none = refl
look_none slave (it ∷ units) none =
    look_past slave it units (All-head (λ u. u.unit ≢ slave) it units none) ∙ look_none slave units (All-tail (λ u. u.unit ≢ slave) it units none)

look_first : {S : Type 0} (slave : ℕ) (before after : List (OnlyUnit S)) (service : S) → NoneAt slave before
    → look slave (before ++ unit_at slave service ∷ after) ≡ Some service
look_first slave [] after service none = look_here slave (unit_at slave service) after refl
look_first slave (it ∷ before) after service none =
    look_past slave it (before ++ unit_at slave service ∷ after) (All-head (λ u. u.unit ≢ slave) it before none)
    ∙ look_first slave before after service (All-tail (λ u. u.unit ≢ slave) it before none)

look_other : {S : Type 0} (slave other : ℕ) (before after : List (OnlyUnit S)) (old new : S) → other ≢ slave
    → look slave (before ++ unit_at other new ∷ after) ≡ look slave (before ++ unit_at other old ∷ after)
look_other slave other [] after old new differs =
    look_past slave (unit_at other new) after differs ∙ sym (look_past slave (unit_at other old) after differs)
look_other slave other (it ∷ before) after old new differs =
    ap (λ found. cond (it.unit == slave) (Some it.service) found) (look_other slave other before after old new differs)

Found : {S : Type 0} (slave : ℕ) (units : List (OnlyUnit S)) (service : S) → Type 0
Found slave units service = (at : FirstAt slave units) × (at.service ≡ service)

first_found : {S : Type 0} (slave : ℕ) (units : List (OnlyUnit S)) (service : S) → look slave units ≡ Some service → Found slave units service
unfolding Found
first_found slave [] service found = absurd (cc)
first_found slave (it ∷ units) service found =
    elim (cases_eq it.unit slave) [
      | inl here ↦ (
          let same = sym (look_here slave it units here) ∙ found in (
            record {
              before = [];
              service = it.service;
              after = units;
              none_before = All-nil _;
              is = ap (λ n. unit_at n it.service ∷ units) here;
            },
            cc,
          ))
      | inr other ↦ (
          let rest = first_found slave units service (sym (look_past slave it units other) ∙ found) in (
            record {
              before = it ∷ rest.0.before;
              service = rest.0.service;
              after = rest.0.after;
              none_before = All-cons (λ u. u.unit ≢ slave) it rest.0.before other rest.0.none_before;
              is = ap (λ us. it ∷ us) rest.0.is;
            },
            rest.1,
          ))
    ]

-- the service at an address after a broadcast
did_look : {S : Type 0} (A : Answering S) (request : Asked) (slave : ℕ) (olds news : List (OnlyUnit S)) (service : S)
    → AllZip (Did A request) olds news → look slave olds ≡ Some service
    → ((next : S) × (look slave news ≡ Some next) × ((told : Outcome) × A.gives service 0 request told next))
did_look A request slave [] [] service did found = absurd (cc)
did_look A request slave [] (new ∷ news) service did found = absurd did
did_look A request slave (old ∷ olds) [] service did found = absurd did
did_look A request slave (old ∷ olds) (new ∷ news) service ((same, (told, step)), more) found =
    elim (cases_eq old.unit slave) [
      | inl here ↦ (
          let is : old.service ≡ service = (let e = sym (look_here slave old olds here) ∙ found in cc) in
          (new.service, look_here slave new news (same ∙ here), (told, subst (λ s. A.gives s 0 request told new.service) is step)))
      | inr other ↦ (
          let rest = did_look A request slave olds news service more (sym (look_past slave old olds other) ∙ found) in
          (rest.0, look_past slave new news (λ e. other (sym same ∙ e)) ∙ rest.1, rest.2))
    ]

module _ {Header S : Type 0} (slave : Header → ℕ) (A : Answering S) (unit : ℕ) where
  units_step : (old new : LineUnits S) (x : Exchange Header) (service : S) → units_give A old (slave x.header) x.request x.outcome new
      → look unit old.units ≡ Some service → (next : S) × (look unit new.units ≡ Some next) × Step slave A unit service x next
  units_step old new x service (kept, inl (all, quiet, did)) found =
      let after = did_look A x.request unit old.units new.units service did found in
      (after.0, after.1, broadcast all after.2.0 (subst (λ k. A.gives service k x.request after.2.0 after.0) (sym all) after.2.1))
  units_step old new x service (kept, inr (inl (one, asked))) found =
      elim (cases_eq (slave x.header) unit) [
        | inl here ↦ (
            let at = asked.at in
            let first : look (slave x.header) old.units ≡ Some at.service = ap (look (slave x.header)) at.is ∙ look_first (slave x.header) at.before at.after at.service at.none_before in
            let found' : look (slave x.header) old.units ≡ Some service = subst (λ k. look k old.units ≡ Some service) (sym here) found in
            let is : at.service ≡ service = (let e = sym first ∙ found' in cc) in
            let then : look (slave x.header) new.units ≡ Some asked.next = ap (look (slave x.header)) asked.now_is ∙ look_first (slave x.header) at.before at.after asked.next at.none_before in
            (asked.next, subst (λ k. look k new.units ≡ Some asked.next) here then, own here (subst (λ s. A.gives s (slave x.header) x.request x.outcome asked.next) is asked.did)))
        | inr other ↦ (
            let at = asked.at in
            let same : look unit new.units ≡ look unit old.units =
            ap (look unit) asked.now_is ∙ look_other unit (slave x.header) at.before at.after at.service asked.next other ∙ ap (look unit) (sym at.is) in
            (service, same ∙ found, another one other refl))
      ]
  units_step old new x service (kept, inr (inr (one, none, told, same))) found =
      elim (cases_eq (slave x.header) unit) [
        | inl here ↦ (
            let nothing : look unit old.units ≡ None = subst (λ k. look k old.units ≡ None) here (look_none (slave x.header) old.units none) in
            let never : Some service ≡ None = sym found ∙ nothing in
            absurd (cc))
        | inr other ↦ (service, ap (look unit) same ∙ found, another one other refl)
      ]

  looked_run : (start end : LineUnits S) (xs : List (Exchange Header)) (service : S) → Run slave (units_answering A) start xs end
      → look unit start.units ≡ Some service → (last : S) × (look unit end.units ≡ Some last) × RunsOverHeard slave A unit service xs last
  looked_run start end [] service same found = (service, ap (λ line. look unit line.units) same ∙ found, ([], tt, refl))
  looked_run start end (x ∷ xs) service (next, step, rest) found =
      let here = units_step start next x service step found in
      let more = looked_run next end xs here.0 rest here.1 in
      (more.0, more.1, heard_step slave A unit service here.0 more.0 x xs here.2 more.2)

  pub units_run : (start end : LineUnits S) (xs : List (Exchange Header)) → Run slave (units_answering A) start xs end → (first : FirstAt unit start.units)
      → ((last : FirstAt unit end.units) × RunsOverHeard slave A unit first.service xs last.service)
  unfolding Found
  units_run start end xs run first =
      let found : look unit start.units ≡ Some first.service = ap (look unit) first.is ∙ look_first unit first.before first.after first.service first.none_before in
      let more = looked_run start end xs first.service run found in
      let last = first_found unit end.units more.0 more.1 in
      (last.0, subst (λ s. RunsOverHeard slave A unit first.service xs s) (sym last.1) more.2)
