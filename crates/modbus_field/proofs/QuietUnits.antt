-- Units without an exception for another address keep to their own.
use Rattle.std.proofs.Common.{rules, ◌≡◌, ◌⊎◌, inl, inr, ℕ, true, List, [], ◌∷◌, ◌++◌, None, refl, sym, ap, ◌∙◌}
use Rattle.std.specs.List.{AllZip}
use Rattle.std.proofs.lemmas.List.{map-append}
use Rattle.modbus_frame.specs.Meaning.{Asked}
use Rattle.modbus_service.specs.Answering.{Answering}
use Rattle.modbus_service.specs.Outcome.{Outcome, silence}
use Rattle.modbus_service.specs.Units.{LineUnits, unit_at, Did, OneAsked, FirstAt, StoppedAtUnit, nobody, units_give, units_want, units_answering}
use Rattle.modbus_service.specs.declared.only_unit.OnlyUnit.{OnlyUnit}
use Rattle.modbus_field.specs.LineAnswers.{is_among, addresses_of, KeepsToOwn}

found_in : (before after : List ℕ) (slave : ℕ) → is_among (before ++ slave ∷ after) slave ≡ true
found_in [] after slave = search rules
found_in (address ∷ before) after slave = let later = found_in before after slave in search rules

module _ {S : Type 0} where
  split : (before : List (OnlyUnit S)) (at : OnlyUnit S) (after : List (OnlyUnit S)) → addresses_of (before ++ at ∷ after) ≡ addresses_of before ++ at.unit ∷ addresses_of after
  split before at after = map-append (λ (it : OnlyUnit S). it.unit) before (at ∷ after)

  one : (Does : S → S → Type 0) (slave : ℕ) (old new : List (OnlyUnit S)) → OneAsked Does slave old new → addresses_of new ≡ addresses_of old
  one Does slave old new asked =
      let at = asked.at in
      ap addresses_of asked.now_is ∙ split at.before (unit_at slave asked.next) at.after
      ∙ sym (split at.before (unit_at slave at.service) at.after) ∙ sym (ap addresses_of at.is)

  found : (slave : ℕ) (units : List (OnlyUnit S)) → FirstAt slave units → is_among (addresses_of units) slave ≡ true
  found slave units at =
      ap (λ them. is_among (addresses_of them) slave) at.is ∙ ap (λ them. is_among them slave) (split at.before (unit_at slave at.service) at.after)
      ∙ found_in (addresses_of at.before) (addresses_of at.after) slave

module _ {S : Type 0} (A : Answering S) where
  did_all : (request : Asked) (old new : List (OnlyUnit S)) → AllZip (Did A request) old new → addresses_of new ≡ addresses_of old
  did_all request [] [] all = refl
  did_all request [] (y ∷ ys) all = absurd all
  did_all request (x ∷ xs) [] all = absurd all
  did_all request (x ∷ xs) (y ∷ ys) (did, rest) = ap (λ unit. unit ∷ addresses_of ys) did.0 ∙ ap (λ units. x.unit ∷ units) (did_all request xs ys rest)

  stopped : (request : Asked) (old new : List (OnlyUnit S)) → StoppedAtUnit A request old new → addresses_of new ≡ addresses_of old
  stopped request old new s =
      ap addresses_of s.now_is ∙ split s.did (unit_at s.at.unit s.next) s.after
      ∙ ap (λ front. front ++ s.at.unit ∷ addresses_of s.after) (did_all request s.before s.did s.done)
      ∙ sym (split s.before s.at s.after) ∙ sym (ap addresses_of s.was)

  pub given : (old new : LineUnits S) (slave : ℕ) (request : Asked) (outcome : Outcome) → old.absent ≡ None → units_give A old slave request outcome new
      → (new.absent ≡ None) × (addresses_of new.units ≡ addresses_of old.units) × ((is_among (addresses_of old.units) slave ≡ true) ⊎ (outcome ≡ silence))
  given old new slave request outcome quiet (absent, inl (zero, silent, all)) = (absent ∙ quiet, did_all request old.units new.units all, inr silent)
  given old new slave request outcome quiet (absent, inr (inl (some, asked))) =
      (absent ∙ quiet, one (λ it next. A.gives it slave request outcome next) slave old.units new.units asked, inl (found slave old.units asked.at))
  given old new slave request outcome quiet (absent, inr (inr (some, none, told, same))) = (absent ∙ quiet, ap addresses_of same, inr (told ∙ ap nobody quiet))

  pub wanted : (old new : LineUnits S) (slave : ℕ) (request : Asked) → old.absent ≡ None → units_want A old slave request new
      → (new.absent ≡ None) × (addresses_of new.units ≡ addresses_of old.units)
  wanted old new slave request quiet (absent, inl (zero, s)) = (absent ∙ quiet, stopped request old.units new.units s)
  wanted old new slave request quiet (absent, inr (some, asked)) = (absent ∙ quiet, one (λ it next. A.wants it slave request next) slave old.units new.units asked)

  pub keep : KeepsToOwn (units_answering A) (λ it. addresses_of it.units) (λ it. it.absent ≡ None)
  keep = record { gives = given; wants = wanted }
