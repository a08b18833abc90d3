-- Units of a line, place by place.
use Rattle.std.proofs.Common.{◌≡◌, ◌≢◌, inl, inr, ℕ, zero, suc, ◌+◌, ◌<◌, List, [], ◌∷◌, ◌++◌, length, take, drop, set, get_or, refl, sym, ap, ◌∙◌, add-one, arith}
use Rattle.std.proofs.lemmas.List.{set_split}
use Rattle.std.specs.List.{AllZip}
use Rattle.modbus_frame.specs.Meaning.{Asked}
use Rattle.modbus_service.specs.Outcome.{Outcome}
use Rattle.modbus_service.proofs.Places.{split_at, told_more}
use Rattle.modbus_c.specs.Units.{Units, NoneHas, UnitsTell}

-- what stands at a place inside does not depend on what stands for one outside
pub read_at : {X : Type 0} (xs : List X) (i : ℕ) (d e : X) → i < length xs → get_or xs i d ≡ get_or xs i e
read_at [] i d e within = absurd (omega (arith, within))
read_at (x ∷ xs) zero d e within = refl
read_at (x ∷ xs) (suc i) d e within = read_at xs i d e (omega (arith, within))

-- one more unit did what all are asked
pub told_one_more : {X : Type 0} (R : X → X → Type 0) (olds news : List X) (i : ℕ) (d y : X) → i < length olds → length news ≡ length olds
    → drop i news ≡ drop i olds → AllZip R (take i olds) (take i news) → R (get_or news i d) y → AllZip R (take (i + 1) olds) (take (i + 1) (set news i y))
told_one_more R olds news i d y inside long rest told here =
    let within : i < length news = omega (arith, inside, long) in
    told_more R olds news i (get_or news i d) y within long (read_at news i d (get_or news i d) within) rest told here

-- the first unit of an address was asked, and written back
pub first_told : {U : Type 0} (V : Units U) (slave : ℕ) (request : Asked) (outcome : Outcome) (units : List U) (place : ℕ) (d next : U) → slave ≢ 0
    → (place < length units) × NoneHas V slave (take place units) × ((it : U) → V.address (get_or units place it) ≡ slave)
    → V.tells slave request outcome (get_or units place d) next → UnitsTell V slave request outcome units (set units place next)
first_told V slave request outcome units place d next one (within, none, here) told = inr (inl (
  one,
  record {
    before = take place units;
    at = get_or units place d;
    next = next;
    after = drop (place + 1) units;
    none_before = none;
    here = here d;
    told = told;
    was = split_at units place (get_or units place d) within (read_at units place d (get_or units place d) within);
    now_is = set_split units place next within ∙ ap (λ n. take place units ++ next ∷ drop n units) (sym (add-one place));
  },
))
