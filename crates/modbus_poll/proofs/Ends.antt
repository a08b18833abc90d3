-- The greatest end that a limit allows.
use Rattle.std.proofs.Common.{◌≡◌, ℕ, ◌-◌, ◌<◌, ◌≤◌, Any, true, false, leb, List, length, get_or, inl, inr, arith}
use Rattle.std.proofs.lemmas.Bool.{cases_lt, leb-true, leb-false}
use Rattle.std.proofs.lemmas.List.{get_or_default}
use Rattle.std.proofs.lemmas.List.Elements.{Contains-get_or}
use Rattle.std.specs.List.{AllWithin}
use Rattle.std.specs.List.Sorted.{IsNonDecreasing}
use Rattle.modbus_poll.specs.InOrder.{IsGreatestEnd}

module _ (ends : List ℕ) (limit allowed : ℕ) (past : AllWithin (λ (y : ℕ). leb y limit ≡ false) ends allowed (length ends)) where
  -- where one is allowed, so is the first
  pub some_allowed : Any (λ (end : ℕ). end ≤ limit) ends → 1 ≤ allowed
  some_allowed some = elim (cases_lt some.0 allowed) [
    | inl less ↦ omega arith
    | inr ge ↦ let over : limit < get_or ends some.0 some.1 = leb-false _ _ (past some.0 some.1 ge some.2) in omega arith
  ]

  -- the last of those that are allowed
  pub greatest_allowed : IsNonDecreasing ends → 1 ≤ allowed → allowed ≤ length ends → AllWithin (λ (y : ℕ). leb y limit ≡ true) ends 0 allowed
      → IsGreatestEnd ends limit (get_or ends (allowed - 1) 0)
  greatest_allowed rising some le before = record {
    among = Contains-get_or ends (allowed - 1) 0 (omega arith);
    allowed = leb-true _ _ (before (allowed - 1) 0 (omega arith) (omega arith));
    greatest = λ k d less within. elim (cases_lt k allowed) [
      | inl lt ↦
          let same : get_or ends (allowed - 1) d ≡ get_or ends (allowed - 1) 0 = get_or_default ends (allowed - 1) d 0 (omega arith) in
          let up : get_or ends k d ≤ get_or ends (allowed - 1) d = rising k (allowed - 1) d (omega arith) (omega arith) in
          omega arith
      | inr ge ↦ let over : limit < get_or ends k d = leb-false _ _ (past k d ge less) in omega arith
    ];
  }
