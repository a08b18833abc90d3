-- The groups of a request, told one after another.
use Rattle.std.proofs.Common.{◌≡◌, ℕ, suc, ◌+◌, ◌-◌, ◌*◌, ◌<◌, List, length, drop, take, Result, Ok, Err, refl, sym, ap, subst, ◌∙◌, arith, length-drop}
use Rattle.std.proofs.lemmas.List.{drop-drop, take_all}
use Rattle.modbus_frame.specs.declared.code.ExceptionCode.{ExceptionCode}
use Rattle.modbus_files.specs.Files.{FilesState, group_size, group_of, groups_of, one_more, and_then, told_of, TellsOn}

-- what a call told that went on, or not
pub went_on : (r : Result (List ℕ) ExceptionCode) (told : List ℕ) → TellsOn r (Ok tt) told → r ≡ Ok told
went_on (Ok more) told same = ap Ok (sym same)
went_on (Err code) told b = absurd b

pub stopped : (r : Result (List ℕ) ExceptionCode) (code : ExceptionCode) (told : List ℕ) → TellsOn r (Err code) told → r ≡ Err code
stopped (Ok more) code told b = absurd b
stopped (Err other) code told same = ap Err (sym same)

pub tells_on : (r : Result (List ℕ) ExceptionCode) (told : List ℕ) → r ≡ Ok told → TellsOn r (Ok tt) told
tells_on r told e = subst (λ x. TellsOn x (Ok tt) told) (sym e) refl

pub tells_not : (r : Result (List ℕ) ExceptionCode) (code : ExceptionCode) (told : List ℕ) → r ≡ Err code → TellsOn r (Err code) told
tells_not r code told e = subst (λ x. TellsOn x (Err code) told) (sym e) refl

module _ (it : FilesState) (bytes : List ℕ) (n : ℕ) where
  -- what is told of the groups from one on
  abbrev pub from : ℕ → List ℕ → Result (List ℕ) ExceptionCode
  from at told = told_of it told (groups_of (n - at) (drop (group_size * at) bytes))

  behind : (at : ℕ) → drop group_size (drop (group_size * at) bytes) ≡ drop (group_size * (at + 1)) bytes
  behind at = let all : group_size * at + group_size ≡ group_size * (at + 1) = omega arith in
      drop-drop group_size (group_size * at) bytes ∙ ap (λ k. drop k bytes) all

  abbrev this : ℕ → List ℕ → Result (List ℕ) ExceptionCode
  this at told = one_more it told (group_of (drop (group_size * at) bytes))

  first : (at : ℕ) (told : List ℕ) → at < n → from at told ≡ and_then (this at told) (λ more. from (at + 1) more)
  first at told low =
      let count : n - at ≡ suc (n - (at + 1)) = omega (arith, low) in
      ap (λ k. told_of it told (groups_of k (drop (group_size * at) bytes))) count
      ∙ ap (λ rest. and_then (this at told) (λ more. told_of it more (groups_of (n - (at + 1)) rest))) (behind at)

  pub step : (at : ℕ) (told more : List ℕ) → at < n → this at told ≡ Ok more → from at told ≡ from (at + 1) more
  step at told more low e = first at told low ∙ ap (λ r. and_then r (λ more. from (at + 1) more)) e

  pub stop : (at : ℕ) (told : List ℕ) (code : ExceptionCode) → at < n → this at told ≡ Err code → from at told ≡ Err code
  stop at told code low e = first at told low ∙ ap (λ r. and_then r (λ more. from (at + 1) more)) e

  pub starts : (told : List ℕ) → told_of it told (groups_of n bytes) ≡ from 0 told
  starts told = let none : group_size * 0 ≡ 0 = omega arith in let all : n - 0 ≡ n = omega arith in
      sym (ap (λ k. told_of it told (groups_of k (drop (group_size * 0) bytes))) all ∙ ap (λ k. told_of it told (groups_of n (drop k bytes))) none)

  pub ends : (at : ℕ) (told : List ℕ) → n - at ≡ 0 → from at told ≡ Ok told
  ends at told none = ap (λ k. told_of it told (groups_of k (drop (group_size * at) bytes))) none

-- what is left behind so many bytes is all of it
pub left_whole : (bytes : List ℕ) (n : ℕ) → take (length bytes - n) (drop n bytes) ≡ drop n bytes
left_whole bytes n = take_all (length bytes - n) (drop n bytes) (omega (arith, length-drop n bytes))
