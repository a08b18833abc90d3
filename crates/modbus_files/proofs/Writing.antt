-- The groups of a request to write, one after another.
use Rattle.std.proofs.Common.{◌≡◌, ℕ, zero, suc, ◌+◌, ◌-◌, ◌<◌, cond, true, false, List, length, drop, Ok, Err, refl, sym, ap, ◌∙◌, arith}
use Rattle.std.specs.Prelude.{◌==◌}
use Rattle.modbus_frame.specs.declared.code.ExceptionCode.{ExceptionCode}
use Rattle.modbus_frame.specs.declared.code.ExceptionCode.TheVariants.{IllegalDataValue}
use Rattle.modbus_pdu.specs.Fields.{words_of}
use Rattle.modbus_files.specs.declared.group.Group.{Group}
use Rattle.modbus_files.specs.Files.{FilesState, group_size, group_of, with_records, one_size, then_check, checked, then_write, with_one, written}

module _ (n at : ℕ) (low : at < n) (it : FilesState) (rest : List ℕ) (some : (length rest == 0) ≡ false) where
  count : n - at ≡ suc (n - (at + 1))
  count = omega (arith, low)

  checks : checked (n - at) it rest ≡ then_check (one_size it rest) (λ size. checked (n - (at + 1)) it (drop size rest))
  unfolding checked
  checks = ap (λ k. checked k it rest) count
      ∙ ap (λ b. cond b (Ok tt) (then_check (one_size it rest) (λ size. checked (n - (at + 1)) it (drop size rest)))) some

  pub checks_on : (size : ℕ) → one_size it rest ≡ Ok size → checked (n - at) it rest ≡ checked (n - (at + 1)) it (drop size rest)
  checks_on size e = checks ∙ ap (λ r. then_check r (λ size. checked (n - (at + 1)) it (drop size rest))) e

  pub checks_not : (code : ExceptionCode) → one_size it rest ≡ Err code → checked (n - at) it rest ≡ Err code
  checks_not code e = checks ∙ ap (λ r. then_check r (λ size. checked (n - (at + 1)) it (drop size rest))) e

  writes : written (n - at) it rest ≡ then_write (one_size it rest) it (λ size. written (n - (at + 1)) (with_one it rest) (drop size rest))
  unfolding written
  writes = ap (λ k. written k it rest) count
      ∙ ap (λ b. cond b it (then_write (one_size it rest) it (λ size. written (n - (at + 1)) (with_one it rest) (drop size rest)))) some

  pub writes_on : (size : ℕ) → one_size it rest ≡ Ok size → written (n - at) it rest ≡ written (n - (at + 1)) (with_one it rest) (drop size rest)
  writes_on size e = writes ∙ ap (λ r. then_write r it (λ size. written (n - (at + 1)) (with_one it rest) (drop size rest))) e

  pub writes_not : (code : ExceptionCode) → one_size it rest ≡ Err code → written (n - at) it rest ≡ it
  writes_not code e = writes ∙ ap (λ r. then_write r it (λ size. written (n - (at + 1)) (with_one it rest) (drop size rest))) e

  pub goes_on : (next : FilesState) (left : List ℕ) (size : ℕ) → one_size it rest ≡ Ok size → next ≡ with_one it rest → left ≡ drop size rest
      → written (n - at) it rest ≡ written (n - (at + 1)) next left
  goes_on next left size e same all =
      writes_on size e ∙ ap (λ i. written (n - (at + 1)) i (drop size rest)) (sym same) ∙ ap (written (n - (at + 1)) next) (sym all)

-- one group was written
pub put_one : (it next : FilesState) (rest tail : List ℕ) (g : Group) → next ≡ with_records it g (words_of tail g.len) → g ≡ group_of rest
    → tail ≡ drop group_size rest → next ≡ with_one it rest
put_one it next rest tail g e same all =
    e ∙ ap (λ (x : Group). with_records it x (words_of tail x.len)) same
    ∙ ap (λ bytes. with_records it (group_of rest) (words_of bytes (group_of rest).len)) all

-- where nothing is left all is done
pub checks_all : (k : ℕ) (it : FilesState) (rest : List ℕ) → (length rest == 0) ≡ true → checked k it rest ≡ Ok tt
unfolding checked
checks_all zero it rest none = ap (λ b. cond b (Ok tt) (Err IllegalDataValue)) none
checks_all (suc k) it rest none = ap (λ b. cond b (Ok tt) (then_check (one_size it rest) (λ size. checked k it (drop size rest)))) none

pub writes_all : (k : ℕ) (it : FilesState) (rest : List ℕ) → (length rest == 0) ≡ true → written k it rest ≡ it
unfolding written
writes_all zero it rest none = refl
writes_all (suc k) it rest none = ap (λ b. cond b it (then_write (one_size it rest) it (λ size. written k (with_one it rest) (drop size rest)))) none

pub writes_no_more : (it : FilesState) (rest : List ℕ) → written 0 it rest ≡ it
unfolding written
writes_no_more it rest = refl

-- where groups are left behind the last that may be
pub checks_too_many : (it : FilesState) (rest : List ℕ) → (length rest == 0) ≡ false → checked 0 it rest ≡ Err IllegalDataValue
unfolding checked
checks_too_many it rest some = ap (λ b. cond b (Ok tt) (Err IllegalDataValue)) some
