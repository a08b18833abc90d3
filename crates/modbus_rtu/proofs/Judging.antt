-- What the code tests to judge the front of a list, and what then stands there.
use Rattle.std.proofs.Common.{◌≡◌, ◌≢◌, ℕ, ◌+◌, ◌*◌, ◌<◌, ◌≤◌, false, eqb, List, length, take, get_or, Some, None, Ok, Err, refl, ap, inl, inr, eq-eqb}
use Rattle.std.proofs.lemmas.Bool.{le-ltb, lt-ltb}
use Rattle.std.proofs.lemmas.Bool.Decides.{eqb_tells}
use Rattle.modbus_rtu.specs.declared.verdict.Verdict.TheVariants.{Open, Bad, Good}
use Rattle.modbus_rtu.specs.declared.length.NoLength.{NoLength}
use Rattle.modbus_rtu.specs.Checksum.{crc}
use Rattle.modbus_rtu.specs.Frame.{Head, verdict_by}
use Rattle.modbus_rtu.specs.Limits.{overhead}

false_eqb : (a b : ℕ) → a ≢ b → eqb a b ≡ false
false_eqb a b ne = elim (eqb_tells a b) [ inl same ↦ absurd (ne same.1) | inr apart ↦ apart.0 ]

module _ (adu : List ℕ) (h : Head) where
  pub judged_none : (e : NoLength) → Err e ≡ h → Bad ≡ verdict_by adu h
  judged_none e is = ap (verdict_by adu) is

  pub judged_missing : Ok None ≡ h → Open ≡ verdict_by adu h
  judged_missing is = ap (verdict_by adu) is

  pub judged_short : (n : ℕ) → Ok (Some n) ≡ h → length adu < n + overhead → Open ≡ verdict_by adu h
  judged_short n is short = rw (← is, lt-ltb (length adu) (n + overhead) short) refl

  pub judged_good : (n : ℕ) → Ok (Some n) ≡ h → n + overhead ≤ length adu → crc (take (n + 1) adu) ≡ get_or adu (n + 1) 0 + 256 * get_or adu (n + 2) 0 → Good n ≡ verdict_by adu h
  judged_good n is fits sum = rw (← is, le-ltb (length adu) (n + overhead) fits, eq-eqb _ _ sum) refl

  pub judged_bad : (n : ℕ) → Ok (Some n) ≡ h → n + overhead ≤ length adu → crc (take (n + 1) adu) ≢ get_or adu (n + 1) 0 + 256 * get_or adu (n + 2) 0 → Bad ≡ verdict_by adu h
  judged_bad n is fits sum = rw (← is, le-ltb (length adu) (n + overhead) fits, false_eqb _ _ sum) refl

pub ruleset judged = (judged_none, judged_missing, judged_short, judged_good, judged_bad)
