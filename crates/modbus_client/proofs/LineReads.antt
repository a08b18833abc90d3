-- The reading of the bytes of a serial line, step by step, and when bytes follow.
use Rattle.std.proofs.Common.{◌≡◌, ◌≢◌, inl, inr, ◌⊎◌, ℕ, zero, suc, ◌+◌, ◌<◌, ◌≤◌, false, eqb, List, [], ◌∷◌, ◌++◌, length, take, drop, refl, sym, ap, ◌∙◌, arith, subst, eq-eqb, add_assoc, zero-add}
use Rattle.std.specs.Prelude.{slice_index}
use Rattle.std.proofs.lemmas.Bool.Decides.{eqb_tells}
use Rattle.modbus_rtu.specs.declared.verdict.Verdict.{Verdict}
use Rattle.modbus_rtu.specs.declared.verdict.Verdict.TheVariants.{Open, Bad, Good}
use Rattle.modbus_rtu.specs.Limits.{overhead}
use Rattle.modbus_client.specs.Protocol.{waiting, reply}
use Rattle.modbus_frame.specs.declared.fault.HeaderSeen.{HeaderSeen}
use Rattle.modbus_client.specs.Rtu.{slave_seen}
use Rattle.modbus_client.specs.LineReading.{LineRead, behind, read_as, read_from}

pub behind_none : (read : LineRead) → behind 0 read ≡ read
behind_none read = ap (λ n. let r : LineRead = record { found = read.found; others = n } in r) (zero-add read.others)

pub behind_both : (a b : ℕ) (read : LineRead) → behind a (behind b read) ≡ behind (a + b) read
behind_both a b read = ap (λ n. let r : LineRead = record { found = read.found; others = n } in r) (sym (add_assoc a b read.others))

false_eqb : (a b : ℕ) → a ≢ b → eqb a b ≡ false
false_eqb a b ne = elim (eqb_tells a b) [ inl same ↦ absurd (ne same.1) | inr apart ↦ apart.0 ]

same_or_not : (a b : ℕ) → (a ≡ b) ⊎ (a ≢ b)
same_or_not a b = elim (eqb_tells a b) [ inl same ↦ inl same.1 | inr apart ↦ inr apart.1 ]

module _ (judge : List ℕ → Verdict) (asked : ℕ) where
  -- the reading from so many bytes on is that of the bytes behind them
  pub reads_behind : (skip : ℕ) (bytes : List ℕ) → read_from judge asked skip bytes ≡ read_from judge asked 0 (drop skip bytes)
  unfolding read_from
  reads_behind zero [] = refl
  reads_behind (suc skip) [] = refl
  reads_behind zero (byte ∷ rest) = refl
  reads_behind (suc skip) (byte ∷ rest) = reads_behind skip rest

  pub reads_none : (skip : ℕ) → read_from judge asked skip [] ≡ record { found = waiting []; others = 0 }
  unfolding read_from
  reads_none skip = refl

  pub reads_suc : (skip byte : ℕ) (rest : List ℕ) → read_from judge asked (suc skip) (byte ∷ rest) ≡ read_from judge asked skip rest
  unfolding read_from
  reads_suc skip byte rest = refl

  pub reads_open : (bytes : List ℕ) → judge bytes ≡ Open → read_from judge asked 0 bytes ≡ record { found = waiting bytes; others = 0 }
  unfolding read_from
  reads_open [] is = refl
  reads_open (byte ∷ rest) is = ap (λ v. read_as asked (byte ∷ rest) v (λ skip. read_from judge asked skip rest)) is

  pub reads_bad : (bytes : List ℕ) → judge bytes ≡ Bad → read_from judge asked 0 bytes ≡ read_from judge asked 0 (drop 1 bytes)
  unfolding read_from
  reads_bad [] is = refl
  reads_bad (byte ∷ rest) is = ap (λ v. read_as asked (byte ∷ rest) v (λ skip. read_from judge asked skip rest)) is

  -- a frame that stands behind the first byte and so many more
  pub reads_past : (byte : ℕ) (rest : List ℕ) (n : ℕ) → judge (byte ∷ rest) ≡ Good n → byte ≢ asked → read_from judge asked 0 (byte ∷ rest) ≡ behind 1 (read_from judge asked (n + 2) rest)
  unfolding read_from
  reads_past byte rest n is apart =
      ap (λ v. read_as asked (byte ∷ rest) v (λ skip. read_from judge asked skip rest)) is ∙ rw (false_eqb byte asked apart) refl

  pub reads_own : (bytes : List ℕ) (n : ℕ) → judge bytes ≡ Good n → 0 < length bytes → slice_index bytes 0 ≡ asked
      → read_from judge asked 0 bytes ≡ record { found = reply (drop (n + overhead) bytes) (slave_seen asked) (take n (drop 1 bytes)); others = 0 }
  unfolding read_from
  reads_own [] n is some same = absurd (omega (arith, some))
  reads_own (byte ∷ rest) n is some same =
      ap (λ v. read_as asked (byte ∷ rest) v (λ skip. read_from judge asked skip rest)) is ∙ rw (eq-eqb byte asked same) refl

  pub reads_other : (bytes : List ℕ) (n : ℕ) → judge bytes ≡ Good n → 0 < length bytes → slice_index bytes 0 ≢ asked
      → read_from judge asked 0 bytes ≡ behind 1 (read_from judge asked 0 (drop (n + overhead) bytes))
  reads_other [] n is some apart = absurd (omega (arith, some))
  reads_other (byte ∷ rest) n is some apart =
      let same : drop (n + 2) rest ≡ drop (n + overhead) (byte ∷ rest) = sym (ap (λ k. drop k (byte ∷ rest)) (past n)) in
      reads_past byte rest n is apart ∙ ap (behind 1) (reads_behind (n + 2) rest ∙ ap (read_from judge asked 0) same)
    where
      past : (n : ℕ) → n + overhead ≡ suc (n + 2)
      past n = omega arith

-- the reading goes on behind the front of these bytes
abbrev pub Passes : (List ℕ → Verdict) → ℕ → List ℕ → Type 0
Passes judge asked adu = (judge adu ≡ Bad) ⊎ ((n : ℕ) × (judge adu ≡ Good n) × (slice_index adu 0 ≢ asked))

pub passes_decided : {v : Verdict} {A : Type 0} → (v ≡ Bad) ⊎ ((n : ℕ) × (v ≡ Good n) × A) → v ≢ Open
passes_decided (inl b) o = cc
passes_decided (inr (n, g, a)) o = cc

-- what is passed while bytes come, is decided so by another judge of the same bytes with more behind them
module _ (judge judge' : List ℕ → Verdict) (more : List ℕ) (asked : ℕ) (agrees : (adu : List ℕ) → Passes judge asked adu → judge' (adu ++ more) ≡ judge adu) (within : (adu : List ℕ) (n : ℕ) → judge adu ≡ Good n → n + overhead ≤ length adu) where
  same_waiting : (a b : List ℕ) → waiting a ≡ waiting b → a ≡ b
  same_waiting a b e = cc

  no_reply : {h p held : List ℕ} {s : HeaderSeen} {P : Type 0} → reply h s p ≡ waiting held → P
  no_reply e = cc

  bad_is : (adu : List ℕ) → judge adu ≡ Bad → judge' (adu ++ more) ≡ Bad
  bad_is adu is = agrees adu (inl is) ∙ is

  good_is : (adu : List ℕ) (n : ℕ) → judge adu ≡ Good n → slice_index adu 0 ≢ asked → judge' (adu ++ more) ≡ Good n
  good_is adu n is apart = agrees adu (inr (n, is, apart)) ∙ is

  abbrev GoesOn : LineRead → LineRead → Type 0
  GoesOn read whole = (held : List ℕ) → read.found ≡ waiting held → whole ≡ behind read.others (read_from judge' asked 0 (held ++ more))

  waits_on : (bytes : List ℕ) → GoesOn (record { found = waiting bytes; others = 0 }) (read_from judge' asked 0 (bytes ++ more))
  waits_on bytes held e = sym (behind_none _) ∙ ap (λ b. behind 0 (read_from judge' asked 0 (b ++ more))) (same_waiting bytes held e)

  past_on : (read whole : LineRead) → GoesOn read whole → GoesOn (behind 1 read) (behind 1 whole)
  past_on read whole on held e = ap (behind 1) (on held e) ∙ behind_both 1 read.others _

  module _ (byte : ℕ) (rest : List ℕ) (later : (n : ℕ) → n + 2 ≤ length rest → GoesOn (read_from judge asked (n + 2) rest) (read_from judge' asked (n + 2) (rest ++ more)))
      (next : GoesOn (read_from judge asked 0 rest) (read_from judge' asked 0 (rest ++ more))) where
    by_slave : (n : ℕ) → judge (byte ∷ rest) ≡ Good n → (byte ≡ asked) ⊎ (byte ≢ asked) → GoesOn (read_from judge asked 0 (byte ∷ rest)) (read_from judge' asked 0 (byte ∷ rest ++ more))
    by_slave n is (inl same) = λ held e. no_reply (sym (ap (λ (r : LineRead). r.found) (reads_own judge asked (byte ∷ rest) n is (omega arith) same)) ∙ e)
    by_slave n is (inr apart) =
        let fits : n + 2 ≤ length rest = omega (arith, within (byte ∷ rest) n is) in
        rw (reads_past judge asked byte rest n is apart, reads_past judge' asked byte (rest ++ more) n (good_is (byte ∷ rest) n is apart) apart)
        (past_on (read_from judge asked (n + 2) rest) (read_from judge' asked (n + 2) (rest ++ more)) (later n fits))

    by_verdict : (v : Verdict) → judge (byte ∷ rest) ≡ v → GoesOn (read_from judge asked 0 (byte ∷ rest)) (read_from judge' asked 0 (byte ∷ rest ++ more))
    by_verdict Open is = rw (reads_open judge asked (byte ∷ rest) is) (waits_on (byte ∷ rest))
    by_verdict Bad is = rw (reads_bad judge asked (byte ∷ rest) is, reads_bad judge' asked (byte ∷ rest ++ more) (bad_is (byte ∷ rest) is)) next
    by_verdict (Good n) is = by_slave n is (same_or_not byte asked)

  pub reads_on : (skip : ℕ) (bytes : List ℕ) → skip ≤ length bytes → GoesOn (read_from judge asked skip bytes) (read_from judge' asked skip (bytes ++ more))
  reads_on zero [] le = subst (λ r. GoesOn r (read_from judge' asked 0 more)) (sym (reads_none judge asked 0)) (waits_on [])
  reads_on (suc skip) [] le = absurd (omega (arith, le))
  reads_on (suc skip) (byte ∷ rest) le =
      rw (reads_suc judge asked skip byte rest, reads_suc judge' asked skip byte (rest ++ more)) (reads_on skip rest (omega (arith, le)))
  reads_on zero (byte ∷ rest) le = by_verdict byte rest (λ n fits. reads_on (n + 2) rest fits) (reads_on zero rest (omega arith)) (judge (byte ∷ rest)) refl
