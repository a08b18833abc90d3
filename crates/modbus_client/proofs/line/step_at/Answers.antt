use Rattle.std.proofs.Common.{◌≡◌, ℕ, ◌<◌, true, false, List, [], ◌∷◌, length, sym, refl, ◌∙◌, arith}
use Rattle.std.specs.Prelude.{◌==◌}
use Rattle.std.proofs.lemmas.Bool.{eqb-true}
use Rattle.modbus_rtu.specs.declared.verdict.Verdict.{Verdict}
use Rattle.modbus_client.specs.Protocol.{waiting}
use Rattle.modbus_client.specs.LineReading.{read_from}
use Rattle.modbus_client.proofs.LineReads.{reads_none, reads_open, reads_bad, reads_own, reads_other, behind_none}
use Rattle.modbus_client.proofs.line.step_at.Goals as goal

some_of : (bytes : List ℕ) → (length bytes == 0) ≡ false → 0 < length bytes
some_of [] e = absurd cc
some_of (byte ∷ bytes) e = omega arith

empty_reads : (judge : List ℕ → Verdict) (asked : ℕ) (bytes : List ℕ) → (length bytes == 0) ≡ true → read_from judge asked 0 bytes ≡ record { found = waiting bytes; others = 0 }
empty_reads judge asked [] e = reads_none judge asked 0
empty_reads judge asked (byte ∷ bytes) e = absurd (omega (arith, eqb-true (length (byte ∷ bytes)) 0 e))

pub returns-then-is_empty : goal.returns-then-is_empty
returns-then-is_empty g c = empty_reads (g.J.Judge.verdict c.args.asked) c.args.asked c.args.adu.now (sym c.is_empty.ensures ∙ c.if-is_empty.true)

pub returns-in-Open : goal.returns-in-Open
returns-in-Open g c = reads_open (g.J.Judge.verdict c.args.asked) c.args.asked c.args.adu.now (sym c.in-Open.ensures.exact)

pub returns-in-Bad : goal.returns-in-Bad
returns-in-Bad g c = (
  omega arith,
  some_of c.args.adu.now (sym c.is_empty.ensures ∙ c.if-is_empty.false),
  reads_bad (g.J.Judge.verdict c.args.asked) c.args.asked c.args.adu.now (sym c.in-Bad.ensures.exact) ∙ sym (behind_none _),
)

pub returns-then-adu-asked : goal.returns-then-adu-asked
returns-then-adu-asked g c =
    let whole = c.in-Good.ensures.whole c.in-Good.pdu_len refl in
    (whole, reads_own (g.J.Judge.verdict c.args.asked) c.args.asked c.args.adu.now c.in-Good.pdu_len (sym c.in-Good.ensures.exact) (omega (arith, whole)) c.if-adu-asked.true)

pub returns-else-adu-asked : goal.returns-else-adu-asked
returns-else-adu-asked g c =
    let whole = c.in-Good.ensures.whole c.in-Good.pdu_len refl in
    (omega arith, whole, reads_other (g.J.Judge.verdict c.args.asked) c.args.asked c.args.adu.now c.in-Good.pdu_len (sym c.in-Good.ensures.exact) (omega (arith, whole)) c.if-adu-asked.false)
