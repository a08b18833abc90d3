use Rattle.std.proofs.Common.{◌≡◌, inl, inr, ℕ, Option, Ok, Err, sym, ◌∙◌}
use Rattle.modbus_rtu.specs.declared.length.NoLength.{NoLength}
use Rattle.modbus_rtu.specs.Frame.{Head}
use Rattle.modbus_client.proofs.LineLength.{len_of_file, len_of_exception, len_of_response}
use Rattle.modbus_client.proofs.line_length.len_of.Goals as goal

ok_same : {a b : Option ℕ} → (let x : Head = Ok a in x) ≡ Ok b → a ≡ b
ok_same e = cc

not_err : {f : NoLength} {b : Option ℕ} → (let x : Head = Err f in x) ≡ Ok b → ⊥
not_err e = cc

pub returns-then-code-eq-READ_FILE_RECORD : goal.returns-then-code-eq-READ_FILE_RECORD
returns-then-code-eq-READ_FILE_RECORD c = record {
  exact = c.counted_len.ensures ∙ len_of_file c.args.adu.now c.args.code (elim c.then-code-eq-READ_FILE_RECORD.either [ inl is ↦ inl is | inr is ↦ inr is.1 ]);
}

pub returns-then-code-ge-EXCEPTION_BIT : goal.returns-then-code-ge-EXCEPTION_BIT
returns-then-code-ge-EXCEPTION_BIT c = record {
  exact = len_of_exception c.args.adu.now c.args.code c.if-code-eq-READ_FILE_RECORD.false c.if-code-eq-WRITE_FILE_RECORD.false c.if-code-ge-EXCEPTION_BIT.true;
}

pub returns-in-Ok : goal.returns-in-Ok
returns-in-Ok c =
    let told = len_of_response c.args.adu.now c.args.code c.requires c.if-code-eq-READ_FILE_RECORD.false c.if-code-eq-WRITE_FILE_RECORD.false c.if-code-ge-EXCEPTION_BIT.false (sym c.is_told.ensures ∙ c.if-not-is_told.false) in
    record { exact = ok_same (sym c.in-Ok.is ∙ c.response_pdu_len.ensures.exact ∙ told) }

pub returns-in-Err : goal.returns-in-Err
returns-in-Err c =
    let told = len_of_response c.args.adu.now c.args.code c.requires c.if-code-eq-READ_FILE_RECORD.false c.if-code-eq-WRITE_FILE_RECORD.false c.if-code-ge-EXCEPTION_BIT.false (sym c.is_told.ensures ∙ c.if-not-is_told.false) in
    absurd (not_err (sym c.in-Err.is ∙ c.response_pdu_len.ensures.exact ∙ told))
