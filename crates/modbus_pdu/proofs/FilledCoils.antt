-- Packed coils, eight of each byte read, are the coils and those that fill the last byte.
use Rattle.std.proofs.Common.{◌≡◌, ℕ, ◌+◌, ◌-◌, ◌*◌, ◌<◌, Bool, false, List, ◌++◌, length, get_or, refl, sym, ◌∙◌, arith, inl, inr, length-append}
use Rattle.std.proofs.lemmas.List.{get_or_append_left, get_or-append_right, get_or-replicate, get_or_past, length-replicate}
use Rattle.std.proofs.lemmas.List.FromFn.{fill_by_all}
use Rattle.std.proofs.lemmas.Bool.{cases_lt}
use Rattle.std.proofs.Math.ListN.{replicate}
use Rattle.modbus_pdu.specs.Fields.{coil_at, coils_of, packed_bytes, packed_size}
use Rattle.modbus_pdu.specs.ResponseLaws.{with_whole_bytes}
use Rattle.modbus_pdu.proofs.Unpacked.{packed_bit}

-- so many false ones after the coils change none of them
same_coil : (coils : List Bool) (more k : ℕ) → k < length coils + more → get_or (coils ++ replicate more false) k false ≡ get_or coils k false
same_coil coils more k h =
    elim (cases_lt k (length coils)) [
      | inl lt ↦ get_or_append_left coils (replicate more false) false k lt
      | inr le ↦
          get_or-append_right coils (replicate more false) (length coils) k false refl le
          ∙ get_or-replicate more (k - length coils) false false (omega arith)
          ∙ sym (get_or_past coils k false le)
    ]

length_filled : (coils : List Bool) → length (with_whole_bytes coils) ≡ 8 * packed_size (length coils)
length_filled coils =
    let more = 8 * packed_size (length coils) - length coils in
    omega (arith, length-append coils (replicate more false), length-replicate more false)

pub filled_back : (coils : List Bool) → coils_of (packed_bytes coils) (8 * packed_size (length coils)) ≡ with_whole_bytes coils
filled_back coils =
    let more = 8 * packed_size (length coils) - length coils in
    sym (fill_by_all (coil_at (packed_bytes coils)) (with_whole_bytes coils) (8 * packed_size (length coils)) false (length_filled coils)
    (λ k h. same_coil coils more k (omega arith) ∙ sym (packed_bit coils k h)))
