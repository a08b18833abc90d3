-- One read of a source in memory that gives bytes.
use Rattle.std.proofs.Common.{Bool, true, ◌≡◌, ℕ, ◌+◌, ◌-◌, ◌<◌, ◌≤◌, List, [], ◌∷◌, ◌++◌, length, take, drop, sym, ◌∙◌, ap, arith, ◌↔◌}
use Rattle.std.proofs.lemmas.Grind.{common_steps}
use Rattle.std.proofs.lemmas.List.{length-drop, drop-drop}
use Rattle.modbus_link.specs.declared.outside.Cut.{Cut}
use Rattle.modbus_link.specs.Outside.{cut_at, Input, Gives, bytes_read, cuts_made, one_cut}
use Rattle.modbus_link.specs.Runs.{Gives-once, bytes_read-once, cuts_made-once, one_cut-one}

-- a source in memory that has given so many bytes
abbrev pub input_at : List ℕ → List Cut → ℕ → ℕ → Bool → Input
input_at bytes cuts given faults sure = record { told = true; left = drop given bytes; given = given; cuts = cuts; faults = faults; sure = sure; names = [] }

module _ (bytes : List ℕ) (cuts now : List Cut) (given end room faults : ℕ) (sure : Bool) (some : given < end) (within : end ≤ length bytes)
    (made : now ≡ cuts ++ cut_at end room ∷ []) where
  count_some : 0 < end - given
  count_some = omega arith

  count_within : end - given ≤ length (drop given bytes)
  count_within = rw length-drop (omega arith)

  given_after : end ≡ given + (end - given)
  given_after = omega arith

  left_after : drop end bytes ≡ drop (end - given) (drop given bytes)
  left_after = ap (λ (n : ℕ). drop n bytes) given_after ∙ sym (drop-drop (end - given) given bytes)

  pub read-gives : Gives (input_at bytes cuts given faults sure) (input_at bytes now end faults sure)
  read-gives = Gives-once (input_at bytes cuts given faults sure) (input_at bytes now end faults sure)
      (end - given) room count_some count_within left_after given_after made

  pub read-bytes : bytes_read (input_at bytes cuts given faults sure) (input_at bytes now end faults sure) ≡ take (end - given) (drop given bytes)
  read-bytes = bytes_read-once (input_at bytes cuts given faults sure) (input_at bytes now end faults sure)
      (end - given) room count_some count_within left_after given_after made

  pub read-cuts : cuts_made (input_at bytes cuts given faults sure) (input_at bytes now end faults sure) ≡ one_cut (end - given) room
  read-cuts = cuts_made-once (input_at bytes cuts given faults sure) (input_at bytes now end faults sure)
      (end - given) room count_some count_within left_after given_after made ∙ sym (one_cut-one (end - given) room (λ e. omega arith))

  pub read-not_ended : (end - given ≡ 0) ↔ (drop given bytes ≡ [])
  read-not_ended = grind (arith, common_steps, count_some, count_within)
