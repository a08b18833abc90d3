-- What the words of the form `plan` name, and that no item that a read can give is a bad one.
use Rattle.std.proofs.Common.{◌≡◌, ℕ, ◌<◌, ◌==◌, Bool, true, not, List, length, get_or, Some, arith}
use Rattle.std.specs.Prelude.{position}
use Rattle.std.specs.List.{AllPass}
use Rattle.std.proofs.lemmas.List.Quantifiers.{position-Some}
use Rattle.modbus_poll.specs.declared.item.Kind.TheVariants.{U16}
use Rattle.modbus_poll.specs.declared.item.Item.{Item}
use Rattle.modbus_poll.specs.Items.{is_readable}
use Rattle.modbus_poll.specs.Plans.{IsFirstBad}
use Rattle.modbus_ascii.specs.Limits.{colon}

not_both : (b : Bool) → b ≡ true → not b ≡ true → ⊥
not_both b e f = grind arith

pub none_bad : (items : List Item) (k : ℕ) → AllPass is_readable items → IsFirstBad items k → ⊥
none_bad items k readable bad =
    let any : Item = record { address = 0; kind = U16 } in
    let found = position-Some (λ (item : Item). not (is_readable item)) items k any bad in
    not_both (is_readable (get_or items k any)) (readable k any found.0) found.1

-- a place that was found is within the text
pub colon_within : (text : List ℕ) (at : ℕ) → position (λ byte. byte == colon) text ≡ Some at → at < length text
colon_within text at e = (position-Some (λ byte. byte == colon) text at 0 e).0
