use Rattle.std.proofs.Common.{◌≡◌, List, [], ◌∷◌, ◌++◌, ◌∙◌, ap, sym, subst, Option, Some, refl}
use Rattle.std.specs.Prelude.{replicate}
use Rattle.atomic_table.specs.Table.{opening}
use Rattle.modbus_store.specs.declared.lock.Stored.{Stored}
use Rattle.modbus_store.specs.Views.{newcomer}
use Rattle.modbus_store.specs.Lock.{Kept, opening_of}
use Rattle.modbus_store.proofs.Keeps.{begins}
use Rattle.modbus_store.proofs.Turning.{opening_holds}
use Rattle.modbus_store.proofs.table.open_with.Goals as goal

pub new-requires : goal.new-requires
new-requires c =
    let y : Stored = record { store = c.args.store; count = 0; history = c.args.history } in
    let items : c.push_reserved.new.self.items ≡ Some y ∷ [] = c.push_reserved.ensures.items ∙ ap (λ l. l ++ Some y ∷ []) c.in_ok-slots.ensures.items in
    let about : c.of-about.result.value ≡ y = c.of-about.ensures in
    rw about (subst (λ (l : List (Option Stored)). Kept (opening_of y) (opening (0 ∷ 0 ∷ 0 ∷ 0 ∷ replicate 2 0) l (newcomer (opening_of y)))) (sym items) (begins (opening_of y) y (replicate 2 0) (opening_holds y refl c.requires)))
