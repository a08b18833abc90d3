use Rattle.std.proofs.Common.{◌≡◌, ◌∙◌, ◌∷◌, arith, sym, ap, subst, Some}
use Rattle.atomic_table.specs.Table.{rest}
use Rattle.modbus_store.specs.Views.{View}
use Rattle.modbus_store.specs.Lock.{Holds}
use Rattle.modbus_store.specs.Plays.{known_of}
use Rattle.modbus_store.proofs.Keeps.{advances_as}
use Rattle.modbus_store.proofs.steps.leave.Goals as goal

pub fetch_add-served-requires : goal.fetch_add-served-requires
fetch_add-served-requires c =
    let h = c.requires.turn in
    let e = c.exchange.ensures in
    let after = e.3 in
    let view : c.exchange.new.seat.me.0 ≡ c.args.seat.now.me.0 = ap (λ m. m.0) after in (
      e.0 ∙ c.requires.desk.0,
      omega arith,
      advances_as _ _ _ c.exchange.new.seat.me c.args.stored h.1.0 (known_of c.args.seat.now.me.0.stage) _
          (ap (λ m. m.1) after ∙ ap (λ l. (0, Some c.args.stored) ∷ rest l) h.2)
          (ap (λ (v : View). v.stage) view ∙ h.1.1)
          (ap (λ (v : View). v.number) view ∙ h.0.1)
          (ap (λ (v : View). v.live) view ∙ h.0.0)
          (subst (λ (v : View). Holds v.opening (known_of c.args.seat.now.me.0.stage) c.args.stored) (sym view) c.requires.value),
    )
