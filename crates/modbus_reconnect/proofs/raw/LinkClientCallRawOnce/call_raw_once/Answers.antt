use Rattle.std.proofs.Common.{refl, sym, ◌∙◌}
use Rattle.modbus_reconnect.proofs.Kept.{keeps, gives_up}
use Rattle.modbus_reconnect.proofs.raw.LinkClientCallRawOnce.call_raw_once.Goals as goal

pub returns-then-keeps : goal.returns-then-keeps
returns-then-keeps g c =
    keeps _ _ _ _ _ _ _ _ refl c.ask_raw-found.ensures _ c.fitted-answer.ensures c.args.is_patient
    (sym (c.is_kept-keeps.ensures c.ask_raw-found.new.self.held (sym c.held.ensures)) ∙ c.if-keeps.true)

pub returns : goal.returns
returns g c =
    gives_up _ _ _ _ _ _ _ _ _ _ refl c.ask_raw-found.ensures _ c.fitted-answer.ensures c.args.is_patient
    (sym (c.is_kept-keeps.ensures c.ask_raw-found.new.self.held (sym c.held.ensures)) ∙ c.if-keeps.false)
    c.disconnect.ensures
