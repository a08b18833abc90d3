use Rattle.std.proofs.Common.{◌≡◌, subst, sym, rules, Bool, true, false, List, take, take_all, get_or}
use Rattle.modbus_ready.specs.declared.readiness.Ready.{Ready}
use Rattle.modbus_ready.specs.declared.readiness.Ready.TheVariants.{Peer, Link}
use Rattle.modbus_hub.specs.Seats.{IsFound}
use Rattle.modbus_hub.proofs.Rounding.{found_at, found_more}
use Rattle.modbus_hub.proofs.seats.is_found.Goals as goal

no_both : (b : Bool) → b ≡ false → b ≡ true → ⊥
no_both b e f = cc

pub found-init : goal.found-init
found-init c = λ is. is

pub returns-then-is_link : goal.returns-then-is_link
returns-then-is_link c =
    let is : get_or c.args.found.now c.found.index Peer ≡ Link c.args.key = c.is_link.ensures.0 (search rules) in
    (λ yes. found_at c.args.key c.args.found.now c.found.index (search rules) is, λ is. search rules)

pub found-preserved : goal.found-preserved
found-preserved c =
    found_more c.args.key c.args.found.now c.found.index (search rules) c.found.invariant
    (λ e. no_both c.is_link.result (search rules) (c.is_link.ensures.1 e))

pub returns : goal.returns
returns c =
    let all : take c.found.index c.args.found.now ≡ c.args.found.now = take_all c.found.index c.args.found.now (search rules) in
    (λ yes. absurd (no_both false (search rules) yes), λ is. absurd (c.found.invariant (subst (λ (l : List Ready). IsFound c.args.key l) (sym all) is)))
