use Rattle.std.proofs.Common.{rules, ◌≡◌, ◌∙◌, ap, ◌-◌, ◌<◌, length, arith}
use Rattle.modbus_hub.proofs.Rationing.{rationed, one_counted, none_counted}
use Rattle.modbus_hub.proofs.rationed.RationedPolledLink.poll_read.Goals as goal

pub returns-in-Ok-Ready-eq0-clause-source : goal.returns-in-Ok-Ready-eq0-clause-source
returns-in-Ok-Ready-eq0-clause-source g c =
    let none : c.args.self.now.refused ≡ 0 = search rules in
    let nothing : c.in-Ok-Ready-eq0.field-0-0 ≡ 0 = search rules in
    let ensures = rw c.in-Ok-Ready-eq0.field-0-is at c.in-Ok-Ready-eq0.ensures in
    rationed _ _ 0 c.args.self.now.left c.args.self.now.left c.args.self.now.refused c.args.self.now.link.ghost_name none
    ensures.source (λ told. ap length (ensures.told told).cuts ∙ none_counted c.in-Ok-Ready-eq0.field-0-0 _ nothing) (omega arith)

pub returns-in-Ok-Ready-clause-source : goal.returns-in-Ok-Ready-clause-source
returns-in-Ok-Ready-clause-source g c =
    let none : c.args.self.now.refused ≡ 0 = search rules in
    let some : 0 < c.in-Ok-Ready.count = search rules in
    let more : 0 < c.args.self.now.left = search rules in
    let ensures = rw c.in-Ok-Ready.field-0-is at c.in-Ok-Ready.ensures in
    rationed _ _ 1 c.args.self.now.left (c.args.self.now.left - 1) c.args.self.now.refused c.args.self.now.link.ghost_name none
    ensures.source (λ told. ap length (ensures.told told).cuts ∙ one_counted c.in-Ok-Ready.count _ some) (omega (arith, more))

pub returns-in-Ok-Pending-clause-source : goal.returns-in-Ok-Pending-clause-source
returns-in-Ok-Pending-clause-source g c =
    let none : c.args.self.now.refused ≡ 0 = search rules in
    let ensures = rw c.in-Ok-Pending.field-0-is at c.in-Ok-Pending.ensures in
    rationed _ _ 0 c.args.self.now.left c.args.self.now.left c.args.self.now.refused c.args.self.now.link.ghost_name none
    ensures.source (λ told. ap length (ensures.told told).cuts) (omega arith)

pub returns-in-Err-clause-source : goal.returns-in-Err-clause-source
returns-in-Err-clause-source g c =
    let none : c.args.self.now.refused ≡ 0 = search rules in
    rationed _ _ 0 c.args.self.now.left c.args.self.now.left c.args.self.now.refused c.args.self.now.link.ghost_name none
    c.in-Err.ensures.source (λ told. ap length (c.in-Err.ensures.told told).cuts) (omega arith)
