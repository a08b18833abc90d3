use Rattle.std.proofs.Common.{◌-◌, ◌≤◌, ◌∷◌, ◌++◌, [], length, drop, ap, subst, arith}
use Rattle.std.specs.Prelude.{List, ℕ}
use Rattle.modbus_pdu.specs.Message.{message}
use Rattle.modbus_ascii.specs.Stands.{StandsFor, IsNextFrame, AreAllFrames, IsStillOpen}
use Rattle.modbus_ascii.proofs.Holding.{open-within}
use Rattle.modbus_ascii.proofs.Buffering.{fed-all, front-frame, front-some, front-waiting, front-left}
use Rattle.modbus_ascii.proofs.buffer.AsciiBufferFraming.front.Goals as goal

pub overflow_sub-result : goal.overflow_sub-result
overflow_sub-result c =
    let seen = fed-all c.self.inside.ring.items c.self.inside.scan c.self.invariant.scans (c.self.invariant.all c.if-self.false) in
    omega (arith, seen.«open», open-within c.self.inside.ring.items, c.len.ensures.len)

pub returns-then-self-clause-finds : goal.returns-then-self-clause-finds
returns-then-self-clause-finds c = λ bytes cuts taken s.
    let P : List ℕ → Type 0 = λ h. StandsFor bytes cuts h taken
    → StandsFor bytes cuts (drop c.self.inside.scan.fed h) (taken ++ message c.slave.result c.pdu.result.now ∷ []) × IsNextFrame bytes cuts taken (message c.slave.result c.pdu.result.now) in
    subst P c.self.view_is
    (front-frame bytes cuts c.self.inside.ring.items taken c.self.inside.scan c.slave.result c.pdu.result.now c.self.invariant.scans c.if-self.true c.slave.ensures c.pdu.ensures.exact) s

pub returns-then-self-clause-within : goal.returns-then-self-clause-within
returns-then-self-clause-within c =
    let some = front-some c.self.inside.ring.items c.self.inside.scan c.self.invariant.scans c.if-self.true in
    let within = c.self.invariant.scans.0 in
    let P : List ℕ → Type 0 = λ h. c.self.inside.scan.fed ≤ length h in
    (some, subst P c.self.view_is within)

pub returns-else-self-clause-finds : goal.returns-else-self-clause-finds
returns-else-self-clause-finds c = λ bytes cuts taken s.
    let count = ap (λ n. n - c.self.inside.scan.«open») c.len.ensures.len in
    let P : List ℕ → Type 0 = λ h. StandsFor bytes cuts h taken
    → StandsFor bytes cuts (drop (c.len.result - c.self.inside.scan.«open») h) taken × AreAllFrames bytes cuts (drop (c.len.result - c.self.inside.scan.«open») h) taken in
    subst P c.self.view_is
    (front-waiting bytes cuts c.self.inside.ring.items taken c.self.inside.scan (c.len.result - c.self.inside.scan.«open») c.self.invariant.scans c.if-self.false (c.self.invariant.all c.if-self.false) count) s

pub returns-else-self-clause-within : goal.returns-else-self-clause-within
returns-else-self-clause-within c =
    let count = ap (λ n. n - c.self.inside.scan.«open») c.len.ensures.len in
    let P : List ℕ → Type 0 = λ h. (c.len.result - c.self.inside.scan.«open» ≤ length h) × IsStillOpen (drop (c.len.result - c.self.inside.scan.«open») h) in
    subst P c.self.view_is
    (omega (arith, c.len.ensures.len), front-left c.self.inside.ring.items c.self.inside.scan (c.len.result - c.self.inside.scan.«open») c.self.invariant.scans (c.self.invariant.all c.if-self.false) count)
