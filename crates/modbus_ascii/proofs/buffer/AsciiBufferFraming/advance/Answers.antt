use Rattle.std.proofs.Common.{◌≡◌, ◌-◌, ◌≤◌, ◌++◌, ◌∙◌, length, take, drop, ap, sym, subst, refl, arith, false, length-drop}
use Rattle.std.specs.Prelude.{List, ℕ}
use Rattle.circular_buffer.specs.Buffer.{Buffer}
use Rattle.modbus_ascii.specs.declared.scan.Scan.{Scan}
use Rattle.modbus_ascii.specs.Stands.{after_last_end}
use Rattle.modbus_ascii.specs.Scan.{Scans}
use Rattle.modbus_ascii.proofs.Buffering.{scan-behind, scan-left}
use Rattle.modbus_ascii.proofs.buffer.AsciiBufferFraming.advance.Goals as goal

pub run-requires : goal.run-requires
run-requires c =
    let items = c.self.inside.ring.items in
    let scan = c.self.inside.scan in
    let now : Scan = record { decoder = scan.decoder; fed = 0; «open» = scan.«open»; found = false } in
    scan-behind (after_last_end items ++ take scan.fed items) c.truncate_front.new.self.items c.begins_within-within.result scan now c.self.invariant.scans.1 c.if-self.true
    c.begins_within-within.ensures c.if-not-within.true refl refl refl refl

pub invariant_of-self-then-left-self : goal.invariant_of-self-then-left-self
invariant_of-self-then-left-self c =
    let items = c.self.inside.ring.items in
    let scan = c.self.inside.scan in
    let left = c.len.result - c.args.count in
    let now : Scan = record { decoder = scan.decoder; fed = left; «open» = scan.«open»; found = scan.found } in
    let rest : c.truncate_front.new.self.items ≡ drop (length items - left) items = ap (λ (ring : Buffer ℕ). ring.items) c.truncate_front.ensures in
    let few : left ≤ length items = omega (arith, c.len.ensures.len) in
    let goes_on = scan-left items scan now left c.self.invariant.scans c.has_room.ensures (c.self.invariant.all c.if-self.false) c.if-left-self.true few refl refl refl c.if-self.false in
    let P : List ℕ → Type 0 = λ h. Scans h now × (left ≡ length h) in
    let stood = subst P (sym rest) goes_on in
    record {
      room = ap (λ (ring : Buffer ℕ). ring.capacity) c.truncate_front.ensures ∙ c.self.invariant.room;
      within = omega (arith, ap length rest, length-drop (length items - left) items, c.self.invariant.within);
      scans = stood.0;
      all = λ e. stood.1;
    }
