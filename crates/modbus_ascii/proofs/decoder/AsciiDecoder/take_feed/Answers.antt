use Rattle.modbus_ascii.specs.declared.decoder.Phase.TheVariants.{Closed, Returned, SkippedReturn}
use Rattle.std.proofs.Common.{arith}
use Rattle.modbus_ascii.specs.Limits.{line_feed}
use Rattle.modbus_ascii.proofs.Decoding.{view, kept, stays-closed, feed-step, feed-gives, feeds-skipping, skipping-gives}
use Rattle.modbus_ascii.proofs.decoder.AsciiDecoder.take_feed.Goals as goal

pub returns-in-Closed-clause-reads : goal.returns-in-Closed-clause-reads
returns-in-Closed-clause-reads c = λ fed k. stays-closed fed line_feed _ _ _ _ c.self.view_is c.in-Closed.is (λ e. omega (arith, e)) k

pub returns-in-Closed-clause-gives : goal.returns-in-Closed-clause-gives
returns-in-Closed-clause-gives c = λ fed k.
    feed-gives fed Closed (view c.self.inside.phase c.self.inside.bytes.items c.self.inside.half) c.self.invariant.within (kept fed _ Closed _ _ _ c.self.view_is c.in-Closed.is k)

pub returns-in-Digits-clause-reads : goal.returns-in-Digits-clause-reads
returns-in-Digits-clause-reads c = λ fed k. feeds-skipping fed _ _ _ _ c.self.view_is c.in-Digits.is k

pub returns-in-Digits-clause-gives : goal.returns-in-Digits-clause-gives
returns-in-Digits-clause-gives c = λ fed k. skipping-gives fed _ _ _ _ c.self.view_is c.in-Digits.is c.self.invariant.within k

pub returns-in-SkippedReturn-clause-reads : goal.returns-in-SkippedReturn-clause-reads
returns-in-SkippedReturn-clause-reads c = λ fed k. feed-step fed SkippedReturn c.self.inside.bytes.items c.self.inside.half (kept fed _ SkippedReturn _ _ _ c.self.view_is c.in-SkippedReturn.is k)

pub returns-in-SkippedReturn-clause-gives : goal.returns-in-SkippedReturn-clause-gives
returns-in-SkippedReturn-clause-gives c = λ fed k.
    feed-gives fed SkippedReturn (view c.self.inside.phase c.self.inside.bytes.items c.self.inside.half) c.self.invariant.within (kept fed _ SkippedReturn _ _ _ c.self.view_is c.in-SkippedReturn.is k)

pub returns-in-Returned-clause-reads : goal.returns-in-Returned-clause-reads
returns-in-Returned-clause-reads c = λ fed k. feed-step fed Returned c.self.inside.bytes.items c.self.inside.half (kept fed _ Returned _ _ _ c.self.view_is c.in-Returned.is k)

pub returns-in-Returned-clause-gives : goal.returns-in-Returned-clause-gives
returns-in-Returned-clause-gives c = λ fed k.
    let given = feed-gives fed Returned (view Closed c.self.inside.bytes.items c.self.inside.half) c.self.invariant.within (kept fed _ Returned _ _ _ c.self.view_is c.in-Returned.is k) in
    rw c.is_frame.ensures given
