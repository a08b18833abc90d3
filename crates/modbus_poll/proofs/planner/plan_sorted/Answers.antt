use Rattle.std.proofs.Common.{◌≡◌, ◌<◌, ◌≤◌, [], ◌∷◌, ◌++◌, get_or, ◌∙◌, sym, subst, arith}
use Rattle.std.proofs.lemmas.List.{get_or_default}
use Rattle.std.proofs.lemmas.List.Elements.{Contains-get_or}
use Rattle.modbus_poll.specs.declared.item.Kind.TheVariants.{U16}
use Rattle.modbus_poll.specs.Items.{item_end, read_end}
use Rattle.modbus_poll.proofs.Planning.{planned_kept, planned_more, end_among, itself}
use Rattle.modbus_poll.proofs.Tests.{readable_width}
use Rattle.modbus_poll.proofs.planner.plan_sorted.Goals as goal
use Rattle.modbus_poll.proofs.planner.plan_sorted.Goals.{then-end-reached+in_ok-push, else-end-reached}

pub read_for-read-requires-clause-among : goal.read_for-read-requires-clause-among
read_for-read-requires-clause-among c =
    end_among c.args.items.now c.args.ends.now c.requires.ends.0 (get_or c.args.items.now c.loop-item.item-index (record { address = 0; kind = U16 }))
    (Contains-get_or c.args.items.now c.loop-item.item-index (record { address = 0; kind = U16 }) c.loop-item-test.true)

pub push-requires-clause-ends : goal.push-requires-clause-ends
push-requires-clause-ends c = λ k d less.
    let within = c.loop-item-test.true in
    let below : read_end (get_or c.loop-item.plan k d) ≤ c.loop-item.reached = c.loop-item.invariant.below k d less in
    let end = itself c.args.items.now c.args.ends.now c.requires.readable c.requires.sorted c.requires.ends.0 c.loop-item.item-index c.loop-item.plan c.loop-item.reached
    c.loop-item.invariant within (get_or c.args.items.now c.loop-item.item-index (record { address = 0; kind = U16 }))
    (λ d'. get_or_default c.args.items.now c.loop-item.item-index d' (record { address = 0; kind = U16 }) within)
    (subst (λ n. c.loop-item.reached < n) c.end.ensures c.if-end-reached.true)
    c.read_for-read.result c.read_for-read.ensures.begins c.read_for-read.ensures.ends in
    omega (arith, end)

pub loop-item-preserved : goal.loop-item-preserved
loop-item-preserved c =
    let within = c.loop-item-test.true in
    elim c.if-end-reached.branch [
      | then-end-reached+in_ok-push w ↦
          let more = planned_more c.args.items.now c.args.ends.now c.requires.readable c.requires.sorted c.requires.ends.0 c.loop-item.item-index c.loop-item.plan c.loop-item.reached
          c.loop-item.invariant within (get_or c.args.items.now c.loop-item.item-index (record { address = 0; kind = U16 }))
          (λ d'. get_or_default c.args.items.now c.loop-item.item-index d' (record { address = 0; kind = U16 }) within)
          (subst (λ n. c.loop-item.reached < n) c.end.ensures w.if-end-reached.true)
          w.read_for-read.result w.read_for-read.ensures.begins w.read_for-read.ensures.ends w.read_for-read.ensures.count in
          let planned : c.if-end-reached.plan ≡ c.loop-item.plan ++ w.read_for-read.result ∷ [] = w.plan-is ∙ w.in_ok-push.ensures in
          let reached : c.if-end-reached.reached ≡ read_end w.read_for-read.result = w.reached-is ∙ w.end-reached.ensures in
          rw (planned, reached) more
      | else-end-reached w ↦
          let kept = planned_kept c.args.items.now c.loop-item.item-index c.loop-item.plan c.loop-item.reached c.loop-item.invariant within
          (λ d. let wide = readable_width (get_or c.args.items.now c.loop-item.item-index d) (c.requires.readable c.loop-item.item-index d within) in omega (arith, wide.0))
          (λ d. let same = get_or_default c.args.items.now c.loop-item.item-index d (record { address = 0; kind = U16 }) within in
          subst (λ x. item_end x ≤ c.loop-item.reached) (sym same) (subst (λ n. n ≤ c.loop-item.reached) c.end.ensures w.if-end-reached.false)) in
          rw (w.plan-is, w.reached-is) kept
    ]
