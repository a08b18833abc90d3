use Rattle.std.proofs.Common.{[], ◌∷◌, ◌++◌, ◌∙◌, sym, ap, subst, take, drop, get_or, suc, arith}
use Rattle.modbus_ascii_client.specs.Search.{HasScanned}
use Rattle.modbus_ascii_client.proofs.Scanning.{parts-at, all-taken, told-reply, counted-reply, told-none, counted-none, held-front, held-none}
use Rattle.modbus_ascii_client.proofs.search.first_reply.Goals as goal
use Rattle.modbus_ascii_client.proofs.search.first_reply.Goals.{then-held-scan-gt-MAX_FRAME, else-held-scan-gt-MAX_FRAME}

pub returns-in-Some-clause-told : goal.returns-in-Some-clause-told
returns-in-Some-clause-told c =
    let held = c.args.held.now in
    let i = c.loop-byte.byte-index in
    let seen = take i held in
    let (is, same, others, count) = c.in-Some.ensures seen c.loop-byte.invariant in
    told-reply c.frames_go_on.ensures.front held seen (seen ++ get_or held i 0 ∷ []) (drop (suc i) held) c.in-Some.frame.pdu.items c.args.slave c.in-Some.frame.slave (parts-at i held c.loop-byte-test.true) is same others

pub returns-in-Some-clause-others : goal.returns-in-Some-clause-others
returns-in-Some-clause-others c =
    let held = c.args.held.now in
    let i = c.loop-byte.byte-index in
    let seen = take i held in
    let (is, same, others, count) = c.in-Some.ensures seen c.loop-byte.invariant in
    counted-reply c.frames_go_on.ensures.front held seen (seen ++ get_or held i 0 ∷ []) (drop (suc i) held) c.in-Some.frame.pdu.items c.args.slave c.in-Some.frame.slave _ (parts-at i held c.loop-byte-test.true) is same others count

pub returns-clause-told : goal.returns-clause-told
returns-clause-told c =
    let held = c.args.held.now in
    let all = all-taken c.loop-byte.byte-index held (omega (arith, c.loop-byte-test.false, c.loop-byte.auto.byte-index-end)) in
    let s = subst (λ bytes. HasScanned c.args.slave bytes c.loop-byte.scan) all c.loop-byte.invariant in
    elim c.if-held-scan-gt-MAX_FRAME.branch [
      | then-held-scan-gt-MAX_FRAME w ↦ told-none c.args.slave held (drop c.if-held-scan-gt-MAX_FRAME.start held) s.others (held-none held c.loop-byte.scan.start c.if-held-scan-gt-MAX_FRAME.start s.opens w.if-held-scan-gt-MAX_FRAME.true w.start-is)
      | else-held-scan-gt-MAX_FRAME w ↦ told-none c.args.slave held (drop c.if-held-scan-gt-MAX_FRAME.start held) s.others (held-front held c.loop-byte.scan.start s.opens w.if-held-scan-gt-MAX_FRAME.false ∙ ap (λ k. drop k held) (sym w.start-is))
    ]

pub returns-clause-others : goal.returns-clause-others
returns-clause-others c =
    let held = c.args.held.now in
    let all = all-taken c.loop-byte.byte-index held (omega (arith, c.loop-byte-test.false, c.loop-byte.auto.byte-index-end)) in
    let s = subst (λ bytes. HasScanned c.args.slave bytes c.loop-byte.scan) all c.loop-byte.invariant in
    counted-none c.args.slave held c.loop-byte.scan.others s.others s.counts
