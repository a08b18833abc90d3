use Rattle.std.proofs.Common.{◌≤◌, ◌<◌, ◌-◌, ◌∙◌, length, drop, take, ap, subst}
use Rattle.std.specs.List.{All}
use Rattle.modbus_diagnostics.specs.IdentityAnswers.{objects_response}
use Rattle.modbus_diagnostics.proofs.Parts.{streams, end_from}
use Rattle.modbus_diagnostics.proofs.identity.stream.stream_of.Goals as goal

pub returns : goal.returns
returns c =
    let objects = c.args.objects.now in
    let m = c.count_up_to.result in
    let start = c.start_of.result in
    let n = c.count_fitting-count.result in
    let category = take m objects in
    let from = take (length category - start) (drop start category) in
    let left = take (length from - n) (drop n from) in
    streams objects c.args.code c.args.id m start n from left c.response_of.result (end_from category start) (end_from from n)
    (subst (λ last. All (λ o. o.id ≤ last) category) c.last_of.ensures c.count_up_to.ensures.low)
    (subst (λ last. All (λ o. last < o.id) (drop m objects)) c.last_of.ensures c.count_up_to.ensures.high) c.start_of.ensures.begins
    c.count_fitting-count.ensures.fits c.count_fitting-count.ensures.full
    (c.response_of.ensures ∙ ap (λ shown. objects_response c.args.code objects left shown) c.in_ok-shown.ensures)
