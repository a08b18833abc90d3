use Rattle.std.proofs.Common.{◌≡◌, ◌∙◌, ℕ, List, ap, subst, sum, length}
use Rattle.modbus_link.specs.Outside.{bytes_appended, IsFront}
use Rattle.modbus_app.specs.Make.{replies_made, summary_of, summary}
use Rattle.modbus_app.proofs.make.make.Goals as goal

pub returns : goal.returns
returns g c =
    let count = c.args.count in
    let replies = c.bytes-replies.result.now in
    let is : replies ≡ replies_made count = c.bytes-replies.ensures ∙ c.in-Ok.ensures.replies in
    let total : summary_of count (length replies) c.sum_of.result ≡ summary_of count (length replies) (sum replies) = ap (summary_of count (length replies)) c.sum_of.ensures in
    let all : summary_of count (length replies) (sum replies) ≡ summary count = ap (λ (r : List ℕ). summary_of count (length r) (sum r)) is in
    let text : c.as_bytes.result.now ≡ summary count = c.as_bytes.ensures.value ∙ c.deref.ensures.0 ∙ c.summary-text.ensures ∙ total ∙ all in (
      c.write_all.ensures.sink,
      c.in-Err.ensures.cause,
      λ told. subst (IsFront (bytes_appended (g.K.Ends.output c.args.sink.now) (g.K.Ends.output c.write_all.new.sink))) text (c.in-Err.ensures.front told),
    )
