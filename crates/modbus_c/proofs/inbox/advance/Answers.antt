use Rattle.std.proofs.Common.{◌≡◌, ℕ, ◌+◌, ◌-◌, List, take, drop, ap, sym, ◌∙◌, arith}
use Rattle.modbus_c.proofs.Shift.{moved}
use Rattle.modbus_c.proofs.inbox.advance.Goals as goal

pub returns : goal.returns
returns c =
    let xs : List ℕ = c.args.inbox.now.bytes in let len : ℕ = c.count-len.result in let n : ℕ = len - c.args.used in
    let e : len ≡ c.args.used + n = omega (arith, c.requires, c.count-len.ensures.exact) in
    ap (λ ys. take n ys) c.copy_within.ensures.after ∙ moved xs c.args.used n (omega (arith, e, c.count-len.ensures.most)) ∙ ap (λ k. drop c.args.used (take k xs)) (sym e)
    ∙ ap (λ ys. drop c.args.used ys) (sym c.count-len.ensures.front)
