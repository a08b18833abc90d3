use Rattle.std.proofs.Common.{◌++◌, ◌∙◌, [], length, ap, sym, refl, arith, length-append, append-nil}
use Rattle.modbus_ascii.specs.Scan.{IsPartOf}
use Rattle.modbus_ascii.proofs.scan.Scan.run.Goals as goal

pub returns-clause-scans : goal.returns-clause-scans
returns-clause-scans c =
    let items = c.args.held.now.items in
    let front = c.as_slices.result.0.now in
    let back = c.as_slices.result.1.now in
    let first : IsPartOf items front 0 = record { before = []; after = back; is = sym c.as_slices.ensures; start_is = refl } in
    let second : IsPartOf items back (length front) =
    record { before = front; after = []; is = sym c.as_slices.ensures ∙ ap (λ b. front ++ b) (sym (append-nil back)); start_is = refl } in
    c.run_part-2.ensures.scans items second (c.run_part.ensures.scans items first c.requires)

pub returns-clause-all : goal.returns-clause-all
returns-clause-all c = λ none.
    let scans = returns-clause-scans c in
    let size = ap length c.as_slices.ensures in
    omega (arith, c.run_part-2.ensures.all none, scans.0, size, length-append c.as_slices.result.0.now c.as_slices.result.1.now)
