-- One try of a call.
use Rattle.std.proofs.Common.{◌≡◌, ◌∙◌, ℕ, ◌+◌, ap, arith}
use Rattle.modbus_frame.specs.Meaning.{Asked}
use Rattle.modbus_client.specs.Matches.{Answer}
use Rattle.modbus_reconnect.specs.State.{ReconnectingState, Meaning}
use Rattle.modbus_reconnect.specs.Calls.{CallsOnce}
use Rattle.modbus_reconnect.specs.LooksFirst.{CallsLooked}

pub tried_once : {H I C L : Type 0} (m : Meaning H I C L) (old new : ReconnectingState C I L) (asked : Asked) (answer : Answer) → old.retries ≡ 0
    → CallsOnce m old asked answer new → new.tries ≡ 1
tried_once m old new asked answer none once =
    let within = once.within in
    let first : once.earlier ≡ 0 = omega (arith, within, none) in
    ap (λ s. s.tries) once.counts ∙ ap (λ n. n + 1) first

-- The same of a call that looks at its link first.
pub tried_once_looked : {H I C L : Type 0} (m : Meaning H I C L) (looks : L → ℕ) (old new : ReconnectingState C I L) (asked : Asked) (answer : Answer)
    → old.retries ≡ 0 → CallsLooked m looks old asked answer new → new.tries ≡ 1
tried_once_looked m looks old new asked answer none looked =
    tried_once m looked.seen new asked answer (ap (λ s. s.retries) looked.first.rest ∙ none) looked.calls
