use Rattle.std.proofs.Common.{ℕ, ◌∷◌, ◌++◌, [], Option, None, refl, sym, subst}
use Rattle.modbus_ascii.specs.Text.{open_end}
use Rattle.modbus_ascii.specs.Decoder.{KeepsInPhase}
use Rattle.modbus_ascii.proofs.Decoding.{kept-digits, digits-again}
use Rattle.modbus_ascii.proofs.Pairs.{pair-keeps, pair-follows}
use Rattle.modbus_ascii.proofs.decoder.AsciiDecoder.take_pair.Goals as goal

pub returns-in-Digits-None-Some-Some-clause-reads : goal.returns-in-Digits-None-Some-Some-clause-reads
returns-in-Digits-None-Some-Some-clause-reads c = λ taken fed k.
    let pair = c.in-Digits-None-Some-Some in
    let more = c.push.new.self.items in
    let now = kept-digits fed _ _ _ None _ c.self.view_is pair.is-0 pair.is-1 k in
    let made = pair-keeps fed c.self.inside.bytes.items more c.args.high c.args.low pair.sixteens pair.ones c.push.ensures.items
    (pair.ensures.digit.0 refl) (pair.ensures'.digit.0 refl) pair.ensures.value pair.ensures'.value pair.ensures'.below now in
    let Q : Option ℕ → Type 0 = λ half. KeepsInPhase c.self.inside.phase more half (open_end (fed ++ c.args.high ∷ c.args.low ∷ [])) in
    subst Q (sym pair.is-1) (digits-again _ _ _ _ pair.is-0 made)

pub returns-in-Digits-None-Some-Some-clause-follows : goal.returns-in-Digits-None-Some-Some-clause-follows
returns-in-Digits-None-Some-Some-clause-follows c = λ taken fed k.
    let pair = c.in-Digits-None-Some-Some in
    pair-follows fed c.self.inside.bytes.items c.args.high c.args.low (pair.ensures.digit.0 refl) (pair.ensures'.digit.0 refl)
    (kept-digits fed _ _ _ None _ c.self.view_is pair.is-0 pair.is-1 k)
