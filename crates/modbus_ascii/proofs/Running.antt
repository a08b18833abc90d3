-- How a decoder goes through a part of what is held.
use Rattle.std.proofs.Common.{◌≡◌, ℕ, ◌+◌, ◌-◌, ◌≤◌, List, ◌++◌, length, take, drop, sym, ap, ◌∙◌, subst, arith, length-append, length-drop, append_assoc}
use Rattle.std.proofs.Math.Seq.{take-add, drop-append-add}
use Rattle.std.proofs.lemmas.List.{take_rest, take-append-le, drop-append-le}
use Rattle.modbus_ascii.specs.declared.scan.Scan.{Scan}
use Rattle.modbus_ascii.specs.Stands.{after_last_end}
use Rattle.modbus_ascii.specs.Scan.{HasSeen, Scans, Feeds, IsPartOf}

-- more of a piece
pub piece-more : (seen piece : List ℕ) (taken count : ℕ) → (seen ++ take taken piece) ++ take count (take (length piece - taken) (drop taken piece)) ≡ seen ++ take (taken + count) piece
piece-more seen piece taken count =
    append_assoc seen (take taken piece) (take count (take (length piece - taken) (drop taken piece)))
    ∙ ap (λ t. seen ++ t) (ap (λ p. take taken piece ++ take count p) (take_rest piece taken) ∙ sym (take-add taken count piece))

-- more of what is held, by a part of it
part-more : (before part after : List ℕ) (d count : ℕ) → d ≤ length part → count ≤ length (drop d part)
    → take ((length before + d) + count) (before ++ (part ++ after)) ≡ take (length before + d) (before ++ (part ++ after)) ++ take count (drop d part)
part-more before part after d count within few =
    take-add (length before + d) count (before ++ (part ++ after))
    ∙ ap (λ t. take (length before + d) (before ++ (part ++ after)) ++ take count t) (drop-append-add before (part ++ after) d ∙ drop-append-le d part after within)
    ∙ ap (λ t. take (length before + d) (before ++ (part ++ after)) ++ t) (take-append-le count (drop d part) after few)

-- a decoder that was fed the rest of a part
pub part-fed : (held part : List ℕ) (start d : ℕ) (old new : Scan) → IsPartOf held part start → old.fed ≡ start + d → d ≤ length part → Scans held old
    → Feeds (take (length part - d) (drop d part)) old new → Scans held new
part-fed held part start d old new p fed within s f =
    let rest : take (length part - d) (drop d part) ≡ drop d part = take_rest part d in
    let few : f.count ≤ length (drop d part) = omega (arith, f.within, ap length rest) in
    let at : old.fed ≡ length p.before + d = omega (arith, fed, p.start_is) in
    let ends : new.fed ≡ (length p.before + d) + f.count = omega (arith, f.fed, at) in
    let size : length held ≡ length p.before + (length part + length p.after) =
    omega (arith, ap length p.is, length-append p.before (part ++ p.after), length-append part p.after) in
    let grown : take new.fed held ≡ take old.fed held ++ take f.count (drop d part) =
    ap (λ h. take new.fed h) p.is ∙ ap (λ n. take n (p.before ++ (part ++ p.after))) ends ∙ part-more p.before part p.after d f.count within few
    ∙ ap (λ n. take n (p.before ++ (part ++ p.after)) ++ take f.count (drop d part)) (sym at) ∙ ap (λ h. take old.fed h ++ take f.count (drop d part)) (sym p.is) in
    let A = after_last_end held in
    let same : (A ++ take old.fed held) ++ take f.count (take (length part - d) (drop d part)) ≡ A ++ take new.fed held =
    append_assoc A (take old.fed held) (take f.count (take (length part - d) (drop d part)))
    ∙ ap (λ t. A ++ t) (ap (λ q. take old.fed held ++ take f.count q) rest ∙ sym grown) in
    let P : List ℕ → Type 0 = λ seen. HasSeen seen new in
    (omega (arith, ends, size, few, length-drop d part, within), subst P same (f.seen (A ++ take old.fed held) s.1))
