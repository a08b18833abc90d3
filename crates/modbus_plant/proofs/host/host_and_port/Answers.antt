use Rattle.std.proofs.Common.{◌≡◌, ◌∙◌, ℕ, List, [], Option, Some, None, subst, sym, ap}
use Rattle.modbus_plant.specs.Hosts.{host_parts, IsPortText}
use Rattle.modbus_plant.proofs.host.host_and_port.Goals as goal

-- the second of two parts
abbrev second : Option (List ℕ × List ℕ) → List ℕ
second (Some parts) = parts.1
second None = []

-- a word has one text of its port
one_text : (word host other text shown : List ℕ) → Some (host, text) ≡ host_parts word → host_parts word ≡ Some (other, shown) → shown ≡ text
one_text word host other text shown found named = sym (ap second (found ∙ named))

pub returns-in-None-clause-none : goal.returns-in-None-clause-none
returns-in-None-clause-none c = λ host port named.
    let same : named.0 ≡ c.in-Some.text.now =
    one_text c.args.word.now c.in-Some.host.now host c.in-Some.text.now named.0 c.in-Some.ensures named.1 in
    c.in-None.ensures port (subst (λ text. IsPortText text port) same named.3)
