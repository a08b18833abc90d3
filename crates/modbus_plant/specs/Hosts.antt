-- A host and its port, as a word.
use Rattle.std.specs.Prelude.{◌≡◌, ◌≢◌, ℕ, ◌<◌, ◌^◌, ◌==◌, nat_eq, nat_lt, Bool, List, [], ◌∷◌, length, drop, codes, Option, Some, None, if◌then◌else◌}
use Rattle.std.specs.List.{position_or_len, before_first, after_first, starts_with}
use Rattle.std.specs.Str.Parse.{IsNumeral, digits_value, without_leading_plus}

-- the port of Modbus TCP
abbrev pub modbus_port : List ℕ
modbus_port = codes "502"

-- a text has this byte
abbrev pub has : ℕ → List ℕ → Bool
has byte text = nat_lt (position_or_len (λ b. b == byte) text) (length text)

-- the text of the port in what stands behind a host in brackets: that of Modbus TCP where nothing does, else what a colon stands before
abbrev pub port_behind : List ℕ → Option (List ℕ)
port_behind [] = Some modbus_port
port_behind (byte ∷ rest) = if byte == 58 then Some rest else None

abbrev pub with_host : List ℕ → Option (List ℕ) → Option (List ℕ × List ℕ)
with_host host (Some port) = Some (host, port)
with_host host None = None

-- what stands before the bracket that ends a host, and the text of its port
abbrev pub bracketed_parts : List ℕ → Option (List ℕ × List ℕ)
bracketed_parts text =
    if has 93 text then with_host (before_first (λ b. b == 93) text) (port_behind (after_first (λ b. b == 93) text)) else None

-- what stands before the first colon, and behind it the text of the port: that of Modbus TCP where there is no colon
abbrev pub plain_parts : List ℕ → List ℕ × List ℕ
plain_parts word =
    if has 58 word then (before_first (λ b. b == 58) word, after_first (λ b. b == 58) word) else (word, modbus_port)

-- the host of a word, in brackets or without them, and the text of its port
abbrev pub host_parts : List ℕ → Option (List ℕ × List ℕ)
host_parts word = if starts_with nat_eq word (codes "[") then bracketed_parts (drop 1 word) else Some (plain_parts word)

-- the text shows the number of a port in decimal, with or without a plus
abbrev pub IsPortText : List ℕ → ℕ → Type 0
IsPortText text n = IsNumeral 10 (without_leading_plus text) × (digits_value 10 (without_leading_plus text) ≡ n) × (n < 2 ^ 16)

-- the word names this host, which is not empty, and this port
abbrev pub IsHostAndPort : List ℕ → List ℕ → ℕ → Type 0
IsHostAndPort word host port = (text : List ℕ) × (host_parts word ≡ Some (host, text)) × (host ≢ []) × IsPortText text port
