-- Under which token a poll of mio tells of what.
use Rattle.std.specs.Prelude.{ℕ, ◌==◌, if◌then◌else◌}
use Rattle.mio.specs.declared.token.Token.{Token}
use Rattle.modbus_ready.specs.declared.readiness.Ready.{Ready}
use Rattle.modbus_ready.specs.declared.readiness.Ready.TheVariants.{Peer, Link}

-- the last number, which is the token of the acceptor
abbrev pub peer : ℕ
peer = 18446744073709551615

-- the token under which a poll is to tell of this: a link's key
abbrev pub token_of : Ready → Token
token_of Peer = record { 0 = peer }
token_of (Link key) = record { 0 = key }

-- of what it tells by a token
abbrev pub ready_of : Token → Ready
ready_of token = if token.0 == peer then Peer else Link token.0
