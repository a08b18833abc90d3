-- The numbers of an ADU, each of which stands here alone (MODBUS Messaging on TCP/IP V1.0b, section 3.1.3).
use Rattle.std.specs.Prelude.{ℕ, ◌+◌}
use Rattle.modbus_pdu.specs.Limits.{max_pdu}

-- the bytes of an MBAP header before those that its length counts: the transaction, the protocol and the length
abbrev pub uncounted : ℕ
uncounted = 6

-- the bytes of a unit identifier, the last field of an MBAP header, which its length counts with the PDU
abbrev pub unit_identifier : ℕ
unit_identifier = 1

-- the bytes of an MBAP header
abbrev pub mbap_header : ℕ
mbap_header = uncounted + unit_identifier

-- the greatest length that a header can tell
abbrev pub max_length : ℕ
max_length = 65535

-- the bytes of the longest ADU that a header can tell
abbrev pub longest_adu : ℕ
longest_adu = uncounted + max_length

-- the bytes of the longest ADU of a response
abbrev pub longest_response : ℕ
longest_response = mbap_header + max_pdu

-- the number of the Modbus protocol
abbrev pub modbus_protocol : ℕ
modbus_protocol = 0
