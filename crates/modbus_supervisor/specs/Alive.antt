-- The line of life, in JSON (RFC 8259) and in the line protocol of InfluxDB.
use Rattle.std.specs.Prelude.{ℕ, ℤ, List, ◌++◌, codes, decimal, string_bytes}
use Rattle.std.specs.Fmt.{signed_decimal}
use Rattle.modbus_supervisor.specs.declared.alive.Census.{Census}
use Rattle.modbus_supervisor.specs.declared.lines.Output.{Output}
use Rattle.modbus_supervisor.specs.declared.lines.Output.TheVariants.{Json, Influx}
use Rattle.modbus_supervisor.specs.declared.time.Time.{Time}

-- at a time so many devices are polled, and so many of them are away
abbrev pub alive_json : List ℕ → ℕ → ℕ → List ℕ
alive_json time devices away =
    codes "{\"time\":\"" ++ time ++ codes "\",\"devices\":" ++ decimal devices ++ codes ",\"devices_away\":" ++ decimal away ++ codes "}\n"

abbrev pub alive_influx : ℤ → ℕ → ℕ → List ℕ
alive_influx nanos devices away =
    codes "modbus_alive devices=" ++ decimal devices ++ codes "i,devices_away=" ++ decimal away ++ codes "i " ++ signed_decimal nanos ++ codes "\n"

abbrev pub alive_line : Output → Time → Census → List ℕ
alive_line (Json large) time census = alive_json (string_bytes time.text) census.devices census.away
alive_line Influx time census = alive_influx time.nanos census.devices census.away
