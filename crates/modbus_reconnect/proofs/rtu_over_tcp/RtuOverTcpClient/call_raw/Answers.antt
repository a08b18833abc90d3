use Rattle.modbus_reconnect.proofs.rtu_over_tcp.RtuOverTcpClient.call_raw.Goals as goal

pub returns : goal.returns
returns g c = rw (← c.self.view_is) (record { seen = c.look_first.new.self; first = c.look_first.ensures; calls = c.ask_raw.ensures })
