use Rattle.modbus_server.proofs.connection.Connection.next.Goals as goal

pub returns : goal.returns
returns g c = rw (← c.self.view_is) (record {
  takes = c.take_next-result.ensures.takes;
  keeps = c.take_next-result.ensures.keeps;
  memory = c.take_next-result.ensures.memory;
  goes_on = c.is_ok-self-inside.ensures.value;
})
