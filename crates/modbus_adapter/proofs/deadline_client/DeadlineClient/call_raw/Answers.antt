use Rattle.modbus_adapter.proofs.deadline_client.DeadlineClient.call_raw.Goals as goal

pub returns : goal.returns
returns g c = rw (← c.self.view_is) (record {
  begun = c.begin.new.self;
  begins_line = c.begin.ensures.begins;
  rest = c.begin.ensures.rest;
  does = c.call_raw.ensures;
  stands = λ nothing. c.call_raw.ensures.stands (c.begin.ensures.stands nothing);
})
