use Rattle.modbus_app.proofs.Making.{Laws, only_memory, served_all, served_short}
use Rattle.modbus_link.specs.Memory.{source_input, sink_output}
use Rattle.modbus_app.proofs.make.serve_made.Goals as goal

pub want_of_memory-requires : goal.want_of_memory-requires
want_of_memory-requires c =
    let laws : Laws = record {
      sizes = c.requests_have_sizes.ensures;
      reads_back = c.requests_read_back.ensures;
      calm = c.quiet_lines.ensures.calm;
      next = c.quiet_lines.ensures.next;
      used = c.quiet_lines.ensures.used;
      one = c.one_reading.ensures.only;
      some = c.one_reading.ensures.some;
      stay = c.frames_stay.ensures.front;
      quiet = c.request_frames.ensures.quiet;
      fit = c.answers_fit.ensures;
    } in
    only_memory laws c.args.count c.requires c.in-Ok.store c.process.new.service c.in_ok-source.source (source_input c.process.new.source) c.in_ok-sink.sink (sink_output c.process.new.sink)
    c.in_ok-source.ensures c.in_ok-sink.ensures c.in-Err.error c.in-Err.ensures.ran

pub returns-in-Ok-process : goal.returns-in-Ok-process
returns-in-Ok-process c =
    let laws : Laws = record {
      sizes = c.requests_have_sizes.ensures;
      reads_back = c.requests_read_back.ensures;
      calm = c.quiet_lines.ensures.calm;
      next = c.quiet_lines.ensures.next;
      used = c.quiet_lines.ensures.used;
      one = c.one_reading.ensures.only;
      some = c.one_reading.ensures.some;
      stay = c.frames_stay.ensures.front;
      quiet = c.request_frames.ensures.quiet;
      fit = c.answers_fit.ensures;
    } in
    let from = c.in_ok-source.source in
    let to = source_input c.process.new.source in
    let sunk = c.in_ok-sink.sink in
    let sinks = sink_output c.process.new.sink in record {
      replies = served_all laws c.args.count c.requires c.in-Ok.store c.process.new.service from to sunk sinks c.in_ok-source.ensures c.in_ok-sink.ensures c.in-Ok-process.ensures.ran c.in-Ok.ensures;
      short = served_short laws c.args.count c.requires c.in-Ok.store c.process.new.service from to sunk sinks c.in_ok-source.ensures c.in_ok-sink.ensures c.in-Ok-process.ensures.ran;
    }
