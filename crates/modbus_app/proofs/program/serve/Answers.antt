use Rattle.std.proofs.Common.{subst}
use Rattle.modbus_server.specs.Complete.{IsCleanLine}
use Rattle.modbus_server.specs.Rtu.{rtu}
use Rattle.modbus_server.specs.Tcp.{tcp}
use Rattle.modbus_ascii.specs.Framing.{ascii}
use Rattle.modbus_app.specs.Device.{messages_of}
use Rattle.modbus_app.proofs.Fitting.{never_long, replies_fit}
use Rattle.modbus_app.proofs.program.serve.Goals as goal

pub returns-in-Rtu-clause-fits : goal.returns-in-Rtu-clause-fits
returns-in-Rtu-clause-fits g c = λ size long.
    never_long c.answers_fit.ensures rtu _ _ _ _ _ c.process.result size c.process.ensures.ran.served long

pub returns-in-Ascii-clause-fits : goal.returns-in-Ascii-clause-fits
returns-in-Ascii-clause-fits g c = λ size long.
    never_long c.answers_fit.ensures ascii _ _ _ _ _ c.process-in-Ascii.result size c.process-in-Ascii.ensures.ran.served long

pub returns-in-Tcp-clause-fits : goal.returns-in-Tcp-clause-fits
returns-in-Tcp-clause-fits g c = λ size long.
    never_long c.answers_fit.ensures tcp _ _ _ _ _ c.process-in-Tcp.result size c.process-in-Tcp.ensures.ran.served long

pub returns-in-Rtu-clause-complete : goal.returns-in-Rtu-clause-complete
returns-in-Rtu-clause-complete g c = λ told clean few no_read no_write.
    let line : IsCleanLine rtu (g.S.Ends.input c.args.source.now).left = subst (λ f. IsCleanLine (messages_of f) (g.S.Ends.input c.args.source.now).left) c.in-Rtu.is clean in
    c.process.ensures.complete told line (replies_fit c.answers_fit.ensures rtu _ line.messages) few no_read no_write

pub returns-in-Ascii-clause-complete : goal.returns-in-Ascii-clause-complete
returns-in-Ascii-clause-complete g c = λ told clean few no_read no_write.
    let line : IsCleanLine ascii (g.S.Ends.input c.args.source.now).left = subst (λ m. IsCleanLine (messages_of m) (g.S.Ends.input c.args.source.now).left) c.in-Ascii.is clean in
    c.process-in-Ascii.ensures.complete told line (replies_fit c.answers_fit.ensures ascii _ line.messages) few no_read no_write

pub returns-in-Tcp-clause-complete : goal.returns-in-Tcp-clause-complete
returns-in-Tcp-clause-complete g c = λ told clean few no_read no_write.
    let line : IsCleanLine tcp (g.S.Ends.input c.args.source.now).left = subst (λ f. IsCleanLine (messages_of f) (g.S.Ends.input c.args.source.now).left) c.in-Tcp.is clean in
    c.process-in-Tcp.ensures.complete told line (replies_fit c.answers_fit.ensures tcp _ line.messages) few no_read no_write
