use Rattle.std.proofs.Common.{subst, sym}
use Rattle.modbus_server.specs.Listener.{IsTold}
use Rattle.modbus_server.proofs.worker.ConnectionWorkerWorker.run.Goals as goal

pub tell-requires : goal.tell-requires
tell-requires g c = subst (λ hook. goal.H-IsAlwaysCallable g hook) (sym c.work-answer.ensures.hook) c.requires.ready

pub returns : goal.returns
returns g c = record {
  worked = (c.work-answer.new.self, c.work-answer.result, c.work-answer.ensures.ran, subst (λ hook. IsTold (goal.H-post g hook) c.work-answer.result) c.work-answer.ensures.hook c.tell.ensures);
}
