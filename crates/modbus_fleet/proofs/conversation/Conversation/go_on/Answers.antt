use Rattle.std.proofs.Common.{◌≡◌, ◌∙◌, Bool, refl, sym, ap}
use Rattle.std.specs.Prelude.{true, false, if◌then◌else◌}
use Rattle.modbus_link.specs.declared.polled.Polled.TheVariants.{Ready, Pending}
use Rattle.modbus_frame.specs.Meaning.{meaning}
use Rattle.modbus_reconnect.specs.Owes.{leaves_nothing}
use Rattle.modbus_fleet.specs.declared.conversation.Stand.TheVariants.{Away, Idle}
use Rattle.modbus_fleet.proofs.conversation.Conversation.go_on.Goals as goal

pub returns-in-Pending : goal.returns-in-Pending
returns-in-Pending g c =
    rw (← c.self.view_is) (record { answer = Pending; after = c.poll.new.link; call = c.poll.new.self.call; polled = c.in-Pending.ensures.polled; asked = c.in-Pending.ensures.asked; line = c.in-Pending.ensures.line; tells = refl; stands = refl })

pub returns-then-leaves_nothing : goal.returns-then-leaves_nothing
returns-then-leaves_nothing g c =
    let kept : leaves_nothing (meaning c.self.inside.request) c.in-Ready.answer c.poll.new.self.call.held ≡ true =
    sym (c.leaves_nothing.ensures c.poll.new.self.call.held (sym c.held.ensures)) ∙ c.if-leaves_nothing.true in
    rw (← c.self.view_is) (record {
      answer = Ready c.in-Ready.answer;
      after = c.poll.new.link;
      call = c.poll.new.self.call;
      polled = c.in-Ready.ensures.polled;
      asked = c.in-Ready.ensures.asked;
      line = c.in-Ready.ensures.line;
      tells = refl;
      stands = sym (ap (λ (b : Bool). if b then Idle c.poll.new.link else Away) kept);
    })

pub returns : goal.returns
returns g c =
    let owed : leaves_nothing (meaning c.self.inside.request) c.in-Ready.answer c.poll.new.self.call.held ≡ false =
    sym (c.leaves_nothing.ensures c.poll.new.self.call.held (sym c.held.ensures)) ∙ c.if-leaves_nothing.false in
    rw (← c.self.view_is) (record {
      answer = Ready c.in-Ready.answer;
      after = c.poll.new.link;
      call = c.poll.new.self.call;
      polled = c.in-Ready.ensures.polled;
      asked = c.in-Ready.ensures.asked;
      line = c.in-Ready.ensures.line;
      tells = refl;
      stands = sym (ap (λ (b : Bool). if b then Idle c.poll.new.link else Away) owed);
    })
