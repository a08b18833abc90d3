use Rattle.modbus_field.proofs.Reading.{cuts-more, messages-more, frames-more}
use Rattle.modbus_field.proofs.burst.laws.bursts_go_on.Goals as goal

pub returns-clause-messages : goal.returns-clause-messages
returns-clause-messages c = λ bytes piece cuts are some. (cuts-more bytes piece cuts are some, messages-more bytes piece cuts are)

pub returns-clause-frames : goal.returns-clause-frames
returns-clause-frames c = λ bytes piece cuts are some. frames-more bytes piece cuts are
