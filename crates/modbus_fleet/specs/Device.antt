-- How a device stands that is asked over a link of its own, and what each step does to it.
use Rattle.std.specs.Prelude.{◌≡◌, ℕ, ◌+◌, ◌-◌, ◌^◌, ◌≤◌, min, Bool, true, false, Option, Some, None, Result, Ok, Err, if◌then◌else◌}
use Rattle.modbus_link.specs.Line.{LinkMeaning}
use Rattle.modbus_link.specs.declared.polled.Polled.{Polled}
use Rattle.modbus_link.specs.declared.polled.Polled.TheVariants.{Ready, Pending}
use Rattle.modbus_frame.specs.Meaning.{Asked}
use Rattle.modbus_frame.specs.declared.fault.Error.{Error}
use Rattle.modbus_client.specs.Protocol.{Protocol, Heading}
use Rattle.modbus_client.specs.Call.{CallState}
use Rattle.modbus_client.specs.Matches.{Answer}
use Rattle.modbus_client.specs.Polled.{PolledCallState, OpensPolled, CallPolled, AsksWhole}
use Rattle.modbus_reconnect.specs.Owes.{leaves_nothing}
use Rattle.modbus_fleet.specs.declared.conversation.Stand.{Stand}
use Rattle.modbus_fleet.specs.declared.conversation.Stand.TheVariants.{Away, Idle, Calling}
use Rattle.modbus_link.specs.Outside.{outside}

-- a call that is under way
pub record ConversationState : Type 0 where
  pub call : CallState
  pub asked : Asked
  -- when it is given up, in milliseconds
  pub deadline : ℕ

pub record DeviceState (I L : Type 0) : Type 0 where
  pub stand : Stand ConversationState L
  -- what its protocol keeps between its calls, as the transaction that comes next
  pub ids : I
  -- the slave that requests go to
  pub slave : ℕ
  -- how many reads of a call may give bytes
  pub turns : ℕ
  -- how long a call may take, in milliseconds
  pub timeout : ℕ

-- a device that has no link, and asked nothing yet
abbrev pub new_device : {H I L : Type 0} → Heading H I → ℕ → ℕ → ℕ → DeviceState I L
new_device N slave turns timeout = record { stand = Away; ids = N.first; slave = slave; turns = turns; timeout = timeout }

abbrev pub is_away : {C L : Type 0} → Stand C L → Bool
is_away Away = true
is_away (Idle link) = false
is_away (Calling link call) = false

abbrev pub is_idle : {C L : Type 0} → Stand C L → Bool
is_idle Away = false
is_idle (Idle link) = true
is_idle (Calling link call) = false

-- a call is under way that is to be given up at this time
abbrev pub IsDue : {L : Type 0} → ℕ → Stand ConversationState L → Type 0
IsDue now Away = ⊥
IsDue now (Idle link) = ⊥
IsDue now (Calling link conversation) = conversation.deadline ≤ now

-- the call that was opened, with what it asks and its deadline
abbrev pub conversing : Asked → ℕ → Result PolledCallState Error → Result ConversationState Error
conversing asked deadline (Ok polled) = Ok (record { call = polled.call; asked = asked; deadline = deadline })
conversing asked deadline (Err error) = Err error

pub record OpensConversation {H : Type 0} (P : Protocol H) (header : H) (asked : Asked) (turns deadline : ℕ) (result : Result ConversationState Error) : Type 0 where
  pub opened : Result PolledCallState Error
  pub opens : OpensPolled P header asked turns opened
  pub is : result ≡ conversing asked deadline opened

-- how the device stands after a call was opened on its link, and what is told of that
abbrev pub stand_with : {L : Type 0} → L → Result ConversationState Error → Stand ConversationState L
stand_with link (Ok conversation) = Calling link conversation
stand_with link (Err error) = Idle link

abbrev pub result_told : Result ConversationState Error → Result (Unit {0}) Error
result_told (Ok conversation) = Ok tt
result_told (Err error) = Err error

-- On a link that is idle a call is opened under the next header, to be given up when its time is over. On another nothing is done.
pub record BeginsOn {H I L : Type 0} (P : Protocol H) (N : Heading H I) (asked : Asked) (now : ℕ) (old : DeviceState I L) (link : L) (told : Option (Result (Unit {0}) Error)) (new : DeviceState I L) : Type 0 where
  pub opened : Result ConversationState Error
  pub opens : OpensConversation P (N.header old.ids old.slave) asked old.turns (min (now + old.timeout) (2 ^ 64 - 1)) opened
  pub tells : told ≡ Some (result_told opened)
  pub stands : new ≡ record old { stand = stand_with link opened; ids = N.next old.ids }

abbrev pub BeginsAs : {H I L : Type 0} → Protocol H → Heading H I → Asked → ℕ → DeviceState I L → Stand ConversationState L → Option (Result (Unit {0}) Error) → DeviceState I L → Type 0
BeginsAs P N asked now old (Idle link) told new = BeginsOn P N asked now old link told new
BeginsAs P N asked now old stand told new = (told ≡ None) × (new ≡ old)

abbrev pub Begins : {H I L : Type 0} → Protocol H → Heading H I → Asked → ℕ → DeviceState I L → Option (Result (Unit {0}) Error) → DeviceState I L → Type 0
Begins P N asked now old told new = BeginsAs P N asked now old old.stand told new

-- what the protocol and the links of devices mean, and how often a link was not ready
pub record FleetMeaning (H L : Type 0) : Type 1 where
  pub protocol : Protocol H
  pub link : LinkMeaning L
  pub idle : L → ℕ

abbrev pub fleet_by : {H L : Type 0} → Protocol H → LinkMeaning L → (L → ℕ) → FleetMeaning H L
fleet_by protocol link idle = record { protocol = protocol; link = link; idle = idle }

-- the answer of a poll, where there is one
abbrev pub told_by_poll : Polled Answer → Option Answer
told_by_poll Pending = None
told_by_poll (Ready answer) = Some answer

-- How the device stands after a poll: its call goes on; or it was answered, and the link is kept exactly where nothing is owed on it.
abbrev pub left_by : {L : Type 0} → ConversationState → L → CallState → Polled Answer → Stand ConversationState L
left_by old link call Pending = Calling link (record old { call = call })
left_by old link call (Ready answer) = if leaves_nothing old.asked answer call.held then Idle link else Away

-- One poll of a call over the device's own link: what it read and wrote there, and what it answers, is what a call over that link alone does
-- that is polled.
pub record ConversationGoesOn {H L : Type 0} (P : Protocol H) (M : LinkMeaning L) (idle : L → ℕ) (link : L) (old : ConversationState) (new : Stand ConversationState L) (told : Option Answer) : Type 0 where
  pub answer : Polled Answer
  pub after : L
  pub call : CallState
  pub polled : CallPolled P (outside (M.input link) (M.output link)) (outside (M.input after) (M.output after)) (idle link) (idle after) old.call call answer
  pub asked : AsksWhole P (outside (M.input link) (M.output link)) (outside (M.input after) (M.output after)) old.call call answer
  pub line : M.line after ≡ M.line link
  pub tells : told ≡ told_by_poll answer
  pub stands : new ≡ left_by old after call answer

-- A device whose call is under way is polled, and nothing else of it changes; another does nothing.
abbrev pub PollsDevice : {H I L : Type 0} → FleetMeaning H L → DeviceState I L → Stand ConversationState L → Option Answer → DeviceState I L → Type 0
PollsDevice {L = L} m old (Calling link conversation) told new =
    (stand : Stand ConversationState L) × ConversationGoesOn m.protocol m.link m.idle link conversation stand told × (new ≡ record old { stand = stand })
PollsDevice m old stand told new = (told ≡ None) × (new ≡ old)

abbrev pub Polls : {H I L : Type 0} → FleetMeaning H L → DeviceState I L → Option Answer → DeviceState I L → Type 0
Polls m old told new = PollsDevice m old old.stand told new
