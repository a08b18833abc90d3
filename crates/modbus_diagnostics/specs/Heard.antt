-- What a port hears of its line (MODBUS over Serial Line V1.02, sections 2.1 and 2.2).
use Rattle.std.specs.Prelude.{ℕ, ◌==◌, Bool, true, false, if◌then◌else◌, List, [], Option, Some, None}
use Rattle.std.specs.List.{list_any}
use Rattle.modbus_frame.specs.Meaning.{Asked, Custom}
use Rattle.modbus_field.specs.Unread.{no_function}
use Rattle.modbus_diagnostics.specs.declared.query.Query.{Query}
use Rattle.modbus_diagnostics.specs.declared.query.Query.TheVariants.{Events, Clear, Restart}
use Rattle.modbus_diagnostics.specs.declared.heard.Heard.{Heard}
use Rattle.modbus_diagnostics.specs.declared.heard.Heard.TheVariants.{Noise, Another, Broadcast, Own, Asks, Monitored, MonitoredBroadcast, MonitoredAnother}
use Rattle.modbus_diagnostics.specs.Queries.{query_of}

-- what is no message is asked as a custom request of no function and no byte
abbrev pub is_noise : Asked → Bool
is_noise (Custom code []) = code == no_function
is_noise _ = false

-- one of these units has the address
abbrev pub is_unit : List ℕ → ℕ → Bool
is_unit units slave = list_any (λ unit. unit == slave) units

-- a message for one of its units, which asks the port itself or not
abbrev pub of_query : Option Query → Heard
of_query (Some query) = Asks query
of_query None = Own

-- the same where the port only listens: a restart alone is done (6.8.1, sub-functions 01 and 04)
abbrev pub of_listener : Option Query → Heard
of_listener (Some (Restart erases)) = Asks (Restart erases)
of_listener _ = Monitored

abbrev pub own : Bool → Asked → Heard
own listens request = if listens then of_listener (query_of request) else of_query (query_of request)

-- a message for all
abbrev pub to_all : Bool → Heard
to_all listens = if listens then MonitoredBroadcast else Broadcast

-- a message for another
abbrev pub to_another : Bool → Heard
to_another listens = if listens then MonitoredAnother else Another

-- What a port with these units hears, which only listens or not: noise; a message for all, or for one of its units; a message for another.
abbrev pub heard_as : List ℕ → Bool → ℕ → Asked → Heard
heard_as units listens slave request =
    if is_noise request then Noise
    else if slave == 0 then to_all listens
    else if is_unit units slave then own listens request else to_another listens

abbrev pub is_message : Heard → Bool
is_message Noise = false
is_message _ = true

-- a message for all
abbrev pub is_broadcast : Heard → Bool
is_broadcast Broadcast = true
is_broadcast MonitoredBroadcast = true
is_broadcast _ = false

-- a message for one of its units, or for all
abbrev pub is_own : Heard → Bool
is_own Noise = false
is_own Another = false
is_own MonitoredAnother = false
is_own _ = true

-- it clears the counters: a restart does, too
abbrev pub clears : Heard → Bool
clears (Asks Clear) = true
clears (Asks (Restart erases)) = true
clears _ = false

-- it asks for the number of events
abbrev pub asks_events : Heard → Bool
asks_events (Asks Events) = true
asks_events _ = false

-- it is asked of the units behind the port
abbrev pub is_passed : Heard → Bool
is_passed Broadcast = true
is_passed Own = true
is_passed Another = true
is_passed _ = false
