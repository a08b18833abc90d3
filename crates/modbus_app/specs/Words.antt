-- The words of the command line.
use Rattle.std.specs.Prelude.{ℕ, ◌≤◌, ◌&&◌, Bool, true, false, List, [], ◌∷◌, map, codes, String, string_bytes, Option, Some, None, if◌then◌else◌}
use Rattle.std.specs.Str.{bytes_eq}
use Rattle.std.specs.declared.alloc.Global.{Global}
use Rattle.modbus_port.specs.declared.listen.Framing.{Framing}
use Rattle.modbus_port.specs.declared.listen.Framing.TheVariants.{Rtu, Tcp}
use Rattle.modbus_app.specs.declared.words.Mode.{Mode}
use Rattle.modbus_app.specs.declared.words.Mode.TheVariants as mode
use Rattle.modbus_app.specs.declared.words.Task.{Task}
use Rattle.modbus_app.specs.declared.words.Task.TheVariants.{Serve, Make, Listen, Forward, Plan}
use Rattle.modbus_poll.specs.Notation.{number_within}
use Rattle.modbus_app.specs.Plan.{are_items}

-- the most entries of a table: one for each address
abbrev pub most_entries : ℕ
most_entries = 0x10000

-- the entries of a table where no size is given
abbrev pub default_size : ℕ
default_size = 1024

-- the most requests that are made
abbrev pub most_requests : ℕ
most_requests = 1000000

-- the size of a table
abbrev pub size_named : List ℕ → Option ℕ
size_named text = number_within 5 1 most_entries text

-- how many requests are asked for
abbrev pub count_named : List ℕ → Option ℕ
count_named text = number_within 7 1 most_requests text

-- a port
abbrev pub port_named : List ℕ → Option ℕ
port_named text = number_within 5 0 65535 text

-- a task, where its number is there
abbrev pub serve_task : Mode → Option ℕ → Bool → Option Task
serve_task m (Some size) seeded = Some (Serve (record { mode = m; size = size; seeded = seeded }))
serve_task m None seeded = None

abbrev pub make_task : Option ℕ → Option Task
make_task (Some count) = Some (Make count)
make_task None = None

abbrev pub listened_to : Framing → Option ℕ → Option Task
listened_to framing (Some port) = Some (Listen framing port)
listened_to framing None = None

abbrev pub forwarded_to : Option ℕ → Option Task
forwarded_to (Some port) = Some (Forward port)
forwarded_to None = None

-- `plan` and any number of items
abbrev pub plan_task : List (List ℕ) → Option Task
plan_task words = if are_items words then Some Plan else None

-- `rtu`, `rtu size`, `rtu size seeded`, `tcp`, `tcp size`, `ascii`, `ascii size`, `make n`, `listen-rtu port`, `listen-tcp port` or `gateway port`
abbrev pub form_of : List (List ℕ) → Option Task
form_of (word ∷ []) =
    if bytes_eq word (codes "rtu") then serve_task mode.Rtu (Some default_size) false else
    if bytes_eq word (codes "ascii") then serve_task mode.Ascii (Some default_size) false else
    if bytes_eq word (codes "tcp") then serve_task mode.Tcp (Some default_size) false else
    None
form_of (word ∷ argument ∷ []) =
    if bytes_eq word (codes "rtu") then serve_task mode.Rtu (size_named argument) false else
    if bytes_eq word (codes "ascii") then serve_task mode.Ascii (size_named argument) false else
    if bytes_eq word (codes "tcp") then serve_task mode.Tcp (size_named argument) false else
    if bytes_eq word (codes "make") then make_task (count_named argument) else
    if bytes_eq word (codes "listen-rtu") then listened_to Rtu (port_named argument) else
    if bytes_eq word (codes "listen-tcp") then listened_to Tcp (port_named argument) else
    if bytes_eq word (codes "gateway") then forwarded_to (port_named argument) else
    None
form_of (word ∷ size ∷ last ∷ []) =
    if bytes_eq word (codes "rtu") && bytes_eq last (codes "seeded") then serve_task mode.Rtu (size_named size) true else None
form_of _ = None

-- what the words ask for
abbrev pub task_of : List (List ℕ) → Option Task
task_of [] = None
task_of (word ∷ words) = if bytes_eq word (codes "plan") then plan_task words else form_of (word ∷ words)

abbrev pub task_asked : List (String Global) → Option Task
task_asked words = task_of (map string_bytes words)

-- what is asked of a listener
abbrev pub listener_asked : Option Task → Option (Framing × ℕ)
listener_asked (Some (Listen framing port)) = Some (framing, port)
listener_asked _ = None

-- the words ask for nothing that is done over the standard streams
abbrev pub IsUsage : Option Task → Type 0
IsUsage None = Unit {0}
IsUsage (Some (Listen framing port)) = Unit {0}
IsUsage (Some (Forward port)) = Unit {0}
IsUsage _ = ⊥

-- a table has at most an entry for each address, and no more requests are made than a million
abbrev pub IsWithinLimits : Task → Type 0
IsWithinLimits (Serve form) = form.size ≤ most_entries
IsWithinLimits (Make count) = count ≤ most_requests
IsWithinLimits (Listen framing port) = port ≤ 65535
IsWithinLimits (Forward port) = port ≤ 65535
IsWithinLimits Plan = Unit {0}
