-- The client in the box of a context.
use Rattle.std.specs.Prelude.{◌≡◌}
use Rattle.std.specs.declared.alloc.Global.{Global}
use Rattle.std.specs.declared.dyn_box.DynBox.{DynBox}
use Rattle.std.specs.DynBox.{dyn_box_with}
use Rattle.modbus_client.specs.declared.context.Context.{Context}

-- the box of a context
abbrev pub box_of : {X : Type 0} {F : X → Type 0} → Context X F → DynBox X Global F
box_of context = context.client

-- the context after its client came into this state: the client stays of its type, and in its place
abbrev pub in_state : {X : Type 0} {F : X → Type 0} → (context : Context X F) → F context.client.vtable → Context X F
in_state context state = record { client = dyn_box_with context.client context.client.vtable state }

-- the client of a context came into a state of which this is true
abbrev pub Becomes : {X : Type 0} {F : X → Type 0} → (old : Context X F) → (F old.client.vtable → Type 0) → Context X F → Type 0
Becomes {F = F} old P new = (state : F old.client.vtable) × P state × (new ≡ in_state old state)
