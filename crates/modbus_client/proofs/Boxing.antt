-- A call of the client in a box goes through a reference that the box lends.
use Rattle.std.proofs.Common.{◌≡◌, subst, refl}
use Rattle.std.specs.DynBox.{dyn_box_with}
use Rattle.modbus_client.specs.declared.context.Context.{Context}
use Rattle.modbus_client.specs.Boxed.{Becomes}

-- What became of the client behind the reference, which is the client in the box, became of the context.
pub put_back : {X : Type 0} {F : X → Type 0} (context : Context X F) (R : (object : (i : X) × F i) → F object.0 → Type 0) (lent : (i : X) × F i) (state : F lent.0)
    → lent ≡ (context.client.vtable, context.client.value) → R lent state
    → Becomes context (λ next. R (context.client.vtable, context.client.value) next) (record { client = dyn_box_with context.client lent.0 state })
put_back {X = X} {F = F} context R lent state same here = subst
    (λ (object : (i : X) × F i). (next : F object.0) × R object next
    × (let box = context.client in let left : Context X F = record { client = dyn_box_with box lent.0 state } in
    let right : Context X F = record { client = dyn_box_with box object.0 next } in left ≡ right))
    same (state, here, refl)
