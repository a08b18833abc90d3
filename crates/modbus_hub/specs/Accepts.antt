-- The links that an acceptor gave, over polls one after another.
use Rattle.std.specs.Prelude.{◌≡◌, List, [], ◌∷◌, Result, Ok, Err}
use Rattle.modbus_link.specs.declared.outside.Failed.{Failed}
use Rattle.modbus_link.specs.declared.polled.Polled.{Polled}
use Rattle.modbus_link.specs.declared.polled.Polled.TheVariants.{Ready, Pending}

-- the link that a poll gave, before others
abbrev pub with_given : {L : Type 0} → Result (Polled L) Failed → List L → List L
with_given (Ok (Ready link)) links = link ∷ links
with_given (Ok Pending) links = links
with_given (Err failed) links = links

-- an acceptor goes from one state to another by polls with these answers, which gave these links
abbrev pub GivesByPolls : {A L : Type 0} → (A → Result (Polled L) Failed → A → Type 0) → A → List (Result (Polled L) Failed) → List L → A → Type 0
GivesByPolls accepts old [] links new = (links ≡ []) × (new ≡ old)
GivesByPolls {A} {L} accepts old (poll ∷ polls) links new =
    (next : A) × (later : List L) × accepts old poll next × (links ≡ with_given poll later) × GivesByPolls accepts next polls later new

-- it gave just these links
abbrev pub GivesLinks : {A L : Type 0} → (A → Result (Polled L) Failed → A → Type 0) → A → List L → A → Type 0
GivesLinks {A} {L} accepts old links new = (polls : List (Result (Polled L) Failed)) × GivesByPolls accepts old polls links new

-- the last of these polls is such a one
abbrev pub LastIs : {L : Type 0} → (Result (Polled L) Failed → Type 0) → Result (Polled L) Failed → List (Result (Polled L) Failed) → Type 0
LastIs P poll [] = P poll
LastIs P poll (next ∷ later) = LastIs P next later

abbrev pub EndsIn : {L : Type 0} → (Result (Polled L) Failed → Type 0) → List (Result (Polled L) Failed) → Type 0
EndsIn P [] = ⊥
EndsIn P (poll ∷ polls) = LastIs P poll polls

-- nobody waits
abbrev pub IsNobody : {L : Type 0} → Result (Polled L) Failed → Type 0
IsNobody (Ok (Ready link)) = ⊥
IsNobody (Ok Pending) = Unit {0}
IsNobody (Err failed) = ⊥

abbrev pub IsFault : {L : Type 0} → Result (Polled L) Failed → Type 0
IsFault (Ok polled) = ⊥
IsFault (Err failed) = Unit {0}

-- it was polled until a poll was such a one, and gave just these links
abbrev pub GivesUntil : {A L : Type 0} → (Result (Polled L) Failed → Type 0) → (A → Result (Polled L) Failed → A → Type 0) → A → List L → A → Type 0
GivesUntil {A} {L} P accepts old links new = (polls : List (Result (Polled L) Failed)) × GivesByPolls accepts old polls links new × EndsIn P polls
