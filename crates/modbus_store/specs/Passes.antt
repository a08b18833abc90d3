-- What a caller knows of a shared store and of its pass, and how calls move the pass.
use Rattle.std.specs.Prelude.{◌≡◌, ℕ, ◌^◌, ◌<◌, ◌≤◌, List, [], ◌∷◌, ◌++◌, Option}
use Rattle.atomic_table.specs.Seated.{TableId}
use Rattle.modbus_frame.specs.Meaning.{Asked}
use Rattle.modbus_service.specs.Outcome.{Outcome}
use Rattle.modbus_service.specs.Answering.{Answering, steady}
use Rattle.modbus_store.specs.Tables.{Tables}
use Rattle.modbus_store.specs.Legal.{Call, call, replay, IsLegal, calls_by, StartsWith}
use Rattle.modbus_store.specs.Views.{Opening}
use Rattle.modbus_store.specs.Lock.{Records}
use Rattle.modbus_store.specs.Plays.{longer}

-- a shared store: which table it is, and how it began
pub record Shared : Type 0 where
  pub table : TableId
  pub opening : Opening

-- a pass: the table that it is of and how that began, its number, the calls that it has seen, those that it made, and the number last
-- loaded of passes drawn
pub record Pass : Type 0 where
  pub table : TableId
  pub opening : Opening
  pub number : ℕ
  pub seen : List Call
  pub mine : List Call
  pub drawn : ℕ

abbrev pub IsPassOf : Shared → Pass → Type 0
IsPassOf shared pass = (pass.table ≡ shared.table) × (pass.opening ≡ shared.opening)

-- What a pass has seen is legal from the opening tables, and has of its number exactly the calls that the pass made, each once and in
-- order.
pub record IsInLine (pass : Pass) : Type 0 where
  pub legal : IsLegal pass.opening.tables pass.seen
  pub own : calls_by pass.number pass.seen ≡ pass.mine

-- the first pass
abbrev pub first_pass : TableId → Opening → Pass
first_pass table opening = record { table = table; opening = opening; number = 0; seen = []; mine = []; drawn = 0 }

-- One call with its outcome: the pass has then seen what it had seen, calls of others, and this call. So the answer is that of a store of
-- one caller at this place of the one history.
pub record CallsAsPass (old : Pass) (slave : ℕ) (asked : Asked) (outcome : Outcome) (new : Pass) : Type 0 where
  pub others : List Call
  pub seen : new.seen ≡ (old.seen ++ others) ++ call old.number slave asked outcome ∷ []
  pub apart : calls_by old.number others ≡ []
  pub mine : new.mine ≡ old.mine ++ call old.number slave asked outcome ∷ []
  pub own : calls_by new.number new.seen ≡ new.mine
  pub legal : IsLegal new.opening.tables new.seen
  pub rest : new ≡ record old { seen = new.seen; mine = new.mine }

-- a pass as what answers requests: refused memory, which may come at each call, leaves it as it was
abbrev pub MayWant : Pass → ℕ → Asked → Type 0
MayWant pass slave asked = Unit {0}

abbrev pub caller : Answering Pass
caller = steady CallsAsPass MayWant

-- A pass that was split off has seen as much, has a number of its own, and made no call.
pub record SplitsOff (old : Pass) (drawn : ℕ) (new : Pass) : Type 0 where
  pub number : new.number ≡ drawn
  pub within : drawn < 2 ^ 32
  pub later : old.number < new.number
  pub none : calls_by new.number new.seen ≡ []
  pub rest : new ≡ record old { number = new.number; mine = []; drawn = 0 }

-- A pass that took in what another had seen has the longer of both lists; both are fronts of it.
pub record TakesIn (old other new : Pass) : Type 0 where
  pub seen : new.seen ≡ longer old.seen other.seen
  pub has_own : StartsWith new.seen old.seen
  pub has_other : StartsWith new.seen other.seen
  pub within : new.drawn ≤ 2 ^ 32
  pub rest : new ≡ record old { seen = new.seen; drawn = new.drawn }

-- The last turn has the history at the end: it is legal, begins with all that the pass had seen, and has exactly the pass's own calls of its
-- number. The tables are what it leaves, and the record, where one was kept, is it.
pub record Closes (pass last : Pass) (tables : Tables) (kept : Option (List Call)) : Type 0 where
  pub legal : IsLegal pass.opening.tables last.seen
  pub begins : StartsWith last.seen pass.seen
  pub own : calls_by pass.number last.seen ≡ pass.mine
  pub leaves : tables ≡ replay pass.opening.tables last.seen
  pub record_is : Records pass.opening.recorded kept last.seen
  pub rest : last ≡ record pass { seen = last.seen }
