-- What a call makes of its steps.
use Rattle.std.proofs.Common.{arith, length-append, ◌≡◌, ℕ, ◌%◌, ◌^◌, List, [], ◌∷◌, ◌++◌, sym, refl, ap, ◌∙◌, subst, Option, Some, None, Bool, true, false}
use Rattle.std.specs.Prelude.{IfSome, is_some, Result, Ok, Err}
use Rattle.modbus_service.specs.declared.service.ServiceError.{ServiceError}
use Rattle.modbus_service.specs.declared.service.ServiceError.TheVariants.{Exception, NoMemory}
use Rattle.std.specs.Option.{option_map}
use Rattle.atomic_table.specs.Table.{Step, step, rest}
use mathlib.Core.Option.{none}
use Rattle.modbus_store.specs.declared.lock.Stored.{Stored}
use Rattle.modbus_store.specs.Tables.{Tables}
use Rattle.modbus_store.specs.Legal.{Call, answer_to, tables_after, replay, IsLegal, calls_by}
use Rattle.modbus_store.specs.Views.{View, resting, waiting, serving}
use Rattle.modbus_store.specs.Lock.{Records, Holds, opening_of}
use Rattle.modbus_store.specs.Plays.{Mine, with_stage, known_of, with_call_counted, GotTurn, LookedServing}
use Rattle.modbus_store.specs.Passes.{Pass}
use Rattle.modbus_store.specs.Events.{AddsNoCall}
use Rattle.modbus_store.specs.Turns.{IsAtRest, Ripe, TookTurn, ExtendsView, ServesCall}
use Rattle.modbus_store.proofs.Histories.{replay-append, legal-append, calls_by_mine, none_between}

-- the value that a store begins with goes with no calls
pub opening_holds : (y : Stored) → y.count ≡ 0 → IfSome y.history (λ kept. kept ≡ []) → Holds (opening_of y) [] y
opening_holds y uncounted empty = (uncounted, records y.history empty, refl)
  where
    records : (h : Option (List Call)) → IfSome h (λ kept. kept ≡ []) → Records (is_some h) h []
    records None e = tt
    records (Some kept) e = e

abbrev look : Step (Option Stored)
look = step 1 1 0 0 none

-- the load that finds one's ticket gives the turn
pub hits : (m me m' : Mine) (r ticket t : ℕ) → ticket ≡ t % 2 ^ 64 → me ≡ (with_stage (waiting t) m.0, m.1) → r ≡ ticket → LookedServing look me r m' → GotTurn (with_stage (waiting t) m.0, m.1) m'
hits m me m' r ticket t low is same told = (subst (λ (x : Mine). LookedServing look x r m') is told).0 (same ∙ low)

pub holds_value : (m m' : Mine) → GotTurn m m' → (x : Option Stored) × (m'.1 ≡ (0, x) ∷ rest m'.1)
holds_value m m' got = (Some got.1, ap (λ (x : Mine). x.1) got.2 ∙ ap (λ l. (0, Some got.1) ∷ rest l) (sym (ap (λ (x : Mine). x.1) got.2)))

abbrev head_value : (d : Option Stored) → List (ℕ × Option Stored) → Option Stored
head_value d [] = d
head_value d (x ∷ xs) = x.1

some_same : (x y : Stored) → ◌≡◌ {A = Option Stored} (Some x) (Some y) → x ≡ y
some_same x y e = cc

pub took : (n t : ℕ) (m m' m'' : Mine) (x : Option Stored) (y : Stored) → IsAtRest n m → GotTurn (with_stage (waiting t) m.0, m.1) m' → m'.1 ≡ (0, x) ∷ rest m'.1 → m'' ≡ (m'.0, (0, None) ∷ rest m'.1) → x ≡ Some y → TookTurn n m m'' y
took n t m m' m'' x y rests got has after is =
    let v = m.0 in
    let slots : m'.1 ≡ (0, Some got.1) ∷ m.1 = ap (λ (z : Mine). z.1) got.2 in
    let value : Some y ≡ Some got.1 = sym is ∙ (ap (head_value None) (sym has ∙ slots)) in
    let same : y ≡ got.1 = some_same y got.1 value in
    let empty : rest m'.1 ≡ [] = ap rest slots ∙ rests.2 in
    let view : m'.0 ≡ with_stage (serving t got.0) v = ap (λ (z : Mine). z.0) got.2 in
    let log : got.0 ≡ known_of m''.0.stage = sym (ap (λ (z : Mine). known_of z.0.stage) after ∙ ap (λ (z : View). known_of z.stage) view) in
    let named : m'.0 ≡ with_stage (serving t (known_of m''.0.stage)) v = view ∙ ap (λ l. with_stage (serving t l) v) log in
    let whole : m'' ≡ (with_stage (serving t (known_of m''.0.stage)) v, (0, None) ∷ []) = after ∙ (λ i. (named i, (0, None) ∷ empty i)) in
    let own = got.6 n rests.0.1 in (
      t,
      whole,
      subst (λ l. Ripe n v l y) log (subst (Holds v.opening got.0) (sym same) got.3, got.4, got.5, own.0, own.1),
    )

pub replay_one : (o : Tables) (t : Tables) (log : List Call) (c : Call) → t ≡ replay o log → tables_after t c ≡ replay o (log ++ c ∷ [])
replay_one o t log c is = ap (λ v. tables_after v c) is ∙ sym (replay-append o log (c ∷ []))

-- the pass after its call
pub extends : (c : Call) (m m' : Mine) (y : Stored) (w : View) → IsAtRest c.number m → TookTurn c.number m m' y → c.outcome ≡ answer_to y.store c
    → w ≡ with_stage resting (with_call_counted c m'.0) → ExtendsView c m.0 w × (w.seen ≡ known_of m'.0.stage ++ c ∷ [])
extends c m m' y w rests took right is =
    let v = m.0 in
    let log = known_of m'.0.stage in
    let ripe = took.2 in
    let view : m'.0 ≡ with_stage (serving took.0 log) v = ap (λ (z : Mine). z.0) took.1 in
    let now : w ≡ record v { stage = resting; seen = log ++ c ∷ []; mine = v.mine ++ c ∷ [] } = is ∙ ap (λ (z : View). with_stage resting (with_call_counted c z)) view in
    let seen : w.seen ≡ log ++ c ∷ [] = ap (λ (z : View). z.seen) now in
    let mine : w.mine ≡ v.mine ++ c ∷ [] = ap (λ (z : View). z.mine) now in
    let others = ripe.2.0 in
    let begins : log ≡ v.seen ++ others = ripe.2.1 in
    let calls : calls_by c.number (log ++ c ∷ []) ≡ v.mine ++ c ∷ [] = calls_by_mine c.number log c refl ∙ ap (λ l. l ++ c ∷ []) ripe.3 in
    let answered : c.outcome ≡ answer_to (replay v.opening.tables log) c = right ∙ ap (λ x. answer_to x c) ripe.0.2 in
    let back : record v { stage = resting; seen = log ++ c ∷ []; mine = v.mine ++ c ∷ [] } ≡ record v { seen = w.seen; mine = v.mine ++ c ∷ [] } = λ i. record v { stage = sym rests.1 i; seen = sym seen i; mine = v.mine ++ c ∷ [] } in (
      (
        now ∙ back,
        (others, none_between c.number v.seen others (ap (calls_by c.number) (sym begins) ∙ (ripe.3 ∙ sym ripe.4)), seen ∙ ap (λ l. l ++ c ∷ []) begins),
        subst (IsLegal v.opening.tables) (sym seen) (legal-append v.opening.tables log (c ∷ []) ripe.1 (answered, tt)),
        ap (calls_by c.number) seen ∙ (calls ∙ sym mine),
      ),
      seen,
    )

-- a pass that is as it was added no call
pub adds_no_call : {T : Type 0} (result : Result T ServiceError) (old new : Pass) → new.number ≡ old.number → new.mine ≡ old.mine → AddsNoCall result old new
adds_no_call (Ok x) old new number mine = tt
adds_no_call (Err NoMemory) old new number mine = λ s h j v at is own. ap (λ (n : ℕ). calls_by n h.history) (sym number) ∙ ((h.own j v new.number at is).0 ∙ (own ∙ mine))
adds_no_call (Err (Exception c)) old new number mine = tt

-- the record once the call joined it
pub records_more : (b : Bool) (h h' : Option (List Call)) (log : List Call) (c : Call) → Records b h log → h' ≡ option_map (λ kept. kept ++ c ∷ []) h → Records b h' (log ++ c ∷ [])
records_more b h h' log c fits is = subst (λ x. Records b x (log ++ c ∷ [])) (sym is) (grown b h fits)
  where
    grown : (b : Bool) (h : Option (List Call)) → Records b h log → Records b (option_map (λ kept. kept ++ c ∷ []) h) (log ++ c ∷ [])
    grown true None f = f
    grown true (Some l) f = ap (λ x. x ++ c ∷ []) f
    grown false None f = f
    grown false (Some l) f = f

-- the value goes with the history that the view knows, once the call joined it
pub holds_more : (v w : View) (y y' : Stored) (c : Call) → Holds v.opening (known_of v.stage) y → w ≡ with_call_counted c v → ServesCall y c y'
    → Holds w.opening (known_of w.stage) y'
holds_more v w y y' c holds is done =
    let log = known_of v.stage in
    let more : Holds v.opening (log ++ c ∷ []) y' = (
      omega (arith, done.count, holds.0, length-append log (c ∷ [])),
      records_more v.opening.recorded y.history y'.history log c holds.1 done.history,
      done.store ∙ replay_one v.opening.tables y.store log c holds.2,
    ) in
    subst (λ (x : View). Holds x.opening (known_of x.stage) y') (sym is) more
