-- A line on which nothing is owed.
use Rattle.std.proofs.Common.{◌≡◌, ℕ, zero, suc, ◌-◌, ◌<◌, Bool, true, false, true≢false, not, IsTrue, Result, Ok, Err, refl, sym, ap, subst, ◌∙◌, arith}
use Rattle.std.specs.Duration.{as_nanos}
use Rattle.modbus_frame.specs.Meaning.{Asked}
use Rattle.modbus_frame.specs.declared.fault.Error.TheVariants.{Transport}
use Rattle.modbus_frame.specs.declared.fault.TransportError.TheVariants.{NotConnected}
use Rattle.modbus_client.specs.Matches.{Answer}
use Rattle.modbus_reconnect.specs.declared.settling.Unsettled.{Unsettled}
use Rattle.modbus_reconnect.specs.Owes.{leaves_nothing}
use Rattle.modbus_reconnect.specs.Settles.{Settles}
use Rattle.modbus_reconnect.specs.SettleState.{SettlingState, LineMeaning}
use Rattle.modbus_reconnect.specs.Silences.{silences_in}
use Rattle.modbus_reconnect.specs.Looks.{SettlesLine, LooksAt, ClearsAfter, ClearsLine, more_dropped}
use Rattle.modbus_reconnect.specs.OnLine.{OwesNothing, settled, looked, called, called_raw, read_raw, quiet_time, quiet_silences, ClearsIf, next_question, AsksOn, IsStanding, unconnected, unsettled, asks, CallsReading, CallsStanding, CallsRaw}

-- it was settled by as many silences as are wanted
pub settles_line : {H I L : Type 0} (m : LineMeaning H I L) (told silences limit : ℕ) (before after : L) (result : Result ℕ Unsettled) → told ≡ silences
    → Settles told limit (m.link.input before) (m.link.input after) (m.silences before) (m.silences after) result
    → m.link.output after ≡ m.link.output before → m.link.line after ≡ m.link.line before → SettlesLine m silences limit before after result
settles_line m told silences limit before after result is settles sink line = record {
  settles = subst (λ (count : ℕ). Settles count limit (m.link.input before) (m.link.input after) (m.silences before) (m.silences after) result) is settles;
  sink = sink;
  line = line;
}

-- a time takes one silence at least
some_silences : (time silence : ℕ) → 0 < silences_in time silence
some_silences time silence = omega arith

-- bytes that were dropped in two steps were dropped in the second one
told_more : (found dropped : ℕ) (told : Result ℕ Unsettled) → Ok dropped ≡ more_dropped found told → (more : ℕ) × (told ≡ Ok more)
told_more found dropped (Ok more) is = (more, refl)
told_more found dropped (Err reason) is = absurd (cc)

module _ {H I L : Type 0} (m : LineMeaning H I L) (silences limit : ℕ) (some : 0 < silences) where
  -- nothing is owed on a line after a look
  owes_after : (before seen after : L) (found : Result ℕ Unsettled) (dropped : ℕ) → OwesNothing m before → LooksAt m before seen found
      → ClearsAfter m silences limit seen after found (Ok dropped) → OwesNothing m after
  owes_after before seen after (Ok zero) dropped owes look clears = subst (λ (link : L). OwesNothing m link) (sym clears.0) (looked before seen owes look)
  owes_after before seen after (Ok (suc more)) dropped owes look (told, settles, is) =
      let (left, told_is) = told_more (suc more) dropped told is in
      settled seen after silences (limit - suc more) left some (subst (λ (r : Result ℕ Unsettled). SettlesLine m silences (limit - suc more) seen after r) told_is settles)
  owes_after before seen after (Err reason) dropped owes look clears = absurd (let e = clears.1 in cc)

  line_owes : (in_doubt : Bool) (before after : L) (dropped : ℕ) → (in_doubt ≡ false → OwesNothing m before) → ClearsLine m silences limit in_doubt before after (Ok dropped) → OwesNothing m after
  line_owes true before after dropped stands settles = settled before after silences limit dropped some settles
  line_owes false before after dropped stands (seen, found, look, clears) = owes_after before seen after found dropped (stands refl) look clears

-- nothing is owed on a line that was cleared
pub clear_owes : {H I L : Type 0} (m : LineMeaning H I L) (old clear : SettlingState I L) → ClearsIf true m old clear → IsStanding m old → OwesNothing m clear.link
clear_owes m old clear cleared stands =
    line_owes m (quiet_silences old) old.settings.limit (some_silences (as_nanos (quiet_time old)) (as_nanos old.settings.silence)) old.in_doubt old.link clear.link clear.dropped stands cleared.0

settled_by : (nothing : Bool) → not nothing ≡ false → nothing ≡ true
settled_by true clear = refl
settled_by false clear = sym clear

-- a call on it may leave nothing owed
pub asked_stands : {H I L : Type 0} (m : LineMeaning H I L) (clear new : SettlingState I L) (asked : Asked) (turns : ℕ) (answer : Answer) → OwesNothing m clear.link → AsksOn m clear asked turns answer new → IsStanding m new
asked_stands {I = I} {L = L} m clear new asked turns answer owes a = λ certain.
    called clear.link new.link (next_question m clear asked turns) a.held a.found owes a.ends
    (settled_by (leaves_nothing asked a.found a.held) (sym (ap (λ (state : SettlingState I L). state.in_doubt) a.rest) ∙ certain))

pub raw_stands : {H I L : Type 0} (m : LineMeaning H I L) (clear new : SettlingState I L) (asked : Asked) (turns : ℕ) (answer : Answer) → OwesNothing m clear.link → AsksOn (read_raw m) clear asked turns answer new → IsStanding m new
raw_stands {I = I} {L = L} m clear new asked turns answer owes a = λ certain.
    called_raw clear.link new.link (next_question m clear asked turns) a.held a.found owes a.ends
    (settled_by (leaves_nothing asked a.found a.held) (sym (ap (λ (state : SettlingState I L). state.in_doubt) a.rest) ∙ certain))

-- a line that was not cleared is in doubt
pub unsettled_stands : {H I L : Type 0} (m : LineMeaning H I L) (old new : SettlingState I L) → ClearsIf false m old new → IsStanding m new
unsettled_stands {I = I} {L = L} m old new kept = λ certain.
    absurd (true≢false (sym (ap (λ (state : SettlingState I L). state.in_doubt) kept.1) ∙ certain))

-- a call of each kind
pub calls_asked : {H I L : Type 0} (m : LineMeaning H I L) (old clear new : SettlingState I L) (asked : Asked) (answer : Answer) → IsTrue old.is_connected → ClearsIf true m old clear
    → AsksOn m clear asked clear.settings.turns answer new → CallsStanding m old asked answer new
calls_asked m old clear new asked answer connected cleared a = record {
  calls = asks connected clear cleared (clear_owes m old clear cleared) a;
  stands = λ stands. asked_stands m clear new asked clear.settings.turns answer (clear_owes m old clear cleared stands) a;
}

pub calls_raw : {H I L : Type 0} (m : LineMeaning H I L) (old clear new : SettlingState I L) (asked : Asked) (answer : Answer) → IsTrue old.is_connected → ClearsIf true m old clear
    → AsksOn (read_raw m) clear asked clear.settings.turns answer new → CallsRaw m old asked answer new
calls_raw m old clear new asked answer connected cleared a = record {
  calls = asks connected clear cleared (clear_owes m old clear cleared) a;
  stands = λ stands. raw_stands m clear new asked clear.settings.turns answer (clear_owes m old clear cleared stands) a;
}

pub calls_unsettled : {H I L : Type 0} (m n : LineMeaning H I L) (old new : SettlingState I L) (asked : Asked) (answer : Answer) → IsTrue old.is_connected → answer ≡ Err (Transport NotConnected)
    → ClearsIf false m old new → CallsReading m n old asked answer new
calls_unsettled m n old new asked answer connected is kept = record {
  calls = unsettled connected is kept;
  stands = λ stands. unsettled_stands m old new kept;
}

pub calls_unconnected : {H I L : Type 0} (m n : LineMeaning H I L) (old new : SettlingState I L) (asked : Asked) (answer : Answer) → old.is_connected ≡ false → answer ≡ Err (Transport NotConnected)
    → new ≡ old → CallsReading m n old asked answer new
calls_unconnected {I = I} {L = L} m n old new asked answer gone is same = record {
  calls = unconnected gone is same;
  stands = λ stands. subst (λ (state : SettlingState I L). IsStanding m state) (sym same) stands;
}
