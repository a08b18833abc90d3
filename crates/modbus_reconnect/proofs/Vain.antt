-- Tries in vain, and how a call ends after them.
use Rattle.std.proofs.Common.{◌≡◌, ℕ, zero, suc, ◌+◌, ◌≤◌, Bool, true, false, true≢false, sym, ap, subst, ◌∙◌, arith}
use Rattle.modbus_frame.specs.Meaning.{Asked}
use Rattle.modbus_client.specs.Protocol.{Protocol}
use Rattle.modbus_client.specs.Matches.{Answer}
use Rattle.modbus_reconnect.specs.declared.resend.Resend.{Resend}
use Rattle.modbus_reconnect.specs.Resends.{may_follow}
use Rattle.modbus_reconnect.specs.State.{ReconnectingState, Meaning}
use Rattle.modbus_reconnect.specs.Tries.{TriedBy}
use Rattle.modbus_reconnect.specs.Calls.{TriesInVain, CallsBy}

-- tries in vain leave what is said of tries
vain_keeps_resend : {H I C L : Type 0} (m : Meaning H I C L) (P : Protocol H) (asked : Asked) (count : ℕ) (old new : ReconnectingState C I L)
    → TriesInVain m P asked count old new → new.resend ≡ old.resend
vain_keeps_resend {I = I} {C = C} {L = L} m P asked zero old new same = ap (λ (state : ReconnectingState C I L). state.resend) same
vain_keeps_resend {I = I} {C = C} {L = L} m P asked (suc count) old new (last, answer, vain, tried, follows) =
    ap (λ (state : ReconnectingState C I L). state.resend) tried.rest ∙ vain_keeps_resend m P asked count old last vain

vain_keeps_retries : {H I C L : Type 0} (m : Meaning H I C L) (P : Protocol H) (asked : Asked) (count : ℕ) (old new : ReconnectingState C I L)
    → TriesInVain m P asked count old new → new.retries ≡ old.retries
vain_keeps_retries {I = I} {C = C} {L = L} m P asked zero old new same = ap (λ (state : ReconnectingState C I L). state.retries) same
vain_keeps_retries {I = I} {C = C} {L = L} m P asked (suc count) old new (last, answer, vain, tried, follows) =
    ap (λ (state : ReconnectingState C I L). state.retries) tried.rest ∙ vain_keeps_retries m P asked count old last vain

-- after one more try it stands as at first
resend_after : {H I C L : Type 0} (m : Meaning H I C L) (P : Protocol H) (asked : Asked) (made : ℕ) (old last new : ReconnectingState C I L) (answer : Answer)
    → TriesInVain m P asked made old last → TriedBy m P last asked answer new → new.resend ≡ old.resend
resend_after {I = I} {C = C} {L = L} m P asked made old last new answer vain tried =
    ap (λ (state : ReconnectingState C I L). state.resend) tried.rest ∙ vain_keeps_resend m P asked made old last vain

pub retries_after : {H I C L : Type 0} (m : Meaning H I C L) (P : Protocol H) (asked : Asked) (made : ℕ) (old last new : ReconnectingState C I L) (answer : Answer)
    → TriesInVain m P asked made old last → TriedBy m P last asked answer new → new.retries ≡ old.retries
retries_after {I = I} {C = C} {L = L} m P asked made old last new answer vain tried =
    ap (λ (state : ReconnectingState C I L). state.retries) tried.rest ∙ vain_keeps_retries m P asked made old last vain

-- the same request, told otherwise
pub tried_of : {H I C L : Type 0} (m : Meaning H I C L) (P : Protocol H) (last new : ReconnectingState C I L) (told asked : Asked) (answer : Answer)
    → told ≡ asked → TriedBy m P last told answer new → TriedBy m P last asked answer new
tried_of m P last new told asked answer e tried = subst (λ (request : Asked). TriedBy m P last request answer new) e tried

-- what was found of following a try is what the policy at first says
follows_as : {H I C L : Type 0} (m : Meaning H I C L) (P : Protocol H) (told asked : Asked) (made : ℕ) (old last new : ReconnectingState C I L) (answer : Answer) (resend : Resend) (follows : Bool)
    → told ≡ asked → TriesInVain m P asked made old last → TriedBy m P last asked answer new → resend ≡ new.resend → follows ≡ may_follow resend told answer
    → follows ≡ may_follow old.resend asked answer
follows_as m P told asked made old last new answer resend follows e vain tried same f =
    f ∙ ap (λ (request : Asked). may_follow resend request answer) e
    ∙ ap (λ (policy : Resend). may_follow policy asked answer) (same ∙ resend_after m P asked made old last new answer vain tried)

-- one more try was in vain
pub one_more : {H I C L : Type 0} (m : Meaning H I C L) (P : Protocol H) (told asked : Asked) (made : ℕ) (old last new : ReconnectingState C I L) (answer : Answer) (resend : Resend) (follows : Bool)
    → told ≡ asked → TriesInVain m P asked made old last → TriedBy m P last asked answer new → resend ≡ new.resend → follows ≡ may_follow resend told answer → follows ≡ true
    → TriesInVain m P asked (suc made) old new
one_more m P told asked made old last new answer resend follows e vain tried same f may =
    (last, answer, vain, tried, sym (follows_as m P told asked made old last new answer resend follows e vain tried same f) ∙ may)

-- a try was the last, since none may follow it
pub ends_by_answer : {H I C L : Type 0} (m : Meaning H I C L) (P : Protocol H) (told asked : Asked) (made : ℕ) (old last after new : ReconnectingState C I L) (answer : Answer) (resend : Resend) (follows : Bool)
    → told ≡ asked → TriesInVain m P asked made old last → TriedBy m P last asked answer after → resend ≡ after.resend → follows ≡ may_follow resend told answer → follows ≡ false
    → made ≤ old.retries → new ≡ record after { tries = made + 1 } → CallsBy m P old asked answer new
ends_by_answer m P told asked made old last after new answer resend follows e vain tried same f may_not within counts = record {
  earlier = made;
  before = last;
  after = after;
  in_vain = vain;
  tried = tried;
  within = within;
  last = λ may. absurd (true≢false (sym may ∙ sym (follows_as m P told asked made old last after answer resend follows e vain tried same f) ∙ may_not));
  counts = counts;
}

-- it was the last that may be made
pub ends_by_count : {H I C L : Type 0} (m : Meaning H I C L) (P : Protocol H) (asked : Asked) (made : ℕ) (old last after new : ReconnectingState C I L) (answer : Answer)
    → TriesInVain m P asked made old last → TriedBy m P last asked answer after → made ≡ old.retries → new ≡ record after { tries = made + 1 } → CallsBy m P old asked answer new
ends_by_count m P asked made old last after new answer vain tried all counts = record {
  earlier = made;
  before = last;
  after = after;
  in_vain = vain;
  tried = tried;
  within = omega (arith, all);
  last = λ may. all;
  counts = counts;
}

-- the count that is kept is that of the tries
pub counted : {C I L : Type 0} (seen after : ReconnectingState C I L) (count made : ℕ) → seen ≡ after → count ≡ made
    → record seen { tries = count + 1 } ≡ record after { tries = made + 1 }
counted {C = C} {I = I} {L = L} seen after count made e f =
    ap (λ (state : ReconnectingState C I L). record state { tries = count + 1 }) e
    ∙ ap (λ n. record after { tries = n + 1 }) f
