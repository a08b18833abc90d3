-- A request that is only sent is a call that may make no read.
use Rattle.std.proofs.Common.{◌≡◌, ◌⊎◌, inl, inr, ℕ, ◌-◌, ◌<◌, ◌≤◌, Bool, true, false, not, IsTrue, List, [], ◌∷◌, length, Result, Ok, Err, refl, sym, ap, subst, ◌∙◌, arith, length-append}
use Rattle.std.proofs.lemmas.List.{length-map}
use Rattle.std.specs.Prelude.{IfErr}
use Rattle.modbus_link.specs.declared.outside.Cut.{Cut}
use Rattle.modbus_link.specs.Outside.{cut_at, outside, Input, Output, RisesTo}
use Rattle.modbus_link.specs.Passes.{Passes}
use Rattle.modbus_frame.specs.Meaning.{Asked}
use Rattle.modbus_frame.specs.declared.code.ExceptionCode.{ExceptionCode}
use Rattle.modbus_frame.specs.declared.response.Response.{Response}
use Rattle.modbus_frame.specs.declared.fault.HeaderSeen.{HeaderSeen}
use Rattle.modbus_frame.specs.declared.fault.Error.{Error}
use Rattle.modbus_frame.specs.declared.fault.Error.TheVariants.{Protocol, Transport, NoMemory}
use Rattle.modbus_frame.specs.declared.fault.TransportError.TheVariants.{NotConnected, ReadFault, WriteFault, BrokenPipe, BytesRemaining, TooManyRetries, RequestTooLong, InvalidResponse, InvalidLength, InvalidProtocol, TurnLimit}
use Rattle.modbus_pdu.specs.Limits.{max_pdu}
use Rattle.modbus_pdu.specs.RequestPdu.{request_pdu}
use Rattle.modbus_client.specs.Protocol as client
use Rattle.modbus_client.specs.Matches.{Answer}
use Rattle.modbus_client.specs.Call.{CallState}
use Rattle.modbus_client.specs.Calls.{WaitedBefore, Exchanged}
use Rattle.modbus_client.specs.Limits.{read_room}
use Rattle.modbus_reconnect.specs.Owes.{leaves_nothing}
use Rattle.modbus_reconnect.specs.Replies.{fitted}
use Rattle.modbus_reconnect.specs.SettleState.{SettlingState, LineMeaning}
use Rattle.modbus_reconnect.specs.Waits.{question_of, IsNoise, StillWaits, GivesUpBy, GivesUp, AnswersSilent, EndsFrom, EndsWait}
use Rattle.modbus_reconnect.specs.Waits.IsNoise.{nothing, burst}
use Rattle.modbus_reconnect.specs.OnLine.{reply_silences, ClearsIf, AsksOn, IsStanding}
use Rattle.modbus_reconnect.specs.Tells.{told_of_answer, WritesQuestion, IsOfTelling, TellsLine, is_doubtful_after, is_sent, TellsOn, unconnected, unsettled, sends, SendsStanding}
use Rattle.modbus_reconnect.proofs.Settled.{leaves, leaves_doubt}
use Rattle.modbus_reconnect.proofs.Cleared.{clear_owes, asked_stands, unsettled_stands}

-- no read was made, so no byte was read
none_made : (made : List Cut) (fed : List ℕ) → length made ≤ 0 → RisesTo 0 made (length fed) → (made ≡ []) × (fed ≡ [])
none_made [] [] none rises = (refl, refl)
none_made [] (byte ∷ bytes) none rises = absurd (omega (arith, rises))
none_made (cut ∷ cuts) fed none rises = absurd (omega (arith, none))

-- no answer of the bytes comes with no read
none_came : {H : Type 0} (P : client.Protocol H) (asked : HeaderSeen) (fed : List ℕ) (made : List Cut) → WaitedBefore P asked fed made → length made ≤ 0 → ⊥
none_came P asked fed made w none =
    let n = length-append w.earlier (cut_at (length fed) read_room ∷ []) in
    let m = ap (λ (cuts : List Cut). length cuts) w.last in
    omega (arith, n, m, none)

-- what is told is the error of the call, but for the end of its turns
same_error : (answer : Answer) (error : Error) → told_of_answer answer ≡ Err error → answer ≡ Err error
same_error (Ok result) error e = absurd (cc)
same_error (Err (Protocol fault)) error e = cc
same_error (Err NoMemory) error e = cc
same_error (Err (Transport NotConnected)) error e = cc
same_error (Err (Transport ReadFault)) error e = cc
same_error (Err (Transport WriteFault)) error e = cc
same_error (Err (Transport BrokenPipe)) error e = cc
same_error (Err (Transport BytesRemaining)) error e = cc
same_error (Err (Transport TooManyRetries)) error e = cc
same_error (Err (Transport (RequestTooLong size))) error e = cc
same_error (Err (Transport (InvalidResponse reason))) error e = cc
same_error (Err (Transport InvalidLength)) error e = cc
same_error (Err (Transport (InvalidProtocol protocol))) error e = cc
same_error (Err (Transport TurnLimit)) error e = absurd (cc)

module _ {H : Type 0} (P : client.Protocol H) (a b : Input) (k l : Output) (header : H) (asked : Asked) (held : List ℕ) where
  -- the errors of a call that made no read, and what it wrote
  only_told : (answer : Answer) → Exchanged P (outside a k) (outside b l) header asked 0 held answer → IfErr (told_of_answer answer) IsOfTelling
  only_told (Ok result) e = tt
  only_told (Err (Protocol fault)) e = none_came P (P.seen header) e.fed e.made e.last e.spends
  only_told (Err NoMemory) e = tt
  only_told (Err (Transport NotConnected)) e = e.ends
  only_told (Err (Transport ReadFault)) e = tt
  only_told (Err (Transport WriteFault)) e = tt
  only_told (Err (Transport BrokenPipe)) e = let less = e.spends in omega (arith, less)
  only_told (Err (Transport BytesRemaining)) e = let less = e.spends in omega (arith, less)
  only_told (Err (Transport TooManyRetries)) e = none_came P (P.seen header) e.fed e.made (e.last refl) e.spends
  only_told (Err (Transport (RequestTooLong size))) e = tt
  only_told (Err (Transport (InvalidResponse reason))) e = none_came P (P.seen header) e.fed e.made (e.last refl) e.spends
  only_told (Err (Transport InvalidLength)) e = none_came P (P.seen header) e.fed e.made (e.last refl) e.spends
  only_told (Err (Transport (InvalidProtocol protocol))) e = none_came P (P.seen header) e.fed e.made (e.last refl) e.spends
  only_told (Err (Transport TurnLimit)) e = tt

  writes_told : (answer : Answer) (e : Exchanged P (outside a k) (outside b l) header asked 0 held answer) → WritesQuestion (P.adu header (request_pdu asked)) e.sent (told_of_answer answer)
  writes_told (Ok result) e = e.writes
  writes_told (Err (Protocol fault)) e = absurd (none_came P (P.seen header) e.fed e.made e.last e.spends)
  writes_told (Err NoMemory) e = e.writes
  writes_told (Err (Transport NotConnected)) e = absurd e.ends
  writes_told (Err (Transport ReadFault)) e = let less = e.spends in absurd (omega (arith, less))
  writes_told (Err (Transport WriteFault)) e = e.writes
  writes_told (Err (Transport BrokenPipe)) e = let less = e.spends in absurd (omega (arith, less))
  writes_told (Err (Transport BytesRemaining)) e = let less = e.spends in absurd (omega (arith, less))
  writes_told (Err (Transport TooManyRetries)) e = absurd (none_came P (P.seen header) e.fed e.made (e.last refl) e.spends)
  writes_told (Err (Transport (RequestTooLong size))) e = e.writes
  writes_told (Err (Transport (InvalidResponse reason))) e = absurd (none_came P (P.seen header) e.fed e.made (e.last refl) e.spends)
  writes_told (Err (Transport InvalidLength)) e = absurd (none_came P (P.seen header) e.fed e.made (e.last refl) e.spends)
  writes_told (Err (Transport (InvalidProtocol protocol))) e = absurd (none_came P (P.seen header) e.fed e.made (e.last refl) e.spends)
  writes_told (Err (Transport TurnLimit)) e = e.writes

  no_read_fault : (answer : Answer) → Exchanged P (outside a k) (outside b l) header asked 0 held answer → answer ≡ Err (Transport ReadFault) → ⊥
  no_read_fault answer e is =
      let f = subst (λ (found : Answer). Exchanged P (outside a k) (outside b l) header asked 0 held found) is e in
      let less = f.spends in
      omega (arith, less)

  -- one that is too long was not sent, and nothing is held
  none_held : (answer : Answer) → Exchanged P (outside a k) (outside b l) header asked 0 held answer → (size : ℕ) → answer ≡ Err (Transport (RequestTooLong size)) → held ≡ []
  none_held answer e size is = (subst (λ (found : Answer). Exchanged P (outside a k) (outside b l) header asked 0 held found) is e).ends.1

  -- no read is made in any case
  no_reads : (answer : Answer) (e : Exchanged P (outside a k) (outside b l) header asked 0 held answer) → length e.made ≤ 0
  no_reads (Ok result) e = e.spends
  no_reads (Err (Protocol fault)) e = e.spends
  no_reads (Err NoMemory) e = e.spends
  no_reads (Err (Transport NotConnected)) e = e.spends
  no_reads (Err (Transport ReadFault)) e = let less = e.spends in absurd (omega (arith, less))
  no_reads (Err (Transport WriteFault)) e = e.spends
  no_reads (Err (Transport BrokenPipe)) e = let less = e.spends in absurd (omega (arith, less))
  no_reads (Err (Transport BytesRemaining)) e = let less = e.spends in absurd (omega (arith, less))
  no_reads (Err (Transport TooManyRetries)) e = e.spends
  no_reads (Err (Transport (RequestTooLong size))) e = e.spends
  no_reads (Err (Transport (InvalidResponse reason))) e = e.spends
  no_reads (Err (Transport InvalidLength)) e = e.spends
  no_reads (Err (Transport (InvalidProtocol protocol))) e = e.spends
  no_reads (Err (Transport TurnLimit)) e = let all = e.spends in omega (arith, all)

  passes_told : (answer : Answer) (e : Exchanged P (outside a k) (outside b l) header asked 0 held answer) → Passes (outside a k) (outside b l) [] [] e.sent
  passes_told answer e =
      let none = none_made e.made e.fed (no_reads answer e) e.passes.rises in
      subst (λ (cuts : List Cut). Passes (outside a k) (outside b l) [] cuts e.sent) none.0 (subst (λ (bytes : List ℕ). Passes (outside a k) (outside b l) bytes e.made e.sent) none.1 e.passes)

-- a call that was answered
tells_exchanged : {H I L : Type 0} (m : LineMeaning H I L) (silences : ℕ) (header : H) (asked : Asked) (before after : L) (held : List ℕ) (answer : Answer)
    → Exchanged m.protocol (outside (m.link.input before) (m.link.output before)) (outside (m.link.input after) (m.link.output after)) header asked 0 held answer
    → TellsLine m silences header asked before after (told_of_answer answer)
tells_exchanged m silences header asked before after held answer e = record {
  sent = e.sent;
  passes = passes_told m.protocol (m.link.input before) (m.link.input after) (m.link.output before) (m.link.output after) header asked held answer e;
  only = only_told m.protocol (m.link.input before) (m.link.input after) (m.link.output before) (m.link.output after) header asked held answer e;
  writes = writes_told m.protocol (m.link.input before) (m.link.input after) (m.link.output before) (m.link.output after) header asked held answer e;
  too_long = λ size. (
    λ is. (e.too_long size).0 (same_error answer (Transport (RequestTooLong size)) is),
    λ long. ap told_of_answer ((e.too_long size).1 long),
  );
  write_fault = λ is. e.write_fault (same_error answer (Transport WriteFault) is);
  no_more = λ is. absurd (no_read_fault m.protocol (m.link.input before) (m.link.input after) (m.link.output before) (m.link.output after) header asked held answer e (same_error answer (Transport ReadFault) is));
}

-- with no read there was no noise
no_noise : {H : Type 0} (S : client.Protocol H) (seen : HeaderSeen) (from : Input) (used : ℕ) (to : Input) → IsNoise S seen from used to → used ≤ 0 → to ≡ from
no_noise S seen from _ _ nothing none = refl
no_noise S seen from _ _ (burst used before after sink fed made earlier passes some no_reply) none = absurd (omega (arith, some, none))

module _ {H I L : Type 0} (m : LineMeaning H I L) (silences : ℕ) (header : H) (asked : Asked) (before after : L) (held : List ℕ) where
  no_reads_left : (used : ℕ) → 0 - used ≡ 0
  no_reads_left used = omega arith

  -- the link of a call that still waits, which made no read
  waits_unread : (start : Input) (used : ℕ) (call : CallState)
      (w : StillWaits m.protocol (outside start (m.link.output before)) (outside (m.link.input after) (m.link.output after)) header asked (0 - used) call) → (w.made ≡ []) × (w.fed ≡ [])
  waits_unread start used call w =
      let counted = w.goes.stands.counted in
      let within = w.goes.within in
      let limit = w.asks.limit in
      let size = length-map w.made (λ (cut : Cut). cut.total) in
      none_made w.made w.fed (omega (arith, counted, within, limit, size)) w.goes.rises

  -- one that was given up
  tells_given_up : (start : Input) (used : ℕ) → start ≡ m.link.input before → used ≤ 0 → (answer : Answer) → GivesUp m (question_of header asked 0 silences) start used before after held answer → TellsLine m silences header asked before after (told_of_answer answer)
  tells_given_up start used same none (Err (Transport ReadFault)) g =
      let w = g.waits in
      let unread = waits_unread start used g.call w in
      let long : max_pdu < length (request_pdu asked) → ⊥ = λ more. (let fits = w.fits in omega (arith, more, fits)) in
      let passes : Passes (outside start (m.link.output before)) (outside (m.link.input after) (m.link.output after)) [] [] w.sent =
      subst (λ (cuts : List Cut). Passes (outside start (m.link.output before)) (outside (m.link.input after) (m.link.output after)) [] cuts w.sent) unread.0
      (subst (λ (bytes : List ℕ). Passes (outside start (m.link.output before)) (outside (m.link.input after) (m.link.output after)) bytes w.made w.sent) unread.1 w.passes) in
      record {
        sent = w.sent;
        passes = subst (λ (input : Input). Passes (outside input (m.link.output before)) (outside (m.link.input after) (m.link.output after)) [] [] w.sent) same passes;
        only = tt;
        writes = (g.call.unwritten, sym w.asks.request ∙ w.goes.stands.wrote);
        too_long = λ size. (λ is. absurd (cc), λ more. absurd (long more.0));
        write_fault = λ is. absurd (cc);
        no_more = λ is. g.because.1;
      }
  tells_given_up start used same none (Err (Transport BytesRemaining)) g = let some = g.because.0 in absurd (omega (arith, some, none))
  tells_given_up start used same none (Ok result) g = absurd g.because
  tells_given_up start used same none (Err (Protocol fault)) g = absurd g.because
  tells_given_up start used same none (Err NoMemory) g = absurd g.because
  tells_given_up start used same none (Err (Transport NotConnected)) g = absurd g.because
  tells_given_up start used same none (Err (Transport WriteFault)) g = absurd g.because
  tells_given_up start used same none (Err (Transport BrokenPipe)) g = absurd g.because
  tells_given_up start used same none (Err (Transport TooManyRetries)) g = absurd g.because
  tells_given_up start used same none (Err (Transport (RequestTooLong size))) g = absurd g.because
  tells_given_up start used same none (Err (Transport (InvalidResponse reason))) g = absurd g.because
  tells_given_up start used same none (Err (Transport InvalidLength)) g = absurd g.because
  tells_given_up start used same none (Err (Transport (InvalidProtocol protocol))) g = absurd g.because
  tells_given_up start used same none (Err (Transport TurnLimit)) g = absurd g.because

  -- no silence ends a reply, as no read was made
  no_silence : {X : Type 0} (start : Input) (used : ℕ) (answer : Answer) → AnswersSilent m (question_of header asked 0 silences) start used before after held answer → X
  no_silence start used answer a = absurd (a.some (a.waits.goes.empty (waits_unread start used a.call a.waits).1))

  abbrev IsUnread : Answer → Type 0
  IsUnread answer = Exchanged m.protocol (outside (m.link.input before) (m.link.output before)) (outside (m.link.input after) (m.link.output after)) header asked 0 held answer

  -- an answer that came over the link as it was
  unread : (start : Input) (used : ℕ) → start ≡ m.link.input before → (answer : Answer)
      → Exchanged m.protocol (outside start (m.link.output before)) (outside (m.link.input after) (m.link.output after)) header asked (0 - used) held answer → IsUnread answer
  unread start used same answer e =
      subst (λ (input : Input). Exchanged m.protocol (outside input (m.link.output before)) (outside (m.link.input after) (m.link.output after)) header asked 0 held answer) same
      (subst (λ (turns : ℕ). Exchanged m.protocol (outside start (m.link.output before)) (outside (m.link.input after) (m.link.output after)) header asked turns held answer) (no_reads_left used) e)

  -- it was answered so, or given up
  ways : (answer : Answer) → EndsWait m (question_of header asked 0 silences) before after held answer
      → IsUnread answer ⊎ ((start : Input) × (used : ℕ) × (start ≡ m.link.input before) × (used ≤ 0) × GivesUp m (question_of header asked 0 silences) start used before after held answer)
  ways answer e = by e.ends
    where
      none : e.used ≤ 0
      none = e.within

      same : e.start ≡ m.link.input before
      same = no_noise m.silent (m.protocol.seen header) (m.link.input before) e.used e.start e.noise none

      by : EndsFrom m (question_of header asked 0 silences) e.start e.used before after held answer
          → IsUnread answer ⊎ ((start : Input) × (used : ℕ) × (start ≡ m.link.input before) × (used ≤ 0) × GivesUp m (question_of header asked 0 silences) start used before after held answer)
      by (inl x) = inl (unread e.start e.used same answer x)
      by (inr (inl g)) = inr (e.start, e.used, same, none, g)
      by (inr (inr a)) = no_silence e.start e.used answer a

  tells : (answer : Answer) → EndsWait m (question_of header asked 0 silences) before after held answer → TellsLine m silences header asked before after (told_of_answer answer)
  tells answer e = elim (ways answer e) [
    | inl x ↦ tells_exchanged m silences header asked before after held answer x
    | inr (start, used, same, none, g) ↦ tells_given_up start used same none answer g
  ]

  given_up_as : (start : Input) (used : ℕ) (answer other : Answer) → answer ≡ other → GivesUp m (question_of header asked 0 silences) start used before after held answer → GivesUpBy silences (m.silences before) (m.silences after) used other
  given_up_as start used answer other is g = subst (GivesUpBy silences (m.silences before) (m.silences after) used) is g.because

  -- nothing is held of a request that is too long, and no call was unconnected
  long_holds : (answer : Answer) → EndsWait m (question_of header asked 0 silences) before after held answer → (size : ℕ) → answer ≡ Err (Transport (RequestTooLong size)) → held ≡ []
  long_holds answer e size is = elim (ways answer e) [
    | inl x ↦ none_held m.protocol (m.link.input before) (m.link.input after) (m.link.output before) (m.link.output after) header asked held answer x size is
    | inr (start, used, same, none, g) ↦ absurd (given_up_as start used answer _ is g)
  ]

  -- no reply comes with no read, and the client was connected
  no_reply : (answer : Answer) → EndsWait m (question_of header asked 0 silences) before after held answer → (result : Result Response ExceptionCode) → answer ≡ Ok result → ⊥
  no_reply answer e result is = elim (ways answer e) [
    | inl x ↦ (let f = subst IsUnread is x in none_came m.protocol (m.protocol.seen header) f.fed f.made f.last f.spends)
    | inr (start, used, same, none, g) ↦ given_up_as start used answer _ is g
  ]

  connected : (answer : Answer) → EndsWait m (question_of header asked 0 silences) before after held answer → answer ≡ Err (Transport NotConnected) → ⊥
  connected answer e is = elim (ways answer e) [
    | inl x ↦ (subst IsUnread is x).ends
    | inr (start, used, same, none, g) ↦ given_up_as start used answer _ is g
  ]

  -- whether the line is in doubt after it
  doubts : (answer : Answer) → EndsWait m (question_of header asked 0 silences) before after held answer → not (leaves_nothing asked answer held) ≡ is_doubtful_after (told_of_answer answer)
  doubts (Ok result) e = absurd (no_reply (Ok result) e result refl)
  doubts (Err (Protocol fault)) e = ap not (leaves_doubt asked (Err (Protocol fault)) held refl)
  doubts (Err NoMemory) e = ap not (leaves_doubt asked (Err NoMemory) held refl)
  doubts (Err (Transport NotConnected)) e = absurd (connected (Err (Transport NotConnected)) e refl)
  doubts (Err (Transport ReadFault)) e = ap not (leaves_doubt asked (Err (Transport ReadFault)) held refl)
  doubts (Err (Transport WriteFault)) e = ap not (leaves_doubt asked (Err (Transport WriteFault)) held refl)
  doubts (Err (Transport BrokenPipe)) e = ap not (leaves_doubt asked (Err (Transport BrokenPipe)) held refl)
  doubts (Err (Transport BytesRemaining)) e = ap not (leaves_doubt asked (Err (Transport BytesRemaining)) held refl)
  doubts (Err (Transport TooManyRetries)) e = ap not (leaves_doubt asked (Err (Transport TooManyRetries)) held refl)
  doubts (Err (Transport (RequestTooLong size))) e =
      ap not (leaves asked (Err (Transport (RequestTooLong size))) held refl (ap (λ (bytes : List ℕ). length bytes) (long_holds (Err (Transport (RequestTooLong size))) e size refl)))
  doubts (Err (Transport (InvalidResponse reason))) e = ap not (leaves_doubt asked (Err (Transport (InvalidResponse reason))) held refl)
  doubts (Err (Transport InvalidLength)) e = ap not (leaves_doubt asked (Err (Transport InvalidLength)) held refl)
  doubts (Err (Transport (InvalidProtocol protocol))) e = ap not (leaves_doubt asked (Err (Transport (InvalidProtocol protocol))) held refl)
  doubts (Err (Transport TurnLimit)) e = ap not (leaves_doubt asked (Err (Transport TurnLimit)) held refl)

-- what is no response is told as it was found
fitted_same : (asked : Asked) (found : Answer) → ((result : Result Response ExceptionCode) → found ≡ Ok result → ⊥) → fitted asked found ≡ found
fitted_same asked (Ok result) none = absurd (none result refl)
fitted_same asked (Err error) none = refl

-- a request was sent on a line that was cleared
pub sends_told : {H I L : Type 0} (m : LineMeaning H I L) (old clear asking new : SettlingState I L) (asked : Asked) (answer : Answer) (told : Result (Unit {0}) Error) → IsTrue old.is_connected
    → ClearsIf true m old clear → AsksOn m clear asked 0 answer asking → told ≡ told_of_answer answer → new ≡ record asking { is_turning = is_sent told } → SendsStanding m old asked told new
sends_told {I = I} {L = L} m old clear asking new asked answer told is_connected cleared a is turns =
    let q = question_of (m.heading.header clear.ids clear.settings.slave) asked 0 (reply_silences clear) in
    let same : answer ≡ a.found = a.told ∙ fitted_same asked a.found (no_reply m q.silences q.header asked clear.link asking.link a.held a.found a.ends) in
    let found : told ≡ told_of_answer a.found = is ∙ ap told_of_answer same in
    let on : TellsOn m clear asked told (record asking { is_turning = is_sent told }) = record {
      tells = subst (λ (answered : Result (Unit {0}) Error). TellsLine m q.silences q.header asked clear.link asking.link answered) (sym found)
          (tells m q.silences q.header asked clear.link asking.link a.held a.found a.ends);
      line = a.line;
      rest = ap (λ (state : SettlingState I L). record state { is_turning = is_sent told })
          (subst (λ (doubt : Bool). asking ≡ record clear { link = asking.link; in_doubt = doubt; is_turning = false; ids = m.heading.next clear.ids })
          (doubts m q.silences q.header asked clear.link asking.link a.held a.found a.ends ∙ ap is_doubtful_after (sym found)) a.rest);
    } in
    record {
      does = sends is_connected clear cleared (clear_owes m old clear cleared) (subst (λ (state : SettlingState I L). TellsOn m clear asked told state) (sym turns) on);
      stands = λ stands. subst (λ (state : SettlingState I L). IsStanding m state) (sym turns) (asked_stands m clear asking asked 0 answer (clear_owes m old clear cleared stands) a);
    }

-- no request was sent
pub sends_unsettled : {H I L : Type 0} (m : LineMeaning H I L) (old new : SettlingState I L) (asked : Asked) (told : Result (Unit {0}) Error) → IsTrue old.is_connected → told ≡ Err (Transport NotConnected)
    → ClearsIf false m old new → SendsStanding m old asked told new
sends_unsettled m old new asked told is_connected is kept = record {
  does = unsettled is_connected is kept;
  stands = λ stands. unsettled_stands m old new kept;
}

pub sends_unconnected : {H I L : Type 0} (m : LineMeaning H I L) (old new : SettlingState I L) (asked : Asked) (told : Result (Unit {0}) Error) → old.is_connected ≡ false → told ≡ Err (Transport NotConnected)
    → new ≡ old → SendsStanding m old asked told new
sends_unconnected {I = I} {L = L} m old new asked told gone is same = record {
  does = unconnected gone is same;
  stands = λ stands. subst (λ (state : SettlingState I L). IsStanding m state) (sym same) stands;
}
