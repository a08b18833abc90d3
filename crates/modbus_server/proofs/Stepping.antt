-- One step is what the connection takes, and what is moved between it and the outside.
use Rattle.std.proofs.Common.{◌≡◌, ◌≢◌, ◌⊎◌, ℕ, ◌<◌, List, [], ◌∷◌, ◌++◌, length, refl, sym, ap, ◌∙◌, subst, Ok, Err, Result, Bool, true, false, append-nil, length-append, inl, inr}
use Rattle.std.proofs.lemmas.List.{take_at}
use Rattle.modbus_link.specs.declared.outside.Cut.{Cut}
use Rattle.modbus_pdu.specs.Message.{Message}
use Rattle.modbus_link.specs.Outside.{outside, Input, Output, Rose, cuts_from, RisesTo}
use Rattle.modbus_link.specs.Passes.{Passes, Sends, rises_none, rises_one, passes_out, passes_in, passes_none}
use Rattle.modbus_link.specs.Reads.{HaveRooms, totals}
use Rattle.modbus_server.specs.declared.error.ProcessError.{ProcessError}
use Rattle.modbus_server.specs.declared.error.ProcessError.TheVariants.{ReadFault, WriteFault, TooManyRetries, BytesRemaining, InvalidRequest, ResponseTooLong, TurnLimit, InvalidLength, InvalidProtocol, NoMemory}
use Rattle.modbus_server.specs.declared.error.NextError.{NextError}
use Rattle.modbus_server.specs.declared.error.NextError.TheVariants as next
use Rattle.modbus_server.specs.declared.error.Next.{Next}
use Rattle.modbus_server.specs.declared.error.Next.TheVariants.{Reply, Waiting}
use Rattle.modbus_server.specs.declared.error.Next.TheVariants as take
use Rattle.modbus_server.specs.declared.error.Step.{Step}
use Rattle.modbus_server.specs.declared.error.Step.TheVariants.{Answered, Silent, MoreRead, Hungry, Ended}
use Rattle.modbus_server.specs.Framing.{Framing, IsOfFraming}
use Rattle.modbus_service.specs.Answering.{Answering}
use Rattle.modbus_server.specs.Exchanges.{Exchange, Run}
use Rattle.modbus_server.specs.Served.{Past, past, with_exchanges, Stands, HasTakenAll, StopsAfter, AreAllAnswered, NextIsRequest, remaining, broken, NextTakesMemory, WantsAfter, EndsAfter}
use Rattle.modbus_server.specs.State.{State}
use Rattle.modbus_server.specs.Next.{TakesAs, Took, told_next, IsToldWell}
use Rattle.modbus_server.specs.Transfer.{WritesOnce, ReadsOnce, EndsInput}
use Rattle.modbus_server.specs.Step.{AsksInStep, StepsAs, ReadsLast, EndsIfMay, LeavesAs, Stepped}
use Rattle.modbus_server.proofs.Standing.{sent_on, fed_on, halted, none_off}
use Rattle.modbus_server.specs.Moment.{moment}

-- of what holds for each fault that is left to a framing
pub of_framing : (P : ProcessError → Type 0) → P TooManyRetries → P InvalidLength → ((protocol : ℕ) → P (InvalidProtocol protocol)) → (error : ProcessError) → IsOfFraming error → P error
of_framing P a b d TooManyRetries own = a
of_framing P a b d InvalidLength own = b
of_framing P a b d (InvalidProtocol protocol) own = d protocol
of_framing P a b d ReadFault own = absurd own
of_framing P a b d WriteFault own = absurd own
of_framing P a b d BytesRemaining own = absurd own
of_framing P a b d (InvalidRequest reason) own = absurd own
of_framing P a b d (ResponseTooLong size) own = absurd own
of_framing P a b d TurnLimit own = absurd own
of_framing P a b d NoMemory own = absurd own

-- nothing is added
pub along : (P : List ℕ → List ℕ → List ℕ → Type 0) (x x' y y' z z' : List ℕ) → x ≡ x' → y ≡ y' → z ≡ z' → P x' y' z' → P x y z
along P x x' y y' z z' e f h p = subst (λ v. P v y z) (sym e) (subst (λ v. P x' v z) (sym f) (subst (λ v. P x' y' v) (sym h) p))

pub idle : (P : List ℕ → List ℕ → List ℕ → Type 0) (bytes cuts written : List ℕ) → P bytes cuts written → P (bytes ++ []) (cuts ++ []) (written ++ [])
idle P bytes cuts written p = along P (bytes ++ []) bytes (cuts ++ []) cuts (written ++ []) written (append-nil bytes) (append-nil cuts) (append-nil written) p

module _ (F : Framing) {S : Type 0} (A : Answering S) where
  -- a call that ends as no next reply is told
  pub ends_told : {E : Type 0} (told : E → ProcessError) (behind : Past F) (kept : List ℕ × List ℕ) (ends now : S) (error : NextError E)
      → IsToldWell told error → TakesAs F A told behind kept ends now (Err error) → EndsAfter F A behind ends now (Err (told_next told error))
  ends_told told behind kept ends now (next.Broken fault) own served =
      of_framing (λ e. StopsAfter F A behind ends now (broken e) → EndsAfter F A behind ends now (Err e)) (λ s. s) (λ s. s) (λ p s. s) (told fault) own served
  ends_told told behind kept ends now (next.Refused reason) own served = served
  ends_told told behind kept ends now (next.TooLong size) own served = served
  ends_told told behind kept ends now next.NoMemory own (wanting, request) = wanting

  last_told : {E : Type 0} (told : E → ProcessError) (behind : Past F) (fresh : List (Exchange F)) (kept : List ℕ × List ℕ) (ends now : S) (error : NextError E) → IsToldWell told error → fresh ≡ []
      → TakesAs F A told (with_exchanges behind fresh) kept ends now (Err error) → ReadsLast F behind.bytes behind.cuts behind.exchanges (Err (told_next told error))
  last_told told behind fresh kept ends now (next.Broken fault) own none served = of_framing (λ e. ReadsLast F behind.bytes behind.cuts behind.exchanges (Err e)) tt tt (λ p. tt) (told fault) own
  last_told told behind fresh kept ends now (next.Refused reason) own none served = tt
  last_told told behind fresh kept ends now (next.TooLong size) own none served = tt
  last_told told behind fresh kept ends now next.NoMemory own none (wanting, request) = inl (none_off F (NextIsRequest F behind.bytes behind.cuts) behind.exchanges fresh none request)

  pub other_than : {E : Type 0} (told : E → ProcessError) (P : ProcessError → Type 0) → P TooManyRetries → P InvalidLength → ((p : ℕ) → P (InvalidProtocol p)) → ((r : _) → P (InvalidRequest r)) → ((n : ℕ) → P (ResponseTooLong n)) → P NoMemory
      → (error : NextError E) → IsToldWell told error → P (told_next told error)
  other_than told P a b d e f h (next.Broken fault) own = of_framing P a b d (told fault) own
  other_than told P a b d e f h (next.Refused reason) own = e reason
  other_than told P a b d e f h (next.TooLong size) own = f size
  other_than told P a b d e f h next.NoMemory own = h

  -- refused memory that is told is refused memory
  abbrev of_step : ProcessError → Result Step ProcessError
  of_step error = Err error

  abbrev of_next : {E : Type 0} → NextError E → Result Next (NextError E)
  of_next error = Err error

  memory_told : {E : Type 0} (told : E → ProcessError) (error : NextError E) → IsToldWell told error → of_step (told_next told error) ≡ of_step NoMemory → of_next error ≡ of_next next.NoMemory
  memory_told told next.NoMemory own e = refl
  memory_told told (next.Broken fault) own e = absurd (of_framing (λ f. of_step f ≢ of_step NoMemory) (λ e. cc) (λ e. cc) (λ p e. cc) (told fault) own e)
  memory_told told (next.Refused reason) own e = cc
  memory_told told (next.TooLong size) own e = cc

  -- of all for which a connection that holds these bytes stands
  abbrev ForAll : List ℕ → (Past F → Type 0) → Type 0
  ForAll held P = (behind : Past F) → Stands F behind held [] → P behind

  -- what a step says of refused memory
  abbrev Memory : List ℕ → S → S → Result Step ProcessError → Type 0
  Memory held before after result = result ≡ Err NoMemory → (bytes cuts : List ℕ) (taken : List (Message F.Header)) → F.StandsFor bytes cuts held taken
      → NextTakesMemory F A bytes cuts taken before after ⊎ (F.ReadsTakeMemory × (after ≡ before))

  module _ (old new : State) (before after : S) (a : Input) (k : Output) (may_read : Bool) where
    -- it neither reads nor writes
    still : (result : Result Step ProcessError) (fresh : List (Exchange F)) (ends : S) → Run F A before fresh ends → AsksInStep F fresh ends after result
        → ForAll old.held (λ behind. StepsAs F A (with_exchanges behind fresh) new ends after result)
        → ForAll old.held (λ behind. ReadsLast F behind.bytes behind.cuts behind.exchanges result)
        → LeavesAs F [] may_read old new before after result → Memory old.held before after result → EndsInput result a.left → (result ≡ Err ReadFault → ⊥) → (result ≡ Err WriteFault → ⊥)
        → Stepped F A old new (moment before a k) (moment after a k) may_read result
    still result fresh ends run asked stands last leaves memory ended no_read_fault no_write_fault = record {
      fed = [];
      made = [];
      sent = [];
      passes = passes_none (outside a k);
      fresh = fresh;
      ends = ends;
      run = run;
      asked = asked;
      stands = λ behind s.
          idle (λ b c w. StepsAs F A (past b c w (behind.exchanges ++ fresh)) new ends after result) behind.bytes behind.cuts behind.written (stands behind s);
      last = last;
      rooms = λ behind s. tt;
      leaves = leaves;
      memory = memory;
      ended = λ t. ended;
      idle = λ e. refl;
      read_fault = λ e. absurd (no_read_fault e);
      write_fault = λ e. absurd (no_write_fault e);
    }

    pub stepped_error : {E : Type 0} (told : E → ProcessError) (error : NextError E) → IsToldWell told error → Took F A told old new before after (Err error)
        → Stepped F A old new (moment before a k) (moment after a k) may_read (Err (told_next told error))
    stepped_error told error own took =
        let t = took.takes in
        still (Err (told_next told error)) t.fresh t.ends t.run
        (other_than told (λ e. AsksInStep F t.fresh t.ends after (Err e)) t.asked t.asked (λ p. t.asked) (λ r. t.asked) (λ n. t.asked) t.asked error own)
        (λ behind s.
        ends_told told (with_exchanges behind t.fresh) (new.held, new.waiting) t.ends after error own (t.stands behind s))
        (λ behind s.
        last_told told behind t.fresh (new.held, new.waiting) t.ends after error own t.asked (t.stands behind s))
        (refl, took.goes_on, other_than told (EndsIfMay may_read) tt tt (λ p. tt) (λ r. tt) (λ n. tt) tt error own)
        (λ e bytes cuts taken s. inl (took.memory (memory_told told error own e) bytes cuts taken s))
        (other_than told (λ e. EndsInput (Err e) a.left) tt tt (λ p. tt) (λ r. tt) (λ n. tt) tt error own)
        (λ e.
        let same : told_next told error ≡ ReadFault = cc in
        other_than told (λ e. e ≢ ReadFault) (λ e. cc) (λ e. cc) (λ p e. cc) (λ r e. cc) (λ n e. cc) (λ e. cc) error own same)
        (λ e.
        let same : told_next told error ≡ WriteFault = cc in
        other_than told (λ e. e ≢ WriteFault) (λ e. cc) (λ e. cc) (λ p e. cc) (λ r e. cc) (λ n e. cc) (λ e. cc) error own same)

    pub stepped_silent : {E : Type 0} (told : E → ProcessError) → Took F A told old new before after (Ok take.Silent) → Stepped F A old new (moment before a k) (moment after a k) may_read (Ok Silent)
    stepped_silent told took =
        let t = took.takes in
        still (Ok Silent) t.fresh t.ends t.run t.asked
        (λ behind s. subst (λ w. Stands F (with_exchanges behind t.fresh) new.held w) (sym took.keeps.1) (t.stands behind s))
        (λ behind s. tt) (refl, took.keeps.0, took.keeps.1, took.goes_on) (λ e. cc) tt (λ e. cc) (λ e. cc)

    -- where all messages were taken, all were answered
    answered_all : {held waiting : List ℕ} (behind : Past F) (fresh : List (Exchange F)) → fresh ≡ [] → HasTakenAll F (with_exchanges behind fresh) held waiting → AreAllAnswered F behind.bytes behind.cuts behind.exchanges
    answered_all {held} behind fresh none (s, all) = none_off F (AreAllAnswered F behind.bytes behind.cuts) behind.exchanges fresh none (s.taken, held, all, s.asked)

    pub stepped_hungry : {E : Type 0} (told : E → ProcessError) → Took F A told old new before after (Ok Waiting) → may_read ≡ false → Stepped F A old new (moment before a k) (moment after a k) may_read (Ok Hungry)
    stepped_hungry told took may =
        let t = took.takes in
        still (Ok Hungry) t.fresh t.ends t.run t.asked
        (λ behind s. subst (λ w. HasTakenAll F (with_exchanges behind t.fresh) new.held w) (sym took.keeps.1) (t.stands behind s))
        (λ behind s. answered_all behind t.fresh t.asked.0 (t.stands behind s))
        (refl, took.keeps.0, took.keeps.1, took.goes_on, may, took.keeps.2) (λ e. cc) tt (λ e. cc) (λ e. cc)

    -- where nothing was fed
    unfed : (P : List ℕ → List ℕ → List ℕ → Type 0) (bytes cuts written fed : List ℕ) (made : List Cut) → fed ≡ [] → made ≡ [] → P bytes cuts written
        → P (bytes ++ fed) (cuts ++ totals (cuts_from (length bytes) made)) (written ++ [])
    unfed P bytes cuts written fed made e f p =
        along P (bytes ++ fed) bytes (cuts ++ totals (cuts_from (length bytes) made)) cuts (written ++ []) written
        (ap (λ x. bytes ++ x) e ∙ append-nil bytes) (ap (λ (m : List Cut). cuts ++ totals (cuts_from (length bytes) m)) f ∙ append-nil cuts) (append-nil written) p

    no_rooms : (bytes fed : List ℕ) (made : List Cut) → made ≡ [] → HaveRooms F.HasRoom (bytes ++ fed) (length bytes) (cuts_from (length bytes) made)
    no_rooms bytes fed made e = subst (λ m. HaveRooms F.HasRoom (bytes ++ fed) (length bytes) (cuts_from (length bytes) m)) (sym e) tt

    module _ {E : Type 0} (told : E → ProcessError) (mid : State) (b : Input) (m : Output) where
      -- the reply is written
      module _ (took : Took F A told old mid before after (Ok Reply)) (unread : b ≡ a) (sends : Sends k m mid.waiting new.waiting) where
        wrote_reply : ForAll old.held (λ behind. Stands F (past behind.bytes behind.cuts (behind.written ++ sends.sent) (behind.exchanges ++ took.takes.fresh)) mid.held new.waiting)
        wrote_reply behind s = sent_on F (with_exchanges behind took.takes.fresh) mid.held mid.waiting sends.sent new.waiting sends.splits (took.takes.stands behind s)

        -- some of the reply, or all of it
        writes_as : (result : Result Step ProcessError) → AsksInStep F took.takes.fresh took.takes.ends after result
            → ForAll old.held (λ behind. StepsAs F A (past behind.bytes behind.cuts (behind.written ++ sends.sent) (behind.exchanges ++ took.takes.fresh)) new took.takes.ends after result)
            → ForAll old.held (λ behind. ReadsLast F behind.bytes behind.cuts behind.exchanges result)
            → LeavesAs F [] may_read old new before after result → result ≢ Err NoMemory → EndsInput result b.left → (result ≡ Err ReadFault → ⊥) → (result ≡ Err WriteFault → Rose k.faults m.faults)
            → Stepped F A old new (moment before a k) (moment after b m) may_read result
        writes_as result asked stands last leaves there ended no_read_fault cause = record {
          fed = [];
          made = [];
          sent = sends.sent;
          passes = passes_out (outside a k) (outside b m) sends.sent unread sends.sink sends.wrote;
          fresh = took.takes.fresh;
          ends = took.takes.ends;
          run = took.takes.run;
          asked = asked;
          stands = λ behind s.
              along (λ x y z. StepsAs F A (past x y z (behind.exchanges ++ took.takes.fresh)) new took.takes.ends after result) (behind.bytes ++ []) behind.bytes (behind.cuts ++ []) behind.cuts (behind.written ++ sends.sent) (behind.written ++ sends.sent)
              (append-nil behind.bytes) (append-nil behind.cuts) refl (stands behind s);
          last = last;
          rooms = λ behind s. tt;
          leaves = leaves;
          memory = λ e. absurd (there e);
          ended = λ t. ended;
          idle = λ e. unread;
          read_fault = λ e. absurd (no_read_fault e);
          write_fault = cause;
        }

        pub stepped_sent : (result : Result Step ProcessError) → WritesOnce mid new result → (result ≡ Err WriteFault → Rose k.faults m.faults) → Stepped F A old new (moment before a k) (moment after b m) may_read result
        stepped_sent (Ok Answered) writes cause =
            writes_as (Ok Answered) took.takes.asked
            (λ behind s. subst (λ held. Stands F (past behind.bytes behind.cuts (behind.written ++ sends.sent) (behind.exchanges ++ took.takes.fresh)) held new.waiting) (sym writes.0) (wrote_reply behind s))
            (λ behind s. tt) (refl, subst (λ h. length h < length old.held) (sym writes.0) took.keeps, writes.1, writes.2 ∙ took.goes_on) (λ e. cc) tt (λ e. cc) cause
        stepped_sent (Err WriteFault) writes cause =
            writes_as (Err WriteFault) (took.takes.asked.0, took.takes.asked.1)
            (λ behind s. (mid.held, new.waiting, wrote_reply behind s, took.takes.asked.3))
            (λ behind s. tt) (refl, writes.1, tt) (λ e. cc) tt (λ e. cc) cause
        stepped_sent (Ok _) writes cause = absurd writes
        stepped_sent (Err _) writes cause = absurd writes

      -- a read is made
      module _ (took : Took F A told old mid before after (Ok Waiting)) (unsent : m ≡ k) (may : may_read ≡ true) where
        abbrev onward : Past F → Past F
        onward behind = with_exchanges behind took.takes.fresh

        all_answered : ForAll old.held (λ behind. AreAllAnswered F behind.bytes behind.cuts behind.exchanges)
        all_answered behind s = answered_all behind took.takes.fresh took.takes.asked.0 (took.takes.stands behind s)

        idle_not : may_read ≡ false → b ≡ a
        idle_not e = let clash : true ≡ false = sym may ∙ e in absurd cc

        served_all : ForAll old.held (λ behind. StopsAfter F A (onward behind) took.takes.ends after (remaining mid.held))
        served_all behind s =
            let h = took.takes.stands behind s in halted F A (onward behind) mid.held h.0 (remaining mid.held) took.takes.ends after (h.1, took.takes.asked.1)

        wanting_all : F.ReadsTakeMemory → ForAll old.held (λ behind. WantsAfter F A (onward behind) took.takes.ends after)
        wanting_all takes behind s =
            let h = took.takes.stands behind s in (mid.held, h.0, inr (inl (takes, h.1, took.takes.asked.1)))

        passes_read : (result : Result Step ProcessError) (reads : ReadsOnce F a b mid new result) → RisesTo 0 reads.made (length reads.fed) → Passes (outside a k) (outside b m) reads.fed reads.made []
        passes_read result reads rises = passes_in (outside a k) (outside b m) reads.fed reads.made unsent reads.source reads.read reads.cuts rises

        -- it gave nothing
        reads_none : (result : Result Step ProcessError) (reads : ReadsOnce F a b mid new result) → reads.fed ≡ [] → reads.made ≡ [] → AsksInStep F took.takes.fresh took.takes.ends after result
            → ForAll old.held (λ behind. StepsAs F A (onward behind) new took.takes.ends after result)
            → ForAll old.held (λ behind. ReadsLast F behind.bytes behind.cuts behind.exchanges result)
            → LeavesAs F reads.made may_read old new before after result → Memory old.held before after result → (result ≡ Err WriteFault → ⊥)
            → Stepped F A old new (moment before a k) (moment after b m) may_read result
        reads_none result reads none_fed none_made asked stands last leaves memory no_write_fault = record {
          fed = reads.fed;
          made = reads.made;
          sent = [];
          passes = passes_read result reads (rises_none reads.fed reads.made none_fed none_made);
          fresh = took.takes.fresh;
          ends = took.takes.ends;
          run = took.takes.run;
          asked = asked;
          stands = λ behind s.
              unfed (λ x y z. StepsAs F A (past x y z (behind.exchanges ++ took.takes.fresh)) new took.takes.ends after result) behind.bytes behind.cuts behind.written reads.fed reads.made none_fed none_made
              (stands behind s);
          last = last;
          rooms = λ behind s. no_rooms behind.bytes reads.fed reads.made none_made;
          leaves = leaves;
          memory = memory;
          ended = reads.ended;
          idle = idle_not;
          read_fault = reads.cause;
          write_fault = λ e. absurd (no_write_fault e);
        }

        pub stepped_read : (result : Result Step ProcessError) → ReadsOnce F a b mid new result → Stepped F A old new (moment before a k) (moment after b m) may_read result
        stepped_read (Ok MoreRead) reads =
            let gives = reads.gives in
            let fed = reads.fed in
            let none : new.waiting ≡ [] = gives.3 ∙ took.keeps.1 in
            record {
              fed = fed;
              made = reads.made;
              sent = [];
              passes = passes_read (Ok MoreRead) reads (rises_one fed reads.made gives.0 gives.1 gives.2);
              fresh = took.takes.fresh;
              ends = took.takes.ends;
              run = took.takes.run;
              asked = took.takes.asked;
              stands = λ behind s.
                  let h = took.takes.stands behind s in
                  let all = behind.exchanges ++ took.takes.fresh in
                  let g = gives.6 behind.bytes behind.cuts h.0.taken h.0.stands in
                  along (λ x y z. StepsAs F A (past x y z all) new took.takes.ends after (Ok MoreRead)) (behind.bytes ++ fed) (behind.bytes ++ fed)
                  (behind.cuts ++ totals (cuts_from (length behind.bytes) reads.made)) (behind.cuts ++ length (behind.bytes ++ fed) ∷ []) (behind.written ++ []) behind.written refl
                  (ap (λ (m : List Cut). behind.cuts ++ totals (cuts_from (length behind.bytes) m)) gives.1 ∙ ap (λ n. behind.cuts ++ n ∷ []) (sym (length-append behind.bytes fed))) (append-nil behind.written)
                  (subst (λ w. Stands F (past (behind.bytes ++ fed) (behind.cuts ++ length (behind.bytes ++ fed) ∷ []) behind.written all) new.held w) (sym none)
                  (fed_on F (onward behind) mid.held new.held fed [] h.0 g.1));
              last = all_answered;
              rooms = λ behind s.
                  let h = took.takes.stands behind s in
                  let g = gives.6 behind.bytes behind.cuts h.0.taken h.0.stands in
                  subst (λ (m : List Cut). HaveRooms F.HasRoom (behind.bytes ++ fed) (length behind.bytes) (cuts_from (length behind.bytes) m)) (sym gives.1)
                  (subst (λ x. F.HasRoom x gives.0) (sym (take_at behind.bytes fed (length behind.bytes) refl)) g.0, tt);
              leaves = (ap length gives.1, gives.5, none, gives.4 ∙ took.goes_on, may, took.keeps.2);
              memory = λ e. absurd cc;
              ended = reads.ended;
              idle = idle_not;
              read_fault = reads.cause;
              write_fault = λ e. absurd cc;
            }
        stepped_read (Ok Ended) reads =
            let gives = reads.gives in
            let none : new.waiting ≡ [] = gives.4 ∙ took.keeps.1 in
            let empty : new.held ≡ [] = gives.3 ∙ gives.2 in
            reads_none (Ok Ended) reads gives.0 gives.1 took.takes.asked
            (λ behind s. (
              subst (λ held. HasTakenAll F (onward behind) held new.waiting) (sym gives.3) (subst (λ w. HasTakenAll F (onward behind) mid.held w) (sym none) (took.takes.stands behind s)),
              empty,
            ))
            all_answered (gives.1, empty, none, gives.5, may, took.keeps.2) (λ e. cc) (λ e. cc)
        stepped_read (Err BytesRemaining) reads =
            let gives = reads.gives in
            reads_none (Err BytesRemaining) reads gives.0 gives.1 took.takes.asked.0
            (λ behind s. (mid.held, gives.2, served_all behind s)) all_answered (gives.1, gives.3, may) (λ e. cc) (λ e. cc)
        stepped_read (Err ReadFault) reads =
            let gives = reads.gives in
            reads_none (Err ReadFault) reads gives.0 gives.1 took.takes.asked.0
            (λ behind s. (mid.held, served_all behind s)) all_answered (gives.1, gives.2, may) (λ e. cc) (λ e. cc)
        stepped_read (Err NoMemory) reads =
            let gives = reads.gives in
            reads_none (Err NoMemory) reads gives.0 gives.1 took.takes.asked.0 (wanting_all gives.3)
            (λ behind s. inr (inl (all_answered behind s))) (gives.1, gives.2, tt)
            (λ e bytes cuts taken s. inr (gives.3, took.keeps.2)) (λ e. cc)
        stepped_read (Ok _) reads = absurd reads.gives
        stepped_read (Err _) reads = absurd reads.gives
