-- One poll of a server: what waits is written, and then one step comes after another, as far as the link is ready.
use Rattle.std.proofs.Common.{◌≡◌, ◌≢◌, inl, inr, ℕ, ◌+◌, ◌-◌, ◌<◌, ◌≤◌, Option, Some, None, List, [], ◌++◌, length, refl, sym, ap, ◌∙◌, subst, arith, Result, Ok, Err, Bool, true, false, IsTrue, append-nil, append_assoc, length-append}
use Rattle.modbus_link.specs.declared.polled.Polled.{Polled}
use Rattle.modbus_link.specs.declared.polled.Polled.TheVariants.{Ready, Pending}
use Rattle.modbus_link.specs.declared.outside.Cut.{Cut}
use Rattle.modbus_link.specs.Outside.{outside, Input, Output, Rose, IsFront, cuts_from}
use Rattle.modbus_link.specs.Passes.{Passes, Sends, passes_out, passes_in, passes_both}
use Rattle.modbus_link.specs.Reads.{HaveRooms, totals, Spends}
use Rattle.modbus_link.specs.Runs.{RisesTo-both}
use Rattle.modbus_link.specs.TwoRuns.{count_both, totals_both, rooms_more, rooms_then, regroup, unread_on}
use Rattle.modbus_server.specs.declared.error.ProcessError.{ProcessError}
use Rattle.modbus_server.specs.declared.error.ProcessError.TheVariants.{ReadFault, WriteFault, TooManyRetries, BytesRemaining, InvalidRequest, ResponseTooLong, TurnLimit, InvalidLength, InvalidProtocol, NoMemory}
use Rattle.modbus_server.specs.declared.error.Next.TheVariants.{Reply}
use Rattle.modbus_server.specs.declared.error.Next.TheVariants as next
use Rattle.modbus_server.specs.declared.error.PolledTurn.{PolledTurn}
use Rattle.modbus_server.specs.declared.error.PolledTurn.TheVariants.{Waiting, Spent, Over}
use Rattle.modbus_server.specs.declared.error.Step.{Step}
use Rattle.modbus_server.specs.declared.error.Step.TheVariants.{Answered, Silent, MoreRead, Hungry, Ended}
use Rattle.modbus_server.specs.Framing.{Framing}
use Rattle.modbus_service.specs.Answering.{Answering}
use Rattle.modbus_server.specs.Exchanges.{Exchange, Run}
use Rattle.modbus_server.specs.Served.{past, Stands, HasTakenAll, remaining}
use Rattle.modbus_server.specs.State.{State}
use Rattle.modbus_server.specs.Next.{Took}
use Rattle.modbus_server.specs.Transfer.{WritesOnce, EndsInput}
use Rattle.modbus_server.specs.Step.{AsksInStep, StepsAs, EndsIfMay, Stepped, EndsRead, spending_of, Ran}
use Rattle.modbus_server.specs.Complete.{Completes}
use Rattle.modbus_server.specs.Polled.{polled, PolledPast, polled_past, polled_on, past_of, PolledProcessState, ReadsNothing, PollWrites, PollReads, Paused, PollSteps, PollStands, PollEnds, Polls, PolledTo, PollWaits, Rests, RunsWhole, poll_of, TurnsTo, TurnWaits, IsWithin, IsLimit, AllowsMore, one_fewer}
use Rattle.modbus_server.proofs.Standing.{opened, sent_on, halted, runs_both, ends_whole}
use Rattle.modbus_server.proofs.Stepping.{stepped_sent, stepped_read}
use Rattle.modbus_server.specs.Moment.{Moment, moment}

-- two runs after what came before are one, with what was written and asked in them
regrouped : {X : Type 0} (P : List ℕ → List Cut → List ℕ → List X → Type 0) (bytes fed fed' : List ℕ) (earlier made made' : List Cut) (written sent sent' : List ℕ) (xs fresh fresh' : List X)
    → P ((bytes ++ fed) ++ fed') ((earlier ++ cuts_from (length bytes) made) ++ cuts_from (length (bytes ++ fed)) made') ((written ++ sent) ++ sent') ((xs ++ fresh) ++ fresh')
    → P (bytes ++ (fed ++ fed')) (earlier ++ cuts_from (length bytes) (made ++ cuts_from (length fed) made')) (written ++ (sent ++ sent')) (xs ++ (fresh ++ fresh'))
regrouped P bytes fed fed' earlier made made' written sent sent' xs fresh fresh' p =
    regroup (λ b e. P b e (written ++ (sent ++ sent')) (xs ++ (fresh ++ fresh'))) bytes fed fed' earlier made made'
    (subst (λ w. P ((bytes ++ fed) ++ fed') ((earlier ++ cuts_from (length bytes) made) ++ cuts_from (length (bytes ++ fed)) made') w (xs ++ (fresh ++ fresh'))) (append_assoc written sent sent')
    (subst (P ((bytes ++ fed) ++ fed') ((earlier ++ cuts_from (length bytes) made) ++ cuts_from (length (bytes ++ fed)) made') ((written ++ sent) ++ sent')) (append_assoc xs fresh fresh') p))

module _ (F : Framing) {S : Type 0} (A : Answering S) where
  -- a step found the link not ready for the whole reply
  pub paused_sent : {E : Type 0} (told : E → ProcessError) (old mid new : State) (before after : S) (a b : Input) (k m : Output) → Took F A told old mid before after (Ok Reply) → b ≡ a
      → Sends k m mid.waiting new.waiting → new ≡ record mid { waiting = new.waiting } → new.waiting ≢ [] → Paused F A old new (moment before a k) (moment after b m)
  paused_sent told old mid new before after a b k m took unread sends same some =
      let t = took.takes in record {
        sent = sends.sent;
        passes = passes_out (outside a k) (outside b m) sends.sent unread sends.sink sends.wrote;
        fresh = t.fresh;
        run = subst (λ s. Run F A before t.fresh s) (sym t.asked.3) t.run;
        stands = λ behind s.
            let all : List (Exchange F) = behind.exchanges ++ t.fresh in
            subst (λ held. Stands F (past behind.bytes behind.cuts (behind.written ++ sends.sent) all) held new.waiting) (sym (ap (λ (s : State). s.held) same))
            (sent_on F (past behind.bytes behind.cuts behind.written all) mid.held mid.waiting sends.sent new.waiting sends.splits (t.stands behind s));
        is_open = ap (λ (s : State). s.is_open) same ∙ took.goes_on;
        rests = inl some;
        few = let one = ap length t.asked.1 in omega (arith, one);
      }

  -- or to be read
  pub paused_read : {E : Type 0} (told : E → ProcessError) (old mid new : State) (before after : S) (a b : Input) (k m : Output) → Took F A told old mid before after (Ok next.Waiting) → m ≡ k
      → ReadsNothing a b mid new → Paused F A old new (moment before a k) (moment after b m)
  paused_read told old mid new before after a b k m took unsent reads =
      let t = took.takes in
      let held : new.held ≡ mid.held = ap (λ (s : State). s.held) reads.keeps in
      let none : new.waiting ≡ [] = ap (λ (s : State). s.waiting) reads.keeps ∙ took.keeps.1 in record {
        sent = [];
        passes = passes_in (outside a k) (outside b m) [] [] unsent reads.source reads.read reads.cuts refl;
        fresh = t.fresh;
        run = subst (λ s. Run F A before t.fresh s) (sym t.asked.1) t.run;
        stands = λ behind s.
            let h = t.stands behind s in
            let all : List (Exchange F) = behind.exchanges ++ t.fresh in
            subst (λ w. Stands F (past behind.bytes behind.cuts w all) new.held new.waiting) (sym (append-nil behind.written))
            (subst (λ w. Stands F (past behind.bytes behind.cuts behind.written all) new.held w) (sym none)
            (subst (λ x. Stands F (past behind.bytes behind.cuts behind.written all) x []) (sym held) h.0));
        is_open = ap (λ (s : State). s.is_open) reads.keeps ∙ took.goes_on;
        rests = inr (subst F.Waits (sym held) took.keeps.0);
        few = let none = ap length t.asked.0 in omega (arith, none);
      }

  -- one step, by what is written or read in it
  module _ {E : Type 0} (told : E → ProcessError) (old mid new : State) (before after : S) (a b : Input) (k m : Output) (may_read : Bool) where
    pub steps_sent : Took F A told old mid before after (Ok Reply) → b ≡ a → Sends k m mid.waiting new.waiting → (result : Result (Polled Step) ProcessError) → PollWrites mid new result
        → (result ≡ Err WriteFault → Rose k.faults m.faults) → PollSteps F A old new (moment before a k) (moment after b m) may_read result
    steps_sent took unread sends (Ok (Ready step)) writes cause = stepped_sent F A old new before after a k may_read told mid b m took unread sends (Ok step) writes (λ e. absurd cc)
    steps_sent took unread sends (Ok Pending) writes cause = paused_sent told old mid new before after a b k m took unread sends writes.0 writes.1
    steps_sent took unread sends (Err error) writes cause =
        stepped_sent F A old new before after a k may_read told mid b m took unread sends (Err error) writes
        (λ e. let same : error ≡ WriteFault = cc in cause (ap (λ (x : ProcessError). Err x) same))

    pub steps_read : Took F A told old mid before after (Ok next.Waiting) → m ≡ k → may_read ≡ true → (result : Result (Polled Step) ProcessError) → PollReads F a b mid new result
        → PollSteps F A old new (moment before a k) (moment after b m) may_read result
    steps_read took unsent may (Ok (Ready step)) reads = stepped_read F A old new before after a k may_read told mid b m took unsent may (Ok step) reads
    steps_read took unsent may (Ok Pending) reads = paused_read told old mid new before after a b k m took unsent reads
    steps_read took unsent may (Err error) reads = stepped_read F A old new before after a k may_read told mid b m took unsent may (Err error) reads

  -- what a turn promises, and that it waits only where the link was not ready
  abbrev Turns : Option ℕ → PolledProcessState → PolledProcessState → Moment S → Moment S → ℕ → ℕ → PolledTurn → Type 0
  Turns limit old new before after idle idle' turn = TurnsTo F A limit old new before after turn × TurnWaits idle idle' turn

  -- how many messages were taken and how many are left, which are the limit, where there is one
  abbrev Counts : Option ℕ → Option ℕ → ℕ → Type 0
  Counts None messages count = messages ≡ None
  Counts (Some limit) None count = ⊥
  Counts (Some limit) (Some left) count = count + left ≡ limit

  counts_none : (limit : Option ℕ) → Counts limit limit 0
  counts_none None = refl
  counts_none (Some limit) = omega arith

  counts_same : (limit messages : Option ℕ) (xs ys : List (Exchange F)) → Counts limit messages (length xs) → length ys ≡ 0 → Counts limit messages (length (xs ++ ys))
  counts_same None messages xs ys c e = c
  counts_same (Some limit) None xs ys c e = absurd c
  counts_same (Some limit) (Some left) xs ys c e = let both = length-append xs ys in omega (arith, both, c, e)

  counts_one : (limit messages messages' : Option ℕ) (xs ys : List (Exchange F)) → Counts limit messages (length xs) → AllowsMore messages → messages' ≡ one_fewer messages → length ys ≡ 1
      → Counts limit messages' (length (xs ++ ys))
  counts_one None messages messages' xs ys c more fewer e = fewer ∙ ap one_fewer c
  counts_one (Some limit) None messages' xs ys c more fewer e = absurd c
  counts_one (Some limit) (Some left) messages' xs ys c more fewer e =
      let both = length-append xs ys in
      subst (λ (m : Option ℕ). Counts (Some limit) m (length (xs ++ ys))) (sym fewer) (omega (arith, both, c, more, e))

  within_one : (limit messages : Option ℕ) (xs ys : List (Exchange F)) → Counts limit messages (length xs) → AllowsMore messages → length ys ≤ 1 → IsWithin limit (length (xs ++ ys))
  within_one None messages xs ys c more few = tt
  within_one (Some limit) None xs ys c more few = absurd c
  within_one (Some limit) (Some left) xs ys c more few = let both = length-append xs ys in omega (arith, both, c, more, few)

  within_none : (limit : Option ℕ) → IsWithin limit 0
  within_none None = tt
  within_none (Some limit) = omega arith

  no_both : (messages : Option ℕ) → messages ≡ None → messages ≡ Some 0 → ⊥
  no_both messages e f = cc

  all_taken : (limit messages : Option ℕ) (count : ℕ) → Counts limit messages count → messages ≡ Some 0 → IsWithin limit count × IsLimit limit count
  all_taken None messages count c e = absurd (no_both messages c e)
  all_taken (Some limit) None count c e = absurd c
  all_taken (Some limit) (Some left) count c e =
      let none : left ≡ 0 = cc in
      (omega (arith, c, none), omega (arith, c, none))

  -- a step asks about one message at most
  asked_few : (fresh : List (Exchange F)) (ends after : S) (result : Result Step ProcessError) → AsksInStep F fresh ends after result → length fresh ≤ 1
  asked_few fresh ends after (Ok Answered) asked = let one = ap length asked.1 in omega (arith, one)
  asked_few fresh ends after (Ok Silent) asked = let one = ap length asked.1 in omega (arith, one)
  asked_few fresh ends after (Ok MoreRead) asked = let none = ap length asked.0 in omega (arith, none)
  asked_few fresh ends after (Ok Hungry) asked = let none = ap length asked.0 in omega (arith, none)
  asked_few fresh ends after (Ok Ended) asked = let none = ap length asked.0 in omega (arith, none)
  asked_few fresh ends after (Err WriteFault) asked = let one = ap length asked.1 in omega (arith, one)
  asked_few fresh ends after (Err _) asked = let none = ap length asked in omega (arith, none)

  -- a turn that waits, or is over, by what it does as a poll
  turn_waits : (limit : Option ℕ) (old new : PolledProcessState) (before after : Moment S) (idle idle' : ℕ) (p : Polls F A old new before after Pending)
      → IsWithin limit (length p.fresh) → Rests F new.connection → Rose idle idle' → idle ≤ idle' → Turns limit old new before after idle idle' Waiting
  turn_waits limit old new before after idle idle' p few rests rose later =
      (record { polls = p; few = few; spent = λ e. absurd cc; rests = λ e. rests }, record { waited = λ e. rose; later = later })

  turn_over : (limit : Option ℕ) (old new : PolledProcessState) (before after : Moment S) (idle idle' : ℕ) (result : Result (Unit {0}) ProcessError) (p : Polls F A old new before after (Ready result))
      → IsWithin limit (length p.fresh) → idle ≤ idle' → Turns limit old new before after idle idle' (Over result)
  turn_over limit old new before after idle idle' result p few later =
      (record { polls = p; few = few; spent = λ e. absurd cc; rests = λ e. absurd cc }, record { waited = λ e. absurd cc; later = later })

  -- what a poll keeps from step to step, once nothing waits
  pub record PollGoing (limit messages : Option ℕ) (old state : State) (left left' : ℕ) (before after : S) (a b : Input) (k m : Output) (idle idle' : ℕ) : Type 0 where
    pub fed : List ℕ
    pub made : List Cut
    pub sent : List ℕ
    pub fresh : List (Exchange F)
    pub passes : Passes (outside a k) (outside b m) fed made sent
    pub run : Run F A before fresh after
    pub goes_on : (behind : PolledPast F) → PollStands F behind (polled old left) → PollStands F (polled_on behind fed made sent fresh) (polled state left')
    pub waiting : state.waiting ≡ []
    pub ready : IsTrue state.is_open
    pub later : idle ≤ idle'
    pub first : IsFront old.waiting sent
    pub counts : Counts limit messages (length fresh)

  -- what waited is written first, all of it or some
  module _ (limit : Option ℕ) (old new : State) (left : ℕ) (now : S) (a b : Input) (k m : Output) (idle idle' : ℕ) (unread : b ≡ a) (sends : Sends k m old.waiting new.waiting) (held : new.held ≡ old.held) (later : idle ≤ idle') where
    flushed : (behind : PolledPast F) → PollStands F behind (polled old left) → PollStands F (polled_on behind [] [] sends.sent []) (polled new left)
    flushed behind s =
        unread_on (λ x y. PollStands F (polled_past behind.turns x y (behind.written ++ sends.sent) (behind.exchanges ++ [])) (polled new left)) behind.bytes behind.made
        (subst (λ xs. PollStands F (polled_past behind.turns behind.bytes behind.made (behind.written ++ sends.sent) xs) (polled new left)) (sym (append-nil behind.exchanges)) record {
          stands = subst (λ h. Stands F (past behind.bytes (totals behind.made) (behind.written ++ sends.sent) behind.exchanges) h new.waiting) (sym held)
              (sent_on F (past_of behind) old.held old.waiting sends.sent new.waiting sends.splits s.stands);
          rises = s.rises;
          rooms = s.rooms;
          spends = s.spends;
        })

    wrote : Passes (outside a k) (outside b m) [] [] sends.sent
    wrote = passes_out (outside a k) (outside b m) sends.sent unread sends.sink sends.wrote

    pub flushed_all : new.waiting ≡ [] → IsTrue new.is_open → PollGoing limit limit old new left left now now a b k m idle idle'
    flushed_all none ready = record {
      fed = [];
      made = [];
      sent = sends.sent;
      fresh = [];
      passes = wrote;
      run = refl;
      goes_on = flushed;
      waiting = none;
      ready = ready;
      later = later;
      first = ([], sym (append-nil sends.sent) ∙ ap (λ w. sends.sent ++ w) (sym none) ∙ sym sends.splits ∙ sym (append-nil old.waiting));
      counts = counts_none limit;
    }

    pub flushed_some : Rose idle idle' → IsTrue new.is_open → new.waiting ≢ [] → Turns limit (polled old left) (polled new left) (moment now a k) (moment now b m) idle idle' Waiting
    flushed_some rose ready some =
        turn_waits limit (polled old left) (polled new left) (moment now a k) (moment now b m) idle idle' record {
          fed = [];
          made = [];
          sent = sends.sent;
          passes = wrote;
          fresh = [];
          ends = now;
          run = refl;
          goes_on = λ behind s. (flushed behind s, refl);
          is_open = ready;
          writes_first = λ read. absurd (read refl);
          ended = λ told. tt;
          read_fault = λ e. absurd cc;
          write_fault = λ e. absurd cc;
        } (within_none limit) (inl some) rose later

    pub flush_failed : new.is_open ≡ false → Rose k.faults m.faults → Turns limit (polled old left) (polled new left) (moment now a k) (moment now b m) idle idle' (Over (Err WriteFault))
    flush_failed closed rose =
        turn_over limit (polled old left) (polled new left) (moment now a k) (moment now b m) idle idle' (Err WriteFault) record {
          fed = [];
          made = [];
          sent = sends.sent;
          passes = wrote;
          fresh = [];
          ends = now;
          run = refl;
          goes_on = λ behind s.
              let after = flushed behind s in record {
                served = (new.held, new.waiting, after.stands, refl);
                rooms = after.rooms;
                spends = omega (arith, after.spends);
              };
          is_open = closed;
          writes_first = λ read. absurd (read refl);
          ended = λ told. tt;
          read_fault = λ e. absurd cc;
          write_fault = λ e. rose;
        } (within_none limit) later

  module _ (limit : Option ℕ) (old new : State) (left : ℕ) (now : S) (a b : Input) (k m : Output) (idle idle' : ℕ) (unread : b ≡ a) (sends : Sends k m old.waiting new.waiting) (later : idle ≤ idle') (ready : IsTrue old.is_open) where
    pub begun : (step : Step) → WritesOnce old new (Ok step) → PollGoing limit limit old new left left now now a b k m idle idle'
    begun Answered writes = flushed_all limit old new left now a b k m idle idle' unread sends writes.0 later writes.1 (writes.2 ∙ ready)
    begun _ writes = absurd writes

    pub begun_pending : Rose idle idle' → (new ≡ record old { waiting = new.waiting }) × (new.waiting ≢ []) → Turns limit (polled old left) (polled new left) (moment now a k) (moment now b m) idle idle' Waiting
    begun_pending rose writes =
        flushed_some limit old new left now a b k m idle idle' unread sends (ap (λ (s : State). s.held) writes.0) later rose (ap (λ (s : State). s.is_open) writes.0 ∙ ready) writes.1

    pub begun_failed : (error : ProcessError) → WritesOnce old new (Err error) → (let result : Result (Polled Step) ProcessError = Err error in result ≡ Err WriteFault → Rose k.faults m.faults)
        → Turns limit (polled old left) (polled new left) (moment now a k) (moment now b m) idle idle' (Over (Err error))
    begun_failed WriteFault writes cause = flush_failed limit old new left now a b k m idle idle' unread sends writes.0 later writes.1 (cause refl)
    begun_failed _ writes cause = absurd writes

  -- the messages are used up
  pub polled_spent : (limit messages : Option ℕ) (old mid : State) (left left' : ℕ) (before now : S) (a b : Input) (k l : Output) (idle idle' : ℕ) → messages ≡ Some 0
      → PollGoing limit messages old mid left left' before now a b k l idle idle' → Turns limit (polled old left) (polled mid left') (moment before a k) (moment now b l) idle idle' Spent
  polled_spent limit messages old mid left left' before now a b k l idle idle' none g =
      let taken = all_taken limit messages (length g.fresh) g.counts none in (
        record {
          polls = record {
            fed = g.fed;
            made = g.made;
            sent = g.sent;
            passes = g.passes;
            fresh = g.fresh;
            ends = now;
            run = g.run;
            goes_on = λ behind s. (g.goes_on behind s, refl);
            is_open = g.ready;
            writes_first = λ read. g.first;
            ended = λ told. tt;
            read_fault = λ e. absurd cc;
            write_fault = λ e. absurd cc;
          };
          few = taken.0;
          spent = λ e. taken.1;
          rests = λ e. absurd cc;
        },
        record { waited = λ e. absurd cc; later = g.later },
      )

  module _ (limit messages : Option ℕ) (old mid new : State) (left left' left'' : ℕ) (before now next : S) (a b c : Input) (k l m : Output) (idle idle' idle'' : ℕ)
      (g : PollGoing limit messages old mid left left' before now a b k l idle idle') (later : idle' ≤ idle'') (more : AllowsMore messages) where
    all_later : idle ≤ idle''
    all_later = let first = g.later in omega (arith, first, later)

    all_first : (sent : List ℕ) → IsFront old.waiting (g.sent ++ sent)
    all_first sent = (g.first.0 ++ sent, ap (λ w. w ++ sent) g.first.1 ∙ append_assoc old.waiting g.first.0 sent)

    unwaiting : (behind : PolledPast F) → PollStands F behind (polled mid left') → Stands F (past_of behind) mid.held []
    unwaiting behind s = subst (λ w. Stands F (past_of behind) mid.held w) g.waiting s.stands

    -- the link was not ready for the next step
    pub polled_paused : left'' ≡ left' → Paused F A mid new (moment now b l) (moment next c m) → Rose idle' idle'' → Turns limit (polled old left) (polled new left'') (moment before a k) (moment next c m) idle idle'' Waiting
    polled_paused same p rose =
        turn_waits limit (polled old left) (polled new left'') (moment before a k) (moment next c m) idle idle'' record {
          fed = g.fed ++ [];
          made = g.made ++ [];
          sent = g.sent ++ p.sent;
          passes = passes_both (outside a k) (outside b l) (outside c m) g.fed [] g.made [] g.sent p.sent g.passes p.passes;
          fresh = g.fresh ++ p.fresh;
          ends = next;
          run = runs_both F A before g.fresh now p.fresh next g.run p.run;
          goes_on = λ behind start. (
            let s = g.goes_on behind start in
                let mids = polled_on behind g.fed g.made g.sent g.fresh in
                regrouped (λ x y z xs. PollStands F (polled_past behind.turns x y z xs) (polled new left'')) behind.bytes g.fed [] behind.made g.made [] behind.written g.sent p.sent behind.exchanges g.fresh p.fresh
                (unread_on (λ x y. PollStands F (polled_past behind.turns x y (mids.written ++ p.sent) (mids.exchanges ++ p.fresh)) (polled new left'')) mids.bytes mids.made record {
                  stands = p.stands (past_of mids) (unwaiting mids s);
                  rises = s.rises;
                  rooms = s.rooms;
                  spends = ap (λ n. length mids.made + n) same ∙ s.spends;
                }),
            refl,
          );
          is_open = p.is_open;
          writes_first = λ read. all_first p.sent;
          ended = λ told. tt;
          read_fault = λ e. absurd cc;
          write_fault = λ e. absurd cc;
        } (within_one limit messages g.fresh p.fresh g.counts more p.few) p.rests (let first = g.later in omega (arith, first, rose)) all_later

    module _ (may_read : Bool) (result : Result Step ProcessError) (step : Stepped F A mid new (moment now b l) (moment next c m) may_read result) where
      all_passes : Passes (outside a k) (outside c m) (g.fed ++ step.fed) (g.made ++ cuts_from (length g.fed) step.made) (g.sent ++ step.sent)
      all_passes = passes_both (outside a k) (outside b l) (outside c m) g.fed step.fed g.made step.made g.sent step.sent g.passes step.passes

      all_run : Run F A before (g.fresh ++ step.fresh) step.ends
      all_run = runs_both F A before g.fresh now step.fresh step.ends g.run step.run

      abbrev onward : PolledPast F → PolledPast F
      onward behind = polled_on behind step.fed step.made step.sent step.fresh

      -- of all that the server stood for before the step
      module _ (behind : PolledPast F) (s : PollStands F behind (polled mid left')) where
        stepped : StepsAs F A (past_of (onward behind)) new step.ends next result
        stepped = subst (λ t. StepsAs F A (past (behind.bytes ++ step.fed) t (behind.written ++ step.sent) (behind.exchanges ++ step.fresh)) new step.ends next result) (sym (totals_both (length behind.bytes) behind.made step.made))
            (step.stands (past_of behind) (unwaiting behind s))

        have_rooms : HaveRooms F.HasRoom (behind.bytes ++ step.fed) 0 (behind.made ++ cuts_from (length behind.bytes) step.made)
        have_rooms = rooms_then F.HasRoom (behind.bytes ++ step.fed) 0 (length behind.bytes) behind.made (cuts_from (length behind.bytes) step.made) s.rises
            (rooms_more F.HasRoom behind.bytes step.fed 0 (length behind.bytes) behind.made s.rises (omega arith) s.rooms)
            (step.rooms (past_of behind) (unwaiting behind s))

        count : length (behind.made ++ cuts_from (length behind.bytes) step.made) ≡ length behind.made + length step.made
        count = count_both (length behind.bytes) behind.made step.made

        stands_on : Stands F (past_of (onward behind)) new.held new.waiting → length step.made + left'' ≡ left' → PollStands F (onward behind) (polled new left'')
        stands_on stands spends = record {
          stands = stands;
          rises = RisesTo-both (behind.made ++ cuts_from (length behind.bytes) step.made) behind.made step.made (length behind.bytes) (length step.fed) (length (behind.bytes ++ step.fed)) refl (length-append behind.bytes step.fed) s.rises step.passes.rises;
          rooms = have_rooms;
          spends = let before = s.spends in let all = count in omega (arith, before, all, spends);
        }

      -- it goes on
      going_on : (messages' : Option ℕ) → Counts limit messages' (length (g.fresh ++ step.fresh)) → next ≡ step.ends → ((behind : PolledPast F) → PollStands F behind (polled mid left') → PollStands F (onward behind) (polled new left''))
          → new.waiting ≡ [] → IsTrue new.is_open → PollGoing limit messages' old new left left'' before next a c k m idle idle''
      going_on messages' counts same on none ready = record {
        fed = g.fed ++ step.fed;
        made = g.made ++ cuts_from (length g.fed) step.made;
        sent = g.sent ++ step.sent;
        fresh = g.fresh ++ step.fresh;
        passes = all_passes;
        run = subst (λ s. Run F A before (g.fresh ++ step.fresh) s) (sym same) all_run;
        goes_on = λ behind start.
            regrouped (λ x y z xs. PollStands F (polled_past behind.turns x y z xs) (polled new left'')) behind.bytes g.fed step.fed behind.made g.made step.made behind.written g.sent step.sent behind.exchanges g.fresh step.fresh
            (on (polled_on behind g.fed g.made g.sent g.fresh) (g.goes_on behind start));
        waiting = none;
        ready = ready;
        later = all_later;
        first = all_first step.sent;
        counts = counts;
      }

      -- or it is over
      over : (final : State) (answer : Result (Unit {0}) ProcessError)
          → ((behind : PolledPast F) → PollStands F behind (polled mid left') → PollEnds F A (onward behind) step.ends next answer)
          → final.is_open ≡ false → (IsTrue b.told → EndsRead answer c.left) → (answer ≡ Err ReadFault → Rose b.faults c.faults) → (answer ≡ Err WriteFault → Rose l.faults m.faults)
          → Turns limit (polled old left) (polled final left'') (moment before a k) (moment next c m) idle idle'' (Over answer)
      over final answer ends closed ended read_fault write_fault =
          turn_over limit (polled old left) (polled final left'') (moment before a k) (moment next c m) idle idle'' answer record {
            fed = g.fed ++ step.fed;
            made = g.made ++ cuts_from (length g.fed) step.made;
            sent = g.sent ++ step.sent;
            passes = all_passes;
            fresh = g.fresh ++ step.fresh;
            ends = step.ends;
            run = all_run;
            goes_on = λ behind start.
                regrouped (λ x y z xs. PollEnds F A (polled_past behind.turns x y z xs) step.ends next answer) behind.bytes g.fed step.fed behind.made g.made step.made behind.written g.sent step.sent behind.exchanges g.fresh step.fresh
                (ends (polled_on behind g.fed g.made g.sent g.fresh) (g.goes_on behind start));
            is_open = closed;
            writes_first = λ read. all_first step.sent;
            ended = λ told. ended (g.passes.source.told ∙ told);
            read_fault = λ e.
                let same : answer ≡ Err ReadFault = cc in
                let rose = read_fault same in
                let before = g.passes.source.later in omega (arith, rose, before);
            write_fault = λ e.
                let same : answer ≡ Err WriteFault = cc in
                let rose = write_fault same in
                let before = g.passes.sink.later in omega (arith, rose, before);
          } (within_one limit messages g.fresh step.fresh g.counts more (asked_few step.fresh step.ends next result step.asked)) all_later

    pub read_on : (may_read : Bool) → left' ≡ left'' + 1 → Stepped F A mid new (moment now b l) (moment next c m) may_read (Ok MoreRead) → PollGoing limit messages old new left left'' before next a c k m idle idle''
    read_on may_read e step =
        let one = step.leaves.0 in
        going_on may_read (Ok MoreRead) step messages (counts_same limit messages g.fresh step.fresh g.counts (ap length step.asked.0)) step.asked.1
        (λ behind s. stands_on may_read (Ok MoreRead) step behind s (stepped may_read (Ok MoreRead) step behind s) (omega (arith, one, e)))
        step.leaves.2 step.leaves.3

    pub answered_on : (messages' : Option ℕ) → messages' ≡ one_fewer messages → (may_read : Bool) → left'' ≡ left' → Stepped F A mid new (moment now b l) (moment next c m) may_read (Ok Answered) → PollGoing limit messages' old new left left'' before next a c k m idle idle''
    answered_on messages' fewer may_read e step =
        let none = ap length step.leaves.0 in
        going_on may_read (Ok Answered) step messages' (counts_one limit messages messages' g.fresh step.fresh g.counts more fewer (ap length step.asked.1)) step.asked.3
        (λ behind s. stands_on may_read (Ok Answered) step behind s (stepped may_read (Ok Answered) step behind s) (omega (arith, none, e)))
        step.leaves.2 step.leaves.3

    pub silent_on : (messages' : Option ℕ) → messages' ≡ one_fewer messages → (may_read : Bool) → left'' ≡ left' → Stepped F A mid new (moment now b l) (moment next c m) may_read (Ok Silent) → PollGoing limit messages' old new left left'' before next a c k m idle idle''
    silent_on messages' fewer may_read e step =
        let none = ap length step.leaves.0 in
        going_on may_read (Ok Silent) step messages' (counts_one limit messages messages' g.fresh step.fresh g.counts more fewer (ap length step.asked.1)) step.asked.3
        (λ behind s. stands_on may_read (Ok Silent) step behind s (stepped may_read (Ok Silent) step behind s) (omega (arith, none, e)))
        step.leaves.2 step.leaves.3

    module _ (may_read : Bool) (may : may_read ≡ true → 0 < left') (must : may_read ≡ false → left' ≡ 0) where
      spent : (error : ProcessError) (made turns : ℕ) → EndsIfMay may_read error → made + left' ≡ turns → Spends (spending_of (Err error)) made turns
      spent ReadFault made turns e s = let some = may e in omega arith
      spent BytesRemaining made turns e s = let some = may e in omega arith
      spent TurnLimit made turns e s = absurd e
      spent WriteFault made turns e s = omega arith
      spent TooManyRetries made turns e s = omega arith
      spent (InvalidRequest reason) made turns e s = omega arith
      spent (ResponseTooLong size) made turns e s = omega arith
      spent InvalidLength made turns e s = omega arith
      spent (InvalidProtocol protocol) made turns e s = omega arith
      spent NoMemory made turns e s = omega arith

      ended_as : (error : ProcessError) (rest : List ℕ) → EndsInput (Err error) rest → EndsRead (Err error) rest
      ended_as BytesRemaining rest e = e
      ended_as _ rest e = tt

      pub polled_error : (error : ProcessError) → Stepped F A mid new (moment now b l) (moment next c m) may_read (Err error) → Turns limit (polled old left) (polled new left'') (moment before a k) (moment next c m) idle idle'' (Over (Err error))
      polled_error error step =
          let none = ap length step.leaves.0 in
          over may_read (Err error) step new (Err error)
          (λ behind s.
          let all = count may_read (Err error) step behind s in
          let before = s.spends in record {
            served = stepped may_read (Err error) step behind s;
            rooms = have_rooms may_read (Err error) step behind s;
            spends = spent error (length (behind.made ++ cuts_from (length behind.bytes) step.made)) behind.turns step.leaves.2 (omega (arith, none, all, before));
          })
          step.leaves.1 (λ told. ended_as error c.left (step.ended told))
          (λ e. let same : error ≡ ReadFault = cc in step.read_fault (ap (λ (x : ProcessError). Err x) same))
          (λ e. let same : error ≡ WriteFault = cc in step.write_fault (ap (λ (x : ProcessError). Err x) same))

      pub polled_hungry : (final : State) → final.is_open ≡ false → Stepped F A mid new (moment now b l) (moment next c m) may_read (Ok Hungry) → Turns limit (polled old left) (polled final left'') (moment before a k) (moment next c m) idle idle'' (Over (Err TurnLimit))
      polled_hungry final closed step =
          let none = ap length step.leaves.0 in
          let spent_all = must step.leaves.4 in
          over may_read (Ok Hungry) step final (Err TurnLimit)
          (λ behind s.
          let all = count may_read (Ok Hungry) step behind s in
          let before = s.spends in
          let mids = past_of (polled_on behind step.fed step.made step.sent step.fresh) in
          let h = subst (λ w. HasTakenAll F mids new.held w) step.leaves.2 (stepped may_read (Ok Hungry) step behind s) in record {
            served = (new.held, halted F A mids new.held h.0 (remaining new.held) step.ends next (h.1, step.asked.1));
            rooms = have_rooms may_read (Ok Hungry) step behind s;
            spends = omega (arith, none, all, before, spent_all);
          })
          closed (λ told. tt) (λ e. absurd cc) (λ e. absurd cc)

      pub polled_ended : Stepped F A mid new (moment now b l) (moment next c m) may_read (Ok Ended) → Turns limit (polled old left) (polled new left'') (moment before a k) (moment next c m) idle idle'' (Over (Ok tt))
      polled_ended step =
          let none = ap length step.leaves.0 in
          let some = may step.leaves.4 in
          over may_read (Ok Ended) step new (Ok tt)
          (λ behind s.
          let all = count may_read (Ok Ended) step behind s in
          let before = s.spends in
          let mids = past_of (polled_on behind step.fed step.made step.sent step.fresh) in
          let left_over = stepped may_read (Ok Ended) step behind s in
          let h = subst (λ w. HasTakenAll F mids new.held w) step.leaves.2 left_over.0 in
          let all_used : F.IsAll mids.bytes mids.cuts [] h.0.taken = subst (λ rest. F.IsAll mids.bytes mids.cuts rest h.0.taken) left_over.1 h.1 in record {
            served = halted F A mids new.held h.0 (remaining []) step.ends next (all_used, step.asked.1);
            rooms = have_rooms may_read (Ok Ended) step behind s;
            spends = omega (arith, none, all, before, some);
          })
          step.leaves.3 (λ told. step.ended told) (λ e. absurd cc) (λ e. absurd cc)

  -- a turn without a limit is a poll
  pub unlimited : (old new : PolledProcessState) (before after : Moment S) (turn : PolledTurn) → TurnsTo F A None old new before after turn → PolledTo F A old new before after (poll_of turn)
  unlimited old new before after Waiting t = record { polls = t.polls; rests = λ e. t.rests refl }
  unlimited old new before after Spent t = absurd (t.spent refl)
  unlimited old new before after (Over result) t = record { polls = t.polls; rests = λ e. absurd cc }

  pub unlimited_waits : (idle idle' : ℕ) (turn : PolledTurn) → turn ≢ Spent → TurnWaits idle idle' turn → PollWaits idle idle' (poll_of turn)
  unlimited_waits idle idle' Waiting some w = record { waited = λ e. w.waited refl; later = w.later }
  unlimited_waits idle idle' Spent some w = absurd (some refl)
  unlimited_waits idle idle' (Over result) some w = record { waited = λ e. absurd cc; later = w.later }

  -- the polls so far and a last one are one run
  module _ (old new : PolledProcessState) (before after : Moment S) where
    ran_whole : (result : Result (Unit {0}) ProcessError) → Polls F A old new before after (Ready result) → (behind : PolledPast F) (first : Moment S)
        → PollStands F behind old → Run F A first.service behind.exchanges before.service → Passes first.outside before.outside behind.bytes behind.made behind.written
        → Ran F A behind.turns first after result
    ran_whole result p behind first s run passed =
        let ends = p.goes_on behind s in
        let all = polled_on behind p.fed p.made p.sent p.fresh in record {
          fed = all.bytes;
          made = all.made;
          sent = all.written;
          passes = passes_both first.outside before.outside after.outside behind.bytes p.fed behind.made p.made behind.written p.sent passed p.passes;
          served = ends_whole F A (past_of all) first.service p.ends after.service (runs_both F A first.service behind.exchanges before.service p.fresh p.ends run p.run) result ends.served;
          rooms = ends.rooms;
          spends = ends.spends;
          ended = λ told. p.ended (passed.source.told ∙ told);
          read_fault = λ e.
              let rose = p.read_fault (ap (λ (r : Result (Unit {0}) ProcessError). Ready r) e) in
              let before = passed.source.later in omega (arith, rose, before);
          write_fault = λ e.
              let rose = p.write_fault (ap (λ (r : Result (Unit {0}) ProcessError). Ready r) e) in
              let before = passed.sink.later in omega (arith, rose, before);
        }

    pub runs_whole : ((turns : ℕ) (before after : Moment S) (result : Result (Unit {0}) ProcessError) → Ran F A turns before after result → Completes F A turns before after result)
        → (result : Polled (Result (Unit {0}) ProcessError)) → Polls F A old new before after result → RunsWhole F A old before after result
    runs_whole served Pending p = λ behind first s run passed. tt
    runs_whole served (Ready result) p = λ behind first s run passed.
        let ran = ran_whole result p behind first s run passed in
        (ran, served _ _ _ _ ran)

-- a server that was just opened
pub begins : (F : Framing) (turns : ℕ) (state : State) → state.held ≡ [] → state.waiting ≡ [] → F.StandsFor [] [] [] [] → PollStands F (polled_past turns [] [] [] []) (polled state turns)
begins F turns state empty written stands = record {
  stands = subst (λ held. Stands F (past [] [] [] []) held state.waiting) (sym empty) (subst (λ w. Stands F (past [] [] [] []) [] w) (sym written) (opened F stands));
  rises = refl;
  rooms = tt;
  spends = omega arith;
}
