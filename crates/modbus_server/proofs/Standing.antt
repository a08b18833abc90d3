-- What a connection stands for, carried over a message, over what is written of a reply, and over what is fed.
use Rattle.std.proofs.Common.{◌≡◌, inl, ℕ, List, [], ◌∷◌, ◌++◌, map, length, refl, sym, ap, ◌∙◌, subst, Result, Ok, Err, append-nil, append_assoc}
use Rattle.std.proofs.lemmas.List.{map-append}
use Rattle.std.proofs.lemmas.List.Elements.{All-append, All-cons, All-nil}
use Rattle.std.proofs.lemmas.Grind.{flat_map-append}
use Rattle.modbus_pdu.specs.Message.{Message}
use Rattle.modbus_server.specs.declared.error.ProcessError.{ProcessError}
use Rattle.modbus_server.specs.declared.error.ProcessError.TheVariants.{ReadFault, WriteFault, TooManyRetries, BytesRemaining, InvalidRequest, ResponseTooLong, TurnLimit, InvalidLength, InvalidProtocol}
use Rattle.modbus_server.specs.declared.error.ProcessError.TheVariants as process
use Rattle.modbus_server.specs.declared.error.NextError.{NextError}
use Rattle.modbus_server.specs.declared.error.NextError.TheVariants.{Broken, Refused, TooLong, NoMemory}
use Rattle.modbus_server.specs.declared.error.Next.{Next}
use Rattle.modbus_server.specs.declared.error.Next.TheVariants.{Reply, Silent, Waiting}
use Rattle.modbus_service.specs.Outcome.{silence}
use Rattle.modbus_server.specs.Framing.{Framing}
use Rattle.modbus_service.specs.Answering.{Answering}
use Rattle.modbus_server.specs.Exchanges.{Exchange, GivesOutcome, Run, ReplyFits, reply_of, output, last_reply, asked_of, asks}
use Rattle.modbus_server.specs.Answer.{Answered, AnswersAs}
use Rattle.modbus_server.specs.Served.{Past, past, with_exchanges, Stands, NextIsRequest, Served, StopsAfter, Halt, Halts, remaining, broken, refused, too_long, NextTakesMemory, WantsAfter, EndsAfter, EndsAs}
use Rattle.modbus_server.specs.Next.{TakesAs, Takes}

module _ (F : Framing) where
  pub output_more : (xs : List (Exchange F)) (x : Exchange F) → output F (xs ++ x ∷ []) ≡ output F xs ++ reply_of F x
  output_more xs x = flat_map-append (reply_of F) xs (x ∷ []) ∙ ap (λ rest. output F xs ++ rest) (append-nil (reply_of F x))

  pub last_more : (xs : List (Exchange F)) (x : Exchange F) → last_reply F (xs ++ x ∷ []) ≡ reply_of F x
  last_more [] x = refl
  last_more (a ∷ []) x = refl
  last_more (a ∷ b ∷ xs) x = last_more (b ∷ xs) x

  silent_reply : (x : Exchange F) → x.outcome ≡ silence → reply_of F x ≡ []
  silent_reply x e = rw e refl

  -- other bytes are held
  abbrev pub kept : (behind : Past F) (held held' : List ℕ) (waiting : List ℕ) → (s : Stands F behind held waiting)
      → F.StandsFor behind.bytes behind.cuts held' s.taken → Stands F behind held' waiting
  kept behind held held' waiting s stands = record { taken = s.taken; stands = stands; asked = s.asked; fit = s.fit; wrote = s.wrote; late = s.late }

  -- before the first byte
  abbrev pub opened : F.StandsFor [] [] [] [] → Stands F (past [] [] [] []) [] []
  opened stands = record { taken = []; stands = stands; asked = refl; fit = All-nil (ReplyFits F); wrote = refl; late = ([], refl) }

  -- some of what waits is written
  pub sent_on : (behind : Past F) (held waiting sent rest : List ℕ) → waiting ≡ sent ++ rest
      → Stands F behind held waiting → Stands F (past behind.bytes behind.cuts (behind.written ++ sent) behind.exchanges) held rest
  sent_on behind held waiting sent rest e s = record {
    taken = s.taken;
    stands = s.stands;
    asked = s.asked;
    fit = s.fit;
    wrote = append_assoc behind.written sent rest ∙ ap (λ w. behind.written ++ w) (sym e) ∙ s.wrote;
    late = (s.late.0 ++ sent, s.late.1 ∙ ap (λ w. s.late.0 ++ w) e ∙ sym (append_assoc s.late.0 sent rest));
  }

  -- a piece is fed
  pub fed_on : (behind : Past F) (held held' piece waiting : List ℕ) → (s : Stands F behind held waiting)
      → F.StandsFor (behind.bytes ++ piece) (behind.cuts ++ length (behind.bytes ++ piece) ∷ []) held' s.taken
      → Stands F (past (behind.bytes ++ piece) (behind.cuts ++ length (behind.bytes ++ piece) ∷ []) behind.written behind.exchanges) held' waiting
  fed_on behind held held' piece waiting s grown = record { taken = s.taken; stands = grown; asked = s.asked; fit = s.fit; wrote = s.wrote; late = s.late }

  -- no message was answered
  pub none_on : (P : Past F → Type 0) (behind : Past F) → P behind → P (with_exchanges behind [])
  none_on P behind p = subst (λ xs. P (past behind.bytes behind.cuts behind.written xs)) (sym (append-nil behind.exchanges)) p

  pub none_off : (P : List (Exchange F) → Type 0) (xs fresh : List (Exchange F)) → fresh ≡ [] → P (xs ++ fresh) → P xs
  none_off P xs fresh none p = subst P (ap (λ more. xs ++ more) none ∙ append-nil xs) p

  module _ {S : Type 0} (A : Answering S) where
    -- one run after another
    pub runs_both : (a : S) (xs : List (Exchange F)) (b : S) (ys : List (Exchange F)) (c : S) → Run F A a xs b → Run F A b ys c → Run F A a (xs ++ ys) c
    runs_both a [] b ys c e run = subst (λ s. Run F A s ys c) e run
    runs_both a (x ∷ xs) b ys c (m, first, rest) run = (m, first, runs_both m xs b ys c rest run)

    pub run_more : (a : S) (xs : List (Exchange F)) (b : S) (x : Exchange F) (c : S) → Run F A a xs b → GivesOutcome F A b x c → Run F A a (xs ++ x ∷ []) c
    run_more a xs b x c run step = runs_both a xs b (x ∷ []) c run (c, step, refl)

    -- where nothing waits
    module _ (behind : Past F) (held : List ℕ) (s : Stands F behind held []) where
      pub all_written : behind.written ≡ output F behind.exchanges
      all_written = sym (append-nil behind.written) ∙ s.wrote

      -- one more message is answered, and its reply waits
      answered_on : (message : Message F.Header) (held' : List ℕ) (now next : S) (x : Exchange F) → F.StandsFor behind.bytes behind.cuts held' (s.taken ++ message ∷ [])
          → Answered F A message now next x → ReplyFits F x → (made : List ℕ) → made ≡ reply_of F x → Stands F (with_exchanges behind (x ∷ [])) held' made
      answered_on message held' now next x stands answered fits made e = record {
        taken = s.taken ++ message ∷ [];
        stands = stands;
        asked = map-append (asked_of F) s.taken (message ∷ []) ∙ ap (λ front. front ++ asked_of F message ∷ []) s.asked
            ∙ ap (λ last. map (asks F) behind.exchanges ++ last ∷ []) answered.asked ∙ sym (map-append (asks F) behind.exchanges (x ∷ []));
        fit = All-append (ReplyFits F) behind.exchanges (x ∷ []) s.fit (All-cons (ReplyFits F) x [] fits (All-nil (ReplyFits F)));
        wrote = ap (λ w. w ++ made) all_written ∙ ap (λ w. output F behind.exchanges ++ w) e ∙ sym (output_more behind.exchanges x);
        late = ([], last_more behind.exchanges x ∙ sym e);
      }

      -- all messages that were taken are those before the place where it stops
      pub halted : (halt : Halt) (ends now : S) → Halts F A behind.bytes behind.cuts s.taken ends now halt → StopsAfter F A behind ends now halt
      halted halt ends now halts = record { before = s.taken; asked = s.asked; fit = s.fit; wrote = all_written; halts = halts }

    -- it stops after no more exchanges
    pub halted_on : (behind : Past F) (held : List ℕ) (s : Stands F behind held []) (halt : Halt) (ends now : S) → Halts F A behind.bytes behind.cuts s.taken ends now halt
        → StopsAfter F A (with_exchanges behind []) ends now halt
    halted_on behind held s halt ends now halts = none_on (λ b. StopsAfter F A b ends now halt) behind (halted behind held s halt ends now halts)

    -- the next message is asked about
    module _ {E : Type 0} (told : E → ProcessError) (message : Message F.Header) (held held' : List ℕ) (now next : S) (made : List ℕ)
        (finds : (bytes cuts : List ℕ) (taken : List (Message F.Header)) → F.StandsFor bytes cuts held taken
        → F.StandsFor bytes cuts held' (taken ++ message ∷ []) × F.IsNext bytes cuts taken message) where
      abbrev Answers : Result Next (NextError E) → Type 0
      Answers result = AnswersAs F A message now result next made

      abbrev Taken : Result Next (NextError E) → Type 0
      Taken result = Takes F A told held (held', made) now next result

      replied : Answers (Ok Reply) → Taken (Ok Reply)
      replied (x, answered, fits, some, e) = record {
        fresh = x ∷ [];
        ends = next;
        run = (next, answered.step, refl);
        asked = (x, refl, some, refl);
        stands = λ behind s. answered_on behind held s message held' now next x (finds behind.bytes behind.cuts s.taken s.stands).0 answered fits made e;
      }

      silenced : Answers (Ok Silent) → Taken (Ok Silent)
      silenced (x, answered, fits, quiet, none) = record {
        fresh = x ∷ [];
        ends = next;
        run = (next, answered.step, refl);
        asked = (x, refl, quiet, refl);
        stands = λ behind s. answered_on behind held s message held' now next x (finds behind.bytes behind.cuts s.taken s.stands).0 answered fits [] (sym (silent_reply x quiet));
      }

      -- it is not answered
      unanswered : (error : NextError E) → ((behind : Past F) → Stands F behind held [] → TakesAs F A told (with_exchanges behind []) (held', made) now next (Err error)) → Taken (Err error)
      unanswered error stands = record { fresh = []; ends = now; run = refl; asked = refl; stands = stands }

      refuses : (reason : _) → Answers (Err (Refused reason)) → Taken (Err (Refused reason))
      refuses reason (e, same) =
          unanswered (Refused reason) (λ behind s.
          halted_on behind held s (refused reason) now next (message, (finds behind.bytes behind.cuts s.taken s.stands).1, e, same))

      overlong : (size : ℕ) → Answers (Err (TooLong size)) → Taken (Err (TooLong size))
      overlong size (x, answered, e, long) =
          unanswered (TooLong size) (λ behind s.
          halted_on behind held s (too_long size) now next (message, (finds behind.bytes behind.cuts s.taken s.stands).1, x, answered.asked, answered.step, e, long))

      wants : Answers (Err NoMemory) → Taken (Err NoMemory)
      wants (request, is, wanted) =
          unanswered NoMemory (λ behind s.
          let is_next = (finds behind.bytes behind.cuts s.taken s.stands).1 in
          none_on (λ b. WantsAfter F A b now next × NextIsRequest F b.bytes b.cuts b.exchanges) behind (
            (held, s, inl (message, is_next, (request, is, wanted))),
            (s.taken, message, is_next, s.asked, request, is),
          ))

      pub takes_on : (result : Result Next (NextError E)) → Answers result → Taken result
      takes_on (Ok Reply) h = replied h
      takes_on (Ok Silent) h = silenced h
      takes_on (Ok Waiting) h = absurd h
      takes_on (Err (Broken fault)) h = absurd h
      takes_on (Err (Refused reason)) h = refuses reason h
      takes_on (Err (TooLong size)) h = overlong size h
      takes_on (Err NoMemory) h = wants h

    -- a run of a service from the first and its end are the end of a call
    module _ (behind : Past F) (opening ends now : S) (run : Run F A opening behind.exchanges ends) where
      served : (halt : Halt) → StopsAfter F A behind ends now halt → Served F A behind.bytes behind.cuts opening now behind.written halt
      served halt s = record { before = s.before; exchanges = behind.exchanges; asked = s.asked; fit = s.fit; ends = ends; run = run; wrote = s.wrote; halts = s.halts }

      pub ends_whole : (result : Result (Unit {0}) ProcessError) → EndsAfter F A behind ends now result → EndsAs F A behind.bytes behind.cuts opening now behind.written result
      unfolding served
      ends_whole (Ok done) s = served (remaining []) s
      ends_whole (Err BytesRemaining) (left, some, s) = (left, some, served (remaining left) s)
      ends_whole (Err ReadFault) (left, s) = (left, served (remaining left) s)
      ends_whole (Err TurnLimit) (left, s) = (left, served (remaining left) s)
      ends_whole (Err (InvalidRequest reason)) s = served (refused reason) s
      ends_whole (Err (ResponseTooLong size)) s = served (too_long size) s
      ends_whole (Err WriteFault) (held, waiting, s, same) =
          record { held = held; waiting = waiting; exchanges = behind.exchanges; run = subst (λ n. Run F A opening behind.exchanges n) (sym same) run; stood = s }
      ends_whole (Err process.NoMemory) (held, s, cause) = record { held = held; exchanges = behind.exchanges; ends = ends; run = run; stood = s; cause = cause }
      ends_whole (Err TooManyRetries) s = served (broken TooManyRetries) s
      ends_whole (Err InvalidLength) s = served (broken InvalidLength) s
      ends_whole (Err (InvalidProtocol protocol)) s = served (broken (InvalidProtocol protocol)) s

      -- the exchanges of one that came to the end
      pub exchanges_whole : (s : EndsAfter F A behind ends now (Ok tt)) → (ends_whole (Ok tt) s).exchanges ≡ behind.exchanges
      unfolding ends_whole served
      exchanges_whole s = refl

    -- and the end of a call is such a run and its end
    abbrev pub SplitEnd : List ℕ → List ℕ → S → S → List ℕ → Result (Unit {0}) ProcessError → Type 0
    SplitEnd bytes cuts opening now written result =
        (exchanges : List (Exchange F)) × (ends : S) × Run F A opening exchanges ends × EndsAfter F A (past bytes cuts written exchanges) ends now result

    stops_split : (bytes cuts : List ℕ) (opening now : S) (written : List ℕ) (halt : Halt) (s : Served F A bytes cuts opening now written halt)
        → StopsAfter F A (past bytes cuts written s.exchanges) s.ends now halt
    stops_split bytes cuts opening now written halt s = record { before = s.before; asked = s.asked; fit = s.fit; wrote = s.wrote; halts = s.halts }

    pub ends_split : (bytes cuts : List ℕ) (opening now : S) (written : List ℕ) (result : Result (Unit {0}) ProcessError) → EndsAs F A bytes cuts opening now written result → SplitEnd bytes cuts opening now written result
    ends_split bytes cuts opening now written (Ok done) s = (s.exchanges, s.ends, s.run, stops_split bytes cuts opening now written (remaining []) s)
    ends_split bytes cuts opening now written (Err BytesRemaining) (left, some, s) = (s.exchanges, s.ends, s.run, (left, some, stops_split bytes cuts opening now written (remaining left) s))
    ends_split bytes cuts opening now written (Err ReadFault) (left, s) = (s.exchanges, s.ends, s.run, (left, stops_split bytes cuts opening now written (remaining left) s))
    ends_split bytes cuts opening now written (Err TurnLimit) (left, s) = (s.exchanges, s.ends, s.run, (left, stops_split bytes cuts opening now written (remaining left) s))
    ends_split bytes cuts opening now written (Err (InvalidRequest reason)) s = (s.exchanges, s.ends, s.run, stops_split bytes cuts opening now written (refused reason) s)
    ends_split bytes cuts opening now written (Err (ResponseTooLong size)) s = (s.exchanges, s.ends, s.run, stops_split bytes cuts opening now written (too_long size) s)
    ends_split bytes cuts opening now written (Err WriteFault) u = (u.exchanges, now, u.run, (u.held, u.waiting, u.stood, refl))
    ends_split bytes cuts opening now written (Err process.NoMemory) w = (w.exchanges, w.ends, w.run, (w.held, w.stood, w.cause))
    ends_split bytes cuts opening now written (Err TooManyRetries) s = (s.exchanges, s.ends, s.run, stops_split bytes cuts opening now written (broken TooManyRetries) s)
    ends_split bytes cuts opening now written (Err InvalidLength) s = (s.exchanges, s.ends, s.run, stops_split bytes cuts opening now written (broken InvalidLength) s)
    ends_split bytes cuts opening now written (Err (InvalidProtocol protocol)) s = (s.exchanges, s.ends, s.run, stops_split bytes cuts opening now written (broken (InvalidProtocol protocol)) s)

    -- the answer to the next message wants memory only for that message
    pub next_takes : {E : Type 0} (message : Message F.Header) (old new : S) (made : List ℕ) (bytes cuts : List ℕ) (taken : List (Message F.Header)) (result : Result Next (NextError E))
        → AnswersAs F A message old result new made → F.IsNext bytes cuts taken message → result ≡ Err NoMemory → NextTakesMemory F A bytes cuts taken old new
    next_takes message old new made bytes cuts taken (Ok answer) h is_next e = cc
    next_takes message old new made bytes cuts taken (Err (Broken fault)) h is_next e = cc
    next_takes message old new made bytes cuts taken (Err (Refused reason)) h is_next e = cc
    next_takes message old new made bytes cuts taken (Err (TooLong size)) h is_next e = cc
    next_takes message old new made bytes cuts taken (Err NoMemory) h is_next e = (message, is_next, h)
