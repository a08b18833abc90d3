-- A server that is given the frame of one request as its whole input asks its service once.
use Rattle.std.proofs.Common.{◌≡◌, ◌⊎◌, inl, inr, ℕ, ◌<◌, ◌≤◌, List, [], ◌∷◌, ◌++◌, map, length, Ok, Err, Result, refl, sym, ap, ◌∙◌, subst, arith, append-nil, length-append}
use Rattle.std.specs.Prelude.{All}
use Rattle.std.proofs.lemmas.List.Elements.{All-contains}
use Rattle.modbus_frame.specs.Meaning.{Asked}
use Rattle.modbus_frame.specs.declared.fault.Reason.{Reason}
use Rattle.modbus_pdu.specs.Limits.{max_pdu}
use Rattle.modbus_pdu.specs.RequestOf.{request_of}
use Rattle.modbus_pdu.specs.SlavePdu.{SlavePdu}
use Rattle.modbus_pdu.specs.Message.{message}
use Rattle.modbus_rtu.specs.Leftmost.{IsLeftmost}
use Rattle.modbus_rtu.specs.Stands.{HasCrowd, IsTakenNext, IsUsedUp, frame_at}
use Rattle.modbus_rtu.specs.Quiet.{IsQuietLine}
use Rattle.modbus_service.specs.Outcome.{Outcome, code_of, reply_pdu}
use Rattle.modbus_service.specs.Answering.{Answering}
use Rattle.modbus_server.specs.declared.error.ProcessError.{ProcessError}
use Rattle.modbus_server.specs.declared.error.ProcessError.TheVariants.{ReadFault, WriteFault, BytesRemaining, InvalidRequest, ResponseTooLong, TurnLimit, TooManyRetries, NoMemory}
use Rattle.modbus_server.specs.Exchanges.{Exchange, Question, GivesOutcome, Run, ReplyFits, framed_outcome, output, told_reply_size, asked_of, asks}
use Rattle.modbus_server.specs.Piece.{IsOfNoRead}
use Rattle.modbus_server.specs.Rtu.{rtu, IsCrowdedAfter}
use Rattle.modbus_server.specs.Served.{Served, Halts, remaining, broken, refused, too_long, EndsAs}
use Rattle.modbus_local.specs.Exchange.{IsWantOfMemory}

abbrev pub LinesAreCalm : Type 0
LinesAreCalm = (read rest cuts : List ℕ) (messages : List SlavePdu) (k : ℕ) → IsQuietLine (read ++ rest) messages → HasCrowd read cuts k → ⊥

abbrev pub NextsAreOfLines : Type 0
NextsAreOfLines = (read rest cuts : List ℕ) (messages before : List SlavePdu) (message : SlavePdu) → IsQuietLine (read ++ rest) messages → IsTakenNext read cuts before message
    → (later : List SlavePdu) × (messages ≡ (before ++ message ∷ []) ++ later)

abbrev pub LinesAreUsed : Type 0
LinesAreUsed = (read cuts left : List ℕ) (messages before : List SlavePdu) → IsQuietLine read messages → IsUsedUp read cuts left before → left ≡ []

abbrev pub ReadingsAreOne : Type 0
ReadingsAreOne = (bytes frames others : List ℕ) (stop last : ℕ) → IsLeftmost bytes frames stop → IsLeftmost bytes others last → (frames ≡ others) × (stop ≡ last)

-- what it writes: the reply, which fits; or nothing, where the PDU of the reply doesn't
abbrev pub IsSent : ℕ → Asked → Outcome → List ℕ → Type 0
IsSent slave asked outcome sent =
    ((sent ≡ framed_outcome rtu slave (code_of asked) outcome) × (length (reply_pdu (code_of asked) outcome) ≤ max_pdu))
    ⊎ ((sent ≡ []) × (max_pdu < length (reply_pdu (code_of asked) outcome)))

pub record AskedOnce {S : Type 0} (A : Answering S) (before after : S) (slave : ℕ) (asked : Asked) (sent : List ℕ) : Type 0 where
  pub outcome : Outcome
  pub gave : A.gives before slave asked outcome after
  pub wrote : IsSent slave asked outcome sent

-- the first message of one alone
first_of_one : (before later : List SlavePdu) (m message : SlavePdu) → m ∷ [] ≡ (before ++ message ∷ []) ++ later → (before ≡ []) × (message ≡ m)
first_of_one [] later m message e = (refl, cc)
first_of_one (b ∷ before) later m message e = absurd (omega (arith, ap length e, length-append ((b ∷ before) ++ message ∷ []) later, length-append (b ∷ before) (message ∷ [])))

module _ (calm : LinesAreCalm) (next : NextsAreOfLines) (used : LinesAreUsed) (one : ReadingsAreOne) (slave : ℕ) (pdu : List ℕ) (asked : Asked) (means : request_of pdu ≡ Ok asked) (bytes cuts : List ℕ)
    (quiet : IsQuietLine bytes (message slave pdu ∷ [])) where
  again : IsQuietLine (bytes ++ []) (message slave pdu ∷ [])
  again = subst (λ b. IsQuietLine b (message slave pdu ∷ [])) (sym (append-nil bytes)) quiet

  next_is : (before : List SlavePdu) (m : SlavePdu) → IsTakenNext bytes cuts before m → (before ≡ []) × (m ≡ message slave pdu)
  next_is before m t = let later = next bytes [] cuts (message slave pdu ∷ []) before m again t in first_of_one before later.0 (message slave pdu) m later.1

  all_is : (held : List ℕ) (taken : List SlavePdu) → IsUsedUp bytes cuts held taken → taken ≡ message slave pdu ∷ []
  all_is held taken u = u.took ∙ ap (map (frame_at bytes)) (one bytes u.frames quiet.frames u.stop (length bytes) u.reading quiet.reading).0 ∙ sym quiet.are

  abbrev exchange_of : Outcome → Exchange rtu
  exchange_of outcome = record { header = slave; request = asked; outcome = outcome }

  is_exchange : (x : Exchange rtu) → asked_of rtu (message slave pdu) ≡ asks rtu x → x ≡ exchange_of x.outcome
  is_exchange x e =
      let header : x.header ≡ slave = sym (ap (λ (q : Question rtu). q.0) e) in
      let read : Ok x.request ≡ Ok asked = sym (ap (λ (q : Question rtu). q.1) e) ∙ means in
      let request : x.request ≡ asked = cc in
      ap (λ (h : ℕ). record { header = h; request = x.request; outcome = x.outcome }) header ∙ ap (λ (r : Asked). record { header = slave; request = r; outcome = x.outcome }) request

  one_exchange : (xs : List (Exchange rtu)) → map (asked_of rtu) (message slave pdu ∷ []) ≡ map (asks rtu) xs → (outcome : Outcome) × (xs ≡ exchange_of outcome ∷ [])
  one_exchange [] e = cc
  one_exchange (x ∷ []) e =
      let first : asked_of rtu (message slave pdu) ≡ asks rtu x = cc in
      (x.outcome, ap (λ y. y ∷ []) (is_exchange x first))
  one_exchange (x ∷ y ∷ xs) e = cc

  no_exchange : (xs : List (Exchange rtu)) → [] ≡ map (asks rtu) xs → xs ≡ []
  no_exchange [] e = refl
  no_exchange (x ∷ xs) e = cc

  module _ {S : Type 0} (A : Answering S) (opening now : S) (sent : List ℕ) where
    -- it stops after all messages
    answered : (left : List ℕ) → Served rtu A bytes cuts opening now sent (remaining left) → AskedOnce A opening now slave asked sent
    answered left s =
        let whole : map (asked_of rtu) (message slave pdu ∷ []) ≡ map (asks rtu) s.exchanges = ap (map (asked_of rtu)) (sym (all_is left s.before s.halts.0)) ∙ s.asked in
        let (outcome, is) = one_exchange s.exchanges whole in
        let (mid, step, stays) = subst (λ xs. Run rtu A opening xs s.ends) is s.run in
        let fit : All (ReplyFits rtu) (exchange_of outcome ∷ []) = subst (λ xs. All (ReplyFits rtu) xs) is s.fit in
        let end : mid ≡ now = sym (s.halts.1 ∙ stays) in
        record {
          outcome = outcome;
          gave = subst (λ n. A.gives opening slave asked outcome n) end step;
          wrote = inl (
            s.wrote ∙ ap (output rtu) is ∙ append-nil (framed_outcome rtu slave (code_of asked) outcome),
            All-contains (ReplyFits rtu) (exchange_of outcome ∷ []) (exchange_of outcome) fit (0, omega arith, refl),
          );
        }

    -- it stops at the response, which is too long
    cut_off : (size : ℕ) → Served rtu A bytes cuts opening now sent (too_long size) → AskedOnce A opening now slave asked sent
    cut_off size s = by_halts s.halts
      where
        by_halts : Halts rtu A bytes cuts s.before s.ends now (too_long size) → AskedOnce A opening now slave asked sent
        by_halts (message, t, x, asked-x, step, told, long) =
            let is = next_is s.before message t in
            let none : s.exchanges ≡ [] = no_exchange s.exchanges (sym (ap (map (asked_of rtu)) is.0) ∙ s.asked) in
            let start : s.ends ≡ opening = subst (λ xs. Run rtu A opening xs s.ends) none s.run in
            let same : x ≡ exchange_of x.outcome = is_exchange x (sym (ap (asked_of rtu) is.1) ∙ asked-x) in
            let size_is : told_reply_size rtu x ≡ told_reply_size rtu (exchange_of x.outcome) = ap (told_reply_size rtu) same in
            record {
              outcome = x.outcome;
              gave = subst (λ n. A.gives n slave asked x.outcome now) start (subst (λ y. GivesOutcome rtu A s.ends y now) same step);
              wrote = inr (s.wrote ∙ ap (output rtu) none, omega (arith, told, size_is, long));
            }

    never_refused : (reason : Reason) → Served rtu A bytes cuts opening now sent (refused reason) → ⊥
    never_refused reason s = by_halts s.halts
      where
        by_halts : Halts rtu A bytes cuts s.before s.ends now (refused reason) → ⊥
        by_halts (message, t, bad, same) =
            let is = next_is s.before message t in
            let clash : Ok asked ≡ Err reason = sym means ∙ sym (ap (λ (m : SlavePdu). request_of m.pdu) is.1) ∙ bad in
            cc

    never_broken : (fault : ProcessError) → Served rtu A bytes cuts opening now sent (broken fault) → ⊥
    never_broken fault s = by_halts fault s.before s.halts.0
      where
        by_halts : (fault : ProcessError) (before : List SlavePdu) → IsCrowdedAfter bytes cuts before fault → ⊥
        by_halts TooManyRetries before (k, first) = calm bytes [] cuts (message slave pdu ∷ []) k again first.crowd
        by_halts _ before b = absurd b

    never_left : (left : List ℕ) → (left ≡ [] → ⊥) → Served rtu A bytes cuts opening now sent (remaining left) → ⊥
    never_left left some s = some (used bytes cuts left (message slave pdu ∷ []) s.before quiet s.halts.0)

    pub asked_once : (result : Result (Unit {0}) ProcessError) → IsOfNoRead result → (IsWantOfMemory result → ⊥) → EndsAs rtu A bytes cuts opening now sent result → AskedOnce A opening now slave asked sent
    asked_once (Ok done) only unwanted ends = answered [] ends
    asked_once (Err NoMemory) only unwanted ends = absurd (unwanted tt)
    asked_once (Err ReadFault) only unwanted ends = absurd only
    asked_once (Err WriteFault) only unwanted ends = absurd (unwanted tt)
    asked_once (Err TurnLimit) only unwanted ends = absurd only
    asked_once (Err (InvalidRequest reason)) only unwanted ends = absurd (never_refused reason ends)
    asked_once (Err (ResponseTooLong size)) only unwanted ends = cut_off size ends
    asked_once (Err BytesRemaining) only unwanted (left, some, s) = absurd (never_left left some s)
    asked_once (Err _) only unwanted ends = absurd (never_broken _ ends)
