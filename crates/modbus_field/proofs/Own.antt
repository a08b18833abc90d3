-- What a run sends of an answerer that keeps to its own.
use Rattle.std.proofs.Common.{◌≡◌, ◌⊎◌, inl, inr, ℕ, true, List, [], ◌∷◌, ◌++◌, refl, sym, ap, ◌∙◌, subst, Result, Ok, Err, All, append-nil}
use Rattle.std.specs.List.{flat_map}
use Rattle.std.proofs.lemmas.List.Concat.{flat_map-append}
use Rattle.std.proofs.lemmas.List.Elements.{All-nil, All-cons, All-append}
use Rattle.modbus_pdu.specs.SlavePdu.{SlavePdu}
use Rattle.modbus_pdu.specs.Message.{Message, message}
use Rattle.modbus_rtu.specs.Frame.{frame}
use Rattle.modbus_link.specs.Reads.{totals}
use Rattle.modbus_service.specs.Answering.{Answering}
use Rattle.modbus_service.specs.Outcome.{Outcome, silence, reply, exception, code_of, reply_pdu}
use Rattle.modbus_server.specs.declared.error.ProcessError.{ProcessError}
use Rattle.modbus_server.specs.declared.error.ProcessError.TheVariants.{ReadFault, WriteFault, TooManyRetries, BytesRemaining, InvalidLength, InvalidProtocol, InvalidRequest, ResponseTooLong, TurnLimit, NoMemory}
use Rattle.modbus_server.specs.Exchanges.{Exchange, GivesOutcome, Run, framed_outcome, reply_of, output}
use Rattle.modbus_server.specs.Served.{Served, Halt, Halts, remaining, broken, refused, too_long, WantsMemory, EndsAs}
use Rattle.modbus_server.specs.Step.{Ran}
use Rattle.modbus_server.specs.Moment.{Moment}
use Rattle.modbus_field.specs.declared.burst.frame.Part.{Part}
use Rattle.modbus_field.specs.declared.burst.frame.Part.TheVariants.{Last, Earlier, Unasked}
use Rattle.modbus_field.specs.declared.burst.frame.FrameHeader.{FrameHeader}
use Rattle.modbus_field.specs.Bursts.{answer_frame, slave_asked, asked_by}
use Rattle.modbus_field.specs.BurstFraming.{bursts}
use Rattle.modbus_field.specs.BurstLine.{SendsOwn}
use Rattle.modbus_field.specs.LineAnswers.{is_among, KeepsToOwn, frame_to, IsOfOwn}

-- bytes are frames of these addresses, all of them
record Whole (own bytes : List ℕ) : Type 0 where
  frames : List SlavePdu
  each : All (λ (it : SlavePdu). is_among own it.header ≡ true) frames
  is : bytes ≡ flat_map frame_to frames

none : (own : List ℕ) → Whole own []
none own = record { frames = []; each = All-nil (λ (it : SlavePdu). is_among own it.header ≡ true); is = refl }

both : (own a b : List ℕ) → Whole own a → Whole own b → Whole own (a ++ b)
both own a b x y = record {
  frames = x.frames ++ y.frames;
  each = All-append (λ (it : SlavePdu). is_among own it.header ≡ true) x.frames y.frames x.each y.each;
  is = ap (λ l. l ++ b) x.is ∙ ap (λ l. flat_map frame_to x.frames ++ l) y.is ∙ sym (flat_map-append frame_to x.frames y.frames);
}

one : (own : List ℕ) (part : Part) (slave : ℕ) (pdu : List ℕ) → is_among own (asked_by part slave) ≡ true
    → Whole own (answer_frame (record { slave = slave; part = part }) pdu)
one own Last slave pdu is = record {
  frames = message slave pdu ∷ [];
  each = All-cons (λ (it : SlavePdu). is_among own it.header ≡ true) (message slave pdu) [] is (All-nil (λ (it : SlavePdu). is_among own it.header ≡ true));
  is = sym (append-nil (frame slave pdu));
}
one own Earlier slave pdu is = none own
one own Unasked slave pdu is = none own

framed : (own : List ℕ) (h : FrameHeader) (code : ℕ) (outcome : Outcome) → (is_among own (slave_asked h) ≡ true) ⊎ (outcome ≡ silence)
    → Whole own (framed_outcome bursts h code outcome)
framed own h code silence any = none own
framed own h code (reply r) (inl is) = one own h.part h.slave (reply_pdu code (reply r)) is
framed own h code (reply r) (inr e) = cc
framed own h code (exception e) (inl is) = one own h.part h.slave (reply_pdu code (exception e)) is
framed own h code (exception e) (inr f) = cc

module _ {S : Type 0} (A : Answering S) (addresses : S → List ℕ) (IsQuiet : S → Type 0) (keeps : KeepsToOwn A addresses IsQuiet) where
  -- a quiet state that has these addresses
  record StandsQuiet (own : List ℕ) (now : S) : Type 0 where
    quiet : IsQuiet now
    same : addresses now ≡ own

  module _ (own : List ℕ) where
    gave : (old new : S) (x : Exchange bursts) → StandsQuiet own old → GivesOutcome bursts A old x new → StandsQuiet own new × Whole own (reply_of bursts x)
    gave old new x stands step =
        let after = keeps.gives old new (slave_asked x.header) x.request x.outcome stands.quiet step in (
          record { quiet = after.0; same = after.1 ∙ stands.same },
          framed own x.header (code_of x.request) x.outcome (subst (λ it. (is_among it (slave_asked x.header) ≡ true) ⊎ (x.outcome ≡ silence)) stands.same after.2),
        )

    ran_over : (start : S) (xs : List (Exchange bursts)) (last : S) → StandsQuiet own start → Run bursts A start xs last
        → StandsQuiet own last × Whole own (output bursts xs)
    ran_over start [] last stands same = (subst (StandsQuiet own) (sym same) stands, none own)
    ran_over start (x ∷ xs) last stands (next, step, rest) =
        let first = gave start next x stands step in
        let others = ran_over next xs last first.0 rest in
        (others.0, both own (reply_of bursts x) (output bursts xs) first.1 others.1)

    all_of : (bytes : List ℕ) → Whole own bytes → IsOfOwn own bytes
    all_of bytes whole = record { frames = whole.frames; each = whole.each; front = ([], sym whole.is ∙ sym (append-nil bytes)) }

    front_of : (bytes rest all : List ℕ) → bytes ++ rest ≡ all → Whole own all → IsOfOwn own bytes
    front_of bytes rest all split whole = record { frames = whole.frames; each = whole.each; front = (rest, sym whole.is ∙ sym split) }

    wanting : (bytes cuts held : List ℕ) (taken : List (Message bursts.Header)) (ends now : S) → StandsQuiet own ends → WantsMemory bursts A bytes cuts held taken ends now
        → StandsQuiet own now
    wanting bytes cuts held taken ends now stands (inl (said, next, (q, asked, inl (carries, same)))) = subst (StandsQuiet own) (sym same) stands
    wanting bytes cuts held taken ends now stands (inl (said, next, (q, asked, inr wants))) =
        let after = keeps.wants ends now (slave_asked said.header) q stands.quiet wants in
        record { quiet = after.0; same = after.1 ∙ stands.same }
    wanting bytes cuts held taken ends now stands (inr (inl (never, all, same))) = absurd never
    wanting bytes cuts held taken ends now stands (inr (inr (nothing, none_taken, same))) = subst (StandsQuiet own) (sym same) stands

    module _ (bytes cuts : List ℕ) (opening now : S) (sent : List ℕ) (stands : StandsQuiet own opening) where
      halted : (halt : Halt) (before : _) (ends : S) → StandsQuiet own ends → Halts bursts A bytes cuts before ends now halt → StandsQuiet own now
      halted (remaining left) before ends at (all, same) = subst (StandsQuiet own) (sym same) at
      halted (broken fault) before ends at (is, same) = subst (StandsQuiet own) (sym same) at
      halted (refused reason) before ends at (said, next, bad, same) = subst (StandsQuiet own) (sym same) at
      halted (too_long size) before ends at (said, next, x, asked, step, is, long) = (gave ends now x at step).0

      served : (halt : Halt) → Served bursts A bytes cuts opening now sent halt → StandsQuiet own now × IsOfOwn own sent
      served halt s =
          let run = ran_over opening s.exchanges s.ends stands s.run in
          (halted halt s.before s.ends run.0 s.halts, subst (IsOfOwn own) (sym s.wrote) (all_of (output bursts s.exchanges) run.1))

      ended : (result : Result (Unit {0}) ProcessError) → EndsAs bursts A bytes cuts opening now sent result → StandsQuiet own now × IsOfOwn own sent
      ended (Ok done) s = served (remaining []) s
      ended (Err BytesRemaining) (left, some, s) = served (remaining left) s
      ended (Err ReadFault) (left, s) = served (remaining left) s
      ended (Err TurnLimit) (left, s) = served (remaining left) s
      ended (Err (InvalidRequest reason)) s = served (refused reason) s
      ended (Err (ResponseTooLong size)) s = served (too_long size) s
      ended (Err TooManyRetries) s = served (broken TooManyRetries) s
      ended (Err InvalidLength) s = served (broken InvalidLength) s
      ended (Err (InvalidProtocol protocol)) s = served (broken (InvalidProtocol protocol)) s
      ended (Err WriteFault) u =
          let run = ran_over opening u.exchanges now stands u.run in
          (run.0, front_of sent u.waiting (output bursts u.exchanges) u.stood.wrote run.1)
      ended (Err NoMemory) w =
          let run = ran_over opening w.exchanges w.ends stands w.run in
          (wanting bytes cuts w.held w.stood.taken w.ends now run.0 w.cause, front_of sent [] (output bursts w.exchanges) w.stood.wrote run.1)

  -- what a call sends is of its own, and it keeps its addresses
  pub sends_own : (turns : ℕ) (before after : Moment S) (result : Result (Unit {0}) ProcessError) → IsQuiet before.service
      → Ran bursts A turns before after result → SendsOwn A (addresses before.service) turns before after result
  sends_own turns before after result quiet ran =
      (ran, (ended (addresses before.service) ran.fed (totals ran.made) before.service after.service ran.sent (record { quiet = quiet; same = refl }) result ran.served).1)

  pub keeps_addresses : (turns : ℕ) (before after : Moment S) (result : Result (Unit {0}) ProcessError) → IsQuiet before.service
      → Ran bursts A turns before after result → addresses after.service ≡ addresses before.service
  keeps_addresses turns before after result quiet ran =
      (ended (addresses before.service) ran.fed (totals ran.made) before.service after.service ran.sent (record { quiet = quiet; same = refl }) result ran.served).0.same
