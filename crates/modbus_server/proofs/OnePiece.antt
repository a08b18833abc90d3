-- A run over bytes in memory, whose replies are appended to others.
use Rattle.std.proofs.Common.{◌≡◌, ◌≢◌, ℕ, ◌<◌, List, [], ◌∷◌, ◌++◌, length, refl, sym, ap, ◌∙◌, subst, Ok, Err, IsTrue, append-nil, append_assoc, inl, inr}
use Rattle.modbus_server.specs.declared.error.ProcessError.{ProcessError}
use Rattle.modbus_server.specs.declared.error.ProcessError.TheVariants.{WriteFault, BytesRemaining, NoMemory}
use Rattle.modbus_server.specs.declared.error.NextError.{NextError}
use Rattle.modbus_server.specs.declared.error.Next.TheVariants.{Reply, Silent, Waiting}
use Rattle.modbus_server.specs.Framing.{Framing}
use Rattle.modbus_service.specs.Answering.{Answering}
use Rattle.std.proofs.lemmas.List.Elements.{All-nil}
use Rattle.modbus_server.specs.Exchanges.{Exchange, Run, ReplyFits}
use Rattle.modbus_server.specs.Served.{Past, past, Stands, StopsAfter, EndsAfter, remaining}
use Rattle.modbus_server.specs.State.{State}
use Rattle.modbus_server.specs.Next.{Took, Fed, told_next, IsToldWell}
use Rattle.modbus_server.specs.Piece.{IsOfNoRead, ServedHeld, ServedPiece}
use Rattle.modbus_server.proofs.Standing.{sent_on, halted, runs_both, ends_whole}
use Rattle.modbus_server.proofs.Stepping.{ends_told, other_than}

module _ (F : Framing) {S : Type 0} (A : Answering S) (start : S) (held : List ℕ) (old : List ℕ) where
  -- what the loop keeps
  pub record Going (now : S) (items : List ℕ) (state : State) : Type 0 where
    pub sent : List ℕ
    pub fresh : List (Exchange F)
    pub appended : items ≡ old ++ sent
    pub run : Run F A start fresh now
    pub stands : (behind : Past F) → Stands F behind held []
        → Stands F (past behind.bytes behind.cuts (behind.written ++ sent) (behind.exchanges ++ fresh)) state.held []
    pub waiting : state.waiting ≡ []
    pub ready : IsTrue state.is_open

  pub going : (state : State) → held ≡ state.held → state.waiting ≡ [] → IsTrue state.is_open → Going start old state
  going state same waiting ready = record {
    sent = [];
    fresh = [];
    appended = sym (append-nil old);
    run = refl;
    stands = λ behind s.
        subst (λ w. Stands F (past behind.bytes behind.cuts w (behind.exchanges ++ [])) state.held []) (sym (append-nil behind.written))
        (subst (λ xs. Stands F (past behind.bytes behind.cuts behind.written xs) state.held []) (sym (append-nil behind.exchanges)) (subst (λ h. Stands F behind h []) same s));
    waiting = waiting;
    ready = ready;
  }

  module _ {E : Type 0} (told : E → ProcessError) (now next : S) (items : List ℕ) (state mid : State) (g : Going now items state) where
    -- what it has behind it after that many more exchanges
    abbrev onward : Past F → List (Exchange F) → List ℕ → Past F
    onward behind fresh sent = past behind.bytes behind.cuts (behind.written ++ sent) (behind.exchanges ++ (g.fresh ++ fresh))

    regrouped : (P : Past F → Type 0) (behind : Past F) (fresh : List (Exchange F)) (sent : List ℕ)
        → P (past behind.bytes behind.cuts (behind.written ++ sent) ((behind.exchanges ++ g.fresh) ++ fresh)) → P (onward behind fresh sent)
    regrouped P behind fresh sent p = subst (λ xs. P (past behind.bytes behind.cuts (behind.written ++ sent) xs)) (append_assoc behind.exchanges g.fresh fresh) p

    abbrev earlier : Past F → Past F
    earlier behind = past behind.bytes behind.cuts (behind.written ++ g.sent) (behind.exchanges ++ g.fresh)

    all_run : (fresh : List (Exchange F)) (ends : S) → Run F A now fresh ends → Run F A start (g.fresh ++ fresh) ends
    all_run fresh ends run = runs_both F A start g.fresh now fresh ends g.run run

    pub silent_on : Took F A told state mid now next (Ok Silent) → Going next items mid
    silent_on took =
        let t = took.takes in record {
          sent = g.sent;
          fresh = g.fresh ++ t.fresh;
          appended = g.appended;
          run = all_run t.fresh next (subst (λ s. Run F A now t.fresh s) (sym t.asked.3) t.run);
          stands = λ behind s. regrouped (λ b. Stands F b mid.held []) behind t.fresh g.sent (t.stands (earlier behind) (g.stands behind s));
          waiting = took.keeps.1;
          ready = took.goes_on;
        }

    pub replied_on : (items' : List ℕ) (new : State) → items' ≡ items ++ mid.waiting → new ≡ record mid { waiting = [] } → Took F A told state mid now next (Ok Reply) → Going next items' new
    replied_on items' new kept taken took =
        let t = took.takes in record {
          sent = g.sent ++ mid.waiting;
          fresh = g.fresh ++ t.fresh;
          appended = kept ∙ ap (λ i. i ++ mid.waiting) g.appended ∙ append_assoc old g.sent mid.waiting;
          run = all_run t.fresh next (subst (λ s. Run F A now t.fresh s) (sym t.asked.3) t.run);
          stands = λ behind s.
              let all = (behind.exchanges ++ g.fresh) ++ t.fresh in
              let wrote = sent_on F (past behind.bytes behind.cuts (behind.written ++ g.sent) all) mid.held mid.waiting mid.waiting [] (sym (append-nil mid.waiting)) (t.stands (earlier behind) (g.stands behind s)) in
              regrouped (λ b. Stands F b new.held []) behind t.fresh (g.sent ++ mid.waiting)
              (subst (λ b. Stands F (past behind.bytes behind.cuts (behind.written ++ (g.sent ++ mid.waiting)) all) b []) (sym (ap (λ (x : State). x.held) taken))
              (subst (λ w. Stands F (past behind.bytes behind.cuts w all) mid.held []) (append_assoc behind.written g.sent mid.waiting) wrote));
          waiting = ap (λ (x : State). x.waiting) taken;
          ready = subst (λ b. IsTrue b) (sym (ap (λ (x : State). x.is_open) taken)) took.goes_on;
        }

    pub unkept : (items' : List ℕ) → items' ≡ items → Took F A told state mid now next (Ok Reply) → ServedHeld F A held start next old items' (Err WriteFault)
    unkept items' same took =
        let t = took.takes in record {
          sent = g.sent;
          appended = same ∙ g.appended;
          only = tt;
          fresh = g.fresh ++ t.fresh;
          ends = t.ends;
          run = all_run t.fresh t.ends t.run;
          served = λ behind s.
              (mid.held, mid.waiting, regrouped (λ b. Stands F b mid.held mid.waiting) behind t.fresh g.sent (t.stands (earlier behind) (g.stands behind s)), t.asked.3);
        }

    pub refused_at : (error : NextError E) → IsToldWell told error → Took F A told state mid now next (Err error) → ServedHeld F A held start next old items (Err (told_next told error))
    refused_at error own took =
        let t = took.takes in record {
          sent = g.sent;
          appended = g.appended;
          only = other_than F A told (λ e. IsOfNoRead (Err e)) tt tt (λ p. tt) (λ r. tt) (λ n. tt) tt error own;
          fresh = g.fresh ++ t.fresh;
          ends = t.ends;
          run = all_run t.fresh t.ends t.run;
          served = λ behind s.
              regrouped (λ b. EndsAfter F A b t.ends next (Err (told_next told error))) behind t.fresh g.sent
              (ends_told F A told (past behind.bytes behind.cuts (behind.written ++ g.sent) ((behind.exchanges ++ g.fresh) ++ t.fresh)) (mid.held, mid.waiting) t.ends next error own
              (t.stands (earlier behind) (g.stands behind s)));
        }

    -- the input ends with these bytes left
    stopped : (took : Took F A told state mid now next (Ok Waiting)) (behind : Past F) → Stands F behind held [] → StopsAfter F A (onward behind took.takes.fresh g.sent) took.takes.ends next (remaining mid.held)
    stopped took behind s =
        let t = took.takes in
        let h = t.stands (earlier behind) (g.stands behind s) in
        regrouped (λ b. StopsAfter F A b t.ends next (remaining mid.held)) behind t.fresh g.sent
        (halted F A (past behind.bytes behind.cuts (behind.written ++ g.sent) ((behind.exchanges ++ g.fresh) ++ t.fresh)) mid.held h.0 (remaining mid.held) t.ends next (h.1, t.asked.1))

    pub over : Took F A told state mid now next (Ok Waiting) → mid.held ≡ [] → ServedHeld F A held start next old items (Ok tt)
    over took none =
        let t = took.takes in record {
          sent = g.sent;
          appended = g.appended;
          only = tt;
          fresh = g.fresh ++ t.fresh;
          ends = t.ends;
          run = all_run t.fresh t.ends t.run;
          served = λ behind s. subst (λ b. StopsAfter F A (onward behind t.fresh g.sent) t.ends next (remaining b)) none (stopped took behind s);
        }

    pub cut_off : Took F A told state mid now next (Ok Waiting) → mid.held ≢ [] → ServedHeld F A held start next old items (Err BytesRemaining)
    cut_off took some =
        let t = took.takes in record {
          sent = g.sent;
          appended = g.appended;
          only = tt;
          fresh = g.fresh ++ t.fresh;
          ends = t.ends;
          run = all_run t.fresh t.ends t.run;
          served = λ behind s. (mid.held, some, stopped took behind s);
        }

-- the whole of a piece
module _ (F : Framing) {S : Type 0} (A : Answering S) (before : S) (piece : List ℕ) (old : List ℕ) where
  pub unopened : ServedPiece F A piece before before old old (Err NoMemory)
  unopened = record { sent = []; appended = sym (append-nil old); only = tt; ends = inr (refl, refl, refl) }

  -- all of it was fed, and nothing was taken yet
  began_with : (held : List ℕ) → F.StandsFor piece (length piece ∷ []) held [] → Stands F (past piece (length piece ∷ []) [] []) held []
  began_with held fed = record { taken = []; stands = fed; asked = refl; fit = All-nil (ReplyFits F); wrote = refl; late = ([], refl) }

  pub piece_served : (after : S) (new : List ℕ) (opening fed : State) (result : _) → F.StandsFor [] [] [] [] → opening.held ≡ [] → Fed F opening fed piece → 0 < length piece
      → ServedHeld F A fed.held before after old new result → ServedPiece F A piece before after old new result
  piece_served after new opening fed result stands empty grown some served =
      let began : F.StandsFor [] [] opening.held [] = subst (λ h. F.StandsFor [] [] h []) (sym empty) stands in
      record {
        sent = served.sent;
        appended = served.appended;
        only = served.only;
        ends = inl (ends_whole F A (past piece (length piece ∷ []) served.sent served.fresh) before served.ends after served.run result
            (served.served (past piece (length piece ∷ []) [] []) (began_with fed.held (grown.grows [] [] [] began some))));
      }
