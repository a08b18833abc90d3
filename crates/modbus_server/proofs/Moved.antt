-- One write and one read.
use Rattle.std.proofs.Common.{◌≡◌, ◌≢◌, ℕ, ◌<◌, List, [], ◌∷◌, ◌++◌, length, refl, sym, ap, ◌∙◌, subst, arith, IsTrue, Ok, Err, false, append-nil}
use Rattle.std.proofs.lemmas.List.{nil_from_length}
use Rattle.std.specs.Prelude.{Result}
use Rattle.modbus_link.specs.declared.polled.Polled.{Polled}
use Rattle.modbus_link.specs.declared.polled.Polled.TheVariants.{Ready, Pending}
use Rattle.modbus_link.specs.Outside.{cut_at, Input, Outside, Advances, one_cut}
use Rattle.modbus_link.specs.Runs.{Advances-same, bytes_read-none, cuts_made-none, one_cut-one}
use Rattle.modbus_server.specs.declared.error.ProcessError.TheVariants.{ReadFault, BytesRemaining, NoMemory}
use Rattle.modbus_server.specs.declared.error.Step.TheVariants.{MoreRead, Ended}
use Rattle.modbus_server.specs.Framing.{Framing}
use Rattle.modbus_server.specs.State.{State}
use Rattle.modbus_server.specs.Transfer.{ReadsOnce, Fills}
use Rattle.modbus_server.specs.Polled.{ReadsNothing}

module _ (F : Framing) (a b : Input) (old new : State) where
  pub reads_none : b ≡ a → new.is_open ≡ false → F.ReadsTakeMemory → ReadsOnce F a b old new (Err NoMemory)
  reads_none same closed takes = record {
    fed = [];
    made = [];
    source = subst (Advances a) (sym same) (Advances-same a);
    read = λ told. bytes_read-none a b (ap (λ (i : Input). i.given) same);
    cuts = λ told. cuts_made-none a b (ap (λ (i : Input). i.cuts) same);
    gives = (refl, refl, closed, takes);
    ended = λ told. tt;
    cause = λ e. cc;
  }

-- the read of a connection that had made its room
module _ (F : Framing) (a b : Outside) (before now : ℕ) (old mid new : State) (same : mid ≡ record old { free = mid.free }) (keeps : new ≡ record mid { held = new.held; free = new.free }) where
  held_before : mid.held ≡ old.held
  held_before = ap (λ (s : State). s.held) same

  waiting_after : new.waiting ≡ old.waiting
  waiting_after = ap (λ (s : State). s.waiting) keeps ∙ ap (λ (s : State). s.waiting) same

  open_after : new.is_open ≡ old.is_open
  open_after = ap (λ (s : State). s.is_open) keeps ∙ ap (λ (s : State). s.is_open) same

  no_piece : {E : Type 0} (result : Result (Polled ℕ) E) (f : Fills F a b before now mid.held new.held result) → length f.piece ≡ 0 → new.held ≡ old.held
  no_piece result f none = f.held ∙ ap (λ (piece : List ℕ). mid.held ++ piece) (nil_from_length f.piece none) ∙ append-nil mid.held ∙ held_before

  pub fills_nothing : {E : Type 0} → Fills F {E = E} a b before now mid.held new.held (Ok Pending) → ReadsNothing a.input b.input old new
  fills_nothing f =
      let none = nil_from_length f.piece f.polls.reads.count in
      record {
        source = f.polls.reads.source;
        read = λ t. f.polls.reads.read t ∙ none;
        cuts = f.polls.reads.cuts;
        keeps = cc (no_piece (Ok Pending) f f.polls.reads.count, keeps, same);
      }

  pub fills_fault : {E : Type 0} (e : E) (closed : State) → Fills F a b before now mid.held new.held (Err e) → closed.is_open ≡ false → ReadsOnce F a.input b.input old closed (Err ReadFault)
  fills_fault e closed f shut = record {
    fed = [];
    made = [];
    source = f.polls.reads.source;
    read = λ t. f.polls.reads.read t ∙ nil_from_length f.piece f.polls.reads.count;
    cuts = f.polls.reads.cuts;
    gives = (refl, refl, shut);
    ended = λ t. tt;
    cause = λ same. f.polls.cause;
  }

  pub fills_more : {E : Type 0} (n : ℕ) → 0 < n → Fills F {E = E} a b before now mid.held new.held (Ok (Ready n)) → ReadsOnce F a.input b.input old new (Ok MoreRead)
  fills_more n some f =
      let long : length f.piece ≡ n = f.polls.reads.count in
      let some' : 0 < length f.piece = omega (arith, long) in
      let room = F.room mid.held in
      record {
        fed = f.piece;
        made = cut_at (length f.piece) room ∷ [];
        source = f.polls.reads.source;
        read = f.polls.reads.read;
        cuts = λ t. f.polls.reads.cuts t ∙ one_cut-one n room (λ none. omega (arith, none)) ∙ ap (λ (m : ℕ). cut_at m room ∷ []) (sym long);
        gives = (
          room,
          refl,
          some',
          waiting_after,
          open_after,
          f.most some',
          λ bytes cuts taken s. f.stands bytes cuts taken (subst (λ h. F.StandsFor bytes cuts h taken) (sym held_before) s) some',
        );
        ended = λ t. tt;
        cause = λ bad. cc;
      }

  -- what was left, where the read gave nothing
  input_ended : {E : Type 0} (n : ℕ) → n ≡ 0 → (f : Fills F {E = E} a b before now mid.held new.held (Ok (Ready n))) → IsTrue a.input.told → b.input.left ≡ []
  input_ended n zero f t =
      let none : b.input.left ≡ a.input.left = sym ((f.polls.reads.source.content t).left ∙ ap (λ bytes. bytes ++ b.input.left) (f.polls.reads.read t ∙ nil_from_length f.piece (f.polls.reads.count ∙ zero))) in
      none ∙ (f.polls.reads.ended t).0 zero

  pub fills_ended : {E : Type 0} (closed : State) (n : ℕ) → n ≡ 0 → Fills F {E = E} a b before now mid.held new.held (Ok (Ready n)) → new.held ≡ [] → closed ≡ record new { is_open = false } → ReadsOnce F a.input b.input old closed (Ok Ended)
  fills_ended closed n zero f empty shut =
      let held = no_piece (Ok (Ready n)) f (f.polls.reads.count ∙ zero) in
      record {
        fed = [];
        made = [];
        source = f.polls.reads.source;
        read = λ t. f.polls.reads.read t ∙ nil_from_length f.piece (f.polls.reads.count ∙ zero);
        cuts = λ t. f.polls.reads.cuts t ∙ ap (λ (m : ℕ). one_cut m (F.room mid.held)) zero;
        gives = (refl, refl, sym held ∙ empty, ap (λ (s : State). s.held) shut ∙ held, ap (λ (s : State). s.waiting) shut ∙ waiting_after, ap (λ (s : State). s.is_open) shut);
        ended = input_ended n zero f;
        cause = λ bad. cc;
      }

  pub fills_cut_short : {E : Type 0} (closed : State) (n : ℕ) → n ≡ 0 → Fills F {E = E} a b before now mid.held new.held (Ok (Ready n)) → new.held ≢ [] → closed ≡ record new { is_open = false } → ReadsOnce F a.input b.input old closed (Err BytesRemaining)
  fills_cut_short closed n zero f some shut = record {
    fed = [];
    made = [];
    source = f.polls.reads.source;
    read = λ t. f.polls.reads.read t ∙ nil_from_length f.piece (f.polls.reads.count ∙ zero);
    cuts = λ t. f.polls.reads.cuts t ∙ ap (λ (m : ℕ). one_cut m (F.room mid.held)) zero;
    gives = (refl, refl, λ none. some (no_piece (Ok (Ready n)) f (f.polls.reads.count ∙ zero) ∙ none), ap (λ (s : State). s.is_open) shut);
    ended = input_ended n zero f;
    cause = λ bad. cc;
  }
