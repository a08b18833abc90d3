-- The failing place of a call over ADUs is the first one.
use Rattle.std.proofs.Common.{◌≡◌, inl, inr, ℕ, ◌≤◌, List, [], ◌∷◌, ◌++◌, map, length, refl, sym, ap, ◌∙◌, subst, arith, Err, length-append, append_assoc}
use Rattle.std.specs.Prelude.{All}
use Rattle.std.proofs.lemmas.Bool.{cases_lt}
use Rattle.modbus_frame.specs.declared.fault.Reason.{Reason}
use Rattle.modbus_frame.specs.declared.tcp.Header.{Header}
use Rattle.modbus_pdu.specs.RequestOf.{request_of}
use Rattle.modbus_pdu.specs.Message.{Message}
use Rattle.modbus_tcp.specs.Stream.{Rest, empty, unfinished, no_length, foreign, IsSplit}
use Rattle.modbus_tcp.specs.Adu.{IsAdu, stream_of}
use Rattle.modbus_service.specs.Answering.{Answering}
use Rattle.modbus_server.specs.declared.error.ProcessError.TheVariants.{InvalidLength, InvalidProtocol}
use Rattle.modbus_server.specs.Exchanges.{Exchange, Run, ReplyFits, told_reply_size, asked_of, asks}
use Rattle.modbus_server.specs.Tcp.{tcp, IsNextAdu}
use Rattle.modbus_server.specs.Served.{Served, Halt, Halts, remaining, broken, refused, too_long, all_asked}
use Rattle.modbus_server.specs.FirstAdu.{HasAduFault, IsFirstAduFault}
use Rattle.modbus_server.proofs.Asked.{all_fit, last_or_within, same_after, no_refusal, as_many, within_front, asked_well, one_first}
use Rattle.modbus_server.proofs.Standing.{run_more}

module _ (adus before : List (Message Header)) (exchanges : List (Exchange tcp)) (asked : map (asked_of tcp) before ≡ map (asks tcp) exchanges) where
  -- no ADU that was answered is refused
  refused_later : (tail earlier : List (Message Header)) (message : Message Header) (later : List (Message Header)) (reason : Reason)
      → adus ≡ before ++ tail → adus ≡ earlier ++ message ∷ later → request_of message.pdu ≡ Err reason → length before ≤ length earlier
  refused_later tail earlier message later reason e splits bad = elim (cases_lt (length earlier) (length before)) [
    | inl less ↦ (let inner = within_front before tail earlier message later (sym e ∙ splits) less in
        absurd (no_refusal tcp earlier message inner.0 exchanges reason (ap (map (asked_of tcp)) (sym inner.1) ∙ asked) bad))
    | inr ge ↦ ge
  ]

-- where each list of bytes is ADUs and a rest in one way, and ADUs that were taken off come first
module _ (one : (bytes rest left : List ℕ) (adus others : List (Message Header)) (kind other : Rest) → IsSplit bytes adus rest kind → IsSplit bytes others left other
    → (adus ≡ others) × (rest ≡ left) × (kind ≡ other))
    (first : (bytes held rest : List ℕ) (adus all : List (Message Header)) (kind : Rest) → bytes ≡ stream_of adus ++ held → All IsAdu adus → IsSplit bytes all rest kind
    → (later : List (Message Header)) × (all ≡ adus ++ later) × IsSplit held later rest kind)
    {S : Type 0} (A : Answering S) (bytes cuts : List ℕ) (opening now : S) (written : List ℕ) where
  -- all exchanges of the run, whose place that fails first is this one
  abbrev pub FirstAduFault : Halt → List (Exchange tcp) → Type 0
  FirstAduFault halt all = Run tcp A opening all now
      × ((adus : List (Message Header)) (rest : List ℕ) (kind : Rest) → IsSplit bytes adus rest kind → IsFirstAduFault adus kind all halt)

  -- an ADU that comes next is the one after those that were taken
  next_of_all : (rest : List ℕ) (adus before : List (Message Header)) (kind : Rest) (message : Message Header) → IsSplit bytes adus rest kind → IsNextAdu bytes cuts before message
      → (later : List (Message Header)) × (adus ≡ before ++ message ∷ later)
  next_of_all rest adus before kind message split (others, joined, whole) =
      let more = first bytes others rest (before ++ message ∷ []) adus kind joined whole split in
      (more.0, more.1 ∙ append_assoc before (message ∷ []) more.0)

  module _ (before : List (Message Header)) (exchanges : List (Exchange tcp)) (asked : map (asked_of tcp) before ≡ map (asks tcp) exchanges)
      (fit : All (ReplyFits tcp) exchanges) (ends : S) (run : Run tcp A opening exchanges ends) where
    ran : now ≡ ends → Run tcp A opening exchanges now
    ran same = subst (λ x. Run tcp A opening exchanges x) (sym same) run

    -- all ADUs were answered, so only the rest can fail
    only_rest : (adus : List (Message Header)) (kind : Rest) → adus ≡ before → (place : ℕ) (halt : Halt) → HasAduFault adus kind exchanges place halt
        → length adus ≤ place
    only_rest adus kind e place (remaining left) h = absurd h
    only_rest adus kind e place (broken InvalidLength) h = omega (arith, h.0)
    only_rest adus kind e place (broken (InvalidProtocol protocol)) h = omega (arith, h.0)
    only_rest adus kind e place (broken _) h = absurd h
    only_rest adus kind e place (refused reason) (earlier, message, later, splits, count, bad) =
        absurd (no_refusal tcp earlier message later exchanges reason (ap (map (asked_of tcp)) (sym splits ∙ e) ∙ asked) bad)
    only_rest adus kind e place (too_long size) (earlier, message, later, splits, count, before', x, after, all, count', asks', is, long) =
        absurd (all_fit tcp exchanges before' after x size fit all is long)

    none_fails : (adus : List (Message Header)) (kind : Rest) → adus ≡ before → (kind ≡ no_length → ⊥) → ((protocol : ℕ) → kind ≡ foreign protocol → ⊥)
        → (place : ℕ) (halt : Halt) → HasAduFault adus kind exchanges place halt → ⊥
    none_fails adus kind e no_zero no_foreign place (remaining left) h = h
    none_fails adus kind e no_zero no_foreign place (broken InvalidLength) h = no_zero h.1
    none_fails adus kind e no_zero no_foreign place (broken (InvalidProtocol protocol)) h = no_foreign protocol h.1
    none_fails adus kind e no_zero no_foreign place (broken _) h = h
    none_fails adus kind e no_zero no_foreign place (refused reason) (earlier, message, later, splits, count, bad) =
        no_refusal tcp earlier message later exchanges reason (ap (map (asked_of tcp)) (sym splits ∙ e) ∙ asked) bad
    none_fails adus kind e no_zero no_foreign place (too_long size) (earlier, message, later, splits, count, before', x, after, all, count', asks', is, long) =
        all_fit tcp exchanges before' after x size fit all is long

    -- the ADU after those that were answered is the first that can fail
    not_before : (adus tail : List (Message Header)) (kind : Rest) → adus ≡ before ++ tail → (place : ℕ) (halt : Halt) → HasAduFault adus kind exchanges place halt
        → length before ≤ place
    not_before adus tail kind e place (remaining left) h = absurd h
    not_before adus tail kind e place (broken InvalidLength) h = omega (arith, h.0, ap length e, length-append before tail)
    not_before adus tail kind e place (broken (InvalidProtocol protocol)) h = omega (arith, h.0, ap length e, length-append before tail)
    not_before adus tail kind e place (broken _) h = absurd h
    not_before adus tail kind e place (refused reason) (earlier, message, later, splits, count, bad) =
        omega (arith, count, refused_later adus before exchanges asked tail earlier message later reason e splits bad)
    not_before adus tail kind e place (too_long size) (earlier, message, later, splits, count, before', x, after, all, count', asks', is, long) =
        absurd (all_fit tcp exchanges before' after x size fit all is long)

    abbrev all_of : (halt : Halt) → Halts tcp A bytes cuts before ends now halt → List (Exchange tcp)
    all_of (remaining left) h = exchanges
    all_of (broken fault) h = exchanges
    all_of (refused reason) h = exchanges
    all_of (too_long size) h = exchanges ++ h.2 ∷ []

    by_halts : (halt : Halt) (h : Halts tcp A bytes cuts before ends now halt) → FirstAduFault halt (all_of halt h)
    by_halts (remaining left) (inl split, same) = (
      ran same,
      λ adus rest kind whole.
          let is = one bytes rest left adus before kind empty whole split in
          none_fails adus kind is.0 (λ bad. cc) (λ protocol bad. cc),
    )
    by_halts (remaining left) (inr split, same) = (
      ran same,
      λ adus rest kind whole.
          let is = one bytes rest left adus before kind unfinished whole split in
          none_fails adus kind is.0 (λ bad. cc) (λ protocol bad. cc),
    )
    by_halts (broken InvalidLength) ((left, split), same) = (
      ran same,
      λ adus rest kind whole.
          let is = one bytes rest left adus before kind no_length whole split in
          (length adus, (refl, is.2), only_rest adus kind is.0),
    )
    by_halts (broken (InvalidProtocol protocol)) ((left, split), same) = (
      ran same,
      λ adus rest kind whole.
          let is = one bytes rest left adus before kind (foreign protocol) whole split in
          (length adus, (refl, is.2), only_rest adus kind is.0),
    )
    by_halts (broken _) (b, same) = absurd b
    by_halts (refused reason) (message, t, bad, same) = (
      ran same,
      λ adus rest kind whole.
          let after = next_of_all rest adus before kind message whole t in
          (length before, (before, message, after.0, after.1, refl, bad), not_before adus (message ∷ after.0) kind after.1),
    )
    by_halts (too_long size) (message, t, y, asked', step, is, long) = (
      run_more tcp A opening exchanges ends y now run step,
      λ adus rest kind whole.
          let after = next_of_all rest adus before kind message whole t in (
            length before,
            (before, message, after.0, after.1, refl, exchanges, y, [], refl, sym (as_many tcp before exchanges asked), asked', is, long),
            later adus (message ∷ after.0) kind after.1,
          ),
    )
      where
        later : (adus tail : List (Message Header)) (kind : Rest) → adus ≡ before ++ tail → (place : ℕ) (halt : Halt) → HasAduFault adus kind (exchanges ++ y ∷ []) place halt
            → length before ≤ place
        later adus tail kind e place (remaining left) h = absurd h
        later adus tail kind e place (broken InvalidLength) h = omega (arith, h.0, ap length e, length-append before tail)
        later adus tail kind e place (broken (InvalidProtocol protocol)) h = omega (arith, h.0, ap length e, length-append before tail)
        later adus tail kind e place (broken _) h = absurd h
        later adus tail kind e place (refused reason) (earlier, message', later', splits, count, bad) =
            omega (arith, count, refused_later adus before exchanges asked tail earlier message' later' reason e splits bad)
        later adus tail kind e place (too_long size') (earlier, message', later', splits, count, before', x, after, all, count', asks', is', long') =
            elim (last_or_within tcp exchanges before' after y x all) [
              | inl (inner, same) ↦ absurd (all_fit tcp exchanges before' inner x size' fit same is' long')
              | inr same ↦ omega (arith, same, count', as_many tcp before exchanges asked)
            ]

  pub first_adu_fault : (halt : Halt) (s : Served tcp A bytes cuts opening now written halt) → FirstAduFault halt (all_asked halt s)
  first_adu_fault (remaining left) s = by_halts s.before s.exchanges s.asked s.fit s.ends s.run (remaining left) s.halts
  first_adu_fault (broken fault) s = by_halts s.before s.exchanges s.asked s.fit s.ends s.run (broken fault) s.halts
  first_adu_fault (refused reason) s = by_halts s.before s.exchanges s.asked s.fit s.ends s.run (refused reason) s.halts
  first_adu_fault (too_long size) s = by_halts s.before s.exchanges s.asked s.fit s.ends s.run (too_long size) s.halts

-- two kinds of fault are not both the first
module _ (adus : List (Message Header)) (kind : Rest) (all : List (Exchange tcp)) where
  past_all : (earlier : List (Message Header)) (message : Message Header) (later : List (Message Header)) (place : ℕ)
      → adus ≡ earlier ++ message ∷ later → length earlier ≡ place → place ≡ length adus → ⊥
  past_all earlier message later place splits count end = omega (arith, count, end, ap length splits, length-append earlier (message ∷ later))

  same_at : (place : ℕ) (f g : Halt) → HasAduFault adus kind all place f → HasAduFault adus kind all place g → f ≡ g
  same_at place (remaining left) g h k = absurd h
  same_at place (broken InvalidLength) (remaining left) h k = absurd k
  same_at place (broken InvalidLength) (broken InvalidLength) h k = refl
  same_at place (broken InvalidLength) (broken (InvalidProtocol protocol)) h k = let clash : no_length ≡ foreign protocol = sym h.1 ∙ k.1 in cc
  same_at place (broken InvalidLength) (broken _) h k = absurd k
  same_at place (broken InvalidLength) (refused reason) h (earlier, message, later, splits, count, bad) = absurd (past_all earlier message later place splits count h.0)
  same_at place (broken InvalidLength) (too_long size) h k = absurd (past_all k.0 k.1 k.2 place k.3 k.4 h.0)
  same_at place (broken (InvalidProtocol protocol)) (remaining left) h k = absurd k
  same_at place (broken (InvalidProtocol protocol)) (broken InvalidLength) h k = let clash : no_length ≡ foreign protocol = sym k.1 ∙ h.1 in cc
  same_at place (broken (InvalidProtocol protocol)) (broken (InvalidProtocol other)) h k = let same : foreign protocol ≡ foreign other = sym h.1 ∙ k.1 in cc
  same_at place (broken (InvalidProtocol protocol)) (broken _) h k = absurd k
  same_at place (broken (InvalidProtocol protocol)) (refused reason) h (earlier, message, later, splits, count, bad) = absurd (past_all earlier message later place splits count h.0)
  same_at place (broken (InvalidProtocol protocol)) (too_long size) h k = absurd (past_all k.0 k.1 k.2 place k.3 k.4 h.0)
  same_at place (broken _) g h k = absurd h
  same_at place (refused reason) (remaining left) h k = absurd k
  same_at place (refused reason) (broken InvalidLength) (earlier, message, later, splits, count, bad) k = absurd (past_all earlier message later place splits count k.0)
  same_at place (refused reason) (broken (InvalidProtocol protocol)) (earlier, message, later, splits, count, bad) k = absurd (past_all earlier message later place splits count k.0)
  same_at place (refused reason) (broken _) h k = absurd k
  same_at place (refused reason) (refused other) (earlier, message, later, splits, count, bad) (earlier', message', later', splits', count', bad') =
      let same : message ≡ message' = same_after earlier earlier' message message' later later' (sym splits ∙ splits') (count ∙ sym count') in
      let e : Err reason ≡ Err other = sym bad ∙ ap (λ (m : Message Header). request_of m.pdu) same ∙ bad' in
      cc
  same_at place (refused reason) (too_long size) (earlier, message, later, splits, count, bad) (earlier', message', later', splits', count', before, x, after, is_all, many, asked, is, long) =
      let same : message' ≡ message = same_after earlier' earlier message' message later' later (sym splits' ∙ splits) (count' ∙ sym count) in
      absurd (asked_well tcp message x reason bad (ap (asked_of tcp) (sym same) ∙ asked))
  same_at place (too_long size) (remaining left) h k = absurd k
  same_at place (too_long size) (broken InvalidLength) h k = absurd (past_all h.0 h.1 h.2 place h.3 h.4 k.0)
  same_at place (too_long size) (broken (InvalidProtocol protocol)) h k = absurd (past_all h.0 h.1 h.2 place h.3 h.4 k.0)
  same_at place (too_long size) (broken _) h k = absurd k
  same_at place (too_long size) (refused reason) (earlier', message', later', splits', count', before, x, after, is_all, many, asked, is, long) (earlier, message, later, splits, count, bad) =
      let same : message' ≡ message = same_after earlier' earlier message' message later' later (sym splits' ∙ splits) (count' ∙ sym count) in
      absurd (asked_well tcp message x reason bad (ap (asked_of tcp) (sym same) ∙ asked))
  same_at place (too_long size) (too_long other) (earlier, message, later, splits, count, before, x, after, is_all, many, asked, is, long)
      (earlier', message', later', splits', count', before', x', after', is_all', many', asked', is', long') =
      let same : x ≡ x' = same_after before before' x x' after after' (sym is_all ∙ is_all') (many ∙ sym many') in
      ap too_long (is ∙ ap (told_reply_size tcp) same ∙ sym is')

  pub one_adu_fault : (p q : ℕ) (f g : Halt) → HasAduFault adus kind all p f → HasAduFault adus kind all q g
      → IsFirstAduFault adus kind all f → IsFirstAduFault adus kind all g → f ≡ g
  one_adu_fault = one_first (HasAduFault adus kind all) (λ place left h. h) same_at
