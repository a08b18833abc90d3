-- The failing place of a call is the first by offset.
use Rattle.std.proofs.Common.{◌≡◌, inl, inr, ℕ, ◌+◌, ◌<◌, ◌≤◌, List, [], ◌∷◌, ◌++◌, map, length, refl, sym, ap, ◌∙◌, subst, arith, Ok, Err}
use Rattle.std.specs.Prelude.{All, Contains}
use Rattle.std.proofs.lemmas.Bool.{cases_lt, lt-ltb, le-ltb}
use Rattle.modbus_rtu.specs.Place.{frames_below}
use Rattle.modbus_rtu.specs.Leftmost.{IsLeftmost}
use Rattle.modbus_rtu.specs.Stands.{frame_at}
use Rattle.modbus_server.proofs.Contained.{none, here, there, front_or_later}
use Rattle.modbus_frame.specs.declared.fault.Reason.{Reason}
use Rattle.modbus_service.specs.Answering.{Answering}
use Rattle.modbus_pdu.specs.RequestOf.{request_of}
use Rattle.modbus_pdu.specs.SlavePdu.{SlavePdu}
use Rattle.modbus_server.specs.Exchanges.{Exchange, Run, ReplyFits, asked_of, asks}
use Rattle.modbus_server.specs.declared.error.ProcessError.TheVariants.{TooManyRetries}
use Rattle.modbus_server.specs.Rtu.{rtu}
use Rattle.modbus_server.specs.Served.{Served, Halt, Halts, remaining, broken, refused, too_long, all_asked}
use Rattle.modbus_server.specs.FirstFault.{FailsAt, IsFirstFault}
use Rattle.modbus_server.proofs.Asked.{all_fit, last_or_within}
use Rattle.modbus_server.proofs.Standing.{run_more}

below_contains : (place : ℕ) (frames : List ℕ) (f : ℕ) → Contains frames f → f < place → Contains (frames_below place frames) f
below_contains place [] f c lt = absurd (none f c)
below_contains place (g ∷ frames) f c lt = elim (cases_lt g place) [
  | inl below ↦ (let e = lt-ltb g place below in rw e (elim (front_or_later g f frames c) [
    | inl same ↦ subst (λ h. Contains (g ∷ frames_below place frames) h) same (here g (frames_below place frames))
    | inr c' ↦ there g f (frames_below place frames) (below_contains place frames f c' lt)
  ]))
  | inr above ↦ (let e = le-ltb g place above in rw e (elim (front_or_later g f frames c) [
    | inl same ↦ absurd (omega arith)
    | inr c' ↦ below_contains place frames f c' lt
  ]))
]

below_more : (low high : ℕ) (frames : List ℕ) → low ≤ high → length (frames_below low frames) ≤ length (frames_below high frames)
below_more low high [] le = omega arith
below_more low high (g ∷ frames) le =
    let more = below_more low high frames le in
    elim (cases_lt g low) [
      | inl below ↦ (let e = lt-ltb g low below in let f = lt-ltb g high (omega arith) in rw (e, f) (omega (arith, more)))
      | inr above ↦ (let e = le-ltb g low above in elim (cases_lt g high) [
        | inl below ↦ (let f = lt-ltb g high below in rw (e, f) (omega (arith, more)))
        | inr far ↦ (let f = le-ltb g high far in rw (e, f) more)
      ])
    ]

below_fewer : (low high : ℕ) (frames : List ℕ) → low < high → Contains frames low → length (frames_below low frames) < length (frames_below high frames)
below_fewer low high [] lt c = absurd (none low c)
below_fewer low high (g ∷ frames) lt c = elim (front_or_later g low frames c) [
  | inl same ↦ (let e = le-ltb g low (omega arith) in let f = lt-ltb g high (omega arith) in let more = below_more low high frames (omega arith) in rw (e, f) (omega (arith, more)))
  | inr c' ↦ (let fewer = below_fewer low high frames lt c' in elim (cases_lt g low) [
    | inl below ↦ (let e = lt-ltb g low below in let f = lt-ltb g high (omega arith) in rw (e, f) (omega (arith, fewer)))
    | inr above ↦ (let e = le-ltb g low above in elim (cases_lt g high) [
      | inl below ↦ (let f = lt-ltb g high below in rw (e, f) (omega (arith, fewer)))
      | inr far ↦ (let f = le-ltb g high far in rw (e, f) fewer)
    ])
  ])
]

-- none of the frames that were answered is refused
all_requests : (message : ℕ → SlavePdu) (fs : List ℕ) (xs : List (Exchange rtu)) → map (asked_of rtu) (map message fs) ≡ map (asks rtu) xs
    → (p : ℕ) (reason : Reason) → Contains fs p → request_of (message p).pdu ≡ Err reason → ⊥
all_requests message [] xs e p reason c bad = none p c
all_requests message (f ∷ fs) [] e p reason c bad = cc
all_requests message (f ∷ fs) (x ∷ xs) e p reason c bad = elim (front_or_later f p fs c) [
  | inl same ↦ (let first : asked_of rtu (message f) ≡ asks rtu x = cc in let ok : request_of (message f).pdu ≡ Ok x.request = ap (λ (a : ℕ × _). a.1) first in
      let err : request_of (message f).pdu ≡ Err reason = ap (λ q. request_of (message q).pdu) same ∙ bad in cc)
  | inr c' ↦ (let rest : map (asked_of rtu) (map message fs) ≡ map (asks rtu) xs = cc in all_requests message fs xs rest p reason c' bad)
]

same_length : (message : ℕ → SlavePdu) (fs : List ℕ) (xs : List (Exchange rtu)) → map (asked_of rtu) (map message fs) ≡ map (asks rtu) xs → length fs ≡ length xs
same_length message [] [] e = refl
same_length message [] (x ∷ xs) e = cc
same_length message (f ∷ fs) [] e = cc
same_length message (f ∷ fs) (x ∷ xs) e = let rest : map (asked_of rtu) (map message fs) ≡ map (asks rtu) xs = cc in let same = same_length message fs xs rest in omega arith

-- no frame before a place is refused
refused_later : (bytes frames : List ℕ) (place : ℕ) (before : List SlavePdu) (exchanges : List (Exchange rtu)) → before ≡ map (frame_at bytes) (frames_below place frames)
    → map (asked_of rtu) before ≡ map (asks rtu) exchanges
    → (other : ℕ) (reason : Reason) → Contains frames other → request_of (frame_at bytes other).pdu ≡ Err reason → place ≤ other
refused_later bytes frames place before exchanges e asked other reason c bad = elim (cases_lt other place) [
  | inl lt ↦ absurd (all_requests (frame_at bytes) (frames_below place frames) exchanges (ap (map (asked_of rtu)) (sym e) ∙ asked) other reason (below_contains place frames other c lt) bad)
  | inr ge ↦ ge
]

-- where each list of bytes has one leftmost reading
module _ (one : (bytes frames others : List ℕ) (stop last : ℕ) → IsLeftmost bytes frames stop → IsLeftmost bytes others last → (frames ≡ others) × (stop ≡ last))
    {S : Type 0} (A : Answering S) (bytes cuts : List ℕ) (opening now : S) (written : List ℕ) where
  -- all exchanges of the run, whose place that fails first is this one
  abbrev pub FirstFault : Halt → List (Exchange rtu) → Type 0
  FirstFault halt all = Run rtu A opening all now × ((frames : List ℕ) (stop : ℕ) → IsLeftmost bytes frames stop → IsFirstFault bytes cuts frames all halt)

  module _ (before : List SlavePdu) (exchanges : List (Exchange rtu)) (asked : map (asked_of rtu) before ≡ map (asks rtu) exchanges)
      (fit : All (ReplyFits rtu) exchanges) (ends : S) (run : Run rtu A opening exchanges ends) where
    ran : now ≡ ends → Run rtu A opening exchanges now
    ran same = subst (λ x. Run rtu A opening exchanges x) (sym same) run

    abbrev all_of : (halt : Halt) → Halts rtu A bytes cuts before ends now halt → List (Exchange rtu)
    all_of (remaining left) h = exchanges
    all_of (broken fault) h = exchanges
    all_of (refused reason) h = exchanges
    all_of (too_long size) h = exchanges ++ h.2 ∷ []

    by_halts : (halt : Halt) (h : Halts rtu A bytes cuts before ends now halt) → FirstFault halt (all_of halt h)
    by_halts (remaining left) (u, same) = (ran same, none_fails)
      where
        none_fails : (frames : List ℕ) (stop : ℕ) → IsLeftmost bytes frames stop → IsFirstFault bytes cuts frames exchanges (remaining left)
        none_fails frames stop l = no_fault
          where
            took : before ≡ map (frame_at bytes) frames
            took = u.took ∙ ap (map (frame_at bytes)) (one bytes u.frames frames u.stop stop u.reading l).0

            no_fault : (place : ℕ) (halt : Halt) → FailsAt bytes cuts frames exchanges place halt → ⊥
            no_fault place (remaining other) h = h
            no_fault place (broken TooManyRetries) (k, c, is) = u.calm k c
            no_fault place (broken _) h = h
            no_fault place (refused reason) (c, bad) = all_requests (frame_at bytes) frames exchanges (ap (map (asked_of rtu)) (sym took) ∙ asked) place reason c bad
            no_fault place (too_long size) (c, earlier, x, later, splits, count, asks', is, long) = all_fit rtu exchanges earlier later x size fit splits is long
    by_halts (broken TooManyRetries) ((k, first), same) = (ran same, λ frames stop l. (k + 19, (k, first.crowd, refl), later frames stop l))
      where
        later : (frames : List ℕ) (stop : ℕ) → IsLeftmost bytes frames stop → (other : ℕ) (fault : Halt) → FailsAt bytes cuts frames exchanges other fault → k + 19 ≤ other
        later frames stop l other (remaining left) h = absurd h
        later frames stop l other (broken TooManyRetries) (j, c', is') = omega (arith, first.first j c')
        later frames stop l other (broken _) h = absurd h
        later frames stop l other (refused reason) (c', bad) = refused_later bytes frames (k + 19) before exchanges (first.took frames stop l) asked other reason c' bad
        later frames stop l other (too_long size) (c', earlier, x, after, splits, count, asks', is', long) = absurd (all_fit rtu exchanges earlier after x size fit splits is' long)
    by_halts (broken _) (b, same) = absurd b
    by_halts (refused r) (message, t, bad, same) =
        (ran same, λ frames stop l. (t.offset, (t.within frames stop l, ap (λ (m : SlavePdu). request_of m.pdu) t.is ∙ bad), later frames stop l))
      where
        later : (frames : List ℕ) (stop : ℕ) → IsLeftmost bytes frames stop → (other : ℕ) (fault : Halt) → FailsAt bytes cuts frames exchanges other fault → t.offset ≤ other
        later frames stop l other (remaining left) h = absurd h
        later frames stop l other (broken TooManyRetries) (j, c', is') = omega (arith, t.calm j c')
        later frames stop l other (broken _) h = absurd h
        later frames stop l other (refused reason) (c', bad') = refused_later bytes frames t.offset before exchanges (t.earlier frames stop l) asked other reason c' bad'
        later frames stop l other (too_long size) (c', earlier, x, after, splits, count, asks', is', long) = absurd (all_fit rtu exchanges earlier after x size fit splits is' long)
    by_halts (too_long n) (message, t, y, asked', step, is, long) = (
      run_more rtu A opening exchanges ends y now run step,
      λ frames stop l. (t.offset, (t.within frames stop l, exchanges, y, [], refl, sym (count_before frames stop l), ap (asked_of rtu) t.is ∙ asked', is, long), later frames stop l),
    )
      where
        count_before : (frames : List ℕ) (stop : ℕ) → IsLeftmost bytes frames stop → length (frames_below t.offset frames) ≡ length exchanges
        count_before frames stop l = same_length (frame_at bytes) (frames_below t.offset frames) exchanges (ap (map (asked_of rtu)) (sym (t.earlier frames stop l)) ∙ asked)

        later : (frames : List ℕ) (stop : ℕ) → IsLeftmost bytes frames stop → (other : ℕ) (fault : Halt) → FailsAt bytes cuts frames (exchanges ++ y ∷ []) other fault → t.offset ≤ other
        later frames stop l other (remaining left) h = absurd h
        later frames stop l other (broken TooManyRetries) (j, c', is') = omega (arith, t.calm j c')
        later frames stop l other (broken _) h = absurd h
        later frames stop l other (refused reason) (c', bad') = refused_later bytes frames t.offset before exchanges (t.earlier frames stop l) asked other reason c' bad'
        later frames stop l other (too_long size) (c', earlier, x, after, splits, count, asks', is', long') = elim (last_or_within rtu exchanges earlier after y x splits) [
          | inl (rest, same) ↦ absurd (all_fit rtu exchanges earlier rest x size fit same is' long')
          | inr same ↦ elim (cases_lt other t.offset) [
            | inr ge ↦ ge
            | inl lt ↦ (let fewer = below_fewer other t.offset frames lt c' in absurd (omega (arith, fewer, count_before frames stop l)))
          ]
        ]

  pub first_fault : (halt : Halt) (s : Served rtu A bytes cuts opening now written halt) → FirstFault halt (all_asked halt s)
  first_fault (remaining left) s = by_halts s.before s.exchanges s.asked s.fit s.ends s.run (remaining left) s.halts
  first_fault (broken fault) s = by_halts s.before s.exchanges s.asked s.fit s.ends s.run (broken fault) s.halts
  first_fault (refused reason) s = by_halts s.before s.exchanges s.asked s.fit s.ends s.run (refused reason) s.halts
  first_fault (too_long size) s = by_halts s.before s.exchanges s.asked s.fit s.ends s.run (too_long size) s.halts
