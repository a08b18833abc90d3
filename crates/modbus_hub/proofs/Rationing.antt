-- Reads of a link that is lent to one turn, counted by its cuts.
use Rattle.std.proofs.Common.{◌≡◌, inl, inr, ◌⊎◌, ℕ, ◌+◌, ◌-◌, ◌<◌, ◌≤◌, List, [], ◌∷◌, Bool, true, false, length, refl, sym, ap, ◌∙◌, subst, arith, IsTrue, ne_eqb}
use Rattle.std.specs.Prelude.{if◌then◌else◌, nat_lt}
use Rattle.std.proofs.lemmas.Bool.{ltb_from_iff, ltb-true, lt-ltb}
use Rattle.std.proofs.lemmas.List.{length-take, length-drop, length-map}
use Rattle.modbus_link.specs.declared.outside.Cut.{Cut}
use Rattle.modbus_link.specs.Outside.{cut_at, outside, Input, Output, Advances, Gives, cuts_made, one_cut, input_through, output_through}
use Rattle.modbus_link.specs.Passes.{Passes}
use Rattle.modbus_link.specs.Through.{tail_of}
use Rattle.modbus_link.specs.Line.{LinkMeaning}
use Rattle.modbus_hub.specs.declared.turn.Turn.{Turn}
use Rattle.modbus_hub.specs.declared.turn.Turn.TheVariants.{Spent}
use Rattle.modbus_hub.specs.declared.turn.TurnLimits.{TurnLimits}
use Rattle.modbus_hub.specs.Turn.{GaveIfTold, IsWithin}
use Rattle.modbus_hub.specs.Rationed.{reads_in_all, left_behind, rationed_input}

pub cuts_counted : (a b : Input) → Gives a b → length b.cuts ≡ length a.cuts + length (cuts_made a b)
cuts_counted a b g =
    let front = simp length-take at (ap length g.cuts) in
    let made : length (cuts_made a b) ≡ length b.cuts - length a.cuts = simp (length-map, length-drop) in
    omega (arith, front, made)

sum_of : (told : Bool) (n n' : ℕ) → (IsTrue told → n' ≡ n) → (if told then n' else 0) ≡ (if told then n else 0)
sum_of true n n' e = e refl
sum_of false n n' e = refl

sums : (told told' : Bool) (n n' : ℕ) → told' ≡ told → (IsTrue told → n' ≡ n) → (if told' then n' else 0) ≡ (if told then n else 0)
sums told told' n n' e f = subst (λ (b : Bool). (if b then n' else 0) ≡ (if told then n else 0)) (sym e) (sum_of told n n' f)

-- a read that gave bytes uses one up, and no other does
pub rationed : (a b : Input) (k left left' refused name : ℕ) → refused ≡ 0 → Advances a b → (IsTrue a.told → length (cuts_made a b) ≡ k) → left' + k ≡ left
    → Advances (rationed_input left refused name a) (rationed_input left' refused name b)
rationed a b k left left' refused name none s count e =
    let whole : reads_in_all left' b ≡ reads_in_all left a =
    sums a.told b.told (length a.cuts + left) (length b.cuts + left') s.told (λ told. omega (arith, cuts_counted a b (s.content told), count told, e)) in
    let behind : left_behind left' refused ≡ left_behind left refused = rw none refl in
    record {
      told = s.told;
      later = s.later;
      names = cc;
      sure = s.sure;
      no_fault = s.no_fault;
      content = λ told. let g = s.content told in record { left = g.left; given = g.given; cuts = g.cuts; rising = g.rising };
    }

pub one_counted : (n room : ℕ) → 0 < n → length (one_cut n room) ≡ 1
one_counted n room some = ap (λ (b : Bool). length {A = Cut} (if b then [] else cut_at n room ∷ [])) (ne_eqb n 0 (λ e. omega (arith, e, some)))

pub none_counted : (n room : ℕ) → n ≡ 0 → length (one_cut n room) ≡ 0
none_counted n room e = rw e refl

-- what a turn is given stands for what is behind it
pub through : (n m p n' m' p' : ℕ) (a b : Input) (k l : Output) (q q' : ℕ) (fed : List ℕ) (made : List Cut) (sent : List ℕ)
    → Passes (outside (input_through n (input_through m (input_through p a))) (output_through q k)) (outside (input_through n' (input_through m' (input_through p' b))) (output_through q' l)) fed made sent
    → Passes (outside a k) (outside b l) fed made sent
through n m p n' m' p' a b k l q q' fed made sent s = record {
  source = record {
    told = s.source.told;
    later = s.source.later;
    names = ap (λ (l : List ℕ). tail_of (tail_of (tail_of l))) s.source.names;
    sure = s.source.sure;
    no_fault = s.source.no_fault;
    content = λ told. let g = s.source.content told in record { left = g.left; given = g.given; cuts = g.cuts; rising = g.rising };
  };
  sink = record { told = s.sink.told; later = s.sink.later; names = ap tail_of s.sink.names; sure = s.sink.sure; no_fault = s.sink.no_fault; content = s.sink.content };
  read = s.read;
  cuts = s.cuts;
  wrote = s.wrote;
  rises = s.rises;
}

abbrev first_of : List ℕ → ℕ
first_of [] = 0
first_of (x ∷ xs) = x

where_told : (told : Bool) (n : ℕ) → IsTrue told → (if told then n else 0) ≡ n
where_told true n e = refl
where_told false n e = absurd (no_both e)
  where
    no_both : false ≡ true → ⊥
    no_both e = cc

-- of what a turn was given: the reads that gave bytes, with those that are left, are all
module _ (a b : Input) (left left' refused refused' name name' : ℕ) (s : Advances (rationed_input left refused name a) (rationed_input left' refused' name' b)) where
  pub counted : IsTrue a.told → length (cuts_made a b) + left' ≡ left
  counted told =
      let same : reads_in_all left' b ≡ reads_in_all left a = ap first_of s.names in
      let before : reads_in_all left a ≡ length a.cuts + left = where_told a.told (length a.cuts + left) told in
      let after : reads_in_all left' b ≡ length b.cuts + left' = where_told b.told (length b.cuts + left') (s.told ∙ told) in
      let g = s.content told in
      let made = cuts_counted a b (record { left = g.left; given = g.given; cuts = g.cuts; rising = g.rising }) in
      let all : length b.cuts + left' ≡ length a.cuts + left = sym after ∙ same ∙ before in omega (arith, made, all)

  -- none is left where one was refused
  pub none_left : refused ≡ 0 → 0 < refused' → left' ≡ 0
  none_left none some =
      let same : left_behind left' refused' ≡ left_behind left refused = ap (λ (l : List ℕ). first_of (tail_of l)) s.names in
      let before : left_behind left refused ≡ 0 = rw none refl in
      let after : left_behind left' refused' ≡ left' = ap (λ (b : Bool). if b then 0 else left') (ne_eqb refused' 0 (λ e. omega (arith, e, some))) in
      sym after ∙ same ∙ before

-- a turn over a link that was lent to it keeps to its limits
pub keeps_within : {L : Type 0} (M : LinkMeaning L) (limits : TurnLimits) (a b : L) (taken : ℕ) (turn : Turn) (left left' refused refused' name name' : ℕ)
    → Advances (rationed_input left refused name (M.input a)) (rationed_input left' refused' name' (M.input b)) → left ≡ limits.reads → refused ≡ 0
    → taken ≤ limits.messages → (turn ≡ Spent → (taken ≡ limits.messages) ⊎ (0 < refused')) → IsWithin M limits a b taken turn
keeps_within M limits a b taken turn left left' refused refused' name name' s all none few spent = record {
  reads = λ told.
      let c = counted (M.input a) (M.input b) left left' refused refused' name name' s told in omega (arith, c, all);
  messages = few;
  spent = λ e.
      elim (spent e) [
        | inl most ↦ inl most
        | inr some ↦
            inr (λ told.
            let c = counted (M.input a) (M.input b) left left' refused refused' name name' s told in
            let empty = none_left (M.input a) (M.input b) left left' refused refused' name name' s none some in omega (arith, c, all, empty))
      ];
}

-- a link that was lent to a turn gave bytes exactly where fewer of its reads are left
pub gives_told : {L : Type 0} (M : LinkMeaning L) (limits : TurnLimits) (a b : L) (left left' refused refused' name name' : ℕ)
    → Advances (rationed_input left refused name (M.input a)) (rationed_input left' refused' name' (M.input b)) → left ≡ limits.reads → GaveIfTold M a b (nat_lt left' limits.reads)
gives_told M limits a b left left' refused refused' name name' s all told =
    let c = counted (M.input a) (M.input b) left left' refused refused' name name' s told in
    ltb_from_iff (
      λ fewer. let less = ltb-true left' limits.reads fewer in omega (arith, c, all, less),
      λ some. lt-ltb left' limits.reads (omega (arith, c, all, some)),
    )
