-- The pieces of a burst, one after another.
use Rattle.std.proofs.Common.{◌≡◌, inl, inr, ℕ, ◌+◌, ◌-◌, ◌<◌, ◌≤◌, min, List, [], ◌∷◌, ◌++◌, length, take, Option, Result, Ok, Err, IsTrue, refl, sym, ap, subst, ◌∙◌, arith, length-append, append-nil, append_assoc, zero, suc}
use Rattle.std.proofs.lemmas.List.{take_all, take-append-le, length-take}
use Rattle.std.proofs.Math.Seq.{take-append-add}
use Rattle.std.specs.Io.{ReadsAtMost}
use Rattle.modbus_link.specs.declared.outside.Failed.{Failed}
use Rattle.modbus_link.specs.declared.polled.Polled.{Polled}
use Rattle.modbus_link.specs.declared.polled.Polled.TheVariants.{Ready, Pending}
use Rattle.modbus_link.specs.Outside.{Input, Rose, Advances, Gives, bytes_read, front_of, ReadIsTold}
use Rattle.modbus_link.specs.Polled.{at_once}
use Rattle.modbus_link.specs.Runs.{Advances-same, Advances-both, bytes_read-none, read_more}
use Rattle.modbus_field.specs.BurstLink.{last_count, OneMore, FailsBy, EndsBurst, ComesBehind, came, GoesOn, Finishes, GivesBurst, BurstAtOnce}

-- so many silences were told, and nothing was read
pub record Hushed (told : ℕ) (from to : Input) (idle now : ℕ) : Type 0 where
  pub source : Advances from to
  pub read : IsTrue from.told → bytes_read from to ≡ []
  pub rose : min (idle + told) last_count ≤ now
  pub later : idle ≤ now

pub hushed_none : (a : Input) (idle : ℕ) → Hushed 0 a a idle idle
hushed_none a idle = record { source = Advances-same a; read = λ told. bytes_read-none a a refl; rose = omega arith; later = omega arith }

pub hushed_more : (told : ℕ) (a b c : Input) (i j k : ℕ) → Hushed told a b i j → Advances b c → (IsTrue b.told → bytes_read b c ≡ []) → Rose j k → j ≤ k → Hushed (told + 1) a c i k
hushed_more told a b c i j k h source read rose later = record {
  source = Advances-both a b c h.source source;
  read = read_more a b c [] [] h.source source h.read read;
  rose = let r = h.rose in omega (arith, r, rose);
  later = let l = h.later in omega (arith, l, later);
}

-- what came first, where the link tells it
pub first_read : (told : ℕ) (a b c : Input) (i j : ℕ) (piece : List ℕ) → Hushed told a b i j → Advances b c → (IsTrue b.told → bytes_read b c ≡ piece) → IsTrue a.told → bytes_read a c ≡ piece
first_read told a b c i j piece h source read = read_more a b c [] piece h.source source h.read read

none_left : (b c : Input) (before after : List ℕ) → Gives b c → ReadIsTold {E = Option Failed} b c before after (Ok 0) → c.left ≡ []
none_left b c before after gives read = sym (ap (λ bytes. bytes ++ c.left) read.bytes) ∙ sym gives.left ∙ read.ended.0 refl

-- a read that gives no byte of a link that tells its bytes found none left
pub ended_at : (a b c : Input) (before after : List ℕ) → Advances a b → Advances b c → (IsTrue b.told → ReadIsTold {E = Option Failed} b c before after (Ok 0)) → IsTrue a.told → c.left ≡ []
ended_at a b c before after first source read told =
    let now : IsTrue b.told = first.told ∙ told in none_left b c before after (source.content now) (read now)

-- the front of a front
take_front : (n : ℕ) (xs ys : List ℕ) → take n (take n xs ++ ys) ≡ take n (xs ++ ys)
take_front zero xs ys = refl
take_front (suc n) [] ys = refl
take_front (suc n) (x ∷ xs) ys = ap (λ rest. x ∷ rest) (take_front n xs ys)

-- what one poll gave, which found room for its bytes behind others
pub goes_behind : (a b : Input) (count : ℕ) (room after new : List ℕ) (result : Result (Polled ℕ) Failed) → Advances a b → count ≤ length room → length after ≡ length room - count
    → came result ≤ length after → (IsTrue a.told → bytes_read a b ≡ take (came result) after) → new ≡ take count room ++ after → GoesOn a b count room new result
goes_behind a b count room after new result source low size fits read e = record {
  source = source;
  size = λ told. ap length (read told) ∙ (let n = length-take (came result) after in omega (arith, n, fits));
  bytes = λ told.
      let front : length (take count room) ≡ count = (let n = length-take count room in omega (arith, n, low)) in
      let k : min (length room) (count + came result) ≡ length (take count room) + came result = omega (arith, front, fits, size, low) in
      let few : length (take count room ++ take (came result) after) ≤ length room = (let n = length-take (came result) after in let m = length-append (take count room) (take (came result) after) in omega (arith, n, m, front, fits, size, low)) in
      ap (λ n. take n new) k ∙ ap (take (length (take count room) + came result)) e ∙ take-append-add (take count room) after (came result)
      ∙ sym (take_all (length room) (take count room ++ take (came result) after) few) ∙ ap (λ piece. take (length room) (take count room ++ piece)) (sym (read told));
  same = ap length e ∙ (let m = length-append (take count room) after in let n = length-take count room in omega (arith, m, n, size, low));
}

-- what one poll gave, which found no room for its bytes
pub goes_nowhere : (a b : Input) (count : ℕ) (room piece : List ℕ) (result : Result (Polled ℕ) Failed) → Advances a b → length room ≤ count
    → length piece ≡ came result → (IsTrue a.told → bytes_read a b ≡ piece) → GoesOn a b count room room result
goes_nowhere a b count room piece result source full size read = record {
  source = source;
  size = λ told. ap length (read told) ∙ size;
  bytes = λ told.
      let k : min (length room) (count + came result) ≡ length room = omega (arith, full) in
      ap (λ n. take n room) k ∙ take_all (length room) room (omega arith)
      ∙ sym (take-append-le (length room) room (bytes_read a b) (omega arith) ∙ take_all (length room) room (omega arith))
      ∙ ap (λ front. take (length room) (front ++ bytes_read a b)) (sym (take_all count room full));
  same = refl;
}

-- what one poll gave, by its answer
pub came_within : (result : Result (Polled ℕ) Failed) (after : List ℕ) → ReadsAtMost (at_once result) after → came result ≤ length after
came_within (Ok (Ready n)) after bound = bound.0
came_within (Ok Pending) after bound = omega arith
came_within (Err error) after bound = omega arith

pub came_front : (result : Result (Polled ℕ) Failed) (after : List ℕ) → front_of (at_once result) after ≡ take (came result) after
came_front (Ok (Ready n)) after = refl
came_front (Ok Pending) after = refl
came_front (Err error) after = refl

pub came_size : (result : Result (Polled ℕ) Failed) (after : List ℕ) → ReadsAtMost (at_once result) after → length (front_of (at_once result) after) ≡ came result
came_size (Ok (Ready n)) after bound = sym bound.1
came_size (Ok Pending) after bound = refl
came_size (Err error) after bound = refl

-- so many bytes of a burst stand in the room, after so many reads that each gave a byte
pub record Sofar (rounds first count : ℕ) (from to : Input) (idle now : ℕ) (old new : List ℕ) : Type 0 where
  pub source : Advances from to
  pub hush : now ≡ idle
  pub same : length new ≡ length old
  pub within : (first ≤ count) × (count ≤ length old)
  pub read : IsTrue from.told → rounds ≤ length (bytes_read from to)
  pub bytes : IsTrue from.told → take count new ≡ take (length old) (take first old ++ bytes_read from to)

pub sofar_none : (first : ℕ) (a : Input) (idle : ℕ) (room : List ℕ) → first ≤ length room → Sofar 0 first first a a idle idle room room
sofar_none first a idle room low = record {
  source = Advances-same a;
  hush = refl;
  same = refl;
  within = (omega arith, low);
  read = λ told. omega arith;
  bytes = λ told.
      let few : length (take first room) ≤ length room = (let n = length-take first room in omega (arith, n)) in
      sym (take_all (length room) (take first room) few) ∙ ap (take (length room)) (sym (append-nil (take first room)))
      ∙ ap (λ piece. take (length room) (take first room ++ piece)) (sym (bytes_read-none a a refl));
}

module _ (rounds first count : ℕ) (a b c : Input) (i j k : ℕ) (old mid new : List ℕ) (s : Sofar rounds first count a b i j old mid) where
  source_more : {result : Result (Polled ℕ) Failed} → GoesOn b c count mid new result → Advances a c
  source_more g = Advances-both a b c s.source g.source

  all_read : {result : Result (Polled ℕ) Failed} → GoesOn b c count mid new result → IsTrue a.told → bytes_read a c ≡ bytes_read a b ++ bytes_read b c
  all_read g told = read_more a b c (bytes_read a b) (bytes_read b c) s.source g.source (λ told. refl) (λ told. refl) told

  bytes_more : (result : Result (Polled ℕ) Failed) → GoesOn b c count mid new result → IsTrue a.told
      → take (min (length old) (count + came result)) new ≡ take (length old) (take first old ++ bytes_read a c)
  bytes_more result g told =
      ap (λ n. take (min n (count + came result)) new) (sym s.same) ∙ g.bytes (s.source.told ∙ told)
      ∙ ap (λ n. take n (take count mid ++ bytes_read b c)) s.same
      ∙ ap (λ front. take (length old) (front ++ bytes_read b c)) (s.bytes told)
      ∙ take_front (length old) (take first old ++ bytes_read a b) (bytes_read b c)
      ∙ ap (take (length old)) (append_assoc (take first old) (bytes_read a b) (bytes_read b c))
      ∙ ap (λ piece. take (length old) (take first old ++ piece)) (sym (all_read g told))

  pub sofar_more : (more next : ℕ) → k ≡ j → GoesOn b c count mid new (Ok (Ready more)) → (more ≡ 0 → ⊥) → next ≡ min (length old) (count + more) → Sofar (rounds + 1) first next a c i k old new
  sofar_more more next hush g some e = record {
    source = source_more g;
    hush = hush ∙ s.hush;
    same = g.same ∙ s.same;
    within = let w = s.within in (omega (arith, w.0, w.1, e), omega (arith, e));
    read = λ told.
        let n = g.size (s.source.told ∙ told) in let m = length-append (bytes_read a b) (bytes_read b c) in let r = s.read told in let all = ap length (all_read g told) in
        omega (arith, n, m, r, all, some);
    bytes = λ told. ap (λ n. take n new) e ∙ bytes_more (Ok (Ready more)) g told;
  }

  -- a poll that gave nothing leaves what stands in the room
  still : (result : Result (Polled ℕ) Failed) → GoesOn b c count mid new result → came result ≡ 0 → IsTrue a.told → take count new ≡ take (length old) (take first old ++ bytes_read a c)
  still result g none told =
      let n : count ≡ min (length old) (count + came result) = (let w = s.within in omega (arith, w.1, none)) in
      ap (λ n. take n new) n ∙ bytes_more result g told

  pub finishes_silent : 0 < first → GoesOn b c count mid new (Ok Pending) → OneMore j k → j ≤ k → Finishes a c i k first old new (Ok count)
  finishes_silent some g more later = record {
    source = source_more g;
    later = let h = s.hush in omega (arith, h, later);
    same = g.same ∙ s.same;
    within = s.within;
    front = λ told. still (Ok Pending) g refl told;
    ends = inl (let w = s.within in omega (arith, some, w.0), subst (λ n. OneMore n k) s.hush more);
    cause = tt;
  }

  pub finishes_ended : k ≡ j → GoesOn b c count mid new (Ok (Ready 0)) → (IsTrue b.told → c.left ≡ []) → Finishes a c i k first old new (Ok count)
  finishes_ended hush g ended = record {
    source = source_more g;
    later = let h = s.hush in omega (arith, h, hush);
    same = g.same ∙ s.same;
    within = s.within;
    front = λ told. still (Ok (Ready 0)) g refl told;
    ends = inr (hush ∙ s.hush, inl (λ told. ended (s.source.told ∙ told)));
    cause = tt;
  }

  pub finishes_not : (error : Failed) → j ≤ k → GoesOn b c count mid new (Err error) → Rose b.faults c.faults → Finishes a c i k first old new (Err error)
  finishes_not error later g rose = record {
    source = source_more g;
    later = let h = s.hush in omega (arith, h, later);
    same = g.same ∙ s.same;
    within = tt;
    front = λ told. tt;
    ends = tt;
    cause = let l = s.source.later in omega (arith, l, rose);
  }

-- a burst of as many reads as can be counted
pub finishes_never : (rounds first count : ℕ) (a b : Input) (i j : ℕ) (old new : List ℕ) → Sofar rounds first count a b i j old new → last_count ≤ rounds → Finishes a b i j first old new (Ok count)
finishes_never rounds first count a b i j old new s all = record {
  source = s.source;
  later = let h = s.hush in omega (arith, h);
  same = s.same;
  within = s.within;
  front = s.bytes;
  ends = inr (s.hush, inr (λ told. let r = s.read told in omega (arith, r, all)));
  cause = tt;
}

-- the first piece of a burst, and the rest of it
module _ {L : Type 0} (input : L → Input) (idle : L → ℕ) (from mid to : L) (first : ℕ) (old before new : List ℕ) (source : Advances (input from) (input mid)) (later : idle from ≤ idle mid)
    (same : length before ≡ length old) (read : IsTrue (input from).told → bytes_read (input from) (input mid) ≡ take first before) (behind : ComesBehind input idle from mid) where
  abbrev Rest : Result ℕ Failed → Type 0
  Rest result = Finishes (input mid) (input to) (idle mid) (idle to) first before new result

  pub whole : {result : Result ℕ Failed} → Rest result → IsTrue (input from).told → bytes_read (input from) (input to) ≡ take first before ++ bytes_read (input mid) (input to)
  whole f told = read_more (input from) (input mid) (input to) (take first before) (bytes_read (input mid) (input to)) source f.source read (λ told. refl) told

  pub ends_whole : (count : ℕ) → {result : Result ℕ Failed} → Rest result → EndsBurst (input mid) (input to) (idle mid) (idle to) count
      → EndsBurst (input from) (input to) (idle behind.quiet) (idle to) count
  ends_whole count f (inl (some, more)) = inl (some, subst (λ n. OneMore n (idle to)) behind.same more)
  ends_whole count f (inr (hush, inl ended)) = inr (hush ∙ behind.same, inl (λ told. ended (source.told ∙ told)))
  ends_whole count f (inr (hush, inr long)) = inr (
    hush ∙ behind.same,
    inr (λ told.
        let n = ap length (whole f told) in let m = length-append (take first before) (bytes_read (input mid) (input to)) in let l = long (source.told ∙ told) in omega (arith, n, m, l)),
  )

  pub gives_burst : (result : Result ℕ Failed) → Rest result → GivesBurst input idle from to (length old) new result
  gives_burst (Ok count) f = record {
    source = Advances-both (input from) (input mid) (input to) source f.source;
    later = let l = f.later in omega (arith, l, later);
    front = λ told. f.front (source.told ∙ told) ∙ ap (λ n. take n (take first before ++ bytes_read (input mid) (input to))) same ∙ ap (take (length old)) (sym (whole f told));
    ends = record { quiet = behind.quiet; is_quiet = behind.is_quiet; ends = ends_whole count f f.ends };
    fails = tt;
  }
  gives_burst (Err error) f = record {
    source = Advances-both (input from) (input mid) (input to) source f.source;
    later = let l = f.later in omega (arith, l, later);
    front = λ told. tt;
    ends = tt;
    fails = inl (let l = source.later in let r = f.cause in omega (arith, l, r));
  }

-- nothing came before the end of the input
pub gives_none : {L : Type 0} (input : L → Input) (idle : L → ℕ) (from to : L) (room : ℕ) (new : List ℕ) → Advances (input from) (input to) → idle from ≤ idle to
    → (IsTrue (input from).told → bytes_read (input from) (input to) ≡ []) → (IsTrue (input from).told → (input to).left ≡ []) → ComesBehind input idle from to
    → GivesBurst input idle from to room new (Ok 0)
gives_none input idle from to room new source later read ended behind = record {
  source = source;
  later = later;
  front = λ told. sym (ap (take room) (read told) ∙ take_all room [] (omega arith));
  ends = record { quiet = behind.quiet; is_quiet = behind.is_quiet; ends = inr (behind.same, inl ended) };
  fails = tt;
}

-- nothing is given
pub gives_not : {L : Type 0} (input : L → Input) (idle : L → ℕ) (from to : L) (room : ℕ) (new : List ℕ) (error : Failed) → Advances (input from) (input to) → idle from ≤ idle to
    → FailsBy (input from) (input to) (idle to) → GivesBurst input idle from to room new (Err error)
gives_not input idle from to room new error source later fails = record {
  source = source;
  later = later;
  front = λ told. tt;
  ends = tt;
  fails = fails;
}

-- what came behind a moment when nothing had come
pub comes_behind : {L : Type 0} (input : L → Input) (idle : L → ℕ) (from quiet to : L) (told : ℕ) → Hushed told (input from) (input quiet) (idle from) (idle quiet) → idle to ≡ idle quiet
    → ComesBehind input idle from to
comes_behind input idle from quiet to told h same = record { quiet = quiet; is_quiet = (h.source, h.read); same = same }

-- a burst whose first piece came with no silence before it, and its rest
module _ {L : Type 0} (input : L → Input) (idle : L → ℕ) (from mid to : L) (first count : ℕ) (old before new : List ℕ) (source : Advances (input from) (input mid)) (later : idle from ≤ idle mid)
    (same : length before ≡ length old) (read : IsTrue (input from).told → bytes_read (input from) (input mid) ≡ take first before) (hush : idle mid ≡ idle from) where
  abbrev at_once_here : ComesBehind input idle from mid
  at_once_here = record { quiet = from; is_quiet = (Advances-same (input from), λ told. bytes_read-none (input from) (input from) refl); same = hush }

  pub gives_at_once : Finishes (input mid) (input to) (idle mid) (idle to) first before new (Ok count)
      → BurstAtOnce input idle from to (length old) count new
  gives_at_once f = record {
    source = Advances-both (input from) (input mid) (input to) source f.source;
    front = λ told. f.front (source.told ∙ told) ∙ ap (λ n. take n (take first before ++ bytes_read (input mid) (input to))) same
        ∙ ap (take (length old)) (sym (whole input idle from mid to first old before new source later same read at_once_here f told));
    ends = ends_whole input idle from mid to first old before new source later same read at_once_here count f f.ends;
  }

-- the input ended, and nothing came
pub ends_at_once : {L : Type 0} (input : L → Input) (idle : L → ℕ) (from to : L) (room : ℕ) (new : List ℕ) → Advances (input from) (input to) → idle to ≡ idle from
    → (IsTrue (input from).told → bytes_read (input from) (input to) ≡ []) → (IsTrue (input from).told → (input to).left ≡ []) → BurstAtOnce input idle from to room 0 new
ends_at_once input idle from to room new source hush read ended = record {
  source = source;
  front = λ told. sym (ap (take room) (read told) ∙ take_all room [] (omega arith));
  ends = inr (hush, inl ended);
}

-- the link failed behind the first piece
pub fails_at_once : (a b c : Input) → Advances a b → Advances b c → Rose b.faults c.faults → Advances a c × Rose a.faults c.faults
fails_at_once a b c first second rose = (Advances-both a b c first second, (let l = first.later in omega (arith, l, rose)))
