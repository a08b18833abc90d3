-- One run of reads after another is one run.
use Rattle.std.proofs.Common.{Ok, ◌≡◌, ℕ, ◌+◌, ◌-◌, ◌<◌, ◌≤◌, List, [], ◌∷◌, ◌++◌, length, take, drop, map, refl, sym, ◌∙◌, ap, append_assoc, add-zero, length-append, arith, IsTrue}
use Rattle.std.proofs.lemmas.Grind.{common_steps}
use Rattle.std.proofs.lemmas.List.{take-take, take_all, length-take, length-take-le, drop_at, take_at, map-append, append-nil, take-append-drop, drop-append-le}
use Rattle.modbus_link.specs.declared.outside.Cut.{Cut}
use Rattle.modbus_link.specs.Outside.{cut_at, Input, Gives, Advances, Output, Extends, bytes_appended, bytes_read, cuts_made, cuts_from, RisesTo, ReadIsTold, one_cut}

pub RisesTo-append : (start middle end : ℕ) (xs ys : List Cut) → RisesTo start xs middle → RisesTo middle ys end → RisesTo start (xs ++ ys) end
RisesTo-append start middle end [] ys p q = rw p q
RisesTo-append start middle end (x ∷ xs) ys p q = (p.0, RisesTo-append x.total middle end xs ys p.1 q)

pub RisesTo-shifted : (by start end : ℕ) (xs : List Cut) → RisesTo start xs end → RisesTo (by + start) (cuts_from by xs) (by + end)
RisesTo-shifted by start end [] p = omega arith
RisesTo-shifted by start end (x ∷ xs) p = (omega (arith, p.0), RisesTo-shifted by x.total end xs p.1)

-- cuts above a total, counted from an earlier one
pub earlier : (from by middle start end : ℕ) (cuts : List Cut) → middle ≡ from + by
    → RisesTo start (map (λ cut. cut_at (cut.total - middle) cut.room) cuts) end
    → map (λ cut. cut_at (cut.total - from) cut.room) cuts ≡ cuts_from by (map (λ cut. cut_at (cut.total - middle) cut.room) cuts)
earlier from by middle start end [] m p = refl
earlier from by middle start end (cut ∷ cuts) m p =
    let h : start < cut.total - middle = p.0 in
    let e : cut.total - from ≡ by + (cut.total - middle) = omega arith in
    let rest = earlier from by middle (cut.total - middle) end cuts m p.1 in
    cc

pub RisesTo-both : (cuts xs ys : List Cut) (n m total : ℕ) → cuts ≡ xs ++ cuts_from n ys → total ≡ n + m
    → RisesTo 0 xs n → RisesTo 0 ys m → RisesTo 0 cuts total
RisesTo-both cuts xs ys n m total e f p q =
    let after : RisesTo n (cuts_from n ys) (n + m) = rw add-zero at (RisesTo-shifted n 0 m ys q) in
    rw (e, f) (RisesTo-append 0 n (n + m) xs (cuts_from n ys) p after)

-- the front of a list in two parts
pub front_both : (whole xs ys zs : List ℕ) (n : ℕ) → whole ≡ xs ++ (ys ++ zs) → n ≡ length xs + length ys → take n whole ≡ xs ++ ys
front_both whole xs ys zs n e m =
    let joined : whole ≡ (xs ++ ys) ++ zs = rw append_assoc e in
    let count : length (xs ++ ys) ≡ n = rw length-append (sym m) in
    rw joined (take_at (xs ++ ys) zs n count)

-- what was added to a list in two steps
pub added_both : (xs ys zs : List Cut) → take (length xs) ys ≡ xs → take (length ys) zs ≡ ys → drop (length xs) zs ≡ drop (length xs) ys ++ drop (length ys) zs
added_both xs ys zs e f =
    let whole : zs ≡ ys ++ drop (length ys) zs = sym (take-append-drop (length ys) zs) ∙ ap (λ front. front ++ drop (length ys) zs) f in
    let short : length xs ≤ length ys = omega (arith, simp length-take at (ap length e)) in
    ap (drop (length xs)) whole ∙ drop-append-le (length xs) ys (drop (length ys) zs) short

pub front_kept : (xs ys zs : List Cut) → take (length xs) ys ≡ xs → take (length ys) zs ≡ ys → take (length xs) zs ≡ xs
front_kept xs ys zs e f =
    let short : length xs ≤ length ys = omega (arith, simp length-take at (ap length e)) in
    sym (take-take (length xs) (length ys) zs short) ∙ ap (take (length xs)) f ∙ e

-- two runs, one after the other
module _ (a b c : Input) (first : Gives a b) (second : Gives b c) where
  pub given-both : c.given - a.given ≡ length (bytes_read a b) + length (bytes_read b c)
  given-both = omega (arith, first.given, second.given)

  pub left-both : a.left ≡ bytes_read a b ++ (bytes_read b c ++ c.left)
  left-both = first.left ∙ ap (λ rest. bytes_read a b ++ rest) second.left

  pub bytes_read-both : bytes_read a c ≡ bytes_read a b ++ bytes_read b c
  bytes_read-both = front_both a.left (bytes_read a b) (bytes_read b c) c.left (c.given - a.given) left-both given-both

  pub cuts_made-both : cuts_made a c ≡ cuts_made a b ++ cuts_from (length (bytes_read a b)) (cuts_made b c)
  cuts_made-both =
      let later : map (λ (cut : Cut). cut_at (cut.total - a.given) cut.room) (drop (length b.cuts) c.cuts) ≡ cuts_from (length (bytes_read a b)) (cuts_made b c) =
      earlier a.given (length (bytes_read a b)) b.given 0 (length (bytes_read b c)) (drop (length b.cuts) c.cuts) first.given second.rising in
      ap (map (λ (cut : Cut). cut_at (cut.total - a.given) cut.room)) (added_both a.cuts b.cuts c.cuts first.cuts second.cuts)
      ∙ map-append (λ (cut : Cut). cut_at (cut.total - a.given) cut.room) (drop (length a.cuts) b.cuts) (drop (length b.cuts) c.cuts)
      ∙ ap (λ cuts. cuts_made a b ++ cuts) later

  pub count-both : length (bytes_read a c) ≡ length (bytes_read a b) + length (bytes_read b c)
  count-both = ap length bytes_read-both ∙ length-append (bytes_read a b) (bytes_read b c)

  pub Gives-both : Gives a c
  Gives-both = record {
    left = left-both ∙ sym (append_assoc (bytes_read a b) (bytes_read b c) c.left) ∙ ap (λ front. front ++ c.left) (sym bytes_read-both);
    given = omega (arith, first.given, second.given, count-both);
    cuts = front_kept a.cuts b.cuts c.cuts first.cuts second.cuts;
    rising = RisesTo-both (cuts_made a c) (cuts_made a b) (cuts_made b c) (length (bytes_read a b)) (length (bytes_read b c))
        (length (bytes_read a c)) cuts_made-both count-both first.rising second.rising;
  }

-- a run in which nothing was given
pub bytes_read-none : (a b : Input) → b.given ≡ a.given → bytes_read a b ≡ []
bytes_read-none a b e = let none : b.given - a.given ≡ 0 = omega arith in rw none

pub added_none : (xs ys : List Cut) → ys ≡ xs → drop (length xs) ys ≡ []
added_none xs ys e = rw e (grind (arith, common_steps))

pub cuts_made-none : (a b : Input) → b.cuts ≡ a.cuts → cuts_made a b ≡ []
cuts_made-none a b e = ap (map (λ (cut : Cut). cut_at (cut.total - a.given) cut.room)) (added_none a.cuts b.cuts e)

pub RisesTo-none : (cuts : List Cut) (bytes : List ℕ) → cuts ≡ [] → bytes ≡ [] → RisesTo 0 cuts (length bytes)
RisesTo-none cuts bytes e f = rw (e, f) refl

pub Gives-same : (a : Input) → Gives a a
Gives-same a = record {
  left = ap (λ front. front ++ a.left) (sym (bytes_read-none a a refl));
  given = omega (arith, ap length (bytes_read-none a a refl));
  cuts = take_all (length a.cuts) a.cuts (omega arith);
  rising = RisesTo-none (cuts_made a a) (bytes_read a a) (cuts_made-none a a refl) (bytes_read-none a a refl);
}

pub Advances-same : (a : Input) → Advances a a
Advances-same a = record { told = refl; later = omega arith; names = refl; sure = refl; no_fault = λ sure. refl; content = λ told. Gives-same a }

pub Advances-both : (a b c : Input) → Advances a b → Advances b c → Advances a c
Advances-both a b c first second = record {
  told = second.told ∙ first.told;
  later = omega (arith, first.later, second.later);
  names = second.names ∙ first.names;
  sure = second.sure ∙ first.sure;
  no_fault = λ sure. second.no_fault (first.sure ∙ sure) ∙ first.no_fault sure;
  content = λ told. Gives-both a b c (first.content told) (second.content (first.told ∙ told));
}

-- what was appended is what stands behind the old bytes
pub appended_is : (xs ys new : List ℕ) → ys ≡ xs ++ new → drop (length xs) ys ≡ new
appended_is xs ys new e = rw e (drop_at xs new (length xs) refl)

-- two runs of a sink
pub appended_both : (xs ys zs new later : List ℕ) → ys ≡ xs ++ new → zs ≡ ys ++ later → zs ≡ xs ++ (new ++ later)
appended_both xs ys zs new later e f = f ∙ ap (λ front. front ++ later) e ∙ append_assoc xs new later

module _ (a b c : Output) (told : IsTrue a.told) (first : Extends a b) (second : Extends b c) where
  pub bytes-both : c.bytes ≡ a.bytes ++ (bytes_appended a b ++ bytes_appended b c)
  bytes-both = appended_both a.bytes b.bytes c.bytes (bytes_appended a b) (bytes_appended b c)
      (first.content told) (second.content (first.told ∙ told))

  pub bytes_appended-both : bytes_appended a c ≡ bytes_appended a b ++ bytes_appended b c
  bytes_appended-both = appended_is a.bytes c.bytes (bytes_appended a b ++ bytes_appended b c) bytes-both

pub length-front : (xs ys zs : List ℕ) → zs ≡ xs ++ ys → length xs ≤ length zs
length-front xs ys zs e = omega (arith, simp length-append at (ap length e))

pub Extends-same : (a : Output) → Extends a a
Extends-same a = record { told = refl; later = omega arith; names = refl; sure = refl; no_fault = λ told below. refl; content = λ told. grind (arith, common_steps) }

pub Extends-both : (a b c : Output) → Extends a b → Extends b c → Extends a c
Extends-both a b c first second = record {
  told = second.told ∙ first.told;
  later = omega (arith, first.later, second.later);
  names = second.names ∙ first.names;
  sure = second.sure ∙ first.sure;
  no_fault = λ told below.
      let longer : length b.bytes ≤ length c.bytes = length-front b.bytes (bytes_appended b c) c.bytes (second.content (first.told ∙ told)) in
      second.no_fault (first.told ∙ told) (omega (arith, first.sure)) ∙ first.no_fault told (omega arith);
  content = λ told. bytes-both a b c told first second ∙ ap (λ bytes. a.bytes ++ bytes) (sym (bytes_appended-both a b c told first second));
}

-- one more write, or one more call above it
pub appended_more : (a b c : Output) (xs ys : List ℕ) → Extends a b → Extends b c
    → (IsTrue a.told → bytes_appended a b ≡ xs) → (IsTrue b.told → bytes_appended b c ≡ ys)
    → IsTrue a.told → bytes_appended a c ≡ xs ++ ys
appended_more a b c xs ys first second p q told =
    bytes_appended-both a b c told first second
    ∙ ap (λ front. front ++ bytes_appended b c) (p told)
    ∙ ap (λ rest. xs ++ rest) (q (first.told ∙ told))

-- one more read, or one more call above it
pub read_more : (a b c : Input) (xs ys : List ℕ) → Advances a b → Advances b c
    → (IsTrue a.told → bytes_read a b ≡ xs) → (IsTrue b.told → bytes_read b c ≡ ys)
    → IsTrue a.told → bytes_read a c ≡ xs ++ ys
read_more a b c xs ys first second p q told =
    bytes_read-both a b c (first.content told) (second.content (first.told ∙ told))
    ∙ ap (λ front. front ++ bytes_read b c) (p told)
    ∙ ap (λ rest. xs ++ rest) (q (first.told ∙ told))

pub cuts_more : (a b c : Input) (xs ys : List Cut) → Advances a b → Advances b c
    → (IsTrue a.told → cuts_made a b ≡ xs) → (IsTrue b.told → cuts_made b c ≡ ys)
    → IsTrue a.told → cuts_made a c ≡ xs ++ cuts_from (length (bytes_read a b)) ys
cuts_more a b c xs ys first second p q told =
    cuts_made-both a b c (first.content told) (second.content (first.told ∙ told))
    ∙ ap (λ front. front ++ cuts_from (length (bytes_read a b)) (cuts_made b c)) (p told)
    ∙ ap (λ rest. xs ++ cuts_from (length (bytes_read a b)) rest) (q (first.told ∙ told))

pub one_cut-none : (n room : ℕ) → n ≡ 0 → one_cut n room ≡ []
one_cut-none n room e = rw e refl

pub one_cut-one : (n room : ℕ) → (n ≡ 0 → ⊥) → one_cut n room ≡ cut_at n room ∷ []
one_cut-one n room some = grind (arith, common_steps)

-- one read that gave nothing
pub cuts_made-ended : {E : Type 0} (a b c : Input) (before after : List ℕ) (n : ℕ) → Advances a b → Advances b c
    → (IsTrue b.told → ReadIsTold {E = E} b c before after (Ok n)) → n ≡ 0
    → IsTrue a.told → cuts_made a c ≡ cuts_made a b
cuts_made-ended {E} a b c before after n first second read none told =
    cuts_more a b c (cuts_made a b) [] first second (λ told. refl) (λ told. (read told).cuts ∙ one_cut-none n (length before) none) told
    ∙ append-nil (cuts_made a b)

-- one read that gave bytes
pub cuts_made-gave : {E : Type 0} (a b c : Input) (before after : List ℕ) (n : ℕ) → Advances a b → Advances b c
    → (IsTrue b.told → ReadIsTold {E = E} b c before after (Ok n)) → (n ≡ 0 → ⊥)
    → IsTrue a.told → cuts_made a c ≡ cuts_made a b ++ cut_at (length (bytes_read a b) + n) (length before) ∷ []
cuts_made-gave {E} a b c before after n first second read some told =
    cuts_more a b c (cuts_made a b) (cut_at n (length before) ∷ []) first second (λ told. refl) (λ told. (read told).cuts ∙ one_cut-one n (length before) some) told

pub RisesTo-one : (cuts : List Cut) (total n room : ℕ) → cuts ≡ cut_at n room ∷ [] → total ≡ n → 0 < n → RisesTo 0 cuts total
RisesTo-one cuts total n room e f some = rw (e, f) (some, refl)

-- a source that gives n of the bytes that were left, in one read
module _ (old new : Input) (n room : ℕ) (some : 0 < n) (within : n ≤ length old.left) (left : new.left ≡ drop n old.left)
    (given : new.given ≡ old.given + n) (cuts : new.cuts ≡ old.cuts ++ cut_at new.given room ∷ []) where
  pub bytes_read-once : bytes_read old new ≡ take n old.left
  bytes_read-once = let e : new.given - old.given ≡ n = omega arith in rw e refl

  pub cuts_made-once : cuts_made old new ≡ cut_at n room ∷ []
  cuts_made-once =
      let e : new.given - old.given ≡ n = omega arith in
      let last : drop (length old.cuts) new.cuts ≡ cut_at new.given room ∷ [] = rw cuts (drop_at old.cuts (cut_at new.given room ∷ []) (length old.cuts) refl) in
      ap (map (λ (cut : Cut). cut_at (cut.total - old.given) cut.room)) last ∙ ap (λ (total : ℕ). cut_at total room ∷ []) e

  pub Gives-once : Gives old new
  Gives-once =
      let count : length (bytes_read old new) ≡ n = ap length bytes_read-once ∙ length-take-le n old.left within in
      record {
        left = sym (take-append-drop n old.left) ∙ ap (λ rest. take n old.left ++ rest) (sym left) ∙ ap (λ front. front ++ new.left) (sym bytes_read-once);
        given = omega arith;
        cuts = rw cuts (take_at old.cuts (cut_at new.given room ∷ []) (length old.cuts) refl);
        rising = RisesTo-one (cuts_made old new) (length (bytes_read old new)) n room cuts_made-once count some;
      }

-- each cut is of a byte at least
pub RisesTo-count : (start end : ℕ) (cuts : List Cut) → RisesTo start cuts end → start + length cuts ≤ end
RisesTo-count start end [] p = omega arith
RisesTo-count start end (cut ∷ cuts) p = omega (arith, p.0, RisesTo-count cut.total end cuts p.1)

-- no more bytes were read than were left, and no more cuts made
pub cuts_made-count : (a b : Input) → Gives a b → length (cuts_made a b) ≤ length a.left
cuts_made-count a b gives =
    omega (arith, RisesTo-count 0 (length (bytes_read a b)) (cuts_made a b) gives.rising, length-front (bytes_read a b) b.left a.left gives.left)

-- the whole rest was read where nothing is left
pub bytes_read-all : (a b : Input) → Gives a b → b.left ≡ [] → bytes_read a b ≡ a.left
bytes_read-all a b gives none = sym (gives.left ∙ ap (λ rest. bytes_read a b ++ rest) none ∙ append-nil (bytes_read a b))
