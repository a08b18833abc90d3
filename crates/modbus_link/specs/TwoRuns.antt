-- The cuts and rooms of one run of reads after another.
use Rattle.std.proofs.Common.{◌≡◌, ℕ, ◌+◌, ◌≤◌, List, [], ◌∷◌, ◌++◌, map, length, refl, sym, ap, ◌∙◌, subst, arith, append_assoc, append-nil, length-append}
use Rattle.std.proofs.lemmas.List.{map-append, take-append-le}
use Rattle.modbus_link.specs.declared.outside.Cut.{Cut}
use Rattle.modbus_link.specs.Outside.{cut_at, RisesTo, cuts_from}
use Rattle.modbus_link.specs.Runs.{RisesTo-count}
use Rattle.modbus_link.specs.Reads.{HaveRooms, totals}

length_map : (f : Cut → Cut) (xs : List Cut) → length (map f xs) ≡ length xs
length_map f [] = refl
length_map f (x ∷ xs) = omega (arith, length_map f xs)

pub totals_count : (xs : List Cut) → length (totals xs) ≡ length xs
totals_count [] = refl
totals_count (x ∷ xs) = omega (arith, totals_count xs)

pub count_both : (n : ℕ) (xs ys : List Cut) → length (xs ++ cuts_from n ys) ≡ length xs + length ys
count_both n xs ys = length-append xs (cuts_from n ys) ∙ ap (λ m. length xs + m) (length_map (λ (cut : Cut). cut_at (n + cut.total) cut.room) ys)

pub totals_both : (n : ℕ) (xs ys : List Cut) → totals (xs ++ cuts_from n ys) ≡ totals xs ++ totals (cuts_from n ys)
totals_both n xs ys = map-append (λ (cut : Cut). cut.total) xs (cuts_from n ys)

pub shifted_none : (xs : List Cut) → cuts_from 0 xs ≡ xs
shifted_none [] = refl
shifted_none (x ∷ xs) =
    let same : 0 + x.total ≡ x.total = omega arith in
    let rest = shifted_none xs in
    let head : ℕ → Cut = λ n. cut_at n x.room in
    ap (λ n. head n ∷ cuts_from 0 xs) same ∙ ap (λ ys. x ∷ ys) rest

pub rooms_more : (HasRoom : List ℕ → ℕ → Type 0) (bytes more : List ℕ) (total end : ℕ) (cuts : List Cut) → RisesTo total cuts end → end ≤ length bytes
    → HaveRooms HasRoom bytes total cuts → HaveRooms HasRoom (bytes ++ more) total cuts
rooms_more HasRoom bytes more total end [] p le rooms = tt
rooms_more HasRoom bytes more total end (cut ∷ cuts) p le rooms =
    let low : total ≤ length bytes = omega (arith, p.0, RisesTo-count cut.total end cuts p.1) in
    (subst (λ b. HasRoom b cut.room) (sym (take-append-le total bytes more low)) rooms.0, rooms_more HasRoom bytes more cut.total end cuts p.1 le rooms.1)

pub rooms_then : (HasRoom : List ℕ → ℕ → Type 0) (bytes : List ℕ) (total end : ℕ) (xs ys : List Cut) → RisesTo total xs end
    → HaveRooms HasRoom bytes total xs → HaveRooms HasRoom bytes end ys → HaveRooms HasRoom bytes total (xs ++ ys)
rooms_then HasRoom bytes total end [] ys p q r = subst (λ t. HaveRooms HasRoom bytes t ys) (sym p) r
rooms_then HasRoom bytes total end (x ∷ xs) ys p q r = (q.0, rooms_then HasRoom bytes x.total end xs ys p.1 q.1 r)

shifted_twice : (n m : ℕ) (cuts : List Cut) → cuts_from n (cuts_from m cuts) ≡ cuts_from (n + m) cuts
shifted_twice n m [] = refl
shifted_twice n m (cut ∷ cuts) =
    let same : n + (m + cut.total) ≡ (n + m) + cut.total = omega arith in
    let head : ℕ → Cut = λ total. cut_at total cut.room in
    ap (λ total. head total ∷ cuts_from n (cuts_from m cuts)) same ∙ ap (λ rest. head ((n + m) + cut.total) ∷ rest) (shifted_twice n m cuts)

-- the cuts of one run after another, counted from an earlier total
pub shifted_both : (n m : ℕ) (xs ys : List Cut) → cuts_from n (xs ++ cuts_from m ys) ≡ cuts_from n xs ++ cuts_from (n + m) ys
shifted_both n m [] ys = shifted_twice n m ys
shifted_both n m (x ∷ xs) ys = let head : Cut = cut_at (n + x.total) x.room in ap (λ rest. head ∷ rest) (shifted_both n m xs ys)

-- two runs after what was read before are one
pub regroup : (P : List ℕ → List Cut → Type 0) (bytes fed fed' : List ℕ) (earlier made made' : List Cut)
    → P ((bytes ++ fed) ++ fed') ((earlier ++ cuts_from (length bytes) made) ++ cuts_from (length (bytes ++ fed)) made')
    → P (bytes ++ (fed ++ fed')) (earlier ++ cuts_from (length bytes) (made ++ cuts_from (length fed) made'))
regroup P bytes fed fed' earlier made made' p =
    subst (λ b. P b (earlier ++ cuts_from (length bytes) (made ++ cuts_from (length fed) made'))) (append_assoc bytes fed fed') (subst (P ((bytes ++ fed) ++ fed')) cuts p)
  where
    cuts : (earlier ++ cuts_from (length bytes) made) ++ cuts_from (length (bytes ++ fed)) made' ≡ earlier ++ cuts_from (length bytes) (made ++ cuts_from (length fed) made')
    cuts = append_assoc earlier (cuts_from (length bytes) made) (cuts_from (length (bytes ++ fed)) made')
        ∙ ap (λ (n : ℕ). earlier ++ (cuts_from (length bytes) made ++ cuts_from n made')) (length-append bytes fed)
        ∙ ap (λ (rest : List Cut). earlier ++ rest) (sym (shifted_both (length bytes) (length fed) made made'))

-- a run that read nothing
pub unread_on : (P : List ℕ → List Cut → Type 0) (bytes : List ℕ) (earlier : List Cut) → P bytes earlier → P (bytes ++ []) (earlier ++ [])
unread_on P bytes earlier p = subst (λ b. P b (earlier ++ [])) (sym (append-nil bytes)) (subst (P bytes) (sym (append-nil earlier)) p)
