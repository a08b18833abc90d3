-- Bytes that are moved to the front.
use Rattle.std.proofs.Common.{◌≡◌, ℕ, ◌+◌, ◌≤◌, ◌<◌, List, ◌++◌, length, take, drop, arith, sym, ◌∙◌}
use Rattle.std.proofs.lemmas.List.{drop-take, take_all}
use Rattle.std.proofs.lemmas.Grind.{common_steps}

pub moved : (xs : List ℕ) (count n : ℕ) → count + n ≤ length xs → take n (take 0 xs ++ take n (drop count xs) ++ drop (0 + n) xs) ≡ drop count (take (count + n) xs)
moved xs count n inside = grind (arith, common_steps, drop-take)

-- no list has more than all its items
pub all_taken : (n m : ℕ) (xs : List ℕ) → length xs ≤ n → length xs ≤ m → take n xs ≡ take m xs
all_taken n m xs a b = take_all n xs a ∙ sym (take_all m xs b)

-- a list that is shorter is taken whole
pub short_taken : {A : Type 0} (n : ℕ) (xs : List A) → length xs < n → take n xs ≡ xs
short_taken n xs a = take_all n xs (omega (arith, a))
