-- Bytes that stand somewhere in others stand at the front of what is left of these.
use Rattle.std.proofs.Common.{◌≡◌, ℕ, ◌+◌, ◌-◌, ◌≤◌, min, List, ◌++◌, length, take, drop, refl, sym, ap, ◌∙◌, arith, length-drop}
use Rattle.std.proofs.Math.Seq.{paste, take-append-add}
use Rattle.std.proofs.lemmas.List.{take-append-drop, drop_at, drop-take, take_min, take_all}
use Rattle.std.proofs.lemmas.List.Edits.{take-paste}
use Rattle.modbus_link.specs.Outside.{IsFront}
use Rattle.modbus_echo.specs.Guard.{most_kept, IsWithin}

pub within_at : (whole part : List ℕ) (n : ℕ) → drop n whole ≡ part ++ drop (length part) (drop n whole) → IsWithin part whole
within_at whole part n e =
    (take n whole, drop (length part) (drop n whole), sym (take-append-drop n whole) ∙ ap (λ rest. take n whole ++ rest) e)

pub front_at : (whole part before after : List ℕ) → whole ≡ before ++ (part ++ after) → IsFront part (drop (length before) whole)
front_at whole part before after e = (after, ap (drop (length before)) e ∙ drop_at before (part ++ after) (length before) refl)

-- bytes behind so many that were moved to the front
pub moved_front : (room new : List ℕ) (front count : ℕ) → front ≤ count → count ≤ length room → new ≡ paste room 0 (drop front room) (count - front)
    → take (count - front) new ≡ drop front (take count room)
moved_front room new front count low within e =
    let n = count - front in
    let left : n ≤ length (drop front room) = omega (arith, low, within, length-drop front room) in
    let start : 0 + n ≡ n = omega arith in
    let all : front + n ≡ count = omega (arith, low) in
    ap (take n) e ∙ ap (λ k. take k (paste room 0 (drop front room) n)) (sym start) ∙ take-paste room 0 (drop front room) n (omega arith) left
    ∙ sym (drop-take front n room) ∙ ap (λ k. drop front (take k room)) all

-- as many bytes as fit are kept, behind those that are
pub more_kept : (kept piece : List ℕ) (free n : ℕ) → free + length kept ≡ most_kept → n ≡ min (length piece) free
    → kept ++ take n piece ≡ take most_kept (kept ++ piece)
more_kept kept piece free n room is =
    let few : take n piece ≡ take free piece = ap (λ k. take k piece) (let same : n ≡ min free (length piece) = omega (arith, is) in same) ∙ take_min free piece in
    let all : length kept + free ≡ most_kept = omega (arith, room) in
    ap (λ rest. kept ++ rest) few ∙ sym (take-append-add kept piece free) ∙ ap (λ k. take k (kept ++ piece)) all

pub front_kept : (items bytes : List ℕ) (n : ℕ) → n ≡ min (length bytes) most_kept → items ≡ take n bytes → items ≡ take most_kept bytes
front_kept items bytes n is e =
    e ∙ ap (λ k. take k bytes) (let same : n ≡ min most_kept (length bytes) = omega (arith, is) in same) ∙ take_min most_kept bytes

-- what is left behind so many bytes is all of it
pub left_whole : (bytes : List ℕ) (n : ℕ) → take (length bytes - n) (drop n bytes) ≡ drop n bytes
left_whole bytes n = take_all (length bytes - n) (drop n bytes) (omega (arith, length-drop n bytes))
