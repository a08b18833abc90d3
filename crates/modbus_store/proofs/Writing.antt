-- Tables after a write.
use Rattle.std.proofs.Common.{◌≡◌, ℕ, ◌+◌, ◌<◌, ◌≤◌, List, [], ◌∷◌, ◌++◌, length, take, drop, ap, ◌∙◌, arith, length-append, length-take, length-drop}
use Rattle.std.specs.Prelude.{slice_index}
use Rattle.std.proofs.lemmas.List.{take_more, get_or-drop}
use Rattle.modbus_store.specs.Tables.{entries, with_entries}

-- one entry more
pub entries_more : (a i : ℕ) (table : List ℕ) → a + i < length table → entries a (i + 1) table ≡ entries a i table ++ slice_index table (a + i) ∷ []
entries_more a i table inside = take_more (drop a table) i 0 (omega (arith, length-drop a table)) ∙ ap (λ x. take i (drop a table) ++ x ∷ []) (get_or-drop a table i 0)

-- a write inside the table keeps its length
pub written_keeps_length : (a : ℕ) (words table : List ℕ) → a + length words ≤ length table → length (with_entries a words table) ≡ length table
written_keeps_length a words table inside = joined (take a table) (drop (a + length words) table) (grind (arith, length-take a table)) (grind (arith, length-drop (a + length words) table))
  where
    joined : (before after : List ℕ) → (length before ≡ a) → (length after + (a + length words) ≡ length table) → length (before ++ words ++ after) ≡ length table
    joined before after first last = omega (arith, first, last, length-append (before ++ words) after, length-append before words)
