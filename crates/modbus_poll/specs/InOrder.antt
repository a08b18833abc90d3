-- Items and their ends in order, as the planner goes over them.
use Rattle.std.specs.Prelude.{ℕ, ◌≤◌, All, Contains, List, map}
use Rattle.std.specs.List.Sorted.{IsPermutation, IsNonDecreasing, IsNonDecreasingBy}
use Rattle.modbus_poll.specs.declared.item.Item.{Item}
use Rattle.modbus_poll.specs.Items.{item_end}

-- no item begins before those that stand before it
abbrev pub BeginInOrder : List Item → Type 0
BeginInOrder items = IsNonDecreasingBy (λ (item : Item). item.address) items

-- the same items in that order
abbrev pub AreSorted : List Item → List Item → Type 0
AreSorted items sorted = IsPermutation items sorted × BeginInOrder sorted

-- their ends, the least first
abbrev pub AreEnds : List Item → List ℕ → Type 0
AreEnds items ends = IsPermutation (map item_end items) ends × IsNonDecreasing ends

-- This is one of the ends that the limit allows, and none of these is greater.
pub record IsGreatestEnd (ends : List ℕ) (limit end : ℕ) : Type 0 where
  pub among : Contains ends end
  pub allowed : end ≤ limit
  pub greatest : All (λ other. other ≤ limit → other ≤ end) ends
