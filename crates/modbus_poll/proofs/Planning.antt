-- What holds of the reads that were planned for the first items of a list that is sorted by their addresses.
use Rattle.std.proofs.Common.{◌≡◌, ℕ, ◌+◌, ◌<◌, ◌≤◌, All, Contains, true, false, List, [], ◌∷◌, ◌++◌, length, get_or, map, inl, inr, refl, sym, subst, ◌∙◌, ap, append_assoc, append-nil, arith, below_more}
use Rattle.std.specs.List.{AllPass}
use Rattle.std.specs.List.Sorted.{IsPermutation, IsNonDecreasingBy}
use Rattle.std.proofs.lemmas.Bool.{cases_lt}
use Rattle.std.proofs.lemmas.List.{get_or-map, length-map}
use Rattle.std.proofs.lemmas.List.Sorted.{IsPermutation-sym, Contains-permutation}
use Rattle.std.proofs.lemmas.List.Elements.{All-push, All-contains, Contains-get_or, Contains-push}
use Rattle.std.proofs.lemmas.List.Folds.{list_any-append, list_any_none, list_any_at}
use Rattle.modbus_pdu.specs.Limits.{max_read_registers}
use Rattle.modbus_poll.specs.declared.item.Item.{Item}
use Rattle.modbus_poll.specs.declared.item.Kind.TheVariants.{U16}
use Rattle.modbus_poll.specs.declared.read.Read.{Read}
use Rattle.modbus_poll.specs.Items.{width, item_end, read_end, is_count, is_readable, lies_in, is_covered}
use Rattle.modbus_poll.specs.Spans.{span_of}
use Rattle.modbus_poll.specs.Plans.{IsPlan, IsLeft, IsNextRead, Follow}
use Rattle.modbus_poll.specs.InOrder.{IsGreatestEnd}
use Rattle.modbus_poll.proofs.Tests.{lies, ends_before, readable_width}

-- These reads were planned for the first items, and the last of them ends there.
pub record Planned (items : List Item) (done : ℕ) (reads : List Read) (reached : ℕ) : Type 0 where
  pub follow : Follow items [] reads
  pub counts : AllPass (λ (read : Read). is_count read.count) reads
  pub covered : (k : ℕ) → k < done → (d : Item) → is_covered reads (get_or items k d) ≡ true
  pub passed : (k : ℕ) → k < done → (d : Item) → item_end (get_or items k d) ≤ reached
  pub below : All (λ (read : Read). read_end read ≤ reached) reads
  pub last : 0 < reached → (read : Read) × Contains reads read × (read_end read ≡ reached)
  pub started : (k : ℕ) (d : Item) → done ≤ k → k < length items → All (λ (read : Read). read.address ≤ (get_or items k d).address) reads

pub follow_push : (items : List Item) (earlier reads : List Read) (read : Read) → Follow items earlier reads → IsNextRead items (earlier ++ reads) read
    → Follow items earlier (reads ++ read ∷ [])
follow_push items earlier [] read follow next = (subst (λ e. IsNextRead items e read) (append-nil earlier) next, tt)
follow_push items earlier (r ∷ rs) read follow next =
    (follow.0, follow_push items (earlier ++ r ∷ []) rs read follow.1 (subst (λ e. IsNextRead items e read) (sym (append_assoc earlier (r ∷ []) rs)) next))

-- an item that lies in one of the reads
covered_by : (reads : List Read) (item : Item) (read : Read) → Contains reads read → lies_in item read ≡ true → is_covered reads item ≡ true
covered_by reads item read among holds = list_any_at (lies_in item) reads among.0 read among.1 (subst (λ r. lies_in item r ≡ true) (sym among.2) holds)

covered_more : (reads : List Read) (item : Item) (read : Read) → is_covered reads item ≡ true → is_covered (reads ++ read ∷ []) item ≡ true
covered_more reads item read e = rw (list_any-append (lies_in item) reads (read ∷ [])) (rw e refl)

pub planned_none : (items : List Item) → Planned items 0 [] 0
planned_none items = record {
  follow = tt;
  counts = λ k d less. absurd (omega arith);
  covered = λ k less d. absurd (omega arith);
  passed = λ k less d. absurd (omega arith);
  below = λ k d less. absurd (omega arith);
  last = λ less. absurd (omega arith);
  started = λ k d le less j e within. absurd (omega arith);
}

-- an item that the last read reaches
pub planned_kept : (items : List Item) (i : ℕ) (reads : List Read) (reached : ℕ) → Planned items i reads reached → i < length items
    → ((d : Item) → 0 < item_end (get_or items i d)) → ((d : Item) → item_end (get_or items i d) ≤ reached) → Planned items (i + 1) reads reached
planned_kept items i reads reached p within some ends = record {
  follow = p.follow;
  counts = p.counts;
  covered = below_more (λ k. (d : Item) → is_covered reads (get_or items k d) ≡ true) i p.covered here;
  passed = below_more (λ k. (d : Item) → item_end (get_or items k d) ≤ reached) i p.passed ends;
  below = p.below;
  last = p.last;
  started = λ k d le less. p.started k d (omega arith) less;
}
  where
    here : (d : Item) → is_covered reads (get_or items i d) ≡ true
    here d =
        let more : 0 < reached = omega (arith, some d, ends d) in
        let last = p.last more in
        let begins : last.0.address ≤ (get_or items i d).address = All-contains (λ (read : Read). read.address ≤ (get_or items i d).address) reads last.0 (p.started i d (omega arith) within) last.1 in
        covered_by reads (get_or items i d) last.0 last.1 (lies (get_or items i d) last.0 begins (omega (arith, ends d, last.2)))

-- the ends of items, in another order
pub end_among : (items : List Item) (ends : List ℕ) → IsPermutation (map item_end items) ends → (item : Item) → Contains items item → Contains ends (item_end item)
end_among items ends moved item among =
    Contains-permutation (map item_end items) ends (item_end item) moved
    (among.0, rw length-map among.1, get_or-map item_end items among.0 item (item_end item) among.1 ∙ ap item_end among.2)

item_of : (items : List Item) (ends : List ℕ) → IsPermutation (map item_end items) ends → (end : ℕ) → Contains ends end → (item : Item) × Contains items item × (item_end item ≡ end)
item_of items ends moved end among =
    let back = Contains-permutation ends (map item_end items) end (IsPermutation-sym _ _ moved) among in
    let within : back.0 < length items = rw length-map at back.1 in
    let some : Item = record { address = 0; kind = U16 } in
    (get_or items back.0 some, Contains-get_or items back.0 some within, sym (get_or-map item_end items back.0 some end within) ∙ back.2)

-- The read that begins with an item which no earlier one reaches.
module _ (items : List Item) (ends : List ℕ) (readable : AllPass is_readable items) (sorted : IsNonDecreasingBy (λ (item : Item). item.address) items)
    (moved : IsPermutation (map item_end items) ends) (i : ℕ) (reads : List Read) (reached : ℕ) (p : Planned items i reads reached) (within : i < length items)
    (item : Item) (at : (d : Item) → get_or items i d ≡ item) (over : reached < item_end item)
    (read : Read) (begins : read.address ≡ item.address) (ends_there : IsGreatestEnd ends (item.address + max_read_registers) (read_end read)) where
  width_of : (1 ≤ width item.kind) × (width item.kind ≤ max_read_registers)
  width_of = readable_width item (subst (λ x. is_readable x ≡ true) (at item) (readable i item within))

  here : Contains items item
  here = (i, within, at item)

  -- every item within reach ends with the read at the latest
  reaches : (other : Item) → Contains items other → item_end other ≤ item.address + max_read_registers → item_end other ≤ read_end read
  reaches other among le = All-contains (λ end. end ≤ item.address + max_read_registers → end ≤ read_end read) ends (item_end other) ends_there.greatest (end_among items ends moved other among) le

  pub itself : item_end item ≤ read_end read
  itself = reaches item here (omega (arith, width_of.1))

  -- an item that ends after all earlier reads does not stand before this one
  not_before : (other : Item) (k : ℕ) → k < length items → get_or items k other ≡ other → reached < item_end other → item.address ≤ other.address
  not_before other k less is past = elim (cases_lt k i) [
    | inl lt ↦ let e : item_end (get_or items k other) ≤ reached = p.passed k lt other in let same = ap item_end is in absurd (omega arith)
    | inr ge ↦
        let up : (get_or items i other).address ≤ (get_or items k other).address = sorted i k other ge less in
        let one : (get_or items i other).address ≡ item.address = ap (λ (x : Item). x.address) (at other) in
        let two : (get_or items k other).address ≡ other.address = ap (λ (x : Item). x.address) is in
        omega arith
  ]

  -- an item that lies in no earlier read does not either
  left_after : (other : Item) → IsLeft items reads other → read.address ≤ other.address
  left_after other left = elim (cases_lt left.among.0 i) [
    | inl lt ↦
        let e : is_covered reads other ≡ true = subst (λ x. is_covered reads x ≡ true) left.among.2 (p.covered left.among.0 lt other) in
        let f : true ≡ false = sym e ∙ left.uncovered in
        absurd (cc)
    | inr ge ↦
        let up : (get_or items i other).address ≤ (get_or items left.among.0 other).address = sorted i left.among.0 other ge left.among.1 in
        let one : (get_or items i other).address ≡ item.address = ap (λ (x : Item). x.address) (at other) in
        let two : (get_or items left.among.0 other).address ≡ other.address = ap (λ (x : Item). x.address) left.among.2 in
        omega arith
  ]

  in_none : is_covered reads item ≡ false
  in_none = list_any_none (lies_in item) reads (λ k d less. ends_before (span_of item) (get_or reads k d) (let e : read_end (get_or reads k d) ≤ reached = p.below k d less in omega arith))

  next_read : IsNextRead items reads read
  next_read =
      let last = item_of items ends moved (read_end read) ends_there.among in
      record {
        begins = (item, record { among = here; uncovered = in_none }, sym begins);
        least = left_after;
        ends = (
          last.0,
          record {
            among = last.1;
            begins = let e : item.address ≤ last.0.address = not_before last.0 last.1.0 last.1.1 last.1.2 (omega (arith, itself, last.2)) in omega arith;
            ends = omega (arith, last.2, ends_there.allowed);
          },
          last.2,
        );
        greatest = λ other reach. reaches other reach.among (omega (arith, reach.ends));
      }

  pub planned_more : is_count read.count ≡ true → Planned items (i + 1) (reads ++ read ∷ []) (read_end read)
  planned_more count = record {
    follow = follow_push items [] reads read p.follow next_read;
    counts = All-push (λ (r : Read). is_count r.count ≡ true) reads read p.counts count;
    covered = below_more (λ k. (d : Item) → is_covered (reads ++ read ∷ []) (get_or items k d) ≡ true) i
        (λ k less d. covered_more reads (get_or items k d) read (p.covered k less d))
        (λ d. covered_by (reads ++ read ∷ []) (get_or items i d) read (Contains-push reads read)
        (subst (λ x. lies_in x read ≡ true) (sym (at d)) (lies item read (omega arith) itself)));
    passed = below_more (λ k. (d : Item) → item_end (get_or items k d) ≤ read_end read) i
        (λ k less d. let e : item_end (get_or items k d) ≤ reached = p.passed k less d in omega (arith, itself))
        (λ d. subst (λ x. item_end x ≤ read_end read) (sym (at d)) itself);
    below = All-push (λ (r : Read). read_end r ≤ read_end read) reads read
        (λ k d less. let e : read_end (get_or reads k d) ≤ reached = p.below k d less in omega (arith, itself)) (omega arith);
    last = λ _. (read, Contains-push reads read, refl);
    started = λ k d le less. All-push (λ (r : Read). r.address ≤ (get_or items k d).address) reads read (p.started k d (omega arith) less) (
        let up : (get_or items i d).address ≤ (get_or items k d).address = sorted i k d (omega arith) less in
        let one : (get_or items i d).address ≡ item.address = ap (λ (x : Item). x.address) (at d) in
        omega arith);
  }

-- each item lies in one of the reads, once all were looked at
pub all_planned : (items : List Item) (reads : List Read) (reached : ℕ) → Planned items (length items) reads reached → IsPlan items reads × Follow items [] reads
all_planned items reads reached p = (record { counts = p.counts; covers = λ k d less. p.covered k less d }, p.follow)
