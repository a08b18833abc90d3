-- A plan for items in one order is one for them in another.
use Rattle.std.proofs.Common.{◌≡◌, true, List, [], ◌∷◌, ◌++◌, Result, Ok, Err, IfOk}
use Rattle.std.specs.List.Sorted.{IsPermutation}
use Rattle.std.proofs.lemmas.List.Sorted.{IsPermutation-sym, All-permutation, Contains-permutation}
use Rattle.modbus_poll.specs.declared.item.Item.{Item}
use Rattle.modbus_poll.specs.declared.read.Read.{Read}
use Rattle.modbus_poll.specs.Items.{is_covered}
use Rattle.modbus_poll.specs.Plans.{IsPlan, IsLeft, IsNextRead, Follow}

module _ (items others : List Item) (moved : IsPermutation items others) where
  left : (reads : List Read) (item : Item) → IsLeft others reads item → IsLeft items reads item
  left reads item l = record { among = Contains-permutation others items item (IsPermutation-sym items others moved) l.among; uncovered = l.uncovered }

  left_back : (reads : List Read) (item : Item) → IsLeft items reads item → IsLeft others reads item
  left_back reads item l = record { among = Contains-permutation items others item moved l.among; uncovered = l.uncovered }

  next : (earlier : List Read) (read : Read) → IsNextRead others earlier read → IsNextRead items earlier read
  next earlier read n = record {
    begins = (n.begins.0, left earlier n.begins.0 n.begins.1, n.begins.2);
    least = λ item l. n.least item (left_back earlier item l);
    ends = (
      n.ends.0,
      record {
        among = Contains-permutation others items n.ends.0 (IsPermutation-sym items others moved) n.ends.1.among;
        begins = n.ends.1.begins;
        ends = n.ends.1.ends;
      },
      n.ends.2,
    );
    greatest = λ item r. n.greatest item (record { among = Contains-permutation items others item moved r.among; begins = r.begins; ends = r.ends });
  }

  pub follow_ordered : (earlier reads : List Read) → Follow others earlier reads → Follow items earlier reads
  follow_ordered earlier [] f = tt
  follow_ordered earlier (read ∷ later) f = (next earlier read f.0, follow_ordered (earlier ++ read ∷ []) later f.1)

  pub plan_ordered : (reads : List Read) → IsPlan others reads → IsPlan items reads
  plan_ordered reads p = record {
    counts = p.counts;
    covers = All-permutation (λ item. is_covered reads item ≡ true) others items (IsPermutation-sym items others moved) p.covers;
  }

-- what follows from an answer that is there
pub ok_more : {A E : Type 0} (P Q : A → Type 0) → ((x : A) → P x → Q x) → (r : Result A E) → IfOk r P → IfOk r Q
ok_more P Q f (Ok x) p = f x p
ok_more P Q f (Err e) p = tt
