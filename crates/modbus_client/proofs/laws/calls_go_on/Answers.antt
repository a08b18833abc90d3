use Rattle.std.proofs.Common.{◌≡◌, ℕ, List, [], ◌++◌, take, drop, sym, ap, ◌∙◌, append_assoc, rules}
use Rattle.std.proofs.lemmas.Grind.{common_steps}
use Rattle.std.proofs.lemmas.List.{take-append-drop}
use Rattle.modbus_client.proofs.laws.calls_go_on.Goals as goal

none_left : (n : ℕ) (xs : List ℕ) → xs ≡ [] → drop n xs ≡ []
none_left n xs e = rw e (nothing n)
  where
    nothing : (n : ℕ) → (let none : List ℕ = [] in drop n none ≡ none)
    nothing n = search (rules, common_steps)

pub returns-clause-write : goal.returns-clause-write
returns-clause-write g c = λ written bytes cuts n call s within. record {
  wrote = s.wrote ∙ ap (λ w. written ++ w) (sym (take-append-drop n call.unwritten)) ∙ sym (append_assoc written (take n call.unwritten) (drop n call.unwritten));
  first = λ some. s.first (λ none. some (none_left n call.unwritten none));
  finds = s.finds;
  counted = s.counted;
  counts = s.counts;
}

pub returns-clause-room : goal.returns-clause-room
returns-clause-room g c = λ written bytes cuts n call s. record { wrote = s.wrote; first = s.first; finds = s.finds; counted = s.counted; counts = s.counts }
