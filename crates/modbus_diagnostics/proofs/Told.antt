-- How a message for all ended, unit by unit.
use Rattle.std.proofs.Common.{◌≡◌, ℕ, ◌+◌, ◌<◌, List, [], ◌∷◌, ◌++◌, length, take, drop, set, get_or, refl, sym, subst, ap, ◌∙◌, arith}
use Rattle.std.specs.Prelude.{map}
use Rattle.std.specs.List.{AllZip}
use Rattle.std.proofs.lemmas.List.{take_more_set, map-append}
use Rattle.modbus_frame.specs.Meaning.{Asked}
use Rattle.modbus_service.specs.declared.only_unit.OnlyUnit.{OnlyUnit}
use Rattle.modbus_service.specs.Answering.{Answering}
use Rattle.modbus_service.specs.Units.{Did}
use Rattle.modbus_diagnostics.specs.declared.counters.Ended.{Ended}
use Rattle.modbus_diagnostics.specs.declared.counters.Ended.TheVariants.{Well, Refused, Silent}
use Rattle.modbus_diagnostics.specs.PortUnits.{worse, worst, Done, EndsAt, DidSo, AllDid}
use Rattle.modbus_diagnostics.proofs.Places.{take_push, still}

worse_well : (a : Ended) → worse a Well ≡ a
worse_well Well = refl
worse_well (Refused code) = refl
worse_well Silent = refl

worse_assoc : (a b c : Ended) → worse a (worse b c) ≡ worse (worse a b) c
worse_assoc Well b c = refl
worse_assoc (Refused code) b c = refl
worse_assoc Silent Well c = refl
worse_assoc Silent (Refused code) c = refl
worse_assoc Silent Silent Well = refl
worse_assoc Silent Silent (Refused code) = refl
worse_assoc Silent Silent Silent = refl

worst_push : (ends : List Ended) (end : Ended) → worst (ends ++ end ∷ []) ≡ worse (worst ends) end
worst_push [] end = worse_well end
worst_push (first ∷ ends) end = ap (λ e. worse first e) (worst_push ends end) ∙ worse_assoc first (worst ends) end

-- one more pair
zip_push : {X Y : Type 0} (R : X → Y → Type 0) (xs : List X) (ys : List Y) (x : X) (y : Y) → AllZip R xs ys → R x y → AllZip R (xs ++ x ∷ []) (ys ++ y ∷ [])
zip_push R [] [] x y all here = (here, all)
zip_push R [] (b ∷ bs) x y all here = absurd all
zip_push R (a ∷ more) [] x y all here = absurd all
zip_push R (a ∷ more) (b ∷ bs) x y (first, rest) here = (first, zip_push R more bs x y rest here)

module _ {S : Type 0} (A : Answering S) (request : Asked) where
  -- before the first unit
  pub none_did : AllDid A request [] [] Well
  none_did = record { done = []; each = tt; now_is = refl; ended = refl }

  did_one : (olds news : List (OnlyUnit S)) (i : ℕ) (x : OnlyUnit S) (next : S) (ended end : Ended) → i < length news
      → length news ≡ length olds → x ≡ get_or news i x → drop i news ≡ drop i olds → AllDid A request (take i olds) (take i news) ended
      → EndsAt A x.service request end next
      → AllDid A request (take (i + 1) olds) (take (i + 1) (set news i (record x { service = next }))) (worse ended end)
  did_one olds news i x next ended end within long is rest did here =
      let inside : i < length olds = omega arith in
      let one : Done S = record { unit = record x { service = next }; end = end } in
      let more = zip_push (DidSo A request) (take i olds) did.done x one did.each (refl, here) in
      record {
        done = did.done ++ one ∷ [];
        each = subst (λ xs. AllZip (DidSo A request) xs (did.done ++ one ∷ [])) (sym (take_push olds i x inside (still olds news i x is rest))) more;
        now_is = take_more_set news i one.unit within ∙ ap (λ us. us ++ one.unit ∷ []) did.now_is
            ∙ sym (map-append (λ (it : Done S). it.unit) did.done (one ∷ []));
        ended = ap (λ e. worse e end) did.ended ∙ sym (worst_push (map (λ (it : Done S). it.end) did.done) end)
            ∙ ap worst (sym (map-append (λ (it : Done S). it.end) did.done (one ∷ [])));
      }

  -- one more unit did it
  pub did_more : (olds news : List (OnlyUnit S)) (i : ℕ) (x : OnlyUnit S) (next : S) (ended : Ended) {end result : Ended} → i < length news
      → length news ≡ length olds → x ≡ get_or news i x → drop i news ≡ drop i olds → AllDid A request (take i olds) (take i news) ended
      → EndsAt A (get_or news i x).service request end next → result ≡ worse ended end
      → AllDid A request (take (i + 1) olds) (take (i + 1) (set news i (record { unit = (get_or news i x).unit; service = next }))) result
  did_more olds news i x next ended {end} {result} within long is rest did here is_worse =
      let here_at = subst (λ (u : OnlyUnit S). EndsAt A u.service request end next) (sym is) here in
      let more = did_one olds news i x next ended end within long is rest did here_at in
      subst (λ e. AllDid A request (take (i + 1) olds) (take (i + 1) (set news i (record { unit = (get_or news i x).unit; service = next }))) e) (sym is_worse)
      (subst (λ (u : OnlyUnit S). AllDid A request (take (i + 1) olds) (take (i + 1) (set news i (record { unit = u.unit; service = next }))) (worse ended end)) is more)

  each_did : (old : List (OnlyUnit S)) (done : List (Done S)) → AllZip (DidSo A request) old done
      → AllZip (Did A request) old (map (λ it. it.unit) done)
  each_did [] [] all = all
  each_did [] (y ∷ ys) all = absurd all
  each_did (x ∷ xs) [] all = absurd all
  each_did (x ∷ xs) (y ∷ ys) (did, rest) = ((did.0, (did.1.0, did.1.2)), each_did xs ys rest)

  -- so each did it
  pub all_did : (old new : List (OnlyUnit S)) (end : Ended) → AllDid A request old new end → AllZip (Did A request) old new
  all_did old new end did = subst (λ us. AllZip (Did A request) old us) (sym did.now_is) (each_did old did.done did.each)
