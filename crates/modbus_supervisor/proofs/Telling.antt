-- Points that are looked at one after another.
use Rattle.std.proofs.Common.{◌≡◌, ℕ, ◌+◌, ◌<◌, List, [], ◌∷◌, ◌++◌, length, take, drop, set, get_or, refl, sym, subst, ap, ◌∙◌, append-nil, append_assoc, add-zero, arith}
use Rattle.std.proofs.lemmas.List.{drop_more, take_more, take_more_set, drop-set-lt, get_or-drop}
use Rattle.std.proofs.lemmas.Grind.{drop_more_same}
use Rattle.modbus_supervisor.specs.Watched.{TellsEach}

module _ {X : Type 0} (R : X → List ℕ → X → Type 0) where
  -- one more behind them
  pub push : (olds news : List X) (lines line : List ℕ) (x y : X) → TellsEach R olds lines news → R x line y
      → TellsEach R (olds ++ x ∷ []) (lines ++ line) (news ++ y ∷ [])
  push [] [] lines line x y none one = (line, [], one, refl, ap (λ l. l ++ line) none ∙ sym (append-nil line))
  push [] (new ∷ news) lines line x y all one = absurd all
  push (old ∷ olds) [] lines line x y all one = absurd all
  push (old ∷ olds) (new ∷ news) lines line x y all one = (
    all.0,
    all.1 ++ line,
    all.2,
    push olds news all.1 line x y all.3 one,
    ap (λ l. l ++ line) all.4 ∙ append_assoc all.0 all.1 line,
  )

  -- what was not looked at stays as it was
  still : (olds news : List X) (i : ℕ) (x : X) → x ≡ get_or news i x → drop i news ≡ drop i olds → x ≡ get_or olds i x
  still olds news i x is rest =
      let here : (l : List X) → get_or (drop i l) 0 x ≡ get_or l i x = λ l. get_or-drop i l 0 x ∙ ap (λ n. get_or l n x) (add-zero i) in
      is ∙ sym (here news) ∙ ap (λ l. get_or l 0 x) rest ∙ here olds

  pub told_more : (olds news : List X) (lines line : List ℕ) (i : ℕ) (x y : X) → i < length news → length news ≡ length olds → x ≡ get_or news i x
      → drop i news ≡ drop i olds → TellsEach R (take i olds) lines (take i news) → R x line y
      → TellsEach R (take (i + 1) olds) (lines ++ line) (take (i + 1) (set news i y))
  told_more olds news lines line i x y within long is rest told here =
      let inside : i < length olds = omega arith in
      let more = push (take i olds) (take i news) lines line x y told here in
      let last : take (i + 1) olds ≡ take i olds ++ x ∷ [] = take_more olds i x inside ∙ ap (λ z. take i olds ++ z ∷ []) (sym (still olds news i x is rest)) in
      let left = subst (λ l. TellsEach R l (lines ++ line) (take i news ++ y ∷ [])) (sym last) more in
      subst (λ l. TellsEach R (take (i + 1) olds) (lines ++ line) l) (sym (take_more_set news i y within)) left

pub rest_more : {X : Type 0} (olds news : List X) (i : ℕ) (y : X) → drop i news ≡ drop i olds → drop (i + 1) (set news i y) ≡ drop (i + 1) olds
rest_more olds news i y rest = drop-set-lt (i + 1) news i y (omega arith) ∙ drop_more_same news olds i rest
