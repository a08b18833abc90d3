-- Histories that grow.
use Rattle.std.proofs.Common.{◌≡◌, ℕ, ◌≤◌, length, ◌==◌, ◌≢◌, List, [], ◌∷◌, ◌++◌, cond, sym, refl, ap, ◌∙◌, eq-eqb, ne_eqb, arith, append_assoc, append-nil}
use Rattle.std.proofs.lemmas.List.{append_cancel_left}
use Rattle.std.proofs.lemmas.List.Elements.{filter-append}
use Rattle.modbus_store.specs.Tables.{Tables}
use Rattle.modbus_store.specs.Legal.{Call, tables_after, replay, IsLegal, calls_by, StartsWith}

pub replay-append : (v : Tables) (es fs : List Call) → replay v (es ++ fs) ≡ replay (replay v es) fs
replay-append v [] fs = refl
replay-append v (e ∷ es) fs = replay-append (tables_after v e) es fs

pub legal-append : (v : Tables) (es fs : List Call) → IsLegal v es → IsLegal (replay v es) fs → IsLegal v (es ++ fs)
legal-append v [] fs a b = b
legal-append v (e ∷ es) fs a b = (a.0, legal-append (tables_after v e) es fs a.1 b)

pub legal-front : (v : Tables) (es fs : List Call) → IsLegal v (es ++ fs) → IsLegal v es
legal-front v [] fs a = tt
legal-front v (e ∷ es) fs a = (a.0, legal-front (tables_after v e) es fs a.1)

pub calls_by-append : (n : ℕ) (es fs : List Call) → calls_by n (es ++ fs) ≡ calls_by n es ++ calls_by n fs
calls_by-append n es fs = filter-append (λ (e : Call). e.number == n) es fs

pub calls_by-other : (n : ℕ) (e : Call) → e.number ≢ n → calls_by n (e ∷ []) ≡ []
calls_by-other n e other = ap (λ b. cond b (e ∷ []) []) (ne_eqb e.number n other)

pub calls_by-own : (n : ℕ) (e : Call) → e.number ≡ n → calls_by n (e ∷ []) ≡ e ∷ []
calls_by-own n e own = ap (λ b. cond b (e ∷ []) []) (eq-eqb e.number n own)

-- one more entry of another
pub calls_by_more : (n : ℕ) (es : List Call) (e : Call) → e.number ≢ n → calls_by n (es ++ e ∷ []) ≡ calls_by n es
calls_by_more n es e other = calls_by-append n es (e ∷ []) ∙ (ap (λ l. calls_by n es ++ l) (calls_by-other n e other) ∙ append-nil (calls_by n es))

-- one more entry of one's own
pub calls_by_mine : (n : ℕ) (es : List Call) (e : Call) → e.number ≡ n → calls_by n (es ++ e ∷ []) ≡ calls_by n es ++ e ∷ []
calls_by_mine n es e own = calls_by-append n es (e ∷ []) ∙ ap (λ l. calls_by n es ++ l) (calls_by-own n e own)

pub starts_whole : (l : List Call) → StartsWith l l
starts_whole l = ([], sym (append-nil l))

pub starts_none : (l : List Call) → StartsWith l []
starts_none l = (l, refl)

pub starts_more : (l m f : List Call) → StartsWith l f → StartsWith (l ++ m) f
starts_more l m f s = (s.0 ++ m, ap (λ x. x ++ m) s.1 ∙ append_assoc f s.0 m)

pub starts_trans : (l f g : List Call) → StartsWith l f → StartsWith f g → StartsWith l g
starts_trans l f g s t = (t.0 ++ s.0, s.1 ∙ (ap (λ x. x ++ s.0) t.1 ∙ append_assoc g t.0 s.0))

-- what follows the calls that were seen has none of that number, if both have the same calls of it
pub none_between : (n : ℕ) (f m : List Call) → calls_by n (f ++ m) ≡ calls_by n f → calls_by n m ≡ []
none_between n f m e = append_cancel_left (calls_by n f) (calls_by n m) [] (sym (calls_by-append n f m) ∙ (e ∙ sym (append-nil (calls_by n f))))

pub front_none : (xs ys : List Call) → xs ++ ys ≡ [] → xs ≡ []
front_none [] ys e = refl
front_none (x ∷ xs) ys e = absurd (cc)

-- who has no call in the history has none in its front
pub none_in_front : (n : ℕ) (l f : List Call) → StartsWith l f → calls_by n l ≡ [] → calls_by n f ≡ []
none_in_front n l f s e = front_none (calls_by n f) (calls_by n s.0) (sym (calls_by-append n f s.0) ∙ (sym (ap (calls_by n) s.1) ∙ e))

-- of two fronts of one list the shorter is a front of the longer
pub front_of_front : (l f g : List Call) → StartsWith l f → StartsWith l g → length f ≤ length g → StartsWith g f
front_of_front l [] g s t le = starts_none g
front_of_front l (x ∷ f) [] s t le = absurd (omega arith)
front_of_front [] (x ∷ f) (y ∷ g) s t le = absurd (cc (s.1))
front_of_front (z ∷ l) (x ∷ f) (y ∷ g) s t le =
    let both : x ∷ (f ++ s.0) ≡ y ∷ (g ++ t.0) = sym s.1 ∙ t.1 in
    let head : x ≡ y = cc in
    let h : l ≡ f ++ s.0 = cc (s.1) in
    let k : l ≡ g ++ t.0 = cc (t.1) in
    let r = front_of_front l f g (s.0, h) (t.0, k) (omega arith) in
    (r.0, λ i. sym head i ∷ r.1 i)

-- what lies between a front and the whole has no call of a number of which both have the same calls
pub calls_between : (n : ℕ) (l f g : List Call) → StartsWith l g → StartsWith g f → calls_by n l ≡ calls_by n f → calls_by n g ≡ calls_by n f
calls_between n l f g s t e =
    let whole : l ≡ f ++ (t.0 ++ s.0) = s.1 ∙ (ap (λ x. x ++ s.0) t.1 ∙ append_assoc f t.0 s.0) in
    let none : calls_by n (t.0 ++ s.0) ≡ [] = none_between n f (t.0 ++ s.0) (ap (calls_by n) (sym whole) ∙ e) in
    let mid : calls_by n t.0 ≡ [] = none_in_front n (t.0 ++ s.0) t.0 (s.0, refl) none in
    ap (calls_by n) t.1 ∙ (calls_by-append n f t.0 ∙ (ap (λ x. calls_by n f ++ x) mid ∙ append-nil (calls_by n f)))
