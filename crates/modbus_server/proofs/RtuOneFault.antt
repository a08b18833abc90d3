-- Two kinds of fault are not both the first.
use Rattle.std.proofs.Common.{◌≡◌, ℕ, ◌+◌, ◌<◌, ◌≤◌, List, [], ◌++◌, refl, sym, ap, ◌∙◌, subst, arith, Err, append-nil}
use Rattle.std.specs.Prelude.{Contains}
use Rattle.std.proofs.lemmas.List.Elements.{All-contains}
use Rattle.modbus_rtu.specs.declared.verdict.Verdict.TheVariants.{Bad, Good}
use Rattle.modbus_rtu.specs.Frame.{verdict}
use Rattle.modbus_rtu.specs.Leftmost.{IsLeftmost, IsGood, IsUncovered}
use Rattle.modbus_rtu.specs.Stands.{HasCrowd, frame_at}
use Rattle.modbus_server.specs.Exchanges.{Exchange, told_reply_size}
use Rattle.modbus_server.specs.declared.error.ProcessError.TheVariants.{TooManyRetries}
use Rattle.modbus_server.specs.Rtu.{rtu}
use Rattle.modbus_server.specs.Served.{Halt, remaining, broken, refused, too_long}
use Rattle.modbus_server.proofs.Asked.{same_after, asked_well, one_first}
use Rattle.modbus_server.specs.FirstFault.{FailsAt, IsFirstFault}

module _ (still : (bytes cuts more frames : List ℕ) (k stop : ℕ) → HasCrowd bytes cuts k → IsLeftmost (bytes ++ more) frames stop → (i : ℕ) → k ≤ i → i < k + 20
    → (verdict (bytes ++ more) i ≡ Bad) × IsUncovered (bytes ++ more) frames i)
    (bytes cuts frames : List ℕ) (all : List (Exchange rtu)) (stop : ℕ) (reading : IsLeftmost bytes frames stop) where
  -- a crowd is no place of a frame
  bad_there : (k : ℕ) → HasCrowd bytes cuts k → verdict bytes (k + 19) ≡ Bad
  bad_there k c =
      let same : bytes ++ [] ≡ bytes = append-nil bytes in
      let reading' : IsLeftmost (bytes ++ []) frames stop = subst (λ b. IsLeftmost b frames stop) (sym same) reading in
      subst (λ b. verdict b (k + 19) ≡ Bad) same (still bytes cuts [] frames k stop c reading' (k + 19) (omega arith) (omega arith)).0

  good_there : (place : ℕ) → Contains frames place → IsGood bytes place
  good_there place c = ((reading.delivered place (All-contains (λ f. f < stop) frames place reading.below c)).0 c).0

  no_frame : (place k : ℕ) → HasCrowd bytes cuts k → place ≡ k + 19 → Contains frames place → ⊥
  no_frame place k c is within =
      let bad : verdict bytes place ≡ Bad = subst (λ p. verdict bytes p ≡ Bad) (sym is) (bad_there k c) in
      let good = good_there place within in
      let clash : Bad ≡ Good good.0 = sym bad ∙ good.1 in
      cc

  same_at : (place : ℕ) (f g : Halt) → FailsAt bytes cuts frames all place f → FailsAt bytes cuts frames all place g → f ≡ g
  same_at place (remaining left) g h k = absurd h
  same_at place (broken TooManyRetries) (remaining left) h k = absurd k
  same_at place (broken TooManyRetries) (broken TooManyRetries) a b = refl
  same_at place (broken TooManyRetries) (broken _) h k = absurd k
  same_at place (broken TooManyRetries) (refused r) (k, c, is) (within, bad) = absurd (no_frame place k c is within)
  same_at place (broken TooManyRetries) (too_long n) (k, c, is) h = absurd (no_frame place k c is h.0)
  same_at place (broken _) g h k = absurd h
  same_at place (refused r) (remaining left) h k = absurd k
  same_at place (refused r) (broken TooManyRetries) (within, bad) (k, c, is) = absurd (no_frame place k c is within)
  same_at place (refused r) (broken _) h k = absurd k
  same_at place (refused r) (refused q) (within, bad) (within', bad') =
      let e : Err r ≡ Err q = sym bad ∙ bad' in cc
  same_at place (refused r) (too_long n) (within, bad) (within', earlier, x, later, splits, count, asked, is, long) = absurd (asked_well rtu (frame_at bytes place) x r bad asked)
  same_at place (too_long n) (remaining left) h k = absurd k
  same_at place (too_long n) (broken TooManyRetries) h (k, c, is) = absurd (no_frame place k c is h.0)
  same_at place (too_long n) (broken _) h k = absurd k
  same_at place (too_long n) (refused q) (within, earlier, x, later, splits, count, asked, is, long) (within', bad) = absurd (asked_well rtu (frame_at bytes place) x q bad asked)
  same_at place (too_long n) (too_long m) (within, earlier, x, later, splits, count, asked, is, long) (within', earlier', x', later', splits', count', asked', is', long') =
      let e : x ≡ x' = same_after earlier earlier' x x' later later' (sym splits ∙ splits') (count ∙ sym count') in
      ap too_long (is ∙ ap (told_reply_size rtu) e ∙ sym is')

  pub one_fault : (p q : ℕ) (f g : Halt) → FailsAt bytes cuts frames all p f → FailsAt bytes cuts frames all q g
      → IsFirstFault bytes cuts frames all f → IsFirstFault bytes cuts frames all g → f ≡ g
  one_fault = one_first (FailsAt bytes cuts frames all) (λ place left h. h) same_at
