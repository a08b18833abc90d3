-- What is said of an object that is reached through a reference is said of the object.
use Rattle.std.proofs.Common.{◌≡◌, ℕ, List, [], ◌∷◌, ap, subst}
use Rattle.modbus_link.specs.declared.outside.Cut.{Cut}
use Rattle.modbus_link.specs.Outside.{Input, Output, Outside, outside, Advances, Extends, input_through, output_through}
use Rattle.modbus_link.specs.Passes.{Passes}

abbrev pub tail_of : List ℕ → List ℕ
tail_of [] = []
tail_of (x ∷ xs) = xs

-- the object itself
abbrev pub bare_input : Input → Input
bare_input i = record i { names = tail_of i.names }

pub advances_through : (n m : ℕ) (a b : Input) → Advances (input_through n a) (input_through m b) → Advances a b
advances_through n m a b s = record {
  told = s.told;
  later = s.later;
  names = ap tail_of s.names;
  sure = s.sure;
  no_fault = s.no_fault;
  content = λ told. let g = s.content told in record { left = g.left; given = g.given; cuts = g.cuts; rising = g.rising };
}

pub extends_through : (n m : ℕ) (k l : Output) → Extends (output_through n k) (output_through m l) → Extends k l
extends_through n m k l s = record { told = s.told; later = s.later; names = ap tail_of s.names; sure = s.sure; no_fault = s.no_fault; content = s.content }

pub passes_through : (n m n' m' : ℕ) (a b : Outside) (fed : List ℕ) (made : List Cut) (sent : List ℕ)
    → Passes (outside (input_through n a.input) (output_through n' a.output)) (outside (input_through m b.input) (output_through m' b.output)) fed made sent
    → Passes a b fed made sent
passes_through n m n' m' a b fed made sent p = record {
  source = advances_through n m a.input b.input p.source;
  sink = extends_through n' m' a.output b.output p.sink;
  read = p.read;
  cuts = p.cuts;
  wrote = p.wrote;
  rises = p.rises;
}

-- what holds of two objects and of what they became, by other names
pub moved : {X Y : Type 0} (P : X → X → Y → Y → Type 0) (a a' b b' : X) (k k' m m' : Y) → a ≡ a' → b ≡ b' → k ≡ k' → m ≡ m' → P a b k m → P a' b' k' m'
moved P a a' b b' k k' m m' e f g h p =
    subst (λ x. P x b' k' m') e (subst (λ x. P a x k' m') f (subst (λ x. P a b x m') g (subst (λ x. P a b k x) h p)))
