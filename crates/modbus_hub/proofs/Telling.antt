-- What is told, round by round.
use Rattle.std.proofs.Common.{◌≡◌, List, [], ◌∷◌, ◌++◌, refl, subst}
use Rattle.modbus_hub.specs.declared.losses.Losses.{Losses}
use Rattle.modbus_hub.specs.Losses.{TellsAll, TellsEach, losses_since}

module _ {W : Type 0} (tells : W → Losses → W → Type 0) where
  each_more : (counts : List Losses) (a b c : Losses) (u v w : W) → TellsEach tells counts a b u v → tells v (losses_since b c) w → TellsEach tells (counts ++ c ∷ []) a c u w
  each_more [] a b c u v w (same, still) said =
      (w, subst (λ (x : W). tells x (losses_since a c) w) still (subst (λ (l : Losses). tells v (losses_since l c) w) same said), (refl, refl))
  each_more (next ∷ later) a b c u v w (told, says, rest) said = (told, says, each_more later next b c told v w rest said)

  pub none_told : (a : Losses) (w : W) → TellsAll tells a a w w
  none_told a w = ([], (refl, refl))

  -- one round more
  pub told_more : (a b c : Losses) (u v w : W) → TellsAll tells a b u v → tells v (losses_since b c) w → TellsAll tells a c u w
  told_more a b c u v w (counts, each) said = (counts ++ c ∷ [], each_more counts a b c u v w each said)
