-- What a read gives, by what was watched for.
use Rattle.std.proofs.Common.{◌≡◌, inl, ℕ, List, Result, refl, subst}
use Rattle.modbus_link.specs.declared.outside.Failed.{Failed}
use Rattle.modbus_link.specs.Outside.{Input}
use Rattle.modbus_field.specs.BurstLink.{BurstState, GivesBurst}
use Rattle.modbus_echo.specs.Guard.{GuardState, IsWatched, outlook, ReadsGuarded}

-- where nothing is watched for a burst is given
pub any : {L : Type 0} (input : L → Input) (silences : L → ℕ) (seen old : GuardState L) (bursts : BurstState L) (room : ℕ) (given : List ℕ) (result : Result ℕ Failed)
    → seen ≡ old → (IsWatched old → ⊥) → GivesBurst input silences seen.bursts.link bursts.link room given result
    → ReadsGuarded input silences old (outlook (record seen { bursts = bursts })) room given result
any input silences seen old bursts room given result same rests =
    subst (λ o. (IsWatched o → ⊥) → GivesBurst input silences seen.bursts.link bursts.link room given result → ReadsGuarded input silences o (outlook (record seen { bursts = bursts })) room given result) same
    (λ none gives. inl (record { rests = none; gives = gives; echo = refl; back = refl })) rests
