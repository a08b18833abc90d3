-- One silence more is told by a link in memory.
use Rattle.std.proofs.Common.{◌≡◌, ℕ, ◌+◌, List, drop, refl, sym, Ok}
use Rattle.std.proofs.lemmas.List.{drop-drop}
use Rattle.modbus_link.specs.declared.polled.Polled.TheVariants.{Pending}
use Rattle.modbus_link.specs.Line.{LinkState}
use Rattle.modbus_link.specs.Silence.{TimedState, IsSilentNow, SilenceReads}

pub tells : {E : Type 0} (room told : ℕ) (link : LinkState) (silences : List ℕ) (old : TimedState)
    → old ≡ record { link = link; silences = drop told silences; told = told } → IsSilentNow old
    → SilenceReads {E = E} room old (record { link = link; silences = drop (told + 1) silences; told = told + 1 }) (Ok Pending)
tells room told link silences old e silent = record {
  tells = (λ pending. silent, λ now. refl);
  does = rw e refl;
  silences = rw e (sym (drop-drop 1 told silences));
  told = rw e refl;
}
