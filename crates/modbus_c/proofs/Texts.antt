-- The search for a text that delivers a frame: how it goes on by a byte, and what the bytes then stand for. What is open in bytes, and how
-- they go on, is told by laws of modbus_ascii.
use Rattle.std.proofs.Common.{◌≡◌, ◌≢◌, ℕ, ◌-◌, ◌≤◌, ◌<◌, List, [], ◌∷◌, ◌++◌, length, take, drop, refl, sym, ap, ◌∙◌, arith, append_assoc, length-drop}
use Rattle.std.proofs.Math.Seq.{drop-append_seam, drop-length}
use Rattle.std.proofs.lemmas.List.{drop-append-le, take-append-drop}
use Rattle.modbus_pdu.specs.SlavePdu.{SlavePdu}
use Rattle.modbus_ascii.specs.Limits.{colon, max_frame}
use Rattle.modbus_ascii.specs.Text.{open_end}
use Rattle.modbus_ascii.specs.Frames.{frames}
use Rattle.modbus_c.specs.Texts.{DeliversFirst, DeliversNone}

-- the clauses of the laws
abbrev pub Begins : Type 0
Begins = (bytes : List ℕ) → open_end (bytes ++ colon ∷ []) ≡ colon ∷ []

abbrev pub Joins : Type 0
Joins = (bytes : List ℕ) (byte : ℕ) → byte ≢ colon → open_end (bytes ++ byte ∷ []) ≢ [] → open_end (bytes ++ byte ∷ []) ≡ open_end bytes ++ byte ∷ []

abbrev pub Closes : Type 0
Closes = (bytes : List ℕ) (byte : ℕ) (frame : SlavePdu) → frames (bytes ++ byte ∷ []) ≡ frames bytes ++ frame ∷ [] → open_end (bytes ++ byte ∷ []) ≡ []

abbrev pub Closed : Type 0
Closed = (bytes more : List ℕ) → open_end bytes ≡ [] → frames (bytes ++ more) ≡ frames bytes ++ frames more

abbrev pub Behind : Type 0
Behind = (bytes more : List ℕ) → frames (bytes ++ more) ≡ frames bytes ++ frames (open_end bytes ++ more)

abbrev pub Long : Type 0
Long = (bytes more : List ℕ) → max_frame < length (open_end bytes) → frames (bytes ++ more) ≡ frames bytes ++ frames more

-- ---- where what is open begins

pub begins_at : Begins → (fed : List ℕ) (byte place : ℕ) → place ≡ length fed → byte ≡ colon → drop place (fed ++ byte ∷ []) ≡ open_end (fed ++ byte ∷ [])
begins_at law fed byte place n e =
    ap (λ k. drop k (fed ++ byte ∷ [])) n ∙ drop-append_seam fed (byte ∷ []) ∙ ap (λ (b : ℕ). b ∷ []) e ∙ sym (law fed)
    ∙ ap (λ b. open_end (fed ++ b ∷ [])) (sym e)

pub begins_still : Joins → (fed : List ℕ) (byte start : ℕ) → start ≤ length fed → byte ≢ colon → open_end (fed ++ byte ∷ []) ≢ [] → drop start fed ≡ open_end fed
    → drop start (fed ++ byte ∷ []) ≡ open_end (fed ++ byte ∷ [])
begins_still law fed byte start within other some e =
    drop-append-le start fed (byte ∷ []) within ∙ ap (λ now. now ++ byte ∷ []) e ∙ sym (law fed byte other some)

-- ---- what goes on

pub nothing_open : open_end [] ≡ []
unfolding open_end
nothing_open = refl

pub nothing_quiet : frames [] ≡ []
unfolding frames
nothing_quiet = refl

-- ---- what the search finds

pub delivers_first : Closes → Closed → (bytes taken : List ℕ) (byte used : ℕ) (message : SlavePdu) → frames taken ≡ [] → frames (taken ++ byte ∷ []) ≡ frames taken ++ message ∷ []
    → take used bytes ≡ taken ++ byte ∷ [] → used ≤ length bytes → DeliversFirst bytes message used
delivers_first closes alone bytes taken byte used message quiet found is within =
    let ends : frames (take used bytes) ≡ message ∷ [] = ap frames is ∙ found ∙ ap (λ f. f ++ message ∷ []) quiet in
    let closed : open_end (take used bytes) ≡ [] = ap open_end is ∙ closes taken byte message found in record {
      within = within;
      ends = ends;
      first = λ more. let rest = drop used bytes ++ more in
          ap (λ b. frames (b ++ more)) (sym (take-append-drop used bytes)) ∙ ap frames (append_assoc (take used bytes) (drop used bytes) more)
          ∙ alone (take used bytes) rest closed ∙ ap (λ f. f ++ frames rest) ends;
    }

pub delivers_none : Behind → (bytes : List ℕ) (start : ℕ) → frames bytes ≡ [] → drop start bytes ≡ open_end bytes → start ≤ length bytes → length bytes - start ≤ max_frame
    → DeliversNone bytes start
delivers_none behind bytes start quiet begins within short = record {
  within = within;
  quiet = quiet;
  useless = λ more. behind bytes more ∙ ap (λ f. f ++ frames (open_end bytes ++ more)) quiet ∙ ap (λ o. frames (o ++ more)) (sym begins);
  short = omega (arith, short, within);
}

pub delivers_nothing : Long → (bytes : List ℕ) (start : ℕ) → frames bytes ≡ [] → drop start bytes ≡ open_end bytes → max_frame < length bytes - start
    → DeliversNone bytes (length bytes)
delivers_nothing long bytes start quiet begins many =
    let too_long : max_frame < length (open_end bytes) = omega (arith, many, ap length begins, length-drop start bytes) in record {
      within = omega arith;
      quiet = quiet;
      useless = λ more. long bytes more too_long ∙ ap (λ f. f ++ frames more) quiet ∙ ap (λ b. frames (b ++ more)) (sym (drop-length bytes));
      short = omega arith;
    }
