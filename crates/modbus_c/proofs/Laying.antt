-- Lists that are written at the front, one part behind another.
use Rattle.std.proofs.Common.{◌≡◌, ℕ, List, ◌∷◌, ◌++◌, length, take, arith, length-append, ap, ◌∙◌}
use Rattle.std.proofs.Math.Seq.{take-append_seam, drop-append-add}
use Rattle.std.proofs.lemmas.List.{drop-drop}
use Rattle.std.proofs.lemmas.Grind.{common_steps}
use Rattle.modbus_store.specs.Tables.{with_entries}
use Rattle.modbus_rtu.specs.Frame.{frame}
use Rattle.modbus_c.specs.Layout.{laid, checksum_bytes}

-- what is written right behind a front makes a longer front
pub laid_more : {A : Type 0} (front more list : List A) (place : ℕ) → place ≡ length front → with_entries place more (laid front list) ≡ laid (front ++ more) list
laid_more front more list place e = grind (arith, common_steps, e, take-append_seam, drop-append-add, drop-drop, length-append)

-- the front that was written
pub front_of_laid : {A : Type 0} (front list : List A) (n : ℕ) → n ≡ length front → take n (laid front list) ≡ front
front_of_laid front list n e = grind (arith, common_steps, e, take-append_seam)

-- a slave address and a PDU, and behind them the checksum of both, are a frame
pub framed : (slave : ℕ) (pdu old mid new : List ℕ) (end : ℕ) → end ≡ length (slave ∷ pdu) → mid ≡ laid (slave ∷ pdu) old
    → new ≡ with_entries end (checksum_bytes (take end mid)) mid → new ≡ laid (frame slave pdu) old
unfolding frame
framed slave pdu old mid new end n m w =
    let e : take end mid ≡ slave ∷ pdu = ap (take end) m ∙ front_of_laid (slave ∷ pdu) old end n in
    w ∙ (λ i. with_entries end (checksum_bytes (e i)) (m i)) ∙ laid_more (slave ∷ pdu) (checksum_bytes (slave ∷ pdu)) old end n
