use Rattle.std.proofs.Common.{◌++◌, ◌∷◌, ◌∙◌, [], length, ap, sym, subst}
use Rattle.std.specs.Prelude.{List, ℕ}
use Rattle.modbus_ascii.specs.Stands.{IsStillOpen, StandsFor}
use Rattle.modbus_ascii.specs.Scan.{Scans}
use Rattle.modbus_ascii.proofs.Buffering.{grown, scan-read}
use Rattle.modbus_ascii.proofs.Holding.{stands-read}
use Rattle.modbus_ascii.proofs.buffer.AsciiBufferFraming.append.Goals as goal

pub run-requires : goal.run-requires
run-requires c =
    let items = c.self.inside.ring.items in
    let same = grown c.extend_from_slice.new.self c.self.inside.ring.capacity items c.args.piece.now c.args.self.now c.extend_from_slice.ensures c.self.invariant.room c.self.view_is c.self.invariant.within c.requires.free in
    let O : List ℕ → Type 0 = λ h. IsStillOpen h in
    let still : IsStillOpen items = subst O (sym c.self.view_is) c.requires.waits in
    let P : List ℕ → Type 0 = λ h. Scans h c.self.inside.scan in
    subst P (sym same) (scan-read items c.args.piece.now c.self.inside.scan c.self.invariant.scans still c.requires.fits)

pub returns-clause-grows : goal.returns-clause-grows
returns-clause-grows c = λ bytes cuts taken s some.
    let items = c.self.inside.ring.items in
    let same = grown c.extend_from_slice.new.self c.self.inside.ring.capacity items c.args.piece.now c.args.self.now c.extend_from_slice.ensures c.self.invariant.room c.self.view_is c.self.invariant.within c.requires.free in
    let more = same ∙ ap (λ h. h ++ c.args.piece.now) c.self.view_is in
    let cuts' = cuts ++ length (bytes ++ c.args.piece.now) ∷ [] in
    let P : List ℕ → Type 0 = λ h. StandsFor (bytes ++ c.args.piece.now) cuts' h taken in
    subst P (sym more) (stands-read bytes cuts cuts' c.args.self.now c.args.piece.now taken s c.requires.waits c.requires.fits)
