-- How far a search is in held bytes.
use Rattle.std.specs.Prelude.{◌≡◌, ℕ, ◌≤◌, ◌==◌, false, List, [], ◌∷◌, ◌++◌, length, drop, Option, Some, None}
use Rattle.modbus_pdu.specs.SlavePdu.{SlavePdu}
use Rattle.modbus_pdu.specs.Message.{message}
use Rattle.modbus_ascii.specs.declared.decoder.AsciiFrame.{AsciiFrame}
use Rattle.modbus_ascii.specs.Decoder.{DecodesText}
use Rattle.modbus_ascii.specs.Frames.{frames}
use Rattle.modbus_ascii.specs.Text.{open_end}
use Rattle.modbus_client.specs.Protocol.{Found, waiting, reply}
use Rattle.modbus_client.specs.Rtu.{slave_seen}
use Rattle.modbus_ascii_client.specs.declared.search.Scan.{Scan}
use Rattle.modbus_ascii_client.specs.declared.search.Search.{Search}
use Rattle.modbus_ascii_client.specs.Frames.{counted}

-- none of these frames is of this slave
abbrev pub AreOthers : ℕ → List SlavePdu → Type 0
AreOthers slave [] = Unit {0}
AreOthers slave (found ∷ others) = ((found.header == slave) ≡ false) × AreOthers slave others

-- what is open at the end of the bytes is those from this place on
pub record OpensAt (seen : List ℕ) (place : ℕ) : Type 0 where
  pub within : place ≤ length seen
  pub is : open_end seen ≡ drop place seen

-- It was fed these bytes, which deliver no frame of the slave.
pub record HasScanned (slave : ℕ) (seen : List ℕ) (scan : Scan) : Type 0 where
  pub decodes : DecodesText seen scan.decoder
  pub fed : scan.fed ≡ length seen
  pub opens : OpensAt seen scan.start
  pub others : AreOthers slave (frames seen)
  pub counts : scan.others ≡ counted (length (frames seen))

-- after a byte more it has scanned on, or the byte ended the first frame of the slave
abbrev pub ScansTo : ℕ → List ℕ → List ℕ → Scan → Option AsciiFrame → Type 0
ScansTo slave seen now scan None = HasScanned slave now scan
ScansTo slave seen now scan (Some frame) =
    (frames now ≡ frames seen ++ message frame.slave frame.pdu.items ∷ []) × (frame.slave ≡ slave) × AreOthers slave (frames seen)
    × (scan.others ≡ counted (length (frames seen)))

-- what a search tells of held bytes: the frame that is the reply, or that the bytes from a place on are held
abbrev pub told_by : List ℕ → ℕ → Option AsciiFrame → Found
told_by held start (Some frame) = reply [] (slave_seen frame.slave) frame.pdu.items
told_by held start None = waiting (drop start held)

abbrev pub told_of : List ℕ → Search → Found
told_of held search = told_by held search.start search.reply
