-- The reply to one request.
use Rattle.std.proofs.Common.{◌≡◌, ℕ, ◌+◌, ◌*◌, ◌≤◌, ◌<◌, List, [], ◌∷◌, length, refl, sym, ap, ◌∙◌, arith, Result, Ok, Err, length-append, ◌++◌, ◌/◌, ◌%◌}
use Rattle.modbus_frame.specs.Codes.{function_number, exception_number}
use Rattle.modbus_frame.specs.Meaning.{Asked, function_asked}
use Rattle.modbus_frame.specs.declared.code.ExceptionCode.{ExceptionCode}
use Rattle.modbus_frame.specs.declared.code.FunctionCode.{FunctionCode}
use Rattle.modbus_frame.specs.declared.fault.EncodeError.{EncodeError}
use Rattle.modbus_frame.specs.declared.fault.EncodeError.TheVariants as error
use Rattle.modbus_frame.specs.declared.response.Response.{Response}
use Rattle.modbus_frame.specs.declared.tcp.Header.{Header}
use Rattle.modbus_pdu.specs.Encodes.{Encodes, Fits}
use Rattle.modbus_pdu.specs.RequestOf.{request_of}
use Rattle.modbus_pdu.specs.ResponsePdu.{response_pdu}
use Rattle.modbus_pdu.specs.Limits.{max_pdu}
use Rattle.modbus_ascii.specs.Checksum.{lrc}
use Rattle.modbus_ascii.specs.Encoder.{text_of, frame as text}
use Rattle.modbus_ascii.specs.Limits.{carriage_return, line_feed}
use Rattle.modbus_rtu.specs.Checksum.{crc}
use Rattle.modbus_rtu.specs.Frame.{frame}
use Rattle.modbus_service.specs.Outcome.{Outcome, silence, reply, exception, reply_pdu, code_of}
use Rattle.modbus_store.specs.Step.{store_step}
use Rattle.modbus_store.specs.Tables.{Tables}
use Rattle.modbus_tcp.specs.Adu.{adu_of}
use Rattle.modbus_c.specs.Serves.{Replies}

replied : (old : Tables) (slave : ℕ) (pdu : List ℕ) (request : Asked) (outcome : Outcome) (new : Tables)
    → request_of pdu ≡ Ok request → store_step old slave request ≡ (outcome, new) → Replies old slave pdu (reply_pdu (code_of request) outcome) new
replied old slave pdu request outcome new e step =
    record { request = request; asked = e; made = ap (λ x. reply_pdu (code_of request) x.0) (sym step); tables = ap (λ x. x.1) (sym step) }

pub silently : {X : Type 0} (old : Tables) (slave : ℕ) (pdu : List ℕ) (request : Asked) (new : Tables)
    → request_of pdu ≡ Ok request → (store_step old slave request ≡ (silence, new)) × X → Replies old slave pdu [] new
unfolding reply_pdu
silently old slave pdu request new e step = replied old slave pdu request silence new e step.0

pub responded : {X : Type 0} (old : Tables) (slave : ℕ) (pdu : List ℕ) (request : Asked) (response : Response) (new : Tables)
    → request_of pdu ≡ Ok request → (store_step old slave request ≡ (reply response, new)) × X → Replies old slave pdu (response_pdu response) new
unfolding reply_pdu
responded old slave pdu request response new e step = replied old slave pdu request (reply response) new e step.0

pub refused : {X : Type 0} (old : Tables) (slave : ℕ) (pdu : List ℕ) (request : Asked) (code : ExceptionCode) (new : Tables) (function : FunctionCode)
    → function ≡ function_asked request → request_of pdu ≡ Ok request → (store_step old slave request ≡ (exception code, new)) × X
    → Replies old slave pdu ((function_number function + 0x80) ∷ exception_number code ∷ []) new
unfolding reply_pdu replied
refused old slave pdu request code new function same e step = let r = replied old slave pdu request (exception code) new e step.0 in
    record { request = request; asked = e; made = ap (λ f. (function_number f + 0x80) ∷ exception_number code ∷ []) same ∙ r.made; tables = r.tables }

pub replies_fit : (old : Tables) (slave : ℕ) (pdu made : List ℕ) (new : Tables)
    → ((code : ℕ) (tables : Tables) (slave : ℕ) (request : Asked) → length (reply_pdu code (store_step tables slave request).0) ≤ max_pdu)
    → Replies old slave pdu made new → Fits made
replies_fit old slave pdu made new fits r = let e : length made ≡ length (reply_pdu (code_of r.request) (store_step old slave r.request).0) = ap (λ x. length x) r.made in
    let h = fits (code_of r.request) old slave r.request in omega (arith, e, h)

pub frame_len : (slave : ℕ) (pdu : List ℕ) → length (frame slave pdu) ≡ length pdu + 3
unfolding frame
frame_len slave pdu = let sum = crc (slave ∷ pdu) in omega (arith, length-append pdu (sum % 256 ∷ sum / 256 ∷ []))

length-text : (bytes : List ℕ) → length (text_of bytes) ≡ 2 * length bytes
unfolding text_of
length-text [] = refl
length-text (byte ∷ bytes) = omega (arith, length-text bytes)

pub text_len : (slave : ℕ) (pdu : List ℕ) → length (text slave pdu) ≡ 2 * length pdu + 7
unfolding text
text_len slave pdu =
    let bytes = slave ∷ pdu ++ lrc (slave ∷ pdu) ∷ [] in
    omega (arith, length-append (text_of bytes) (carriage_return ∷ line_feed ∷ []), length-text bytes, length-append pdu (lrc (slave ∷ pdu) ∷ []))

pub adu_len : (header : Header) (pdu : List ℕ) → length (adu_of header pdu) ≡ length pdu + 7
unfolding adu_of
adu_len header pdu = omega arith

-- what fits is not too long, and where there is room no memory is wanting
pub no_error : (adu pdu old new : List ℕ) (spare : ℕ) (result : Result (Unit {0}) EncodeError) (e : EncodeError) → result ≡ Err e → Encodes adu pdu old result new
    → Fits pdu → length adu ≤ spare → (result ≡ Err error.NoMemory → spare < length adu) → ⊥
no_error adu pdu old new spare (Err (error.TooLong size)) e same encodes fits room memory = omega (arith, encodes.cause.0, fits)
no_error adu pdu old new spare (Err error.NoMemory) e same encodes fits room memory = omega (arith, memory refl, room)
no_error adu pdu old new spare (Ok done) e same encodes fits room memory = cc

-- what was appended to nothing has room
pub has_room : (shown made old adu : List ℕ) (room : ℕ) → shown ≡ made → made ≡ old ++ adu → old ≡ [] → length adu ≤ room → length shown ≤ room
has_room shown made old adu room e m o h =
    let a : length shown ≡ length made = ap (λ x. length x) e in let b : length made ≡ length (old ++ adu) = ap (λ x. length x) m in
    let z : length old ≡ 0 = ap (λ x. length x) o in omega (arith, a, b, z, h, length-append old adu)
