-- PDUs, frames, ADUs and errors are equal where they are one, or mean one request.
use Rattle.std.proofs.Common.{◌≡◌, Result, Ok, Err, Option, Some, None, refl, ap, rules}
use Rattle.std.specs.Bool.{Decides}
use Rattle.modbus_frame_laws.proofs.Same.{one, both}
use Rattle.modbus_frame_laws.proofs.SameRequest.{requests_Decide}
use Rattle.modbus_frame_laws.proofs.SameAnswer.{responses_Decide, refusals_Decide, functions_Decide}
use Rattle.modbus_frame.specs.Meaning.{meaning}
use Rattle.modbus_frame.specs.declared.fault.HeaderSeen.{HeaderSeen}
use Rattle.modbus_frame.specs.declared.fault.TransportError.{TransportError}
use Rattle.modbus_frame.specs.declared.fault.ProtocolError.{ProtocolError}
use Rattle.modbus_frame.specs.declared.fault.ProtocolError.TheVariants as protocol
use Rattle.modbus_frame.specs.declared.fault.Error.{Error}
use Rattle.modbus_frame.specs.declared.fault.Error.TheVariants as call
use Rattle.modbus_frame.specs.declared.pdu.RequestPdu.{RequestPdu}
use Rattle.modbus_frame.specs.declared.pdu.ResponsePdu.{ResponsePdu}
use Rattle.modbus_frame.specs.declared.pdu.OptionalResponsePdu.{OptionalResponsePdu}
use Rattle.modbus_frame.specs.declared.response.Response.{Response}
use Rattle.modbus_frame.specs.declared.response.ExceptionResponse.{ExceptionResponse}
use Rattle.modbus_frame.specs.declared.rtu.Header.{Header as RtuHeader}
use Rattle.modbus_frame.specs.declared.rtu.RequestAdu.{RequestAdu as RtuRequest}
use Rattle.modbus_frame.specs.declared.rtu.ResponseAdu.{ResponseAdu as RtuResponse}
use Rattle.modbus_frame.specs.declared.tcp.Header.{Header as TcpHeader}
use Rattle.modbus_frame.specs.declared.tcp.RequestAdu.{RequestAdu as TcpRequest}
use Rattle.modbus_frame.specs.declared.tcp.ResponseAdu.{ResponseAdu as TcpResponse}
use Rattle.modbus_frame.specs.contracts.fault.HeaderSeenPartialEq.TheImpl as derived_seen
use Rattle.modbus_frame.specs.contracts.fault.TransportErrorPartialEq.TheImpl as derived_transport
use Rattle.modbus_frame.specs.contracts.fault.ProtocolErrorPartialEq.TheImpl as derived_protocol
use Rattle.modbus_frame.specs.contracts.fault.ErrorPartialEq.TheImpl as derived_error
use Rattle.modbus_frame.specs.contracts.pdu.RequestPduPartialEq.TheImpl as derived_request
use Rattle.modbus_frame.specs.contracts.pdu.ResponsePduPartialEq.TheImpl as derived_response
use Rattle.modbus_frame.specs.contracts.pdu.OptionalResponsePduPartialEq.TheImpl as derived_optional
use Rattle.modbus_frame.specs.contracts.rtu.HeaderPartialEq.TheImpl as derived_rtu_header
use Rattle.modbus_frame.specs.contracts.rtu.RequestAduPartialEq.TheImpl as derived_rtu_request
use Rattle.modbus_frame.specs.contracts.rtu.ResponseAduPartialEq.TheImpl as derived_rtu_response
use Rattle.modbus_frame.specs.contracts.tcp.HeaderPartialEq.TheImpl as derived_tcp_header
use Rattle.modbus_frame.specs.contracts.tcp.RequestAduPartialEq.TheImpl as derived_tcp_request
use Rattle.modbus_frame.specs.contracts.tcp.ResponseAduPartialEq.TheImpl as derived_tcp_response

pub request_pdus_Decide : (x y : RequestPdu) → Decides (derived_request.eq-value.it x y) (meaning x.0 ≡ meaning y.0)
request_pdus_Decide x y = requests_Decide x.0 y.0

-- an answer is a response or an exception
answers_Decide : (x y : Result Response ExceptionResponse) → Decides (derived_response.eq-value.it (record { 0 = x }) (record { 0 = y })) (x ≡ y)
answers_Decide (Ok x) (Ok y) = one _ (responses_Decide x y) (λ p. cc) (λ e. cc)
answers_Decide (Ok x) (Err y) = ((λ h. absurd cc), λ e. absurd cc)
answers_Decide (Err x) (Ok y) = ((λ h. absurd cc), λ e. absurd cc)
answers_Decide (Err x) (Err y) = one _ (refusals_Decide x y) (λ p. cc) (λ e. cc)

pub response_pdus_Decide : (x y : ResponsePdu) → Decides (derived_response.eq-value.it x y) (x ≡ y)
response_pdus_Decide x y = one _ (answers_Decide x.0 y.0) (λ p i. record { 0 = p i }) (λ e. ap (λ (p : ResponsePdu). p.0) e)

options_Decide : (x y : Option ResponsePdu) → Decides (derived_optional.eq-value.it (record { 0 = x }) (record { 0 = y })) (x ≡ y)
options_Decide None None = ((λ _. refl), λ _. refl)
options_Decide None (Some y) = ((λ h. absurd cc), λ e. absurd cc)
options_Decide (Some x) None = ((λ h. absurd cc), λ e. absurd cc)
options_Decide (Some x) (Some y) = one _ (response_pdus_Decide x y) (λ p. cc) (λ e. cc)

pub optional_pdus_Decide : (x y : OptionalResponsePdu) → Decides (derived_optional.eq-value.it x y) (x ≡ y)
optional_pdus_Decide x y = one _ (options_Decide x.0 y.0) (λ p i. record { 0 = p i }) (λ e. ap (λ (p : OptionalResponsePdu). p.0) e)

rtu_headers_Decide : (x y : RtuHeader) → Decides (derived_rtu_header.eq-value.it x y) (x ≡ y)
rtu_headers_Decide x y = search rules

tcp_headers_Decide : (x y : TcpHeader) → Decides (derived_tcp_header.eq-value.it x y) (x ≡ y)
tcp_headers_Decide x y = search rules

pub rtu_requests_Decide : (x y : RtuRequest) → Decides (derived_rtu_request.eq-value.it x y) ((x.hdr ≡ y.hdr) × (meaning x.pdu.0 ≡ meaning y.pdu.0))
rtu_requests_Decide x y = both _ _ (rtu_headers_Decide x.hdr y.hdr) (request_pdus_Decide x.pdu y.pdu) (λ p q. (p, q)) (λ r. r.0) (λ r. r.1)

pub tcp_requests_Decide : (x y : TcpRequest) → Decides (derived_tcp_request.eq-value.it x y) ((x.hdr ≡ y.hdr) × (meaning x.pdu.0 ≡ meaning y.pdu.0))
tcp_requests_Decide x y = both _ _ (tcp_headers_Decide x.hdr y.hdr) (request_pdus_Decide x.pdu y.pdu) (λ p q. (p, q)) (λ r. r.0) (λ r. r.1)

pub rtu_responses_Decide : (x y : RtuResponse) → Decides (derived_rtu_response.eq-value.it x y) (x ≡ y)
rtu_responses_Decide x y = both _ _ (rtu_headers_Decide x.hdr y.hdr) (response_pdus_Decide x.pdu y.pdu) (λ p q i. record { hdr = p i; pdu = q i }) (λ e. ap (λ (a : RtuResponse). a.hdr) e) (λ e. ap (λ (a : RtuResponse). a.pdu) e)

pub tcp_responses_Decide : (x y : TcpResponse) → Decides (derived_tcp_response.eq-value.it x y) (x ≡ y)
tcp_responses_Decide x y = both _ _ (tcp_headers_Decide x.hdr y.hdr) (response_pdus_Decide x.pdu y.pdu) (λ p q i. record { hdr = p i; pdu = q i }) (λ e. ap (λ (a : TcpResponse). a.hdr) e) (λ e. ap (λ (a : TcpResponse). a.pdu) e)

seen_Decide : (x y : HeaderSeen) → Decides (derived_seen.eq-value.it x y) (x ≡ y)
seen_Decide x y = search rules

transports_Decide : (x y : TransportError) → Decides (derived_transport.eq-value.it x y) (x ≡ y)
transports_Decide x y = search rules

pub protocols_Decide : (x y : ProtocolError) → Decides (derived_protocol.eq-value.it x y) (x ≡ y)
protocols_Decide (protocol.HeaderMismatch a b c) (protocol.HeaderMismatch d e f) = both {Q = (b ≡ e) × (c ≡ f)} _ _ (seen_Decide a d) (both {Q = c ≡ f} {R = (b ≡ e) × (c ≡ f)} _ _ (seen_Decide b e) (answers_Decide c f) (λ p q. (p, q)) (λ r. r.0) (λ r. r.1)) (λ p q. let s = q.0 in let t = q.1 in cc) (λ r. cc) (λ r. (cc, cc))
protocols_Decide (protocol.FunctionCodeMismatch a b) (protocol.FunctionCodeMismatch c d) = both _ _ (functions_Decide a c) (answers_Decide b d) (λ p q. cc) (λ r. cc) (λ r. cc)
protocols_Decide (protocol.PayloadMismatch a) (protocol.PayloadMismatch b) = one _ (responses_Decide a b) (λ p. cc) (λ r. cc)
protocols_Decide x y = ((λ h. absurd cc), λ e. absurd cc)

pub errors_Decide : (x y : Error) → Decides (derived_error.eq-value.it x y) (x ≡ y)
errors_Decide (call.Protocol x) (call.Protocol y) = one _ (protocols_Decide x y) (λ p. cc) (λ e. cc)
errors_Decide (call.Transport x) (call.Transport y) = one _ (transports_Decide x y) (λ p. cc) (λ e. cc)
errors_Decide call.NoMemory call.NoMemory = ((λ _. refl), λ _. refl)
errors_Decide x y = ((λ h. absurd cc), λ e. absurd cc)
