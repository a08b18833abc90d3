-- Answers are equal where they are one: a lemma for each kind of response.
use Rattle.std.proofs.Common.{◌≡◌, ℕ, Bool, ◌&&◌, List, refl, ap, rules}
use Rattle.std.specs.Bool.{Decides}
use Rattle.std.proofs.lemmas.Bool.{false≢true}
use Rattle.std.specs.Cmp.{booleans_Decides}
use Rattle.std.proofs.lemmas.Bool.Decides.{Decides-eqb}
use Rattle.std.proofs.lemmas.Slice.Eq.{slice_eq-Decides, bytes_eq-Decides}
use Rattle.modbus_frame_laws.proofs.Same.{one, both, differ, objects_Decide, codes_Decide}
use Rattle.modbus_frame.specs.declared.code.FunctionCode.{FunctionCode}
use Rattle.modbus_frame.specs.declared.code.ExceptionCode.{ExceptionCode}
use Rattle.modbus_frame.specs.declared.code.ConformityLevel.{ConformityLevel}
use Rattle.modbus_frame.specs.declared.identification.ReadDeviceIdentificationResponse.{ReadDeviceIdentificationResponse}
use Rattle.modbus_frame.specs.declared.response.ExceptionResponse.{ExceptionResponse}
use Rattle.modbus_frame.specs.declared.response.Response.{Response}
use Rattle.modbus_frame.specs.declared.response.Response.TheVariants as response
use Rattle.modbus_frame.specs.contracts.code.FunctionCodePartialEq.TheImpl as derived_function
use Rattle.modbus_frame.specs.contracts.code.ExceptionCodePartialEq.TheImpl as derived_exception
use Rattle.modbus_frame.specs.contracts.code.ConformityLevelPartialEq.TheImpl as derived_level
use Rattle.modbus_frame.specs.contracts.identification.ReadDeviceIdentificationResponsePartialEq.TheImpl as derived_identification
use Rattle.modbus_frame.specs.contracts.response.ExceptionResponsePartialEq.TheImpl as derived_refusal
use Rattle.modbus_frame.specs.contracts.response.ResponsePartialEq.TheImpl as derived

pub functions_Decide : (x y : FunctionCode) → Decides (derived_function.eq-value.it x y) (x ≡ y)
functions_Decide x y = search rules

pub exceptions_Decide : (x y : ExceptionCode) → Decides (derived_exception.eq-value.it x y) (x ≡ y)
exceptions_Decide x y = search rules

levels_Decide : (x y : ConformityLevel) → Decides (derived_level.eq-value.it x y) (x ≡ y)
levels_Decide x y = search rules

pub refusals_Decide : (x y : ExceptionResponse) → Decides (derived_refusal.eq-value.it x y) (x ≡ y)
refusals_Decide x y = both _ _ (functions_Decide x.function y.function) (exceptions_Decide x.exception y.exception) (λ p q i. record { function = p i; exception = q i }) (λ r. ap (λ (e : ExceptionResponse). e.function) r) (λ r. ap (λ (e : ExceptionResponse). e.exception) r)

-- five facts, one after another
all_five : {A B C D E R : Type 0} (a b c d e : Bool) → Decides a A → Decides b B → Decides c C → Decides d D → Decides e E → (A → B → C → D → E → R) → (R → A) → (R → B) → (R → C) → (R → D) → (R → E) → Decides (a && (b && (c && (d && e)))) R
all_five {A} {B} {C} {D} {E} a b c d e da db dc dd de join ra rb rc rd re =
    let last : Decides (d && e) (D × E) = both _ _ dd de (λ p q. (p, q)) (λ r. r.0) (λ r. r.1) in
    let later : Decides (c && (d && e)) (C × (D × E)) = both _ _ dc last (λ p q. (p, q)) (λ r. r.0) (λ r. r.1) in
    let rest : Decides (b && (c && (d && e))) (B × (C × (D × E))) = both _ _ db later (λ p q. (p, q)) (λ r. r.0) (λ r. r.1) in
    both _ _ da rest (λ p q. join p q.0 q.1.0 q.1.1.0 q.1.1.1) ra (λ r. (rb r, (rc r, (rd r, re r))))

pub identifications_Decide : (x y : ReadDeviceIdentificationResponse) → Decides (derived_identification.eq-value.it x y) (x ≡ y)
identifications_Decide x y =
    all_five _ _ _ _ _
    (codes_Decide x.read_code y.read_code)
    (levels_Decide x.conformity_level y.conformity_level)
    (booleans_Decides x.more_follows y.more_follows)
    (Decides-eqb x.next_object_id y.next_object_id)
    (slice_eq-Decides objects_Decide x.device_id_objects y.device_id_objects _ refl)
    (λ p q r s t i. record { read_code = p i; conformity_level = q i; more_follows = r i; next_object_id = s i; device_id_objects = t i })
    (λ e. ap (λ (o : ReadDeviceIdentificationResponse). o.read_code) e)
    (λ e. ap (λ (o : ReadDeviceIdentificationResponse). o.conformity_level) e)
    (λ e. ap (λ (o : ReadDeviceIdentificationResponse). o.more_follows) e)
    (λ e. ap (λ (o : ReadDeviceIdentificationResponse). o.next_object_id) e)
    (λ e. ap (λ (o : ReadDeviceIdentificationResponse). o.device_id_objects) e)

-- the kinds of responses
abbrev response_kind : Response → ℕ
response_kind (response.ReadCoils coils) = 0
response_kind (response.ReadDiscreteInputs coils) = 1
response_kind (response.WriteSingleCoil address coil) = 2
response_kind (response.WriteMultipleCoils address quantity) = 3
response_kind (response.ReadInputRegisters words) = 4
response_kind (response.ReadHoldingRegisters words) = 5
response_kind (response.WriteSingleRegister address word) = 6
response_kind (response.WriteMultipleRegisters address quantity) = 7
response_kind (response.ReportServerId id run extra) = 8
response_kind (response.MaskWriteRegister address and_mask or_mask) = 9
response_kind (response.ReadWriteMultipleRegisters words) = 10
response_kind (response.ReadFifoQueue words) = 11
response_kind (response.ReadDeviceIdentification found) = 12
response_kind (response.Custom code bytes) = 13

responses_Decide-ReadCoils : (x0 : List Bool) (y : Response) → Decides (derived.eq-value.it (response.ReadCoils x0) y) (response.ReadCoils x0 ≡ y)
responses_Decide-ReadCoils x0 (response.ReadCoils y0) = one _ (slice_eq-Decides booleans_Decides x0 y0 _ refl) (λ p. cc) (λ e. cc)
responses_Decide-ReadCoils x0 y = ((λ h. absurd (false≢true h)), λ e. absurd (differ response_kind e refl))

responses_Decide-ReadDiscreteInputs : (x0 : List Bool) (y : Response) → Decides (derived.eq-value.it (response.ReadDiscreteInputs x0) y) (response.ReadDiscreteInputs x0 ≡ y)
responses_Decide-ReadDiscreteInputs x0 (response.ReadDiscreteInputs y0) = one _ (slice_eq-Decides booleans_Decides x0 y0 _ refl) (λ p. cc) (λ e. cc)
responses_Decide-ReadDiscreteInputs x0 y = ((λ h. absurd (false≢true h)), λ e. absurd (differ response_kind e refl))

responses_Decide-WriteSingleCoil : (x0 : ℕ) (x1 : Bool) (y : Response) → Decides (derived.eq-value.it (response.WriteSingleCoil x0 x1) y) (response.WriteSingleCoil x0 x1 ≡ y)
responses_Decide-WriteSingleCoil x0 x1 (response.WriteSingleCoil y0 y1) = both _ _ (Decides-eqb x0 y0) (booleans_Decides x1 y1) (λ p q. cc) (λ e. cc) (λ e. cc)
responses_Decide-WriteSingleCoil x0 x1 y = ((λ h. absurd (false≢true h)), λ e. absurd (differ response_kind e refl))

responses_Decide-WriteMultipleCoils : (x0 : ℕ) (x1 : ℕ) (y : Response) → Decides (derived.eq-value.it (response.WriteMultipleCoils x0 x1) y) (response.WriteMultipleCoils x0 x1 ≡ y)
responses_Decide-WriteMultipleCoils x0 x1 (response.WriteMultipleCoils y0 y1) = both _ _ (Decides-eqb x0 y0) (Decides-eqb x1 y1) (λ p q. cc) (λ e. cc) (λ e. cc)
responses_Decide-WriteMultipleCoils x0 x1 y = ((λ h. absurd (false≢true h)), λ e. absurd (differ response_kind e refl))

responses_Decide-ReadInputRegisters : (x0 : List ℕ) (y : Response) → Decides (derived.eq-value.it (response.ReadInputRegisters x0) y) (response.ReadInputRegisters x0 ≡ y)
responses_Decide-ReadInputRegisters x0 (response.ReadInputRegisters y0) = one _ (slice_eq-Decides Decides-eqb x0 y0 _ refl) (λ p. cc) (λ e. cc)
responses_Decide-ReadInputRegisters x0 y = ((λ h. absurd (false≢true h)), λ e. absurd (differ response_kind e refl))

responses_Decide-ReadHoldingRegisters : (x0 : List ℕ) (y : Response) → Decides (derived.eq-value.it (response.ReadHoldingRegisters x0) y) (response.ReadHoldingRegisters x0 ≡ y)
responses_Decide-ReadHoldingRegisters x0 (response.ReadHoldingRegisters y0) = one _ (slice_eq-Decides Decides-eqb x0 y0 _ refl) (λ p. cc) (λ e. cc)
responses_Decide-ReadHoldingRegisters x0 y = ((λ h. absurd (false≢true h)), λ e. absurd (differ response_kind e refl))

responses_Decide-WriteSingleRegister : (x0 : ℕ) (x1 : ℕ) (y : Response) → Decides (derived.eq-value.it (response.WriteSingleRegister x0 x1) y) (response.WriteSingleRegister x0 x1 ≡ y)
responses_Decide-WriteSingleRegister x0 x1 (response.WriteSingleRegister y0 y1) = both _ _ (Decides-eqb x0 y0) (Decides-eqb x1 y1) (λ p q. cc) (λ e. cc) (λ e. cc)
responses_Decide-WriteSingleRegister x0 x1 y = ((λ h. absurd (false≢true h)), λ e. absurd (differ response_kind e refl))

responses_Decide-WriteMultipleRegisters : (x0 : ℕ) (x1 : ℕ) (y : Response) → Decides (derived.eq-value.it (response.WriteMultipleRegisters x0 x1) y) (response.WriteMultipleRegisters x0 x1 ≡ y)
responses_Decide-WriteMultipleRegisters x0 x1 (response.WriteMultipleRegisters y0 y1) = both _ _ (Decides-eqb x0 y0) (Decides-eqb x1 y1) (λ p q. cc) (λ e. cc) (λ e. cc)
responses_Decide-WriteMultipleRegisters x0 x1 y = ((λ h. absurd (false≢true h)), λ e. absurd (differ response_kind e refl))

responses_Decide-ReportServerId : (x0 : ℕ) (x1 : Bool) (x2 : List ℕ) (y : Response) → Decides (derived.eq-value.it (response.ReportServerId x0 x1 x2) y) (response.ReportServerId x0 x1 x2 ≡ y)
responses_Decide-ReportServerId x0 x1 x2 (response.ReportServerId y0 y1 y2) = both {Q = (x1 ≡ y1) × (x2 ≡ y2)} _ _ (Decides-eqb x0 y0) (both {Q = x2 ≡ y2} {R = (x1 ≡ y1) × (x2 ≡ y2)} _ _ (booleans_Decides x1 y1) (slice_eq-Decides Decides-eqb x2 y2 _ refl) (λ p q. (p, q)) (λ e. e.0) (λ e. e.1)) (λ p q. let a = q.0 in let b = q.1 in cc) (λ e. cc) (λ e. (cc, cc))
responses_Decide-ReportServerId x0 x1 x2 y = ((λ h. absurd (false≢true h)), λ e. absurd (differ response_kind e refl))

responses_Decide-MaskWriteRegister : (x0 : ℕ) (x1 : ℕ) (x2 : ℕ) (y : Response) → Decides (derived.eq-value.it (response.MaskWriteRegister x0 x1 x2) y) (response.MaskWriteRegister x0 x1 x2 ≡ y)
responses_Decide-MaskWriteRegister x0 x1 x2 (response.MaskWriteRegister y0 y1 y2) = both {Q = (x1 ≡ y1) × (x2 ≡ y2)} _ _ (Decides-eqb x0 y0) (both {Q = x2 ≡ y2} {R = (x1 ≡ y1) × (x2 ≡ y2)} _ _ (Decides-eqb x1 y1) (Decides-eqb x2 y2) (λ p q. (p, q)) (λ e. e.0) (λ e. e.1)) (λ p q. let a = q.0 in let b = q.1 in cc) (λ e. cc) (λ e. (cc, cc))
responses_Decide-MaskWriteRegister x0 x1 x2 y = ((λ h. absurd (false≢true h)), λ e. absurd (differ response_kind e refl))

responses_Decide-ReadWriteMultipleRegisters : (x0 : List ℕ) (y : Response) → Decides (derived.eq-value.it (response.ReadWriteMultipleRegisters x0) y) (response.ReadWriteMultipleRegisters x0 ≡ y)
responses_Decide-ReadWriteMultipleRegisters x0 (response.ReadWriteMultipleRegisters y0) = one _ (slice_eq-Decides Decides-eqb x0 y0 _ refl) (λ p. cc) (λ e. cc)
responses_Decide-ReadWriteMultipleRegisters x0 y = ((λ h. absurd (false≢true h)), λ e. absurd (differ response_kind e refl))

responses_Decide-ReadFifoQueue : (x0 : List ℕ) (y : Response) → Decides (derived.eq-value.it (response.ReadFifoQueue x0) y) (response.ReadFifoQueue x0 ≡ y)
responses_Decide-ReadFifoQueue x0 (response.ReadFifoQueue y0) = one _ (slice_eq-Decides Decides-eqb x0 y0 _ refl) (λ p. cc) (λ e. cc)
responses_Decide-ReadFifoQueue x0 y = ((λ h. absurd (false≢true h)), λ e. absurd (differ response_kind e refl))

responses_Decide-ReadDeviceIdentification : (x0 : ReadDeviceIdentificationResponse) (y : Response) → Decides (derived.eq-value.it (response.ReadDeviceIdentification x0) y) (response.ReadDeviceIdentification x0 ≡ y)
responses_Decide-ReadDeviceIdentification x0 (response.ReadDeviceIdentification y0) = one _ (identifications_Decide x0 y0) (λ p. cc) (λ e. cc)
responses_Decide-ReadDeviceIdentification x0 y = ((λ h. absurd (false≢true h)), λ e. absurd (differ response_kind e refl))

responses_Decide-Custom : (x0 : ℕ) (x1 : List ℕ) (y : Response) → Decides (derived.eq-value.it (response.Custom x0 x1) y) (response.Custom x0 x1 ≡ y)
responses_Decide-Custom x0 x1 (response.Custom y0 y1) = both _ _ (Decides-eqb x0 y0) (bytes_eq-Decides x1 y1) (λ p q. cc) (λ e. cc) (λ e. cc)
responses_Decide-Custom x0 x1 y = ((λ h. absurd (false≢true h)), λ e. absurd (differ response_kind e refl))

pub responses_Decide : (x y : Response) → Decides (derived.eq-value.it x y) (x ≡ y)
responses_Decide (response.ReadCoils x0) y = responses_Decide-ReadCoils x0 y
responses_Decide (response.ReadDiscreteInputs x0) y = responses_Decide-ReadDiscreteInputs x0 y
responses_Decide (response.WriteSingleCoil x0 x1) y = responses_Decide-WriteSingleCoil x0 x1 y
responses_Decide (response.WriteMultipleCoils x0 x1) y = responses_Decide-WriteMultipleCoils x0 x1 y
responses_Decide (response.ReadInputRegisters x0) y = responses_Decide-ReadInputRegisters x0 y
responses_Decide (response.ReadHoldingRegisters x0) y = responses_Decide-ReadHoldingRegisters x0 y
responses_Decide (response.WriteSingleRegister x0 x1) y = responses_Decide-WriteSingleRegister x0 x1 y
responses_Decide (response.WriteMultipleRegisters x0 x1) y = responses_Decide-WriteMultipleRegisters x0 x1 y
responses_Decide (response.ReportServerId x0 x1 x2) y = responses_Decide-ReportServerId x0 x1 x2 y
responses_Decide (response.MaskWriteRegister x0 x1 x2) y = responses_Decide-MaskWriteRegister x0 x1 x2 y
responses_Decide (response.ReadWriteMultipleRegisters x0) y = responses_Decide-ReadWriteMultipleRegisters x0 y
responses_Decide (response.ReadFifoQueue x0) y = responses_Decide-ReadFifoQueue x0 y
responses_Decide (response.ReadDeviceIdentification x0) y = responses_Decide-ReadDeviceIdentification x0 y
responses_Decide (response.Custom x0 x1) y = responses_Decide-Custom x0 x1 y
