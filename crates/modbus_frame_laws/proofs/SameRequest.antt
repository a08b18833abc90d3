-- Requests are equal where their meanings are, one lemma for each kind.
use Rattle.std.proofs.Common.{◌≡◌, ℕ, Bool, refl}
use Rattle.std.specs.Bool.{Decides}
use Rattle.std.proofs.lemmas.Bool.{false≢true}
use Rattle.std.specs.Cmp.{booleans_Decides}
use Rattle.std.proofs.lemmas.Bool.Decides.{Decides-eqb}
use Rattle.std.proofs.lemmas.Slice.Eq.{slice_eq-Decides}
use Rattle.modbus_frame_laws.proofs.Same.{one, both, codes_Decide, differ}
use Rattle.modbus_frame.specs.declared.request.Request.{Request}
use Rattle.modbus_frame.specs.declared.request.Request.TheVariants as request
use Rattle.modbus_frame.specs.declared.request.SlaveRequest.{SlaveRequest}
use Rattle.modbus_frame.specs.contracts.request.RequestPartialEq.TheImpl as derived
use Rattle.modbus_frame.specs.contracts.request.SlaveRequestPartialEq.TheImpl as derived_slave
use Rattle.modbus_frame.specs.declared.code.ReadCode.{ReadCode}
use Rattle.std.specs.Cow.{cow_slice_items}
use Rattle.std.specs.Global.{Global}
use Rattle.std.specs.declared.borrow.CowSlice.{CowSlice}
use Rattle.modbus_frame.specs.Meaning.{Asked, meaning}
use Rattle.modbus_frame.specs.Meaning as asked

-- the kinds of requests
abbrev asked_kind : Asked → ℕ
asked_kind (asked.ReadCoils address quantity) = 0
asked_kind (asked.ReadDiscreteInputs address quantity) = 1
asked_kind (asked.WriteSingleCoil address coil) = 2
asked_kind (asked.WriteMultipleCoils address coils) = 3
asked_kind (asked.ReadInputRegisters address quantity) = 4
asked_kind (asked.ReadHoldingRegisters address quantity) = 5
asked_kind (asked.WriteSingleRegister address word) = 6
asked_kind (asked.WriteMultipleRegisters address words) = 7
asked_kind asked.ReportServerId = 8
asked_kind (asked.MaskWriteRegister address and_mask or_mask) = 9
asked_kind (asked.ReadWriteMultipleRegisters read_address quantity write_address words) = 10
asked_kind (asked.ReadFifoQueue address) = 11
asked_kind (asked.ReadDeviceIdentification code id) = 12
asked_kind (asked.Custom code bytes) = 13

requests_Decide-ReadCoils : (x0 : ℕ) (x1 : ℕ) → (y : Request) → Decides (derived.eq-value.it (request.ReadCoils x0 x1) y) (meaning (request.ReadCoils x0 x1) ≡ meaning y)
requests_Decide-ReadCoils x0 x1 (request.ReadCoils y0 y1) = both _ _ (Decides-eqb x0 y0) (Decides-eqb x1 y1) (λ p q. cc) (λ e. cc) (λ e. cc)
requests_Decide-ReadCoils x0 x1 y = ((λ h. absurd (false≢true h)), λ e. absurd (differ asked_kind e refl))

requests_Decide-ReadDiscreteInputs : (x0 : ℕ) (x1 : ℕ) → (y : Request) → Decides (derived.eq-value.it (request.ReadDiscreteInputs x0 x1) y) (meaning (request.ReadDiscreteInputs x0 x1) ≡ meaning y)
requests_Decide-ReadDiscreteInputs x0 x1 (request.ReadDiscreteInputs y0 y1) = both _ _ (Decides-eqb x0 y0) (Decides-eqb x1 y1) (λ p q. cc) (λ e. cc) (λ e. cc)
requests_Decide-ReadDiscreteInputs x0 x1 y = ((λ h. absurd (false≢true h)), λ e. absurd (differ asked_kind e refl))

requests_Decide-WriteSingleCoil : (x0 : ℕ) (x1 : Bool) → (y : Request) → Decides (derived.eq-value.it (request.WriteSingleCoil x0 x1) y) (meaning (request.WriteSingleCoil x0 x1) ≡ meaning y)
requests_Decide-WriteSingleCoil x0 x1 (request.WriteSingleCoil y0 y1) = both _ _ (Decides-eqb x0 y0) (booleans_Decides x1 y1) (λ p q. cc) (λ e. cc) (λ e. cc)
requests_Decide-WriteSingleCoil x0 x1 y = ((λ h. absurd (false≢true h)), λ e. absurd (differ asked_kind e refl))

requests_Decide-WriteMultipleCoils : (x0 : ℕ) (x1 : CowSlice Bool Global) → (y : Request) → Decides (derived.eq-value.it (request.WriteMultipleCoils x0 x1) y) (meaning (request.WriteMultipleCoils x0 x1) ≡ meaning y)
requests_Decide-WriteMultipleCoils x0 x1 (request.WriteMultipleCoils y0 y1) = both _ _ (Decides-eqb x0 y0) (slice_eq-Decides booleans_Decides (cow_slice_items x1) (cow_slice_items y1) _ refl) (λ p q. cc) (λ e. cc) (λ e. cc)
requests_Decide-WriteMultipleCoils x0 x1 y = ((λ h. absurd (false≢true h)), λ e. absurd (differ asked_kind e refl))

requests_Decide-ReadInputRegisters : (x0 : ℕ) (x1 : ℕ) → (y : Request) → Decides (derived.eq-value.it (request.ReadInputRegisters x0 x1) y) (meaning (request.ReadInputRegisters x0 x1) ≡ meaning y)
requests_Decide-ReadInputRegisters x0 x1 (request.ReadInputRegisters y0 y1) = both _ _ (Decides-eqb x0 y0) (Decides-eqb x1 y1) (λ p q. cc) (λ e. cc) (λ e. cc)
requests_Decide-ReadInputRegisters x0 x1 y = ((λ h. absurd (false≢true h)), λ e. absurd (differ asked_kind e refl))

requests_Decide-ReadHoldingRegisters : (x0 : ℕ) (x1 : ℕ) → (y : Request) → Decides (derived.eq-value.it (request.ReadHoldingRegisters x0 x1) y) (meaning (request.ReadHoldingRegisters x0 x1) ≡ meaning y)
requests_Decide-ReadHoldingRegisters x0 x1 (request.ReadHoldingRegisters y0 y1) = both _ _ (Decides-eqb x0 y0) (Decides-eqb x1 y1) (λ p q. cc) (λ e. cc) (λ e. cc)
requests_Decide-ReadHoldingRegisters x0 x1 y = ((λ h. absurd (false≢true h)), λ e. absurd (differ asked_kind e refl))

requests_Decide-WriteSingleRegister : (x0 : ℕ) (x1 : ℕ) → (y : Request) → Decides (derived.eq-value.it (request.WriteSingleRegister x0 x1) y) (meaning (request.WriteSingleRegister x0 x1) ≡ meaning y)
requests_Decide-WriteSingleRegister x0 x1 (request.WriteSingleRegister y0 y1) = both _ _ (Decides-eqb x0 y0) (Decides-eqb x1 y1) (λ p q. cc) (λ e. cc) (λ e. cc)
requests_Decide-WriteSingleRegister x0 x1 y = ((λ h. absurd (false≢true h)), λ e. absurd (differ asked_kind e refl))

requests_Decide-WriteMultipleRegisters : (x0 : ℕ) (x1 : CowSlice ℕ Global) → (y : Request) → Decides (derived.eq-value.it (request.WriteMultipleRegisters x0 x1) y) (meaning (request.WriteMultipleRegisters x0 x1) ≡ meaning y)
requests_Decide-WriteMultipleRegisters x0 x1 (request.WriteMultipleRegisters y0 y1) = both _ _ (Decides-eqb x0 y0) (slice_eq-Decides Decides-eqb (cow_slice_items x1) (cow_slice_items y1) _ refl) (λ p q. cc) (λ e. cc) (λ e. cc)
requests_Decide-WriteMultipleRegisters x0 x1 y = ((λ h. absurd (false≢true h)), λ e. absurd (differ asked_kind e refl))

requests_Decide-ReportServerId : (y : Request) → Decides (derived.eq-value.it request.ReportServerId y) (meaning request.ReportServerId ≡ meaning y)
requests_Decide-ReportServerId request.ReportServerId = ((λ _. refl), λ _. refl)
requests_Decide-ReportServerId y = ((λ h. absurd (false≢true h)), λ e. absurd (differ asked_kind e refl))

requests_Decide-MaskWriteRegister : (x0 : ℕ) (x1 : ℕ) (x2 : ℕ) → (y : Request) → Decides (derived.eq-value.it (request.MaskWriteRegister x0 x1 x2) y) (meaning (request.MaskWriteRegister x0 x1 x2) ≡ meaning y)
requests_Decide-MaskWriteRegister x0 x1 x2 (request.MaskWriteRegister y0 y1 y2) = both {Q = (x1 ≡ y1) × (x2 ≡ y2)} _ _ (Decides-eqb x0 y0) (both {Q = x2 ≡ y2} {R = (x1 ≡ y1) × (x2 ≡ y2)} _ _ (Decides-eqb x1 y1) (Decides-eqb x2 y2) (λ p q. (p, q)) (λ e. e.0) (λ e. e.1)) (λ p q. let a = q.0 in let b = q.1 in cc) (λ e. cc) (λ e. (cc, cc))
requests_Decide-MaskWriteRegister x0 x1 x2 y = ((λ h. absurd (false≢true h)), λ e. absurd (differ asked_kind e refl))

requests_Decide-ReadWriteMultipleRegisters : (x0 : ℕ) (x1 : ℕ) (x2 : ℕ) (x3 : CowSlice ℕ Global) → (y : Request) → Decides (derived.eq-value.it (request.ReadWriteMultipleRegisters x0 x1 x2 x3) y) (meaning (request.ReadWriteMultipleRegisters x0 x1 x2 x3) ≡ meaning y)
requests_Decide-ReadWriteMultipleRegisters x0 x1 x2 x3 (request.ReadWriteMultipleRegisters y0 y1 y2 y3) = both {Q = (x1 ≡ y1) × (x2 ≡ y2) × (cow_slice_items x3 ≡ cow_slice_items y3)} _ _ (Decides-eqb x0 y0) (both {Q = (x2 ≡ y2) × (cow_slice_items x3 ≡ cow_slice_items y3)} {R = (x1 ≡ y1) × (x2 ≡ y2) × (cow_slice_items x3 ≡ cow_slice_items y3)} _ _ (Decides-eqb x1 y1) (both {R = (x2 ≡ y2) × (cow_slice_items x3 ≡ cow_slice_items y3)} _ _ (Decides-eqb x2 y2) (slice_eq-Decides Decides-eqb (cow_slice_items x3) (cow_slice_items y3) _ refl) (λ p q. (p, q)) (λ e. e.0) (λ e. e.1)) (λ p q. (p, q.0, q.1)) (λ e. e.0) (λ e. (e.1, e.2))) (λ p q. let a = q.0 in let b = q.1 in let d = q.2 in cc) (λ e. cc) (λ e. (cc, cc, cc))
requests_Decide-ReadWriteMultipleRegisters x0 x1 x2 x3 y = ((λ h. absurd (false≢true h)), λ e. absurd (differ asked_kind e refl))

requests_Decide-ReadFifoQueue : (x0 : ℕ) → (y : Request) → Decides (derived.eq-value.it (request.ReadFifoQueue x0) y) (meaning (request.ReadFifoQueue x0) ≡ meaning y)
requests_Decide-ReadFifoQueue x0 (request.ReadFifoQueue y0) = one _ (Decides-eqb x0 y0) (λ p. cc) (λ e. cc)
requests_Decide-ReadFifoQueue x0 y = ((λ h. absurd (false≢true h)), λ e. absurd (differ asked_kind e refl))

requests_Decide-ReadDeviceIdentification : (x0 : ReadCode) (x1 : ℕ) → (y : Request) → Decides (derived.eq-value.it (request.ReadDeviceIdentification x0 x1) y) (meaning (request.ReadDeviceIdentification x0 x1) ≡ meaning y)
requests_Decide-ReadDeviceIdentification x0 x1 (request.ReadDeviceIdentification y0 y1) = both _ _ (codes_Decide x0 y0) (Decides-eqb x1 y1) (λ p q. cc) (λ e. cc) (λ e. cc)
requests_Decide-ReadDeviceIdentification x0 x1 y = ((λ h. absurd (false≢true h)), λ e. absurd (differ asked_kind e refl))

requests_Decide-Custom : (x0 : ℕ) (x1 : CowSlice ℕ Global) → (y : Request) → Decides (derived.eq-value.it (request.Custom x0 x1) y) (meaning (request.Custom x0 x1) ≡ meaning y)
requests_Decide-Custom x0 x1 (request.Custom y0 y1) = both _ _ (Decides-eqb x0 y0) (slice_eq-Decides Decides-eqb (cow_slice_items x1) (cow_slice_items y1) _ refl) (λ p q. cc) (λ e. cc) (λ e. cc)
requests_Decide-Custom x0 x1 y = ((λ h. absurd (false≢true h)), λ e. absurd (differ asked_kind e refl))

pub requests_Decide : (x y : Request) → Decides (derived.eq-value.it x y) (meaning x ≡ meaning y)
requests_Decide (request.ReadCoils x0 x1) y = requests_Decide-ReadCoils x0 x1 y
requests_Decide (request.ReadDiscreteInputs x0 x1) y = requests_Decide-ReadDiscreteInputs x0 x1 y
requests_Decide (request.WriteSingleCoil x0 x1) y = requests_Decide-WriteSingleCoil x0 x1 y
requests_Decide (request.WriteMultipleCoils x0 x1) y = requests_Decide-WriteMultipleCoils x0 x1 y
requests_Decide (request.ReadInputRegisters x0 x1) y = requests_Decide-ReadInputRegisters x0 x1 y
requests_Decide (request.ReadHoldingRegisters x0 x1) y = requests_Decide-ReadHoldingRegisters x0 x1 y
requests_Decide (request.WriteSingleRegister x0 x1) y = requests_Decide-WriteSingleRegister x0 x1 y
requests_Decide (request.WriteMultipleRegisters x0 x1) y = requests_Decide-WriteMultipleRegisters x0 x1 y
requests_Decide request.ReportServerId y = requests_Decide-ReportServerId y
requests_Decide (request.MaskWriteRegister x0 x1 x2) y = requests_Decide-MaskWriteRegister x0 x1 x2 y
requests_Decide (request.ReadWriteMultipleRegisters x0 x1 x2 x3) y = requests_Decide-ReadWriteMultipleRegisters x0 x1 x2 x3 y
requests_Decide (request.ReadFifoQueue x0) y = requests_Decide-ReadFifoQueue x0 y
requests_Decide (request.ReadDeviceIdentification x0 x1) y = requests_Decide-ReadDeviceIdentification x0 x1 y
requests_Decide (request.Custom x0 x1) y = requests_Decide-Custom x0 x1 y

pub slave_requests_Decide : (x y : SlaveRequest) → Decides (derived_slave.eq-value.it x y) ((x.slave ≡ y.slave) × (meaning x.request ≡ meaning y.request))
slave_requests_Decide x y = both _ _ (Decides-eqb x.slave y.slave) (requests_Decide x.request y.request) (λ p q. (p, q)) (λ r. r.0) (λ r. r.1)
