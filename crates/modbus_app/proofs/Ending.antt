-- How serving a device becomes an ending of the program.
use Rattle.std.proofs.Common.{◌≡◌, ◌⊎◌, ◌^◌, ◌-◌, arith, inl, inr, ap, subst, refl, ◌∙◌, sym, ℕ, IsTrue, Option, Some, None, Result, Ok, Err, []}
use Rattle.modbus_link.specs.Outside.{Input, Output, Rose, bytes_appended, cuts_made}
use Rattle.modbus_link.specs.Reads.{totals}
use Rattle.modbus_link.specs.Runs.{bytes_read-all}
use Rattle.modbus_server.specs.declared.error.ProcessError.{ProcessError}
use Rattle.modbus_server.specs.declared.error.ProcessError.TheVariants.{WriteFault, NoMemory}
use Rattle.modbus_server.specs.Framing.{Framing}
use Rattle.modbus_server.specs.Served.{EndsAs}
use Rattle.modbus_server.specs.Step.{Ran}
use Rattle.modbus_store.specs.Tables.{Tables}
use Rattle.modbus_store.specs.Step.{device}
use Rattle.modbus_app.specs.declared.words.Form.{Form}
use Rattle.modbus_app.specs.declared.words.Task.{Task}
use Rattle.modbus_app.specs.declared.words.Task.TheVariants.{Serve, Make, Listen, Forward, Plan}
use Rattle.modbus_app.specs.Make.{SumsUp, summary}
use Rattle.modbus_app.specs.Device.{EndsServing, ServesStreams, messages_of, device_of}
use Rattle.modbus_app.specs.Ends.{EndsProgram, MakesRequests, TellsResult}
use Rattle.modbus_port.specs.Reports.{Reports}
use Rattle.modbus_app.specs.Status.{ending_of, line_of}
use Rattle.modbus_server.specs.Moment.{moment}

abbrev count_or : ℕ → Option Task → ℕ
count_or other None = other
count_or other (Some (Serve form)) = other
count_or other (Some (Make count)) = count
count_or other (Some (Listen framing port)) = other
count_or other (Some (Forward port)) = other
count_or other (Some Plan) = other

-- words have one number
pub same_count : (a b : ℕ) (found : Option Task) → Some (Make a) ≡ found → found ≡ Some (Make b) → a ≡ b
same_count a b found e f = ap (count_or a) (e ∙ f)

module _ (form : Form) (opened now : Tables) (start : opened ≡ device_of form) (from to : Input) (sunk sinks : Output) where
  serves : (result : Result (Unit {0}) ProcessError) → Ran (messages_of form.mode) device (2 ^ 64 - 1) (moment opened from sunk) (moment now to sinks) result → ServesStreams form from to sunk sinks result
  serves result ran = record { now = now; ran = subst (λ t. Ran (messages_of form.mode) device (2 ^ 64 - 1) (moment t from sunk) (moment now to sinks) result) start ran }

  pub ends : (said told : Output) (status : ℕ) (result : Result (Unit {0}) ProcessError) → Ran (messages_of form.mode) device (2 ^ 64 - 1) (moment opened from sunk) (moment now to sinks) result
      → ending_of result ≡ Some status → TellsResult said told result → EndsProgram form from to sunk sinks said told status
  ends said told status result ran is tells = record { result = result; is = is; served = inl (serves result ran); tells = tells }

  -- where all was served, all that was left was read, and what was appended is the output
  pub answers : Ran (messages_of form.mode) device (2 ^ 64 - 1) (moment opened from sunk) (moment now to sinks) (Ok tt) → IsTrue from.told → IsTrue sunk.told
      → EndsServing form from.left (totals (cuts_made from to)) (bytes_appended sunk sinks) (Ok tt) × (to.left ≡ [])
  answers ran told told' =
      let ended : to.left ≡ [] = ran.ended told in
      let read : from.left ≡ ran.fed = sym (bytes_read-all from to (ran.passes.source.content told) ended) ∙ ran.passes.read told in
      let F : Framing = messages_of form.mode in (
        (
          now,
          subst (λ t. EndsAs F device from.left (totals (cuts_made from to)) t now (bytes_appended sunk sinks) (Ok tt)) start
              (subst (λ b. EndsAs F device b (totals (cuts_made from to)) opened now (bytes_appended sunk sinks) (Ok tt)) (sym read)
              (subst (λ m. EndsAs F device ran.fed (totals m) opened now (bytes_appended sunk sinks) (Ok tt)) (sym (ran.passes.cuts told))
              (subst (λ w. EndsAs F device ran.fed (totals ran.made) opened now w (Ok tt)) (sym (ran.passes.wrote told')) ran.served))),
        ),
        ended,
      )

-- no device, where memory was refused
pub unserved : (form : Form) (from : Input) (sunk said told : Output) → Reports said told (line_of NoMemory) → EndsProgram form from from sunk sunk said told 11
unserved form from sunk said told reports = record { result = Err NoMemory; is = refl; served = inr (refl, refl); tells = reports }

-- with status 0 the summary was appended
pub made_whole : (count : ℕ) (from to : Input) (sunk sinks said told : Output) (status : ℕ) → MakesRequests count from to sunk sinks said told status → status ≡ 0 → IsTrue sunk.told → bytes_appended sunk sinks ≡ summary count
made_whole count from to sunk sinks said told status m done is_told = by_result m.result m.is m.sums
  where
    by_result : (result : Result (Unit {0}) ProcessError) → ending_of result ≡ Some status → SumsUp count sunk sinks result → bytes_appended sunk sinks ≡ summary count
    by_result (Ok all) is sums = sums.1 is_told
    by_result (Err WriteFault) is sums = let e : 4 ≡ status = cc in absurd (omega (arith, e, done))
    by_result (Err NoMemory) is sums = let e : 11 ≡ status = cc in absurd (omega (arith, e, done))
    by_result (Err other) is sums = absurd sums

-- where the sink had no fault, the status is 0 or that of refused memory
pub made_unless : (count : ℕ) (from to : Input) (sunk sinks said told : Output) (status : ℕ) → MakesRequests count from to sunk sinks said told status → (Rose sunk.faults sinks.faults → ⊥) → (status ≡ 0) ⊎ (status ≡ 11)
made_unless count from to sunk sinks said told status m calm = by_result m.result m.is m.sums
  where
    by_result : (result : Result (Unit {0}) ProcessError) → ending_of result ≡ Some status → SumsUp count sunk sinks result → (status ≡ 0) ⊎ (status ≡ 11)
    by_result (Ok all) is sums = inl (cc)
    by_result (Err WriteFault) is sums = absurd (calm sums.1)
    by_result (Err NoMemory) is sums = inr (cc)
    by_result (Err other) is sums = absurd sums
