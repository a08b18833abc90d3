-- A call that is polled at one silence after another.
use Rattle.std.proofs.Common.{◌≡◌, ◌≢◌, inl, inr, ℕ, ◌+◌, ◌-◌, ◌<◌, ◌≤◌, Bool, true, false, List, [], ◌∷◌, ◌++◌, length, Some, None, Err, refl, sym, ap, subst, ◌∙◌, arith}
use Rattle.std.specs.Prelude.{if◌then◌else◌}
use Rattle.std.proofs.lemmas.List.{length-map}
use Rattle.modbus_link.specs.declared.polled.Polled.TheVariants.{Ready, Pending}
use Rattle.modbus_link.specs.declared.outside.Cut.{Cut}
use Rattle.modbus_link.specs.Outside.{Input, Output, outside, Rose, RisesTo, cuts_from}
use Rattle.modbus_link.specs.Passes.{Passes, passes_none, passes_in, passes_out, passes_both}
use Rattle.modbus_link.specs.Reads.{totals}
use Rattle.modbus_frame.specs.Meaning.{Asked}
use Rattle.modbus_frame.specs.declared.fault.Error.{Error}
use Rattle.modbus_frame.specs.declared.fault.Error.TheVariants.{Transport}
use Rattle.modbus_frame.specs.declared.fault.TransportError.TheVariants.{BytesRemaining, ReadFault}
use Rattle.modbus_pdu.specs.Encodes.{Fits}
use Rattle.modbus_pdu.specs.RequestPdu.{request_pdu}
use Rattle.modbus_client.specs.Protocol.{Protocol}
use Rattle.modbus_client.specs.Matches.{Answer}
use Rattle.modbus_client.specs.Call.{CallState, CallStands, IsCallFor, IsAnswered}
use Rattle.modbus_client.specs.Calls.{Exchanged}
use Rattle.modbus_client.specs.Polled.{CallGoes, CallPolled, IsRefusedCall, AsksWhole}
use Rattle.modbus_client.specs.Silenced.{HasNoReply, CallSilenced}
use Rattle.modbus_reconnect.specs.Settles.{RoseBy}
use Rattle.modbus_reconnect.specs.SettleState.{LineMeaning}
use Rattle.modbus_reconnect.specs.Waits.{question_of, IsNoise, StillWaits, EndsWait, WaitsFor}
use Rattle.modbus_reconnect.specs.Waits.IsNoise.{nothing, burst}

pub none_held : (bytes : List ℕ) → (0 < length bytes → ⊥) → bytes ≡ []
none_held [] none = refl
none_held (byte ∷ bytes) none = absurd (none (omega arith))

pub some_held : (bytes : List ℕ) → 0 < length bytes → bytes ≢ []
some_held bytes some e = let n = ap length e in absurd (omega (arith, some, n))

-- the last silence that it waits for was told
pub rose_all : (silences told before now : ℕ) → told ≤ silences → silences ≤ told → RoseBy told before now → RoseBy silences before now
rose_all silences told before now most least rose = omega (arith, most, least, rose)

-- a silence was told
pub rose_once : (told before now : ℕ) → RoseBy (told + 1) before now → Rose before now
rose_once told before now rose = omega (arith, rose)

-- a call is that for which it was opened, with the reads that are left to it
for_left : {H : Type 0} (P : Protocol H) (header : H) (asked : Asked) (turns used : ℕ) (old new : CallState) → IsCallFor P header asked turns old → new.asked ≡ old.asked → new.function ≡ old.function → new.request ≡ old.request
    → new.turns ≡ old.turns - used → IsCallFor P header asked (turns - used) new
for_left P header asked turns used old new asks same function request left = record {
  under = same ∙ asks.under;
  function = function ∙ asks.function;
  request = request ∙ asks.request;
  limit = left ∙ ap (λ n. n - used) asks.limit;
}

-- so many silences were told while a call was polled, and it waits
pub record Going {H I L : Type 0} (m : LineMeaning H I L) (told used : ℕ) (before now : L) (old call : CallState) : Type 0 where
  pub start : Input
  pub noise : IsNoise m.silent old.asked (m.link.input before) used start
  pub fed : List ℕ
  pub made : List Cut
  pub sent : List ℕ
  pub passes : Passes (outside start (m.link.output before)) (outside (m.link.input now) (m.link.output now)) fed made sent
  pub asked : call.asked ≡ old.asked
  pub function : call.function ≡ old.function
  pub request : call.request ≡ old.request
  pub turns : call.turns ≡ old.turns - used
  pub within : used ≤ old.turns
  pub goes : CallGoes m.protocol sent fed made call
  pub rose : RoseBy told (m.silences before) (m.silences now)
  pub later : m.silences before ≤ m.silences now

pub going_none : {H I L : Type 0} (m : LineMeaning H I L) (before : L) (call : CallState) → CallGoes m.protocol [] [] [] call → Going m 0 0 before before call call
going_none m before call goes = record {
  start = m.link.input before;
  noise = nothing;
  fed = [];
  made = [];
  sent = [];
  passes = passes_none (outside (m.link.input before) (m.link.output before));
  asked = refl;
  function = refl;
  request = refl;
  turns = omega arith;
  within = omega arith;
  goes = goes;
  rose = omega arith;
  later = omega arith;
}

-- one more poll told a silence
pub going_more : {H I L : Type 0} (m : LineMeaning H I L) (told used : ℕ) (before now next : L) (old call new : CallState) → Going m told used before now old call
    → CallPolled m.protocol (outside (m.link.input now) (m.link.output now)) (outside (m.link.input next) (m.link.output next)) (m.silences now) (m.silences next) call new Pending
    → Going m (told + 1) used before next old new
going_more m told used before now next old call new g p = record {
  start = g.start;
  noise = g.noise;
  fed = g.fed ++ p.fed;
  made = g.made ++ cuts_from (length g.fed) p.made;
  sent = g.sent ++ p.sent;
  passes = passes_both (outside g.start (m.link.output before)) (outside (m.link.input now) (m.link.output now)) (outside (m.link.input next) (m.link.output next))
      g.fed p.fed g.made p.made g.sent p.sent g.passes p.passes;
  asked = p.same.asked ∙ g.asked;
  function = p.same.function ∙ g.function;
  request = p.same.request ∙ g.request;
  turns = p.same.turns ∙ g.turns;
  within = g.within;
  goes = p.goes_on g.sent g.fed g.made g.goes;
  rose = let first = g.rose in let second = p.waited refl in omega (arith, first, second);
  later = let first = g.later in let second = p.later in omega (arith, first, second);
}

-- where bytes are held, reads were made
some_made : {H : Type 0} (P : Protocol H) (sent fed : List ℕ) (made : List Cut) (call : CallState) → CallGoes P sent fed made call → call.held ≢ [] → 0 < length made
some_made P sent fed [] call goes some = absurd (some (goes.empty (no_bytes fed goes.rises)))
  where
    no_bytes : (fed : List ℕ) → RisesTo 0 [] (length fed) → fed ≡ []
    no_bytes [] rises = refl
    no_bytes (byte ∷ bytes) rises = absurd (omega (arith, rises))
some_made P sent fed (cut ∷ cuts) call goes some = omega arith

-- no reply stood before the silence: what was held is noise, and the call begins anew behind it
module _ {H I L : Type 0} (m : LineMeaning H I L) (told used : ℕ) (before now : L) (old call new : CallState) (g : Going m told used before now old call) (some : call.held ≢ [])
    (s : CallSilenced m.protocol m.silent call new None) where
  passed : HasNoReply m.silent call.asked g.fed (totals g.made) × CallStands m.protocol g.sent [] [] new × (new.held ≡ [])
  passed = s.stands g.sent g.fed (totals g.made) g.goes.stands

  reads_none : new.reads ≡ 0
  reads_none = passed.1.counted

  counted : call.reads ≡ length g.made
  counted = g.goes.stands.counted ∙ length-map g.made (λ (cut : Cut). cut.total)

  pub going_noise : Going m told (used + length g.made) before now old new
  going_noise = record {
    start = m.link.input now;
    noise = burst used g.start (m.link.input now) (m.link.output before) g.fed g.made g.noise
        (passes_in (outside g.start (m.link.output before)) (outside (m.link.input now) (m.link.output before)) g.fed g.made refl g.passes.source g.passes.read g.passes.cuts g.passes.rises)
        (some_made m.protocol g.sent g.fed g.made call g.goes some)
        (subst (λ asked. HasNoReply m.silent asked g.fed (totals g.made)) g.asked passed.0);
    fed = [];
    made = [];
    sent = g.sent;
    passes = passes_out (outside (m.link.input now) (m.link.output before)) (outside (m.link.input now) (m.link.output now)) g.sent refl g.passes.sink g.passes.wrote;
    asked = s.asked ∙ g.asked;
    function = s.function ∙ g.function;
    request = s.request ∙ g.request;
    turns = let left = s.turns in let before' = g.turns in omega (arith, left, before', counted);
    within = let least = g.goes.within in let left = g.turns in let before' = g.within in omega (arith, least, left, before', counted);
    goes = record {
      stands = passed.1;
      empty = λ e. passed.2;
      rises = refl;
      rooms = tt;
      within = omega (arith, reads_none);
    };
    rose = g.rose;
    later = g.later;
  }

still_waits : {H I L : Type 0} (m : LineMeaning H I L) (told used : ℕ) (before now : L) (old call : CallState) (g : Going m told used before now old call) (header : H) (asked : Asked) (turns : ℕ)
    → IsCallFor m.protocol header asked turns old → Fits (request_pdu asked)
    → StillWaits m.protocol (outside g.start (m.link.output before)) (outside (m.link.input now) (m.link.output now)) header asked (turns - used) call
still_waits m told used before now old call g header asked turns asks fits = record {
  fed = g.fed;
  made = g.made;
  sent = g.sent;
  passes = g.passes;
  asks = for_left m.protocol header asked turns used old call asks g.asked g.function g.request g.turns;
  fits = fits;
  goes = g.goes;
}

noise_for : {H I L : Type 0} (m : LineMeaning H I L) (told used : ℕ) (before now : L) (old call : CallState) (g : Going m told used before now old call) (header : H) (asked : Asked) (turns : ℕ)
    → IsCallFor m.protocol header asked turns old → IsNoise m.silent (m.protocol.seen header) (m.link.input before) used g.start
noise_for m told used before now old call g header asked turns asks = subst (λ seen. IsNoise m.silent seen (m.link.input before) used g.start) asks.under g.noise

within_for : {H I L : Type 0} (m : LineMeaning H I L) (told used : ℕ) (before now : L) (old call : CallState) (g : Going m told used before now old call) (header : H) (asked : Asked) (turns : ℕ)
    → IsCallFor m.protocol header asked turns old → used ≤ turns
within_for m told used before now old call g header asked turns asks = let most = g.within in let limit = asks.limit in omega (arith, most, limit)

-- so many silences were told, for some noise, if the call was opened
abbrev pub Goes : {H I L : Type 0} → LineMeaning H I L → ℕ → Bool → L → L → CallState → CallState → Type 0
Goes m told is_noisy before now old call = CallGoes m.protocol [] [] [] old
    → (used : ℕ) × Going m told used before now old call × (0 < told → call.held ≡ []) × (is_noisy ≡ true → 0 < used) × (is_noisy ≡ false → used ≡ 0)

pub goes_none : {H I L : Type 0} (m : LineMeaning H I L) (before : L) (call : CallState) → Goes m 0 false before before call call
goes_none m before call = λ opened. (0, going_none m before call opened, λ some. absurd (omega (arith, some)), λ is. absurd cc, λ is. refl)

-- it is given up there
pub gives_up : {H I L : Type 0} (m : LineMeaning H I L) (silences told : ℕ) (is_noisy : Bool) (before now : L) (old call : CallState) → Goes m told is_noisy before now old call
    → 0 < told → told ≤ silences → silences ≤ told → WaitsFor m silences before now old call (Err (Transport (if is_noisy then BytesRemaining else ReadFault)))
gives_up m silences told true before now old call goes some most least = λ header asked turns asks fits opened.
    let (used, g, empty, noisy, calm) = goes opened in record {
      start = g.start;
      used = used;
      noise = noise_for m told used before now old call g header asked turns asks;
      within = within_for m told used before now old call g header asked turns asks;
      ends = inr (inl (record {
        call = call;
        waits = still_waits m told used before now old call g header asked turns asks fits;
        empty = empty some;
        because = (noisy refl, rose_all silences told (m.silences before) (m.silences now) most least g.rose);
      }));
    }
gives_up m silences told false before now old call goes some most least = λ header asked turns asks fits opened.
    let (used, g, empty, noisy, calm) = goes opened in record {
      start = g.start;
      used = used;
      noise = noise_for m told used before now old call g header asked turns asks;
      within = within_for m told used before now old call g header asked turns asks;
      ends = inr (inl (record {
        call = call;
        waits = still_waits m told used before now old call g header asked turns asks fits;
        empty = empty some;
        because = (calm refl, rose_all silences told (m.silences before) (m.silences now) most least g.rose);
      }));
    }

-- a poll answered
pub answered : {H I L : Type 0} (m : LineMeaning H I L) (silences told : ℕ) (is_noisy : Bool) (before now next : L) (old call new : CallState) (answer : Answer) → Goes m told is_noisy before now old call
    → AsksWhole m.protocol (outside (m.link.input now) (m.link.output now)) (outside (m.link.input next) (m.link.output next)) call new (Ready answer) → WaitsFor m silences before next old new answer
answered m silences told is_noisy before now next old call new answer goes whole = λ header asked turns asks fits opened.
    let (used, g, empty, noisy, calm) = goes opened in record {
      start = g.start;
      used = used;
      noise = noise_for m told used before now old call g header asked turns asks;
      within = within_for m told used before now old call g header asked turns asks;
      ends = inl (whole header asked (turns - used) g.sent g.fed g.made (outside g.start (m.link.output before))
          (for_left m.protocol header asked turns used old call asks g.asked g.function g.request g.turns) fits g.goes g.passes);
    }

-- one more poll told a silence, with nothing held
pub goes_calm : {H I L : Type 0} (m : LineMeaning H I L) (told : ℕ) (is_noisy : Bool) (before now next : L) (old call new : CallState) → Goes m told is_noisy before now old call
    → CallPolled m.protocol (outside (m.link.input now) (m.link.output now)) (outside (m.link.input next) (m.link.output next)) (m.silences now) (m.silences next) call new Pending
    → new.held ≡ [] → Goes m (told + 1) is_noisy before next old new
goes_calm m told is_noisy before now next old call new goes p none = λ opened.
    let (used, g, empty, noisy, calm) = goes opened in
    (used, going_more m told used before now next old call new g p, λ some. none, noisy, calm)

-- or with noise
pub goes_noisy : {H I L : Type 0} (m : LineMeaning H I L) (told : ℕ) (is_noisy : Bool) (before now next : L) (old call polled new : CallState) → Goes m told is_noisy before now old call
    → CallPolled m.protocol (outside (m.link.input now) (m.link.output now)) (outside (m.link.input next) (m.link.output next)) (m.silences now) (m.silences next) call polled Pending
    → polled.held ≢ [] → CallSilenced m.protocol m.silent polled new None → Goes m (told + 1) true before next old new
goes_noisy m told is_noisy before now next old call polled new goes p some s = λ opened.
    let (used, g, empty, noisy, calm) = goes opened in
    let more = going_more m told used before now next old call polled g p in
    let made = some_made m.protocol more.sent more.fed more.made polled more.goes some in (
      used + length more.made,
      going_noise m (told + 1) used before next old polled new more some s,
      λ counts. (passed m (told + 1) used before next old polled new more some s).2,
      λ is. omega (arith, made),
      λ is. absurd cc,
    )

-- a silence ended the reply
pub answered_silent : {H I L : Type 0} (m : LineMeaning H I L) (silences told : ℕ) (is_noisy : Bool) (before now next : L) (old call polled new : CallState) (answer : Answer) → Goes m told is_noisy before now old call
    → CallPolled m.protocol (outside (m.link.input now) (m.link.output now)) (outside (m.link.input next) (m.link.output next)) (m.silences now) (m.silences next) call polled Pending
    → polled.held ≢ [] → CallSilenced m.protocol m.silent polled new (Some answer) → WaitsFor m silences before next old new answer
unfolding going_more still_waits
answered_silent m silences told is_noisy before now next old call polled new answer goes p some s = λ header asked turns asks fits opened.
    let (used, g, empty, noisy, calm) = goes opened in
    let more = going_more m told used before now next old call polled g p in
    let waits = still_waits m (told + 1) used before next old polled more header asked turns asks fits in record {
      start = g.start;
      used = used;
      noise = noise_for m (told + 1) used before next old polled more header asked turns asks;
      within = within_for m (told + 1) used before next old polled more header asked turns asks;
      ends = inr (inr (record {
        call = polled;
        waits = waits;
        some = some;
        answers = subst (λ function. IsAnswered m.silent (m.protocol.seen header) function more.fed (totals more.made) new.held answer) waits.asks.function
            (subst (λ seen. IsAnswered m.silent seen polled.function more.fed (totals more.made) new.held answer) waits.asks.under (s.stands more.sent more.fed (totals more.made) more.goes.stands));
        silent = rose_once told (m.silences before) (m.silences next) more.rose;
      }));
    }

-- a request that was not opened was not sent
pub unasked : {H I L : Type 0} (m : LineMeaning H I L)
    (unsent : (from : Input) (sunk : Output) (header : H) (asked : Asked) (turns : ℕ) (error : Error) → IsRefusedCall (request_pdu asked) error
    → Exchanged m.protocol (outside from sunk) (outside from sunk) header asked turns [] (Err error))
    (link : L) (header : H) (asked : Asked) (turns silences : ℕ) (error : Error)
    → IsRefusedCall (request_pdu asked) error → EndsWait m (question_of header asked turns silences) link link [] (Err error)
unasked m unsent link header asked turns silences error refused = record {
  start = m.link.input link;
  used = 0;
  noise = nothing;
  within = omega arith;
  ends = inl (subst (λ left. Exchanged m.protocol (outside (m.link.input link) (m.link.output link)) (outside (m.link.input link) (m.link.output link)) header asked left [] (Err error)) (sym (none_less turns))
      (unsent (m.link.input link) (m.link.output link) header asked turns error refused));
}
  where
    none_less : (n : ℕ) → n - 0 ≡ n
    none_less n = omega arith

-- a count that is 0 is that of no bytes
pub none_counted : (bytes : List ℕ) (count : ℕ) → count ≡ length bytes → count ≤ 0 → bytes ≡ []
none_counted bytes count is none = none_held bytes (λ some. absurd (omega (arith, is, some, none)))

pub some_counted : (bytes : List ℕ) (count : ℕ) → count ≡ length bytes → 0 < count → bytes ≢ []
some_counted bytes count is some = some_held bytes (omega (arith, is, some))
