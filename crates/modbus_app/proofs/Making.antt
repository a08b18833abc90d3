-- The requests that are made are a quiet line, and all of them are served.
use Rattle.std.proofs.Common.{◌≡◌, ℕ, ◌+◌, ◌-◌, ◌*◌, ◌/◌, ◌%◌, ◌^◌, ◌<◌, ◌≤◌, ◌==◌, Bool, true, false, if◌then◌else◌, List, [], ◌∷◌, ◌++◌, map, length, refl, sym, ap, ◌∙◌, subst, arith, IsTrue, Result, Ok, Err, append-nil, length-append, add-one}
use Rattle.std.specs.Prelude.{All, nat_lt}
use Rattle.std.specs.List.{AllByRecursion, flat_map, range_with_len}
use Rattle.std.proofs.lemmas.Grind.{flat_map-append}
use Rattle.std.proofs.lemmas.List.{length-map}
use Rattle.std.proofs.lemmas.List.Elements.{All-head, All-tail}
use Rattle.std.proofs.lemmas.List.FromFn.{length-map-range_with_len, map-range_with_len_more}
use Rattle.std.proofs.lemmas.List.Sums.{length-filter, count_by-le-length}
use Rattle.modbus_frame.specs.Meaning.{Asked}
use Rattle.modbus_frame.specs.declared.fault.Reason.{Reason}
use Rattle.modbus_link.specs.Memory.{SourceState, SinkState, source_input, sink_output, source_at_start, sink_at_start}
use Rattle.modbus_link.specs.Outside.{Input, Output, Rose, bytes_appended}
use Rattle.modbus_link.specs.Reads.{totals}
use Rattle.modbus_link.specs.Runs.{RisesTo-count}
use Rattle.modbus_pdu.specs.Limits.{max_pdu}
use Rattle.modbus_pdu.specs.Laws.{IsInRange, IsReadable, ReadsBack, request_size}
use Rattle.modbus_pdu.specs.RequestOf.{request_of}
use Rattle.modbus_pdu.specs.RequestPdu.{request_pdu}
use Rattle.modbus_pdu.specs.SlavePdu.{SlavePdu, message_of}
use Rattle.modbus_pdu.specs.Message.{message}
use Rattle.modbus_rtu.specs.Checksum.{crc}
use Rattle.modbus_rtu.specs.Frame.{frame}
use Rattle.modbus_rtu.specs.WholeReading.{IsModelledAsk, IsFramedAsk, stream_of}
use Rattle.modbus_rtu.specs.Leftmost.{IsLeftmost}
use Rattle.modbus_rtu.specs.Place.{frames_below}
use Rattle.modbus_rtu.specs.Quiet.{IsQuietLine}
use Rattle.modbus_rtu.specs.Stands.{HasCrowd, IsTakenNext, IsUsedUp, frame_at}
use Rattle.modbus_service.specs.Outcome.{Outcome, silence, reply, exception, code_of, reply_pdu}
use Rattle.modbus_server.specs.declared.error.ProcessError.{ProcessError}
use Rattle.modbus_server.specs.declared.error.ProcessError.TheVariants.{ReadFault, WriteFault, TooManyRetries, BytesRemaining, InvalidRequest, ResponseTooLong, TurnLimit, InvalidLength, InvalidProtocol, NoMemory}
use Rattle.modbus_server.specs.Exchanges.{Exchange, Run, ReplyFits, output, reply_of, framed_outcome, asked_of, asks}
use Rattle.modbus_server.specs.Rtu.{rtu}
use Rattle.modbus_server.specs.Served.{Served, remaining}
use Rattle.modbus_server.specs.Step.{Ran}
use Rattle.modbus_store.specs.Tables.{Tables}
use Rattle.modbus_store.specs.Step.{device, store_step}
use Rattle.modbus_app.specs.Make.{next_number, made_kind, request_by, number_at, requests_made, made_slave, line_made, made_tables, exchanges_made, replies_made}
use Rattle.modbus_app.proofs.Fitting.{never_long}
use Rattle.modbus_server.specs.Moment.{moment}

-- a request for the one slave, and its message
abbrev for_slave : Asked → ℕ × Asked
for_slave request = (made_slave, request)

abbrev message_for : Asked → SlavePdu
message_for request = message made_slave (request_pdu request)

abbrev question_for : Asked → ℕ × Result Asked Reason
question_for request = (made_slave, Ok request)

either : (P : Asked → Type 0) (b : Bool) (r s : Asked) → P r → P s → P (if b then r else s)
either P true r s p q = p
either P false r s p q = q

-- what each of them is
record IsMade (request : Asked) : Type 0 where
  range : IsInRange request
  readable : IsReadable request
  modelled : IsModelledAsk request
  size : request_size request ≡ 5

made : (kind address count x : ℕ) → address < 2 ^ 16 → count < 2 ^ 16 → IsMade (made_kind kind address count x)
made kind address count x a c =
    let word : x % 65536 < 2 ^ 16 = omega arith in
    either IsMade (kind == 0) _ _ (record { range = (a, c); readable = tt; modelled = tt; size = refl })
    (either IsMade (kind == 1) _ _ (record { range = (a, word); readable = tt; modelled = tt; size = refl })
    (either IsMade (kind == 2) _ _ (record { range = (a, c); readable = tt; modelled = tt; size = refl }) (record { range = a; readable = tt; modelled = tt; size = refl })))

made_by : (x : ℕ) → IsMade (request_by x)
unfolding request_by
made_by x = made (x / 65536 % 4) (x / 64 % 1000) (1 + x % 16) x (omega arith) (omega arith)

abbrev pub HaveSizes : Type 0
HaveSizes = (r : Asked) → length (request_pdu r) ≡ request_size r

-- each has a PDU of 5 bytes
pub size_made : HaveSizes → (x : ℕ) → length (request_pdu (request_by x)) ≡ 5
size_made sizes x = sizes (request_by x) ∙ (made_by x).size

-- what is known of the requests
pub record IsPlain (request : Asked) : Type 0 where
  pub modelled : IsModelledAsk request
  pub size : length (request_pdu request) ≡ 5
  pub back : request_of (request_pdu request) ≡ Ok request

module _ (sizes : HaveSizes) (reads_back : (r : Asked) → IsInRange r → ReadsBack r) where
  plain_request : (x : ℕ) → IsPlain (request_by x)
  plain_request x = record {
    modelled = (made_by x).modelled;
    size = size_made sizes x;
    back = reads_back (request_by x) (made_by x).range (made_by x).readable (omega (arith, size_made sizes x));
  }

  plain_all : (ks : List ℕ) → AllByRecursion IsPlain (map (λ k. request_by (number_at k)) ks)
  plain_all [] = tt
  plain_all (k ∷ ks) = (plain_request (number_at k), plain_all ks)

  pub plain_requests : (count : ℕ) → AllByRecursion IsPlain (requests_made count)
  unfolding requests_made
  plain_requests count = plain_all (range_with_len 1 count)

pub count_made : (count : ℕ) → length (requests_made count) ≡ count
unfolding requests_made
count_made count = length-map-range_with_len (λ k. request_by (number_at k)) 1 count

-- one more number, and one more frame
pub number_more : (k : ℕ) → number_at (k + 1) ≡ next_number (number_at k)
unfolding number_at
number_more k = ap number_at (add-one k)

pub no_line : line_made 0 ≡ []
unfolding requests_made
no_line = refl

pub first_number : number_at 0 ≡ 1
unfolding number_at
first_number = refl

pub line_more : (count : ℕ) → line_made (count + 1) ≡ line_made count ++ frame made_slave (request_pdu (request_by (number_at (count + 1))))
unfolding requests_made
line_more count =
    let g : Asked → List ℕ = λ request. frame made_slave (request_pdu request) in
    let f : ℕ → Asked = λ k. request_by (number_at k) in
    ap (flat_map g) (map-range_with_len_more f 1 count (count + 1) (omega arith))
    ∙ flat_map-append g (map f (range_with_len 1 count)) (f (count + 1) ∷ [])
    ∙ ap (λ last. flat_map g (map f (range_with_len 1 count)) ++ last) (append-nil (g (f (count + 1))))

-- the requests as a line
stream_is : (requests : List Asked) → stream_of (map message_of (map for_slave requests)) ≡ flat_map (λ request. frame made_slave (request_pdu request)) requests
stream_is [] = refl
stream_is (request ∷ requests) = ap (λ rest. frame made_slave (request_pdu request) ++ rest) (stream_is requests)

messages_are : (requests : List Asked) → map message_of (map for_slave requests) ≡ map message_for requests
messages_are [] = refl
messages_are (request ∷ requests) = ap (λ rest. message_for request ∷ rest) (messages_are requests)

all_framed : (requests : List Asked) → AllByRecursion IsPlain requests → AllByRecursion (λ (one : ℕ × Asked). IsFramedAsk one.1) (map for_slave requests)
all_framed [] all = tt
all_framed (request ∷ requests) all = ((all.0.modelled, omega (arith, all.0.size)), all_framed requests all.1)

all_back : (requests : List Asked) → AllByRecursion IsPlain requests → map (asked_of rtu) (map message_for requests) ≡ map question_for requests
all_back [] all = refl
all_back (request ∷ requests) all = let one = all.0.back in let rest = all_back requests all.1 in cc

abbrev pub IsAsked : SlavePdu → Type 0
IsAsked message = (request : Asked) × (request_of message.pdu ≡ Ok request)

all_asked_for : (requests : List Asked) → AllByRecursion IsPlain requests → AllByRecursion IsAsked (map message_for requests)
all_asked_for [] all = tt
all_asked_for (request ∷ requests) all = ((request, all.0.back), all_asked_for requests all.1)

length-frame : (slave : ℕ) (pdu : List ℕ) → length (frame slave pdu) ≡ length pdu + 3
unfolding frame
length-frame slave pdu = omega (arith, length-append (slave ∷ pdu) (crc (slave ∷ pdu) % 256 ∷ crc (slave ∷ pdu) / 256 ∷ []))

length-line : (requests : List Asked) → AllByRecursion IsPlain requests → length (flat_map (λ request. frame made_slave (request_pdu request)) requests) ≡ 8 * length requests
length-line [] all = refl
length-line (request ∷ requests) all =
    omega (arith, length-append (frame made_slave (request_pdu request)) (flat_map (λ request. frame made_slave (request_pdu request)) requests), length-frame made_slave (request_pdu request), all.0.size, length-line requests all.1)

abbrev ok : Asked → Result Asked Reason
ok request = Ok request

same_ok : {a b : Asked} → ok a ≡ ok b → a ≡ b
same_ok e = cc

abbrev exchange : ℕ → Asked → Outcome → Exchange rtu
exchange header request outcome = record { header = header; request = request; outcome = outcome }

-- a run over these questions has the one outcome of each
run_is : (tables end : Tables) (requests : List Asked) (xs : List (Exchange rtu)) → Run rtu device tables xs end → map (asks rtu) xs ≡ map question_for requests → xs ≡ exchanges_made tables requests
unfolding exchanges_made
run_is tables end [] [] run e = refl
run_is tables end [] (x ∷ xs) run e = cc
run_is tables end (request ∷ requests) [] run e = cc
run_is tables end (request ∷ requests) (x ∷ xs) (next, step, rest) e =
    let asked : asks rtu x ≡ question_for request = cc in
    let header : x.header ≡ made_slave = ap (λ (q : ℕ × Result Asked Reason). q.0) asked in
    let is : x.request ≡ request = same_ok (ap (λ (q : ℕ × Result Asked Reason). q.1) asked) in
    let same : store_step tables made_slave request ≡ (x.outcome, next) = ap (λ s. store_step tables s request) (sym header) ∙ ap (store_step tables x.header) (sym is) ∙ step in
    let outcome : x.outcome ≡ (store_step tables made_slave request).0 = ap (λ (s : Outcome × Tables). s.0) (sym same) in
    let after : next ≡ (store_step tables made_slave request).1 = ap (λ (s : Outcome × Tables). s.1) (sym same) in
    let others : map (asks rtu) xs ≡ map question_for requests = cc in
    let later : xs ≡ exchanges_made next requests = run_is next end requests xs rest others in
    let first : x ≡ exchange made_slave request (store_step tables made_slave request).0 =
    ap (λ h. exchange h x.request x.outcome) header ∙ ap (λ r. exchange made_slave r x.outcome) is ∙ ap (exchange made_slave request) outcome in
    ap (λ y. y ∷ xs) first ∙ ap (λ ys. exchange made_slave request (store_step tables made_slave request).0 ∷ ys) (later ∙ ap (λ t. exchanges_made t requests) after)

-- each reply has at most 256 bytes
reply_short : (x : Exchange rtu) → ReplyFits rtu x → length (reply_of rtu x) ≤ 256
reply_short x fits = by_outcome x.outcome fits
  where
    by_outcome : (outcome : Outcome) → length (reply_pdu (code_of x.request) outcome) ≤ max_pdu → length (framed_outcome rtu x.header (code_of x.request) outcome) ≤ 256
    by_outcome silence fits = omega arith
    by_outcome (reply response) fits = omega (arith, length-frame x.header (reply_pdu (code_of x.request) (reply response)))
    by_outcome (exception code) fits = omega (arith, length-frame x.header (reply_pdu (code_of x.request) (exception code)))

output_short : (xs : List (Exchange rtu)) → All (ReplyFits rtu) xs → length (output rtu xs) ≤ 256 * length xs
output_short [] fit = omega arith
output_short (x ∷ xs) fit =
    omega (arith, length-append (reply_of rtu x) (output rtu xs), reply_short x (All-head (ReplyFits rtu) x xs fit), output_short xs (All-tail (ReplyFits rtu) x xs fit))

same_length : {A B C : Type 0} (f : A → C) (g : B → C) (xs : List A) (ys : List B) → map f xs ≡ map g ys → length xs ≡ length ys
same_length f g xs ys e = sym (length-map xs f) ∙ ap length e ∙ length-map ys g

in_middle : (P : SlavePdu → Type 0) (before : List SlavePdu) (message : SlavePdu) (later : List SlavePdu) → AllByRecursion P ((before ++ message ∷ []) ++ later) → P message
in_middle P [] message later all = all.0
in_middle P (first ∷ before) message later all = in_middle P before message later all.1

not_risen : (old new : ℕ) → new ≡ old → old ≡ 0 → Rose old new → ⊥
not_risen old new same none rose = omega (arith, rose, same, none)

-- the laws of the crates below
abbrev pub NoCrowds : Type 0
NoCrowds = (read rest cuts : List ℕ) (messages : List SlavePdu) (k : ℕ) → IsQuietLine (read ++ rest) messages → HasCrowd read cuts k → ⊥

abbrev pub NextIsOfLine : Type 0
NextIsOfLine = (read rest cuts : List ℕ) (messages before : List SlavePdu) (message : SlavePdu) → IsQuietLine (read ++ rest) messages → IsTakenNext read cuts before message
    → (later : List SlavePdu) × (messages ≡ (before ++ message ∷ []) ++ later)

abbrev pub NothingIsLeft : Type 0
NothingIsLeft = (read cuts left : List ℕ) (messages before : List SlavePdu) → IsQuietLine read messages → IsUsedUp read cuts left before → left ≡ []

abbrev pub OneReading : Type 0
OneReading = (bytes frames others : List ℕ) (stop last : ℕ) → IsLeftmost bytes frames stop → IsLeftmost bytes others last → (frames ≡ others) × (stop ≡ last)

abbrev pub SomeReading : Type 0
SomeReading = (bytes : List ℕ) → (frames : List ℕ) × (stop : ℕ) × IsLeftmost bytes frames stop

abbrev pub FramesStay : Type 0
FramesStay = (bytes more frames all : List ℕ) (stop last : ℕ) → IsLeftmost bytes frames stop → IsLeftmost (bytes ++ more) all last → (later : List ℕ) × (all ≡ frames ++ later) × All (λ f. stop ≤ f) later

abbrev pub RequestsAreQuiet : Type 0
RequestsAreQuiet = (asked : List (ℕ × Asked)) → AllByRecursion (λ (one : ℕ × Asked). IsFramedAsk one.1) asked → IsQuietLine (stream_of (map message_of asked)) (map message_of asked)

abbrev pub AnswersFit : Type 0
AnswersFit = (code : ℕ) (tables : Tables) (slave : ℕ) (request : Asked) → length (reply_pdu code (store_step tables slave request).0) ≤ max_pdu

pub record Laws : Type 0 where
  pub sizes : HaveSizes
  pub reads_back : (r : Asked) → IsInRange r → ReadsBack r
  pub calm : NoCrowds
  pub next : NextIsOfLine
  pub used : NothingIsLeft
  pub one : OneReading
  pub some : SomeReading
  pub stay : FramesStay
  pub quiet : RequestsAreQuiet
  pub fit : AnswersFit

-- so many requests are served over memory
module _ (laws : Laws) (count : ℕ) (most : count ≤ 1000000) (opening now : Tables) (source : SourceState) (to : Input) (sink : SinkState) (sinks : Output)
    (given : source ≡ source_at_start (line_made count) [] []) (made_room : sink ≡ sink_at_start (256 * count + 1) (256 * count + 1) []) where
  abbrev requests : List Asked
  requests = requests_made count

  abbrev from : Input
  from = source_input source

  abbrev sunk : Output
  sunk = sink_output sink

  plain : AllByRecursion IsPlain requests
  plain = plain_requests laws.sizes laws.reads_back count

  few : length requests ≤ 1000000
  few = omega (arith, count_made count, most)

  sure : IsTrue from.sure
  sure = subst (λ (s : SourceState). IsTrue (source_input s).sure) (sym given) refl

  unread : from.faults ≡ 0
  unread = ap (λ (s : SourceState). s.faults) given

  left : from.left ≡ line_made count
  left = ap (λ (s : SourceState). (source_input s).left) given

  empty : sunk.bytes ≡ []
  empty = ap (λ (s : SinkState). s.bytes) made_room

  unwritten : sunk.faults ≡ 0
  unwritten = ap (λ (s : SinkState). s.faults) made_room

  room : 256 * length requests < sunk.sure_below
  room = omega (arith, count_made count, ap (λ (s : SinkState). (sink_output s).sure_below) made_room)

  abbrev messages : List SlavePdu
  messages = map message_for requests

  quiet : IsQuietLine from.left messages
  quiet = subst (λ b. IsQuietLine b messages) (sym left)
      (subst (λ b. IsQuietLine b messages) (stream_is requests)
      (subst (λ m. IsQuietLine (stream_of (map message_of (map for_slave requests))) m) (messages_are requests) (laws.quiet (map for_slave requests) (all_framed requests plain))))

  long : length from.left ≡ 8 * length requests
  long = ap length left ∙ length-line requests plain

  module _ (result : Result (Unit {0}) ProcessError) (ran : Ran rtu device (2 ^ 64 - 1) (moment opening from sunk) (moment now to sinks) result) where
    joined : from.left ≡ ran.fed ++ to.left
    joined = (ran.passes.source.content refl).left ∙ ap (λ b. b ++ to.left) (ran.passes.read refl)

    line : IsQuietLine (ran.fed ++ to.left) messages
    line = subst (λ b. IsQuietLine b messages) joined quiet

    all_fed : to.left ≡ [] → IsQuietLine ran.fed messages
    all_fed none = subst (λ b. IsQuietLine b messages) (ap (λ rest. ran.fed ++ rest) none ∙ append-nil ran.fed) line

    read_sure : Rose from.faults to.faults → ⊥
    read_sure rose = not_risen from.faults to.faults (ran.passes.source.no_fault sure) unread rose

    write_sure : length ran.sent ≤ 256 * length requests → Rose sunk.faults sinks.faults → ⊥
    write_sure short rose =
        let bytes : sinks.bytes ≡ sunk.bytes ++ bytes_appended sunk sinks = ran.passes.sink.content refl in
        let is : sinks.bytes ≡ ran.sent = bytes ∙ ap (λ b. b ++ bytes_appended sunk sinks) empty ∙ ran.passes.wrote refl in
        not_risen sunk.faults sinks.faults (ran.passes.sink.no_fault refl (omega (arith, ap length is, short, room))) unwritten rose

    few_turns : length ran.made ≡ 2 ^ 64 - 1 → ⊥
    few_turns all = omega (arith, all, RisesTo-count 0 (length ran.fed) ran.made ran.passes.rises, ap length joined, length-append ran.fed to.left, long, few)

    few_taken : (place : ℕ) (taken : List SlavePdu) → ((frames : List ℕ) (stop : ℕ) → IsLeftmost ran.fed frames stop → taken ≡ map (frame_at ran.fed) (frames_below place frames)) → length taken ≤ length requests
    few_taken place taken took =
        let (frames, stop, l) = laws.some ran.fed in
        let (later, front, above) = laws.stay ran.fed to.left frames line.frames stop (length (ran.fed ++ to.left)) l line.reading in
        omega (
          arith,
          ap length (took frames stop l),
          length-map (frames_below place frames) (frame_at ran.fed),
          length-filter (λ f. nat_lt f place) frames,
          count_by-le-length (λ f. nat_lt f place) frames,
          ap length front,
          length-append frames later,
          ap length line.are,
          length-map line.frames (frame_at (ran.fed ++ to.left)),
          length-map requests message_for,
        )

    refused : (before : List SlavePdu) (message : SlavePdu) (cuts : List ℕ) (reason : Reason) → IsTakenNext ran.fed cuts before message → request_of message.pdu ≡ Err reason → ⊥
    refused before message cuts reason taken e =
        let (later, are) = laws.next ran.fed to.left cuts messages before message line taken in
        let all : AllByRecursion IsAsked ((before ++ message ∷ []) ++ later) = subst (AllByRecursion IsAsked) are (all_asked_for requests plain) in
        let (request, ok) = in_middle IsAsked before message later all in
        cc

  -- no answer comes but Ok and refused memory
  pub only_memory : (error : ProcessError) → Ran rtu device (2 ^ 64 - 1) (moment opening from sunk) (moment now to sinks) (Err error) → error ≡ NoMemory
  only_memory ReadFault ran = absurd (read_sure (Err ReadFault) ran (ran.read_fault refl))
  only_memory WriteFault ran =
      let s = ran.served.stood in
      let taken = few_taken (Err WriteFault) ran s.stands.place s.taken s.stands.took in
      let asked = same_length (asked_of rtu) (asks rtu) s.taken ran.served.exchanges s.asked in
      let short : length ran.sent ≤ 256 * length requests = omega (arith, ap length s.wrote, length-append ran.sent ran.served.waiting, output_short ran.served.exchanges s.fit, taken, asked) in
      absurd (write_sure (Err WriteFault) ran short (ran.write_fault refl))
  only_memory TooManyRetries ran =
      let (k, first) = ran.served.halts.0 in absurd (laws.calm ran.fed to.left (totals ran.made) messages k (line (Err TooManyRetries) ran) first.crowd)
  only_memory BytesRemaining ran =
      let (rest, ne, s) = ran.served in absurd (ne (laws.used ran.fed (totals ran.made) rest messages s.before (all_fed (Err BytesRemaining) ran (ran.ended refl)) s.halts.0))
  only_memory (InvalidRequest reason) ran =
      let s = ran.served in let (message, taken, e, same) = s.halts in absurd (refused (Err (InvalidRequest reason)) ran s.before message (totals ran.made) reason taken e)
  only_memory (ResponseTooLong size) ran = absurd (never_long laws.fit rtu ran.fed (totals ran.made) opening now ran.sent (Err (ResponseTooLong size)) size ran.served refl)
  only_memory TurnLimit ran = absurd (few_turns (Err TurnLimit) ran ran.spends)
  only_memory InvalidLength ran = absurd ran.served.halts.0
  only_memory (InvalidProtocol protocol) ran = absurd ran.served.halts.0
  only_memory NoMemory ran = refl

  module _ (ran : Ran rtu device (2 ^ 64 - 1) (moment opening from sunk) (moment now to sinks) (Ok tt)) where
    abbrev served : Served rtu device ran.fed (totals ran.made) opening now ran.sent (remaining [])
    served = ran.served

    all_taken : served.before ≡ messages
    all_taken =
        let u = served.halts.0 in
        let q = all_fed (Ok tt) ran (ran.ended refl) in
        let (same, stop) = laws.one ran.fed u.frames q.frames u.stop (length ran.fed) u.reading q.reading in
        u.took ∙ ap (map (frame_at ran.fed)) same ∙ sym q.are

    questions : map (asks rtu) served.exchanges ≡ map question_for requests
    questions = sym served.asked ∙ ap (map (asked_of rtu)) all_taken ∙ all_back requests plain

    replies : bytes_appended sunk sinks ≡ output rtu (exchanges_made opening requests)
    replies = ran.passes.wrote refl ∙ served.wrote ∙ ap (output rtu) (run_is opening served.ends requests served.exchanges served.run questions)

    -- all replies were appended
    pub served_all : opening ≡ made_tables → sinks.bytes ≡ replies_made count
    served_all zeros = ran.passes.sink.content refl ∙ ap (λ b. b ++ bytes_appended sunk sinks) empty ∙ replies ∙ ap (λ t. output rtu (exchanges_made t requests)) zeros

    pub served_short : length sinks.bytes ≤ 256 * count
    served_short =
        let asked = same_length (asks rtu) question_for served.exchanges requests questions in
        let is : sinks.bytes ≡ output rtu served.exchanges = ran.passes.sink.content refl ∙ ap (λ b. b ++ bytes_appended sunk sinks) empty ∙ ran.passes.wrote refl ∙ served.wrote in
        omega (arith, ap length is, output_short served.exchanges served.fit, asked, count_made count)
