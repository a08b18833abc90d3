-- What a port has counted and told over a run, and what was left to its units.
use Rattle.std.proofs.Common.{◌≡◌, inl, inr, ℕ, ◌==◌, Bool, true, false, cond, List, [], ◌∷◌, ◌++◌, refl, sym, subst, ap, ◌∙◌, arith}
use Rattle.std.specs.Prelude.{Option, Some, None}
use Rattle.std.specs.List.{All}
use Rattle.std.proofs.lemmas.List.Elements.{All-head, All-tail, All-nil, All-cons}
use Rattle.std.proofs.lemmas.Bool.Decides.{nat_tests}
use Rattle.modbus_frame.specs.Meaning.{Asked}
use Rattle.modbus_service.specs.Answering.{Answering}
use Rattle.modbus_service.specs.Exchange.{Exchange, Run}
use Rattle.modbus_service.specs.Outcome.{Outcome, silence}
use Rattle.modbus_service.specs.Units.{LineUnits, units_answering}
use Rattle.modbus_diagnostics.specs.declared.heard.Heard.{Heard}
use Rattle.modbus_diagnostics.specs.declared.heard.Heard.TheVariants.{Noise, Another, Broadcast, Own, Asks, Monitored, MonitoredBroadcast, MonitoredAnother}
use Rattle.modbus_diagnostics.specs.declared.query.Query.{Query}
use Rattle.modbus_diagnostics.specs.declared.query.Query.TheVariants.{Restart}
use Rattle.modbus_diagnostics.specs.Queries.{query_of}
use Rattle.modbus_diagnostics.specs.Replies.{query_reply}
use Rattle.modbus_diagnostics.specs.Heard.{heard_as, is_noise, is_unit, own, of_query, of_listener, to_all, to_another, is_passed, clears}
use Rattle.modbus_diagnostics.specs.Counters.{Note, zeros, counters_of, NoneClears, AreSinceCleared}
use Rattle.modbus_diagnostics.specs.Journal.{JournalState, journal_after, journal_with, journal_of, listens_after}
use Rattle.modbus_diagnostics.specs.Port.{PortState, Answers, port_answering, NotedRun, is_restart, exchanges_passed}
use Rattle.modbus_diagnostics.proofs.Tally.{Within, zeros_within, counted_on, counted_cleared, stepped_within, from, from_nil, from_cons, from_zeros}

-- the counters of a journal go on over what was heard
goes_on : (j : JournalState) (notes : List Note) → Within j.counters → NoneClears notes → (journal_of j notes).counters ≡ from j.counters notes
goes_on j [] within none = sym (from_nil j.counters within)
goes_on j (n ∷ notes) within none =
    let kept : clears n.heard ≡ false = All-head (λ (m : Note). clears m.heard ≡ false) n notes none in
    let is = counted_on j.counters n.heard n.end kept in
    goes_on (journal_after j n.heard n.end) notes (subst Within (sym is) (stepped_within j.counters n.heard n.end within))
    (All-tail (λ (m : Note). clears m.heard ≡ false) n notes none)
    ∙ ap (λ c. from c notes) is ∙ sym (from_cons j.counters n notes within)

from_zero : (j : JournalState) (notes : List Note) → j.counters ≡ zeros → NoneClears notes → (journal_of j notes).counters ≡ counters_of notes
from_zero j notes zero none =
    goes_on j notes (subst Within (sym zero) zeros_within) none ∙ ap (λ c. from c notes) zero ∙ from_zeros notes

journal_parts : (j : JournalState) (before after : List Note) → journal_of j (before ++ after) ≡ journal_of (journal_of j before) after
journal_parts j [] after = refl
journal_parts j (n ∷ before) after = journal_parts (journal_after j n.heard n.end) before after

counts : (j : JournalState) (notes since : List Note) → j.counters ≡ zeros → AreSinceCleared notes since
    → (journal_of j notes).counters ≡ counters_of since
counts j notes since zero (none, inl all) = ap (λ ns. (journal_of j ns).counters) (sym all) ∙ from_zero j since zero none
counts j notes since zero (none, inr (before, n, cleared, parts)) =
    let mid = journal_of j before in
    ap (λ ns. (journal_of j ns).counters) parts ∙ ap (λ (k : JournalState). k.counters) (journal_parts j before (n ∷ since))
    ∙ from_zero (journal_after mid n.heard n.end) since (counted_cleared mid.counters n.heard n.end cleared) none

-- what is for all has the address 0
to_all_or : (b : Bool) (h : Heard) (s : ℕ) → (s == 0) ≡ b → (h ≡ Broadcast → ⊥) → (listens : Bool) → cond b (to_all listens) h ≡ Broadcast → s ≡ 0
to_all_or true h s zero none listens is = grind (arith, zero, nat_tests)
to_all_or false h s other none listens is = absurd (none is)

own_no_broadcast : (listens : Bool) (query : Option Query) → cond listens (of_listener query) (of_query query) ≡ Broadcast → ⊥
own_no_broadcast true None is = cc
own_no_broadcast true (Some (Restart erases)) is = cc
own_no_broadcast true (Some _) is = cc
own_no_broadcast false None is = cc
own_no_broadcast false (Some query) is = cc

another_no_broadcast : (listens : Bool) → to_another listens ≡ Broadcast → ⊥
another_no_broadcast true is = cc
another_no_broadcast false is = cc

single_no_broadcast : (b listens : Bool) (request : Asked) → cond b (own listens request) (to_another listens) ≡ Broadcast → ⊥
single_no_broadcast true listens request is = own_no_broadcast listens (query_of request) is
single_no_broadcast false listens request is = another_no_broadcast listens is

noise_or : (b : Bool) (h : Heard) → cond b Noise h ≡ Broadcast → h ≡ Broadcast
noise_or true h is = cc
noise_or false h is = is

broadcast_to_0 : (units : List ℕ) (listens : Bool) (slave : ℕ) (request : Asked) → heard_as units listens slave request ≡ Broadcast → slave ≡ 0
broadcast_to_0 units listens slave request is =
    to_all_or (slave == 0) (cond (is_unit units slave) (own listens request) (to_another listens)) slave refl
    (single_no_broadcast (is_unit units slave) listens request) listens
    (noise_or (is_noise request) (cond (slave == 0) (to_all listens) (cond (is_unit units slave) (own listens request) (to_another listens))) is)

-- what a port that only listens does nothing with, or restarts at
abbrev is_quiet : Heard → Bool
is_quiet Noise = true
is_quiet Monitored = true
is_quiet MonitoredBroadcast = true
is_quiet MonitoredAnother = true
is_quiet (Asks (Restart erases)) = true
is_quiet _ = false

listener_quiet : (query : Option Query) → is_quiet (of_listener query) ≡ true
listener_quiet None = refl
listener_quiet (Some (Restart erases)) = refl
listener_quiet (Some _) = refl

quiet_or : (b : Bool) (h k : Heard) → is_quiet h ≡ true → is_quiet k ≡ true → is_quiet (cond b h k) ≡ true
quiet_or true h k one other = one
quiet_or false h k one other = other

listens_quiet : (units : List ℕ) (slave : ℕ) (request : Asked) → is_quiet (heard_as units true slave request) ≡ true
listens_quiet units slave request =
    quiet_or (is_noise request) Noise (cond (slave == 0) MonitoredBroadcast (cond (is_unit units slave) (of_listener (query_of request)) MonitoredAnother)) refl
    (quiet_or (slave == 0) MonitoredBroadcast (cond (is_unit units slave) (of_listener (query_of request)) MonitoredAnother) refl
    (quiet_or (is_unit units slave) (of_listener (query_of request)) MonitoredAnother (listener_quiet (query_of request)) refl))

module _ {L : Type 0} (A : Answering L) where
  quiet_silent : (j : JournalState) (h : Heard) (old new : L) (slave : ℕ) (request : Asked) (outcome : Outcome) → is_quiet h ≡ true
      → is_restart h ≡ false → Answers A j h old slave request outcome new → (outcome ≡ silence) × (new ≡ old)
  quiet_silent j Noise old new slave request outcome quiet none did = did
  quiet_silent j Monitored old new slave request outcome quiet none did = did
  quiet_silent j MonitoredBroadcast old new slave request outcome quiet none did = did
  quiet_silent j MonitoredAnother old new slave request outcome quiet none did = did
  quiet_silent j (Asks (Restart erases)) old new slave request outcome quiet none did = absurd (cc)
  quiet_silent j _ old new slave request outcome quiet none did = absurd (cc)

quiet_listens : (h : Heard) → is_quiet h ≡ true → is_restart h ≡ false → listens_after true h ≡ true
quiet_listens Noise quiet none = refl
quiet_listens Monitored quiet none = refl
quiet_listens MonitoredBroadcast quiet none = refl
quiet_listens MonitoredAnother quiet none = refl
quiet_listens (Asks (Restart erases)) quiet none = absurd (cc)
quiet_listens _ quiet none = absurd (cc)

module _ {Header S : Type 0} (slave : Header → ℕ) (A : Answering S) where
  pub runs_noted : (start last : PortState S) (xs : List (Exchange Header)) → Run slave (port_answering A) start xs last
      → (notes : List Note) × NotedRun slave A start xs notes last
  runs_noted start last [] same = ([], same)
  runs_noted start last (x ∷ xs) (next, (note, step), rest) = let more = runs_noted next last xs rest in (note ∷ more.0, (next, step, more.1))

  pub journal_is : (start last : PortState S) (xs : List (Exchange Header)) (notes : List Note) → NotedRun slave A start xs notes last
      → last.journal ≡ journal_of start.journal notes
  journal_is start last [] [] same = ap (λ p. p.journal) same
  journal_is start last [] (n ∷ notes) run = absurd run
  journal_is start last (x ∷ xs) [] run = absurd run
  journal_is start last (x ∷ xs) (n ∷ notes) (next, step, rest) = journal_is next last xs notes rest ∙ ap (λ j. journal_of j notes) step.2

  pub counts_all : (start last : PortState S) (xs : List (Exchange Header)) (notes since : List Note) → NotedRun slave A start xs notes last
      → start.journal.counters ≡ zeros → AreSinceCleared notes since → last.journal.counters ≡ counters_of since
  counts_all start last xs notes since run zero are =
      ap (λ (j : JournalState). j.counters) (journal_is start last xs notes run) ∙ counts start.journal notes since zero are

  pub tells_notes : (start last : PortState S) (xs : List (Exchange Header)) (notes : List Note) (x : Exchange Header) (query : Query) (n : Note)
      → NotedRun slave A start (xs ++ x ∷ []) (notes ++ n ∷ []) last → n.heard ≡ Asks query
      → x.outcome ≡ query_reply (journal_with (journal_of start.journal notes) (Asks query)) x.request query
  tells_notes start last [] [] x query n (next, step, rest) asks =
      (subst (λ h. Answers (units_answering A) start.journal h start.line (slave x.header) x.request x.outcome next.line) asks step.3).0
  tells_notes start last [] (m ∷ []) x query n (next, step, rest) asks = absurd rest
  tells_notes start last [] (m ∷ k ∷ notes) x query n (next, step, rest) asks = absurd rest
  tells_notes start last (y ∷ []) [] x query n (next, step, rest) asks = absurd rest
  tells_notes start last (y ∷ z ∷ xs) [] x query n (next, step, rest) asks = absurd rest
  tells_notes start last (y ∷ xs) (m ∷ notes) x query n (next, step, rest) asks =
      tells_notes next last xs notes x query n rest asks
      ∙ ap (λ j. query_reply (journal_with (journal_of j notes) (Asks query)) x.request query) step.2

  pass : (j : JournalState) (h : Heard) (x : Exchange Header) (old next last : LineUnits S) (ys : List (Exchange Header))
      → (h ≡ Broadcast → slave x.header ≡ 0) → Answers (units_answering A) j h old (slave x.header) x.request x.outcome next
      → Run slave (units_answering A) next ys last → Run slave (units_answering A) old (cond (is_passed h) (x ∷ ys) ys) last
  pass j Noise x old next last ys zero did rest = subst (λ s. Run slave (units_answering A) s ys last) did.1 rest
  pass j Monitored x old next last ys zero did rest = subst (λ s. Run slave (units_answering A) s ys last) did.1 rest
  pass j MonitoredBroadcast x old next last ys zero did rest = subst (λ s. Run slave (units_answering A) s ys last) did.1 rest
  pass j MonitoredAnother x old next last ys zero did rest = subst (λ s. Run slave (units_answering A) s ys last) did.1 rest
  pass j (Asks query) x old next last ys zero did rest = subst (λ s. Run slave (units_answering A) s ys last) did.1 rest
  pass j Broadcast x old next last ys zero did rest = (
    next,
    subst (λ k. (units_answering A).gives old k x.request x.outcome next) (sym (zero refl)) did,
    rest,
  )
  pass j Own x old next last ys zero did rest = (next, did, rest)
  pass j Another x old next last ys zero did rest = (next, did, rest)

  pub port_runs : (start last : PortState S) (xs : List (Exchange Header)) (notes : List Note) → NotedRun slave A start xs notes last
      → (last.units ≡ start.units) × Run slave (units_answering A) start.line (exchanges_passed xs notes) last.line
  port_runs start last [] [] same = (ap (λ p. p.units) same, ap (λ p. p.line) same)
  port_runs start last [] (n ∷ notes) run = absurd run
  port_runs start last (x ∷ xs) [] run = absurd run
  port_runs start last (x ∷ xs) (n ∷ notes) (next, step, rest) =
      let more = port_runs next last xs notes rest in (
        more.0 ∙ step.0,
        pass start.journal n.heard x start.line next.line last.line (exchanges_passed xs notes)
            (λ is. broadcast_to_0 start.units start.journal.listens_only (slave x.header) x.request (sym step.1 ∙ is)) step.3 more.1,
      )

  pub listens_on : (start last : PortState S) (xs : List (Exchange Header)) (notes : List Note) → NotedRun slave A start xs notes last
      → start.journal.listens_only ≡ true → All (λ n. is_restart n.heard ≡ false) notes
      → (last.journal.listens_only ≡ true) × (last.line ≡ start.line) × All (λ x. x.outcome ≡ silence) xs
  listens_on start last [] [] same listens none = (ap (λ p. p.journal.listens_only) same ∙ listens, ap (λ p. p.line) same, All-nil _)
  listens_on start last [] (n ∷ notes) run listens none = absurd run
  listens_on start last (x ∷ xs) [] run listens none = absurd run
  listens_on start last (x ∷ xs) (n ∷ notes) (next, step, rest) listens none =
      let none_here : is_restart n.heard ≡ false = All-head (λ (m : Note). is_restart m.heard ≡ false) n notes none in
      let none_after = All-tail (λ (m : Note). is_restart m.heard ≡ false) n notes none in
      let heard = step.1 ∙ ap (λ l. heard_as start.units l (slave x.header) x.request) listens in
      let quiet : is_quiet n.heard ≡ true = ap is_quiet heard ∙ listens_quiet start.units (slave x.header) x.request in
      let did = quiet_silent (units_answering A) start.journal n.heard start.line next.line (slave x.header) x.request x.outcome quiet none_here step.3 in
      let on : next.journal.listens_only ≡ true =
      ap (λ (j : JournalState). j.listens_only) step.2 ∙ ap (λ l. listens_after l n.heard) listens ∙ quiet_listens n.heard quiet none_here in
      let more = listens_on next last xs notes rest on none_after in
      (more.0, more.1 ∙ did.1, All-cons (λ (y : Exchange Header). y.outcome ≡ silence) x xs did.0 more.2)
