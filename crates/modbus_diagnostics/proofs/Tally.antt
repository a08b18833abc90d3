-- Counters that go on over what was heard.
use Rattle.std.proofs.Common.{◌≡◌, ℕ, ◌+◌, ◌≤◌, true, false, Bool, cond, List, [], ◌∷◌, length, refl, ap, arith}
use Rattle.std.specs.Prelude.{min, filter, not}
use Rattle.modbus_diagnostics.specs.declared.counters.Counters.{Counters}
use Rattle.modbus_diagnostics.specs.declared.counters.Ended.{Ended}
use Rattle.modbus_diagnostics.specs.declared.heard.Heard.{Heard}
use Rattle.modbus_diagnostics.specs.Heard.{is_message, is_own, clears}
use Rattle.modbus_diagnostics.specs.Counters.{Note, greatest_count, negative_acknowledge, busy as busy_code, next_if, zeros, is_refused, is_refused_by, is_unanswered, is_event, counters_after, tally, counters_of}

-- a counter that goes on from a number
pub on : {A : Type 0} → ℕ → (A → Bool) → List A → ℕ
on k is xs = min (k + length (filter is xs)) greatest_count

one_more : {A : Type 0} (m : ℕ) (b : Bool) (k : ℕ) (x : A) (ys : List A) → k ≤ m
    → min (k + length (cond b (x ∷ ys) ys)) m ≡ min (cond b (min (k + 1) m) k + length ys) m
one_more m true k x ys within = omega arith
one_more m false k x ys within = refl

on_cons : {A : Type 0} (k : ℕ) (is : A → Bool) (x : A) (xs : List A) → k ≤ greatest_count → on k is (x ∷ xs) ≡ on (next_if (is x) k) is xs
unfolding on
on_cons k is x xs within = one_more greatest_count (is x) k x (filter is xs) within

on_nil : {A : Type 0} (k : ℕ) (is : A → Bool) → k ≤ greatest_count → on k is [] ≡ k
unfolding on
on_nil k is within = omega arith

on_zero : (is : Note → Bool) (xs : List Note) → on 0 is xs ≡ tally is xs
unfolding on
on_zero is xs = omega arith

next_within : (m : ℕ) (b : Bool) (k : ℕ) → k ≤ m → cond b (min (k + 1) m) k ≤ m
next_within m true k within = omega arith
next_within m false k within = within

-- counters that are numbers of two bytes
pub record Within (c : Counters) : Type 0 where
  pub bus_messages : c.bus_messages ≤ greatest_count
  pub checksum_errors : c.checksum_errors ≤ greatest_count
  pub exceptions : c.exceptions ≤ greatest_count
  pub own_messages : c.own_messages ≤ greatest_count
  pub no_responses : c.no_responses ≤ greatest_count
  pub negative_acknowledges : c.negative_acknowledges ≤ greatest_count
  pub busy : c.busy ≤ greatest_count
  pub events : c.events ≤ greatest_count

pub zeros_within : Within zeros
zeros_within = record {
  bus_messages = omega arith;
  checksum_errors = omega arith;
  exceptions = omega arith;
  own_messages = omega arith;
  no_responses = omega arith;
  negative_acknowledges = omega arith;
  busy = omega arith;
  events = omega arith;
}

-- the counters where nothing is cleared
abbrev pub stepped : Counters → Heard → Ended → Counters
stepped c h end = record {
  bus_messages = next_if (is_message h) c.bus_messages;
  checksum_errors = next_if (not (is_message h)) c.checksum_errors;
  exceptions = next_if (is_refused h end) c.exceptions;
  own_messages = next_if (is_own h) c.own_messages;
  no_responses = next_if (is_unanswered h end) c.no_responses;
  negative_acknowledges = next_if (is_refused_by negative_acknowledge h end) c.negative_acknowledges;
  busy = next_if (is_refused_by busy_code h end) c.busy;
  events = next_if (is_event h end) c.events;
}

pub counted_on : (c : Counters) (h : Heard) (end : Ended) → clears h ≡ false → counters_after c h end ≡ stepped c h end
counted_on c h end kept = ap (λ b. cond b zeros (stepped c h end)) kept

pub counted_cleared : (c : Counters) (h : Heard) (end : Ended) → clears h ≡ true → counters_after c h end ≡ zeros
counted_cleared c h end cleared = ap (λ b. cond b zeros (stepped c h end)) cleared

pub stepped_within : (c : Counters) (h : Heard) (end : Ended) → Within c → Within (stepped c h end)
stepped_within c h end within = record {
  bus_messages = next_within greatest_count (is_message h) c.bus_messages within.bus_messages;
  checksum_errors = next_within greatest_count (not (is_message h)) c.checksum_errors within.checksum_errors;
  exceptions = next_within greatest_count (is_refused h end) c.exceptions within.exceptions;
  own_messages = next_within greatest_count (is_own h) c.own_messages within.own_messages;
  no_responses = next_within greatest_count (is_unanswered h end) c.no_responses within.no_responses;
  negative_acknowledges = next_within greatest_count (is_refused_by negative_acknowledge h end) c.negative_acknowledges within.negative_acknowledges;
  busy = next_within greatest_count (is_refused_by busy_code h end) c.busy within.busy;
  events = next_within greatest_count (is_event h end) c.events within.events;
}

abbrev made : ℕ → ℕ → ℕ → ℕ → ℕ → ℕ → ℕ → ℕ → Counters
made a b d e f g i j = record { bus_messages = a; checksum_errors = b; exceptions = d; own_messages = e; no_responses = f; negative_acknowledges = g; busy = i; events = j }

made_of : (a a2 b b2 d d2 e e2 f f2 g g2 i i2 j j2 : ℕ) → a ≡ a2 → b ≡ b2 → d ≡ d2 → e ≡ e2 → f ≡ f2 → g ≡ g2 → i ≡ i2 → j ≡ j2
    → made a b d e f g i j ≡ made a2 b2 d2 e2 f2 g2 i2 j2
made_of a a2 b b2 d d2 e e2 f f2 g g2 i i2 j j2 p q r s t u v w = cc

-- counters that go on over what was heard
pub from : Counters → List Note → Counters
from c xs = record {
  bus_messages = on c.bus_messages (λ (n : Note). is_message n.heard) xs;
  checksum_errors = on c.checksum_errors (λ (n : Note). not (is_message n.heard)) xs;
  exceptions = on c.exceptions (λ (n : Note). is_refused n.heard n.end) xs;
  own_messages = on c.own_messages (λ (n : Note). is_own n.heard) xs;
  no_responses = on c.no_responses (λ (n : Note). is_unanswered n.heard n.end) xs;
  negative_acknowledges = on c.negative_acknowledges (λ (n : Note). is_refused_by negative_acknowledge n.heard n.end) xs;
  busy = on c.busy (λ (n : Note). is_refused_by busy_code n.heard n.end) xs;
  events = on c.events (λ (n : Note). is_event n.heard n.end) xs;
}

pub from_nil : (c : Counters) → Within c → from c [] ≡ c
unfolding from
from_nil c within =
    made_of _ c.bus_messages _ c.checksum_errors _ c.exceptions _ c.own_messages _ c.no_responses _ c.negative_acknowledges _ c.busy _ c.events
    (on_nil c.bus_messages (λ (n : Note). is_message n.heard) within.bus_messages)
    (on_nil c.checksum_errors (λ (n : Note). not (is_message n.heard)) within.checksum_errors)
    (on_nil c.exceptions (λ (n : Note). is_refused n.heard n.end) within.exceptions)
    (on_nil c.own_messages (λ (n : Note). is_own n.heard) within.own_messages)
    (on_nil c.no_responses (λ (n : Note). is_unanswered n.heard n.end) within.no_responses)
    (on_nil c.negative_acknowledges (λ (n : Note). is_refused_by negative_acknowledge n.heard n.end) within.negative_acknowledges)
    (on_nil c.busy (λ (n : Note). is_refused_by busy_code n.heard n.end) within.busy)
    (on_nil c.events (λ (n : Note). is_event n.heard n.end) within.events)

pub from_cons : (c : Counters) (x : Note) (xs : List Note) → Within c → from c (x ∷ xs) ≡ from (stepped c x.heard x.end) xs
unfolding from
from_cons c x xs within =
    made_of _ _ _ _ _ _ _ _ _ _ _ _ _ _ _ _
    (on_cons c.bus_messages (λ (n : Note). is_message n.heard) x xs within.bus_messages)
    (on_cons c.checksum_errors (λ (n : Note). not (is_message n.heard)) x xs within.checksum_errors)
    (on_cons c.exceptions (λ (n : Note). is_refused n.heard n.end) x xs within.exceptions)
    (on_cons c.own_messages (λ (n : Note). is_own n.heard) x xs within.own_messages)
    (on_cons c.no_responses (λ (n : Note). is_unanswered n.heard n.end) x xs within.no_responses)
    (on_cons c.negative_acknowledges (λ (n : Note). is_refused_by negative_acknowledge n.heard n.end) x xs within.negative_acknowledges)
    (on_cons c.busy (λ (n : Note). is_refused_by busy_code n.heard n.end) x xs within.busy)
    (on_cons c.events (λ (n : Note). is_event n.heard n.end) x xs within.events)

pub from_zeros : (xs : List Note) → from zeros xs ≡ counters_of xs
unfolding from
from_zeros xs =
    made_of _ _ _ _ _ _ _ _ _ _ _ _ _ _ _ _
    (on_zero (λ (n : Note). is_message n.heard) xs)
    (on_zero (λ (n : Note). not (is_message n.heard)) xs)
    (on_zero (λ (n : Note). is_refused n.heard n.end) xs)
    (on_zero (λ (n : Note). is_own n.heard) xs)
    (on_zero (λ (n : Note). is_unanswered n.heard n.end) xs)
    (on_zero (λ (n : Note). is_refused_by negative_acknowledge n.heard n.end) xs)
    (on_zero (λ (n : Note). is_refused_by busy_code n.heard n.end) xs)
    (on_zero (λ (n : Note). is_event n.heard n.end) xs)
