-- What a look at the held bytes finds, in terms of all bytes that were read.
use Rattle.std.proofs.Common.{◌≡◌, ℕ, ◌+◌, ◌<◌, List, [], ◌∷◌, ◌++◌, length, take, drop, refl, ap, ◌∙◌, subst, arith}
use Rattle.std.specs.Prelude.{slice_index}
use Rattle.std.proofs.lemmas.List.{get_or-drop}
use Rattle.modbus_frame.specs.declared.fault.HeaderSeen.{HeaderSeen}
use Rattle.modbus_frame.specs.declared.fault.TransportError.TheVariants.{TooManyRetries as too_many}
use Rattle.modbus_rtu.specs.declared.verdict.Verdict.TheVariants.{Open}
use Rattle.modbus_rtu.specs.declared.search.Next.TheVariants.{Frame, Waiting, TooManyRetries}
use Rattle.modbus_rtu.specs.ResponseHead.{response_verdict}
use Rattle.modbus_rtu.specs.Next.{IsNextBy}
use Rattle.modbus_client.specs.Rtu.{slave_seen, Waits, FoundFrame, FoundCrowd}
use Rattle.modbus_client.proofs.Searching.{frame_found, crowd_found, waits_on, rest_from, place_is}

module _ (nothing_open : response_verdict [] ≡ Open) (bytes cuts earlier : List ℕ) (s : Waits bytes cuts earlier) (more old : List ℕ) (is : old ≡ earlier ++ more) (some : 0 < length more) where
  abbrev all : List ℕ
  all = bytes ++ more

  abbrev all_cuts : List ℕ
  all_cuts = cuts ++ length (bytes ++ more) ∷ []

  -- a frame is the reply
  pub looks_reply : (start n : ℕ) (header : HeaderSeen) (new : List ℕ) → IsNextBy response_verdict old (Frame start n) → header ≡ slave_seen (slice_index old start)
      → new ≡ drop (start + (n + 3)) old → FoundFrame all all_cuts new header (take n (drop (start + 1) old))
  looks_reply start n header new next from rest = record {
    offset = s.place + start;
    pdu_len = n;
    finds = frame_found nothing_open bytes cuts earlier s more some start n (subst (λ h. IsNextBy response_verdict h (Frame start n)) is next);
    from = from ∙ ap (λ l. slave_seen (slice_index l start)) (is ∙ place_is nothing_open bytes cuts earlier s more) ∙ ap slave_seen (get_or-drop s.place all start 0);
    is =
        let same : drop (start + 1) old ≡ drop (s.place + start + 1) all =
        ap (drop (start + 1)) is ∙ rest_from nothing_open bytes cuts earlier s more some (start + 1) ∙ ap (λ k. drop k all) (omega arith) in
        ap (take n) same;
    holds = rest ∙ ap (drop (start + (n + 3))) is ∙ rest_from nothing_open bytes cuts earlier s more some (start + (n + 3)) ∙ ap (λ k. drop k all) (omega arith);
  }

  pub looks_crowd : (new : List ℕ) → IsNextBy response_verdict old TooManyRetries → new ≡ drop 20 old → FoundCrowd all all_cuts new too_many
  looks_crowd new next rest = record {
    offset = s.place + 19;
    finds = crowd_found nothing_open bytes cuts earlier s more some (subst (λ h. IsNextBy response_verdict h TooManyRetries) is next);
    is = refl;
    holds = rest ∙ ap (drop 20) is ∙ rest_from nothing_open bytes cuts earlier s more some 20 ∙ ap (λ k. drop k all) (omega arith);
  }

  pub looks_on : (bad : ℕ) (new : List ℕ) → IsNextBy response_verdict old (Waiting bad) → new ≡ drop bad old → Waits all all_cuts new
  looks_on bad new next rest =
      rw (rest, is) (waits_on nothing_open bytes cuts earlier s more some bad (subst (λ h. IsNextBy response_verdict h (Waiting bad)) is next))
