-- Reads, one after another.
use Rattle.std.proofs.Common.{◌≡◌, ℕ, zero, suc, ◌<◌, List, [], ◌∷◌, ◌++◌, length, take, get_or, slice_get, Some, Result, Ok, Err, inl, inr, refl, sym, subst, arith}
use Rattle.std.specs.Result.{IfErr, IsErrAnd}
use Rattle.modbus_client.specs.Typed.{AnswerOf}
use Rattle.modbus_poll.specs.declared.read.Read.{Read}
use Rattle.modbus_poll.specs.Words.{AreWordsOf}
use Rattle.modbus_poll.specs.declared.polling.PollError.{PollError}
use Rattle.modbus_poll.specs.declared.polling.PollError.TheVariants as poll
use Rattle.modbus_poll.specs.Polls.{ReadsEach, AnswersAt, AnswersOther, Stops, TakesAnswer}

module _ {A S : Type 0} (asks : S → Read → AnswerOf (List A) → S → Type 0) where
  -- one read more
  pub reads_more : (reads : List Read) (place : ℕ) (found : List (List A)) (old before new : S) (d : Read) (words : List A) → place < length reads
      → ReadsEach asks old (take place reads) found before → asks before (get_or reads place d) (Ok (Ok words)) new → length words ≡ (get_or reads place d).count
      → ReadsEach asks old (take (suc place) reads) (found ++ words ∷ []) new
  reads_more [] place found old before new d words less made asked count = absurd (omega arith)
  reads_more (r ∷ rs) zero [] old before new d words less made asked count = (new, subst (λ s. asks s r (Ok (Ok words)) new) made asked, count, refl)
  reads_more (r ∷ rs) zero (w ∷ ws) old before new d words less made asked count = absurd made
  reads_more (r ∷ rs) (suc place) [] old before new d words less made asked count = absurd made
  reads_more (r ∷ rs) (suc place) (w ∷ ws) old before new d words less made asked count =
      (made.0, made.1, made.2, reads_more rs place ws made.0 before new d words (omega arith) made.3 asked count)

  -- each gave as many words as it asks for
  pub words_made : (reads : List Read) (found : List (List A)) (old new : S) → ReadsEach asks old reads found new → AreWordsOf reads found
  words_made [] [] old new made = tt
  words_made [] (w ∷ ws) old new made = absurd made
  words_made (r ∷ rs) [] old new made = absurd made
  words_made (r ∷ rs) (w ∷ ws) old new made = (made.2, words_made rs ws made.0 new made.3)

  -- no memory before the first read
  pub lacks_first : (reads : List Read) (old : S) → Stops asks old reads poll.NoMemory old
  lacks_first reads old = inl refl

  -- no memory after the last one
  pub lacks_last : (reads : List Read) (found : List (List A)) (old new : S) → ReadsEach asks old reads found new → Stops asks old reads poll.NoMemory new
  lacks_last reads found old new made = inr (inl (found, made))

  -- what an answer stops
  pub stops_at : (reads : List Read) (place : ℕ) (found : List (List A)) (old before new : S) (read : Read) (answer : AnswerOf (List A)) (fault : PollError)
      → slice_get reads place ≡ Some read → ReadsEach asks old (take place reads) found before → asks before read answer new → TakesAnswer place read answer (Err fault)
      → Stops asks old reads fault new
  stops_at reads place found old before new read answer (poll.Call at fault) is made asked takes = (
    takes.2,
    subst (λ p. AnswersAt asks old reads p (Err fault) new) (sym takes.0)
        (record { found = found; before = before; earlier = made; read = read; is = is; asked = subst (λ a. asks before read a new) takes.1 asked }),
  )
  stops_at reads place found old before new read answer (poll.Exception at code) is made asked takes =
      subst (λ p. AnswersAt asks old reads p (Ok (Err code)) new) (sym takes.0)
      (record { found = found; before = before; earlier = made; read = read; is = is; asked = subst (λ a. asks before read a new) takes.1 asked })
  stops_at reads place found old before new read answer (poll.Words at count) is made asked takes =
      subst (λ p. AnswersOther asks old reads p count new) (sym takes.0)
      (record {
        words = takes.1;
        answers = record { found = found; before = before; earlier = made; read = read; is = is; asked = subst (λ a. asks before read a new) takes.2 asked };
        counted = takes.3;
        other = takes.4;
      })
  stops_at reads place found old before new read answer poll.NoMemory is made asked takes =
      inr (inr (place, record { found = found; before = before; earlier = made; read = read; is = is; asked = subst (λ a. asks before read a new) takes asked }))

  -- what stands after a result that tells this fault
  pub stops_with : {B : Type 0} (reads : List Read) (old new : S) (fault : PollError) (result : Result B PollError) → IsErrAnd result (λ told. told ≡ fault)
      → Stops asks old reads fault new → IfErr result (λ told. Stops asks old reads told new)
  stops_with reads old new fault (Ok x) told stops = tt
  stops_with reads old new fault (Err e) told stops = subst (λ e. Stops asks old reads e new) (sym told) stops

  -- as many lists of words as reads
  pub length_made : (reads : List Read) (found : List (List A)) (old new : S) → ReadsEach asks old reads found new → length found ≡ length reads
  length_made [] [] old new made = refl
  length_made [] (w ∷ ws) old new made = absurd made
  length_made (r ∷ rs) [] old new made = absurd made
  length_made (r ∷ rs) (w ∷ ws) old new made = let rest = length_made rs ws made.0 new made.3 in omega arith
