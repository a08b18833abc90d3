-- Reads of a table, one after another.
use Rattle.std.proofs.Common.{◌≡◌, ℕ, Bool, zero, suc, ◌<◌, List, [], ◌∷◌, ◌++◌, length, take, get_or, slice_get, Some, Result, Ok, Err, map, inl, inr, refl, sym, subst, arith}
use Rattle.std.specs.Result.{IfErr, IsErrAnd}
use Rattle.modbus_client.specs.Typed.{AnswerOf, answer_map}
use Rattle.modbus_poll.specs.declared.read.Read.{Read}
use Rattle.modbus_poll.specs.declared.polling.PollError.{PollError}
use Rattle.modbus_poll.specs.declared.polling.PollError.TheVariants as poll
use Rattle.modbus_map.specs.declared.given.Given.{Given}
use Rattle.modbus_map.specs.Asking.{Asking, word_of, TakesGiven, IsLost, Loses, Gives, ReadsOne, ReadsAll, StopsAt, Stops}

lost_words : (states : AnswerOf (List Bool)) → IsLost states → IsLost (answer_map (map word_of) states)
lost_words (Err fault) lost = lost
lost_words (Ok (Err code)) lost = absurd lost
lost_words (Ok (Ok found)) lost = tt

module _ {S : Type 0} (asks : Asking S) where
  -- there was no memory for the words of bits
  pub loses_bits : {B E : Type 0} (old new : S) (read : Read) (states : AnswerOf (List Bool)) (result : Result B E) → asks old read (answer_map (map word_of) states) new
      → IfErr result (λ error. IsLost states) → IfErr result (λ error. Loses asks old read new)
  loses_bits old new read states (Ok x) asked lost = tt
  loses_bits old new read states (Err e) asked lost = record { answer = answer_map (map word_of) states; asked = asked; lost = lost_words states lost }

  -- one read, by its answer
  pub reads_one : (old new : S) (place : ℕ) (read : Read) (answer : AnswerOf (List ℕ)) (result : Result Given PollError) → asks old read answer new
      → TakesGiven place read answer result → ReadsOne asks old place read result new
  reads_one old new place read answer (Ok given) asked takes =
      record { of_read = takes.0; asked = subst (λ a. asks old read a new) takes.1 asked; counted = takes.2 }
  reads_one old new place read answer (Err (poll.Call at fault)) asked takes = (takes.0, takes.1, subst (λ a. asks old read a new) takes.2 asked)
  reads_one old new place read answer (Err (poll.Exception at code)) asked takes = absurd takes
  reads_one old new place read answer (Err (poll.Words at count)) asked takes =
      (takes.0, takes.1, subst (λ a. asks old read a new) takes.2 asked, takes.3, takes.4)
  reads_one old new place read answer (Err poll.NoMemory) asked takes =
      record { answer = answer; asked = asked; lost = subst (λ (a : AnswerOf (List ℕ)). IsLost a) (sym takes) refl }

  -- one read more
  pub reads_more : (reads : List Read) (place : ℕ) (found : List Given) (old before new : S) (d : Read) (given : Given) → place < length reads
      → ReadsAll asks old (take place reads) found before → Gives asks before (get_or reads place d) given new → ReadsAll asks old (take (suc place) reads) (found ++ given ∷ []) new
  reads_more [] place found old before new d given less made gives = absurd (omega arith)
  reads_more (r ∷ rs) zero [] old before new d given less made gives = (new, subst (λ s. Gives asks s r given new) made gives, refl)
  reads_more (r ∷ rs) zero (g ∷ gs) old before new d given less made gives = absurd made
  reads_more (r ∷ rs) (suc place) [] old before new d given less made gives = absurd made
  reads_more (r ∷ rs) (suc place) (g ∷ gs) old before new d given less made gives =
      (made.0, made.1, reads_more rs place gs made.0 before new d given (omega arith) made.2 gives)

  -- as many answers as reads
  pub length_read : (reads : List Read) (found : List Given) (old new : S) → ReadsAll asks old reads found new → length found ≡ length reads
  length_read [] [] old new made = refl
  length_read [] (g ∷ gs) old new made = absurd made
  length_read (r ∷ rs) [] old new made = absurd made
  length_read (r ∷ rs) (g ∷ gs) old new made = let rest = length_read rs gs made.0 new made.2 in omega arith

  -- a read that failed ends them
  pub stops_one : (reads : List Read) (place : ℕ) (found : List Given) (old before new : S) (read : Read) (error : PollError)
      → slice_get reads place ≡ Some read → ReadsAll asks old (take place reads) found before → ReadsOne asks before place read (Err error) new → Stops asks old reads error new
  stops_one reads place found old before new read (poll.Call at fault) is made failed =
      record { place = place; found = found; before = before; earlier = made; read = read; is = is; failed = failed }
  stops_one reads place found old before new read (poll.Exception at code) is made failed =
      record { place = place; found = found; before = before; earlier = made; read = read; is = is; failed = failed }
  stops_one reads place found old before new read (poll.Words at count) is made failed =
      record { place = place; found = found; before = before; earlier = made; read = read; is = is; failed = failed }
  stops_one reads place found old before new read poll.NoMemory is made failed =
      inr (record { place = place; found = found; before = before; earlier = made; read = read; is = is; failed = failed })

  -- what stands after a result that tells this error
  pub stops_with : {B : Type 0} (reads : List Read) (old new : S) (error : PollError) (result : Result B PollError) → IsErrAnd result (λ told. told ≡ error)
      → Stops asks old reads error new → IfErr result (λ told. Stops asks old reads told new)
  stops_with reads old new error (Ok x) told stops = tt
  stops_with reads old new error (Err e) told stops = subst (λ e. Stops asks old reads e new) (sym told) stops
