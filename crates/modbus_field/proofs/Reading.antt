-- One more burst is read.
use Rattle.std.proofs.Common.{◌≡◌, ℕ, ◌<◌, ◌≤◌, List, [], ◌∷◌, ◌++◌, length, take, drop, IsTrue, nat_eq, ◌-◌, ◌↔◌, eq-eqb, refl, sym, ap, ◌∙◌, arith, length-append, append-nil, append_assoc}
use Rattle.std.specs.Prelude.{◌==◌, true, false}
use Rattle.std.specs.List.{flat_map}
use Rattle.std.proofs.lemmas.List.{take-append-le, take_all, drop_at, drop_all, length-drop}
use Rattle.std.proofs.lemmas.Grind.{flat_map-append}
use Rattle.modbus_link.specs.Reads.{Rise, last_cut, AreCuts}
use Rattle.modbus_field.specs.Bursts.{Heard, bursts_from, frames, frames_in_message, messages, said}
use Rattle.modbus_field.specs.BurstFraming.{StandsFor, IsNextSaid, IsOneReading}
use Rattle.modbus_field.proofs.Said.{said_nothing}

rises : (total : ℕ) (cuts : List ℕ) → Rise total cuts → total ≤ last_cut total cuts
rises total [] r = omega arith
rises total (cut ∷ cuts) r = omega (arith, r.0, rises cut cuts r.1)

rise-more : (total end : ℕ) (cuts : List ℕ) → Rise total cuts → last_cut total cuts < end → Rise total (cuts ++ end ∷ [])
rise-more total end [] r less = (less, tt)
rise-more total end (cut ∷ cuts) r less = (r.0, rise-more cut end cuts r.1 less)

last-more : (total end : ℕ) (cuts : List ℕ) → last_cut total (cuts ++ end ∷ []) ≡ end
last-more total end [] = refl
last-more total end (cut ∷ cuts) = last-more cut end cuts

pub cuts-more : (bytes piece cuts : List ℕ) → AreCuts bytes cuts → 0 < length piece → AreCuts (bytes ++ piece) (cuts ++ length (bytes ++ piece) ∷ [])
cuts-more bytes piece cuts c some = record {
  rise = rise-more 0 (length (bytes ++ piece)) cuts c.rise (let all = c.all in omega (arith, all, some, length-append bytes piece));
  all = last-more 0 (length (bytes ++ piece)) cuts;
}

-- a burst stands behind those before it, whatever they are
bursts-more : (total : ℕ) (bytes piece cuts : List ℕ) → Rise total cuts → last_cut total cuts ≡ length bytes
    → bursts_from total (bytes ++ piece) (cuts ++ length (bytes ++ piece) ∷ []) ≡ bursts_from total bytes cuts ++ piece ∷ []
unfolding bursts_from
bursts-more total bytes piece [] r e =
    let all : take (length (bytes ++ piece)) (bytes ++ piece) ≡ bytes ++ piece = take_all (length (bytes ++ piece)) (bytes ++ piece) (omega arith) in
    ap (λ b. drop total b ∷ []) all ∙ ap (λ (b : List ℕ). b ∷ []) (drop_at bytes piece total (sym e))
bursts-more total bytes piece (cut ∷ cuts) r e =
    let low : cut ≤ length bytes = omega (arith, rises cut cuts r.1, e) in
    let end : ℕ = length (bytes ++ piece) in
    ap (λ b. drop total b ∷ bursts_from cut (bytes ++ piece) (cuts ++ end ∷ [])) (take-append-le cut bytes piece low)
    ∙ ap (λ (rest : List (List ℕ)). drop total (take cut bytes) ∷ rest) (bursts-more cut bytes piece cuts r.1 e)

pub messages-more : (bytes piece cuts : List ℕ) → AreCuts bytes cuts
    → messages (bytes ++ piece) (cuts ++ length (bytes ++ piece) ∷ []) ≡ messages bytes cuts ++ said piece
unfolding messages
messages-more bytes piece cuts c =
    ap (flat_map said) (bursts-more 0 bytes piece cuts c.rise c.all)
    ∙ flat_map-append said (bursts_from 0 bytes cuts) (piece ∷ [])
    ∙ ap (λ last. flat_map said (bursts_from 0 bytes cuts) ++ last) (append-nil (said piece))

pub frames-more : (bytes piece cuts : List ℕ) → AreCuts bytes cuts
    → frames (bytes ++ piece) (cuts ++ length (bytes ++ piece) ∷ []) ≡ frames bytes cuts ++ flat_map frames_in_message (said piece)
unfolding frames
frames-more bytes piece cuts c =
    ap (flat_map frames_in_message) (messages-more bytes piece cuts c) ∙ flat_map-append frames_in_message (messages bytes cuts) (said piece)

-- a line of which nothing was read
pub opened : StandsFor [] [] [] []
unfolding messages bursts_from
opened = record { are_cuts = record { rise = tt; all = refl }; next = sym said_nothing }

-- one more burst is held, where none was
pub grown : (bytes cuts piece : List ℕ) (taken : List Heard) → StandsFor bytes cuts [] taken → 0 < length piece
    → StandsFor (bytes ++ piece) (cuts ++ length (bytes ++ piece) ∷ []) piece taken
grown bytes cuts piece taken s some = record {
  are_cuts = cuts-more bytes piece cuts s.are_cuts some;
  next = messages-more bytes piece cuts s.are_cuts
      ∙ ap (λ front. front ++ said piece) (s.next ∙ ap (λ last. taken ++ last) said_nothing ∙ append-nil taken);
}

-- the first message of what is held is the next
pub taken_off : (bytes cuts held left : List ℕ) (taken : List Heard) (message : Heard) → said held ≡ message ∷ said left → StandsFor bytes cuts held taken
    → StandsFor bytes cuts left (taken ++ message ∷ []) × IsNextSaid bytes cuts taken message
taken_off bytes cuts held left taken message e s =
    let next : messages bytes cuts ≡ (taken ++ message ∷ []) ++ said left = s.next ∙ ap (λ last. taken ++ last) e ∙ sym (append_assoc taken (message ∷ []) (said left)) in
    (record { are_cuts = s.are_cuts; next = next }, record { are_cuts = s.are_cuts; later = said left; next = next })

-- where nothing is held all messages were taken
pub all_taken : (bytes cuts : List ℕ) (taken : List Heard) → StandsFor bytes cuts [] taken → taken ≡ messages bytes cuts
all_taken bytes cuts taken s = sym (s.next ∙ ap (λ last. taken ++ last) said_nothing ∙ append-nil taken)

-- where the messages are a front of some whatever the cuts, the next is the next of these
pub goes_on : (read rest cuts : List ℕ) (heard before : List Heard) (message : Heard) → IsOneReading (read ++ rest) heard → IsNextSaid read cuts before message
    → (later : List Heard) × (heard ≡ (before ++ message ∷ []) ++ later)
goes_on read rest cuts heard before message one is =
    let front = one read rest cuts refl is.are_cuts in
    (is.later ++ front.0, front.1 ∙ ap (λ some. some ++ front.0) is.next ∙ append_assoc (before ++ message ∷ []) is.later front.0)

-- nothing is held where all was taken off
pub emptied : (items now : List ℕ) (taken size : ℕ) → drop taken items ≡ now → size ≡ length items → taken ≤ length items → IsTrue (nat_eq taken size) ↔ (now ≡ [])
emptied items now taken size view e low =
    let left : length now ≡ length items - taken = ap length (sym view) ∙ length-drop taken items in (
      (λ all. let same : taken ≡ size = grind arith in sym view ∙ drop_all taken items (omega (arith, same, e))),
      (λ none. eq-eqb taken size (omega (arith, left, ap length none, low, e))),
    )

-- a front without a byte is of no byte held
pub none_held : (held burst : List ℕ) → burst ≡ held → (length burst == 0) ≡ true → held ≡ []
none_held [] burst e none = refl
none_held (byte ∷ rest) burst e none = (let size = ap length e in absurd (grind (arith, size, none)))

pub some_held : (held burst : List ℕ) → burst ≡ held → (length burst == 0) ≡ false → 0 < length burst
some_held held burst e some = grind (arith, some)
