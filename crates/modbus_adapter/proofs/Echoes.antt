-- The parts of an echo, one after another.
use Rattle.std.proofs.Common.{◌≡◌, ◌≢◌, ◌⊎◌, inl, inr, ℕ, ◌≤◌, List, [], ◌++◌, length, take, Option, Result, Ok, Err, OnErr, IsTrue, refl, sym, ap, ◌∙◌, arith, append-nil, append_assoc}
use Rattle.std.proofs.lemmas.List.{append_cancel_left, length-take-le}
use Rattle.modbus_link.specs.declared.outside.Failed.{Failed}
use Rattle.modbus_link.specs.declared.polled.Polled.{Polled}
use Rattle.modbus_link.specs.declared.polled.Polled.TheVariants.{Ready, Pending}
use Rattle.modbus_link.specs.Outside.{Input, Rose, Advances, Gives, IsFront, bytes_read, front_of, ReadIsTold}
use Rattle.modbus_link.specs.Polled.{at_once}
use Rattle.modbus_link.specs.Runs.{Advances-same, Advances-both, bytes_read-none, read_more}
use Rattle.modbus_adapter.specs.declared.echo.NoEcho.{NoEcho}
use Rattle.modbus_adapter.specs.declared.echo.NoEcho.TheVariants.{Silence, End, Fault, Collision}
use Rattle.modbus_adapter.specs.Echo.{collision_room, LeavesEcho, DropsEcho, GivesBehindEcho}
use Rattle.modbus_adapter.specs.Taking.{came_by, IsWhy, BringsEcho, TakesEchoOff}

-- nothing of an echo came
pub drops_none : (a b : Input) (owed : List ℕ) → Advances a b → (IsTrue a.told → bytes_read a b ≡ []) → DropsEcho a b owed owed []
drops_none a b owed source read = record {
  dropped = [];
  source = source;
  read = read;
  leaves = record { echo = λ none. refl; collision = λ some. absurd (some refl) };
}

pub drops_same : (a : Input) (owed : List ℕ) → DropsEcho a a owed owed []
drops_same a owed = drops_none a a owed (Advances-same a) (λ told. bytes_read-none a a refl)

-- the next bytes of an echo came
pub drops_front : (a b : Input) (owed left came : List ℕ) → Advances a b → (IsTrue a.told → bytes_read a b ≡ came) → owed ≡ came ++ left → DropsEcho a b owed left []
drops_front a b owed left came source read e = record {
  dropped = came;
  source = source;
  read = λ told. read told ∙ sym (append-nil came);
  leaves = record { echo = λ none. e; collision = λ some. absurd (some refl) };
}

-- others came in place of them
pub drops_stray : (a b : Input) (owed left came : List ℕ) → Advances a b → (IsTrue a.told → bytes_read a b ≡ came) → (IsFront came owed → ⊥) → left ≡ [] → came ≢ [] → DropsEcho a b owed left came
drops_stray a b owed left came source read differs none some = record {
  dropped = [];
  source = source;
  read = read;
  leaves = record { echo = λ nothing. absurd (some nothing); collision = λ more. (record { front = (owed, refl); differs = differs }, none) };
}

leaves_more : (owed mid left first second came : List ℕ) → owed ≡ first ++ mid → LeavesEcho mid second came left → LeavesEcho owed (first ++ second) came left
leaves_more owed mid left first second came e l = record {
  echo = λ none. e ∙ ap (λ rest. first ++ rest) (l.echo none) ∙ sym (append_assoc first second left);
  collision = λ some.
      let c = l.collision some in
      let f = c.0.front in (
        record {
          front = (f.0, e ∙ ap (λ rest. first ++ rest) f.1 ∙ sym (append_assoc first second f.0));
          differs = λ front. c.0.differs (
            front.0,
            append_cancel_left first mid ((second ++ came) ++ front.0)
                (sym e ∙ front.1 ∙ ap (λ xs. xs ++ front.0) (append_assoc first second came) ∙ append_assoc first (second ++ came) front.0),
          );
        },
        c.1,
      );
}

-- one part of an echo after another
pub drops_more : (a b c : Input) (owed mid left came : List ℕ) → DropsEcho a b owed mid [] → DropsEcho b c mid left came → DropsEcho a c owed left came
drops_more a b c owed mid left came p q = record {
  dropped = p.dropped ++ q.dropped;
  source = Advances-both a b c p.source q.source;
  read = λ told. read_more a b c p.dropped (q.dropped ++ came) p.source q.source (λ t. p.read t ∙ append-nil p.dropped) q.read told ∙ sym (append_assoc p.dropped q.dropped came);
  leaves = leaves_more owed mid left p.dropped q.dropped came (p.leaves.echo refl) q.leaves;
}

why_more : (a b c : Input) (room : List ℕ) (why : NoEcho) → Advances a b → IsWhy b c room (Err why) → IsWhy a c room (Err why)
why_more a b c room Silence source why = tt
why_more a b c room End source why = λ told. why (source.told ∙ told)
why_more a b c room Fault source why = omega (arith, source.later, why)
why_more a b c room (Collision count) source why = why

pub takes_not : (a b c : Input) (owed mid left room : List ℕ) (why : NoEcho) → DropsEcho a b owed mid [] → BringsEcho b c mid left room (Err why) → TakesEchoOff a c owed left room (Err why)
takes_not a b c owed mid left room why p q = record {
  drops = drops_more a b c owed mid left (came_by (Err why) room) p q.drops;
  why = why_more a b c room why p.source q.why;
  all = tt;
}

none_left : (b c : Input) (before after : List ℕ) → Gives b c → ReadIsTold {E = Option Failed} b c before after (Ok 0) → c.left ≡ []
none_left b c before after gives read = sym (ap (λ bytes. bytes ++ c.left) read.bytes) ∙ sym gives.left ∙ read.ended.0 refl

-- a read that gives no byte of a link that tells its bytes found none left
pub ended_at : (b c : Input) (before after : List ℕ) → Advances b c → (IsTrue b.told → ReadIsTold {E = Option Failed} b c before after (Ok 0)) → IsTrue b.told → c.left ≡ []
ended_at b c before after source read told = none_left b c before after (source.content told) (read told)

pub ended_by : (b c : Input) (before after : List ℕ) (result : Result (Polled ℕ) Failed) → Advances b c → (IsTrue b.told → ReadIsTold b c before after (at_once result))
    → result ≡ Ok (Ready 0) → IsTrue b.told → c.left ≡ []
ended_by b c before after result source read e told = ended_at b c before after source (rw e at read) told

-- no byte came, and one did
abbrev Stray : Type 0
Stray = let none : List ℕ = [] in none ≢ []

fails_of : (P Q : Type 0) (result : Result (Polled ℕ) Failed) → (P → Q) → OnErr result P → OnErr result Q
fails_of P Q (Ok told) f h = tt
fails_of P Q (Err error) f h = f h

-- a read behind the whole echo
pub gives_behind : (a b c : Input) (owed left given : List ℕ) (result : Result (Polled ℕ) Failed) (collision : List ℕ) → DropsEcho a b owed left [] → left ≡ []
    → Advances b c → (IsTrue b.told → bytes_read b c ≡ front_of (at_once result) given) → OnErr result (Rose b.faults c.faults)
    → (result ≡ Ok (Ready 0) → IsTrue b.told → c.left ≡ []) → collision ≡ [] → GivesBehindEcho a c owed left given result collision
gives_behind a b c owed left given result collision p off source read cause ended none = record {
  dropped = p.dropped;
  came = [];
  source = Advances-both a b c p.source source;
  read = read_more a b c p.dropped (front_of (at_once result) given) p.source source (λ t. p.read t ∙ append-nil p.dropped) read;
  leaves = p.leaves;
  behind = λ some. off;
  told = none;
  stray = λ some. absurd (some refl);
  fails = fails_of (Rose b.faults c.faults) (Stray ⊎ Rose a.faults c.faults) result (λ rose. inr (let l = p.source.later in omega (arith, l, rose))) cause;
  ended = λ e told. ended e (p.source.told ∙ told);
}

-- a read that gave nothing: the echo is still owed
pub gives_silence : (a b : Input) (owed left given collision : List ℕ) → DropsEcho a b owed left [] → collision ≡ [] → GivesBehindEcho a b owed left given (Ok Pending) collision
gives_silence a b owed left given collision p none = record {
  dropped = p.dropped;
  came = [];
  source = p.source;
  read = p.read;
  leaves = p.leaves;
  behind = λ some. absurd (some refl);
  told = none;
  stray = λ some. absurd (some refl);
  fails = tt;
  ended = λ e. cc;
}

pub gives_end : (a b : Input) (owed left given collision : List ℕ) → DropsEcho a b owed left [] → (IsTrue a.told → b.left ≡ []) → collision ≡ [] → GivesBehindEcho a b owed left given (Ok (Ready 0)) collision
gives_end a b owed left given collision p ended none = record {
  dropped = p.dropped;
  came = [];
  source = p.source;
  read = p.read;
  leaves = p.leaves;
  behind = λ some. absurd (some refl);
  told = none;
  stray = λ some. absurd (some refl);
  fails = tt;
  ended = λ e. ended;
}

pub gives_fault : (a b : Input) (owed left given collision : List ℕ) (failed : Failed) → DropsEcho a b owed left [] → Rose a.faults b.faults → collision ≡ [] → GivesBehindEcho a b owed left given (Err failed) collision
gives_fault a b owed left given collision failed p rose none = record {
  dropped = p.dropped;
  came = [];
  source = p.source;
  read = p.read;
  leaves = p.leaves;
  behind = λ some. absurd (some refl);
  told = none;
  stray = λ some. refl;
  fails = inr rose;
  ended = λ e. cc;
}

pub gives_collision : (a b : Input) (owed left given came collision : List ℕ) (failed : Failed) → DropsEcho a b owed left came → came ≢ [] → collision ≡ take collision_room came
    → GivesBehindEcho a b owed left given (Err failed) collision
gives_collision a b owed left given came collision failed p some kept = record {
  dropped = p.dropped;
  came = came;
  source = p.source;
  read = λ told. p.read told ∙ ap (λ xs. p.dropped ++ xs) (sym (append-nil came));
  leaves = p.leaves;
  behind = λ more. absurd (more refl);
  told = kept;
  stray = λ more. refl;
  fails = inl some;
  ended = λ e. cc;
}

-- some of the bytes of a room
pub some_of : (count : ℕ) (room : List ℕ) → count ≤ length room → (count ≡ 0 → ⊥) → take count room ≢ []
some_of count room le some none = some (sym (length-take-le count room le) ∙ ap length none)
