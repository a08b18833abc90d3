-- What a device on a serial line learns of its adapter, which may give back what is sent (MODBUS over Serial Line V1.02, section 3.3.2).
use Rattle.std.specs.Prelude.{◌≡◌, ◌≢◌, ◌⊎◌, ℕ, ◌≤◌, Bool, true, false, List, [], ◌++◌, length, take, Result, Ok, Err, IsErr}
use Rattle.modbus_link.specs.declared.outside.Failed.{Failed}
use Rattle.modbus_link.specs.Outside.{Input, Rose, IsFront}
use Rattle.modbus_field.specs.BurstLink.{BurstState, burst_at_start, BurstAtOnce, SilenceFirst, GivesBurst}
use Rattle.modbus_echo.specs.declared.guard.Echo.{Echo}
use Rattle.modbus_echo.specs.declared.guard.Echo.TheVariants.{Absent, Present}

-- the most bytes of a frame of RTU: of a reply so many are kept, and of what was read
abbrev pub most_kept : ℕ
most_kept = 256

-- a line of bursts, what is known of its adapter, what was written since the last read, what that gave, and whether a reply has come back
pub record GuardState (L : Type 0) : Type 0 where
  pub bursts : BurstState L
  pub echo : Echo
  pub reply : List ℕ
  pub asked : List ℕ
  pub has_come_back : Bool

-- one over a link that nothing was done to
abbrev pub guard_at_start : {L : Type 0} → L → Echo → GuardState L
guard_at_start link echo = record { bursts = burst_at_start link; echo = echo; reply = []; asked = []; has_come_back = false }

-- these stand somewhere in those
abbrev pub IsWithin : List ℕ → List ℕ → Type 0
IsWithin part whole = (before : List ℕ) × (after : List ℕ) × (whole ≡ before ++ (part ++ after))

-- something was written since the last read, and it is not known that it doesn't come back
abbrev pub IsWatched : {L : Type 0} → GuardState L → Type 0
IsWatched it = (it.echo ≢ Absent) × (it.reply ≢ [])

-- what a read leaves: the link, what is known, and whether a reply has come back
pub record Outlook (L : Type 0) : Type 0 where
  pub link : L
  pub echo : Echo
  pub has_come_back : Bool

abbrev pub outlook : {L : Type 0} → GuardState L → Outlook L
outlook it = record { link = it.bursts.link; echo = it.echo; has_come_back = it.has_come_back }

-- what is known after a silence behind a reply, or other bytes in its place: no echo, unless there is known to be one
abbrev pub doubted : Echo → Echo
doubted Present = Present
doubted _ = Absent

-- a reply may be the very bytes of its request, which a master may send once more
abbrev pub MayBeAsked : List ℕ → List ℕ → Type 0
MayBeAsked reply asked = (most_kept ≤ length asked) ⊎ IsWithin reply asked

-- what is known after a reply came back: an echo, unless it may be its request's own bytes
pub record Learns (reply asked : List ℕ) (before after : Echo) : Type 0 where
  pub own : MayBeAsked reply asked → after ≡ before
  pub other : (MayBeAsked reply asked → ⊥) → after ≡ Present

-- What is given behind so many bytes that came in front of a burst: what stands behind them in it; where nothing does, the next burst.
pub record GivesBehind {L : Type 0} (input : L → Input) (silences : L → ℕ) (at to : L) (rest given : List ℕ) (room : ℕ) (result : Result ℕ Failed) : Type 0 where
  pub behind : rest ≢ [] → (result ≡ Ok (length rest)) × (take (length rest) given ≡ rest) × (to ≡ at)
  pub next : rest ≡ [] → GivesBurst input silences at to room given result

-- A reply came back in front of a burst, and was dropped.
pub record CameBack {L : Type 0} (input : L → Input) (silences : L → ℕ) (old : GuardState L) (new : Outlook L) (room : ℕ) (given : List ℕ) (result : Result ℕ Failed) : Type 0 where
  pub at : L
  pub count : ℕ
  pub came : List ℕ
  pub rest : List ℕ
  pub burst : BurstAtOnce input silences old.bursts.link at room count came
  pub front : take count came ≡ old.reply ++ rest
  pub gives : GivesBehind input silences at new.link rest given room result
  pub learns : Learns old.reply old.asked old.echo new.echo
  pub back : new.has_come_back ≡ true

-- a silence came first, and then the burst that is given
pub record BehindSilence {L : Type 0} (input : L → Input) (silences : L → ℕ) (old : GuardState L) (new : Outlook L) (room : ℕ) (given : List ℕ) (result : Result ℕ Failed) : Type 0 where
  pub at : L
  pub silence : SilenceFirst input silences old.bursts.link at
  pub gives : GivesBurst input silences at new.link room given result
  pub echo : new.echo ≡ doubted old.echo
  pub back : new.has_come_back ≡ old.has_come_back

-- other bytes came in place of a reply, and are given
pub record InItsPlace {L : Type 0} (input : L → Input) (silences : L → ℕ) (old : GuardState L) (new : Outlook L) (room : ℕ) (given : List ℕ) (result : Result ℕ Failed) : Type 0 where
  pub count : ℕ
  pub gives : result ≡ Ok count
  pub burst : BurstAtOnce input silences old.bursts.link new.link room count given
  pub differs : IsFront old.reply (take count given) → ⊥
  pub echo : new.echo ≡ doubted old.echo
  pub back : new.has_come_back ≡ old.has_come_back

-- the link failed
pub record FailsWatching {L : Type 0} (input : L → Input) (old : GuardState L) (new : Outlook L) (result : Result ℕ Failed) : Type 0 where
  pub failed : IsErr result
  pub cause : Rose (input old.bursts.link).faults (input new.link).faults
  pub echo : new.echo ≡ old.echo
  pub back : new.has_come_back ≡ old.has_come_back

-- nothing is watched for: a burst is given
pub record GivesAny {L : Type 0} (input : L → Input) (silences : L → ℕ) (old : GuardState L) (new : Outlook L) (room : ℕ) (given : List ℕ) (result : Result ℕ Failed) : Type 0 where
  pub rests : IsWatched old → ⊥
  pub gives : GivesBurst input silences old.bursts.link new.link room given result
  pub echo : new.echo ≡ old.echo
  pub back : new.has_come_back ≡ old.has_come_back

-- one read where a reply is watched for
abbrev pub ReadsWatching : {L : Type 0} → (L → Input) → (L → ℕ) → GuardState L → Outlook L → ℕ → List ℕ → Result ℕ Failed → Type 0
ReadsWatching input silences old new room given result =
    BehindSilence input silences old new room given result ⊎ (InItsPlace input silences old new room given result
    ⊎ (CameBack input silences old new room given result ⊎ FailsWatching input old new result))

-- What one read gives. Where a reply is watched for, and its bytes come before a silence, these are dropped, and no other; else it gives a burst.
abbrev pub ReadsGuarded : {L : Type 0} → (L → Input) → (L → ℕ) → GuardState L → Outlook L → ℕ → List ℕ → Result ℕ Failed → Type 0
ReadsGuarded input silences old new room given result =
    GivesAny input silences old new room given result ⊎ (IsWatched old × ReadsWatching input silences old new room given result)

-- what is kept of a burst that was given
abbrev pub kept_of : Result ℕ Failed → List ℕ → List ℕ
kept_of (Ok count) given = take most_kept (take count given)
kept_of (Err error) given = []

-- what is watched for after a write, of which so much was taken
abbrev pub watched_after : Result ℕ Failed → List ℕ → List ℕ → List ℕ
watched_after (Ok count) reply piece = take most_kept (reply ++ take count piece)
watched_after (Err error) reply piece = reply
