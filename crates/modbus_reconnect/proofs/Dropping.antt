-- Reads that are dropped, one after another.
use Rattle.std.proofs.Common.{◌≡◌, ℕ, ◌+◌, ◌-◌, ◌<◌, ◌≤◌, List, [], ◌++◌, length, take, Option, Ok, Err, refl, sym, ap, ◌∙◌, arith, IsTrue, length-append, append-nil}
use Rattle.modbus_link.specs.declared.outside.Failed.{Failed}
use Rattle.modbus_link.specs.Outside.{Input, Rose, Advances, Gives, bytes_read, ReadIsTold}
use Rattle.modbus_link.specs.Runs.{Advances-same, Advances-both, bytes_read-none, read_more}
use Rattle.modbus_reconnect.specs.declared.settling.Unsettled.{Unsettled}
use Rattle.modbus_reconnect.specs.declared.settling.Unsettled.TheVariants.{StillSending, ReadFault, Ended}
use Rattle.modbus_reconnect.specs.Settles.{RoseBy, IsUnsettledBy, DropsNoise, SettlesAs, Settles}

-- so many silences were told, and nothing was read
pub record Hushed (told : ℕ) (from to : Input) (idle idle' : ℕ) : Type 0 where
  pub source : Advances from to
  pub read : IsTrue from.told → bytes_read from to ≡ []
  pub rose : RoseBy told idle idle'
  pub later : idle ≤ idle'

pub hushed_none : (a : Input) (idle : ℕ) → Hushed 0 a a idle idle
hushed_none a idle = record {
  source = Advances-same a;
  read = λ told. bytes_read-none a a refl;
  rose = omega arith;
  later = omega arith;
}

pub hushed_more : (told : ℕ) (a b c : Input) (i j k : ℕ) → Hushed told a b i j → Advances b c → (IsTrue b.told → bytes_read b c ≡ []) → Rose j k → j ≤ k → Hushed (told + 1) a c i k
hushed_more told a b c i j k h source read rose later = record {
  source = Advances-both a b c h.source source;
  read = read_more a b c [] [] h.source source h.read read;
  rose = let r = h.rose in omega (arith, r, rose);
  later = let l = h.later in omega (arith, l, later);
}

-- so many bytes were read and dropped
pub record Dropped (count : ℕ) (from to : Input) (idle idle' : ℕ) : Type 0 where
  pub dropped : List ℕ
  pub source : Advances from to
  pub read : IsTrue from.told → bytes_read from to ≡ dropped
  pub size : length dropped ≡ count
  pub later : idle ≤ idle'

pub dropped_none : (a : Input) (idle : ℕ) → Dropped 0 a a idle idle
dropped_none a idle = record {
  dropped = [];
  source = Advances-same a;
  read = λ told. bytes_read-none a a refl;
  size = refl;
  later = omega arith;
}

-- the line was silent for as long as is wanted
pub drops_silence : (silences most : ℕ) (a b : Input) (i j : ℕ) → Hushed silences a b i j → DropsNoise silences most a b i j (Ok 0)
drops_silence silences most a b i j h = record {
  dropped = [];
  source = h.source;
  read = h.read;
  within = omega arith;
  ends = (refl, λ none. h.rose);
  later = h.later;
}

-- bytes came
pub drops_bytes : (silences told most count : ℕ) (a b c : Input) (i j k : ℕ) (room : List ℕ) → Hushed told a b i j → Advances b c → (IsTrue b.told → bytes_read b c ≡ take count room)
    → length (take count room) ≡ count → count ≤ most → (count ≡ 0 → ⊥) → j ≤ k → DropsNoise silences most a c i k (Ok count)
drops_bytes silences told most count a b c i j k room h source read size within some later = record {
  dropped = take count room;
  source = Advances-both a b c h.source source;
  read = read_more a b c [] (take count room) h.source source h.read read;
  within = omega (arith, size, within);
  ends = (size, λ none. absurd (some none));
  later = let l = h.later in omega (arith, l, later);
}

-- nothing came, for a reason of the link
pub drops_none : (silences told most : ℕ) (a b c : Input) (i j k : ℕ) (reason : Unsettled) → Hushed told a b i j → Advances b c → (IsTrue b.told → bytes_read b c ≡ [])
    → IsUnsettledBy a c reason → j ≤ k → DropsNoise silences most a c i k (Err reason)
drops_none silences told most a b c i j k reason h source read by later = record {
  dropped = [];
  source = Advances-both a b c h.source source;
  read = read_more a b c [] [] h.source source h.read read;
  within = omega arith;
  ends = (refl, by);
  later = let l = h.later in omega (arith, l, later);
}

-- more bytes are dropped
pub dropped_more : (silences most count more : ℕ) (a b c : Input) (i j k : ℕ) → Dropped count a b i j → DropsNoise silences most b c j k (Ok more) → Dropped (count + more) a c i k
dropped_more silences most count more a b c i j k d e = record {
  dropped = d.dropped ++ e.dropped;
  source = Advances-both a b c d.source e.source;
  read = read_more a b c d.dropped e.dropped d.source e.source d.read e.read;
  size = let n = length-append d.dropped e.dropped in let x = d.size in let y = e.ends.0 in omega (arith, n, x, y);
  later = let l = d.later in let m = e.later in omega (arith, l, m);
}

-- a line that was silent is settled
pub settles_silence : (silences limit most count : ℕ) (a b c : Input) (i j k : ℕ) → Dropped count a b i j → DropsNoise silences most b c j k (Ok 0) → count < limit → Settles silences limit a c i k (Ok count)
settles_silence silences limit most count a b c i j k d e less = record {
  dropped = all.dropped;
  source = all.source;
  read = all.read;
  within = let n = all.size in omega (arith, n, less);
  ends = (let n = all.size in omega (arith, n), less, let l = d.later in let r = e.ends.1 refl in omega (arith, l, r));
  later = all.later;
}
  where
    all : Dropped (count + 0) a c i k
    all = dropped_more silences most count 0 a b c i j k d e

-- as many bytes were dropped as may be
pub settles_never : (silences limit count : ℕ) (a b : Input) (i j : ℕ) → Dropped count a b i j → count ≡ limit → Settles silences limit a b i j (Err StillSending)
settles_never silences limit count a b i j d all = record {
  dropped = d.dropped;
  source = d.source;
  read = d.read;
  within = let n = d.size in omega (arith, n, all);
  ends = let n = d.size in omega (arith, n, all);
  later = d.later;
}

unsettled_by : (silences limit : ℕ) (a b c : Input) (i k : ℕ) (dropped : List ℕ) (reason : Unsettled) → Advances a b → IsUnsettledBy b c reason → SettlesAs silences limit a c i k dropped (Err reason)
unsettled_by silences limit a b c i k dropped StillSending source by = absurd by
unsettled_by silences limit a b c i k dropped ReadFault source by = let l = source.later in omega (arith, l, by)
unsettled_by silences limit a b c i k dropped Ended source by = λ told. by (source.told ∙ told)

-- the link has a reason
pub settles_not : (silences limit most count : ℕ) (a b c : Input) (i j k : ℕ) (reason : Unsettled) → Dropped count a b i j → DropsNoise silences most b c j k (Err reason) → count ≤ limit → Settles silences limit a c i k (Err reason)
settles_not silences limit most count a b c i j k reason d e within = record {
  dropped = d.dropped;
  source = Advances-both a b c d.source e.source;
  read = λ told. read_more a b c d.dropped e.dropped d.source e.source d.read e.read told ∙ ap (λ bytes. d.dropped ++ bytes) e.ends.0 ∙ append-nil d.dropped;
  within = let n = d.size in omega (arith, n, within);
  ends = unsettled_by silences limit a b c i k d.dropped reason d.source e.ends.1;
  later = let l = d.later in let m = e.later in omega (arith, l, m);
}

none_left : (b c : Input) (before after : List ℕ) → Gives b c → ReadIsTold {E = Option Failed} b c before after (Ok 0) → c.left ≡ []
none_left b c before after gives read = sym (ap (λ bytes. bytes ++ c.left) read.bytes) ∙ sym gives.left ∙ read.ended.0 refl

-- a read that gives no byte of a source that tells its bytes found none left
pub ended_at : (a b c : Input) (before after : List ℕ) → Advances a b → Advances b c → (IsTrue b.told → ReadIsTold {E = Option Failed} b c before after (Ok 0)) → IsUnsettledBy a c Ended
ended_at a b c before after first source read told = none_left b c before after (source.content now) (read now)
  where
    now : IsTrue b.told
    now = first.told ∙ told

-- no more is dropped than may be
pub within_more : (silences limit count more : ℕ) (b c : Input) (j k : ℕ) → count ≤ limit → DropsNoise silences (limit - count) b c j k (Ok more) → count + more ≤ limit
within_more silences limit count more b c j k within d = let n = d.within in let m = d.ends.0 in omega (arith, n, m, within)
