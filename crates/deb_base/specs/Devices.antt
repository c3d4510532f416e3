-- What a call of a device does to its bytes and to the count of its failed calls, and what a call
-- that writes several times leaves. The rules are this project's own; the words on bytes are those
-- of std.
use Rattle.std.specs.Prelude.{◌≡◌, ℕ, ◌+◌, ◌-◌, ◌^◌, ◌<◌, ◌≤◌, ◌↔◌, min, List, [], ◌∷◌, ◌++◌, length, IfOk, IsErrOf, Result, Ok, Err, Option, MatchResult, refl}
use Rattle.std.specs.Io.KnownBytes.{Appends}
use Rattle.std.proofs.Math.Dec.{lit≤}
use Rattle.deb_base.specs.declared.code.Code.TheVariants.{NoColon}
use Rattle.deb_base.specs.declared.fault.Fault.{Fault}
use Rattle.deb_base.specs.declared.fault.Fault.TheVariants.{Refused, Memory, Read, Write}

-- what a device shows: the bytes that it has left, or holds, if they are known, and the count of
-- its failed calls
pub record Shown : Type 0 where
  pub bytes : Option (List ℕ)
  pub failures : ℕ

-- the last value of a count of failed calls
abbrev pub last_count : ℕ
last_count = 2 ^ 64 - 1

-- one failed call more, up to the last value
abbrev pub one_more : ℕ → ℕ
one_more n = min (n + 1) last_count

-- a device's count after one call of it
abbrev pub failures_after : {T E : Type 0} → ℕ → Result T E → ℕ
failures_after n (Ok _) = n
failures_after n (Err _) = one_more n

-- a read gave no more bytes than the buffer has
abbrev pub ReadsWithin : {E : Type 0} → Result ℕ E → List ℕ → Type 0
ReadsWithin r buffer = IfOk r (λ n. n ≤ length buffer)

-- a write took no more bytes than it was given, and at least one if it was given any
abbrev pub TakesSome : {E : Type 0} → Result ℕ E → List ℕ → Type 0
TakesSome r bytes = IfOk r (λ n. (n ≤ length bytes) × (0 < length bytes → 0 < n))

-- a source's count after a call that reads it and has this answer: one more exactly where that is
-- Read
abbrev pub read_failures_after : {T : Type 0} → ℕ → Result T Fault → ℕ
read_failures_after n (Ok _) = n
read_failures_after n (Err (Refused _)) = n
read_failures_after n (Err Memory) = n
read_failures_after n (Err Read) = one_more n
read_failures_after n (Err Write) = n

-- a sink's count after a call that writes to it and has this answer: one more exactly where that is
-- Write
abbrev pub write_failures_after : {T : Type 0} → ℕ → Result T Fault → ℕ
write_failures_after n (Ok _) = n
write_failures_after n (Err (Refused _)) = n
write_failures_after n (Err Memory) = n
write_failures_after n (Err Read) = n
write_failures_after n (Err Write) = one_more n

-- where the source's count is below its last value, Read is answered exactly where the count rose
abbrev pub ReadFaultIffFailed : {T : Type 0} → ℕ → ℕ → Result T Fault → Type 0
ReadFaultIffFailed old new r = old < last_count → (IsErrOf r Read ↔ (old < new))

-- where the sink's count is below its last value, Write is answered exactly where the count rose
abbrev pub WriteFaultIffFailed : {T : Type 0} → ℕ → ℕ → Result T Fault → Type 0
WriteFaultIffFailed old new r = old < last_count → (IsErrOf r Write ↔ (old < new))

-- a prefix of the bytes was written: known bytes stay, and grow by that prefix
pub record AppendsFront (old new : Option (List ℕ)) (bytes : List ℕ) : Type 0 where
  pub front : List ℕ
  pub rest : List ℕ
  pub whole : bytes ≡ front ++ rest
  pub appended : Appends old new front

-- Ok: all of the bytes were written. An error: a prefix of them was
abbrev pub Puts : {T E : Type 0} → Option (List ℕ) → Option (List ℕ) → Result T E → List ℕ → Type 0
Puts old new r bytes = MatchResult r (λ _. Appends old new bytes) (λ _. AppendsFront old new bytes)

count_rises : one_more 3 ≡ 4
count_rises = refl

count_stays_at_its_last_value : one_more last_count ≡ 18446744073709551615
count_stays_at_its_last_value = refl

-- each failed call of a device counts, whatever its error
count_of_a_call : (failures_after {T = ℕ} {E = ℕ} 3 (Ok 7) ≡ 3)
    × (failures_after {T = ℕ} {E = ℕ} 3 (Err 7) ≡ 4)
    × (failures_after {T = ℕ} {E = ℕ} last_count (Err 7) ≡ last_count)
count_of_a_call = (refl, refl, refl)

-- of the answers of a call that reads, Read alone counts
count_of_reads : (read_failures_after {T = ℕ} 3 (Err Read) ≡ 4)
    × (read_failures_after {T = ℕ} 3 (Ok 7) ≡ 3)
    × (read_failures_after {T = ℕ} 3 (Err (Refused (record { code = NoColon; line = 2 }))) ≡ 3)
    × (read_failures_after {T = ℕ} 3 (Err Memory) ≡ 3)
    × (read_failures_after {T = ℕ} 3 (Err Write) ≡ 3)
count_of_reads = (refl, refl, refl, refl, refl)

-- and of one that writes, Write alone
count_of_writes : (write_failures_after {T = ℕ} 3 (Err Write) ≡ 4)
    × (write_failures_after {T = ℕ} 3 (Ok 7) ≡ 3)
    × (write_failures_after {T = ℕ} 3 (Err (Refused (record { code = NoColon; line = 2 }))) ≡ 3)
    × (write_failures_after {T = ℕ} 3 (Err Memory) ≡ 3)
    × (write_failures_after {T = ℕ} 3 (Err Read) ≡ 3)
count_of_writes = (refl, refl, refl, refl, refl)

-- a read gives at most what the buffer holds, and a write takes at most what it was given, and some
-- of it
most_of_a_read : (n : ℕ) → ReadsWithin {E = ℕ} (Ok n) (0 ∷ 0 ∷ []) → n ≤ 2
most_of_a_read n within = within

least_of_a_write : (n : ℕ) → TakesSome {E = ℕ} (Ok n) (0 ∷ 0 ∷ []) → (n ≤ 2) × (0 < n)
least_of_a_write n takes = (takes.0, takes.1 (lit≤ tt))

-- below the last value of a count, it rose where the answer says so, and not elsewhere
risen_counts : (r : Result ℕ Fault) → (ReadFaultIffFailed 3 4 r → IsErrOf r Read)
    × (WriteFaultIffFailed 3 4 r → IsErrOf r Write)
risen_counts r = (λ tells. (tells (lit≤ tt)).1 (lit≤ tt), λ tells. (tells (lit≤ tt)).1 (lit≤ tt))

answers_of_counts : (r : Result ℕ Fault) (n : ℕ)
    → (ReadFaultIffFailed 3 n r → IsErrOf r Read → 3 < n)
    × (WriteFaultIffFailed 3 n r → IsErrOf r Write → 3 < n)
answers_of_counts r n = (
  λ tells told. (tells (lit≤ tt)).0 told,
  λ tells told. (tells (lit≤ tt)).0 told,
)
