-- What a call returns to a program in C and writes to its buffer: the contract of the calls that
-- write a text or a table (this project's own). Each adds to it which answers go with which items,
-- and which answers with nothing.
use Rattle.std.specs.Prelude.{◌≡◌, ◌⊎◌, ℕ, List, codes, refl}
use Rattle.std.proofs.Common.{arith, inl, inr}
use Rattle.debctl_ffi.specs.Answers.{plain}
use Rattle.debctl_ffi.specs.Buffers.{Buffer, Gives, GivesNothing, LacksRoom, buffer}
use Rattle.debctl_ffi.specs.declared.answer.Answer.{Answer}

-- The items are given with this answer; or there is no room for them, and the answer is 4.
abbrev pub RepliesWith : {T : Type 0} → Answer → List T → Buffer T → Answer → Type 0
RepliesWith told items into answer =
    (Gives items into × (answer ≡ told)) ⊎ (LacksRoom items into × (answer ≡ plain 4))

-- An answer with items was found.
pub record Finds {T : Type 0} (Found : Answer → List T → Type 0) (into : Buffer T)
    (answer : Answer) : Type 0 where
  pub told : Answer
  pub items : List T
  pub found : Found told items
  pub replies : RepliesWith told items into answer

-- Or nothing is given, with an answer that says why.
abbrev pub Replies : {T : Type 0} → (Answer → List T → Type 0) → (Answer → Type 0) → Buffer T
    → Answer → Type 0
Replies Found Fails into answer = Finds Found into answer ⊎ (GivesNothing into × Fails answer)

-- Memory is out.
abbrev pub IsOutOfMemory : Answer → Type 0
IsOutOfMemory answer = answer ≡ plain 5

-- Worked cases: two bytes are found for three, and three for two; and memory is out.

abbrev finds : List ℕ → Answer → List ℕ → Type 0
finds text told items = (told ≡ plain 0) × (items ≡ text)

given : Replies (finds (codes "ab")) IsOutOfMemory (buffer (codes "xyz") (codes "abz") 2) (plain 0)
given =
    inl (record {
      told = plain 0;
      items = codes "ab";
      found = (refl, refl);
      replies = inl (record { fits = omega arith; is = refl; counted = refl }, refl);
    })

without_room : Replies (finds (codes "abc")) IsOutOfMemory (buffer (codes "xy") (codes "xy") 3)
    (plain 4)
without_room =
    inl (record {
      told = plain 0;
      items = codes "abc";
      found = (refl, refl);
      replies = inr (record { short = omega arith; kept = refl; counted = refl }, refl);
    })

nothing_given : Replies (finds (codes "ab")) IsOutOfMemory (buffer (codes "xy") (codes "xy") 0)
    (plain 5)
nothing_given = inr (record { kept = refl; none = refl }, refl)
