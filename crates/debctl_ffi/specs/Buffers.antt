-- What a call leaves in a buffer that a program in C lends it, and in the length beside it (this
-- project's own).
use Rattle.std.specs.Prelude.{◌≡◌, ℕ, ◌<◌, ◌≤◌, List, ◌++◌, codes, drop, length, refl}
use Rattle.std.proofs.Common.{arith}

-- a buffer before the call and after it, and the number beside it
pub record Buffer (T : Type 0) : Type 0 where
  pub before : List T
  pub after : List T
  pub len : ℕ

abbrev pub buffer : {T : Type 0} → List T → List T → ℕ → Buffer T
buffer before after len = record { before = before; after = after; len = len }

-- The buffer starts with the items and is else as it was, and their number is returned.
pub record Gives {T : Type 0} (items : List T) (into : Buffer T) : Type 0 where
  pub fits : length items ≤ length into.before
  pub is : into.after ≡ items ++ drop (length items) into.before
  pub counted : into.len ≡ length items

-- The buffer is too short for the items, and as it was; their number is returned.
pub record LacksRoom {T : Type 0} (items : List T) (into : Buffer T) : Type 0 where
  pub short : length into.before < length items
  pub kept : into.after ≡ into.before
  pub counted : into.len ≡ length items

-- The buffer is as it was, and the length is 0.
pub record GivesNothing {T : Type 0} (into : Buffer T) : Type 0 where
  pub kept : into.after ≡ into.before
  pub none : into.len ≡ 0

-- Worked cases.

given : Gives (codes "ab") (buffer (codes "xyz") (codes "abz") 2)
given = record { fits = omega arith; is = refl; counted = refl }

without_room : LacksRoom (codes "abc") (buffer (codes "xy") (codes "xy") 3)
without_room = record { short = omega arith; kept = refl; counted = refl }

nothing_given : GivesNothing (buffer (codes "xy") (codes "xy") 0)
nothing_given = record { kept = refl; none = refl }
