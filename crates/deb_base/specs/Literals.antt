-- Values of std that are written out, for worked cases of what values of the code represent.
use Rattle.std.specs.Prelude.{◌≡◌, ◌^◌, nat_lt, true, List, length, Vec, Box, refl, ℕ, String}
use Rattle.std.specs.declared.alloc.Global.{Global}
use Rattle.std.proofs.Common.{arith}
use Rattle.std.proofs.lemmas.Bool.{ltb-true}
use denote.RawPtr.{null_ptr}
use denote.Ref.{Bor}
use Rattle.std.specs.Str.{is_utf8}
use Rattle.std.proofs.lemmas.Str.{IsUtf8-from_is_utf8}

abbrev pub global : Global
global = record { memory = record { seal = tt } }

-- a reference
abbrev pub lent : {X : Type 0} → X → Bor X
lent x = record { ref_ptr = (0, 0); now = x }

-- a vector that has room for what it holds
abbrev pub vector : {X : Type 0} (xs : List X) → nat_lt (length xs) (2 ^ 63) ≡ true → Vec X Global
vector xs short =
    record {
      ptr = null_ptr;
      len = length xs;
      cap = length xs;
      alloc = global;
      items = xs;
      ok = (refl, omega arith);
      small = ltb-true (length xs) (2 ^ 63) short;
    }

abbrev pub boxed : {X : Type 0} → X → Box X Global
boxed x = record { ptr = null_ptr; alloc = global; value = x }

abbrev pub string : (text : List ℕ) → nat_lt (length text) (2 ^ 63) ≡ true → is_utf8 text ≡ true
    → String Global
string text short utf8 =
    record { bytes = vector text short; ok = ∣ IsUtf8-from_is_utf8 text utf8 ∣₁ }
