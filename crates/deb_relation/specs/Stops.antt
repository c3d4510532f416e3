-- How an answer of the code relates to a reading of the specification.
use Rattle.std.specs.Prelude.{◌≡◌, ℕ, List, length, codes, refl, Option, Some, None, Result, Ok, Err}
use Rattle.deb_relation.specs.declared.fault.Reason.{Reason}
use Rattle.deb_relation.specs.declared.fault.Stop.{Stop}
use Rattle.deb_relation.specs.declared.fault.Stop.TheVariants.{Bad, Memory}
use Rattle.deb_relation.specs.Reading.{Stopped}

-- The answer is that of the reading, by a view of what was read; out of memory says nothing of it.
abbrev pub Gives : {A B : Type 0} → Result A Stop → (A → B) → Result B Stopped → Type 0
Gives (Ok a) view reading = reading ≡ Ok (view a)
Gives (Err (Bad reason left)) view reading = reading ≡ Err (reason, left)
Gives (Err Memory) view reading = Unit {0}

-- a view of what was read and of the text after it, where there is a further one
abbrev pub next_of : {A B : Type 0} → (A → B) → Option A → Option B
next_of view None = None
next_of view (Some a) = Some (view a)

worked-next_of : (next_of {A = List ℕ} {B = ℕ} length None ≡ None)
    × (next_of {A = List ℕ} {B = ℕ} length (Some (codes "aa")) ≡ Some 2)
worked-next_of = (refl, refl)

-- a step that fails has the reading's reason and offset, and what was read is the reading's
stopped_whole : (A B : Type 0) (view : A → B) (reading : Result B Stopped) (reason : Reason)
    (left : ℕ) → Gives (Err (Bad reason left)) view reading → reading ≡ Err (reason, left)
stopped_whole A B view reading reason left gives = gives

given_whole : (A B : Type 0) (view : A → B) (reading : Result B Stopped) (a : A)
    → Gives (Ok a) view reading → reading ≡ Ok (view a)
given_whole A B view reading a gives = gives
