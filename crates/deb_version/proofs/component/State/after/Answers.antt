-- Each state of the table may come after the one in whose row it is, at each byte.
use Rattle.deb_version.proofs.Common.{◌≡◌, ℕ, ◌<◌, ◌&&◌, true, nat_lt, get_or, [], IsTrue, refl, arith, and_parts}
use Rattle.std.proofs.lemmas.Bool.{ltb-true}
use Rattle.deb_version.specs.States.{leads}
use Rattle.deb_version.specs.contracts.component.State.{the_type}
use Rattle.deb_version.specs.declared.component.State.{State}
use Rattle.deb_version.specs.declared.component.State.TheVariants.{Letter, LetterZero, Number, Padded, Text, Zero}
use Rattle.deb_version.specs.declared.component.TheConstants.{KINDS, NEXT}
use Rattle.deb_version.proofs.ByteTables.{agree_at, agree_below}
use Rattle.deb_version.proofs.component.State.after.Goals as goal
use denote.Enum.Declared.{tag_of}

-- the kind of a byte, and the state in the row of another at this kind
abbrev kind : ℕ → ℕ
kind byte = get_or KINDS byte 0

abbrev next : State → ℕ → State
next state byte = get_or (get_or NEXT (tag_of the_type state) []) (kind byte) Text

rows : (state : State) → agree_below (λ b. nat_lt (kind b) 5 && leads state b (next state b)) (λ _. true) 256 ≡ true
unfolding agree_below
rows Text = refl
rows Letter = refl
rows Zero = refl
rows LetterZero = refl
rows Number = refl
rows Padded = refl

in_row : (state : State) (byte : ℕ) → byte < 256 → (kind byte < 5) × IsTrue (leads state byte (next state byte))
in_row state byte lt =
    let both = and_parts (nat_lt (kind byte) 5) (leads state byte (next state byte)) (agree_at _ _ 256 (rows state) byte lt) in
    (ltb-true (kind byte) 5 both.0, both.1)

pub bounds-byte-2 : goal.bounds-byte-2
bounds-byte-2 c = (in_row c.args.self c.args.byte (omega arith)).0

pub returns : goal.returns
returns c = (in_row c.args.self c.args.byte (omega arith)).1
