-- Laws of acceptance, refusals and canonical text, by the rules of a kind of document.
use Rattle.std.specs.Prelude.{◌≡◌, ◌↔◌, ℕ, List, None}
use Rattle.deb_control.specs.Rules.{Rules}
use Rattle.deb_control.specs.Refusals.{refusal_by, text_by}
use Rattle.deb_control.specs.ValueFiles.{ValueEntries, values_text}
use Rattle.deb_control.specs.Acceptance.{IsAccepted}

-- A file has no refusal exactly where it is accepted with some meaning.
abbrev pub RefusedOrAccepted : (V : Type 0) → (List ℕ → List ℕ → V → Type 0) → (V → List ℕ) → Rules
    → Type 0
RefusedOrAccepted V spells text_of rules =
    (text : List ℕ) → (refusal_by rules text ≡ None)
    ↔ ((meaning : List (ValueEntries V)) × IsAccepted V spells text_of rules text meaning)

-- A file is accepted with at most one meaning.
abbrev pub AcceptedMeansOneThing : (V : Type 0) → (List ℕ → List ℕ → V → Type 0) → (V → List ℕ)
    → Rules → Type 0
AcceptedMeansOneThing V spells text_of rules =
    (text : List ℕ) (meaning other : List (ValueEntries V))
    → IsAccepted V spells text_of rules text meaning
    → IsAccepted V spells text_of rules text other → meaning ≡ other

-- What comes of an accepted file is the canonical text of its meaning.
abbrev pub AcceptedIsWritten : (V : Type 0) → (List ℕ → List ℕ → V → Type 0) → (V → List ℕ) → Rules
    → Type 0
AcceptedIsWritten V spells text_of rules =
    (text : List ℕ) (meaning : List (ValueEntries V))
    → IsAccepted V spells text_of rules text meaning
    → text_by rules text ≡ values_text text_of meaning

-- The canonical text of an accepted meaning is accepted with that meaning, within all limits.
abbrev pub CanonicalTextIsAccepted : (V : Type 0) → (List ℕ → List ℕ → V → Type 0) → (V → List ℕ)
    → Rules → Type 0
CanonicalTextIsAccepted V spells text_of rules =
    (text : List ℕ) (meaning : List (ValueEntries V))
    → IsAccepted V spells text_of rules text meaning
    → IsAccepted V spells text_of rules (values_text text_of meaning) meaning

-- Accepted files have equal canonical text exactly where they mean the same.
abbrev pub CanonicalTextTellsAccepted : (V : Type 0) → (List ℕ → List ℕ → V → Type 0) → (V → List ℕ)
    → Rules → Type 0
CanonicalTextTellsAccepted V spells text_of rules =
    (text other : List ℕ) (meaning other_meaning : List (ValueEntries V))
    → IsAccepted V spells text_of rules text meaning
    → IsAccepted V spells text_of rules other other_meaning →
    (values_text text_of meaning ≡ values_text text_of other_meaning) ↔ (meaning ≡ other_meaning)

-- What comes of the canonical text of an accepted meaning is that text.
abbrev pub CanonicalTextIsItsOwn : (V : Type 0) → (List ℕ → List ℕ → V → Type 0) → (V → List ℕ)
    → Rules → Type 0
CanonicalTextIsItsOwn V spells text_of rules =
    (text : List ℕ) (meaning : List (ValueEntries V))
    → IsAccepted V spells text_of rules text meaning →
    (refusal_by rules (values_text text_of meaning) ≡ None)
    × (text_by rules (values_text text_of meaning) ≡ values_text text_of meaning)
