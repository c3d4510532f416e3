-- What the call that compares two files answers (Debian Policy 5.1; the canonical text is this
-- project's own).
use Rattle.std.specs.Prelude.{◌≡◌, ◌↔◌, ℕ, Bool, true, false, IsTrue, List, None, Some, refl}
use Rattle.std.proofs.lemmas.Bool.{false≢true}
use Rattle.deb_base.specs.declared.refusal.Refusal.{Refusal}
use Rattle.deb_base.specs.declared.doc.Doc.{Doc}
use Rattle.deb_control.specs.Documents.{rules_of, Meaning, Accepted, canonical_text, refusal_of, out_of}
use Rattle.deb_control.specs.Refusals.{outcome}

-- Both files are accepted, and this is whether they mean the same, which is whether their canonical
-- texts are equal.
pub record AnswersSame (doc : Doc) (text other : List ℕ) (same : Bool) : Type 0 where
  pub meaning : Meaning
  pub other_meaning : Meaning
  pub accepted : Accepted doc text meaning
  pub other_accepted : Accepted doc other other_meaning
  pub means : IsTrue same ↔ (meaning ≡ other_meaning)
  pub canonical : IsTrue same ↔ (canonical_text meaning ≡ canonical_text other_meaning)

-- The first file is accepted with some meaning, and the second is refused so.
pub record RefusesSecond (doc : Doc) (text other : List ℕ) (refusal : Refusal) : Type 0 where
  pub meaning : Meaning
  pub accepted : Accepted doc text meaning
  pub refused : refusal_of doc other ≡ Some refusal

-- No file is refused, and what is written of them is equal.
pub record AreEqual (doc : Doc) (text other : List ℕ) : Type 0 where
  pub passes : refusal_of doc text ≡ None
  pub other_passes : refusal_of doc other ≡ None
  pub written : out_of doc text ≡ out_of doc other

-- The paragraphs of the files that pass aren't the same.
abbrev pub AreApart : Doc → List ℕ → List ℕ → Type 0
AreApart doc text other =
    (outcome (rules_of doc) text).passed ≡ (outcome (rules_of doc) other).passed → ⊥

-- whether the paragraphs of two files agree, as far as they were read
abbrev pub Agrees : Doc → List ℕ → List ℕ → Bool → Type 0
Agrees doc text other true = AreEqual doc text other
Agrees doc text other false = AreApart doc text other

-- Where two files are the same, their meanings and canonical texts are equal; where they aren't,
-- neither are.
same_files : (doc : Doc) (text other : List ℕ) (tells : AnswersSame doc text other true)
    → (tells.meaning ≡ tells.other_meaning)
    × (canonical_text tells.meaning ≡ canonical_text tells.other_meaning)
same_files doc text other tells = (tells.means.0 refl, tells.canonical.0 refl)

other_files : (doc : Doc) (text other : List ℕ) (tells : AnswersSame doc text other false)
    → (tells.meaning ≡ tells.other_meaning → ⊥)
    × (canonical_text tells.meaning ≡ canonical_text tells.other_meaning → ⊥)
other_files doc text other tells = (
  λ same. false≢true (tells.means.1 same),
  λ same. false≢true (tells.canonical.1 same),
)

agreeing_files : (doc : Doc) (text other : List ℕ) → Agrees doc text other true
    → out_of doc text ≡ out_of doc other
agreeing_files doc text other agree = agree.written

apart_files : (doc : Doc) (text other : List ℕ) → Agrees doc text other false
    → (outcome (rules_of doc) text).passed ≡ (outcome (rules_of doc) other).passed → ⊥
apart_files doc text other apart = apart
