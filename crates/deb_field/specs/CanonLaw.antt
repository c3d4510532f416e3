-- What the canonical text of a kind of values promises, and what its refusals do (this project's
-- own form of values; Debian Policy 5.1).
use Rattle.std.specs.Prelude.{◌≡◌, ℕ, ◌*◌, ◌≤◌, ◌↔◌, List, length, Option, None}
use Rattle.deb_base.specs.Bodies.{IsBody}
use Rattle.deb_base.specs.declared.code.Code.{Code}

-- Bodies of a kind spell meanings. A body spells at most one; the canonical text of a meaning that
-- is spelled is a body that spells it, at most twice as long as each other one.
pub record CanonLaw (Meaning : Type 0) (spells : List ℕ → Meaning → Type 0)
    (text_of : Meaning → List ℕ) : Type 0 where
  pub one_meaning : (body : List ℕ) (m n : Meaning) → spells body m → spells body n → m ≡ n
  pub reads_back : (body : List ℕ) (m : Meaning) → spells body m → spells (text_of m) m
  pub is_body : (body : List ℕ) (m : Meaning) → IsBody body → spells body m → IsBody (text_of m)
  pub is_short : (body : List ℕ) (m : Meaning) → spells body m
      → length (text_of m) ≤ 2 * length body

-- Meanings that are spelled have equal canonical text exactly where they are equal.
abbrev pub OneText : (Meaning : Type 0) → (List ℕ → Meaning → Type 0) → (Meaning → List ℕ) → Type 0
OneText Meaning spells text_of =
    (body other : List ℕ) (m n : Meaning) → spells body m → spells other n
    → (text_of m ≡ text_of n) ↔ (m ≡ n)

-- A body of a kind has a refusal exactly where it spells no meaning.
pub record RefusalLaw (Meaning : Type 0) (spells : List ℕ → Meaning → Type 0)
    (refusal : List ℕ → Option Code) : Type 0 where
  pub spelled : (body : List ℕ) → refusal body ≡ None → (m : Meaning) × spells body m
  pub unrefused : (body : List ℕ) (m : Meaning) → spells body m → refusal body ≡ None

-- what spells a meaning of one kind spells the meaning among those of all kinds
abbrev pub Through : {M V : Type 0} → (M → V) → (List ℕ → M → Type 0) → List ℕ → V → Type 0
Through {M} inject spells body v = (m : M) × (v ≡ inject m) × spells body m

-- a canonical text is at most twice as long as each body that spells the meaning
length_of_texts : (Meaning : Type 0) (spells : List ℕ → Meaning → Type 0)
    (text_of : Meaning → List ℕ) → CanonLaw Meaning spells text_of → (body : List ℕ)
    (m : Meaning) → spells body m
    → length (text_of m) ≤ 2 * length body
length_of_texts Meaning spells text_of law = law.is_short
