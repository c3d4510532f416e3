-- Where the fields of a paragraph's canonical text end.
use Rattle.std.specs.Prelude.{◌≡◌, ℕ, ◌+◌, ◌==◌, ◌&&◌, not, cond, IsTrue, List, [], ◌∷◌, ◌++◌, map, Option, None, Some, codes, refl}
use Rattle.std.specs.Borrow.{Bor}
use Rattle.std.specs.List.{AllByRecursion}
use Rattle.std.specs.declared.cmp.Ordering.TheVariants.{Less}
use Rattle.deb_base.specs.Bodies.{begins_with_blank, is_body_shape, newline}
use Rattle.deb_base.specs.FieldNames.{colon, is_name}
use Rattle.deb_syntax.specs.Meaning.{Entries, byte_order}
use Rattle.deb_control.specs.Canonical.{behind_colon, paragraph_text}
use Rattle.deb_diff.specs.declared.cut.First.{First}
use Rattle.deb_base.specs.Literals.{lent}

-- the bytes until a newline after which there is no space or tab
abbrev pub field_len : List ℕ → ℕ
field_len [] = 0
field_len (b ∷ bs) =
    cond (b == newline && not (begins_with_blank bs)) 1 (1 + field_len bs)

-- a field's text after its name, under the name
abbrev pub rest_of : List ℕ × List ℕ → List ℕ × List ℕ
rest_of entry = (entry.0, colon ∷ (behind_colon entry.1 ++ newline ∷ []))

-- a name, and a body that a field may have
pub record IsCut (entry : List ℕ × List ℕ) : Type 0 where
  pub name : IsTrue (is_name entry.0)
  pub shape : IsTrue (is_body_shape entry.1)

-- each name is below those after it
abbrev pub AreAscending : Entries → Type 0
AreAscending [] = Unit {0}
AreAscending (entry ∷ entries) =
    AllByRecursion (λ other. byte_order entry.0 other.0 ≡ Less) entries × AreAscending entries

pub record AreCut (entries : Entries) : Type 0 where
  pub each : AllByRecursion IsCut entries
  pub ascending : AreAscending entries

-- A field was cut off from these.
pub record IsCutOff (entry : List ℕ × List ℕ) (entries : Entries) (first : First) : Type 0 where
  pub name : first.name.now ≡ entry.0
  pub body : first.body.now ≡ (rest_of entry).1
  pub rest : first.rest.now ≡ paragraph_text entries

-- the first field was, if there is one
abbrev pub IsFirst : Entries → Option First → Type 0
IsFirst [] None = Unit {0}
IsFirst [] (Some first) = ⊥
IsFirst (entry ∷ entries) None = ⊥
IsFirst (entry ∷ entries) (Some first) = IsCutOff entry entries first

-- what a map of borrowed texts holds
abbrev pub texts_in : List (Bor (List ℕ) × Bor (List ℕ)) → Entries
texts_in entries = map (λ e. (e.0.now, e.1.now)) entries

worked-field_len : (field_len (codes "A: b\n c\nB: d\n") ≡ 8) × (field_len (codes "A: b\n") ≡ 5)
    × (field_len [] ≡ 0)
worked-field_len = (refl, refl, refl)

-- a body in the same line, and one that begins in the next
worked-rest_of : (rest_of (codes "A", codes "b") ≡ (codes "A", codes ": b\n"))
    × (rest_of (codes "A", codes "\n b") ≡ (codes "A", codes ":\n b\n"))
    × (rest_of (codes "A", []) ≡ (codes "A", codes ":\n"))
worked-rest_of = (refl, refl, refl)

worked-texts : texts_in
    ((lent (codes "A"), lent (codes ": 1\n")) ∷ (lent (codes "B"), lent []) ∷ [])
    ≡ (codes "A", codes ": 1\n") ∷ (codes "B", []) ∷ []
worked-texts = refl
