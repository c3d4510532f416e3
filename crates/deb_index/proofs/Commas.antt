-- The canonical text of a group contains no comma, and that of an alternative no bar.
use Rattle.std.proofs.Common.{◌≡◌, ℕ, ◌==◌, Bool, true, false, not, ◌&&◌, List, [], ◌∷◌, ◌++◌, map, IsTrue, Option, Some, None, IfSome, refl, ap, codes}
use Rattle.std.specs.List.{AllByRecursion}
use Rattle.deb_base.specs.PackageNames.{is_package_byte, is_arch_name}
use Rattle.deb_base.proofs.AllElements.{All-append, All-weaker}
use Rattle.deb_version.specs.Parts.{Meaning as Version}
use Rattle.deb_version.specs.Grammar.{SpellsVersion}
use Rattle.deb_version.specs.Canonical.{version_text}
use Rattle.deb_version.proofs.VersionBytes.{is_version_byte, version_bytes}
use Rattle.deb_relation.specs.declared.operator.Op.{Op}
use Rattle.deb_relation.specs.declared.operator.Op.TheVariants.{Earlier, EarlierEqual, Equal, LaterEqual, Later}
use Rattle.deb_relation.specs.Meaning.{Restrictions, Alternative, Group}
use Rattle.deb_relation.specs.Texts.{joined, separated, operator_text, signed_text, item_text, restrictions_text, qualifier_text, bound_text, architectures_text, formula_text, alternative_text, group_text}
use Rattle.deb_relation.proofs.Bytes.{arch_bytes, other, package_bytes, profile_bytes}
use Rattle.deb_relation.proofs.Regular.{IsNames, IsItems, IsRegular, IsRegularGroup}
use Rattle.deb_relation.proofs.Runs.{Passes}

abbrev pub is_other : ℕ → ℕ → Bool
is_other byte b = not (b == byte)

-- none of the bytes is this one
abbrev pub Lacks : ℕ → List ℕ → Type 0
Lacks byte text = Passes (is_other byte) text

pub version_lacks : (byte : ℕ) → is_version_byte byte ≡ false → (text : List ℕ) (version : Version) → SpellsVersion text version → Lacks byte text
version_lacks byte absent text version spells = All-weaker _ _ (λ b h. ap not (other is_version_byte byte absent b h)) text (version_bytes text version spells)

-- neither a comma nor a bar
abbrev is_inner : ℕ → Bool
is_inner b = is_other 44 b && is_other 124 b

abbrev Plain : List ℕ → Type 0
Plain text = Passes is_inner text

inner-comma : (b : ℕ) → IsTrue (is_inner b) → IsTrue (is_other 44 b)
inner-comma b is = first (is_other 44 b) (is_other 124 b) is
  where
    first : (s t : Bool) → (s && t) ≡ true → s ≡ true
    first true t e = refl
    first false t e = e

inner-bar : (b : ℕ) → IsTrue (is_inner b) → IsTrue (is_other 124 b)
inner-bar b is = second (is_other 44 b) (is_other 124 b) is
  where
    second : (s t : Bool) → (s && t) ≡ true → t ≡ true
    second true t e = e
    second false true e = refl
    second false false e = e

inner : (test : ℕ → Bool) → test 44 ≡ false → test 124 ≡ false → (b : ℕ) → IsTrue (test b) → IsTrue (is_inner b)
inner test comma bar b h = both (b == 44) (b == 124) (other test 44 comma b h) (other test 124 bar b h)
  where
    both : (s t : Bool) → s ≡ false → t ≡ false → (not s && not t) ≡ true
    both s t e f = rw (e, f) refl

append : (xs ys : List ℕ) → Plain xs → Plain ys → Plain (xs ++ ys)
append xs ys p q = All-append (λ b. IsTrue (is_inner b)) xs ys p q

module _ {A : Type 0} (test : ℕ → Bool) (separator : List ℕ) (sep : Passes test separator) (text : A → List ℕ) where
  plain-separated : (xs : List A) → AllByRecursion (λ x. Passes test (text x)) xs → Passes test (separated separator (map text xs))
  plain-separated [] all = tt
  plain-separated (x ∷ xs) all = All-append (λ b. IsTrue (test b)) separator (text x ++ separated separator (map text xs)) sep (All-append (λ b. IsTrue (test b)) (text x) (separated separator (map text xs)) all.0 (plain-separated xs all.1))

  plain-joined : (xs : List A) → AllByRecursion (λ x. Passes test (text x)) xs → Passes test (joined separator (map text xs))
  plain-joined [] all = tt
  plain-joined (x ∷ xs) all = All-append (λ b. IsTrue (test b)) (text x) (separated separator (map text xs)) all.0 (plain-separated xs all.1)

name_plain : (name : List ℕ) → Passes is_package_byte name → Plain name
name_plain name all = All-weaker _ _ (inner is_package_byte refl refl) name all

signed_plain : (negated : Bool) (name : List ℕ) → Passes is_package_byte name → Plain (signed_text negated name)
signed_plain true name all = (refl, name_plain name all)
signed_plain false name all = name_plain name all

qualifier_plain : (q : Option (List ℕ)) → IfSome q (λ q. IsTrue (is_arch_name q)) → Plain (qualifier_text q)
qualifier_plain None is = tt
qualifier_plain (Some q) is = (refl, name_plain q (arch_bytes q is))

operator_plain : (operator : Op) → Plain (operator_text operator)
operator_plain Earlier = (refl, (refl, tt))
operator_plain EarlierEqual = (refl, (refl, tt))
operator_plain Equal = (refl, tt)
operator_plain LaterEqual = (refl, (refl, tt))
operator_plain Later = (refl, (refl, tt))

bound_plain : (bound : Option (Op × Version)) → IfSome bound (λ b. SpellsVersion (version_text b.1) b.1) → Plain (bound_text bound)
bound_plain None is = tt
bound_plain (Some bound) is =
    let version = version_text bound.1 in
    (refl, (refl, append (operator_text bound.0) (32 ∷ (version ++ 41 ∷ [])) (operator_plain bound.0) (refl, append version (41 ∷ []) (All-weaker _ _ (inner is_version_byte refl refl) version (version_bytes version bound.1 is)) (refl, tt))))

list_plain : (list : Option (Bool × List (List ℕ))) → IfSome list (λ list. IsNames list.1) → Plain (architectures_text list)
list_plain None is = tt
list_plain (Some list) is = (
  refl,
  (
    refl,
    append (joined (codes " ") (map (signed_text list.0) list.1)) (93 ∷ [])
        (plain-joined is_inner (codes " ") (refl, tt) (signed_text list.0) list.1 (All-weaker _ _ (λ name is. signed_plain list.0 name (arch_bytes name is)) list.1 is.are_names)) (refl, tt),
  ),
)

restrictions_plain : (list : Restrictions) → IsItems list → Plain (restrictions_text list)
restrictions_plain list is = (
  refl,
  append (joined (codes " ") (map item_text list)) (62 ∷ [])
      (plain-joined is_inner (codes " ") (refl, tt) item_text list (All-weaker _ _ (λ item is. signed_plain item.0 item.1 (profile_bytes item.1 is)) list is.are_profiles)) (refl, tt),
)

alternative_plain : (a : Alternative) → IsRegular a → Plain (alternative_text a)
alternative_plain a is =
    let lists = plain-separated is_inner (codes " ") (refl, tt) restrictions_text a.formula (All-weaker IsItems _ restrictions_plain a.formula is.lists) in
    append a.name _ (name_plain a.name (package_bytes a.name is.name))
    (append (qualifier_text a.qualifier) _ (qualifier_plain a.qualifier is.qualifier)
    (append (bound_text a.bound) _ (bound_plain a.bound is.bound)
    (append (architectures_text a.architectures) (formula_text a.formula) (list_plain a.architectures is.architectures) lists)))

pub group_lacks_comma : (group : Group) → IsRegularGroup group → Lacks 44 (group_text group)
unfolding group_text
group_lacks_comma group is = plain-joined (is_other 44) (codes " | ") (refl, (refl, (refl, tt))) alternative_text group (All-weaker IsRegular _ (λ a is. All-weaker _ _ inner-comma (alternative_text a) (alternative_plain a is)) group is.each)

pub alternative_lacks_bar : (a : Alternative) → IsRegular a → Lacks 124 (alternative_text a)
alternative_lacks_bar a is = All-weaker _ _ inner-bar (alternative_text a) (alternative_plain a is)
