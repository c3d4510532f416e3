-- What tells packages from others: no name has a space.
use Rattle.std.proofs.Common.{◌≡◌, ℕ, ◌==◌, Bool, true, false, cond, List, [], ◌∷◌, ◌++◌, Option, None, Some, IfSome, codes, refl, sym, ap, ◌∙◌, subst, arith}
use Rattle.std.specs.FinMap.{find}
use Rattle.std.specs.List.{AllByRecursion, list_all}
use Rattle.std.specs.Ordering.{eq_by_cmp}
use Rattle.std.proofs.lemmas.Bool.{and_parts, false≢true}
use Rattle.std.proofs.lemmas.Bool.Decides.{nat_tests}
use Rattle.std.proofs.lemmas.Slice.Eq.{bytes_eq-Decides}
use Rattle.deb_base.proofs.FieldBytes.{each_from_list_all}
use Rattle.deb_base.specs.Kinds.{kind_at, kind_of, known_row}
use Rattle.deb_base.specs.Names.{canonical_name}
use Rattle.deb_base.specs.PackageNames.{is_package_byte, is_package_name}
use Rattle.deb_syntax.specs.Meaning.{Entries, byte_order}
use Rattle.deb_field.specs.Values.{ValueMeaning, SpellsValue}
use Rattle.deb_control.specs.Documents.{Meaning}
use Rattle.deb_control.specs.FieldWords.{value_under}
use Rattle.deb_control.specs.Pairs.{Pairwise}
use Rattle.deb_control.specs.ValueFiles.{SpellsEntries, SpellsEntry, ValueEntries}
use Rattle.std.proofs.lemmas.Map.Text.{is_eq-slice_cmp}
use Rattle.deb_latest.specs.Entries.{architecture_of, doc_of, name_in, name_of}
use Rattle.deb_latest.specs.Laws.{IsOnePackage, KeysTellPackages}
use Rattle.deb_latest.specs.declared.kind.Kind.{Kind}
use Rattle.deb_latest.specs.declared.kind.Kind.TheVariants.{Packages, Sources}

abbrev NoSpace : List ℕ → Type 0
NoSpace name = AllByRecursion (λ b. (b == 32) ≡ false) name

not_space : (b : ℕ) → is_package_byte b ≡ true → (b == 32) ≡ false
not_space b h = grind (arith, nat_tests)

name-plain : (name : List ℕ) → is_package_name name ≡ true → NoSpace name
name-plain name h = each_from_list_all is_package_byte (λ b. (b == 32) ≡ false) not_space name (and_parts _ (list_all is_package_byte name) h).1

same_name : (a b : List ℕ) → eq_by_cmp byte_order a b ≡ true → a ≡ b
same_name a b e = (bytes_eq-Decides a b).0 (sym (is_eq-slice_cmp a b) ∙ e)

-- a value under a name is one that some body spells
find-spelled : (spells : List ℕ → List ℕ → ValueMeaning → Type 0) (name : List ℕ) (entries : Entries) (fields : ValueEntries ValueMeaning) → Pairwise (SpellsEntry spells) entries fields → IfSome (find byte_order name fields) (λ v. (body : List ℕ) × spells name body v)
find-spelled spells name [] [] s = tt
find-spelled spells name [] (field ∷ fields) s = absurd s
find-spelled spells name (entry ∷ entries) [] s = absurd s
find-spelled spells name (entry ∷ entries) (field ∷ fields) s = go (eq_by_cmp byte_order name field.0) refl (find-spelled spells name entries fields s.1)
  where
    go : (b : Bool) → eq_by_cmp byte_order name field.0 ≡ b → IfSome (find byte_order name fields) (λ v. (body : List ℕ) × spells name body v) → IfSome (cond b (Some field.1) (find byte_order name fields)) (λ v. (body : List ℕ) × spells name body v)
    go true e rest = (entry.1, subst (λ n. spells n entry.1 field.1) (sym (same_name name field.0 e)) s.0.1)
    go false e rest = rest

abbrev IsSpelledName : Kind → Option ValueMeaning → Type 0
IsSpelledName kind o = IfSome o (λ v. (body : List ℕ) × SpellsValue (doc_of kind) (canonical_name (codes "Package")) body v)

plain : (kind : Kind) (o : Option ValueMeaning) → IsSpelledName kind o → NoSpace (name_in o)
unfolding kind_of kind_at known_row
plain Packages None spelled = tt
plain Packages (Some v) spelled = subst (λ v. NoSpace (name_in (Some v))) (sym spelled.1.1) (subst NoSpace spelled.1.2.0 (name-plain spelled.0 spelled.1.2.1))
plain Sources None spelled = tt
plain Sources (Some v) spelled = subst (λ v. NoSpace (name_in (Some v))) (sym spelled.1.1) (subst NoSpace spelled.1.2.0 (name-plain spelled.0 spelled.1.2.1))

names-plain : (kind : Kind) (bodies : List Entries) (meaning : Meaning) → SpellsEntries (SpellsValue (doc_of kind)) bodies meaning → AllByRecursion (λ values. NoSpace (name_of values)) meaning
names-plain kind [] [] s = tt
names-plain kind [] (values ∷ meaning) s = absurd s
names-plain kind (entries ∷ bodies) [] s = absurd s
names-plain kind (entries ∷ bodies) (values ∷ meaning) s =
    (plain kind (value_under (codes "Package") values) (find-spelled (SpellsValue (doc_of kind)) (canonical_name (codes "Package")) entries values s.0), names-plain kind bodies meaning s.1)

-- a text is cut at its first space
apart : (a b : List ℕ) (x y : List ℕ) → NoSpace a → NoSpace b → a ++ 32 ∷ x ≡ b ++ 32 ∷ y → (a ≡ b) × (x ≡ y)
apart [] [] x y s t e = (refl, cc)
apart [] (c ∷ b) x y s t e = let same : 32 ≡ c = cc in absurd (false≢true (sym t.0 ∙ ap (λ n. n == 32) (sym same)))
apart (c ∷ a) [] x y s t e = let same : c ≡ 32 = cc in absurd (false≢true (sym s.0 ∙ ap (λ n. n == 32) same))
apart (c ∷ a) (d ∷ b) x y s t e =
    let heads : c ≡ d = cc in
    let tails : a ++ 32 ∷ x ≡ b ++ 32 ∷ y = cc in
    let rest = apart a b x y s.1 t.1 tails in
    (ap (λ n. n ∷ a) heads ∙ ap (λ l. d ∷ l) rest.0, rest.1)

spaced : (name architecture : List ℕ) → name ++ codes " " ++ architecture ≡ name ++ 32 ∷ architecture
spaced [] architecture = refl
spaced (b ∷ name) architecture = ap (λ l. b ∷ l) (spaced name architecture)

one-package : (values others : ValueEntries ValueMeaning) → NoSpace (name_of values) → NoSpace (name_of others) → IsOnePackage values others
one-package values others s t = (
  λ same. apart (name_of values) (name_of others) (architecture_of values) (architecture_of others) s t (sym (spaced (name_of values) (architecture_of values)) ∙ same ∙ spaced (name_of others) (architecture_of others)),
  λ both. ap (λ n. n ++ codes " " ++ architecture_of values) both.0 ∙ ap (λ a. name_of others ++ codes " " ++ a) both.1,
)

all-one : (values : ValueEntries ValueMeaning) (other : Meaning) → NoSpace (name_of values) → AllByRecursion (λ others. NoSpace (name_of others)) other → AllByRecursion (IsOnePackage values) other
all-one values [] s all = tt
all-one values (others ∷ other) s all = (one-package values others s all.0, all-one values other s all.1)

all-all : (meaning other : Meaning) → AllByRecursion (λ values. NoSpace (name_of values)) meaning → AllByRecursion (λ others. NoSpace (name_of others)) other → AllByRecursion (λ values. AllByRecursion (IsOnePackage values) other) meaning
all-all [] other all also = tt
all-all (values ∷ meaning) other all also = (all-one values other all.0 also, all-all meaning other all.1 also)

pub keys-tell : KeysTellPackages
keys-tell kind first second meaning other accepted also =
    all-all meaning other
    (names-plain kind accepted.means.bodies meaning accepted.means.spelled)
    (names-plain kind also.means.bodies other also.means.spelled)
