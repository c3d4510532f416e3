-- Canonical text can be the body of a field: one line of ASCII without blanks at its ends, or nothing.
use Rattle.std.proofs.Common.{◌≡◌, ◌≢◌, ℕ, Bool, true, false, List, [], ◌∷◌, ◌++◌, map, IsTrue, Option, Some, None, IfSome, refl, sym, ◌∙◌, subst, append-nil, codes, arith}
use Rattle.std.specs.List.{AllByRecursion}
use Rattle.deb_base.specs.Bodies.{begins_with_blank, ends_with_blank, IsBody}
use Rattle.deb_base.specs.PackageNames.{is_package_byte, is_arch_name, is_profile_name}
use Rattle.deb_base.proofs.AllElements.{All-append, All-weaker}
use Rattle.deb_base.proofs.GraphicBodies.{IsGraphic, IsPlain, graphic_plain, begins, ends, IsBody-plain}
use Rattle.deb_base.proofs.GraphicNames.{package_byte_graphic, package_name_graphic, arch_name_graphic}
use Rattle.deb_version.specs.Parts.{Meaning as Version}
use Rattle.deb_version.specs.Grammar.{SpellsVersion}
use Rattle.deb_version.specs.Canonical.{version_text}
use Rattle.deb_version.specs.PartsLemmas.{cons_not_nil}
use Rattle.deb_relation.specs.declared.operator.Op.{Op}
use Rattle.deb_relation.specs.declared.operator.Op.TheVariants.{Earlier, EarlierEqual, Equal, LaterEqual, Later}
use Rattle.deb_relation.specs.Grammar.{SpellsRelation}
use Rattle.deb_relation.specs.Meaning.{Restrictions, Alternative, Group, Relation}
use Rattle.deb_relation.specs.Texts.{joined, separated, operator_text, signed_text, item_text, restrictions_text, qualifier_text, bound_text, architectures_text, formula_text, alternative_text, group_text, relation_text}
use Rattle.deb_relation.proofs.Bytes.{arch_bytes, profile_bytes, package_some, version_graphic}
use Rattle.deb_relation.proofs.Regular.{IsNames, IsItems, IsRegular, IsRegularGroup, relation_regular}
use Rattle.deb_relation.proofs.Runs.{Passes}

abbrev ArePlain : List ℕ → Type 0
ArePlain text = AllByRecursion IsPlain text

name_plain : (name : List ℕ) → Passes is_package_byte name → ArePlain name
name_plain name all = All-weaker _ IsPlain (λ b h. graphic_plain b (package_byte_graphic b h)) name all

append-some : (xs ys : List ℕ) → xs ≢ [] → xs ++ ys ≢ []
append-some [] ys some e = some refl
append-some (x ∷ xs) ys some e = cons_not_nil x (xs ++ ys) e

append-some_last : (xs ys : List ℕ) → ys ≢ [] → xs ++ ys ≢ []
append-some_last [] ys some e = some e
append-some_last (x ∷ xs) ys some e = cons_not_nil x (xs ++ ys) e

ends-append : (xs ys : List ℕ) → ys ≢ [] → ends_with_blank (xs ++ ys) ≡ ends_with_blank ys
ends-append [] ys some = refl
ends-append (x ∷ []) [] some = absurd (some refl)
ends-append (x ∷ []) (y ∷ ys) some = refl
ends-append (x ∷ z ∷ xs) ys some = ends-append (z ∷ xs) ys some

begins-append : (xs ys : List ℕ) → xs ≢ [] → begins_with_blank (xs ++ ys) ≡ begins_with_blank xs
begins-append [] ys some = absurd (some refl)
begins-append (x ∷ xs) ys some = refl

-- plain, and no blank at the end
record IsTidy (text : List ℕ) : Type 0 where
  plain : ArePlain text
  ends : ends_with_blank text ≡ false

tidy-nil : IsTidy []
tidy-nil = record { plain = tt; ends = refl }

tidy-last : (xs ys : List ℕ) → ArePlain xs → IsTidy ys → ys ≢ [] → IsTidy (xs ++ ys)
tidy-last xs ys p t some = record { plain = All-append IsPlain xs ys p t.plain; ends = ends-append xs ys some ∙ t.ends }

tidy-append : (xs ys : List ℕ) → IsTidy xs → IsTidy ys → IsTidy (xs ++ ys)
tidy-append xs [] s t = subst IsTidy (sym (append-nil xs)) s
tidy-append xs (y ∷ ys) s t = tidy-last xs (y ∷ ys) s.plain t (cons_not_nil y ys)

tidy-graphic : (text : List ℕ) → AllByRecursion IsGraphic text → IsTidy text
tidy-graphic text all = record { plain = All-weaker IsGraphic IsPlain graphic_plain text all; ends = ends text all }

-- a text of one byte at least, with no blank at either end
record IsWhole (text : List ℕ) : Type 0 where
  tidy : IsTidy text
  some : text ≢ []
  begins : begins_with_blank text ≡ false

module _ {A : Type 0} (separator : List ℕ) (sep : ArePlain separator) (text : A → List ℕ) where
  plain-separated : (xs : List A) → AllByRecursion (λ x. ArePlain (text x)) xs → ArePlain (separated separator (map text xs))
  plain-separated [] all = tt
  plain-separated (x ∷ xs) all = All-append IsPlain separator (text x ++ separated separator (map text xs)) sep (All-append IsPlain (text x) (separated separator (map text xs)) all.0 (plain-separated xs all.1))

  plain-joined : (xs : List A) → AllByRecursion (λ x. ArePlain (text x)) xs → ArePlain (joined separator (map text xs))
  plain-joined [] all = tt
  plain-joined (x ∷ xs) all = All-append IsPlain (text x) (separated separator (map text xs)) all.0 (plain-separated xs all.1)

  tidy-separated : (xs : List A) → AllByRecursion (λ x. IsWhole (text x)) xs → IsTidy (separated separator (map text xs))
  tidy-separated [] all = tidy-nil
  tidy-separated (x ∷ xs) all =
      let more = separated separator (map text xs) in
      tidy-last separator (text x ++ more) sep (tidy-append (text x) more all.0.tidy (tidy-separated xs all.1)) (append-some (text x) more all.0.some)

  whole-joined : (xs : List A) → xs ≢ [] → AllByRecursion (λ x. IsWhole (text x)) xs → IsWhole (joined separator (map text xs))
  whole-joined [] some all = absurd (some refl)
  whole-joined (x ∷ xs) some all =
      let more = separated separator (map text xs) in
      record {
        tidy = tidy-append (text x) more all.0.tidy (tidy-separated xs all.1);
        some = append-some (text x) more all.0.some;
        begins = begins-append (text x) more all.0.some ∙ all.0.begins;
      }

signed_plain : (negated : Bool) (name : List ℕ) → Passes is_package_byte name → ArePlain (signed_text negated name)
signed_plain true name all = ((omega arith, omega arith), name_plain name all)
signed_plain false name all = name_plain name all

space_plain : ArePlain (codes " ")
space_plain = ((omega arith, omega arith), tt)

-- what ends with a closing byte
closed_tidy : (text : List ℕ) (close : ℕ) → IsGraphic close → ArePlain text → IsTidy (text ++ close ∷ [])
closed_tidy text close g p = tidy-last text (close ∷ []) p (tidy-graphic (close ∷ []) (g, tt)) (cons_not_nil close [])

qualifier_tidy : (q : Option (List ℕ)) → IfSome q (λ q. IsTrue (is_arch_name q)) → IsTidy (qualifier_text q)
qualifier_tidy None is = tidy-nil
qualifier_tidy (Some q) is = tidy-graphic (58 ∷ q) ((omega arith, omega arith), arch_name_graphic q is)

operator_plain : (operator : Op) → ArePlain (operator_text operator)
operator_plain Earlier = ((omega arith, omega arith), ((omega arith, omega arith), tt))
operator_plain EarlierEqual = ((omega arith, omega arith), ((omega arith, omega arith), tt))
operator_plain Equal = ((omega arith, omega arith), tt)
operator_plain LaterEqual = ((omega arith, omega arith), ((omega arith, omega arith), tt))
operator_plain Later = ((omega arith, omega arith), ((omega arith, omega arith), tt))

bound_tidy : (bound : Option (Op × Version)) → IfSome bound (λ b. SpellsVersion (version_text b.1) b.1) → IsTidy (bound_text bound)
bound_tidy None is = tidy-nil
bound_tidy (Some bound) is =
    let version = version_text bound.1 in
    let plain = All-weaker IsGraphic IsPlain graphic_plain version (version_graphic version bound.1 is) in
    let closed = closed_tidy version 41 (omega arith, omega arith) plain in
    let some : version ++ 41 ∷ [] ≢ [] = append-some_last version (41 ∷ []) (cons_not_nil 41 []) in
    let spaced = tidy-last (codes " ") (version ++ 41 ∷ []) space_plain closed some in
    tidy-last (codes " (") (operator_text bound.0 ++ (32 ∷ (version ++ 41 ∷ []))) ((omega arith, omega arith), ((omega arith, omega arith), tt))
    (tidy-last (operator_text bound.0) (32 ∷ (version ++ 41 ∷ [])) (operator_plain bound.0) spaced (cons_not_nil 32 (version ++ 41 ∷ [])))
    (append-some_last (operator_text bound.0) (32 ∷ (version ++ 41 ∷ [])) (cons_not_nil 32 (version ++ 41 ∷ [])))

names_plain : (negated : Bool) (names : List (List ℕ)) → AllByRecursion (λ name. IsTrue (is_arch_name name)) names → AllByRecursion (λ name. ArePlain (signed_text negated name)) names
names_plain negated names all = All-weaker _ _ (λ name is. signed_plain negated name (arch_bytes name is)) names all

list_tidy : (list : Option (Bool × List (List ℕ))) → IfSome list (λ list. IsNames list.1) → IsTidy (architectures_text list)
list_tidy None is = tidy-nil
list_tidy (Some list) is =
    let items = joined (codes " ") (map (signed_text list.0) list.1) in
    let closed = closed_tidy items 93 (omega arith, omega arith) (plain-joined (codes " ") space_plain (signed_text list.0) list.1 (names_plain list.0 list.1 is.are_names)) in
    tidy-last (codes " [") (items ++ 93 ∷ []) ((omega arith, omega arith), ((omega arith, omega arith), tt)) closed (append-some_last items (93 ∷ []) (cons_not_nil 93 []))

items_plain : (items : Restrictions) → AllByRecursion (λ item. IsTrue (is_profile_name item.1)) items → AllByRecursion (λ item. ArePlain (item_text item)) items
items_plain items all = All-weaker _ _ (λ item is. signed_plain item.0 item.1 (profile_bytes item.1 is)) items all

restrictions_whole : (list : Restrictions) → IsItems list → IsWhole (restrictions_text list)
restrictions_whole list is =
    let items = joined (codes " ") (map item_text list) in
    let closed = closed_tidy items 62 (omega arith, omega arith) (plain-joined (codes " ") space_plain item_text list (items_plain list is.are_profiles)) in
    record {
      tidy = tidy-last (codes "<") (items ++ 62 ∷ []) ((omega arith, omega arith), tt) closed (append-some_last items (62 ∷ []) (cons_not_nil 62 []));
      some = cons_not_nil 60 (items ++ 62 ∷ []);
      begins = refl;
    }

alternative_whole : (a : Alternative) → IsRegular a → IsWhole (alternative_text a)
alternative_whole a is =
    let formula = tidy-separated (codes " ") space_plain restrictions_text a.formula (All-weaker IsItems _ restrictions_whole a.formula is.lists) in
    let list = tidy-append (architectures_text a.architectures) (formula_text a.formula) (list_tidy a.architectures is.architectures) formula in
    let bound = tidy-append (bound_text a.bound) (architectures_text a.architectures ++ formula_text a.formula) (bound_tidy a.bound is.bound) list in
    let more = qualifier_text a.qualifier ++ (bound_text a.bound ++ (architectures_text a.architectures ++ formula_text a.formula)) in
    let behind : IsTidy more = tidy-append (qualifier_text a.qualifier) (bound_text a.bound ++ (architectures_text a.architectures ++ formula_text a.formula)) (qualifier_tidy a.qualifier is.qualifier) bound in
    let graphic = package_name_graphic a.name is.name in
    let some = package_some a.name is.name in
    record {
      tidy = tidy-append a.name more (tidy-graphic a.name graphic) behind;
      some = append-some a.name more some;
      begins = begins-append a.name more some ∙ begins a.name graphic;
    }

group_whole : (group : Group) → IsRegularGroup group → IsWhole (group_text group)
unfolding group_text
group_whole group is = whole-joined (codes " | ") ((omega arith, omega arith), ((omega arith, omega arith), ((omega arith, omega arith), tt))) alternative_text group is.some (All-weaker IsRegular _ alternative_whole group is.each)

comma_plain : ArePlain (codes ", ")
comma_plain = ((omega arith, omega arith), ((omega arith, omega arith), tt))

relation_body : (m : Relation) → AllByRecursion IsRegularGroup m → IsBody (relation_text m)
relation_body [] all = IsBody-plain [] tt refl refl
relation_body (group ∷ groups) all =
    let whole = whole-joined (codes ", ") comma_plain group_text (group ∷ groups) (cons_not_nil group groups) (All-weaker IsRegularGroup _ group_whole (group ∷ groups) all) in
    IsBody-plain (relation_text (group ∷ groups)) whole.tidy.plain whole.begins whole.tidy.ends

pub canonical_text_is_body : (text : List ℕ) (m : Relation) → SpellsRelation text m → IsBody (relation_text m)
canonical_text_is_body text m spells = relation_body m (relation_regular text m spells).groups
