-- What a relation provides is in the byte order of its names, since its groups are in that of their texts.
use Rattle.std.proofs.Common.{◌≡◌, ℕ, ◌==◌, ◌&&◌, ◌<◌, Bool, true, false, cond, IsTrue, List, [], ◌∷◌, ◌++◌, length, map, Option, None, Some, is_none, append-nil, refl, sym, ap, ◌∙◌, arith, rules, tests}
use Rattle.std.specs.List.{AllByRecursion, AllPairs}
use Rattle.std.specs.Ordering.{is_gt, nat_cmp, ordering_then}
use Rattle.std.specs.declared.cmp.Ordering.{Ordering}
use Rattle.std.specs.declared.cmp.Ordering.TheVariants.{Less, Equal, Greater}
use Rattle.std.specs.Cmp.{nat_cmp_is}
use Rattle.std.proofs.lemmas.Bool.Decides.{Decides-eqb}
use Rattle.std.proofs.lemmas.List.Elements.{All-from_recursion}
use Rattle.std.proofs.lemmas.List.Kept.{AllPairs-cons}
use Rattle.deb_base.specs.PackageNames.{is_package_byte}
use Rattle.deb_version.specs.Parts.{Meaning as Version}
use Rattle.deb_relation.specs.declared.operator.Op.{Op}
use Rattle.deb_relation.specs.Laws.{Ascends}
use Rattle.deb_relation.specs.Meaning.{Restrictions, Alternative, Relation}
use Rattle.deb_relation.specs.Sets.{byte_cmp}
use Rattle.deb_relation.specs.Texts.{bound_text, group_text}
use Rattle.deb_relation.proofs.Bytes.{package_bytes}
use Rattle.deb_relation.proofs.Regular.{IsRegular, IsRegularGroup, IsRegularRelation}
use Rattle.deb_relation.proofs.Runs.{Passes}
use Rattle.deb_relation.proofs.SetLemmas.{first_less, tail-ascends}
use Rattle.deb_index.specs.Listed.{Provision, is_plain, provision_in, provisions_of}
use Rattle.deb_index.specs.ProvidedNames.{IsNotAfter}

-- nothing, or a space first
abbrev IsSpaced : List ℕ → Type 0
IsSpaced [] = Unit {0}
IsSpaced (b ∷ bs) = b ≡ 32

over_space : (b : ℕ) → IsTrue (is_package_byte b) → 32 < b
over_space b is = search (rules, tests)

-- a text that is a name, and nothing or a space after it, isn't before one of an earlier name
names_in_order : (s t u v : List ℕ) → Passes is_package_byte s → Passes is_package_byte t → IsSpaced u → IsSpaced v → byte_cmp (s ++ u) (t ++ v) ≡ Less → IsNotAfter s t
names_in_order [] [] u v p q spaced also less = refl
names_in_order [] (y ∷ t) u v p q spaced also less = refl
names_in_order (x ∷ s) [] u [] p q spaced also less = absurd (cc)
names_in_order (x ∷ s) [] u (b ∷ v) p q spaced also less =
    let greater : Greater ≡ nat_cmp x b = nat_cmp_is x b Greater (omega (arith, also, over_space x p.0)) in
    let no : Greater ≡ Less = ap (λ o. ordering_then o (byte_cmp (s ++ u) v)) greater ∙ less in
    absurd (cc)
names_in_order (x ∷ s) (y ∷ t) u v p q spaced also less = go (nat_cmp x y) less (names_in_order s t u v p.1 q.1 spaced also)
  where
    go : (o : Ordering) → ordering_then o (byte_cmp (s ++ u) (t ++ v)) ≡ Less → (byte_cmp (s ++ u) (t ++ v) ≡ Less → IsNotAfter s t) → is_gt (ordering_then o (byte_cmp s t)) ≡ false
    go Less e more = refl
    go Equal e more = more e
    go Greater e more = absurd (cc)

-- the text of a plain alternative is its name, and nothing or a space after it
record HasPlainText (a : Alternative) : Type 0 where
  behind : List ℕ
  text : group_text (a ∷ []) ≡ a.name ++ behind
  spaced : IsSpaced behind

spaced-bound : (bound : Option (Op × Version)) → IsSpaced (bound_text bound)
spaced-bound None = tt
spaced-bound (Some bound) = refl

plain_text : (name : List ℕ) (qualifier : Option (List ℕ)) (bound : Option (Op × Version)) (architectures : Option (Bool × List (List ℕ))) (formula : List Restrictions) → (is_none qualifier && is_none architectures && (length formula == 0)) ≡ true → HasPlainText (record { name = name; qualifier = qualifier; bound = bound; architectures = architectures; formula = formula })
unfolding group_text
plain_text name None bound None [] plain = record {
  behind = bound_text bound;
  text = append-nil _ ∙ ap (λ l. name ++ l) (append-nil (bound_text bound));
  spaced = spaced-bound bound;
}
plain_text name None bound None (x ∷ formula) plain = absurd (omega (arith, (Decides-eqb (length (x ∷ formula)) 0).0 plain))
plain_text name None bound (Some list) formula plain = absurd (cc)
plain_text name (Some qualifier) bound architectures formula plain = absurd (cc)

plain_names : (a b : Alternative) → is_plain a ≡ true → is_plain b ≡ true → IsRegular a → IsRegular b → byte_cmp (group_text (a ∷ [])) (group_text (b ∷ [])) ≡ Less → IsNotAfter a.name b.name
plain_names a b plain also regular regular_too less =
    let one = plain_text a.name a.qualifier a.bound a.architectures a.formula plain in
    let two = plain_text b.name b.qualifier b.bound b.architectures b.formula also in
    names_in_order a.name b.name one.behind two.behind (package_bytes a.name regular.name) (package_bytes b.name regular_too.name) one.spaced two.spaced
    (ap (λ s. byte_cmp s (b.name ++ two.behind)) (sym one.text) ∙ ap (byte_cmp (group_text (a ∷ []))) (sym two.text) ∙ less)

abbrev pub names_in : List Provision → List (List ℕ)
names_in provisions = map (λ p. p.name) provisions

-- the names that later groups provide don't come before that of a plain one
later : (a : Alternative) → is_plain a ≡ true → IsRegular a → (groups : Relation) → AllByRecursion IsRegularGroup groups → AllByRecursion (λ group. byte_cmp (group_text (a ∷ [])) (group_text group) ≡ Less) groups → AllByRecursion (IsNotAfter a.name) (names_in (provisions_of groups))
later a plain regular [] all less = tt
later a plain regular ([] ∷ groups) all less = later a plain regular groups all.1 less.1
later a plain regular ((b ∷ c ∷ more) ∷ groups) all less = later a plain regular groups all.1 less.1
later a plain regular ((b ∷ []) ∷ groups) all less = go (later a plain regular groups all.1 less.1) (is_plain b) refl
  where
    go : AllByRecursion (IsNotAfter a.name) (names_in (provisions_of groups)) → (v : Bool) → is_plain b ≡ v → AllByRecursion (IsNotAfter a.name) (names_in (cond v (provision_in b ∷ []) [] ++ provisions_of groups))
    go rest true is = (plain_names a b plain is regular all.0.each.0 less.0, rest)
    go rest false is = rest

ascend : (groups : Relation) → AllByRecursion IsRegularGroup groups → Ascends group_text groups → AllPairs IsNotAfter (names_in (provisions_of groups))
ascend [] all ascends = λ i j d low high. absurd (omega (arith, high))
ascend ([] ∷ groups) all ascends = ascend groups all.1 (tail-ascends group_text [] groups ascends)
ascend ((a ∷ b ∷ more) ∷ groups) all ascends = ascend groups all.1 (tail-ascends group_text (a ∷ b ∷ more) groups ascends)
ascend ((a ∷ []) ∷ groups) all ascends = go (ascend groups all.1 (tail-ascends group_text (a ∷ []) groups ascends)) (is_plain a) refl
  where
    go : AllPairs IsNotAfter (names_in (provisions_of groups)) → (v : Bool) → is_plain a ≡ v → AllPairs IsNotAfter (names_in (cond v (provision_in a ∷ []) [] ++ provisions_of groups))
    go rest true is = AllPairs-cons IsNotAfter a.name (names_in (provisions_of groups)) (All-from_recursion (IsNotAfter a.name) (names_in (provisions_of groups)) (later a is all.0.each.0 groups all.1 (first_less group_text (a ∷ []) groups ascends))) rest
    go rest false is = rest

-- so do the names that a regular relation provides
pub provided_ascend : (m : Relation) → IsRegularRelation m → AllPairs IsNotAfter (names_in (provisions_of m))
provided_ascend m regular = ascend m regular.groups regular.ascend
