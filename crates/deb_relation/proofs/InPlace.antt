-- What is canonical where it is spelled, put together from its parts.
use Rattle.std.proofs.Common.{◌≡◌, ℕ, ◌==◌, ◌||◌, ◌&&◌, Bool, true, false, List, [], ◌∷◌, ◌++◌, ◌⊎◌, inl, inr, length, map, take, drop, Option, Some, None, Ok, refl, sym, ap, ◌∙◌, subst, append_assoc, append-nil, length-append, codes, arith}
use Rattle.std.specs.List.{list_all}
use Rattle.std.specs.Ordering.{is_lt}
use Rattle.std.specs.declared.cmp.Ordering.{Ordering}
use Rattle.std.specs.declared.cmp.Ordering.TheVariants.{Less, Equal, Greater}
use Rattle.std.proofs.Math.Bool.{and-true, or-false}
use Rattle.std.proofs.lemmas.Bool.{le-leb}
use Rattle.std.proofs.lemmas.List.{take-append-drop}
use Rattle.std.proofs.lemmas.List.Folds.{list_all-append, list_any-append}
use Rattle.deb_base.proofs.AllElements.{All-append}
use Rattle.deb_version.specs.Canonical.{version_text}
use Rattle.deb_version.specs.Faults.{first_fault as version_fault}
use Rattle.deb_version.specs.Grammar.{SpellsVersion}
use Rattle.deb_version.specs.PartsLemmas.{cons_not_nil}
use Rattle.deb_version.specs.Places.{version_in}
use Rattle.deb_version.proofs.FaultLemmas.{spells-from_no_fault}
use Rattle.deb_relation.specs.declared.operator.Op.{Op}
use Rattle.deb_relation.specs.Bodies.{meaning_in, meaning_of}
use Rattle.deb_relation.specs.Grammar.{SpellsQualifier}
use Rattle.deb_relation.specs.InPlace.{BeginsBound, BeginsAlternative, BeginsGroup, CutsGroup, BeginsRelation, IsInPlace}
use Rattle.deb_relation.specs.Laws.{Ascends}
use Rattle.deb_relation.specs.Meaning.{Group}
use Rattle.deb_relation.specs.Reading.{alternative_with, append, begins, behind_white, is_at_end, is_white, mapped, read_group, read_name, read_qualifier, relation_in, run_of}
use Rattle.deb_relation.specs.Regular.{IsRegular, IsRegularGroup}
use Rattle.deb_relation.specs.Sets.{byte_cmp}
use Rattle.deb_relation.specs.Summaries.{read_summary, summary_of, summary_with}
use Rattle.deb_relation.specs.Tests.{has_alternatives, has_equal_bound, has_two, is_equal, only_equals}
use Rattle.deb_relation.specs.Texts.{alternative_text, architectures_text, formula_text, group_text, joined, operator_text, qualifier_text, relation_text, separated, bound_text}
use Rattle.deb_relation.proofs.Bytes.{at_end-some, package_bytes, package_some, signed_stops}
use Rattle.deb_relation.proofs.CanonicalRelation.{group_spelled, relation_spelled}
use Rattle.deb_relation.proofs.ReadParts.{name_took, qualifier_took}
use Rattle.deb_relation.proofs.Regular.{qualifier_regular}
use Rattle.deb_relation.proofs.Runs.{Stops, run_of-passes, run_of-split, white-past}
use Rattle.deb_relation.proofs.SpelledGroups.{group_read, is_piece_end, relation_read}
use Rattle.deb_relation.proofs.SpelledRelation.{Starts}

-- no bound
pub no_bound : (text : List ℕ) → BeginsBound text true text
no_bound text = record { bound = None; regular = tt; spelt = refl; equal_is = refl }

pub bound_begins : (text behind rest : List ℕ) (operator : Op) (equal : Bool) (n : ℕ) → equal ≡ is_equal operator → text ≡ codes " (" ++ (operator_text operator ++ (codes " " ++ behind)) → version_fault (take n behind) ≡ None → version_text (version_in (take n behind)) ≡ take n behind → drop n behind ≡ 41 ∷ rest → BeginsBound text equal rest
bound_begins text behind rest operator equal n is_equal spelt none is closes = record {
  bound = Some (operator, version_in (take n behind));
  regular = subst (λ t. SpellsVersion t (version_in (take n behind))) (sym is) (spells-from_no_fault (take n behind) none);
  spelt = spelt ∙ ap (λ t. codes " (" ++ (operator_text operator ++ (codes " " ++ t))) version_first ∙ reordered (operator_text operator) (version_text (version_in (take n behind))) rest;
  equal_is = sym is_equal;
}
  where
    version_first : behind ≡ version_text (version_in (take n behind)) ++ (41 ∷ rest)
    version_first = sym (take-append-drop n behind) ∙ ap (λ t. take n behind ++ t) closes ∙ ap (λ t. t ++ (41 ∷ rest)) (sym is)

    reordered : (o v rest : List ℕ) → codes " (" ++ (o ++ (codes " " ++ (v ++ (41 ∷ rest)))) ≡ (codes " (" ++ (o ++ (codes " " ++ (v ++ codes ")")))) ++ rest
    reordered o v rest = simp append_assoc refl

qualifier_is : (text : List ℕ) (q : Option (List ℕ)) → SpellsQualifier text q → text ≡ qualifier_text q
qualifier_is text None is = is
qualifier_is text (Some q) is = is.0

pub alternative_begins : (text name rest1 : List ℕ) (q : Option (List ℕ)) (rest2 : List ℕ) (equal : Bool) (rest : List ℕ) → read_name text ≡ Ok (name, rest1) → read_qualifier rest1 ≡ Ok (q, rest2) → BeginsBound rest2 equal rest → BeginsAlternative text equal rest
alternative_begins text name rest1 q rest2 equal rest e1 e2 b =
    let n = name_took text (name, rest1) e1 in
    let t = qualifier_took rest1 (q, rest2) e2 in
    record {
      alternative = alternative_with name q b.bound None [];
      regular = record {
        name = n.1;
        qualifier = qualifier_regular t.piece q t.spelled;
        bound = b.regular;
        architectures = tt;
        lists = tt;
        ascend = tt;
      };
      spelt = n.0 ∙ ap (λ r. name ++ r) (t.split ∙ ap (λ p. p ++ rest2) (qualifier_is t.piece q t.spelled) ∙ ap (λ r. qualifier_text q ++ r) b.spelt) ∙ reordered name (qualifier_text q) (bound_text b.bound) rest;
      equal_is = b.equal_is;
    }
  where
    reordered : (n q b rest : List ℕ) → n ++ (q ++ (b ++ rest)) ≡ (n ++ (q ++ (b ++ ([] ++ [])))) ++ rest
    reordered n q b rest = simp (append_assoc, append-nil) refl

-- a group of one alternative, and of one more
first_alternative : (text : List ℕ) (equal : Bool) (rest : List ℕ) → BeginsAlternative text equal rest → BeginsGroup text false equal rest
unfolding group_text
first_alternative text equal rest a = record {
  group = a.alternative ∷ [];
  regular = record { some = cons_not_nil a.alternative []; each = (a.regular, tt) };
  spelt = a.spelt ∙ ap (λ t. t ++ rest) (sym (append-nil (alternative_text a.alternative)));
  two_is = refl;
  equals_is = and-true (has_equal_bound a.alternative) ∙ a.equal_is;
}

module _ {A : Type 0} (separator : List ℕ) (text : A → List ℕ) where
  pub separated-append : (more : List A) (x : A) → separated separator (map text (append x more)) ≡ separated separator (map text more) ++ (separator ++ text x)
  separated-append [] x = ap (λ t. separator ++ t) (append-nil (text x))
  separated-append (y ∷ ys) x = ap (λ t. separator ++ (text y ++ t)) (separated-append ys x) ∙ simp append_assoc refl

  pub joined-append : (a : A) (more : List A) (x : A) → joined separator (map text (append x (a ∷ more))) ≡ joined separator (map text (a ∷ more)) ++ (separator ++ text x)
  joined-append a more x = ap (λ t. text a ++ t) (separated-append more x) ∙ sym (append_assoc (text a) (separated separator (map text more)) (separator ++ text x))

  joined-last : (before : List A) (y x : A) → joined separator (map text (append x (append y before))) ≡ joined separator (map text (append y before)) ++ (separator ++ text x)
  joined-last [] y x = joined-append y [] x
  joined-last (a ∷ before) y x = joined-append a (append y before) x

module _ {A : Type 0} (text : A → List ℕ) where
  ascends-last : (before : List A) (y x : A) → Ascends text (append y before) → byte_cmp (text y) (text x) ≡ Less → Ascends text (append x (append y before))
  ascends-last [] y x ascends less = (less, tt)
  ascends-last (a ∷ []) y x ascends less = (ascends.0, (less, tt))
  ascends-last (a ∷ b ∷ before) y x ascends less = (ascends.0, ascends-last (b ∷ before) y x ascends.1 less)

next_alternative : (text next : List ℕ) (two equals equal : Bool) (rest : List ℕ) → BeginsGroup text two equals (codes " | " ++ next) → BeginsAlternative next equal rest → BeginsGroup text true (equals && equal) rest
unfolding group_text
next_alternative text next two equals equal rest g a = from g.group g.regular g.spelt g.equals_is
  where
    from : (group : Group) → IsRegularGroup group → text ≡ group_text group ++ (codes " | " ++ next) → list_all has_equal_bound group ≡ equals → BeginsGroup text true (equals && equal) rest
    from [] regular spelt is = absurd (regular.some refl)
    from (b ∷ more) regular spelt is = record {
      group = append a.alternative (b ∷ more);
      regular = record {
        some = cons_not_nil b (append a.alternative more);
        each = All-append IsRegular (b ∷ more) (a.alternative ∷ []) regular.each (a.regular, tt);
      };
      spelt = spelt ∙ ap (λ t. group_text (b ∷ more) ++ (codes " | " ++ t)) a.spelt ∙ reordered (group_text (b ∷ more)) (alternative_text a.alternative) ∙ ap (λ t. t ++ rest) (sym (joined-append (codes " | ") alternative_text b more a.alternative));
      two_is = le-leb 2 (length (b ∷ append a.alternative more)) (omega (arith, length-append more (a.alternative ∷ [])));
      equals_is = list_all-append has_equal_bound (b ∷ more) (a.alternative ∷ []) ∙ rw (is, and-true (has_equal_bound a.alternative), a.equal_is) refl;
    }
      where
        reordered : (g t : List ℕ) → g ++ (codes " | " ++ (t ++ rest)) ≡ (g ++ (codes " | " ++ t)) ++ rest
        reordered g t = simp append_assoc refl

-- what comes before an alternative: nothing, or alternatives and a bar
abbrev pub PrecedesAlternative : List ℕ → Bool → Bool → List ℕ → Type 0
PrecedesAlternative text two equals next = ((text ≡ next) × (two ≡ false) × (equals ≡ true)) ⊎ ((before : Bool) × BeginsGroup text before equals (codes " | " ++ next) × (two ≡ true))

pub one_alternative : (text next : List ℕ) (two equals equal : Bool) (rest : List ℕ) → PrecedesAlternative text two equals next → BeginsAlternative next equal rest → BeginsGroup text two (equals && equal) rest
one_alternative text next two equals equal rest (inl first) a = rw (first.0, first.1, first.2) (first_alternative next equal rest a)
one_alternative text next two equals equal rest (inr more) a = rw more.2 (next_alternative text next more.0 equals equal rest more.1 a)

pub less_is : (o : Ordering) → is_lt o ≡ true → o ≡ Less
less_is Less e = refl
less_is Equal e = cc
less_is Greater e = cc

-- a name comes first, and no white space
named : (text rest : List ℕ) (group : Group) → IsRegularGroup group → text ≡ group_text group ++ rest → behind_white text ≡ text
unfolding group_text
named text rest [] is spelt = absurd (is.some refl)
named text rest (a ∷ more) is spelt =
    let name = is.each.0.name in
    let tail = qualifier_text a.qualifier ++ (bound_text a.bound ++ (architectures_text a.architectures ++ formula_text a.formula)) in
    let after = tail ++ (separated (codes " | ") (map alternative_text more) ++ rest) in
    let first : text ≡ a.name ++ after = spelt ∙ reordered a.name tail (separated (codes " | ") (map alternative_text more)) in
    white-past [] text tt (subst (Stops is_white) (sym first) (signed_stops false a.name after (package_some a.name name) (package_bytes a.name name)))
  where
    reordered : (n t more : List ℕ) → ((n ++ t) ++ more) ++ rest ≡ n ++ (t ++ (more ++ rest))
    reordered n t more = simp append_assoc refl

piece_ends : (rest : List ℕ) → (is_at_end rest || begins 44 rest) ≡ true → Starts is_piece_end rest
piece_ends [] e = tt
piece_ends (b ∷ bs) e = sym (ap (λ v. v || (b == 44)) (at_end-some (b ∷ bs) (cons_not_nil b bs))) ∙ e

-- a group in its piece, the white space after it and the end of that piece are read
pub group_in_place : (text front : List ℕ) (two equals : Bool) (behind rest : List ℕ) → CutsGroup text front two equals behind → rest ≡ behind_white behind → (is_at_end rest || begins 44 rest) ≡ true → read_summary text ≡ Ok (summary_with front two equals, rest)
unfolding read_summary
group_in_place text front two equals behind rest cuts at_rest ends =
    let group = cuts.0.group in
    let white = run_of is_white behind in
    let after : behind ≡ white ++ rest = run_of-split is_white behind ∙ ap (λ t. white ++ t) (sym at_rest) in
    let spelt : text ≡ (group_text group ++ white) ++ rest = cuts.0.spelt ∙ ap (λ t. group_text group ++ t) after ∙ sym (append_assoc (group_text group) white rest) in
    let read : read_group text ≡ Ok (group, rest) = ap read_group (sym (named text behind group cuts.0.regular cuts.0.spelt)) ∙ ap (λ t. read_group (behind_white t)) spelt ∙ group_read group (group_text group ++ white) rest (group_spelled [] white group tt (run_of-passes is_white behind) cuts.0.regular) (piece_ends rest ends) in
    ap (mapped summary_of) read ∙ ap (λ s. Ok (s, rest)) (rw (cuts.1, cuts.0.two_is, cuts.0.equals_is) refl)

-- a relation of one group, and of one more that comes after the last
pub first_group : (text front : List ℕ) (two equals : Bool) (rest : List ℕ) → CutsGroup text front two equals rest → BeginsRelation text front two equals rest
first_group text front two equals rest g = record {
  before = [];
  group = g.0.group;
  regular = record { groups = (g.0.regular, tt); ascend = tt };
  last_is = g.1;
  spelt = g.0.spelt ∙ ap (λ t. t ++ rest) (sym (append-nil (group_text g.0.group)));
  two_is = or-false (has_two g.0.group) ∙ g.0.two_is;
  equals_is = and-true (list_all has_equal_bound g.0.group) ∙ g.0.equals_is;
}

pub next_group : (text last next front : List ℕ) (two equals two' equals' : Bool) (rest : List ℕ) → BeginsRelation text last two equals (codes ", " ++ next) → CutsGroup next front two' equals' rest → byte_cmp last front ≡ Less → BeginsRelation text front (two || two') (equals && equals') rest
next_group text last next front two equals two' equals' rest r g less =
    let y = r.group in
    let x = g.0.group in
    let all = append y r.before in
    record {
      before = all;
      group = x;
      regular = record {
        groups = All-append IsRegularGroup all (x ∷ []) r.regular.groups (g.0.regular, tt);
        ascend = ascends-last group_text r.before y x r.regular.ascend (rw (r.last_is, g.1) less);
      };
      last_is = g.1;
      spelt = r.spelt ∙ ap (λ t. relation_text all ++ (codes ", " ++ t)) g.0.spelt ∙ reordered (relation_text all) (group_text x) ∙ ap (λ t. t ++ rest) (sym (joined-last (codes ", ") group_text r.before y x));
      two_is = list_any-append has_two all (x ∷ []) ∙ rw (r.two_is, or-false (has_two x), g.0.two_is) refl;
      equals_is = list_all-append (list_all has_equal_bound) all (x ∷ []) ∙ rw (r.equals_is, and-true (list_all has_equal_bound x), g.0.equals_is) refl;
    }
  where
    reordered : (g t : List ℕ) → g ++ (codes ", " ++ (t ++ rest)) ≡ (g ++ (codes ", " ++ t)) ++ rest
    reordered g t = simp append_assoc refl

pub no_group : IsInPlace [] false true
no_group = record { relation = []; regular = record { groups = tt; ascend = tt }; spelt = refl; two_is = refl; equals_is = refl }

pub all_groups : (text last : List ℕ) (two equals : Bool) → BeginsRelation text last two equals [] → IsInPlace text two equals
all_groups text last two equals r = record {
  relation = append r.group r.before;
  regular = r.regular;
  spelt = r.spelt ∙ append-nil (relation_text (append r.group r.before));
  two_is = r.two_is;
  equals_is = r.equals_is;
}

-- what a text means that is canonical, and what is asked of it
pub record IsMeant (text : List ℕ) (two equals : Bool) : Type 0 where
  pub read : relation_in text ≡ Ok (meaning_in text)
  pub written : text ≡ relation_text (meaning_in text)
  pub two_is : two ≡ has_alternatives (meaning_in text)
  pub equals_is : equals ≡ only_equals (meaning_in text)

pub in_place_means : (text : List ℕ) (two equals : Bool) → IsInPlace text two equals → IsMeant text two equals
in_place_means text two equals is =
    let m = is.relation in
    let read : relation_in text ≡ Ok m = subst (λ t. relation_in t ≡ Ok m) (sym is.spelt) (relation_read (relation_text m) m (relation_spelled m is.regular)) in
    let means : meaning_in text ≡ m = ap meaning_of read in
    record {
      read = read ∙ ap Ok (sym means);
      written = is.spelt ∙ ap relation_text (sym means);
      two_is = sym is.two_is ∙ ap has_alternatives (sym means);
      equals_is = sym is.equals_is ∙ ap only_equals (sym means);
    }
