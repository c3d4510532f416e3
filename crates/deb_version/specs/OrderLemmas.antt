-- Debian's order of versions is total, and equal only of equal meanings.
use Rattle.std.proofs.Common.{◌≡◌, ◌≢◌, ℕ, ◌+◌, ◌<◌, ◌||◌, ◌↔◌, not, Option, Some, None, List, [], ◌∷◌, ◌++◌, map, refl, sym, ap, ◌∙◌, subst, IsTrue, IsFalse, arith}
use Rattle.std.specs.Char.{is_ascii_alphabetic}
use Rattle.std.specs.Cmp.{IsTotalOrder, nat_cmp_is, nat_cmp_total, on_total, then_total, tied_itself, upto}
use Rattle.std.specs.FinMap.{nat_cmp-IsAntisymmetric}
use Rattle.std.specs.List.{AllByRecursion}
use Rattle.std.specs.Ordering.{is_ge, is_gt, is_le, nat_cmp, ordering_reverse, ordering_then}
use Rattle.std.specs.declared.cmp.Ordering.{Ordering}
use Rattle.std.specs.declared.cmp.Ordering.TheVariants.{Less, Equal, Greater}
use Rattle.std.proofs.lemmas.Bool.{not-true}
use Rattle.std.proofs.lemmas.List.{append-nil}
use Rattle.std.proofs.lemmas.Bool.Decides.{nat_tests}
use Rattle.deb_version.specs.ContinuedOrder.{continued_total, then-Equal}
use Rattle.deb_version.specs.Grammar.{Components, SpellsVersion, meaning_of_components, revision_parts}
use Rattle.deb_version.specs.Order.{component_cmp, empty_part, end_rank, part_cmp, rank_of, text_cmp, version_cmp}
use Rattle.deb_version.specs.OrderLaws.{FirstDifferenceDecides, HasTexts}
use Rattle.deb_version.specs.Parts.{AreCuts, Cut, HasParts, Meaning, Part, part_of}
use Rattle.deb_version.specs.PartsLemmas.{has_parts}

pub text_total : IsTotalOrder text_cmp
text_total = on_total (map rank_of) (continued_total nat_cmp_total end_rank)

pub part_total : IsTotalOrder part_cmp
part_total = then_total (on_total (λ p. p.0) text_total) (on_total (λ p. p.1) nat_cmp_total)

pub component_total : IsTotalOrder component_cmp
component_total = continued_total part_total empty_part

-- The order of versions is total.
pub version_total : IsTotalOrder version_cmp
version_total =
    then_total (on_total (λ m. m.epoch) nat_cmp_total)
    (then_total (on_total (λ m. m.upstream) component_total)
    (on_total (λ m. m.revision) component_total))

-- ---- what a total order gives

le-not_gt : (r : Ordering) → is_le r ≡ not (is_gt r)
le-not_gt Less = refl
le-not_gt Equal = refl
le-not_gt Greater = refl

le-reverse : (r : Ordering) → is_le (ordering_reverse r) ≡ is_ge r
le-reverse Less = refl
le-reverse Equal = refl
le-reverse Greater = refl

le_or_reverse : (r : Ordering) → IsTrue (is_le r || is_le (ordering_reverse r))
le_or_reverse Less = refl
le_or_reverse Equal = refl
le_or_reverse Greater = refl

module _ {K : Type 0} {R : K → K → Ordering} (o : IsTotalOrder R) where
  pub le_total : (a b : K) → IsTrue (is_le (R a b) || is_le (R b a))
  le_total a b = subst (λ r. IsTrue (is_le (R a b) || is_le r)) (sym (o.antisymm b a))
      (le_or_reverse (R a b))

  pub le_trans : (a b c : K) → IsTrue (is_le (R a b)) → IsTrue (is_le (R b c))
      → IsTrue (is_le (R a c))
  le_trans a b c p q = le-not_gt (R a c) ∙ ap not (upto o a b c
      (not-true (is_gt (R a b)) (sym (le-not_gt (R a b)) ∙ p))
      (not-true (is_gt (R b c)) (sym (le-not_gt (R b c)) ∙ q)))

  ge_turned : (a b : K) → is_le (R b a) ≡ is_ge (R a b)
  ge_turned a b = ap is_le (o.antisymm b a) ∙ le-reverse (R a b)

  pub ge_trans : (a b c : K) → IsTrue (is_ge (R a b)) → IsTrue (is_ge (R b c))
      → IsTrue (is_ge (R a c))
  ge_trans a b c p q = sym (ge_turned a c) ∙ le_trans c b a (ge_turned b c ∙ q) (ge_turned a b ∙ p)

  pub equal_trans : (a b c : K) → R a b ≡ Equal → R b c ≡ Equal → R a c ≡ Equal
  equal_trans a b c p q = o.congr a b c p ∙ q

-- ---- the ranks of bytes

rank-end : (b : ℕ) → b ≢ 126 → end_rank < rank_of b
rank-end b other = grind (arith, nat_tests)

rank-letter : (b : ℕ) → IsTrue (is_ascii_alphabetic b) → rank_of b ≡ b + 1
rank-letter b letter = grind (arith, nat_tests)

rank-other : (b : ℕ) → IsFalse (is_ascii_alphabetic b) → b ≢ 126 → rank_of b ≡ b + 257
rank-other b other no_tilde = grind (arith, nat_tests)

letter_code : (b : ℕ) → IsTrue (is_ascii_alphabetic b) → b < 123
letter_code b letter = grind (arith, nat_tests)

-- bytes with the same rank are the same
rank-same : (a b : ℕ) → rank_of a ≡ rank_of b → a ≡ b
rank-same a b e = grind (arith, nat_tests)

-- ---- the first difference of two texts

-- what two texts begin with alike doesn't decide
text_cmp-front : (front s t : List ℕ) → text_cmp (front ++ s) (front ++ t) ≡ text_cmp s t
text_cmp-front [] s t = refl
text_cmp-front (b ∷ front) s t =
    ap (λ o. ordering_then o (text_cmp (front ++ s) (front ++ t)))
    (tied_itself nat_cmp_total (rank_of b)) ∙ text_cmp-front front s t

-- a lower rank decides
pub lower_byte : (front s t : List ℕ) (a b : ℕ) → rank_of a < rank_of b
    → text_cmp (front ++ a ∷ s) (front ++ b ∷ t) ≡ Less
lower_byte front s t a b lower =
    text_cmp-front front (a ∷ s) (b ∷ t) ∙ ap (λ o. ordering_then o (text_cmp s t))
    (sym (nat_cmp_is (rank_of a) (rank_of b) Less lower))

pub lower_end : (front t : List ℕ) (b : ℕ) → end_rank < rank_of b
    → text_cmp front (front ++ b ∷ t) ≡ Less
lower_end front t b lower =
    ap (λ l. text_cmp l (front ++ b ∷ t)) (sym (append-nil front)) ∙ text_cmp-front front [] (b ∷ t)
    ∙ ap (λ o. ordering_then o (text_cmp [] t)) (sym (nat_cmp_is end_rank (rank_of b) Less lower))

pub tilde_end : (front s : List ℕ) → text_cmp (front ++ 126 ∷ s) front ≡ Less
tilde_end front s = ap (text_cmp (front ++ 126 ∷ s)) (sym (append-nil front))
    ∙ text_cmp-front front (126 ∷ s) []

pub first_difference : FirstDifferenceDecides
first_difference = record {
  tilde_before_end = tilde_end;
  tilde_before_byte = λ front s t b other. lower_byte front s t 126 b
      (omega (arith, rank-end b other));
  end_before_byte = λ front t b other. lower_end front t b (rank-end b other);
  letter_before_other = λ front s t a b letter other no_tilde. lower_byte front s t a b
      (omega (arith, rank-letter a letter, letter_code a letter, rank-other b other no_tilde));
  letters_by_code = λ front s t a b letter_a letter_b less. lower_byte front s t a b
      (omega (arith, rank-letter a letter_a, rank-letter b letter_b));
  others_by_code = λ front s t a b other_a other_b no_tilde_a no_tilde_b less. lower_byte front s t
      a b (omega (arith, rank-other a other_a no_tilde_a, rank-other b other_b no_tilde_b));
}

-- ---- equal only of equal meanings

text_same : (a b : List ℕ) → text_cmp a b ≡ Equal → a ≡ b
text_same [] [] e = refl
text_same [] (c ∷ cs) e = absurd (no_end c (nat_cmp-IsAntisymmetric _ _
    (then-Equal (nat_cmp end_rank (rank_of c)) (text_cmp [] cs) e).0))
  where
    no_end : (c : ℕ) → end_rank ≡ rank_of c → ⊥
    no_end c e = grind (arith, nat_tests)
text_same (b ∷ bs) [] e = absurd (no_end b (nat_cmp-IsAntisymmetric _ _
    (then-Equal (nat_cmp (rank_of b) end_rank) (text_cmp bs []) e).0))
  where
    no_end : (c : ℕ) → rank_of c ≡ end_rank → ⊥
    no_end c e = grind (arith, nat_tests)
text_same (b ∷ bs) (c ∷ cs) e =
    let both = then-Equal (nat_cmp (rank_of b) (rank_of c)) (text_cmp bs cs) e in
    let first : b ≡ c = rank-same b c (nat_cmp-IsAntisymmetric _ _ both.0) in
    let rest : bs ≡ cs = text_same bs cs both.1 in
    cc

part_same : (p q : Part) → part_cmp p q ≡ Equal → p ≡ q
part_same p q e =
    let both = then-Equal (text_cmp p.0 q.0) (nat_cmp p.1 q.1) e in
    let texts = text_same p.0 q.0 both.0 in
    let numbers = nat_cmp-IsAntisymmetric p.1 q.1 both.1 in
    λ i. (texts i, numbers i)

-- the text of each part but the first isn't empty
abbrev pub HaveTexts : List Part → Type 0
HaveTexts parts = AllByRecursion (λ p. p.0 ≢ []) parts

rest_same : (ps qs : List Part) → HaveTexts ps → HaveTexts qs → component_cmp ps qs ≡ Equal
    → ps ≡ qs
rest_same [] [] t u e = refl
rest_same [] (q ∷ qs) t u e = absurd (u.0 (sym
    (ap (λ p. p.0) (part_same empty_part q (then-Equal (part_cmp empty_part q) (component_cmp [] qs)
    e).0))))
rest_same (p ∷ ps) [] t u e = absurd (t.0 (ap (λ p. p.0)
    (part_same p empty_part (then-Equal (part_cmp p empty_part) (component_cmp ps []) e).0)))
rest_same (p ∷ ps) (q ∷ qs) t u e =
    let both = then-Equal (part_cmp p q) (component_cmp ps qs) e in
    let first = part_same p q both.0 in
    let rest = rest_same ps qs t.1 u.1 both.1 in
    λ i. first i ∷ rest i

-- parts of a text: a first one, and others with texts
abbrev pub IsComponent : List Part → Type 0
IsComponent parts = (first : Part) × (rest : List Part) × HaveTexts rest × (parts ≡ first ∷ rest)

HaveTexts-from_cuts : (cut : Cut) (cuts : List Cut) → AreCuts (cut ∷ cuts)
    → HaveTexts (map part_of cuts)
HaveTexts-from_cuts cut [] are = tt
HaveTexts-from_cuts cut (next ∷ cuts) are = (are.3, HaveTexts-from_cuts next cuts are.4)

pub component_of_text : (text : List ℕ) (parts : List Part) → HasParts text parts
    → IsComponent parts
component_of_text text parts h = of_cuts h.0 h.1 h.3
  where
    of_cuts : (cuts : List Cut) → AreCuts cuts → parts ≡ map part_of cuts → IsComponent parts
    of_cuts [] are e = absurd are
    of_cuts (cut ∷ cuts) are e = (
      part_of cut,
      map part_of cuts,
      HaveTexts-from_cuts cut cuts are,
      e,
    )

component_same : (ps qs : List Part) → IsComponent ps → IsComponent qs
    → component_cmp ps qs ≡ Equal → ps ≡ qs
component_same ps qs p q e =
    let both = then-Equal (part_cmp p.0 q.0) (component_cmp p.1 q.1)
    (ap (λ l. component_cmp l (q.0 ∷ q.1)) (sym p.3) ∙ ap (component_cmp ps) (sym q.3) ∙ e) in
    let first = part_same p.0 q.0 both.0 in
    let rest = rest_same p.1 q.1 p.2 q.2 both.1 in
    p.3 ∙ (λ i. first i ∷ rest i) ∙ sym q.3

-- Versions are equal only if they mean the same.
pub version_same : (a b : Meaning) → HasTexts a → HasTexts b → (version_cmp a b ≡ Equal) ↔ (a ≡ b)
version_same a b s t = (same, λ e. ap (version_cmp a) (sym e) ∙ tied_itself version_total a)
  where
    same : version_cmp a b ≡ Equal → a ≡ b
    same e =
        let epochs = then-Equal (nat_cmp a.epoch b.epoch)
        (ordering_then (component_cmp a.upstream b.upstream)
        (component_cmp a.revision b.revision)) e in
        let components = then-Equal (component_cmp a.upstream b.upstream)
        (component_cmp a.revision b.revision) epochs.1 in
        let epoch = nat_cmp-IsAntisymmetric a.epoch b.epoch epochs.0 in
        let upstream = component_same a.upstream b.upstream (component_of_text _ _ s.upstream.1)
        (component_of_text _ _ t.upstream.1) components.0 in
        let revision = component_same a.revision b.revision (component_of_text _ _ s.revision.1)
        (component_of_text _ _ t.revision.1) components.1 in
        λ i. record { epoch = epoch i; upstream = upstream i; revision = revision i }

-- components mean the parts of texts, and so does what a text spells
pub has_texts : (c : Components) → HasTexts (meaning_of_components c)
has_texts c = record {
  upstream = (c.upstream, has_parts c.upstream);
  revision = of_revision
      c.revision;
}
  where
    of_revision : (r : Option (List ℕ)) → (text : List ℕ) × HasParts text (revision_parts r)
    of_revision None = ([], has_parts [])
    of_revision (Some revision) = (revision, has_parts revision)

pub HasTexts-from_spelled : (text : List ℕ) (m : Meaning) → SpellsVersion text m → HasTexts m
HasTexts-from_spelled text m h = subst HasTexts (sym h.means) (has_texts h.components)
