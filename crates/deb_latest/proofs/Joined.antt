-- Which paragraphs win of two lists: those that win among the winners of each.
use Rattle.std.proofs.Common.{◌≡◌, ℕ, ◌+◌, Bool, true, false, ◌&&◌, ◌||◌, not, nat_lt, List, [], ◌∷◌, ◌++◌, Option, None, Some, refl, sym, ap, ◌∙◌, inl, inr, arith}
use Rattle.std.specs.List.{filter, list_any}
use Rattle.std.specs.Ordering.{is_eq, is_gt, ordering_reverse}
use Rattle.std.specs.Str.{bytes_eq}
use Rattle.std.specs.declared.cmp.Ordering.{Ordering}
use Rattle.std.specs.declared.cmp.Ordering.TheVariants.{Less, Equal, Greater}
use Rattle.std.proofs.lemmas.Bool.{cases_Bool, false≢true}
use Rattle.std.proofs.lemmas.List.Folds.{list_any-append}
use Rattle.std.proofs.lemmas.Slice.Eq.{bytes_eq-Decides}
use Rattle.deb_version.specs.Order.{version_cmp}
use Rattle.deb_version.specs.OrderLemmas.{version_total}
use Rattle.deb_version.specs.Parts.{Meaning as Version}
use Rattle.deb_latest.specs.BestOf.{AreNumbered, best_in}
use Rattle.deb_latest.specs.Members.{Member}
use Rattle.deb_latest.specs.Winning.{Entry, beats, is_better, is_considered, winners_in, wins}
use Rattle.deb_latest.proofs.BestOf.{HoldsBest, member-none}
use Rattle.deb_latest.proofs.Filtered.{best-wins, both-iff, filter-append, filter-both, none-filter, or-parts, parts, won}
use Rattle.deb_latest.proofs.Ordered.{not-gt, reversed}
use Rattle.deb_latest.proofs.Wins.{any-member, best-of, member-any}

gt-better : (b e : Entry) → version_cmp b.version e.version ≡ Greater → is_better b e ≡ true
gt-better b e is = ap (λ r. is_gt r || (is_eq r && nat_lt b.number e.number)) is

turned-less : (a b : Version) → version_cmp a b ≡ Less → version_cmp b a ≡ Greater
turned-less a b less = reversed a b ∙ ap ordering_reverse less

by-less : (b o e : Version) (t : Bool) (r : Ordering) → version_cmp o b ≡ Less → version_cmp o e ≡ r → (is_gt r || (is_eq r && t)) ≡ true → version_cmp b e ≡ Greater
by-less b o e t Less less is better = absurd (false≢true better)
by-less b o e t Equal less is better = turned-less e b (sym (version_total.congr o e b is) ∙ less)
by-less b o e t Greater less is better = turned-less e b (version_total.trans e o b (reversed o e ∙ ap ordering_reverse is) less)

tie : (r : Ordering) (b o e : ℕ) → nat_lt o b ≡ false → (is_gt r || (is_eq r && nat_lt o e)) ≡ true → (is_gt r || (is_eq r && nat_lt b e)) ≡ true
tie Less b o e upto better = absurd (false≢true better)
tie Equal b o e upto better = grind (arith, upto, better)
tie Greater b o e upto better = refl

-- what isn't beaten by one that is better than a third is better than the third
better-trans : (b o e : Entry) → is_better o b ≡ false → is_better o e ≡ true → is_better b e ≡ true
better-trans b o e isnt is_it = go (version_cmp o.version b.version) refl
  where
    go : (s : Ordering) → version_cmp o.version b.version ≡ s → is_better b e ≡ true
    go Less is = gt-better b e (by-less b.version o.version e.version (nat_lt o.number e.number) (version_cmp o.version e.version) is refl is_it)
    go Equal is =
        ap (λ r. is_gt r || (is_eq r && nat_lt b.number e.number)) (sym (version_total.congr o.version b.version e.version is))
        ∙ tie (version_cmp o.version e.version) b.number o.number e.number (sym (ap (λ r. is_gt r || (is_eq r && nat_lt o.number b.number)) is) ∙ isnt) is_it
    go Greater is = absurd (false≢true (sym (not-gt o b isnt) ∙ ap is_gt is))

numbered-left : (n : ℕ) (xs ys : List Entry) → AreNumbered n (xs ++ ys) → AreNumbered n xs
numbered-left n [] ys is = tt
numbered-left n (x ∷ xs) ys is = (is.0, numbered-left (n + 1) xs ys is.1)

numbered-right : (n : ℕ) (xs ys : List Entry) → AreNumbered n (xs ++ ys) → (m : ℕ) × AreNumbered m ys
numbered-right n [] ys is = (n, is)
numbered-right n (x ∷ xs) ys is = numbered-right (n + 1) xs ys is.1

all-three : (a c d : Bool) → (a && (c && d)) ≡ true → (a ≡ true) × ((c ≡ true) × (d ≡ true))
all-three true true d h = (refl, (refl, h))
all-three true false d h = absurd (false≢true h)
all-three false c d h = absurd (false≢true h)

from-three : (a c d : Bool) → a ≡ true → c ≡ true → d ≡ true → (a && (c && d)) ≡ true
from-three true true d s t u = u
from-three true false d s t u = t
from-three false c d s t u = s

third : (a c d : Bool) → (a && (c && d)) ≡ false → a ≡ true → c ≡ true → d ≡ false
third true true d h s t = h
third true false d h s t = absurd (false≢true t)
third false c d h s t = absurd (false≢true s)

of_it : (a c : Bool) → (a && c) ≡ false → a ≡ true → c ≡ true → ⊥
of_it true true h s t = false≢true (sym h)
of_it true false h s t = false≢true t
of_it false c h s t = false≢true s

module _ (limit : Option Version) where
  abbrev beaten : List Entry → Entry → Bool
  beaten entries f = list_any (λ e. beats limit e f) entries

  -- what one of a list beats a winner of the list beats
  winner-beats : (n : ℕ) (entries : List Entry) → AreNumbered n entries → (o e : Entry) → Member o entries → beats limit o e ≡ true → beaten (winners_in limit entries) e ≡ true
  winner-beats n entries numbered o e in_it it_beats = go (best_in limit o.key entries) (best-of limit o.key n entries numbered)
    where
      p : (bytes_eq o.key e.key ≡ true) × ((is_considered limit o ≡ true) × (is_better o e ≡ true))
      p = all-three (bytes_eq o.key e.key) (is_considered limit o) (is_better o e) it_beats

      go : (b : Option Entry) → HoldsBest limit o.key entries b → beaten (winners_in limit entries) e ≡ true
      go None none = absurd (of_it (bytes_eq o.key o.key) (is_considered limit o) (member-none (λ x. bytes_eq x.key o.key && is_considered limit x) o entries none in_it) ((bytes_eq-Decides o.key o.key).1 refl) p.1.0)
      go (Some b) best =
          member-any limit (λ x. beats limit x e) b (winners_in limit entries) (best-wins limit o.key entries b best)
          (from-three (bytes_eq b.key e.key) (is_considered limit b) (is_better b e)
          (ap (λ k. bytes_eq k e.key) best.of ∙ p.0)
          best.considered
          (better-trans b o e (third (bytes_eq o.key b.key) (is_considered limit o) (is_better o b) (member-none (λ x. beats limit x b) o entries best.unbeaten in_it) ((bytes_eq-Decides o.key b.key).1 (sym best.of)) p.1.0) p.1.1))

  same-beaten : (n : ℕ) (entries : List Entry) → AreNumbered n entries → (e : Entry) → beaten (winners_in limit entries) e ≡ beaten entries e
  same-beaten n entries numbered e = elim (cases_Bool (beaten entries e)) [
    | inl some ↦ let o = any-member limit (λ x. beats limit x e) entries some in winner-beats n entries numbered o.0 e o.1 o.2 ∙ sym some
    | inr none ↦ none-filter (λ x. beats limit x e) (wins limit entries) entries none ∙ sym none
  ]

  module _ (first second : List Entry) (numbered : AreNumbered 0 (first ++ second)) where
    abbrev joined : List Entry
    joined = winners_in limit first ++ winners_in limit second

    -- what wins of both wins among the winners
    same-wins : (e : Entry) → wins limit joined e ≡ wins limit (first ++ second) e
    same-wins e = ap (λ v. is_considered limit e && not v)
        (list_any-append (λ x. beats limit x e) (winners_in limit first) (winners_in limit second)
        ∙ ap (λ v. v || beaten (winners_in limit second) e) (same-beaten 0 first (numbered-left 0 first second numbered) e)
        ∙ ap (λ v. beaten first e || v) (let right = numbered-right 0 first second numbered in same-beaten right.0 second right.1 e)
        ∙ sym (list_any-append (λ x. beats limit x e) first second))

    wins-parts : (e : Entry) → wins limit (first ++ second) e ≡ true → (is_considered limit e ≡ true) × ((beaten first e ≡ false) × (beaten second e ≡ false))
    wins-parts e winning =
        let p = parts limit (first ++ second) e winning in
        (p.0, or-parts (beaten first e) (beaten second e) (sym (list_any-append (λ x. beats limit x e) first second) ∙ p.1))

    left : filter (wins limit joined) (winners_in limit first) ≡ filter (wins limit (first ++ second)) first
    left =
        filter-both (wins limit first) (wins limit joined) (wins limit (first ++ second)) first
        (λ e in_it. both-iff (wins limit (first ++ second) e) (wins limit first e) (wins limit joined e)
        (λ winning. let p = wins-parts e winning in (won limit first e p.0 p.1.0, same-wins e ∙ winning))
        (λ here also. sym (same-wins e) ∙ also))

    right : filter (wins limit joined) (winners_in limit second) ≡ filter (wins limit (first ++ second)) second
    right =
        filter-both (wins limit second) (wins limit joined) (wins limit (first ++ second)) second
        (λ e in_it. both-iff (wins limit (first ++ second) e) (wins limit second e) (wins limit joined e)
        (λ winning. let p = wins-parts e winning in (won limit second e p.0 p.1.1, same-wins e ∙ winning))
        (λ here also. sym (same-wins e) ∙ also))

    pub winners-joined : winners_in limit (first ++ second) ≡ winners_in limit joined
    winners-joined =
        filter-append (wins limit (first ++ second)) first second
        ∙ ap (λ l. l ++ filter (wins limit (first ++ second)) second) (sym left)
        ∙ ap (λ l. filter (wins limit joined) (winners_in limit first) ++ l) (sym right)
        ∙ sym (filter-append (wins limit joined) (winners_in limit first) (winners_in limit second))
