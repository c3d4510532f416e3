-- Which paragraphs win of a list, of its winners, and of two lists.
use Rattle.std.proofs.Common.{◌≡◌, ℕ, Bool, true, false, ◌&&◌, ◌||◌, not, cond, List, [], ◌∷◌, ◌++◌, Option, None, Some, refl, sym, ap, ◌∙◌, inl, inr, subst}
use Rattle.std.specs.List.{filter, list_any}
use Rattle.std.specs.Str.{bytes_eq}
use Rattle.std.proofs.lemmas.Bool.{false≢true}
use Rattle.std.proofs.lemmas.Slice.Eq.{bytes_eq-Decides}
use Rattle.deb_version.specs.Parts.{Meaning as Version}
use Rattle.deb_latest.specs.BestOf.{AreNumbered, best_in}
use Rattle.deb_latest.specs.Laws.{HasOneWinner, IsLatest}
use Rattle.deb_latest.specs.Members.{Member}
use Rattle.deb_latest.specs.Winning.{Entry, beats, is_better, is_considered, winners_in, wins}
use Rattle.deb_latest.proofs.BestOf.{HoldsBest, IsBest, member-none}
use Rattle.deb_latest.proofs.Ordered.{not-gt}
use Rattle.deb_latest.proofs.Wins.{and-parts, best-holds, not-true, win-best}

in-filter : (p : Entry → Bool) (e : Entry) (xs : List Entry) → Member e xs → p e ≡ true → Member e (filter p xs)
in-filter p e [] in_it passes = in_it
in-filter p e (x ∷ xs) (inl is) passes = subst (λ v. Member e (cond v (x ∷ filter p xs) (filter p xs))) (sym (ap p is ∙ passes)) (inl is)
in-filter p e (x ∷ xs) (inr more) passes = go (p x) (in-filter p e xs more passes)
  where
    go : (v : Bool) → Member e (filter p xs) → Member e (cond v (x ∷ filter p xs) (filter p xs))
    go true later = inr later
    go false later = later

from-filter : (p : Entry → Bool) (e : Entry) (xs : List Entry) → Member e (filter p xs) → Member e xs × (p e ≡ true)
from-filter p e [] in_it = absurd in_it
from-filter p e (x ∷ xs) in_it = go (p x) refl (λ later. let more = from-filter p e xs later in (inr more.0, more.1)) in_it
  where
    go : (v : Bool) → p x ≡ v → (Member e (filter p xs) → Member e (x ∷ xs) × (p e ≡ true)) → Member e (cond v (x ∷ filter p xs) (filter p xs)) → Member e (x ∷ xs) × (p e ≡ true)
    go true is rest (inl same) = (inl same, ap p (sym same) ∙ is)
    go true is rest (inr later) = rest later
    go false is rest later = rest later

pub or-parts : (a b : Bool) → (a || b) ≡ false → (a ≡ false) × (b ≡ false)
or-parts true b h = absurd (false≢true (sym h))
or-parts false b h = (refl, h)

pub none-filter : (f p : Entry → Bool) (xs : List Entry) → list_any f xs ≡ false → list_any f (filter p xs) ≡ false
none-filter f p [] none = refl
none-filter f p (x ∷ xs) none =
    let both = or-parts (f x) (list_any f xs) none in
    go (p x) both.0 (none-filter f p xs both.1)
  where
    go : (v : Bool) → f x ≡ false → list_any f (filter p xs) ≡ false → list_any f (cond v (x ∷ filter p xs) (filter p xs)) ≡ false
    go true here later = ap (λ b. b || list_any f (filter p xs)) here ∙ later
    go false here later = later

pub filter-append : (p : Entry → Bool) (xs ys : List Entry) → filter p (xs ++ ys) ≡ filter p xs ++ filter p ys
filter-append p [] ys = refl
filter-append p (x ∷ xs) ys = ap (λ l. cond (p x) (x ∷ l) l) (filter-append p xs ys) ∙ go (p x)
  where
    go : (v : Bool) → cond v (x ∷ (filter p xs ++ filter p ys)) (filter p xs ++ filter p ys) ≡ cond v (x ∷ filter p xs) (filter p xs) ++ filter p ys
    go true = refl
    go false = refl

-- a filter of what another keeps, where on the list one test is both
pub filter-both : (p q r : Entry → Bool) (xs : List Entry) → ((e : Entry) → Member e xs → r e ≡ (p e && q e)) → filter q (filter p xs) ≡ filter r xs
filter-both p q r [] same = refl
filter-both p q r (x ∷ xs) same = go (p x) (q x) refl (r x) (same x (inl refl)) (filter-both p q r xs (λ e more. same e (inr more)))
  where
    go : (v w : Bool) → q x ≡ w → (u : Bool) → u ≡ (v && w) → filter q (filter p xs) ≡ filter r xs → filter q (cond v (x ∷ filter p xs) (filter p xs)) ≡ cond u (x ∷ filter r xs) (filter r xs)
    go false w qs u us rest = rest ∙ ap (λ u. cond u (x ∷ filter r xs) (filter r xs)) (sym us)
    go true true qs u us rest = ap (λ w. cond w (x ∷ filter q (filter p xs)) (filter q (filter p xs))) qs ∙ ap (λ l. x ∷ l) rest ∙ ap (λ u. cond u (x ∷ filter r xs) (filter r xs)) (sym us)
    go true false qs u us rest = ap (λ w. cond w (x ∷ filter q (filter p xs)) (filter q (filter p xs))) qs ∙ rest ∙ ap (λ u. cond u (x ∷ filter r xs) (filter r xs)) (sym us)

both-true : (a b : Bool) → a ≡ true → b ≡ true → (a && b) ≡ true
both-true true b h k = k
both-true false b h k = h

pub both-iff : (a b c : Bool) → (a ≡ true → (b ≡ true) × (c ≡ true)) → (b ≡ true → c ≡ true → a ≡ true) → a ≡ (b && c)
both-iff true b c f g = sym (both-true b c (f refl).0 (f refl).1)
both-iff false true true f g = g refl refl
both-iff false true false f g = refl
both-iff false false c f g = refl

module _ (limit : Option Version) where
  abbrev beaten : List Entry → Entry → Bool
  beaten entries f = list_any (λ e. beats limit e f) entries

  pub won : (entries : List Entry) (f : Entry) → is_considered limit f ≡ true → beaten entries f ≡ false → wins limit entries f ≡ true
  won entries f considered unbeaten = both-true (is_considered limit f) (not (beaten entries f)) considered (ap not unbeaten)

  pub parts : (entries : List Entry) (f : Entry) → wins limit entries f ≡ true → (is_considered limit f ≡ true) × (beaten entries f ≡ false)
  parts entries f winning = let p = and-parts limit (is_considered limit f) (not (beaten entries f)) winning in (p.0, not-true limit (beaten entries f) p.1)

  -- the best of a package wins
  pub best-wins : (key : List ℕ) (entries : List Entry) (b : Entry) → IsBest limit key entries b → Member b (winners_in limit entries)
  best-wins key entries b best = in-filter (wins limit entries) b entries best.member (won entries b best.considered best.unbeaten)

  pub one-winner : (entries : List Entry) → AreNumbered 0 entries → (e : Entry) → Member e entries → is_considered limit e ≡ true → HasOneWinner limit entries e.key
  one-winner entries numbered e in_it considered = go (best_in limit e.key entries) refl (best-holds limit e.key entries numbered)
    where
      of_it : (a c : Bool) → (a && c) ≡ false → a ≡ true → c ≡ true → ⊥
      of_it true true h s t = false≢true (sym h)
      of_it true false h s t = false≢true t
      of_it false c h s t = false≢true s

      go : (o : Option Entry) → best_in limit e.key entries ≡ o → HoldsBest limit e.key entries o → HasOneWinner limit entries e.key
      go None is none = absurd (of_it (bytes_eq e.key e.key) (is_considered limit e) (member-none (λ x. bytes_eq x.key e.key && is_considered limit x) e entries none in_it) ((bytes_eq-Decides e.key e.key).1 refl) considered)
      go (Some b) is best = record {
        winner = b;
        member = best-wins e.key entries b best;
        of = best.of;
        only = λ v in_winners same.
            let found = from-filter (wins limit entries) v entries in_winners in
            let other = win-best limit entries numbered v found.0 found.1 in
            let one : Some other.0 ≡ Some b = sym other.1 ∙ ap (λ k. best_in limit k entries) same ∙ is in
            let at : other.0 ≡ b = cc in
            sym other.2 ∙ ap (λ x. x.number) at;
      }

  pub is-latest : (entries : List Entry) (e : Entry) → Member e (winners_in limit entries) → IsLatest limit entries e
  is-latest entries e in_winners =
      let found = from-filter (wins limit entries) e entries in_winners in
      let p = parts entries e found.1 in
      record {
        member = found.0;
        considered = p.0;
        latest = λ other in_it considered same. not-gt other e (third (bytes_eq other.key e.key) (is_considered limit other) (is_better other e) (member-none (λ x. beats limit x e) other entries p.1 in_it) ((bytes_eq-Decides other.key e.key).1 same) considered);
      }
    where
      third : (a c d : Bool) → (a && (c && d)) ≡ false → a ≡ true → c ≡ true → d ≡ false
      third true true d h s t = h
      third true false d h s t = absurd (false≢true t)
      third false c d h s t = absurd (false≢true s)

  pub winners-again : (entries : List Entry) → winners_in limit (winners_in limit entries) ≡ winners_in limit entries
  winners-again entries =
      filter-both (wins limit entries) (wins limit (winners_in limit entries)) (wins limit entries) entries
      (λ e in_it. both-iff (wins limit entries e) (wins limit entries e) (wins limit (winners_in limit entries) e)
      (λ winning. let p = parts entries e winning in (winning, won (winners_in limit entries) e p.0 (none-filter (λ x. beats limit x e) (wins limit entries) entries p.1)))
      (λ winning also. winning))
