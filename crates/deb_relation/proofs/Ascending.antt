-- Members that are put into a set keep it ascending, each once.
use Rattle.std.proofs.Common.{◌≡◌, ℕ, zero, suc, List, [], ◌∷◌, length, Option, Some, None, Ok, Err, ap, ◌∙◌, subst, refl}
use Rattle.std.specs.Ordering.{ordering_reverse}
use Rattle.std.proofs.lemmas.Cmp.{nat_list_cmp_total}
use Rattle.std.specs.declared.cmp.Ordering.{Ordering}
use Rattle.std.specs.declared.cmp.Ordering.TheVariants.{Less, Equal, Greater}
use Rattle.deb_relation.specs.Laws.{Ascends}
use Rattle.deb_relation.specs.Meaning.{Group, Relation}
use Rattle.deb_relation.specs.Reading.{Reading, Next, and_next, gathered, gather, next_piece, put_piece, placed, read_relation, relation_in}
use Rattle.deb_relation.specs.Sets.{byte_cmp, by_order, insert_by}
use Rattle.deb_relation.specs.Texts.{group_text}

less_from_greater : (a b : List ℕ) → byte_cmp a b ≡ Greater → byte_cmp b a ≡ Less
less_from_greater a b g = nat_list_cmp_total.antisymm b a ∙ ap ordering_reverse g

module _ {A : Type 0} (text : A → List ℕ) (x : A) where
  -- a member that comes after the first
  under : (y : A) (ys : List A) → Ascends text (y ∷ ys) → byte_cmp (text x) (text y) ≡ Greater → Ascends text (y ∷ insert_by text x ys)
  under y [] a g = (less_from_greater (text x) (text y) g, tt)
  under y (z ∷ zs) a g = by_cases (under z zs a.1) (byte_cmp (text x) (text z)) refl
    where
      by_cases : (byte_cmp (text x) (text z) ≡ Greater → Ascends text (z ∷ insert_by text x zs)) → (o : Ordering) → byte_cmp (text x) (text z) ≡ o → Ascends text (y ∷ by_order o (x ∷ z ∷ zs) (z ∷ zs) (z ∷ insert_by text x zs))
      by_cases more Less e = (less_from_greater (text x) (text y) g, (e, a.1))
      by_cases more Equal e = a
      by_cases more Greater e = (a.0, more e)

  pub ascends-insert_by : (ys : List A) → Ascends text ys → Ascends text (insert_by text x ys)
  ascends-insert_by [] a = tt
  ascends-insert_by (y ∷ ys) a = by_cases (byte_cmp (text x) (text y)) refl
    where
      by_cases : (o : Ordering) → byte_cmp (text x) (text y) ≡ o → Ascends text (by_order o (x ∷ y ∷ ys) (y ∷ ys) (y ∷ insert_by text x ys))
      by_cases Less e = (e, a)
      by_cases Equal e = a
      by_cases Greater e = under y ys a e

-- what holds of all that is put together holds of what is gathered
abbrev pub Holds : {S : Type 0} → (S → Type 0) → Reading S → Type 0
Holds P (Ok p) = P p.0
Holds P (Err stopped) = Unit {0}

module _ {A S : Type 0} (step : List ℕ → Next A) (put : A → S → S) (P : S → Type 0) (keeps : (a : A) (all : S) → P all → P (put a all)) where
  holds-gathered : (n : ℕ) (all : S) (rest : List ℕ) → P all → Holds P (gathered step put n all rest)
  holds-gathered zero all rest p = p
  holds-gathered (suc n) all rest p = more (holds-gathered n) (step rest)
    where
      more : ((all' : S) (rest' : List ℕ) → P all' → Holds P (gathered step put n all' rest')) → (next : Next A) → Holds P (and_next next (Ok (all, rest)) (λ a behind. gathered step put n (put a all) behind))
      more same (Err stopped) = tt
      more same (Ok None) = p
      more same (Ok (Some q)) = same (put q.0 all) q.1 (keeps q.0 all p)

  pub holds-gather : (all : S) (rest : List ℕ) → P all → Holds P (gather step put all rest)
  unfolding gather
  holds-gather all rest p = holds-gathered (length rest) all rest p

ascends-put_piece : (piece : Option Group) (groups : Relation) → Ascends group_text groups → Ascends group_text (put_piece piece groups)
ascends-put_piece None groups a = a
ascends-put_piece (Some group) groups a = ascends-insert_by group_text group groups a

pub groups_ascend : (text : List ℕ) (m : Relation) → relation_in text ≡ Ok m → Ascends group_text m
unfolding relation_in read_relation
groups_ascend text m is = from (gather next_piece put_piece [] text) (holds-gather next_piece put_piece (Ascends group_text) ascends-put_piece [] text tt) is
  where
    from : (r : Reading Relation) → Holds (Ascends group_text) r → placed (length text) r ≡ Ok m → Ascends group_text m
    from (Ok p) h e = let same : p.0 ≡ m = cc in subst (Ascends group_text) same h
    from (Err stopped) h e = absurd cc
