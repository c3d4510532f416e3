-- The values of the paragraphs that were given of a file, and its meaning if these are all.
use Rattle.deb_control.proofs.Common.{◌≡◌, ℕ, suc, List, [], ◌∷◌, ◌++◌, length, map, refl, sym, ap, subst, Seen, Doc, ValueMeaning, SpellsValue, value_text, value_law, entries_of, Meaning, AreValuesOf, Pairwise, SpellsEntries, SpellsEntry, ValueEntries}
use Rattle.deb_control.specs.Documents.{Accepted}
use Rattle.deb_control.specs.GivenParagraphs.{bodies_built, bodies_seen}
use Rattle.deb_control.proofs.CheckedSoFar.{is_all_of}
use Rattle.deb_control.proofs.ShownSoFar.{ShownAll}
use Rattle.deb_control.proofs.ValueBodies.{bodies_of-spelled, one_list}

-- one pair more
pub pairwise-push : {A B : Type 0} (R : A → B → Type 0) (xs : List A) (ys : List B) (x : A) (y : B) → Pairwise R xs ys → R x y → Pairwise R (xs ++ x ∷ []) (ys ++ y ∷ [])
pairwise-push R [] [] x y all one = (one, tt)
pairwise-push R [] (b ∷ ys) x y all one = absurd all
pairwise-push R (a ∷ xs) [] x y all one = absurd all
pairwise-push R (a ∷ xs) (b ∷ ys) x y all one = (all.0, pairwise-push R xs ys x y all.1 one)

pub pairwise-length : {A B : Type 0} (R : A → B → Type 0) (xs : List A) (ys : List B) → Pairwise R xs ys → length ys ≡ length xs
pairwise-length R [] [] all = refl
pairwise-length R [] (b ∷ ys) all = absurd all
pairwise-length R (a ∷ xs) [] all = absurd all
pairwise-length R (a ∷ xs) (b ∷ ys) all = ap suc (pairwise-length R xs ys all.1)

module _ (doc : Doc) where
  -- their canonical bodies spell their values
  spelled-seen : (seen : Seen) (values : ValueEntries ValueMeaning) → AreValuesOf doc seen values → Pairwise (SpellsEntry (SpellsValue doc)) (bodies_seen doc seen) values
  spelled-seen seen values are =
      subst (λ e. Pairwise (SpellsEntry (SpellsValue doc)) e values) (ap bodies_built (sym are.passes))
      (bodies_of-spelled ValueMeaning (SpellsValue doc) value_text (value_law doc) (entries_of seen.fields ∷ []) (values ∷ []) (are.spelled, tt)).0

  pub spelled-given : (given : List Seen) (values : Meaning) → Pairwise (AreValuesOf doc) given values → SpellsEntries (SpellsValue doc) (map (bodies_seen doc) given) values
  spelled-given [] [] are = tt
  spelled-given [] (v ∷ values) are = absurd are
  spelled-given (seen ∷ given) [] are = absurd are
  spelled-given (seen ∷ given) (v ∷ values) are = (spelled-seen seen v are.0, spelled-given given values are.1)

  -- a file that has only these is accepted with their values
  pub accepted-given : (text : List ℕ) (given : List Seen) (values : Meaning) → ShownAll doc text given → Pairwise (AreValuesOf doc) given values → Accepted doc text values
  accepted-given text given values shown are =
      let all = is_all_of doc text (map (bodies_seen doc) given) shown.is in
      let means = all.accepted.means in
      let same : all.meaning ≡ values =
      one_list ValueMeaning (SpellsValue doc) value_text (value_law doc) (map (bodies_seen doc) given) all.meaning values
      (subst (λ bodies. SpellsEntries (SpellsValue doc) bodies all.meaning) all.bodies (bodies_of-spelled ValueMeaning (SpellsValue doc) value_text (value_law doc) means.bodies all.meaning means.spelled))
      (spelled-given given values are) in
      subst (Accepted doc text) same all.accepted
