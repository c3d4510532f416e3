-- What the rows of a package ask for, by what is kept of the package; and the lines of reasons.
use Rattle.std.proofs.Common.{◌≡◌, ℕ, zero, suc, ◌-◌, ◌<◌, ◌≤◌, Bool, true, false, cond, ◌∷◌, ◌++◌, List, [], length, drop, map, append-nil, get_or, None, Some, slice_get, refl, ap, ◌∙◌, sym, subst, arith}
use Rattle.std.proofs.lemmas.List.{map-append}
use denote.Ref.{Bor}
use Rattle.deb_relation.specs.Meaning.{Group}
use Rattle.deb_relation.specs.Texts.{group_text}
use Rattle.deb_relation.specs.Views.{names_of}
use Rattle.deb_field.specs.Values.{ValueMeaning}
use Rattle.deb_control.specs.Documents.{Meaning}
use Rattle.deb_control.specs.Pairs.{Pairwise}
use Rattle.deb_control.specs.ValueFiles.{ValueEntries}
use Rattle.deb_health.specs.Lines.{line_at}
use Rattle.deb_index.specs.Listed.{Listed}
use Rattle.deb_install.specs.Explaining.{RowMeaning, GroupRow, NameRow, EmptyRow, HasWords, need_of, row_words}
use Rattle.deb_install.specs.Keeping.{HoldsValues}
use Rattle.deb_install.specs.ReasonLines.{essential_words, line_with, need_words, reason_line}
use Rattle.deb_install.specs.declared.kept.KeptMember.{KeptMember}
use Rattle.deb_install.specs.declared.row_texts.RowText.TheVariants as texts

pub record HeldAt (meaning : Meaning) (k : ℕ) (kept : KeptMember) : Type 0 where
  pub values : ValueEntries ValueMeaning
  pub at : slice_get meaning k ≡ Some values
  pub holds : HoldsValues values kept

pub held-at : (meaning : Meaning) (all : List KeptMember) (k : ℕ) (kept : KeptMember) → Pairwise HoldsValues meaning all → slice_get all k ≡ Some kept → HeldAt meaning k kept
held-at [] [] k kept holds is = absurd cc
held-at [] (other ∷ all) k kept holds is = absurd holds
held-at (values ∷ meaning) [] k kept holds is = absurd holds
held-at (values ∷ meaning) (other ∷ all) zero kept holds is =
    let same : other ≡ kept = cc in
    record { values = values; at = refl; holds = subst (HoldsValues values) same holds.0 }
held-at (values ∷ meaning) (other ∷ all) (suc k) kept holds is =
    let it = held-at meaning all k kept holds.1 is in
    record { values = it.values; at = it.at; holds = it.holds }

pub none-at : (meaning : Meaning) (all : List KeptMember) (k : ℕ) → Pairwise HoldsValues meaning all → slice_get all k ≡ None → slice_get meaning k ≡ None
none-at [] all k holds is = refl
none-at (values ∷ meaning) [] k holds is = absurd holds
none-at (values ∷ meaning) (other ∷ all) zero holds is = absurd cc
none-at (values ∷ meaning) (other ∷ all) (suc k) holds is = none-at meaning all k holds.1 is

-- a row of a group, and one after those of groups
pub group-words : (groups : List Group) (others : List RowMeaning) (found : List (Bor (List ℕ))) (at : ℕ) (text : Bor (List ℕ)) → names_of found ≡ map group_text groups → at < length found → text ≡ get_or found at text → HasWords (get_or (map GroupRow groups ++ others) at EmptyRow) (texts.Group text)
group-words groups others [] at text are within is candidates = absurd (omega (arith, within))
group-words [] others (f ∷ found) at text are within is candidates = absurd cc
group-words (g ∷ groups) others (f ∷ found) zero text are within is candidates =
    let first : f.now ≡ group_text g = ap (λ l. get_or l 0 []) are in
    ap (λ t. need_words t candidates) (ap (λ b. b.now) is ∙ first)
group-words (g ∷ groups) others (f ∷ found) (suc at) text are within is candidates =
    group-words groups others found at text (ap (drop 1) are) (omega (arith, within)) is candidates

pub after-groups : (groups : List Group) (others : List RowMeaning) (found : List (Bor (List ℕ))) (at : ℕ) → names_of found ≡ map group_text groups → length found ≤ at → get_or (map GroupRow groups ++ others) at EmptyRow ≡ get_or others (at - length found) EmptyRow
after-groups [] others [] at are past = let same : at ≡ at - 0 = omega arith in ap (λ n. get_or others n EmptyRow) same
after-groups [] others (f ∷ found) at are past = absurd cc
after-groups (g ∷ groups) others [] at are past = absurd cc
after-groups (g ∷ groups) others (f ∷ found) zero are past = absurd (omega (arith, past))
after-groups (g ∷ groups) others (f ∷ found) (suc at) are past =
    let same : at - length found ≡ suc at - suc (length found) = omega arith in
    after-groups groups others found at (ap (drop 1) are) (omega (arith, past)) ∙ ap (λ n. get_or others n EmptyRow) same

pub name-words : (names : List (Bor (List ℕ))) (at : ℕ) (name : Bor (List ℕ)) → slice_get names at ≡ Some name → HasWords (get_or (map NameRow (names_of names)) at EmptyRow) (texts.Name name)
name-words [] at name is candidates = absurd cc
name-words (n ∷ names) zero name is candidates =
    let same : n ≡ name = cc in
    ap (λ b. need_words (essential_words b.now) candidates) (sym same)
name-words (n ∷ names) (suc at) name is candidates = name-words names at name is candidates

pub no-name : (names : List (Bor (List ℕ))) (at : ℕ) → slice_get names at ≡ None → get_or (map NameRow (names_of names)) at EmptyRow ≡ EmptyRow
no-name [] at is = refl
no-name (n ∷ names) zero is = absurd cc
no-name (n ∷ names) (suc at) is = no-name names at is

-- the line of what a row asks for
pub need-line : (packages : List Listed) (number : ℕ) (r : RowMeaning) (candidates : List ℕ) → reason_line packages (need_of number r candidates) ≡ line_at (line_with (row_words r candidates)) packages number
need-line packages number (GroupRow group) candidates = refl
need-line packages number (NameRow name) candidates = refl
need-line packages number EmptyRow candidates = refl

-- one more name, or none
pub names-pushed : (names : List (Bor (List ℕ))) (name : Bor (List ℕ)) (is : Bool) (word : List ℕ) (more : List (Bor (List ℕ))) → more ≡ names ++ name ∷ [] → is ≡ true → name.now ≡ word → names_of more ≡ names_of names ++ cond is (word ∷ []) []
names-pushed names name is word more pushed passes same =
    ap names_of pushed ∙ map-append (λ b. b.now) names (name ∷ [])
    ∙ ap (λ w. names_of names ++ w ∷ []) same
    ∙ ap (λ v. names_of names ++ cond v (word ∷ []) []) (sym passes)

pub names-kept : (names : List (Bor (List ℕ))) (is : Bool) (word : List ℕ) → is ≡ false → names_of names ≡ names_of names ++ cond is (word ∷ []) []
names-kept names is word fails = sym (append-nil (names_of names)) ∙ ap (λ v. names_of names ++ cond v (word ∷ []) []) (sym fails)
