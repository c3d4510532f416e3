-- A text of pieces, of which one is read at a time.
use Rattle.std.proofs.Common.{◌≡◌, ℕ, ◌+◌, ◌-◌, ◌==◌, true, false, List, [], ◌∷◌, ◌++◌, length, take, drop, IsTrue, append_assoc, append-nil, refl, sym, ap, ◌∙◌, subst, arith, codes, Some}
use Rattle.std.specs.List.{AllByRecursion, flat_map, prefix_len}
use Rattle.std.proofs.lemmas.Bool.{false≢true}
use Rattle.std.proofs.lemmas.List.{drop-drop, flat_map_more}
use Rattle.std.proofs.Math.Seq.{drop-append_seam, take-append_seam}
use Rattle.deb_base.proofs.AllElements.{All-append}
use Rattle.deb_version.specs.PartsLemmas.{cons_not_nil}
use Rattle.deb_relation.specs.Grammar.{IsWhite, SpellsRelation}
use Rattle.deb_relation.specs.Meaning.{Alternative, Group, Relation}
use Rattle.deb_relation.specs.RelationTexts.{body_of, text_meaning, text_read}
use Rattle.deb_relation.specs.Relations.{relation_of}
use Rattle.deb_relation.specs.declared.relation.Relation.{Relation as Groups}
use Rattle.deb_relation.specs.declared.relation_text.RelationText.{RelationText}
use Rattle.deb_relation.specs.Texts.{alternative_text, group_text, relation_text}
use Rattle.deb_relation.proofs.CanonicalRelation.{group_spelled}
use Rattle.deb_relation.proofs.Joining.{nil_of}
use Rattle.deb_relation.proofs.ReadRelation.{relation_took}
use Rattle.deb_relation.proofs.Regular.{IsRegular, IsRegularGroup, IsRegularRelation, relation_regular}
use Rattle.deb_relation.proofs.Runs.{Stops}
use Rattle.deb_index.specs.CanonicalTexts.{IsCanonical}
use Rattle.deb_index.proofs.Commas.{Lacks, alternative_lacks_bar, is_other}
use Rattle.deb_index.proofs.Cutting.{group_some, next_group, no_groups}
use Rattle.deb_index.proofs.VersionPlaces.{front_len}

-- What holds of the pieces so far, and the text of those that are left.
pub record ReadOf {X : Type 0} (text_of : List X → List ℕ) (Good : X → Type 0) (Holds : List X → Type 0) (all : List X) (rest : List ℕ) : Type 0 where
  pub done : List X
  pub left : List X
  pub is : all ≡ done ++ left
  pub good : AllByRecursion Good left
  pub text : rest ≡ text_of left
  pub holds : Holds done

module _ {X : Type 0} (text_of : List X → List ℕ) (Good : X → Type 0) (none : text_of [] ≡ []) (some : (all : List X) → AllByRecursion Good all → text_of all ≡ [] → all ≡ []) where
  pub read_none : (Holds : List X → Type 0) (all : List X) (text : List ℕ) → AllByRecursion Good all → text ≡ text_of all → Holds [] → ReadOf text_of Good Holds all text
  read_none Holds all text good is holds = record { done = []; left = all; is = refl; good = good; text = is; holds = holds }

  -- one piece more
  pub read_more : (Holds Holds' : List X → Type 0) (all : List X) (rest others : List ℕ) → ReadOf text_of Good Holds all rest → (length rest == 0) ≡ false
      → ((x : X) (xs : List X) → Good x → rest ≡ text_of (x ∷ xs) → others ≡ text_of xs)
      → ((x : X) (xs done : List X) → Good x → rest ≡ text_of (x ∷ xs) → Holds done → Holds' (done ++ x ∷ [])) → ReadOf text_of Good Holds' all others
  read_more Holds Holds' all rest others so_far more cut holds = go so_far.left so_far.is so_far.good so_far.text
    where
      go : (left : List X) → all ≡ so_far.done ++ left → AllByRecursion Good left → rest ≡ text_of left → ReadOf text_of Good Holds' all others
      go [] is good text = absurd (false≢true (sym more ∙ ap (λ t. length t == 0) (text ∙ none)))
      go (x ∷ left) is good text = record {
        done = so_far.done ++ x ∷ [];
        left = left;
        is = is ∙ sym (append_assoc so_far.done (x ∷ []) left);
        good = good.1;
        text = cut x left good.0 text;
        holds = holds x left so_far.done good.0 text so_far.holds;
      }

  pub read_all : (Holds : List X → Type 0) (all : List X) (rest : List ℕ) → ReadOf text_of Good Holds all rest → (length rest == 0) ≡ true → Holds all
  read_all Holds all rest so_far end =
      let nothing = some so_far.left so_far.good (sym so_far.text ∙ nil_of rest end) in
      subst Holds (sym (append-nil so_far.done) ∙ ap (λ l. so_far.done ++ l) (sym nothing) ∙ sym so_far.is) so_far.holds

  -- a piece that comes next is one of all
  pub read_at : (Holds : List X → Type 0) (all : List X) (rest : List ℕ) (R : Type 0) → ReadOf text_of Good Holds all rest → (length rest == 0) ≡ false
      → ((x : X) (xs done : List X) → Good x → rest ≡ text_of (x ∷ xs) → all ≡ done ++ x ∷ xs → R) → R
  read_at Holds all rest R so_far more found = go so_far.left so_far.is so_far.good so_far.text
    where
      go : (left : List X) → all ≡ so_far.done ++ left → AllByRecursion Good left → rest ≡ text_of left → R
      go [] is good text = absurd (false≢true (sym more ∙ ap (λ t. length t == 0) (text ∙ none)))
      go (x ∷ left) is good text = found x left so_far.done good.0 text is

-- groups of a relation
abbrev pub GroupsRead : (List Group → Type 0) → Relation → List ℕ → Type 0
GroupsRead = ReadOf relation_text IsRegularGroup

-- alternatives of a group
abbrev pub AlternativesRead : (List Alternative → Type 0) → Group → List ℕ → Type 0
AlternativesRead = ReadOf group_text IsRegular

nothing_in : group_text [] ≡ []
unfolding group_text
nothing_in = refl

no_alternatives : (group : Group) → AllByRecursion IsRegular group → group_text group ≡ [] → group ≡ []
no_alternatives [] all is = refl
no_alternatives (a ∷ others) all is = absurd (group_some (a ∷ others) (record { some = cons_not_nil a others; each = all }) is)

pub groups_none : (Holds : List Group → Type 0) (m : Relation) (text : List ℕ) → IsRegularRelation m → text ≡ relation_text m → Holds [] → GroupsRead Holds m text
groups_none Holds m text regular is holds = read_none relation_text IsRegularGroup refl no_groups Holds m text regular.groups is holds

pub groups_more : (Holds Holds' : List Group → Type 0) (m : Relation) (rest others : List ℕ) → GroupsRead Holds m rest → (length rest == 0) ≡ false
    → ((g : Group) (gs : Relation) → IsRegularGroup g → rest ≡ relation_text (g ∷ gs) → others ≡ relation_text gs)
    → ((g : Group) (gs done : Relation) → IsRegularGroup g → rest ≡ relation_text (g ∷ gs) → Holds done → Holds' (done ++ g ∷ [])) → GroupsRead Holds' m others
groups_more = read_more relation_text IsRegularGroup refl no_groups

pub groups_all : (Holds : List Group → Type 0) (m : Relation) (rest : List ℕ) → GroupsRead Holds m rest → (length rest == 0) ≡ true → Holds m
groups_all = read_all relation_text IsRegularGroup refl no_groups

pub groups_at : (Holds : List Group → Type 0) (m : Relation) (rest : List ℕ) (R : Type 0) → GroupsRead Holds m rest → (length rest == 0) ≡ false
    → ((g : Group) (gs done : Relation) → IsRegularGroup g → rest ≡ relation_text (g ∷ gs) → m ≡ done ++ g ∷ gs → R) → R
groups_at = read_at relation_text IsRegularGroup refl no_groups

pub alternatives_none : (Holds : List Alternative → Type 0) (group : Group) (text : List ℕ) → IsRegularGroup group → text ≡ group_text group → Holds [] → AlternativesRead Holds group text
alternatives_none Holds group text regular is holds = read_none group_text IsRegular nothing_in no_alternatives Holds group text regular.each is holds

pub alternatives_more : (Holds Holds' : List Alternative → Type 0) (group : Group) (rest others : List ℕ) → AlternativesRead Holds group rest → (length rest == 0) ≡ false
    → ((a : Alternative) (more : Group) → IsRegular a → rest ≡ group_text (a ∷ more) → others ≡ group_text more)
    → ((a : Alternative) (more done : Group) → IsRegular a → rest ≡ group_text (a ∷ more) → Holds done → Holds' (done ++ a ∷ [])) → AlternativesRead Holds' group others
alternatives_more = read_more group_text IsRegular nothing_in no_alternatives

pub alternatives_all : (Holds : List Alternative → Type 0) (group : Group) (rest : List ℕ) → AlternativesRead Holds group rest → (length rest == 0) ≡ true → Holds group
alternatives_all = read_all group_text IsRegular nothing_in no_alternatives

pub alternatives_at : (Holds : List Alternative → Type 0) (group : Group) (rest : List ℕ) (R : Type 0) → AlternativesRead Holds group rest → (length rest == 0) ≡ false
    → ((a : Alternative) (more done : Group) → IsRegular a → rest ≡ group_text (a ∷ more) → group ≡ done ++ a ∷ more → R) → R
alternatives_at = read_at group_text IsRegular nothing_in no_alternatives

-- a text is cut where the byte first comes
cut_at : (byte n : ℕ) (text first behind : List ℕ) → Lacks byte first → Stops (is_other byte) behind → text ≡ first ++ behind → n ≡ prefix_len (is_other byte) text → (take n text ≡ first) × (drop (n + 2) text ≡ drop 2 behind)
cut_at byte n text first behind lacks stops is count =
    let long : n ≡ length first = count ∙ ap (prefix_len (is_other byte)) is ∙ front_len (is_other byte) first behind lacks stops in (
      ap (λ k. take k text) long ∙ ap (take (length first)) is ∙ take-append_seam first behind,
      ap (λ k. drop (k + 2) text) long ∙ ap (drop (length first + 2)) is ∙ sym (drop-drop 2 (length first) (first ++ behind)) ∙ ap (drop 2) (drop-append_seam first behind),
    )

-- the first group, and the text of the others
module _ (text : List ℕ) (n : ℕ) (group : Group) (others : Relation) (regular : IsRegularGroup group) (is : text ≡ relation_text (group ∷ others)) (count : n ≡ prefix_len (is_other 44) text) where
  pub group_first : take n text ≡ group_text group
  group_first = let e : 0 + n - 0 ≡ n = omega arith in ap (λ k. take k text) (sym e) ∙ (next_group text 0 n group others regular is count).front

  pub group_others : drop (n + 2) text ≡ relation_text others
  group_others = let e : 0 + n + 2 ≡ n + 2 = omega arith in ap (λ k. drop k text) (sym e) ∙ (next_group text 0 n group others regular is count).left

-- an alternative alone, with white space after it or not, spells the relation of it alone
alone_spelled : (white : List ℕ) (a : Alternative) → IsWhite white → IsRegular a → SpellsRelation (group_text (a ∷ []) ++ white) ((a ∷ []) ∷ [])
alone_spelled white a is regular = record {
  pieces = Some (a ∷ []) ∷ [];
  spell_pieces = group_spelled [] white (a ∷ []) tt is (record { some = cons_not_nil a []; each = (regular, tt) });
  set = refl;
}

-- the first alternative, and the text of the others
pub alternative_first : (text : List ℕ) (n : ℕ) (a : Alternative) (others : Group) → IsRegular a → text ≡ group_text (a ∷ others) → n ≡ prefix_len (is_other 124) text → SpellsRelation (take n text) ((a ∷ []) ∷ []) × (drop (n + 2) text ≡ group_text others)
unfolding group_text
alternative_first text n a [] regular is count =
    let halves = cut_at 124 n text (alternative_text a) [] (alternative_lacks_bar a regular) tt is count in (
      subst (λ t. SpellsRelation t ((a ∷ []) ∷ [])) (append-nil (group_text (a ∷ [])) ∙ append-nil (alternative_text a) ∙ sym halves.0) (alone_spelled [] a tt regular),
      halves.1,
    )
alternative_first text n a (b ∷ others) regular is count =
    let behind = 124 ∷ 32 ∷ group_text (b ∷ others) in
    let lacks = All-append (λ b. IsTrue (is_other 124 b)) (alternative_text a) (32 ∷ []) (alternative_lacks_bar a regular) (refl, tt) in
    let halves = cut_at 124 n text (alternative_text a ++ 32 ∷ []) behind lacks refl (is ∙ sym (append_assoc (alternative_text a) (32 ∷ []) behind)) count in (
      subst (λ t. SpellsRelation t ((a ∷ []) ∷ [])) (ap (λ t. t ++ 32 ∷ []) (append-nil (alternative_text a)) ∙ sym halves.0) (alone_spelled (codes " ") a (refl, tt) regular),
      halves.1,
    )

-- what a `RelationText` and a `Relation` mean is regular
pub text_regular : (relation : RelationText) → IsRegularRelation (text_meaning relation)
text_regular relation = relation_regular (body_of relation) (text_meaning relation) (relation_took (body_of relation) (text_meaning relation) (text_read relation))

pub regular_relation : (relation : Groups) → IsRegularRelation (relation_of relation)
regular_relation relation = relation_regular (relation_text (relation_of relation)) (relation_of relation) (relation_took (relation_text (relation_of relation)) (relation_of relation) relation.spelled)

pub canonical : (text : List ℕ) (m : Relation) → IsRegularRelation m → text ≡ relation_text m → IsCanonical text
canonical text m regular is = record { relation = m; regular = regular; is = is }

-- the lines of one piece more
pub lines_more : {X : Type 0} (lines : X → List ℕ) (done : List X) (x : X) (start old new : List ℕ) → old ≡ start ++ flat_map lines done → new ≡ old ++ lines x → new ≡ start ++ flat_map lines (done ++ x ∷ [])
lines_more lines done x start old new was is = is ∙ ap (λ l. l ++ lines x) was ∙ flat_map_more lines start done x
