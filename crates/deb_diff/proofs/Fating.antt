-- The lines of paragraphs that are kept.
use Rattle.std.proofs.Common.{◌≡◌, ℕ, List, [], ◌∷◌, ◌++◌, map, Bor, codes, refl, sym, ap, ◌∙◌, subst}
use Rattle.std.specs.List.{flat_map}
use Rattle.std.specs.Fmt.{decimal}
use Rattle.std.proofs.lemmas.List.{append_assoc}
use Rattle.deb_base.specs.declared.version_text.VersionText.{VersionText}
use Rattle.deb_base.specs.declared.version_text.VersionText.TheVariants.{Canonical, Spelled}
use Rattle.deb_diff.specs.Differences.{Changed, Fate, Upgraded}
use Rattle.deb_diff.specs.Fates.{AreFated, IsFated}
use Rattle.deb_diff.specs.Fields.{differing}
use Rattle.deb_diff.specs.Items.{Item}
use Rattle.deb_diff.specs.Kepts.{AreKept, IsKept, architecture_in, name_in, printed_in, version_in}
use Rattle.deb_diff.specs.Lefts.{rest_of_line}
use Rattle.deb_diff.specs.Lines.{fate_line, item_line, line_of, printed, version_word}
use Rattle.deb_diff.specs.declared.became.Became.{Became}
use Rattle.deb_diff.specs.declared.kept.Kept.{Kept}
use Rattle.deb_diff.proofs.Lined.{line_of_rest}

-- the text of its version that is chosen
printed-kept : (versions : VersionText) (kept : Kept) (item : Item) → IsKept kept item → printed_in versions kept ≡ printed versions item
printed-kept Canonical kept item is = is.version
printed-kept Spelled kept item is = is.spelled

-- the line of a paragraph that is kept
pub kept_line : (versions : VersionText) (word : List ℕ) (kept : Kept) (item : Item) → IsKept kept item → line_of (word ∷ decimal kept.number ∷ name_in kept ∷ printed_in versions kept ∷ architecture_in kept ∷ []) ≡ item_line versions word item
kept_line versions word kept item is =
    ap (λ n. line_of (word ∷ decimal n ∷ name_in kept ∷ printed_in versions kept ∷ architecture_in kept ∷ [])) is.number
    ∙ ap (λ n. line_of (word ∷ decimal item.number ∷ n ∷ printed_in versions kept ∷ architecture_in kept ∷ [])) is.name
    ∙ ap (λ n. line_of (word ∷ decimal item.number ∷ item.name ∷ n ∷ architecture_in kept ∷ [])) (printed-kept versions kept item is)
    ∙ ap (λ n. line_of (word ∷ decimal item.number ∷ item.name ∷ printed versions item ∷ n ∷ [])) is.architecture

pub changed_line : (versions : VersionText) (new : Kept) (item other : Item) (names : List (List ℕ)) → IsKept new other → names ≡ differing item.bodies other.bodies → codes "changed" ++ rest_of_line (decimal new.number ∷ name_in new ∷ printed_in versions new ∷ architecture_in new ∷ names) ≡ fate_line versions (item, Changed other)
changed_line versions new item other names is names_is =
    sym (line_of_rest (codes "changed") (decimal new.number ∷ name_in new ∷ printed_in versions new ∷ architecture_in new ∷ names))
    ∙ ap (λ n. line_of (codes "changed" ∷ decimal n ∷ name_in new ∷ printed_in versions new ∷ architecture_in new ∷ names)) is.number
    ∙ ap (λ n. line_of (codes "changed" ∷ decimal other.number ∷ n ∷ printed_in versions new ∷ architecture_in new ∷ names)) is.name
    ∙ ap (λ n. line_of (codes "changed" ∷ decimal other.number ∷ other.name ∷ n ∷ architecture_in new ∷ names)) (printed-kept versions new other is)
    ∙ ap (λ n. line_of (codes "changed" ∷ decimal other.number ∷ other.name ∷ printed versions other ∷ n ∷ names)) is.architecture
    ∙ ap (λ n. line_of (codes "changed" ∷ decimal other.number ∷ other.name ∷ printed versions other ∷ other.architecture ∷ n)) names_is

pub upgraded_line : (versions : VersionText) (old new : Kept) (item other : Item) (names : List (List ℕ)) → IsKept old item → IsKept new other → names ≡ differing item.bodies other.bodies → version_word (version_in old) (version_in new) ++ rest_of_line (decimal new.number ∷ name_in new ∷ printed_in versions old ∷ printed_in versions new ∷ architecture_in new ∷ names) ≡ fate_line versions (item, Upgraded other)
upgraded_line versions old new item other names was is names_is =
    sym (line_of_rest (version_word (version_in old) (version_in new)) (decimal new.number ∷ name_in new ∷ printed_in versions old ∷ printed_in versions new ∷ architecture_in new ∷ names))
    ∙ ap (λ w. line_of (version_word w (version_in new) ∷ decimal new.number ∷ name_in new ∷ printed_in versions old ∷ printed_in versions new ∷ architecture_in new ∷ names)) was.version
    ∙ ap (λ w. line_of (version_word item.version w ∷ decimal new.number ∷ name_in new ∷ printed_in versions old ∷ printed_in versions new ∷ architecture_in new ∷ names)) is.version
    ∙ ap (λ n. line_of (version_word item.version other.version ∷ decimal n ∷ name_in new ∷ printed_in versions old ∷ printed_in versions new ∷ architecture_in new ∷ names)) is.number
    ∙ ap (λ n. line_of (version_word item.version other.version ∷ decimal other.number ∷ n ∷ printed_in versions old ∷ printed_in versions new ∷ architecture_in new ∷ names)) is.name
    ∙ ap (λ n. line_of (version_word item.version other.version ∷ decimal other.number ∷ other.name ∷ n ∷ printed_in versions new ∷ architecture_in new ∷ names)) (printed-kept versions old item was)
    ∙ ap (λ n. line_of (version_word item.version other.version ∷ decimal other.number ∷ other.name ∷ printed versions item ∷ n ∷ architecture_in new ∷ names)) (printed-kept versions new other is)
    ∙ ap (λ n. line_of (version_word item.version other.version ∷ decimal other.number ∷ other.name ∷ printed versions item ∷ printed versions other ∷ n ∷ names)) is.architecture
    ∙ ap (λ n. line_of (version_word item.version other.version ∷ decimal other.number ∷ other.name ∷ printed versions item ∷ printed versions other ∷ other.architecture ∷ n)) names_is

-- a line, and the lines of values under it
pub line-values : (initial now new line wanted values more : List ℕ) → now ≡ initial ++ line → line ≡ wanted → new ≡ now ++ values → values ≡ more → new ≡ initial ++ (wanted ++ more)
line-values initial now new line wanted values more now_is line_is new_is values_is =
    new_is ∙ ap (λ l. now ++ l) values_is ∙ ap (λ l. l ++ more) (now_is ∙ ap (λ l. initial ++ l) line_is) ∙ append_assoc initial wanted more

-- The lines so far are there, and those of these are to come.
pub record Lines {X : Type 0} (line : X → List ℕ) (Are : List X → Type 0) (initial : List ℕ) (all : List X) (now : List ℕ) : Type 0 where
  pub rest : List X
  pub are : Are rest
  pub text : now ++ flat_map line rest ≡ initial ++ flat_map line all

pub added_more : (text : Item → List ℕ) (left more : List (Bor Kept)) (k : Bor Kept) (initial now new : List ℕ) (items : List Item) → left ≡ k ∷ more → ((item : Item) → IsKept k.now item → new ≡ now ++ text item)
    → Lines text (AreKept (map (λ k. k.now) left)) initial items now → Lines text (AreKept (map (λ k. k.now) more)) initial items new
added_more text left more k initial now new items left_is new_is lines = go lines.rest (subst (λ l. AreKept (map (λ k. k.now) l) lines.rest) left_is lines.are) lines.text
  where
    go : (rest : List Item) → AreKept (k.now ∷ map (λ k. k.now) more) rest → now ++ flat_map text rest ≡ initial ++ flat_map text items → Lines text (AreKept (map (λ k. k.now) more)) initial items new
    go [] are lines = absurd are
    go (item ∷ rest) are lines = record {
      rest = rest;
      are = are.1;
      text = ap (λ l. l ++ flat_map text rest) (new_is item are.0) ∙ append_assoc now (text item) (flat_map text rest) ∙ lines;
    }

pub fates_more : (text : Item × Fate → List ℕ) (left more : List (Bor Kept)) (k : Bor Kept) (became_left became_more : List Became) (one : Became) (others : List Kept) (initial now new : List ℕ) (fates : List (Item × Fate)) → left ≡ k ∷ more → became_left ≡ one ∷ became_more → ((fate : Item × Fate) → IsFated k.now one others fate → new ≡ now ++ text fate)
    → Lines text (AreFated (map (λ k. k.now) left) became_left others) initial fates now → Lines text (AreFated (map (λ k. k.now) more) became_more others) initial fates new
fates_more text left more k became_left became_more one others initial now new fates left_is became_is new_is lines =
    go lines.rest (subst (λ b. AreFated (k.now ∷ map (λ k. k.now) more) b others lines.rest) became_is (subst (λ l. AreFated (map (λ k. k.now) l) became_left others lines.rest) left_is lines.are)) lines.text
  where
    go : (rest : List (Item × Fate)) → AreFated (k.now ∷ map (λ k. k.now) more) (one ∷ became_more) others rest → now ++ flat_map text rest ≡ initial ++ flat_map text fates → Lines text (AreFated (map (λ k. k.now) more) became_more others) initial fates new
    go [] are lines = absurd are
    go (fate ∷ rest) are lines = record {
      rest = rest;
      are = are.1;
      text = ap (λ l. l ++ flat_map text rest) (new_is fate are.0) ∙ append_assoc now (text fate) (flat_map text rest) ∙ lines;
    }
