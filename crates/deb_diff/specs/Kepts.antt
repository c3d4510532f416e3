-- Paragraphs that are kept. Debian Policy 5.1.
use Rattle.std.specs.Prelude.{◌≡◌, ℕ, ◌==◌, cond, List, [], ◌∷◌, length, take, drop, codes, refl, map}
use Rattle.std.specs.Str.{bytes_eq}
use Rattle.deb_base.specs.declared.version_text.VersionText.{VersionText}
use Rattle.deb_base.specs.declared.version_text.VersionText.TheVariants.{Canonical, Spelled}
use Rattle.deb_syntax.specs.Fields.{Field}
use Rattle.deb_control.specs.CheckedStates.{doc_of, passing_of}
use Rattle.deb_control.specs.Pairs.{Pairwise}
use Rattle.deb_control.specs.Paragraphs.{AreValuesOf}
use Rattle.deb_control.specs.ValueFiles.{ValueEntries}
use Rattle.deb_control.specs.declared.checked_text.CheckedText.{CheckedText}
use Rattle.deb_field.specs.Values.{ValueMeaning}
use Rattle.deb_diff.specs.Items.{Item, whole}
use Rattle.deb_diff.specs.declared.kept.Kept.{Kept}
use Rattle.deb_base.specs.Literals.{vector}
use Rattle.std.proofs.Common.{ap}
use Rattle.deb_syntax.specs.Paragraphs.{seen_of}
use Rattle.deb_syntax.specs.Answers.{Seen}

-- These are the values of a paragraph that passes.
abbrev pub HasValues : CheckedText → ValueEntries ValueMeaning → Type 0
HasValues paragraph values = AreValuesOf (doc_of paragraph) (passing_of paragraph).seen values

-- and its fields as they are in the file
abbrev pub fields_in : CheckedText → List Field
fields_in paragraph = (passing_of paragraph).seen.fields

-- The words of a paragraph that is kept follow one another: its name, its canonical version, a
-- space and the version as the file spells it if that is another text, and its architecture.
abbrev pub name_in : Kept → List ℕ
name_in kept = take kept.name_len kept.words.items

abbrev pub after_name : Kept → List ℕ
after_name kept = drop kept.name_len kept.words.items

abbrev pub version_in : Kept → List ℕ
version_in kept = take kept.version_len (after_name kept)

abbrev pub after_version : Kept → List ℕ
after_version kept = drop kept.version_len (after_name kept)

abbrev pub architecture_in : Kept → List ℕ
architecture_in kept = drop kept.spelled_len (after_version kept)

-- nothing, or the spelled text after a space; and the spelled text of that
abbrev pub marked : List ℕ → List ℕ → List ℕ
marked version spelled = cond (bytes_eq version spelled) [] (32 ∷ spelled)

abbrev pub unmarked : List ℕ → List ℕ → List ℕ
unmarked version text = cond (length text == 0) version (drop 1 text)

abbrev pub spelling_in : Kept → List ℕ
spelling_in kept = unmarked (version_in kept) (take kept.spelled_len (after_version kept))

-- the text of its version that is chosen
abbrev pub printed_in : VersionText → Kept → List ℕ
printed_in Canonical kept = version_in kept
printed_in Spelled kept = spelling_in kept

-- What is kept is the paragraph's.
pub record IsKept (kept : Kept) (item : Item) : Type 0 where
  pub number : kept.number ≡ item.number
  pub name : name_in kept ≡ item.name
  pub version : version_in kept ≡ item.version
  pub spelled : spelling_in kept ≡ item.spelled
  pub architecture : architecture_in kept ≡ item.architecture
  pub text : kept.text.items ≡ whole item

-- These paragraphs are kept, in their order.
abbrev pub AreKept : List Kept → List Item → Type 0
AreKept kept items = Pairwise IsKept kept items

worked-marked : (marked (codes "1") (codes "1") ≡ [])
    × (marked (codes "1") (codes "01") ≡ codes " 01")
    × (unmarked (codes "1") [] ≡ codes "1") × (unmarked (codes "1") (codes " 01") ≡ codes "01")
worked-marked = (refl, refl, refl, refl)

-- the package aa of version 1 for all architectures, spelled so, and spelled 01-0
abbrev pub aa_1 : Kept
aa_1 = record {
  number = 3;
  name_len = 2;
  spelled_len = 0;
  version_len = 1;
  words = vector (codes "aa1all") refl;
  text = vector (codes "A: 1\n") refl;
}

abbrev pub aa_01 : Kept
aa_01 = record aa_1 { number = 4; spelled_len = 5; words = vector (codes "aa1 01-0all") refl }

worked-words : (map name_in (aa_1 ∷ aa_01 ∷ []) ≡ codes "aa" ∷ codes "aa" ∷ [])
    × (map (printed_in Canonical) (aa_1 ∷ aa_01 ∷ []) ≡ codes "1" ∷ codes "1" ∷ [])
    × (map (printed_in Spelled) (aa_1 ∷ aa_01 ∷ []) ≡ codes "1" ∷ codes "01-0" ∷ [])
    × (map architecture_in (aa_1 ∷ aa_01 ∷ []) ≡ codes "all" ∷ codes "all" ∷ [])
worked-words = (refl, refl, refl, refl)

-- the fields of a paragraph of these
worked-fields : (paragraph : CheckedText) → seen_of paragraph.view.raw
    ≡ record { first = 5; fields = record { name = codes "A"; line = 5; body = codes "1" } ∷ [] }
    → fields_in paragraph ≡ record { name = codes "A"; line = 5; body = codes "1" } ∷ []
worked-fields paragraph = ap (λ (seen : Seen). seen.fields)
