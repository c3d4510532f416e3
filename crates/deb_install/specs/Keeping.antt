-- What is kept of the members of a file until all of them are read. Debian Policy 5.3 and 5.6.9;
-- what is kept is this project's own.
use Rattle.std.specs.Prelude.{◌≡◌, ℕ, Bool, true, false, List, [], ◌∷◌, map, codes, refl}
use Rattle.std.specs.List.{filter}
use Rattle.std.specs.Str.{bytes_eq}
use Rattle.deb_syntax.specs.Answers.{Seen}
use Rattle.deb_syntax.specs.Fields.{Field}
use Rattle.deb_syntax.specs.Raw.{field_named}
use Rattle.deb_field.specs.Values.{ValueMeaning}
use Rattle.deb_control.specs.Documents.{Meaning}
use Rattle.deb_control.specs.Pairs.{Pairwise}
use Rattle.deb_control.specs.Paragraphs.{AreValuesOf}
use Rattle.deb_control.specs.ValueFiles.{ValueEntries}
use Rattle.deb_health.specs.Kept.{HoldsMember}
use Rattle.deb_index.specs.Members.{doc_of, has_values}
use Rattle.deb_index.specs.VersionSpellings.{body_or_nothing}
use Rattle.deb_index.specs.declared.members.Members.{Members}
use Rattle.deb_install.specs.Terms.{is_marked}
use Rattle.deb_install.specs.declared.kept.KeptMember.{KeptMember}

-- by its fields, a paragraph marks its package as essential
abbrev pub is_marked_by : List Field → Bool
is_marked_by fields =
    bytes_eq (body_or_nothing (field_named (codes "Essential") fields)) (codes "yes")

-- This is kept of a member with these values, however its fields are spelled: its texts, and
-- whether it is marked as essential.
pub record HoldsValues (values : ValueEntries ValueMeaning) (kept : KeptMember) : Type 0 where
  pub fields : List Field
  pub holds : HoldsMember fields values kept.texts
  pub marked : kept.is_marked ≡ is_marked values

-- These are kept of the members among these paragraphs, of which each passes.
pub record HoldsGiven (members : Members) (kept : List KeptMember) (given : List Seen) :
    Type 0 where
  pub meaning : Meaning
  pub are : Pairwise (AreValuesOf (doc_of members)) given meaning
  pub holds : Pairwise HoldsValues (filter (has_values members) meaning) kept

-- names are read without case, words with case
abbrev fields : List ℕ → List Field
fields word = record { name = codes "essential"; line = 2; body = word } ∷ []

worked-marked : map is_marked_by
    (fields (codes "yes") ∷ fields (codes "no") ∷ fields (codes "Yes") ∷ [] ∷ [])
    ≡ true ∷ false ∷ false ∷ false ∷ []
worked-marked = refl
