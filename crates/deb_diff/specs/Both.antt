-- What two files don't have in common.
use Rattle.std.specs.Prelude.{◌≡◌, ℕ, List, length, map}
use Rattle.deb_control.specs.Documents.{Accepted, Meaning}
use Rattle.deb_diff.specs.Items.{Item, items_of, whole}
use Rattle.deb_diff.specs.Kepts.{AreKept}
use Rattle.deb_diff.specs.Kinds.{doc_of}
use Rattle.deb_diff.specs.Pairing.{without}
use Rattle.deb_diff.specs.Pools.{pick}
use Rattle.deb_diff.specs.declared.both.Others.{Others}
use Rattle.deb_diff.specs.declared.kept.Kept.{Kept}
use Rattle.deb_diff.specs.declared.kind.Kind.{Kind}
use Rattle.deb_diff.specs.declared.sides.Read.{Read}

-- The file is accepted as one of the kind.
abbrev pub IsAcceptedFile : Kind → List ℕ → Type 0
IsAcceptedFile kind text = (meaning : Meaning) × Accepted (doc_of kind) text meaning

-- The file is accepted, and these are its paragraphs.
pub record ReadsAll (kind : Kind) (text : List ℕ) (kept : List Kept) : Type 0 where
  pub meaning : Meaning
  pub accepted : Accepted (doc_of kind) text meaning
  pub are_kept : AreKept kept (items_of kind text meaning)

-- The file is accepted. These are the old paragraphs that it doesn't have, and its paragraphs that
-- aren't among the old ones.
pub record ReadsNew (kind : Kind) (text : List ℕ) (old : List Item) (others : Others) : Type 0
  where
    pub meaning : Meaning
    pub accepted : Accepted (doc_of kind) text meaning
    pub length_is : length others.waits.items ≡ length old
    pub left : map (λ e. e.1) (pick 0 old others.waits.items)
        ≡ without whole old (items_of kind text meaning)
    pub are_kept : AreKept others.new.items (without whole (items_of kind text meaning) old)

-- Both files are accepted, and these are the paragraphs of the old one and what isn't in both.
pub record ReadsBoth (kind : Kind) (text other : List ℕ) (read : Read) : Type 0 where
  pub old_meaning : Meaning
  pub accepted : Accepted (doc_of kind) text old_meaning
  pub are_kept : AreKept read.old.items (items_of kind text old_meaning)
  pub new : ReadsNew kind other (items_of kind text old_meaning) read.others
