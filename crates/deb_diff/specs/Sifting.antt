-- The paragraphs of a file that another file doesn't have.
use Rattle.std.specs.Prelude.{◌≡◌, ℕ, ◌++◌, cond, is_some, List, [], ◌∷◌, map, codes, true, false}
use Rattle.deb_control.specs.Documents.{Accepted, Meaning}
use Rattle.deb_diff.specs.Items.{Item, items_of, whole}
use Rattle.deb_diff.specs.Kepts.{AreKept}
use Rattle.deb_diff.specs.Kinds.{doc_of}
use Rattle.deb_diff.specs.Pairing.{all_but, earliest, without}
use Rattle.deb_diff.specs.Pools.{IsPoolOf, left_in, waiting_in}
use Rattle.deb_diff.specs.declared.kept.Kept.{Kept}
use Rattle.deb_diff.specs.declared.kind.Kind.{Kind}
use Rattle.deb_diff.specs.declared.pool.Pool.{Pool}
use Rattle.std.proofs.Common.{ap}

-- the paragraphs that wait
abbrev pub items_in : List Item → Pool → List Item
items_in others pool = map (λ e. e.1) (left_in others pool)

-- The paragraph was taken away, or else kept.
pub record Sifts (item : Item) (others : List Item) (old new : Pool) (before after : List Kept)
    : Type 0 where
  pub is_pool : IsPoolOf (map whole others) new
  pub left : items_in others new ≡ all_but whole (whole item) (items_in others old)
  pub kept : (items : List Item) → AreKept before items → AreKept after
      (items ++ cond (is_some (earliest whole (whole item) (items_in others old))) []
      (item ∷ []))

-- The file is accepted. Its paragraphs were taken away, and those that weren't there are kept.
pub record SiftsFile (kind : Kind) (text : List ℕ) (others : List Item) (old new : Pool)
    (kept : List Kept) : Type 0 where
  pub meaning : Meaning
  pub accepted : Accepted (doc_of kind) text meaning
  pub is_pool : IsPoolOf (map whole others) new
  pub left : items_in others new ≡ without whole (items_in others old) (items_of kind text meaning)
  pub are_kept : AreKept kept (without whole (items_of kind text meaning) (items_in others old))

abbrev item : ℕ → Item
item number = record {
  number = number;
  name = codes "aa";
  version = codes "1";
  spelled = codes "1";
  architecture = codes "all";
  bodies = [];
}

worked-items : (pool : Pool) → pool.waits.items ≡ true ∷ false ∷ true ∷ []
    → items_in (item 1 ∷ item 2 ∷ item 3 ∷ []) pool ≡ item 1 ∷ item 3 ∷ []
worked-items pool = ap (waiting_in (item 1 ∷ item 2 ∷ item 3 ∷ []))
