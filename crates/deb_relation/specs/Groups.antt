-- What groups of the code represent.
use Rattle.std.proofs.Common.{◌≡◌, ℕ, List, [], ◌∷◌, map, Option, Some, None, refl, codes}
use Rattle.std.specs.Option.{option_map}
use denote.Ref.{Bor}
use Rattle.deb_relation.specs.declared.group.Group.{Group as Alternatives}
use Rattle.deb_relation.specs.Meaning.{Group, Alternative}
use Rattle.deb_relation.specs.Reading.{append, alternative_with}
use Rattle.deb_relation.specs.Texts.{group_text}
use Rattle.deb_relation.specs.Views.{alternative_of}
use Rattle.deb_base.specs.Literals.{vector, lent}

-- a group's meaning, and the text by which a relation is ordered
abbrev pub group_of : Alternatives → Group
group_of group = map alternative_of group.alternatives.items

abbrev pub group_key : Alternatives → List ℕ
group_key group = group_text (group_of group)

-- a piece's meaning and the text after it
abbrev pub piece_behind : Option Alternatives × Bor (List ℕ) → Option Group × List ℕ
piece_behind p = (option_map group_of p.0, p.1.now)

-- the groups of pieces in the order of the text, repeats kept
abbrev pub append_piece : Option Group → List Group → List Group
append_piece None groups = groups
append_piece (Some group) groups = append group groups

-- a group of two alternatives, which keep their order
unfoldable pub bb_or_aa : Alternatives
unfolding group_text
bb_or_aa = record {
  alternatives = vector
      (record { name = lent (codes "bb"); asked = None; lists = None }
      ∷ record { name = lent (codes "aa"); asked = None; lists = None } ∷ []) refl;
  text = vector (codes "bb | aa") refl;
  written = refl;
}

abbrev named : List ℕ → Alternative
named name = alternative_with name None None None []

worked-group : (group_of bb_or_aa ≡ named (codes "bb") ∷ named (codes "aa") ∷ [])
    × (group_key bb_or_aa ≡ codes "bb | aa")
unfolding bb_or_aa group_text
worked-group = (refl, refl)

worked-piece : (piece_behind (Some bb_or_aa, lent (codes ", c"))
    ≡ (Some (named (codes "bb") ∷ named (codes "aa") ∷ []), codes ", c"))
    × (piece_behind (None, lent (codes ",")) ≡ (None, codes ","))
unfolding bb_or_aa
worked-piece = (refl, refl)

worked-append : (append_piece (Some (named (codes "aa") ∷ [])) ((named (codes "bb") ∷ []) ∷ [])
    ≡ (named (codes "bb") ∷ []) ∷ (named (codes "aa") ∷ []) ∷ [])
    × (append_piece None ((named (codes "bb") ∷ []) ∷ []) ≡ (named (codes "bb") ∷ []) ∷ [])
worked-append = (refl, refl)
