-- What a body means that spells a relation; of another body the word says nothing.
use Rattle.std.specs.Prelude.{◌≡◌, ℕ, List, [], ◌∷◌, None, Result, Ok, Err, codes, refl}
use Rattle.deb_relation.specs.declared.fault.Reason.{Reason}
use Rattle.deb_relation.specs.Meaning.{Relation, Alternative}
use Rattle.deb_relation.specs.Reading.{alternative_with, relation_in}
use Rattle.deb_relation.specs.Rows.{steps}
use Rattle.deb_relation.specs.Texts.{group_text}

abbrev pub meaning_of : Result Relation (Reason × ℕ) → Relation
meaning_of (Ok m) = m
meaning_of (Err fault) = []

abbrev pub meaning_in : List ℕ → Relation
meaning_in body = meaning_of (relation_in body)

-- a name alone
abbrev bare : List ℕ → Alternative
bare name = alternative_with name None None None []

worked-meaning : meaning_in (codes "bb|aa,aa") ≡ (bare (codes "aa") ∷ [])
    ∷ (bare (codes "bb") ∷ bare (codes "aa") ∷ []) ∷ []
unfolding steps relation_in group_text
worked-meaning = refl

worked-no_relation : meaning_in (codes "bb, a") ≡ []
unfolding steps relation_in group_text
worked-no_relation = refl
