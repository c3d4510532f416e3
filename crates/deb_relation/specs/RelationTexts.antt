-- What a `RelationText` means: the relation that its body spells. Debian Policy 7.1.
use Rattle.std.specs.Prelude.{◌≡◌, ℕ, true, false, List, [], ◌∷◌, None, Result, Ok, Err, codes, refl}
use Rattle.deb_relation.specs.declared.fault.RelationFault.{RelationFault}
use Rattle.deb_relation.specs.declared.fault.RelationFault.TheVariants.{Bad, Memory}
use Rattle.deb_relation.specs.declared.kept_text.KeptText.TheVariants.{Lent}
use Rattle.deb_relation.specs.declared.relation_text.RelationText.{RelationText}
use Rattle.deb_relation.specs.Bodies.{meaning_in}
use Rattle.deb_relation.specs.Grammar.{SpellsRelation}
use Rattle.deb_relation.specs.Meaning.{Relation}
use Rattle.deb_relation.specs.Reading.{alternative_with, relation_in}
use Rattle.deb_relation.specs.Rows.{steps}
use Rattle.deb_relation.specs.Texts.{group_text}
use Rattle.deb_base.specs.Literals.{lent}

abbrev pub body_of : RelationText → List ℕ
body_of relation = relation.body.now

abbrev pub text_meaning : RelationText → Relation
text_meaning relation = meaning_in (body_of relation)

pub text_read : (relation : RelationText)
    → relation_in (body_of relation) ≡ Ok (text_meaning relation)
text_read relation = relation.read

-- A text of this meaning is read, unless memory is wanting.
abbrev pub IsTextRead : Result RelationText RelationFault → Relation → Type 0
IsTextRead (Ok relation) m = text_meaning relation ≡ m
IsTextRead (Err (Bad reason at)) m = ⊥
IsTextRead (Err Memory) m = Unit {0}

-- a body of one name, whose canonical text it lends
lent_body : RelationText
unfolding steps relation_in group_text
lent_body = record {
  body = lent (codes "\taa");
  text = Lent (lent (codes "aa"));
  some_alternatives = false;
  equals_alone = true;
  read = refl;
  written = refl;
  alternatives_are = refl;
  equals_are = refl;
}

worked-body : body_of lent_body ≡ codes "\taa"
unfolding lent_body
worked-body = refl

worked-meaning : text_meaning lent_body
    ≡ (alternative_with (codes "aa") None None None [] ∷ []) ∷ []
unfolding lent_body steps relation_in group_text
worked-meaning = refl

-- A relation without its parts, however it was made, is spelled by its body.
abbrev pub RelationTextSpells : RelationText → Type 0
RelationTextSpells relation = SpellsRelation (body_of relation) (text_meaning relation)
