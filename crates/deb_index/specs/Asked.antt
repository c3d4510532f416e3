-- What a `Question` asks, and that it was parsed from words.
use Rattle.std.specs.Prelude.{◌≡◌, IsTrue, refl, [], ◌∷◌, None, codes, true, false}
use Rattle.deb_relation.specs.Applying.{Environment}
use Rattle.deb_relation.specs.Environments.{environment_of, environment_with}
use Rattle.deb_relation.specs.Grammar.{SpellsRelation}
use Rattle.deb_relation.specs.Meaning.{Relation}
use Rattle.deb_relation.specs.RelationTexts.{text_meaning}
use Rattle.deb_index.specs.Questions.{Question, environment_in, has_environment}
use Rattle.deb_index.specs.declared.question.Question.{Question as Asked}
use Rattle.deb_base.specs.Literals.{lent, vector}
use Rattle.deb_relation.specs.Reading.{alternative_with, relation_in}
use Rattle.deb_relation.specs.Rows.{steps}
use Rattle.deb_relation.specs.Texts.{group_text}
use Rattle.deb_relation.specs.declared.kept_text.KeptText.TheVariants.{Lent}

abbrev pub relation_asked : Asked → Relation
relation_asked asked = text_meaning asked.relation

abbrev pub environment_asked : Asked → Environment
environment_asked asked = environment_of asked.environment

-- The words are good, and this is what they ask.
pub record Asks (q : Question) (asked : Asked) : Type 0 where
  pub spelled : SpellsRelation q.relation (relation_asked asked)
  pub environment : IsTrue (has_environment q)
  pub is : environment_asked asked ≡ environment_in q

-- its relation and its environment
abbrev asked_aa : Asked
unfolding steps relation_in group_text
asked_aa = record {
  relation = record {
    body = lent (codes "\taa");
    text = Lent (lent (codes "aa"));
    some_alternatives = false;
    equals_alone = true;
    read = refl;
    written = refl;
    alternatives_are = refl;
    equals_are = refl;
  };
  wildcard = false;
  environment = record {
    target = vector (codes "amd64") refl;
    native = vector (codes "amd64") refl;
    profiles = vector [] refl;
  };
  wildcard_is = refl;
}

worked-asked : (relation_asked asked_aa
    ≡ (alternative_with (codes "aa") None None None [] ∷ []) ∷ [])
    × (environment_asked asked_aa ≡ environment_with (codes "amd64") [])
unfolding asked_aa steps relation_in group_text
worked-asked = (refl, refl)
