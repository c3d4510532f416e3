-- What a `RelationField` means, and that a body spells it.
use Rattle.deb_relation.specs.Meaning.{Relation}
use Rattle.deb_relation.specs.RelationTexts.{body_of, text_meaning, text_read}
use Rattle.deb_field.specs.RelationFields.{SpellsRelationship}
use Rattle.deb_field.specs.RelationLaw.{spelled-from_reading}
use Rattle.deb_field.specs.declared.relation.RelationField.{RelationField}

abbrev pub relation_meaning : RelationField → Relation
relation_meaning field = text_meaning field.relation

-- the body that was read spells it
pub relation_spelled : (field : RelationField)
    → SpellsRelationship field.relationship (body_of field.relation) (relation_meaning field)
relation_spelled field =
    spelled-from_reading field.relationship (body_of field.relation) (relation_meaning field)
    (text_read field.relation) field.allowed
