-- The names of the reasons why a text is no condition, and what each means in a sentence: this
-- project's own.
use Rattle.std.specs.Prelude.{◌≡◌, ℕ, List, [], ◌∷◌, map, codes, refl}
use Rattle.deb_base.specs.declared.code.Code.TheVariants.{BadVersion}
use Rattle.deb_select.specs.declared.reason.Reason.{Reason}
use Rattle.deb_select.specs.declared.reason.Reason.TheVariants.{NameExpected, NameBad, OperatorBad}
use Rattle.deb_select.specs.declared.reason.Reason.TheVariants.{NoOrder, NoNames, ValueExpected}
use Rattle.deb_select.specs.declared.reason.Reason.TheVariants.{ValueBad, NoName}

unfoldable pub reason_name : Reason → List ℕ
reason_name NameExpected = codes "NameExpected"
reason_name NameBad = codes "NameBad"
reason_name OperatorBad = codes "OperatorBad"
reason_name NoOrder = codes "NoOrder"
reason_name NoNames = codes "NoNames"
reason_name ValueExpected = codes "ValueExpected"
reason_name (ValueBad code) = codes "ValueBad"
reason_name NoName = codes "NoName"

unfoldable pub reason_text : Reason → List ℕ
reason_text NameExpected = codes "A field's name is expected."
reason_text NameBad = codes "This can't be a field's name."
reason_text OperatorBad = codes "The operator must be =, !=, <<, <=, >=, >>, ~ or names."
reason_text NoOrder = codes "Only versions and numbers have an order."
reason_text NoNames = codes "Values of this field have no names."
reason_text ValueExpected = codes "A value is expected."
reason_text (ValueBad code) = codes "The field can't have this value."
reason_text NoName = codes "This can't be a name here."

-- for the worked cases: all reasons
abbrev all : List Reason
all =
    NameExpected ∷ NameBad ∷ OperatorBad ∷ NoOrder ∷ NoNames ∷ ValueExpected ∷ ValueBad BadVersion
    ∷ NoName ∷ []

worked-names : map reason_name all
    ≡ codes "NameExpected" ∷ codes "NameBad" ∷ codes "OperatorBad" ∷ codes "NoOrder"
    ∷ codes "NoNames" ∷ codes "ValueExpected" ∷ codes "ValueBad" ∷ codes "NoName" ∷ []
unfolding reason_name
worked-names = refl

worked-texts : map reason_text all
    ≡ codes "A field's name is expected." ∷ codes "This can't be a field's name."
    ∷ codes "The operator must be =, !=, <<, <=, >=, >>, ~ or names."
    ∷ codes "Only versions and numbers have an order."
    ∷ codes "Values of this field have no names." ∷ codes "A value is expected."
    ∷ codes "The field can't have this value." ∷ codes "This can't be a name here." ∷ []
unfolding reason_text
worked-texts = refl
