-- The canonical text of an item, a list, an alternative, a group and a relation. Debian Policy 7.1.
use Rattle.std.specs.Prelude.{ℕ, Bool, true, false, List, [], ◌∷◌, ◌++◌, map, Option, Some, None, codes}
use Rattle.deb_relation.specs.declared.operator.Op.{Op}
use Rattle.deb_relation.specs.declared.operator.Op.TheVariants.{Earlier, EarlierEqual, Equal, LaterEqual, Later}
use Rattle.deb_version.specs.Parts.{Meaning as Version}
use Rattle.deb_version.specs.Canonical.{version_text}
use Rattle.deb_relation.specs.Meaning.{Item, Restrictions, Alternative, Group, Relation}

-- texts, each with a separator before it
abbrev pub separated : List ℕ → List (List ℕ) → List ℕ
separated separator [] = []
separated separator (text ∷ texts) = separator ++ (text ++ separated separator texts)

-- texts with a separator between two of them
abbrev pub joined : List ℕ → List (List ℕ) → List ℕ
joined separator [] = []
joined separator (text ∷ texts) = text ++ separated separator texts

abbrev pub operator_text : Op → List ℕ
operator_text Earlier = codes "<<"
operator_text EarlierEqual = codes "<="
operator_text Equal = codes "="
operator_text LaterEqual = codes ">="
operator_text Later = codes ">>"

-- a name, with `!` before it or not
abbrev pub signed_text : Bool → List ℕ → List ℕ
signed_text true name = 33 ∷ name
signed_text false name = name

abbrev pub item_text : Item → List ℕ
item_text item = signed_text item.0 item.1

-- `<`, the items with one space between, `>`
abbrev pub restrictions_text : Restrictions → List ℕ
restrictions_text items = codes "<" ++ (joined (codes " ") (map item_text items) ++ codes ">")

-- what follows the name: nothing, or `:` and the qualifier
abbrev pub qualifier_text : Option (List ℕ) → List ℕ
qualifier_text None = []
qualifier_text (Some qualifier) = codes ":" ++ qualifier

-- nothing, or a space and the bound in parentheses
abbrev pub bound_text : Option (Op × Version) → List ℕ
bound_text None = []
bound_text (Some bound) =
    codes " (" ++ (operator_text bound.0 ++ (codes " " ++ (version_text bound.1 ++ codes ")")))

-- nothing, or a space and the names in brackets, each with `!` or none with it
abbrev pub architectures_text : Option (Bool × List (List ℕ)) → List ℕ
architectures_text None = []
architectures_text (Some list) =
    codes " [" ++ (joined (codes " ") (map (signed_text list.0) list.1) ++ codes "]")

-- each restriction list with a space before it
abbrev pub formula_text : List Restrictions → List ℕ
formula_text lists = separated (codes " ") (map restrictions_text lists)

abbrev pub alternative_text : Alternative → List ℕ
alternative_text a =
    a.name ++ (qualifier_text a.qualifier ++
    (bound_text a.bound ++ (architectures_text a.architectures ++ formula_text a.formula)))

unfoldable pub group_text : Group → List ℕ
group_text alternatives = joined (codes " | ") (map alternative_text alternatives)

abbrev pub relation_text : Relation → List ℕ
relation_text groups = joined (codes ", ") (map group_text groups)
