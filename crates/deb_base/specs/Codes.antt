-- The numbers and names of the codes of refusals: the first nine are about the text of a file
-- (Debian Policy 5.1), 10 to 12 about its paragraphs (5.2 to 5.4), 13 to 21 about a value (5.6 and
-- 7), 22 and 23 about a query.
use Rattle.std.specs.Prelude.{◌≡◌, ℕ, List, [], ◌∷◌, map, codes, refl}
use Rattle.deb_base.specs.declared.code.Code.{Code}
use Rattle.deb_base.specs.declared.code.Code.TheVariants.{NotUtf8, Armour, Comment, StrayContinuation, BadFieldName, NoColon, DuplicateField, ParagraphTooLong, FileTooLong, NoParagraph, TooManyParagraphs, MissingField, NotOneLine, BadName, BadNumber, BadWord, BadArchitecture, BadVersion, BadRelation, AlternativesNotAllowed, ProvidesBound, Wildcard, BadEnvironment}

-- the number of a code, from 1 to 23
abbrev pub number_of : Code → ℕ
number_of NotUtf8 = 1
number_of Armour = 2
number_of Comment = 3
number_of StrayContinuation = 4
number_of BadFieldName = 5
number_of NoColon = 6
number_of DuplicateField = 7
number_of ParagraphTooLong = 8
number_of FileTooLong = 9
number_of NoParagraph = 10
number_of TooManyParagraphs = 11
number_of MissingField = 12
number_of NotOneLine = 13
number_of BadName = 14
number_of BadNumber = 15
number_of BadWord = 16
number_of BadArchitecture = 17
number_of BadVersion = 18
number_of BadRelation = 19
number_of AlternativesNotAllowed = 20
number_of ProvidesBound = 21
number_of Wildcard = 22
number_of BadEnvironment = 23

-- the name of a code, as it is reported
abbrev pub name_of : Code → List ℕ
name_of NotUtf8 = codes "NotUtf8"
name_of Armour = codes "Armour"
name_of Comment = codes "Comment"
name_of StrayContinuation = codes "StrayContinuation"
name_of BadFieldName = codes "BadFieldName"
name_of NoColon = codes "NoColon"
name_of DuplicateField = codes "DuplicateField"
name_of ParagraphTooLong = codes "ParagraphTooLong"
name_of FileTooLong = codes "FileTooLong"
name_of NoParagraph = codes "NoParagraph"
name_of TooManyParagraphs = codes "TooManyParagraphs"
name_of MissingField = codes "MissingField"
name_of NotOneLine = codes "NotOneLine"
name_of BadName = codes "BadName"
name_of BadNumber = codes "BadNumber"
name_of BadWord = codes "BadWord"
name_of BadArchitecture = codes "BadArchitecture"
name_of BadVersion = codes "BadVersion"
name_of BadRelation = codes "BadRelation"
name_of AlternativesNotAllowed = codes "AlternativesNotAllowed"
name_of ProvidesBound = codes "ProvidesBound"
name_of Wildcard = codes "Wildcard"
name_of BadEnvironment = codes "BadEnvironment"

-- the codes of refusals, which go from the text of a file over its paragraphs and values to words
numbers_of_codes : map number_of
    (NotUtf8 ∷ Armour ∷ Comment ∷ StrayContinuation ∷ BadFieldName
    ∷ NoColon ∷ DuplicateField ∷ ParagraphTooLong ∷ FileTooLong
    ∷ NoParagraph ∷ TooManyParagraphs ∷ MissingField ∷ NotOneLine
    ∷ BadName ∷ BadNumber ∷ BadWord ∷ BadArchitecture ∷ BadVersion
    ∷ BadRelation ∷ AlternativesNotAllowed ∷ ProvidesBound ∷ Wildcard
    ∷ BadEnvironment ∷ [])
    ≡ 1 ∷ 2 ∷ 3 ∷ 4 ∷ 5 ∷ 6 ∷ 7 ∷ 8 ∷ 9 ∷ 10 ∷ 11 ∷ 12 ∷ 13 ∷ 14 ∷ 15 ∷ 16 ∷ 17 ∷ 18 ∷ 19 ∷ 20
    ∷ 21 ∷ 22 ∷ 23 ∷ []
numbers_of_codes = refl

names_of_codes : map name_of
    (NotUtf8 ∷ Armour ∷ Comment ∷ StrayContinuation ∷ BadFieldName
    ∷ NoColon ∷ DuplicateField ∷ ParagraphTooLong ∷ FileTooLong
    ∷ NoParagraph ∷ TooManyParagraphs ∷ MissingField ∷ NotOneLine
    ∷ BadName ∷ BadNumber ∷ BadWord ∷ BadArchitecture ∷ BadVersion
    ∷ BadRelation ∷ AlternativesNotAllowed ∷ ProvidesBound ∷ Wildcard
    ∷ BadEnvironment ∷ [])
    ≡ codes "NotUtf8" ∷ codes "Armour" ∷ codes "Comment" ∷ codes "StrayContinuation"
    ∷ codes "BadFieldName" ∷ codes "NoColon" ∷ codes "DuplicateField" ∷ codes "ParagraphTooLong"
    ∷ codes "FileTooLong" ∷ codes "NoParagraph" ∷ codes "TooManyParagraphs" ∷ codes "MissingField"
    ∷ codes "NotOneLine" ∷ codes "BadName" ∷ codes "BadNumber" ∷ codes "BadWord"
    ∷ codes "BadArchitecture" ∷ codes "BadVersion" ∷ codes "BadRelation"
    ∷ codes "AlternativesNotAllowed" ∷ codes "ProvidesBound" ∷ codes "Wildcard"
    ∷ codes "BadEnvironment" ∷ []
names_of_codes = refl
