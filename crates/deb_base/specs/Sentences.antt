-- What each code means, in a sentence, with the section of Debian Policy or the manual page; and
-- what a refusal with it usually is. The words are this project's own.
use Rattle.std.specs.Prelude.{ℕ, List, ◌++◌, Option, Some, None, codes}
use Rattle.deb_base.specs.declared.code.Code.{Code}
use Rattle.deb_base.specs.declared.code.Code.TheVariants.{NotUtf8, Armour, Comment}
use Rattle.deb_base.specs.declared.code.Code.TheVariants.{StrayContinuation, BadFieldName, NoColon}
use Rattle.deb_base.specs.declared.code.Code.TheVariants.{DuplicateField, ParagraphTooLong}
use Rattle.deb_base.specs.declared.code.Code.TheVariants.{FileTooLong, NoParagraph}
use Rattle.deb_base.specs.declared.code.Code.TheVariants.{TooManyParagraphs, MissingField}
use Rattle.deb_base.specs.declared.code.Code.TheVariants.{NotOneLine, BadName, BadNumber, BadWord}
use Rattle.deb_base.specs.declared.code.Code.TheVariants.{BadArchitecture, BadVersion, BadRelation}
use Rattle.deb_base.specs.declared.code.Code.TheVariants.{AlternativesNotAllowed, ProvidesBound}
use Rattle.deb_base.specs.declared.code.Code.TheVariants.{Wildcard, BadEnvironment}

-- the rule that is broken
abbrev pub rule_of : Code → List ℕ
rule_of NotUtf8 = codes "The file must be UTF-8 text (Debian Policy 5.1)."
rule_of Armour =
    codes "No line may begin with `-----BEGIN PGP`; extract the text of a signed file first."
rule_of Comment =
    codes "No line may begin with `#`; the comments of debian/control aren't supported (deb822(5))."
rule_of StrayContinuation =
    codes "The first line of a paragraph must not begin with a space or tab (Debian Policy 5.1)."
rule_of BadFieldName =
    codes "The name before the colon must be printable ASCII without spaces, must not be "
    ++ codes "empty, and must not begin with `#` or `-` (Debian Policy 5.1)."
rule_of NoColon =
    codes "The first line of a field must have a colon after the name (Debian Policy 5.1)."
rule_of DuplicateField =
    codes "A paragraph must not contain two fields of the same name; case doesn't matter "
    ++ codes "(Debian Policy 5.1)."
rule_of ParagraphTooLong =
    codes "A paragraph, and its canonical text, must have at most 16,777,216 bytes."
rule_of FileTooLong = codes "A file, and its canonical text, must have at most 4,294,967,295 bytes."
rule_of NoParagraph =
    codes "A file of this kind must contain exactly one paragraph (Debian Policy 5.3, 5.4)."
rule_of TooManyParagraphs =
    codes "A file of this kind must contain exactly one paragraph (Debian Policy 5.3, 5.4)."
rule_of MissingField =
    codes "Each paragraph must contain the fields that this kind of file requires (Debian "
    ++ codes "Policy 5.3, 5.4)."
rule_of NotOneLine = codes "The value of this field must be a single line (Debian Policy 5.1)."
rule_of BadName =
    codes "A package name must be at least two of the characters a-z, 0-9, `+`, `-` and `.`, "
    ++ codes "and begin with a letter or digit; Source is a name, or `name (version)` (Debian "
    ++ codes "Policy 5.6.1)."
rule_of BadNumber =
    codes "Installed-Size (Debian Policy 5.6.20) and Size must be one or more decimal digits."
rule_of BadWord =
    codes "Essential must be `yes` or `no` (Debian Policy 5.6.9), and Multi-Arch must be "
    ++ codes "`no`, `same`, `foreign` or `allowed` (deb-control(5))."
rule_of BadArchitecture =
    codes "A binary package must name one architecture, a source package any number (Debian "
    ++ codes "Policy 5.6.8); a name consists of a-z, 0-9 and `-`, and begins with a letter or "
    ++ codes "digit."
rule_of BadVersion =
    codes "A version must have the form [epoch:]upstream[-revision] (Debian Policy 5.6.12); "
    ++ codes "it consists of letters, digits, `.`, `+` and `~`, and upstream may also contain "
    ++ codes "`-` and `:`. The epoch consists of digits, and no part is empty."
rule_of BadRelation =
    codes "The value must be a list of packages, with versions in parentheses (Debian Policy 7.1)."
rule_of AlternativesNotAllowed =
    codes "This field must not contain alternatives with `|` (Debian Policy 7.1)."
rule_of ProvidesBound =
    codes "A version in Provides must have the operator `=` (Debian Policy 7.1)."
rule_of Wildcard =
    codes "The architecture lists of a query must not contain wildcards such as `any` or "
    ++ codes "`linux-any`."
rule_of BadEnvironment =
    codes "A query must be for one architecture, not for `all` or a wildcard, and each of "
    ++ codes "its profiles must be a valid name."

-- what it usually is
abbrev pub usually_of : Code → Option (List ℕ)
usually_of NotUtf8 = Some (codes "a compressed file, UTF-16 with a byte order mark, or Latin-1")
usually_of Armour = Some (codes "an `InRelease` file, or a signed `.dsc` or `.changes` file")
usually_of Comment = Some (codes "a `debian/control` with comments, or a configuration file")
usually_of StrayContinuation = Some (codes "a blank line within a field; write it as ` .`")
usually_of BadFieldName =
    Some (codes "a space before the colon, a byte order mark, or UTF-16 without one")
usually_of NoColon =
    Some (codes "no control data, a blank line within a field, or lines that end in CR LF")
usually_of DuplicateField = Some (codes "two paragraphs without an empty line between them")
usually_of ParagraphTooLong = None
usually_of FileTooLong = None
usually_of NoParagraph = Some (codes "an empty file, such as a failed command leaves")
usually_of TooManyParagraphs =
    Some (codes "an index instead of a control file; use another `--kind`")
usually_of MissingField = Some (codes "the wrong `--kind` for this file")
usually_of NotOneLine = Some (codes "a value that was folded into several lines")
usually_of BadName = Some (codes "upper case, an underscore, or a trailing CR")
usually_of BadNumber = Some (codes "a unit after the number")
usually_of BadWord = Some (codes "upper case, or a misspelled word")
usually_of BadArchitecture = Some (codes "a `Sources` index read as `packages`, or upper case")
usually_of BadVersion =
    Some (codes "an underscore, an empty revision, a trailing CR, or a substitution variable")
usually_of BadRelation =
    Some (codes "a substitution variable, a version without an operator, or upper case in a name")
usually_of AlternativesNotAllowed = Some (codes "`|` in Provides, Conflicts, Breaks or Replaces")
usually_of ProvidesBound = Some (codes "a version that was copied from Depends")
usually_of Wildcard = Some (codes "`[linux-any]` from Build-Depends; name the architecture instead")
usually_of BadEnvironment =
    Some (codes "`all` or a wildcard as the architecture, or an empty profile name")
