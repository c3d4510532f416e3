-- What the calls that ask are asked, and what they write of one paragraph.
use Rattle.std.specs.Prelude.{◌≡◌, ℕ, Bool, List, [], ◌∷◌, Option, Result, Ok, Err, codes, refl}
use Rattle.std.specs.Fmt.{digits}
use Rattle.std.specs.Io.KnownBytes.{Appends}
use Rattle.deb_base.specs.Devices.{AppendsFront}
use Rattle.deb_base.specs.declared.fault.Fault.{Fault}
use Rattle.deb_base.specs.declared.fault.Fault.TheVariants.{Refused, Memory, Read, Write}
use Rattle.deb_base.specs.declared.version_text.VersionText.TheVariants.{Canonical}
use Rattle.deb_relation.specs.Applying.{Environment}
use Rattle.deb_relation.specs.Environments.{environment_with}
use Rattle.deb_relation.specs.Texts.{group_text}
use Rattle.deb_field.specs.Values.{NameMeans, RelationMeans}
use Rattle.deb_index.specs.Alternatives.{alone}
use Rattle.deb_unmet.specs.Asked.{doc_of, request_for}
use Rattle.deb_unmet.specs.Fields.{paragraph_lines}
use Rattle.deb_unmet.specs.Files.{Asks, is_nothing, lines_of}
use Rattle.deb_unmet.specs.Scopes.{Scope, plain}
use Rattle.deb_unmet.specs.declared.asked.Request.{Request}
use Rattle.deb_unmet.specs.declared.asked.Asked.TheVariants.{Sources}
use Rattle.deb_unmet.specs.declared.asked.SourcesAsked.TheVariants.{OfTarget}

abbrev pub asks_of : Request → Environment → Scope → Asks
asks_of request environment scope =
    record {
      doc = doc_of request.asked;
      versions = request.versions;
      lines = paragraph_lines request.asked environment scope;
    }

-- Ok: these lines were written, and it says whether there is none. Out of memory: nothing was. A
-- failed write: a front was.
abbrev pub PutsLines : List ℕ → Result Bool Fault → Option (List ℕ) → Option (List ℕ) → Type 0
PutsLines lines (Ok is_empty) old new = Appends old new lines × (is_empty ≡ is_nothing lines)
PutsLines lines (Err (Refused refusal)) old new = ⊥
PutsLines lines (Err Memory) old new = old ≡ new
PutsLines lines (Err Read) old new = ⊥
PutsLines lines (Err Write) old new = AppendsFront old new lines

-- out of memory or a failed write
abbrev pub IsWritersFault : {T : Type 0} → Result T Fault → Type 0
IsWritersFault (Ok _) = Unit {0}
IsWritersFault (Err (Refused refusal)) = ⊥
IsWritersFault (Err Memory) = Unit {0}
IsWritersFault (Err Read) = ⊥
IsWritersFault (Err Write) = Unit {0}

-- the lines of a paragraph without a package's version
worked-lines : lines_of
    (asks_of (request_for (Sources OfTarget) Canonical) (environment_with (codes "amd64") [])
    (plain [])) 3 []
    ((codes "Build-Depends", RelationMeans ((alone (codes "aa") ∷ []) ∷ []))
    ∷ (codes "Package", NameMeans (codes "xx")) ∷ [])
    ≡ codes "unmet 3 xx  source Build-Depends aa\n"
unfolding group_text digits
worked-lines = refl
