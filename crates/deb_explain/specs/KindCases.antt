-- A worked case at the rules of a kind, of a paragraph after one that passes. Debian Policy 5.3.
--
-- How a kind finds the canonical texts of values doesn't compute; that they are those of what the
-- bodies spell is a law of documents, and nothing else of them counts here.
use Rattle.std.specs.Prelude.{◌≡◌, ℕ, List, [], ◌∷◌, cond, Option, Some, codes}
use Rattle.std.proofs.Common.{refl, ap, ◌∙◌}
use Rattle.std.specs.Str.{bytes_eq, is_utf8, chars}
use lib.Utf8.{encode}
use Rattle.deb_base.specs.Bodies.{paragraph_limit, file_limit}
use Rattle.deb_base.specs.declared.code.Code.TheVariants.{BadVersion}
use Rattle.deb_version.specs.Faults.{first_fault}
use Rattle.deb_version.specs.Parts.{Meaning as VersionMeaning, no_revision}
use Rattle.deb_version.specs.declared.fault.BadVersion.TheVariants.{UpstreamByte}
use Rattle.deb_version.proofs.FaultLemmas.{spells-from_no_fault}
use Rattle.deb_base.specs.Docs.{is_single}
use Rattle.deb_base.specs.Kinds.{kind_at, known_row, kind_of, required}
use Rattle.deb_field.specs.Values.{NameMeans, VersionMeans, ArchitectureMeans, value_refusal}
use Rattle.deb_base.specs.declared.doc.Doc.TheVariants.{Packages}
use Rattle.deb_control.specs.Documents.{rules_of}
use Rattle.deb_control.specs.Rules.{Rules}
use Rattle.deb_control.proofs.DocumentRules.{document_rules}
use Rattle.deb_explain.specs.Explanations.{WhyRefused, explanation_by, explanation_of}
use Rattle.deb_explain.specs.Subjects.{AboutField}
use Rattle.deb_explain.specs.declared.cause.Cause.TheVariants as causes

-- two packages, where the second has a bad version
abbrev index : List ℕ
index = codes "Package: aa\nVersion: 01.0-0\nArchitecture: all\n\nPackage: bb\nvERSION: 1_2\n"

-- the rules of packages, but for canonical texts
abbrev writing : (List ℕ → List ℕ → List ℕ) → Rules
writing canonical = record {
  refusal = value_refusal Packages;
  canonical = canonical;
  required = required Packages;
  single = is_single Packages;
}

abbrev explained : (List ℕ → List ℕ → List ℕ) → Option WhyRefused
explained canonical = explanation_by (writing canonical) Packages index

-- texts by the name of a field
abbrev by_name : List ℕ → List ℕ → List ℕ → List ℕ → List ℕ → List ℕ
by_name architecture named version name body =
    cond (bytes_eq name (codes "Architecture")) architecture
    (cond (bytes_eq name (codes "Package")) named version)

-- those of the kind
abbrev of_kind : List ℕ → List ℕ → List ℕ
of_kind = (rules_of Packages).canonical

abbrev version_1_0 : VersionMeaning
version_1_0 =
    record { epoch = 0; upstream = ([], 1) ∷ (codes ".", 0) ∷ []; revision = no_revision }

architecture_text : of_kind (codes "Architecture") (codes "all") ≡ codes "all"
unfolding kind_of kind_at known_row
architecture_text =
    (document_rules Packages).text (codes "Architecture") (codes "all")
    (ArchitectureMeans (codes "all")) (codes "all", refl, (refl, refl))

package_text : of_kind (codes "Package") (codes "aa") ≡ codes "aa"
unfolding kind_of kind_at known_row
package_text =
    (document_rules Packages).text (codes "Package") (codes "aa") (NameMeans (codes "aa"))
    (codes "aa", refl, (refl, refl))

version_text : of_kind (codes "Version") (codes "01.0-0") ≡ codes "1.0"
unfolding kind_of kind_at known_row first_fault
version_text =
    (document_rules Packages).text (codes "Version") (codes "01.0-0") (VersionMeans version_1_0)
    (version_1_0, refl, spells-from_no_fault (codes "01.0-0") refl)

-- a bad version in the second paragraph of an index of packages; the texts of the first package's
-- values alone count
second_package : explanation_of Packages index
    ≡ Some (record {
      refusal = record { code = BadVersion; line = 6 };
      about = AboutField
          (codes "vERSION") 10 (codes "1_2") (Some (causes.Version (UpstreamByte 1) 0));
    })
unfolding file_limit paragraph_limit is_utf8 chars encode kind_of kind_at known_row first_fault
second_package =
    let texts : (canonical : List ℕ → List ℕ → List ℕ) → explained canonical
    ≡ explained (by_name (canonical (codes "Architecture") (codes "all"))
    (canonical (codes "Package") (codes "aa")) (canonical (codes "Version") (codes "01.0-0")))
    = λ canonical. refl in
    let named = of_kind (codes "Package") (codes "aa") in
    let version = of_kind (codes "Version") (codes "01.0-0") in
    texts of_kind
    ∙ ap (λ text. explained (by_name text named version)) architecture_text
    ∙ ap (λ text. explained (by_name (codes "all") text version)) package_text
    ∙ ap (λ text. explained (by_name (codes "all") (codes "aa") text)) version_text
