-- Worked cases of files that are accepted: from the bytes of a file to the values that it means,
-- and on to its canonical text. Debian Policy 5.1, 5.3 (binary packages) and 5.4 (source packages);
-- dpkg(1) (the status file).
use Rattle.std.specs.Prelude.{◌≡◌, ℕ, ◌+◌, ◌≤◌, true, IsTrue, List, [], ◌∷◌, ◌++◌, length, map, Some, None, IsUtf8, codes, refl}
use Rattle.std.specs.List.{AllByRecursion}
use Rattle.std.proofs.Math.Dec.{leb}
use Rattle.std.specs.Str.{is_utf8, chars}
use Rattle.std.proofs.lemmas.Bool.{false≢true, leb-true}
use Rattle.std.proofs.lemmas.Str.{IsUtf8-from_is_utf8}
use lib.Utf8.{encode}
use Rattle.deb_base.specs.Bodies.{Line, joined, newline, is_all_blank, is_body_shape, paragraph_limit, file_limit}
use Rattle.deb_base.specs.FieldNames.{colon, is_name}
use Rattle.deb_syntax.specs.Fields.{Field, SpellsField, SpellsFields}
use Rattle.deb_syntax.specs.Meaning.{Entries, Means as BodiesAre}
use Rattle.deb_version.specs.Faults.{first_fault}
use Rattle.deb_version.specs.Parts.{Meaning as VersionMeaning, no_revision}
use Rattle.deb_version.proofs.FaultLemmas.{spells-from_no_fault}
use Rattle.deb_base.specs.declared.doc.Doc.TheVariants.{Packages, Source, Status}
use Rattle.deb_base.specs.Kinds.{kind_at, known_row, kind_of}
use Rattle.deb_relation.specs.declared.operator.Op.TheVariants.{Equal}
use Rattle.deb_relation.specs.Meaning.{Relation}
use Rattle.deb_relation.specs.Reading.{alternative_with}
use Rattle.deb_relation.specs.Texts.{group_text}
use Rattle.deb_relation.proofs.ReadRelation.{relation_took}
use Rattle.deb_base.specs.declared.kind.Relationship.TheVariants.{Depends}
use Rattle.deb_field.specs.RelationFields.{SpellsRelationship}
use Rattle.deb_field.specs.RelationFieldCases.{told}
use Rattle.deb_control.specs.ValueFiles.{SpellsEntries}
use Rattle.deb_field.specs.Values.{SpellsValue, NameMeans, SourceMeans, VersionMeans, ArchitectureMeans, ArchitecturesMean, LineMeans, FoldedMeans, RelationMeans, TextMeans}
use Rattle.deb_control.specs.Documents.{Accepted, Meaning, canonical_text}

-- a field, and lines that spell it
record Spelled : Type 0 where
  own : List Line
  field : Field
  spells : SpellsField own field

-- over lines that are its name, a colon, spaces and tabs, its body, and again spaces and tabs
abbrev over_lines : (n : ℕ) (lines : List Line) (name before body after : List ℕ)
    → joined lines ≡ name ++ colon ∷ (before ++ (body ++ after)) → IsTrue (is_all_blank before)
    → IsTrue (is_all_blank after) → IsTrue (is_name name) → IsTrue (is_body_shape body) → Spelled
over_lines n lines name before body after whole front end named shaped = record {
  own = lines;
  field = record { name = name; line = n; body = body };
  spells = record {
    before = before;
    after = after;
    spelt = whole;
    before_blank = front;
    after_blank = end;
    name = named;
    body = shaped;
  };
}

-- on one line
abbrev on_line : (n : ℕ) (name before body after : List ℕ) → IsTrue (is_all_blank before)
    → IsTrue (is_all_blank after) → IsTrue (is_name name) → IsTrue (is_body_shape body) → Spelled
on_line n name before body after =
    over_lines n ((name ++ colon ∷ (before ++ (body ++ after))) ∷ []) name before body after refl

abbrev lines_of_all : List Spelled → List Line
lines_of_all [] = []
lines_of_all (one ∷ more) = one.own ++ lines_of_all more

abbrev fields_of_all : List Spelled → List Field
fields_of_all all = map (λ one. one.field) all

-- each field has the number of its first line
abbrev AreNumbered : ℕ → List Spelled → Type 0
AreNumbered n [] = Unit {0}
AreNumbered n (one ∷ more) = (one.field.line ≡ n) × AreNumbered (n + length one.own) more

-- fields that are numbered are spelled by their lines, one after another
spelled_in_turn : (n : ℕ) (all : List Spelled) → AreNumbered n all
    → SpellsFields n (lines_of_all all) (fields_of_all all)
spelled_in_turn n [] numbered = refl
spelled_in_turn n (one ∷ more) numbered = (
  one.own,
  lines_of_all more,
  refl,
  numbered.0,
  one.spells,
  spelled_in_turn (n + length one.own) more numbered.1,
)

-- a text that computes is UTF-8 where the test says so, and a number is at most another
utf8 : {text : List ℕ} → is_utf8 text ≡ true → IsUtf8 text
utf8 {text} passes = IsUtf8-from_is_utf8 text passes

at_most : {n most : ℕ} → leb n most ≡ true → n ≤ most
at_most {n} {most} passes = leb-true n most passes

abbrev version_1_0 : VersionMeaning
version_1_0 =
    record { epoch = 0; upstream = ([], 1) ∷ (codes ".", 0) ∷ []; revision = no_revision }

-- 01.0-a00-00, whose hyphen within the upstream version asks for a revision
abbrev version_with_hyphen : VersionMeaning
version_with_hyphen =
    record {
      epoch = 0;
      upstream = ([], 1) ∷ (codes ".", 0) ∷ (codes "-a", 0) ∷ [];
      revision = no_revision;
    }

-- names in any case, one space or none after a colon, versions that aren't canonical
abbrev index : List ℕ
index =
    codes "vERSION: 01.0-0\npackage:hello\nArchitecture: amd64\n\n\n"
    ++ codes "Package: aa\t\nVersion:01.0-a00-00\narchitecture: all"

abbrev first_fields : List Spelled
unfolding paragraph_limit
first_fields =
    on_line 1 (codes "vERSION") (codes " ") (codes "01.0-0") [] refl refl refl refl
    ∷ on_line 2 (codes "package") [] (codes "hello") [] refl refl refl refl
    ∷ on_line 3 (codes "Architecture") (codes " ") (codes "amd64") [] refl refl refl refl ∷ []

abbrev second_fields : List Spelled
unfolding paragraph_limit
second_fields =
    on_line 6 (codes "Package") (codes " ") (codes "aa") (codes "\t") refl refl refl refl
    ∷ on_line 7 (codes "Version") [] (codes "01.0-a00-00") [] refl refl refl refl
    ∷ on_line 8 (codes "architecture") (codes " ") (codes "all") [] refl refl refl refl ∷ []

abbrev index_bodies : List Entries
index_bodies =
    ((codes "Architecture", codes "amd64") ∷ (codes "Package", codes "hello")
    ∷ (codes "Version", codes "01.0-0") ∷ [])
    ∷ ((codes "Architecture", codes "all") ∷ (codes "Package", codes "aa")
    ∷ (codes "Version", codes "01.0-a00-00") ∷ []) ∷ []

abbrev index_meaning : Meaning
index_meaning =
    ((codes "Architecture", ArchitectureMeans (codes "amd64"))
    ∷ (codes "Package", NameMeans (codes "hello"))
    ∷ (codes "Version", VersionMeans version_1_0) ∷ [])
    ∷ ((codes "Architecture", ArchitectureMeans (codes "all"))
    ∷ (codes "Package", NameMeans (codes "aa"))
    ∷ (codes "Version", VersionMeans version_with_hyphen) ∷ []) ∷ []

index_means : BodiesAre index index_bodies
unfolding paragraph_limit is_utf8 chars encode
index_means = (
  (
    fields_of_all first_fields,
    record {
      text = (utf8 refl, (utf8 refl, (utf8 refl, tt)));
      spelt = spelled_in_turn 1 first_fields (refl, (refl, (refl, tt)));
      distinct = (refl, (refl, (refl, tt)));
    },
    refl,
  ),
  (
    (
      fields_of_all second_fields,
      record {
        text = (utf8 refl, (utf8 refl, (utf8 refl, tt)));
        spelt = spelled_in_turn 6 second_fields (refl, (refl, (refl, tt)));
        distinct = (refl, (refl, (refl, tt)));
      },
      refl,
    ),
    tt,
  ),
)

index_spelled : SpellsEntries (SpellsValue Packages) index_bodies index_meaning
unfolding kind_of kind_at known_row first_fault
index_spelled = (
  (
    (refl, (codes "amd64", refl, (refl, refl))),
    (
      (refl, (codes "hello", refl, (refl, refl))),
      ((refl, (version_1_0, refl, spells-from_no_fault (codes "01.0-0") refl)), tt),
    ),
  ),
  (
    (
      (refl, (codes "all", refl, (refl, refl))),
      (
        (refl, (codes "aa", refl, (refl, refl))),
        (
          (
            refl,
            (version_with_hyphen, refl, spells-from_no_fault (codes "01.0-a00-00") refl),
          ),
          tt,
        ),
      ),
    ),
    tt,
  ),
)

index_accepted : Accepted Packages index index_meaning
unfolding file_limit paragraph_limit
index_accepted =
    record {
      short = at_most refl;
      paragraphs_short = (at_most refl, (at_most refl, tt));
      means =
          record { bodies = index_bodies; means = index_means; spelled = index_spelled };
      one = λ single. absurd (false≢true single);
      required = (refl, (refl, tt));
      canonical_short = at_most refl;
      canonical_paragraphs_short = (at_most refl, (at_most refl, tt));
    }

index_written : canonical_text index_meaning
    ≡ codes "Architecture: amd64\nPackage: hello\nVersion: 1.0\n\n"
    ++ codes "Architecture: all\nPackage: aa\nVersion: 1.0-a-0\n"
index_written = refl

abbrev version_2_10_3 : VersionMeaning
version_2_10_3 =
    record {
      epoch = 0;
      upstream = ([], 2) ∷ (codes ".", 10) ∷ [];
      revision = ([], 3) ∷ [];
    }

abbrev version_13 : VersionMeaning
version_13 = record { epoch = 0; upstream = ([], 13) ∷ []; revision = no_revision }

abbrev build_depends : Relation
build_depends =
    (alternative_with (codes "debhelper-compat") None (Some (Equal, version_13)) None [] ∷ [])
    ∷ (alternative_with (codes "texinfo") None None None (((true, codes "nodoc") ∷ []) ∷ []) ∷ [])
    ∷ []

abbrev needs : List ℕ
needs = codes "debhelper-compat (= 13),\n texinfo <!nodoc>"

needs_spelled : SpellsRelationship Depends needs build_depends
unfolding told
needs_spelled =
    record { spells = relation_took _ build_depends refl; alternatives = refl; operators = refl }

abbrev listed : List ℕ
listed = codes " 0123456789abcdef0123456789abcdef 10 hello_2.10.orig.tar.gz"

abbrev source : List ℕ
source =
    codes "Format: 3.0 (quilt)\nSource: hello\nBinary: hello,\n hello-doc\n"
    ++ codes "Architecture: any all\nVersion: 2.10-3\n"
    ++ codes "Build-Depends: debhelper-compat (= 13),\n texinfo <!nodoc>\n"
    ++ codes "Files:\n" ++ listed ++ codes "\n"

abbrev source_fields : List Spelled
unfolding paragraph_limit
source_fields =
    on_line 1 (codes "Format") (codes " ") (codes "3.0 (quilt)") [] refl refl refl refl
    ∷ on_line 2 (codes "Source") (codes " ") (codes "hello") [] refl refl refl refl
    ∷ over_lines 3 (codes "Binary: hello," ∷ codes " hello-doc" ∷ []) (codes "Binary") (codes " ")
    (codes "hello,\n hello-doc") [] refl refl refl refl refl
    ∷ on_line 5 (codes "Architecture") (codes " ") (codes "any all") [] refl refl refl refl
    ∷ on_line 6 (codes "Version") (codes " ") (codes "2.10-3") [] refl refl refl refl
    ∷ over_lines 7
    (codes "Build-Depends: debhelper-compat (= 13)," ∷ codes " texinfo <!nodoc>" ∷ [])
    (codes "Build-Depends") (codes " ") needs [] refl refl refl refl refl
    ∷ over_lines 9 (codes "Files:" ∷ listed ∷ []) (codes "Files") [] (newline ∷ listed) [] refl refl
    refl refl refl ∷ []

abbrev source_bodies : List Entries
source_bodies =
    ((codes "Architecture", codes "any all")
    ∷ (codes "Binary", codes "hello,\n hello-doc")
    ∷ (codes "Build-Depends", needs)
    ∷ (codes "Files", newline ∷ listed)
    ∷ (codes "Format", codes "3.0 (quilt)")
    ∷ (codes "Source", codes "hello")
    ∷ (codes "Version", codes "2.10-3") ∷ []) ∷ []

abbrev source_meaning : Meaning
source_meaning =
    ((codes "Architecture", ArchitecturesMean (codes "any" ∷ codes "all" ∷ []))
    ∷ (codes "Binary", FoldedMeans (codes "hello," ∷ codes "hello-doc" ∷ []))
    ∷ (codes "Build-Depends", RelationMeans build_depends)
    ∷ (codes "Files", TextMeans (newline ∷ listed))
    ∷ (codes "Format", LineMeans (codes "3.0 (quilt)"))
    ∷ (codes "Source", SourceMeans (record { name = codes "hello"; version = None }))
    ∷ (codes "Version", VersionMeans version_2_10_3) ∷ []) ∷ []

utf8_lines : AllByRecursion IsUtf8 (lines_of_all source_fields)
unfolding source_fields is_utf8 chars encode
utf8_lines = (
  utf8 refl,
  (
    utf8 refl,
    (
      utf8 refl,
      (
        utf8 refl,
        (utf8 refl, (utf8 refl, (utf8 refl, (utf8 refl, (utf8 refl, (utf8 refl, tt)))))),
      ),
    ),
  ),
)

source_means : BodiesAre source source_bodies
unfolding paragraph_limit
source_means = (
  (
    fields_of_all source_fields,
    record {
      text = utf8_lines;
      spelt =
          spelled_in_turn 1 source_fields
          (refl, (refl, (refl, (refl, (refl, (refl, (refl, tt)))))));
      distinct = (refl, (refl, (refl, (refl, (refl, (refl, (refl, tt)))))));
    },
    refl,
  ),
  tt,
)

source_spelled : SpellsEntries (SpellsValue Source) source_bodies source_meaning
unfolding kind_of kind_at known_row first_fault
source_spelled = (
  (
    (refl, (codes "any" ∷ codes "all" ∷ [], refl, (refl, refl))),
    (
      (refl, (codes "hello," ∷ codes "hello-doc" ∷ [], refl, refl)),
      (
        (refl, (build_depends, refl, needs_spelled)),
        (
          (refl, (newline ∷ listed, refl, (refl, refl))),
          (
            (refl, (codes "3.0 (quilt)", refl, (refl, refl))),
            (
              (
                refl,
                (
                  record { name = codes "hello"; version = None },
                  refl,
                  record { spelt = refl; named = refl },
                ),
              ),
              ((refl, (version_2_10_3, refl, spells-from_no_fault (codes "2.10-3") refl)), tt),
            ),
          ),
        ),
      ),
    ),
  ),
  tt,
)

source_accepted : Accepted Source source source_meaning
unfolding file_limit paragraph_limit group_text
source_accepted =
    record {
      short = at_most refl;
      paragraphs_short = (at_most refl, tt);
      means =
          record { bodies = source_bodies; means = source_means; spelled = source_spelled };
      one = λ single. refl;
      required = (refl, tt);
      canonical_short = at_most refl;
      canonical_paragraphs_short = (at_most refl, tt);
    }

source_written : canonical_text source_meaning
    ≡ codes "Architecture: any all\nBinary: hello, hello-doc\n"
    ++ codes "Build-Depends: debhelper-compat (= 13), texinfo <!nodoc>\n"
    ++ codes "Files:\n" ++ listed ++ codes "\nFormat: 3.0 (quilt)\n"
    ++ codes "Source: hello\nVersion: 2.10-3\n"
unfolding group_text
source_written = refl

-- a status file: a package that is installed, and one that isn't and has neither a version nor an
-- architecture
abbrev status : List ℕ
status =
    codes "Package: hello\nStatus: install ok installed\nArchitecture: amd64\nVersion: 01.0-0\n\n"
    ++ codes "package: aa\nSTATUS: purge ok  not-installed\n"

abbrev installed_fields : List Spelled
unfolding paragraph_limit
installed_fields =
    on_line 1 (codes "Package") (codes " ") (codes "hello") [] refl refl refl refl
    ∷ on_line 2 (codes "Status") (codes " ") (codes "install ok installed") [] refl refl refl refl
    ∷ on_line 3 (codes "Architecture") (codes " ") (codes "amd64") [] refl refl refl refl
    ∷ on_line 4 (codes "Version") (codes " ") (codes "01.0-0") [] refl refl refl refl ∷ []

abbrev other_fields : List Spelled
unfolding paragraph_limit
other_fields =
    on_line 6 (codes "package") (codes " ") (codes "aa") [] refl refl refl refl
    ∷ on_line 7 (codes "STATUS") (codes " ") (codes "purge ok  not-installed") [] refl refl refl
    refl ∷ []

abbrev status_bodies : List Entries
status_bodies =
    ((codes "Architecture", codes "amd64") ∷ (codes "Package", codes "hello")
    ∷ (codes "Status", codes "install ok installed") ∷ (codes "Version", codes "01.0-0") ∷ [])
    ∷ ((codes "Package", codes "aa") ∷ (codes "Status", codes "purge ok  not-installed") ∷ []) ∷ []

abbrev status_meaning : Meaning
status_meaning =
    ((codes "Architecture", ArchitectureMeans (codes "amd64"))
    ∷ (codes "Package", NameMeans (codes "hello"))
    ∷ (codes "Status", TextMeans (codes "install ok installed"))
    ∷ (codes "Version", VersionMeans version_1_0) ∷ [])
    ∷ ((codes "Package", NameMeans (codes "aa"))
    ∷ (codes "Status", TextMeans (codes "purge ok  not-installed")) ∷ []) ∷ []

status_means : BodiesAre status status_bodies
unfolding paragraph_limit is_utf8 chars encode
status_means = (
  (
    fields_of_all installed_fields,
    record {
      text = (utf8 refl, (utf8 refl, (utf8 refl, (utf8 refl, tt))));
      spelt = spelled_in_turn 1 installed_fields (refl, (refl, (refl, (refl, tt))));
      distinct = (refl, (refl, (refl, (refl, tt))));
    },
    refl,
  ),
  (
    (
      fields_of_all other_fields,
      record {
        text = (utf8 refl, (utf8 refl, tt));
        spelt = spelled_in_turn 6 other_fields (refl, (refl, tt));
        distinct = (refl, (refl, tt));
      },
      refl,
    ),
    tt,
  ),
)

status_spelled : SpellsEntries (SpellsValue Status) status_bodies status_meaning
unfolding kind_of kind_at known_row first_fault
status_spelled = (
  (
    (refl, (codes "amd64", refl, (refl, refl))),
    (
      (refl, (codes "hello", refl, (refl, refl))),
      (
        (refl, (codes "install ok installed", refl, (refl, refl))),
        ((refl, (version_1_0, refl, spells-from_no_fault (codes "01.0-0") refl)), tt),
      ),
    ),
  ),
  (
    (
      (refl, (codes "aa", refl, (refl, refl))),
      ((refl, (codes "purge ok  not-installed", refl, (refl, refl))), tt),
    ),
    tt,
  ),
)

status_accepted : Accepted Status status status_meaning
unfolding file_limit paragraph_limit
status_accepted =
    record {
      short = at_most refl;
      paragraphs_short = (at_most refl, (at_most refl, tt));
      means =
          record { bodies = status_bodies; means = status_means; spelled = status_spelled };
      one = λ single. absurd (false≢true single);
      required = (refl, (refl, tt));
      canonical_short = at_most refl;
      canonical_paragraphs_short = (at_most refl, (at_most refl, tt));
    }

status_written : canonical_text status_meaning
    ≡ codes "Architecture: amd64\nPackage: hello\nStatus: install ok installed\nVersion: 1.0\n\n"
    ++ codes "Package: aa\nStatus: purge ok  not-installed\n"
status_written = refl
