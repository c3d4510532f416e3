-- What the values of the code choose to write of packages.
use Rattle.std.specs.Prelude.{ℕ, None, List, cond}
use Rattle.deb_base.specs.declared.version_text.VersionText.{VersionText}
use Rattle.deb_index.specs.Files.{file_shown}
use Rattle.deb_index.specs.Indexes.{counts_of, spellings_of}
use Rattle.deb_index.specs.ReportText.{VersionShown, text_shown, version_shown, with_files}
use Rattle.deb_index.specs.declared.index.Index.{Index}
use Rattle.deb_index.specs.declared.report.Report.{Report}
use Rattle.deb_index.specs.declared.shown.Versions.{Versions}
use Rattle.deb_index.specs.declared.why.DetailedReport.{DetailedReport}

-- the text of the version of each package of an index; and so with its file
abbrev pub version_by : VersionText → Index → VersionShown
version_by chosen index = version_shown chosen (spellings_of index)

abbrev pub files_by : VersionText → Index → VersionShown
files_by chosen index = with_files (counts_of index) (version_by chosen index)

abbrev pub shown_by : Versions → VersionShown
shown_by versions =
    record {
      version = text_shown versions.chosen (spellings_of versions.index.now);
      file = λ p. cond versions.files (file_shown (counts_of versions.index.now) p.0) None;
    }

-- the texts by which the index of a report spells its versions
abbrev pub spellings_reported : Report → List (List ℕ)
spellings_reported reported = spellings_of reported.index.now

abbrev pub spellings_detailed : DetailedReport → List (List ℕ)
spellings_detailed reported = spellings_reported reported.report

-- how many packages each file of that index has
abbrev pub counts_reported : Report → List ℕ
counts_reported reported = counts_of reported.index.now

abbrev pub counts_detailed : DetailedReport → List ℕ
counts_detailed reported = counts_reported reported.report
