-- What is asked for.
use Rattle.std.specs.Prelude.{Option}
use Rattle.std.specs.Option.{option_map}
use Rattle.deb_version.specs.Parts.{Meaning as Version}
use Rattle.deb_version.specs.Version.{meaning_of}
use Rattle.deb_control.specs.Documents.{Meaning}
use Rattle.deb_latest.specs.Entries.{entries_of}
use Rattle.deb_latest.specs.Winning.{winners}
use Rattle.deb_latest.specs.declared.kind.Kind.{Kind}
use Rattle.deb_latest.specs.declared.request.By.{By}
use Rattle.deb_latest.specs.declared.request.Request.{Request}
use Rattle.std.specs.Prelude.{ℕ, List}

-- the kind of the files, which paragraphs are of one package, and the version before which all are
-- that are considered, if there is one
pub record Asked : Type 0 where
  pub kind : Kind
  pub by : By
  pub limit : Option Version

abbrev pub asked_of : Request → Asked
asked_of request =
    record {
      kind = request.kind;
      by = request.by;
      limit = option_map meaning_of request.before;
    }

-- The numbers of the paragraphs with the latest versions, where the files together mean this.
abbrev pub latest_of : Asked → Meaning → List ℕ
latest_of asked meaning = winners asked.limit (entries_of asked.by meaning)
