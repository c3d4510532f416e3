-- The meaning of the packages that an index lends.
use Rattle.std.specs.Prelude.{ℕ, List, map}
use Rattle.deb_version.specs.Places.{version_in}
use Rattle.deb_index.specs.Entries.{provision_at}
use Rattle.deb_index.specs.Listed.{Listed}
use Rattle.deb_index.specs.VersionSpellings.{spelling_or}
use Rattle.deb_index.specs.declared.package.Package.{Package}

abbrev pub listed_of : Package → Listed
listed_of p =
    record {
      name = p.name.now;
      version = version_in p.version.now;
      architecture = p.architecture.now;
      multi_arch = p.multi_arch;
      provisions = map (provision_at p.provisions.text.now) p.provisions.entries.now;
    }

-- the line at which its paragraph starts
abbrev pub line_of : Package → ℕ
line_of p = p.line

-- the text by which that spells its version
abbrev pub spelling_of : Package → List ℕ
spelling_of p = spelling_or p.version.now p.besides.now
