use Rattle.std.proofs.Common.{codes}
use Rattle.deb_control.specs.Visiting.{visit_of}
use Rattle.deb_latest.specs.Entries.{architecture_in, name_in}
use Rattle.deb_latest.specs.Words.{version_key_in}
use Rattle.deb_latest.proofs.WordsKept.{known, word-next}
use Rattle.deb_latest.proofs.words.WordsFieldVisitor.visit.Goals as goal

pub returns : goal.returns
returns c = λ visited keeps.
    let visit = visit_of c.args.field.now c.args.value.now in
    record {
      name = word-next name_in (codes "Package") known.0 visited visit _ _ _ c.args.field.now.named keeps.name c.in_ok-keep_name.ensures;
      architecture = word-next architecture_in (codes "Architecture") known.1 visited visit _ _ _ c.args.field.now.named keeps.architecture c.in_ok-keep_architecture.ensures;
      version = word-next version_key_in (codes "Version") known.2 visited visit _ _ _ c.args.field.now.named keeps.version c.in_ok-keep_version.ensures;
    }
