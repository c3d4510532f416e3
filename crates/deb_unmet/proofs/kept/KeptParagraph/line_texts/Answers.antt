use Rattle.std.proofs.lemmas.Bool.{false≢true}
use Rattle.deb_unmet.proofs.KeptParagraphs.{kept-have, text-at}
use Rattle.deb_unmet.proofs.kept.KeptParagraph.line_texts.Goals as goal

pub returns-clause-texts : goal.returns-clause-texts
returns-clause-texts c = λ fields values strength holds.
    let texts = c.texts-texts.result in
    record {
      name = text-at texts c.args.self.now fields values c.texts-texts.ensures holds 0;
      architecture = text-at texts c.args.self.now fields values c.texts-texts.ensures holds 3;
      built_for = λ e. absurd (false≢true e);
      relations = kept-have texts c.args.self.now fields values c.texts-texts.ensures holds strength;
    }
