use Rattle.std.proofs.Common.{◌∙◌, inl, inr, refl, sym}
use Rattle.std.proofs.lemmas.Bool.{false≢true}
use Rattle.debctl_ffi.proofs.Readings.{fed-cleared}
use Rattle.debctl_ffi.proofs.reader.Reader.feed.Goals as goal

pub returns : goal.returns
returns c = record {
  feeds = λ doc text given is. c.take-next.ensures doc text given (fed-cleared doc text given c.args.self c.clear.new.self is) c.clear.ensures;
  kept = refl;
  repeats = λ either. absurd (elim either [
    | inl ended ↦ false≢true (sym c.if-reader.false ∙ ended)
    | inr error ↦ error c.if-reader-ne0.false
  ]);
}
