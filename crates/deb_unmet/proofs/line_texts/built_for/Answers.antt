use Rattle.std.proofs.Common.{sym, ◌∙◌}
use Rattle.std.proofs.lemmas.Bool.{false≢true}
use Rattle.deb_syntax.specs.Raw.{field_of}
use Rattle.deb_unmet.specs.Paragraphs.{fields_in}
use Rattle.deb_unmet.proofs.BuiltFor.{built-none, built-some}
use Rattle.deb_unmet.proofs.line_texts.built_for.Goals as goal

pub returns-then-not-by_target : goal.returns-then-not-by_target
returns-then-not-by_target c = λ values passes asked. absurd (false≢true (sym c.if-not-by_target.true ∙ c.by_target.ensures ∙ asked))

pub returns-in-Some : goal.returns-in-Some
returns-in-Some c = λ values passes asked.
    built-some c.args.asked (fields_in c.args.paragraph.now) values asked passes.fields passes.are.spelled (field_of c.in-Some.field) (sym c.in-Some.ensures)

pub returns-in-None : goal.returns-in-None
returns-in-None c = λ values passes asked.
    built-none c.args.asked (fields_in c.args.paragraph.now) values asked passes.fields passes.are.spelled (sym c.in-None.ensures)
