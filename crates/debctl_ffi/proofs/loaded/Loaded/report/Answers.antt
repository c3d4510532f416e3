use Rattle.std.proofs.Common.{inl, inr, refl, subst, sym}
use Rattle.std.specs.Prelude.{false, true}
use Rattle.deb_base.specs.Faults.{RefusedOrMemory}
use Rattle.deb_index.specs.Questions.{question}
use Rattle.deb_relation.specs.Views.{names_of}
use Rattle.debctl_ffi.specs.Queries.{RefusesKept, ReportsKept}
use Rattle.debctl_ffi.proofs.Loading.{of_kept}
use Rattle.debctl_ffi.proofs.OneFile.{asks_one_file}
use Rattle.debctl_ffi.proofs.loaded.Loaded.report.Goals as goal

pub returns-in-Ok-true-default-clause-files : goal.returns-in-Ok-true-default-clause-files
returns-in-Ok-true-default-clause-files c =
    let q = question c.args.target.now (names_of c.args.profiles.now) c.args.relation.now in
    inl (record {
      told = c.yes.result;
      items = c.deref.result.now;
      found = inl (
        c.yes.ensures,
        of_kept c.args.self.now c.in-Some.index (λ kept. ReportsKept c.args.detail q kept true c.deref.result.now) c.in-Some.is
            (rw (c.in-Ok-true-default.field-0-0-test, sym c.deref.ensures.value) at c.in-Ok-true-default.ensures.ok),
      );
      replies = c.reply.ensures;
    })

pub returns-in-Ok-true-default-clause-answers : goal.returns-in-Ok-true-default-clause-answers
returns-in-Ok-true-default-clause-answers c =
    asks_one_file c.args.detail (question c.args.target.now (names_of c.args.profiles.now) c.args.relation.now) c.args.self.now _ _
    (returns-in-Ok-true-default-clause-files c)

pub returns-in-Ok-false-default-clause-files : goal.returns-in-Ok-false-default-clause-files
returns-in-Ok-false-default-clause-files c =
    let q = question c.args.target.now (names_of c.args.profiles.now) c.args.relation.now in
    inl (record {
      told = c.no.result;
      items = c.deref-in-Ok-false-default.result.now;
      found = inr (
        c.no.ensures,
        of_kept c.args.self.now c.in-Some.index (λ kept. ReportsKept c.args.detail q kept false c.deref-in-Ok-false-default.result.now) c.in-Some.is
            (rw (c.in-Ok-false-default.field-0-0-test, sym c.deref-in-Ok-false-default.ensures.value) at c.in-Ok-false-default.ensures.ok),
      );
      replies = c.reply-in-Ok-false-default.ensures;
    })

pub returns-in-Ok-false-default-clause-answers : goal.returns-in-Ok-false-default-clause-answers
returns-in-Ok-false-default-clause-answers c =
    asks_one_file c.args.detail (question c.args.target.now (names_of c.args.profiles.now) c.args.relation.now) c.args.self.now _ _
    (returns-in-Ok-false-default-clause-files c)

pub returns-in-Err-Refused-clause-files : goal.returns-in-Err-Refused-clause-files
returns-in-Err-Refused-clause-files c =
    let q = question c.args.target.now (names_of c.args.profiles.now) c.args.relation.now in
    inr (
      record { kept = refl; none = refl },
      inl (inl (record {
        refusal = c.in-Err-Refused.refusal;
        refused = subst (λ fault. RefusedOrMemory fault (RefusesKept q)) c.in-Err-Refused.field-0-is c.in-Err-Refused.ensures.fault;
        is = c.refused.ensures;
      })),
    )

pub returns-in-Err-Refused-clause-answers : goal.returns-in-Err-Refused-clause-answers
returns-in-Err-Refused-clause-answers c =
    asks_one_file c.args.detail (question c.args.target.now (names_of c.args.profiles.now) c.args.relation.now) c.args.self.now _ _
    (returns-in-Err-Refused-clause-files c)
