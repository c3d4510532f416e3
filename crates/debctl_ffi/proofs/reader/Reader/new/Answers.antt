use Rattle.std.proofs.Common.{◌∙◌, [], ◌++◌, Some, arith, refl, sym, subst}
use Rattle.deb_control.specs.Checking.{FitsChecked}
use Rattle.deb_control.specs.CheckedStates.{checked_state}
use Rattle.debctl_ffi.specs.Alike.{AnswerAlike}
use Rattle.debctl_ffi.proofs.AlikeTexts.{alike-self}
use Rattle.debctl_ffi.proofs.reader.Reader.new.Goals as goal

pub returns-clause-fed : goal.returns-clause-fed
returns-clause-fed c = λ status.
    let none = c.new-4.ensures ∙ c.new-3.ensures.items in
    record {
      status = status;
      goes_on = refl;
      is_doc = c.new.ensures.doc;
      sound = c.new.ensures.sound;
      count = refl;
      fed = refl;
      short = omega arith;
      front = [];
      alike = subst (AnswerAlike []) (sym none) (alike-self []);
      reads = λ more. record {
        checked = record {
          before = [];
          fits = subst (λ kept. FitsChecked c.args.doc (kept ++ more) [] (checked_state c.new.result) (Some (kept ++ more))) (sym none) (c.new.ensures.fits more);
        };
        next = tt;
        counted = refl;
      };
    }
