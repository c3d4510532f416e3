use Rattle.std.proofs.Common.{◌≡◌, Err, Some, subst}
use Rattle.deb_base.specs.declared.doc.Doc.TheVariants.{Packages}
use Rattle.deb_control.specs.Calls.{IfRefused}
use Rattle.deb_control.specs.Documents.{refusal_of}
use Rattle.deb_install.specs.declared.packages.Packages.{Packages as Read}
use Rattle.debctl_ffi.proofs.buildable.read_packages.Goals as goal

pub returns-in-Err-Refused-clause-fault : goal.returns-in-Err-Refused-clause-fault
returns-in-Err-Refused-clause-fault c =
    subst (λ fault. IfRefused {T = Read} (Err fault) (λ refusal. refusal_of Packages c.args.index.now ≡ Some refusal))
    c.in-Err-Refused.field-0-is (c.in-Err-Refused.ensures.refused c.args.index.now c.new-source.ensures.left)
