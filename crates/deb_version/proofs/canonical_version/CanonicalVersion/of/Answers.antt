use Rattle.deb_version.proofs.Common.{◌≡◌, version_text, meaning_of}
use Rattle.deb_version.proofs.KeptVersions.{kept-faultless, kept-version, kept-canonical}
use Rattle.deb_version.proofs.canonical_version.CanonicalVersion.of.Goals as goal

pub invariant_of-result : goal.invariant_of-result
invariant_of-result c =
    let written : c.canon_into.new.out.items ≡ version_text (meaning_of c.args.version.now) = rw c.in_ok-text.ensures.items at c.in_ok-canon_into.ensures.ok in
    record { faultless = rw written (kept-faultless c.args.version.now); canonical = rw written (kept-canonical c.args.version.now) }

pub returns : goal.returns
returns c =
    let written : c.canon_into.new.out.items ≡ version_text (meaning_of c.args.version.now) = rw c.in_ok-text.ensures.items at c.in_ok-canon_into.ensures.ok in
    rw written (kept-version c.args.version.now)
