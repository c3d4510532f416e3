use Rattle.std.proofs.Common.{inl, inr, refl}
use Rattle.debctl_ffi.proofs.versions.deb_version_key.Goals as goal

pub returns-in_default-clause-answers : goal.returns-in_default-clause-answers
returns-in_default-clause-answers c =
    inr (record { kept = refl; none = refl }, inl (c.not_a_version.ensures, c.in_default.ensures.accepted))
