use Rattle.std.proofs.Common.{◌≡◌, ℕ, ◌+◌, ◌*◌, ◌≤◌, List, [], ◌∷◌, ◌++◌, Some, length, length-append, ap, arith, rules, subst, sym, ◌∙◌}
use Rattle.deb_version.specs.Canonical.{version_text}
use Rattle.deb_version.specs.Parts.{Meaning as VersionMeaning}
use Rattle.deb_version.specs.Version.{meaning_of}
use Rattle.deb_field.specs.SourceLaws.{source_law}
use Rattle.deb_field.specs.SourceNames.{source_meaning}
use Rattle.deb_field.specs.Sources.{SourceMeaning, source_text, version_suffix}
use Rattle.deb_field.proofs.source_canon.SourceNameCanon.canon_len.Goals as goal

-- the length of a name with a version, in parentheses after a space
length_is : (name : List ℕ) (version : VersionMeaning) (source : SourceMeaning) → name ≡ source.name
    → Some version ≡ source.version → length name + length (version_text version) + 3 ≡ length (source_text source)
length_is name version source named versioned =
    let len : length name + length (version_text version) + 3 ≡ length (name ++ version_suffix (Some version)) = omega (
      arith,
      length-append name (32 ∷ 40 ∷ (version_text version ++ 41 ∷ [])),
      length-append (version_text version) (41 ∷ []),
    ) in
    len ∙ ap (λ n. length (n ++ version_suffix (Some version))) named ∙ ap (λ v. length (source.name ++ version_suffix v)) versioned

pub returns-in-Some-clause-short : goal.returns-in-Some-clause-short
returns-in-Some-clause-short c body s =
    let versioned : Some (meaning_of c.in-Some.version) ≡ (source_meaning c.args.self.now).version = search rules in
    let counted : c.canon_len.result ≡ length (version_text (meaning_of c.in-Some.version)) = search rules in
    let is : length c.name.result.now + c.canon_len.result + 3 ≡ length (source_text (source_meaning c.args.self.now)) =
    ap (λ n. length c.name.result.now + n + 3) counted
    ∙ length_is c.name.result.now (meaning_of c.in-Some.version) (source_meaning c.args.self.now) c.name.ensures versioned in
    subst (λ n. n ≤ 2 * length body) (sym is) (source_law.is_short body (source_meaning c.args.self.now) s)
