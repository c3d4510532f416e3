-- Versions are equal in Debian's order exactly if they have one canonical text.
use Rattle.deb_version.proofs.Common.{◌≡◌, ◌↔◌, sym, ◌∙◌, Ordering, Equal, Version, version_cmp, version_text, EqualVersionsHaveOneText, meaning_of, HasTexts-from_spelled, version_same}
use Rattle.deb_version.proofs.MeaningLemmas.{version_spelled}
use Rattle.deb_version.proofs.CanonicalTexts.{canonical_text_decides}

pub equal_versions_have_one_text : EqualVersionsHaveOneText
equal_versions_have_one_text s t m n p q =
    let same = version_same m n (HasTexts-from_spelled s m p) (HasTexts-from_spelled t n q) in
    let texts = canonical_text_decides s t m n p q in
    (λ e. texts.1 (same.0 e), λ e. same.1 (texts.0 e))

-- What the order of two versions is, is `Equal` exactly if they have one canonical text.
pub equal_where_one_text : (a b : Version) (o : Ordering) → o ≡ version_cmp (meaning_of a) (meaning_of b) → (o ≡ Equal) ↔ (version_text (meaning_of a) ≡ version_text (meaning_of b))
equal_where_one_text a b o is =
    let law = equal_versions_have_one_text _ _ (meaning_of a) (meaning_of b) (version_spelled a) (version_spelled b) in
    (λ e. law.0 (sym is ∙ e), λ e. is ∙ law.1 e)
