-- Two values of a kind compare as equal exactly if they mean the same.
use Rattle.std.proofs.Common.{◌≡◌, ◌↔◌, ℕ, List, refl, sym, ap, ◌∙◌}
use Rattle.std.specs.FinMap.{nat_cmp-IsAntisymmetric, slice_cmp-IsAntisymmetric}
use Rattle.std.proofs.lemmas.Cmp.{tied_itself}
use Rattle.std.specs.Cmp.Lexicographic.{nat_list_cmp_total}
use Rattle.std.specs.Cmp.{nat_cmp_total}
use Rattle.std.specs.Ordering.{nat_cmp}
use Rattle.std.specs.declared.cmp.Ordering.TheVariants.{Equal}
use Rattle.deb_base.specs.declared.kind.Kind.{Kind}
use Rattle.deb_base.specs.declared.kind.Kind.TheVariants.{Name, Source, Version, Architecture, ArchitectureWords, Flag, MultiArch, Number, Line, Folded, Relation, Text}
use Rattle.deb_version.specs.Keys.{byte_order}
use Rattle.deb_version.specs.Grammar.{SpellsVersion}
use Rattle.deb_version.specs.Order.{version_cmp}
use Rattle.deb_version.specs.OrderLemmas.{HasTexts-from_spelled, version_same}
use Rattle.deb_version.specs.Parts.{Meaning as VersionMeaning}
use Rattle.deb_field.specs.CanonLaws.{one_text}
use Rattle.deb_field.specs.ValueLaws.{kind_law}
use Rattle.deb_field.specs.Values.{SpellsKind, ValueMeaning, NameMeans, SourceMeans, VersionMeans, ArchitectureMeans, ArchitecturesMean, FlagMeans, MultiArchMeans, NumberMeans, LineMeans, FoldedMeans, RelationMeans, TextMeans, value_text}
use Rattle.deb_select.specs.Conditions.{number_of_value, version_of_value}
use Rattle.deb_select.specs.Laws.{EqualityIsOfMeanings}

bytes-itself : (text : List ℕ) → byte_order text text ≡ Equal
bytes-itself text = tied_itself nat_list_cmp_total text

-- values that are compared by their texts
by-text : (kind : Kind) (body other : List ℕ) (a b : ValueMeaning) → SpellsKind kind body a → SpellsKind kind other b → (byte_order (value_text a) (value_text b) ≡ Equal) ↔ (a ≡ b)
by-text kind body other a b s t = (
  λ equal. (one_text ValueMeaning (SpellsKind kind) value_text (kind_law kind) body other a b s t).0 (slice_cmp-IsAntisymmetric nat_cmp-IsAntisymmetric (value_text a) (value_text b) equal),
  λ same. ap (byte_order (value_text a)) (ap value_text (sym same)) ∙ bytes-itself (value_text a),
)

by-version : (a b : VersionMeaning) (s t : List ℕ) → SpellsVersion s a → SpellsVersion t b → (version_cmp a b ≡ Equal) ↔ (VersionMeans a ≡ VersionMeans b)
by-version a b s t p q =
    let same = version_same a b (HasTexts-from_spelled s a p) (HasTexts-from_spelled t b q) in
    (λ equal. ap VersionMeans (same.0 equal), λ means. same.1 (ap version_of_value means))

by-number : (n m : ℕ) → (nat_cmp n m ≡ Equal) ↔ (NumberMeans n ≡ NumberMeans m)
by-number n m = (
  λ equal. ap NumberMeans (nat_cmp-IsAntisymmetric n m equal),
  λ means. ap (nat_cmp n) (sym (ap number_of_value means)) ∙ tied_itself nat_cmp_total n,
)

pub equality_is_of_meanings : EqualityIsOfMeanings
equality_is_of_meanings Name body other a b s t = rw (s.1, t.1) (by-text Name body other (NameMeans s.0) (NameMeans t.0) (s.0, refl, s.2) (t.0, refl, t.2))
equality_is_of_meanings Source body other a b s t = rw (s.1, t.1) (by-text Source body other (SourceMeans s.0) (SourceMeans t.0) (s.0, refl, s.2) (t.0, refl, t.2))
equality_is_of_meanings Version body other a b s t = rw (s.1, t.1) (by-version s.0 t.0 body other s.2 t.2)
equality_is_of_meanings Architecture body other a b s t = rw (s.1, t.1) (by-text Architecture body other (ArchitectureMeans s.0) (ArchitectureMeans t.0) (s.0, refl, s.2) (t.0, refl, t.2))
equality_is_of_meanings ArchitectureWords body other a b s t = rw (s.1, t.1) (by-text ArchitectureWords body other (ArchitecturesMean s.0) (ArchitecturesMean t.0) (s.0, refl, s.2) (t.0, refl, t.2))
equality_is_of_meanings Flag body other a b s t = rw (s.1, t.1) (by-text Flag body other (FlagMeans s.0) (FlagMeans t.0) (s.0, refl, s.2) (t.0, refl, t.2))
equality_is_of_meanings MultiArch body other a b s t = rw (s.1, t.1) (by-text MultiArch body other (MultiArchMeans s.0) (MultiArchMeans t.0) (s.0, refl, s.2) (t.0, refl, t.2))
equality_is_of_meanings Number body other a b s t = rw (s.1, t.1) (by-number s.0 t.0)
equality_is_of_meanings Line body other a b s t = rw (s.1, t.1) (by-text Line body other (LineMeans s.0) (LineMeans t.0) (s.0, refl, s.2) (t.0, refl, t.2))
equality_is_of_meanings Folded body other a b s t = rw (s.1, t.1) (by-text Folded body other (FoldedMeans s.0) (FoldedMeans t.0) (s.0, refl, s.2) (t.0, refl, t.2))
equality_is_of_meanings (Relation sort) body other a b s t = rw (s.1, t.1) (by-text (Relation sort) body other (RelationMeans s.0) (RelationMeans t.0) (s.0, refl, s.2) (t.0, refl, t.2))
equality_is_of_meanings Text body other a b s t = rw (s.1, t.1) (by-text Text body other (TextMeans s.0) (TextMeans t.0) (s.0, refl, s.2) (t.0, refl, t.2))
