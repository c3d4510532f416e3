-- Numbers that ask something don't ask nothing.
use Rattle.std.proofs.Common.{◌≡◌, ◌≤◌, ◌<◌, ℕ, Bool, inl, inr, subst, arith}
use Rattle.std.specs.Prelude.{IsTrue}
use Rattle.deb_index.specs.declared.members.Members.{Members}
use Rattle.deb_index.specs.declared.members.Members.TheVariants.{All, Installed}
use Rattle.deb_unmet.specs.Asked.{doc_of}
use Rattle.deb_unmet.specs.declared.asked.Asked.{Asked}
use Rattle.deb_unmet.specs.declared.asked.Asked.TheVariants.{Binary, Packages, Source, Sources}
use Rattle.deb_diff.specs.Kinds.{doc_of as doc_compared}
use Rattle.deb_diff.specs.declared.detail.Detail.{Detail}
use Rattle.deb_diff.specs.declared.detail.Detail.TheVariants.{Fields, Values}
use Rattle.deb_diff.specs.declared.kind.Kind.{Kind}
use Rattle.deb_diff.specs.declared.kind.Kind.TheVariants as kinds
use Rattle.deb_install.specs.SourceKinds.{doc_of as doc_built}
use Rattle.deb_install.specs.declared.source_kind.SourceKind.{SourceKind}
use Rattle.deb_install.specs.declared.source_kind.SourceKind.TheVariants as built
use Rattle.debctl_ffi.specs.Buildable.{AsksNoSources, AsksSources}
use Rattle.debctl_ffi.specs.Diffs.{ComparesNothing, IsNotCompared, detail_number}
use Rattle.debctl_ffi.specs.Documents.{kind_number}
use Rattle.debctl_ffi.specs.Health.{AsksNoSet, AsksSet}
use Rattle.debctl_ffi.specs.Unmet.{AsksNothing, IsAsked, asks_recommends}

-- a number below 2, and one below 4
below_two : (number kind : ℕ) → number ≡ kind → kind < 2 → 2 ≤ number → ⊥
below_two number kind is less most = omega arith

below_four : (number kind : ℕ) → number ≡ kind → kind < 4 → 4 ≤ number → ⊥
below_four number kind is less most = omega arith

kinds_asked : (asks : Asked) → kind_number (doc_of asks) < 4
kinds_asked (Binary strength) = omega arith
kinds_asked (Packages strength) = omega arith
kinds_asked (Source which) = omega arith
kinds_asked (Sources which) = omega arith

-- of sources Recommends isn't asked
of_sources : (kind : ℕ) (recommends : Bool) (asks : Asked) → kind ≡ kind_number (doc_of asks)
    → recommends ≡ asks_recommends asks → 2 ≤ kind → IsTrue recommends → ⊥
of_sources kind recommends (Binary strength) is says most set = below_two kind 0 is (omega arith) most
of_sources kind recommends (Packages strength) is says most set = below_two kind 1 is (omega arith) most
of_sources kind recommends (Source which) is says most set = cc
of_sources kind recommends (Sources which) is says most set = cc

pub asks_something : (kind : ℕ) (recommends : Bool) (asks : Asked) → IsAsked kind recommends asks
    → AsksNothing kind recommends → ⊥
asks_something kind recommends asks is (inl most) = below_four kind _ is.kind_is (kinds_asked asks) most
asks_something kind recommends asks is (inr both) =
    of_sources kind recommends asks is.kind_is is.recommends_is both.0 both.1

kinds_compared : (of : Kind) → IsNotCompared (kind_number (doc_compared of)) → ⊥
kinds_compared kinds.Binary none = elim none [ inl e ↦ omega (arith, e) | inr most ↦ omega (arith, most) ]
kinds_compared kinds.Packages none = elim none [ inl e ↦ omega (arith, e) | inr most ↦ omega (arith, most) ]
kinds_compared kinds.Source none = elim none [ inl e ↦ omega (arith, e) | inr most ↦ omega (arith, most) ]
kinds_compared kinds.Sources none = elim none [ inl e ↦ omega (arith, e) | inr most ↦ omega (arith, most) ]
kinds_compared kinds.Status none = elim none [ inl e ↦ omega (arith, e) | inr most ↦ omega (arith, most) ]

details : (how : Detail) → detail_number how < 2
details Fields = omega arith
details Values = omega arith

pub compares_something : (kind detail : ℕ) (of : Kind) (how : Detail) → kind ≡ kind_number (doc_compared of)
    → detail ≡ detail_number how → ComparesNothing kind detail → ⊥
compares_something kind detail of how is how_is (inl none) = kinds_compared of (subst IsNotCompared is none)
compares_something kind detail of how is how_is (inr most) = below_two detail _ how_is (details how) most

-- a number that asks for no set is neither 1 nor 5
neither : (kind : ℕ) → AsksNoSet kind → (kind ≡ 1 → ⊥) × (kind ≡ 5 → ⊥)
neither kind (inl e) = (λ is. omega (arith, e, is), λ is. omega (arith, e, is))
neither kind (inr (inl e)) = (λ is. omega (arith, e, is), λ is. omega (arith, e, is))
neither kind (inr (inr (inl e))) = (λ is. omega (arith, e, is), λ is. omega (arith, e, is))
neither kind (inr (inr (inr (inl e)))) = (λ is. omega (arith, e, is), λ is. omega (arith, e, is))
neither kind (inr (inr (inr (inr most)))) = (λ is. omega (arith, most, is), λ is. omega (arith, most, is))

pub asks_a_set : (kind : ℕ) (members : Members) → AsksSet kind members → AsksNoSet kind → ⊥
asks_a_set kind All asks none = (neither kind none).0 asks
asks_a_set kind Installed asks none = (neither kind none).1 asks

kinds_built : (kind : SourceKind) → AsksNoSources (kind_number (doc_built kind)) → ⊥
kinds_built built.Source none = elim none [ inl e ↦ omega (arith, e) | inr others ↦ elim others [ inl e ↦ omega (arith, e) | inr most ↦ omega (arith, most) ] ]
kinds_built built.Sources none = elim none [ inl e ↦ omega (arith, e) | inr others ↦ elim others [ inl e ↦ omega (arith, e) | inr most ↦ omega (arith, most) ] ]

pub asks_sources : (number : ℕ) (kind : SourceKind) → AsksSources number kind → AsksNoSources number → ⊥
asks_sources number kind asks none = kinds_built kind (subst AsksNoSources asks none)
