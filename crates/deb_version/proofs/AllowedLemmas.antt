-- Components without fault, as facts of their bytes.
use Rattle.deb_version.proofs.Common.{option_and_then, ◌≡◌, ◌≢◌, ℕ, ◌==◌, ◌||◌, not, true, false, Bool, List, [], ◌∷◌, ◌++◌, Option, Some, None, is_some, unwrap_or, Bor, option_copied, IfSome, IfNone, IsTrue, refl, ap, AllByRecursion, list_all, list_any, is_none, option_map, option_or, is_ascii_digit, and_parts, and_from, not-true, not_from_false, BadVersion, Empty, EpochEmpty, EpochNotNumber, RevisionEmpty, UpstreamEmpty, Version, IsDigits, Components, epoch_text, revision_text, spelling, is_empty, is_no_digit, is_upstream_byte, is_revision_byte, is_bad_in_revision, some_passes, fault_if, first_of, fault_of, is_cut_at_hyphen, are_components, components_of}
use Rattle.std.specs.List.{position}
use Rattle.deb_version.proofs.Emptiness.{append_some, append_some_front}
use Rattle.deb_version.proofs.ByteLemmas.{all_pass-test, empty-test, empty-fact, none_fails-test, none_fails-fact, none_equal-test, none_equal-fact, position_none-test, position_none-fact}

-- one or more digits; one or more bytes of a revision
abbrev pub IsEpoch : List ℕ → Type 0
IsEpoch digits = (digits ≢ []) × IsDigits digits

abbrev pub IsRevision : List ℕ → Type 0
IsRevision revision = (revision ≢ []) × AllByRecursion (λ b. IsTrue (is_revision_byte b)) revision

pub record AreComponents (c : Components) : Type 0 where
  pub epoch : IfSome c.epoch IsEpoch
  pub upstream_some : c.upstream ≢ []
  pub upstream_bytes : AllByRecursion (λ b. IsTrue (is_upstream_byte (is_some c.epoch) b)) c.upstream
  pub upstream_hyphen : IfNone c.revision (AllByRecursion (λ b. b ≢ 45) c.upstream)
  pub revision : IfSome c.revision IsRevision

-- the first fault of components, by what each test of them gives
abbrev pub by_tests : (text epoch digits revision upstream : Bool) (byte other_byte : Option BadVersion) → Option BadVersion
by_tests text epoch digits revision upstream byte other_byte =
    option_or (fault_if text Empty) (option_or (first_of (fault_if epoch EpochEmpty ∷ fault_if digits EpochNotNumber ∷ []))
    (first_of (fault_if revision RevisionEmpty ∷ fault_if upstream UpstreamEmpty ∷ byte ∷ other_byte ∷ [])))

-- there is none exactly where no test is
none_stands : (a b c d e : Bool) (f g : Option BadVersion) → by_tests a b c d e f g ≡ None
    → (b ≡ false) × (c ≡ false) × (d ≡ false) × (e ≡ false) × (f ≡ None) × (g ≡ None)
none_stands true b c d e f g none = absurd cc
none_stands false true c d e f g none = absurd cc
none_stands false false true d e f g none = absurd cc
none_stands false false false true e f g none = absurd cc
none_stands false false false false true f g none = absurd cc
none_stands false false false false false (Some fault) g none = absurd cc
none_stands false false false false false None (Some fault) none = absurd cc
none_stands false false false false false None None none = (refl, refl, refl, refl, refl, refl)

none_mapped : (f : ℕ → BadVersion) (o : Option ℕ) → option_map f o ≡ None → o ≡ None
none_mapped f None e = refl
none_mapped f (Some at) e = absurd cc

pub is_none-none : (o : Option BadVersion) → is_none o ≡ true → o ≡ None
is_none-none None e = refl
is_none-none (Some fault) e = absurd cc

pub epoch-fact : (e : Option (List ℕ)) → some_passes is_empty e ≡ false → some_passes (list_any is_no_digit) e ≡ false → IfSome e IsEpoch
epoch-fact None some digits = tt
epoch-fact (Some epoch) some digits = (empty-fact epoch some, none_fails-fact is_ascii_digit epoch digits)

epoch-test : (e : Option (List ℕ)) → IfSome e IsEpoch → (some_passes is_empty e ≡ false) × (some_passes (list_any is_no_digit) e ≡ false)
epoch-test None is = (refl, refl)
epoch-test (Some epoch) is = (empty-test epoch is.0, none_fails-test is_ascii_digit epoch is.1)

revision-fact : (r : Option (List ℕ)) → some_passes is_empty r ≡ false → option_and_then (position is_bad_in_revision) r ≡ None → IfSome r IsRevision
revision-fact None some bytes = tt
revision-fact (Some revision) some bytes = (empty-fact revision some, position_none-fact is_revision_byte revision bytes)

revision-test : (r : Option (List ℕ)) → IfSome r IsRevision → (some_passes is_empty r ≡ false) × (option_and_then (position is_bad_in_revision) r ≡ None)
revision-test None is = (refl, refl)
revision-test (Some revision) is = (empty-test revision is.0, position_none-test is_revision_byte revision is.1)

hyphen-test : (r : Option (List ℕ)) (upstream : List ℕ) → IfNone r (AllByRecursion (λ b. b ≢ 45) upstream) → (is_some r || not (list_any (λ b. b == 45) upstream)) ≡ true
hyphen-test None upstream none = not_from_false (list_any (λ b. b == 45) upstream) (none_equal-test 45 upstream none)
hyphen-test (Some revision) upstream none = refl

hyphen-fact : (r : Option (List ℕ)) (upstream : List ℕ) → (is_some r || not (list_any (λ b. b == 45) upstream)) ≡ true → IfNone r (AllByRecursion (λ b. b ≢ 45) upstream)
hyphen-fact None upstream none = none_equal-fact 45 upstream (not-true (list_any (λ b. b == 45) upstream) none)
hyphen-fact (Some revision) upstream none = tt

-- a spelling with an upstream version isn't empty
spelling_some : (c : Components) → c.upstream ≢ [] → spelling c ≢ []
spelling_some c some = append_some (epoch_text c.epoch) (c.upstream ++ revision_text c.revision) (append_some_front c.upstream (revision_text c.revision) some)

-- Components without fault have these bytes.
pub are_components-fact : (c : Components) → are_components c ≡ true → AreComponents c
are_components-fact c passes =
    let sides = and_parts (is_none (fault_of c)) (is_cut_at_hyphen c) passes in
    let none = none_stands _ _ _ _ _ _ _ (is_none-none (fault_of c) sides.0) in
    record {
      epoch = epoch-fact c.epoch none.0 none.1;
      upstream_some = empty-fact c.upstream none.3;
      upstream_bytes = position_none-fact (is_upstream_byte (is_some c.epoch)) c.upstream (none_mapped _ _ none.4);
      upstream_hyphen = hyphen-fact c.revision c.upstream sides.1;
      revision = revision-fact c.revision none.2 (none_mapped _ _ none.5);
    }

-- And those of these bytes have no fault.
pub are_components-test : (c : Components) → AreComponents c → are_components c ≡ true
are_components-test c are =
    let epoch = epoch-test c.epoch are.epoch in
    let revision = revision-test c.revision are.revision in
    let none : fault_of c ≡ None =
    rw (empty-test (spelling c) (spelling_some c are.upstream_some), epoch.0, epoch.1, revision.0, empty-test c.upstream are.upstream_some, position_none-test (is_upstream_byte (is_some c.epoch)) c.upstream are.upstream_bytes, revision.1) refl in
    and_from _ _ (ap is_none none) (hyphen-test c.revision c.upstream are.upstream_hyphen)

-- the epoch of a version has digits alone, and so has what represents an absent one
pub epoch_digits : (v : Version) (absent : Bor (List ℕ)) → absent.now ≡ [] → list_all is_ascii_digit (unwrap_or v.epoch absent).now ≡ true
epoch_digits v absent none = of_epoch v.epoch (are_components-fact (components_of v) v.well_formed).epoch
  where
    of_epoch : (e : Option (Bor (List ℕ))) → IfSome (option_copied e) IsEpoch → list_all is_ascii_digit (unwrap_or e absent).now ≡ true
    of_epoch None is = ap (list_all is_ascii_digit) none
    of_epoch (Some digits) is = all_pass-test is_ascii_digit digits.now is.1
