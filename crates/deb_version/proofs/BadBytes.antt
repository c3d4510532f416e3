-- The offsets of bad bytes: what comes before one begins a version, and with the byte none does.
use Rattle.deb_version.proofs.Common.{◌≡◌, ◌≢◌, ℕ, ◌+◌, ◌==◌, ◌||◌, Bool, true, false, List, [], ◌∷◌, ◌++◌, length, Option, Some, None, is_some, IfSome, IsTrue, refl, sym, ap, ◌∙◌, subst, arith, append_assoc, length-append, list_any, list_any-append, position, position_from, AllByRecursion, option_map, option_and_then, eqb-true, ne_eqb, not-true, not-false, false≢true, UpstreamByte, RevisionByte, Meaning, SpellsVersion, Components, is_upstream_byte, is_revision_byte, is_bad_in_revision, epoch_text, revision_text, spelling, are_components, is_colon, is_hyphen, before_first, after_last, rest_in, epoch_in, revision_in, components_in, meaning_of_components, cons_not_nil, holds_hyphen, cond}
use Rattle.std.proofs.lemmas.Bool.{cases_Bool, or_parts}
use Rattle.std.proofs.Common.{inl, inr}
use Rattle.std.proofs.lemmas.Iterator.Adapters.{position_from-zero}
use Rattle.deb_version.specs.Faults.{first_fault}
use Rattle.deb_version.specs.Grammar.{is_bad_in_upstream, upstream_at, revision_at}
use Rattle.deb_version.specs.PlaceLaws.{BeginsVersion, IsBadByte, UpstreamBytesStop, RevisionBytesStop}
use Rattle.deb_version.proofs.AllowedLemmas.{AreComponents, IsEpoch, by_tests, are_components-fact, are_components-test, epoch-fact}
use Rattle.deb_version.proofs.ByteLemmas.{empty-fact, none_equal-fact, position_none-fact}
use Rattle.deb_version.proofs.CanonicalComponent.{All-append, All-append_back, All-weaker}
use Rattle.deb_version.proofs.ComponentsLemmas.{spelling-components_in, with_epoch, with_hyphen}
use Rattle.deb_version.proofs.CutLemmas.{none_after_last}
use Rattle.deb_version.proofs.Emptiness.{append_some}
use Rattle.deb_version.proofs.MeaningLemmas.{spelled_components}
use Rattle.deb_version.proofs.VersionBytes.{version_bytes}

-- the first element that passes, at an index counted from n
record FoundFrom (p : ℕ → Bool) (n : ℕ) (xs : List ℕ) (k : ℕ) : Type 0 where
  front : List ℕ
  byte : ℕ
  behind : List ℕ
  whole : xs ≡ front ++ byte ∷ behind
  place : n + length front ≡ k
  before : AllByRecursion (λ x. p x ≡ false) front
  passes : p byte ≡ true

found_from : (p : ℕ → Bool) (n : ℕ) (xs : List ℕ) (k : ℕ) → position_from p n xs ≡ Some k → FoundFrom p n xs k
found_from p n [] k e = absurd cc
found_from p n (x ∷ xs) k e =
    elim (p x) as (λ v. p x ≡ v → cond v (Some n) (position_from p (n + 1) xs) ≡ Some k → FoundFrom p n (x ∷ xs) k) [
      | true ↦ λ passes h.
          let same : n ≡ k = cc in
          record { front = []; byte = x; behind = xs; whole = refl; place = omega (arith, same); before = tt; passes = passes }
      | false ↦ λ fails h.
          let f = found_from p (n + 1) xs k h in
          record {
            front = x ∷ f.front;
            byte = f.byte;
            behind = f.behind;
            whole = ap (λ l. x ∷ l) f.whole;
            place = omega (arith, f.place);
            before = (fails, f.before);
            passes = f.passes;
          }
    ] refl e

found : (p : ℕ → Bool) (xs : List ℕ) (k : ℕ) → position p xs ≡ Some k → FoundFrom p 0 xs k
found p xs k e = found_from p 0 xs k (sym (position_from-zero p xs) ∙ e)

-- what the tests gave where a byte is reported
module _ (n m : ℕ → ℕ) (at : ℕ) where
  upstream_told : (a b c d e : Bool) (o p : Option ℕ) → by_tests a b c d e (option_map (λ k. UpstreamByte (n k)) o) (option_map (λ k. RevisionByte (m k)) p) ≡ Some (UpstreamByte at)
      → (b ≡ false) × (c ≡ false) × (k : ℕ) × (o ≡ Some k) × (n k ≡ at)
  upstream_told true b c d e o p h = absurd cc
  upstream_told false true c d e o p h = absurd cc
  upstream_told false false true d e o p h = absurd cc
  upstream_told false false false true e o p h = absurd cc
  upstream_told false false false false true o p h = absurd cc
  upstream_told false false false false false (Some k) p h = (refl, refl, k, refl, cc)
  upstream_told false false false false false None (Some k) h = absurd cc
  upstream_told false false false false false None None h = absurd cc

  revision_told : (a b c d e : Bool) (o p : Option ℕ) → by_tests a b c d e (option_map (λ k. UpstreamByte (n k)) o) (option_map (λ k. RevisionByte (m k)) p) ≡ Some (RevisionByte at)
      → (b ≡ false) × (c ≡ false) × (e ≡ false) × (o ≡ None) × (k : ℕ) × (p ≡ Some k) × (m k ≡ at)
  revision_told true b c d e o p h = absurd cc
  revision_told false true c d e o p h = absurd cc
  revision_told false false true d e o p h = absurd cc
  revision_told false false false true e o p h = absurd cc
  revision_told false false false false true o p h = absurd cc
  revision_told false false false false false (Some k) p h = absurd cc
  revision_told false false false false false None (Some k) h = (refl, refl, refl, refl, k, refl, cc)
  revision_told false false false false false None None h = absurd cc

-- components without fault begin a version with what their spelling begins with
begins_with : (text more : List ℕ) (c : Components) → AreComponents c → spelling c ≡ text ++ more → BeginsVersion text
begins_with text more c are spelt = (
  more,
  meaning_of_components c,
  record { components = c; spelt = sym spelt; allowed = are_components-test c are; means = refl },
)

-- a byte that isn't allowed here, and is no colon where there is no epoch, is allowed nowhere
or_false : (x y : Bool) → (x || false) ≡ false → y ≡ false → (x || y) ≡ false
or_false true y h e = h
or_false false y h e = e

allowed_nowhere : (has_epoch : Bool) (b : ℕ) → is_upstream_byte has_epoch b ≡ false → (has_epoch ≡ false → b ≢ 58) → is_upstream_byte true b ≡ false
allowed_nowhere true b fails other = fails
allowed_nowhere false b fails other = or_false (is_revision_byte b || (b == 45)) (b == 58) fails (ne_eqb b 58 (other refl))

-- a text without an epoch has no colon
no_colons : (text : List ℕ) → is_some (epoch_in text) ≡ false → list_any is_colon text ≡ false
no_colons text = by_test (list_any is_colon text)
  where
    by_test : (v : Bool) → is_some (cond v (Some (before_first is_colon text)) None) ≡ false → v ≡ false
    by_test true e = absurd cc
    by_test false e = refl

-- nor has the revision a hyphen
no_hyphens : (rest revision : List ℕ) → revision_in rest ≡ Some revision → list_any is_hyphen revision ≡ false
no_hyphens rest revision = by_test (list_any is_hyphen rest) refl
  where
    by_test : (v : Bool) → list_any is_hyphen rest ≡ v → cond v (Some (after_last is_hyphen rest)) None ≡ Some revision → list_any is_hyphen revision ≡ false
    by_test true some e =
        let same : after_last is_hyphen rest ≡ revision = cc in
        subst (λ r. list_any is_hyphen r ≡ false) same (none_after_last is_hyphen rest some)
    by_test false none e = absurd cc

module _ (text : List ℕ) where
  abbrev c : Components
  c = components_in text

  -- a byte of a text without an epoch is no colon
  no_colon : (before after : List ℕ) (b : ℕ) → text ≡ before ++ b ∷ after → is_some c.epoch ≡ false → b ≢ 58
  no_colon before after b whole none =
      (All-append_back (λ x. x ≢ 58) before (b ∷ after) (subst (AllByRecursion (λ x. x ≢ 58)) whole (none_equal-fact 58 text (no_colons text none)))).0

  digit_allowed : (has_epoch : Bool) → IsTrue (is_upstream_byte has_epoch 48)
  digit_allowed has_epoch = refl

  upstream_stops : (at : ℕ) → first_fault text ≡ Some (UpstreamByte at) → IsBadByte text at (λ byte more. ⊥)
  unfolding first_fault
  upstream_stops at e =
      let told = upstream_told (λ k. upstream_at c + k) (λ k. revision_at c + k) at _ _ _ _ _ _ _ e in
      let f = found (is_bad_in_upstream (is_some c.epoch)) c.upstream told.2 told.3 in
      let epoch = epoch_text c.epoch in
      let behind = f.behind ++ revision_text c.revision in
      let whole : text ≡ (epoch ++ f.front) ++ f.byte ∷ behind =
      sym (spelling-components_in text) ∙ ap (λ u. epoch ++ (u ++ revision_text c.revision)) f.whole
      ∙ ap (λ l. epoch ++ l) (append_assoc f.front (f.byte ∷ f.behind) (revision_text c.revision))
      ∙ sym (append_assoc epoch f.front (f.byte ∷ behind)) in
      let bad = allowed_nowhere (is_some c.epoch) f.byte (not-true _ f.passes) (no_colon (epoch ++ f.front) behind f.byte whole) in
      record {
        before = epoch ++ f.front;
        byte = f.byte;
        after = behind;
        whole = whole;
        place = let l = length-append epoch f.front in omega (arith, l, f.place, told.4);
        begins = begins_with (epoch ++ f.front) (48 ∷ 45 ∷ 48 ∷ []) (record { epoch = c.epoch; upstream = f.front ++ 48 ∷ []; revision = Some (48 ∷ []) })
            (record {
              epoch = epoch-fact c.epoch told.0 told.1;
              upstream_some = append_some f.front (48 ∷ []) (cons_not_nil 48 []);
              upstream_bytes = All-append _ f.front (48 ∷ []) (All-weaker _ _ (λ b fails. not-false _ fails) f.front f.before) (digit_allowed (is_some c.epoch), tt);
              upstream_hyphen = tt;
              revision = (cons_not_nil 48 [], (refl, tt));
            })
            (ap (λ l. epoch ++ l) (append_assoc f.front (48 ∷ []) (45 ∷ 48 ∷ [])) ∙ sym (append_assoc epoch f.front (48 ∷ 45 ∷ 48 ∷ [])));
        stops = λ more m s. false≢true (sym bad ∙ (All-append_back (λ b. IsTrue (is_upstream_byte true b)) (epoch ++ f.front) (f.byte ∷ more) (version_bytes _ m s)).0);
      }

-- of the bytes that a version may hold, those of a revision, the hyphen and the colon
third_true : (x y z : Bool) → x ≡ false → y ≡ false → ((x || y) || z) ≡ true → z ≡ true
third_true true y z e f h = absurd cc
third_true false true z e f h = absurd cc
third_true false false z e f h = h

some_revision : (r : Option (List ℕ)) (k : ℕ) → option_and_then (position is_bad_in_revision) r ≡ Some k → (s : List ℕ) × (r ≡ Some s) × (position is_bad_in_revision s ≡ Some k)
some_revision None k e = absurd cc
some_revision (Some s) k e = (s, refl, e)

-- an epoch, an upstream version, and a revision in which a byte follows a prefix
module _ (epoch : Option (List ℕ)) (upstream front : List ℕ) (byte : ℕ) where
  abbrev before_byte : List ℕ
  before_byte = epoch_text epoch ++ (upstream ++ 45 ∷ front)

  split : (more : List ℕ) → before_byte ++ byte ∷ more ≡ epoch_text epoch ++ (upstream ++ 45 ∷ (front ++ byte ∷ more))
  split more =
      append_assoc (epoch_text epoch) (upstream ++ 45 ∷ front) (byte ∷ more)
      ∙ ap (λ l. epoch_text epoch ++ l) (append_assoc upstream (45 ∷ front) (byte ∷ more))

  -- where no hyphen comes later, a version with this byte has it in its revision
  in_revision : IfSome epoch IsEpoch → (is_some epoch ≡ false → ⊥) → list_any is_hyphen front ≡ false → (byte == 45) ≡ false → (more : List ℕ) (m : Meaning) → SpellsVersion (before_byte ++ byte ∷ more) m → list_any is_hyphen more ≡ false → IsTrue (is_revision_byte byte)
  in_revision is_epoch has_epoch front_none byte_none more m s more_none =
      let revision = front ++ byte ∷ more in
      let none : list_any is_hyphen revision ≡ false =
      list_any-append is_hyphen front (byte ∷ more) ∙ ap (λ v. v || list_any is_hyphen (byte ∷ more)) front_none
      ∙ ap (λ v. v || list_any is_hyphen more) byte_none ∙ more_none in
      let parts = with_hyphen upstream revision none in
      let stand = with_epoch epoch (upstream ++ 45 ∷ revision) upstream (Some revision) is_epoch (λ absent. absurd (has_epoch absent)) parts.0 parts.1 in
      let allowed = (spelled_components _ m (subst (λ t. SpellsVersion t m) (split more) s)).0 in
      let are = are_components-fact (record { epoch = epoch; upstream = upstream; revision = Some revision }) (subst (λ d. IsTrue (are_components d)) stand allowed) in
      (All-append_back (λ b. IsTrue (is_revision_byte b)) front (byte ∷ more) are.revision.1).0

module _ (text : List ℕ) where
  abbrev d : Components
  d = components_in text

  revision_stops : (at : ℕ) → first_fault text ≡ Some (RevisionByte at) → IsBadByte text at (λ byte more. (byte ≡ 58) × IsTrue (holds_hyphen more))
  unfolding first_fault
  revision_stops at e =
      let told = revision_told (λ k. upstream_at d + k) (λ k. revision_at d + k) at _ _ _ _ _ _ _ e in
      let r = some_revision d.revision told.4 told.5 in
      let f = found is_bad_in_revision r.0 told.4 r.2 in
      let epoch = epoch_text d.epoch in
      let before = epoch ++ (d.upstream ++ 45 ∷ f.front) in
      let whole : text ≡ before ++ f.byte ∷ f.behind =
      sym (spelling-components_in text) ∙ ap (λ x. epoch ++ (d.upstream ++ revision_text x)) r.1
      ∙ ap (λ l. epoch ++ (d.upstream ++ 45 ∷ l)) f.whole ∙ sym (split d.epoch d.upstream f.front f.byte f.behind) in
      let is_epoch = epoch-fact d.epoch told.0 told.1 in
      let none : list_any is_hyphen (f.front ++ f.byte ∷ f.behind) ≡ false = ap (list_any is_hyphen) (sym f.whole) ∙ no_hyphens (rest_in text) r.0 r.1 in
      let sides = or_parts (list_any is_hyphen f.front) (list_any is_hyphen (f.byte ∷ f.behind)) (sym (list_any-append is_hyphen f.front (f.byte ∷ f.behind)) ∙ none) in
      let byte_none = (or_parts (f.byte == 45) (list_any is_hyphen f.behind) sides.1).0 in
      let bad = not-true (is_revision_byte f.byte) f.passes in
      record {
        before = before;
        byte = f.byte;
        after = f.behind;
        whole = whole;
        place =
            let l = length-append epoch (d.upstream ++ 45 ∷ f.front) in
            let l' = length-append d.upstream (45 ∷ f.front) in
            omega (arith, l, l', f.place, told.6);
        begins = begins_with before (48 ∷ []) (record { epoch = d.epoch; upstream = d.upstream; revision = Some (f.front ++ 48 ∷ []) })
            (record {
              epoch = is_epoch;
              upstream_some = empty-fact d.upstream told.2;
              upstream_bytes = position_none-fact (is_upstream_byte (is_some d.epoch)) d.upstream told.3;
              upstream_hyphen = tt;
              revision = (
                append_some f.front (48 ∷ []) (cons_not_nil 48 []),
                All-append _ f.front (48 ∷ []) (All-weaker _ _ (λ b fails. not-false _ fails) f.front f.before) (refl, tt),
              );
            })
            (sym (split d.epoch d.upstream f.front 48 []));
        stops = λ more m s.
            let is_byte = (All-append_back (λ b. IsTrue (is_upstream_byte true b)) before (f.byte ∷ more) (version_bytes _ m s)).0 in
            let colon = eqb-true f.byte 58 (third_true _ _ _ bad byte_none is_byte) in
            let has_epoch : is_some d.epoch ≡ false → ⊥ = λ absent. no_colon text before f.behind f.byte whole absent colon in
            elim (cases_Bool (holds_hyphen more)) [
              | inl some ↦ (colon, some)
              | inr lacking ↦ absurd (false≢true (sym bad ∙ in_revision d.epoch d.upstream f.front f.byte is_epoch has_epoch sides.0 byte_none more m s lacking))
            ];
      }

pub upstream_bytes_stop : UpstreamBytesStop
upstream_bytes_stop = upstream_stops

pub revision_bytes_stop : RevisionBytesStop
revision_bytes_stop = revision_stops
