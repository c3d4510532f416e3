-- The components of a text: every text is spelled by them, and allowed components are those of their spelling.
use Rattle.deb_version.proofs.Common.{◌≡◌, ◌≢◌, ℕ, ◌+◌, ◌-◌, ◌<◌, ◌≤◌, arith, All, length, get_or, take, drop, Bool, true, false, not, cond, ◌==◌, ◌||◌, List, [], ◌∷◌, ◌++◌, Option, Some, None, is_some, IfSome, IfNone, refl, sym, ap, ◌∙◌, subst, IsTrue, append_assoc, AllByRecursion, list_any, before_first, after_first, before_last, after_last, suffix_len, is_ascii_digit, eqb-true, ne_eqb, Decides-eqb, All-weaker, list_any-append, list_any_none, list_any_at, position_or_len_is, suffix_len_is, Components, are_components, epoch_text, revision_text, spelling, is_upstream_byte, is_revision_byte, is_colon, is_hyphen, epoch_in, rest_in, revision_in, upstream_in, components_in}
use Rattle.std.proofs.Common.{append-nil}
use Rattle.deb_version.proofs.AllowedLemmas.{IsEpoch, IsRevision, are_components-fact}
use Rattle.deb_version.proofs.CutLemmas.{join_first, join_last, before_first-at, after_first-at, list_any-at, before_last-at, after_last-at}
use Rattle.deb_version.proofs.ByteLemmas.{none_equal, none_equal-test}

-- the epoch and the rest join to the text
epoch_rest : (text : List ℕ) → epoch_text (epoch_in text) ++ rest_in text ≡ text
epoch_rest text = by_cases (list_any is_colon text) refl
  where
    by_cases : (v : Bool) → list_any is_colon text ≡ v → epoch_text (cond v (Some (before_first is_colon text)) None) ++ cond v (after_first is_colon text) text ≡ text
    by_cases true e =
        let j = join_first is_colon text e in
        append_assoc (before_first is_colon text) (58 ∷ []) (after_first is_colon text) ∙ ap (λ b. before_first is_colon text ++ b ∷ after_first is_colon text) (sym (eqb-true j.0 58 j.1)) ∙ sym j.2
    by_cases false e = refl

-- the upstream version and the revision join to the rest
upstream_revision : (rest : List ℕ) → upstream_in rest ++ revision_text (revision_in rest) ≡ rest
upstream_revision rest = by_cases (list_any is_hyphen rest) refl
  where
    by_cases : (v : Bool) → list_any is_hyphen rest ≡ v → cond v (before_last is_hyphen rest) rest ++ revision_text (cond v (Some (after_last is_hyphen rest)) None) ≡ rest
    by_cases true e =
        let j = join_last is_hyphen rest e in
        ap (λ b. before_last is_hyphen rest ++ b ∷ after_last is_hyphen rest) (sym (eqb-true j.0 45 j.1)) ∙ sym j.2
    by_cases false e = append-nil rest

-- Every text is spelled by its components.
pub spelling-components_in : (text : List ℕ) → spelling (components_in text) ≡ text
spelling-components_in text = ap (λ l. epoch_text (epoch_in text) ++ l) (upstream_revision (rest_in text)) ∙ epoch_rest text

-- a text without colon has no epoch
no_colon : (rest : List ℕ) → list_any is_colon rest ≡ false → (epoch_in rest ≡ None) × (rest_in rest ≡ rest)
no_colon rest none = (ap (λ v. cond v (Some (before_first is_colon rest)) None) none, ap (λ v. cond v (after_first is_colon rest) rest) none)

-- after digits and a colon is the rest
with_colon : (digits rest : List ℕ) → list_any is_colon digits ≡ false → (epoch_in (digits ++ 58 ∷ rest) ≡ Some digits) × (rest_in (digits ++ 58 ∷ rest) ≡ rest)
with_colon digits rest none = (
  ap (λ v. cond v (Some (before_first is_colon (digits ++ 58 ∷ rest))) None) (list_any-at is_colon digits 58 rest refl) ∙ ap Some (before_first-at is_colon digits 58 rest none refl),
  ap (λ v. cond v (after_first is_colon (digits ++ 58 ∷ rest)) (digits ++ 58 ∷ rest)) (list_any-at is_colon digits 58 rest refl) ∙ after_first-at is_colon digits 58 rest none refl,
)

-- a rest without hyphen has no revision
no_hyphen : (upstream : List ℕ) → list_any is_hyphen upstream ≡ false → (upstream_in upstream ≡ upstream) × (revision_in upstream ≡ None)
no_hyphen upstream none =
    (ap (λ v. cond v (before_last is_hyphen upstream) upstream) none, ap (λ v. cond v (Some (after_last is_hyphen upstream)) None) none)

pub with_hyphen : (upstream revision : List ℕ) → list_any is_hyphen revision ≡ false
    → (upstream_in (upstream ++ 45 ∷ revision) ≡ upstream) × (revision_in (upstream ++ 45 ∷ revision) ≡ Some revision)
with_hyphen upstream revision none = (
  ap (λ v. cond v (before_last is_hyphen (upstream ++ 45 ∷ revision)) (upstream ++ 45 ∷ revision)) (list_any-at is_hyphen upstream 45 revision refl) ∙ before_last-at is_hyphen upstream 45 revision none refl,
  ap (λ v. cond v (Some (after_last is_hyphen (upstream ++ 45 ∷ revision))) None) (list_any-at is_hyphen upstream 45 revision refl) ∙ ap Some (after_last-at is_hyphen upstream 45 revision none refl),
)

-- the upstream version and the revision of what follows the epoch
rest_parts : (upstream : List ℕ) (revision : Option (List ℕ)) → IfNone revision (AllByRecursion (λ b. b ≢ 45) upstream) → IfSome revision IsRevision
    → (upstream_in (upstream ++ revision_text revision) ≡ upstream) × (revision_in (upstream ++ revision_text revision) ≡ revision)
rest_parts upstream None no_hyphens allowed =
    let n = no_hyphen upstream (none_equal-test 45 upstream no_hyphens) in
    (ap upstream_in (append-nil upstream) ∙ n.0, ap revision_in (append-nil upstream) ∙ n.1)
rest_parts upstream (Some revision) no_hyphens allowed = with_hyphen upstream revision (none_equal is_revision_byte 45 refl revision allowed.1)

-- without an epoch there is no colon
rest_no_colon : (upstream : List ℕ) (revision : Option (List ℕ)) → AllByRecursion (λ b. IsTrue (is_upstream_byte false b)) upstream → IfSome revision IsRevision
    → list_any is_colon (upstream ++ revision_text revision) ≡ false
rest_no_colon upstream revision bytes allowed = list_any-append is_colon upstream (revision_text revision) ∙ ap (λ v. v || list_any is_colon (revision_text revision)) (none_equal (is_upstream_byte false) 58 refl upstream bytes) ∙ behind revision allowed
  where
    behind : (r : Option (List ℕ)) → IfSome r IsRevision → list_any is_colon (revision_text r) ≡ false
    behind None a = refl
    behind (Some r) a = none_equal is_revision_byte 58 refl r a.1

-- the components of a text, from its pieces
pub components_made : (text rest : List ℕ) (e : Option (List ℕ)) (u : List ℕ) (r : Option (List ℕ)) → epoch_in text ≡ e → rest_in text ≡ rest → upstream_in rest ≡ u → revision_in rest ≡ r
    → components_in text ≡ record { epoch = e; upstream = u; revision = r }
components_made text rest e u r is_e is_rest is_u is_r = cc

-- the components of a text that an epoch and a rest join to
pub with_epoch : (e : Option (List ℕ)) (rest upstream : List ℕ) (revision : Option (List ℕ)) → IfSome e IsEpoch → (is_some e ≡ false → list_any is_colon rest ≡ false) → upstream_in rest ≡ upstream → revision_in rest ≡ revision
    → components_in (epoch_text e ++ rest) ≡ record { epoch = e; upstream = upstream; revision = revision }
with_epoch None rest upstream revision is_epoch no_colons is_upstream is_revision =
    let n = no_colon rest (no_colons refl) in
    components_made rest rest None upstream revision n.0 n.1 is_upstream is_revision
with_epoch (Some digits) rest upstream revision is_epoch no_colons is_upstream is_revision =
    let w = with_colon digits rest (none_equal is_ascii_digit 58 refl digits is_epoch.1) in
    ap components_in (append_assoc digits (58 ∷ []) rest) ∙ components_made (digits ++ 58 ∷ rest) rest (Some digits) upstream revision w.0 w.1 is_upstream is_revision

-- Allowed components are those of their spelling.
pub components_in-spelling : (c : Components) → IsTrue (are_components c) → components_in (spelling c) ≡ c
components_in-spelling c allowed =
    let are = are_components-fact c allowed in
    let parts = rest_parts c.upstream c.revision are.upstream_hyphen are.revision in
    let bytes : AllByRecursion (λ b. IsTrue (is_upstream_byte (is_some c.epoch) b)) c.upstream = are.upstream_bytes in
    let no_colons : is_some c.epoch ≡ false → list_any is_colon (c.upstream ++ revision_text c.revision) ≡ false = λ e.
    rest_no_colon c.upstream c.revision (subst (λ v. AllByRecursion (λ b. IsTrue (is_upstream_byte v b)) c.upstream) e bytes) are.revision in
    with_epoch c.epoch (c.upstream ++ revision_text c.revision) c.upstream c.revision are.epoch no_colons parts.0 parts.1

-- the components of a text are cut at its last hyphen
pub cut_at_hyphen : (rest : List ℕ) → (is_some (revision_in rest) || not (list_any is_hyphen (upstream_in rest))) ≡ true
cut_at_hyphen rest = by_cases (list_any is_hyphen rest) refl
  where
    by_cases : (v : Bool) → list_any is_hyphen rest ≡ v → (is_some (cond v (Some (after_last is_hyphen rest)) None) || not (list_any is_hyphen (cond v (before_last is_hyphen rest) rest))) ≡ true
    by_cases true e = refl
    by_cases false e = ap not e

none_at_all : (n : ℕ) (text : List ℕ) → All (λ b. b ≢ n) text → list_any (λ b. b == n) text ≡ false
none_at_all n text none = list_any_none (λ b. b == n) text (All-weaker (λ b. b ≢ n) (λ b. (b == n) ≡ false) (λ b h. ne_eqb b n h) text none)

-- the epoch and the rest of a text, by the offset of the first colon
pub epoch_at_colon : (text : List ℕ) (i : ℕ) → i < length text → get_or text i 0 ≡ 58 → ((k : ℕ) → k < i → get_or text k 0 ≢ 58)
    → (epoch_in text ≡ Some (take i text)) × (rest_in text ≡ drop (i + 1) text)
epoch_at_colon text i inside here before =
    let colon = (Decides-eqb (get_or text i 0) 58).1 here in
    let some = list_any_at is_colon text i 0 inside colon in
    let at = position_or_len_is is_colon text i 0 (omega arith) (λ k less. ne_eqb _ 58 (before k less)) (λ _. colon) in
    rw (some, at) (refl, refl)

pub epoch_at_none : (text : List ℕ) → All (λ b. b ≢ 58) text → (epoch_in text ≡ None) × (rest_in text ≡ text)
epoch_at_none text none = no_colon text (none_at_all 58 text none)

-- the upstream version and the revision of the rest, by the offset of the last hyphen
pub revision_at_hyphen : (rest : List ℕ) (i : ℕ) → i < length rest → get_or rest i 0 ≡ 45 → ((k : ℕ) → i + 1 ≤ k → k < length rest → get_or rest k 0 ≢ 45)
    → (upstream_in rest ≡ take i rest) × (revision_in rest ≡ Some (drop (i + 1) rest))
revision_at_hyphen rest i inside here after =
    let hyphen = (Decides-eqb (get_or rest i 0) 45).1 here in
    let some = list_any_at is_hyphen rest i 0 inside hyphen in
    let same : i + 1 - 1 ≡ i = omega arith in
    let len = suffix_len_is (λ b. not (is_hyphen b)) rest (i + 1) 0 (omega arith) (λ k from within. ap not (ne_eqb _ 45 (after k from within))) (λ _. ap (λ k. not (is_hyphen (get_or rest k 0))) same ∙ ap not hyphen) in
    let behind : length rest - suffix_len (λ b. not (is_hyphen b)) rest ≡ i + 1 = omega (arith, len) in
    rw (some, behind, same) (refl, refl)

pub revision_at_none : (rest : List ℕ) → All (λ b. b ≢ 45) rest → (upstream_in rest ≡ rest) × (revision_in rest ≡ None)
revision_at_none rest none = no_hyphen rest (none_at_all 45 rest none)
