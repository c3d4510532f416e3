-- Verdicts: at first none is known; more of them; and verdicts on the same universe.
use Rattle.std.proofs.Common.{◌≡◌, ℕ, ◌<◌, List, length, get_or, replicate, set, Some, slice_get, refl, sym, ap, ◌∙◌, subst, eqb, inl, inr}
use Rattle.std.proofs.lemmas.Bool.{cases_eq, eq-eqb, false≢true}
use Rattle.std.proofs.lemmas.List.{get_or-replicate, get_or-set_same, get_or-set_other, length-replicate, length-set}
use Rattle.std.proofs.lemmas.List.Folds.{list_any_at}
use Rattle.std.proofs.lemmas.Option.{slice_get_within, get_or_from_slice_get, slice_get-get_or}
use Rattle.deb_solve.specs.Health.{IsHealthy, IsInstallable, is_among}
use Rattle.deb_solve.specs.Refuting.{IsOut}
use Rattle.deb_solve.specs.Verdicts.{AreTrue, AreVerdicts, NoneIsInstallable}
use Rattle.deb_solve.specs.declared.universe.Universe.{Universe}
use Rattle.deb_solve.specs.declared.verdict.Verdict.{Verdict}
use Rattle.deb_solve.specs.declared.verdict.Verdict.TheVariants.{Installable, Uninstallable, Undecided}

not_yes : Undecided ≡ Installable → ⊥
not_yes e = cc

not_no : Undecided ≡ Uninstallable → ⊥
not_no e = cc

yes_not_no : Installable ≡ Uninstallable → ⊥
yes_not_no e = cc

undecided_at : (n p : ℕ) (v : Verdict) → slice_get (replicate n Undecided) p ≡ Some v → Undecided ≡ v
undecided_at n p v is =
    let within : p < n = subst (λ k. p < k) (length-replicate n Undecided) (slice_get_within (replicate n Undecided) p v is) in
    sym (get_or-replicate n p Undecided Undecided within) ∙ get_or_from_slice_get (replicate n Undecided) p v Undecided is

pub AreTrue-undecided : (u : Universe) (n : ℕ) (verdicts : List Verdict) → verdicts ≡ replicate n Undecided → AreTrue u verdicts
AreTrue-undecided u n verdicts are = record {
  yes = λ p is. absurd (not_yes (undecided_at n p Installable (ap (λ vs. slice_get vs p) (sym are) ∙ is)));
  no = λ p is. absurd (not_no (undecided_at n p Uninstallable (ap (λ vs. slice_get vs p) (sym are) ∙ is)));
}

-- what is at a number after one verdict was written
set_here : (verdicts : List Verdict) (m p : ℕ) (v w : Verdict) → p ≡ m → slice_get (set verdicts m v) p ≡ Some w → v ≡ w
set_here verdicts m p v w same is =
    let within : p < length verdicts = subst (λ k. p < k) (length-set verdicts m v) (slice_get_within (set verdicts m v) p w is) in
    sym (get_or-set_same verdicts m v w (subst (λ k. k < length verdicts) same within))
    ∙ ap (λ k. get_or (set verdicts m v) k w) (sym same) ∙ get_or_from_slice_get (set verdicts m v) p w w is

set_there : (verdicts : List Verdict) (m p : ℕ) (v w : Verdict) → (p ≡ m → ⊥) → slice_get (set verdicts m v) p ≡ Some w → slice_get verdicts p ≡ Some w
set_there verdicts m p v w other is =
    let within : p < length verdicts = subst (λ k. p < k) (length-set verdicts m v) (slice_get_within (set verdicts m v) p w is) in
    slice_get-get_or verdicts p w within
    ∙ ap Some (sym (get_or-set_other verdicts m p v w other) ∙ get_or_from_slice_get (set verdicts m v) p w w is)

pub AreTrue-yes : (u : Universe) (verdicts : List Verdict) (m : ℕ) → AreTrue u verdicts → IsInstallable u m → AreTrue u (set verdicts m Installable)
AreTrue-yes u verdicts m are installable = record {
  yes = λ p is. elim (cases_eq p m) [
    | inl same ↦ subst (λ k. IsInstallable u k) (sym same) installable
    | inr other ↦ are.yes p (set_there verdicts m p Installable Installable other is)
  ];
  no = λ p is. elim (cases_eq p m) [
    | inl same ↦ absurd (yes_not_no (set_here verdicts m p Installable Uninstallable same is))
    | inr other ↦ are.no p (set_there verdicts m p Installable Uninstallable other is)
  ];
}

pub AreTrue-no : (u : Universe) (verdicts : List Verdict) (m : ℕ) → AreTrue u verdicts → IsOut u m → AreTrue u (set verdicts m Uninstallable)
AreTrue-no u verdicts m are out = record {
  yes = λ p is. elim (cases_eq p m) [
    | inl same ↦ absurd (yes_not_no (sym (set_here verdicts m p Uninstallable Installable same is)))
    | inr other ↦ are.yes p (set_there verdicts m p Uninstallable Installable other is)
  ];
  no = λ p is. elim (cases_eq p m) [
    | inl same ↦ λ one. false≢true (sym (subst (λ k. IsOut u k) (sym same) out one.set one.is_healthy) ∙ one.contains)
    | inr other ↦ are.no p (set_there verdicts m p Uninstallable Uninstallable other is)
  ];
}

-- each package of a healthy list is installable
pub in_healthy : (u : Universe) (members : List ℕ) (i : ℕ) → i < length members → IsHealthy u (is_among members) → IsInstallable u (get_or members i 0)
in_healthy u members i within healthy = record {
  set = is_among members;
  is_healthy = healthy;
  contains = list_any_at (λ member. eqb member (get_or members i 0)) members i 0 within (eq-eqb (get_or members i 0) (get_or members i 0) refl);
}

pub AreTrue-same : (u v : Universe) (verdicts : List Verdict) → u ≡ v → AreTrue u verdicts → AreTrue v verdicts
AreTrue-same u v verdicts same are = subst (λ w. AreTrue w verdicts) same are

pub AreVerdicts-undecided : (u : Universe) (n : ℕ) (verdicts : List Verdict) → verdicts ≡ replicate n Undecided → n ≡ length u.needs → AreVerdicts u verdicts
AreVerdicts-undecided u n verdicts are same =
    record { each = ap length are ∙ length-replicate n Undecided ∙ same; are_true = AreTrue-undecided u n verdicts are }

pub AreVerdicts-after : (u : Universe) (old new : List Verdict) → AreVerdicts u old → AreTrue u new → length new ≡ length old → AreVerdicts u new
AreVerdicts-after u old new before are same = record { each = same ∙ before.each; are_true = are }

pub none-undecided : (n : ℕ) (verdicts : List Verdict) → verdicts ≡ replicate n Undecided → NoneIsInstallable verdicts
none-undecided n verdicts are p is = not_yes (undecided_at n p Installable (ap (λ vs. slice_get vs p) (sym are) ∙ is))

pub none-refused : (verdicts : List Verdict) (m : ℕ) → NoneIsInstallable verdicts → NoneIsInstallable (set verdicts m Uninstallable)
none-refused verdicts m none p is = elim (cases_eq p m) [
  | inl same ↦ yes_not_no (sym (set_here verdicts m p Uninstallable Installable same is))
  | inr other ↦ none p (set_there verdicts m p Uninstallable Installable other is)
]
