-- One epoch compares with itself as equal.
use Rattle.deb_version.proofs.Common.{◌≡◌, ℕ, Option, Some, None, List, Bor, nat_eq, true, refl, sym, ap, ◌∙◌, nat_cmp_total, tied_itself, pointwise, same_text, option_eq, is_ascii_digit, list_all, epoch_value, value_of}
use Rattle.std.proofs.Common.{Equal, nat_cmp}
use Rattle.std.specs.Option.{option_copied}
use Rattle.deb_version.proofs.AllowedLemmas.{epoch_digits}
use Rattle.deb_version.proofs.order.compare_epochs.Goals as goal

epochs_same : (a b : Option (Bor (List ℕ))) → option_eq (λ x y. pointwise nat_eq x.now y.now) a b ≡ true → nat_cmp (epoch_value (option_copied a)) (epoch_value (option_copied b)) ≡ Equal
epochs_same None None e = refl
epochs_same None (Some b) e = absurd cc
epochs_same (Some a) None e = absurd cc
epochs_same (Some a) (Some b) e =
    ap (λ t. nat_cmp (value_of a.now) (value_of t)) (sym (same_text a.now b.now (sym e))) ∙ tied_itself nat_cmp_total (value_of a.now)

pub returns-then-eq : goal.returns-then-eq
returns-then-eq c = sym (epochs_same c.args.a.now.epoch c.args.b.now.epoch (sym c.eq.ensures ∙ c.if-eq.true))

pub compare_runs-requires-clause-a_digits : goal.compare_runs-requires-clause-a_digits
compare_runs-requires-clause-a_digits c = ap (λ r. list_all is_ascii_digit r.now) c.unwrap_or.ensures ∙ epoch_digits c.args.a.now _ refl

pub compare_runs-requires-clause-b_digits : goal.compare_runs-requires-clause-b_digits
compare_runs-requires-clause-b_digits c = ap (λ r. list_all is_ascii_digit r.now) c.unwrap_or-2.ensures ∙ epoch_digits c.args.b.now _ refl
