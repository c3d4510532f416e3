-- A map of the best paragraphs after one more paragraph.
use Rattle.std.proofs.Common.{◌≡◌, ℕ, Bool, true, false, ◌&&◌, cond, List, [], ◌∷◌, ◌++◌, Option, None, Some, IfSome, OnOk, Result, Ok, Err, option_map, Vec, refl, sym, ap, ◌∙◌, inl, inr}
use Rattle.std.specs.Global.{Global}
use Rattle.std.specs.List.{AllByRecursion, fold}
use Rattle.std.specs.Ordering.{is_gt, is_lt, ordering_reverse}
use Rattle.std.specs.Str.{bytes_eq}
use Rattle.std.specs.declared.cmp.Ordering.{Ordering}
use Rattle.std.specs.declared.cmp.Ordering.TheVariants.{Less, Equal, Greater}
use Rattle.std.proofs.lemmas.Bool.{cases_Bool}
use Rattle.std.proofs.lemmas.List.Sums.{fold-append}
use Rattle.std.proofs.lemmas.Slice.Eq.{bytes_eq-Decides}
use Rattle.indexmap.specs.IndexMap.{IndexMap}
use Rattle.deb_version.specs.Keys.{byte_order, version_key}
use Rattle.deb_version.specs.Order.{version_cmp}
use Rattle.deb_version.specs.Parts.{Meaning as Version}
use Rattle.deb_version.proofs.KeyOrder.{keys_sort_spelled}
use Rattle.deb_latest.specs.BestOf.{best_in, best_with, later_of}
use Rattle.deb_latest.specs.Bests.{AreBests, best_under, is_before_kept, kept_of, later_kept}
use Rattle.deb_latest.specs.Reads.{IsLimit, IsSpelled}
use Rattle.deb_latest.specs.Winning.{Entry, is_considered}
use Rattle.deb_latest.specs.declared.bests.Best.{Best}
use Rattle.deb_latest.proofs.Ordered.{reversed}

-- the best of spelled versions is spelled
best-spelled : (limit : Option Version) (key : List ℕ) (o : Option Entry) (entries : List Entry) → IfSome o IsSpelled → AllByRecursion IsSpelled entries → IfSome (fold (best_with limit key) o entries) IsSpelled
best-spelled limit key o [] one all = one
best-spelled limit key o (e ∷ entries) one all = best-spelled limit key (best_with limit key o e) entries (go (bytes_eq e.key key && is_considered limit e)) all.1
  where
    later : (o : Option Entry) → IfSome o IsSpelled → IsSpelled (later_of o e)
    later None one = all.0
    later (Some b) one = pick (is_gt (version_cmp e.version b.version))
      where
        pick : (v : Bool) → IsSpelled (cond v e b)
        pick true = all.0
        pick false = one

    go : (v : Bool) → IfSome (cond v (Some (later_of o e)) o) IsSpelled
    go true = later o one
    go false = one

-- the one with the later key of the two is the one with the later version
later-same : (o : Option Entry) (e : Entry) → IfSome o IsSpelled → IsSpelled e → later_kept (option_map kept_of o) (kept_of e) ≡ kept_of (later_of o e)
later-same None e one spelled = refl
later-same (Some b) e one spelled =
    ap (λ r. cond (is_gt r) (kept_of e) (kept_of b)) (keys_sort_spelled spelled.0 one.0 e.version b.version spelled.1 one.1)
    ∙ go (is_gt (version_cmp e.version b.version))
  where
    go : (v : Bool) → cond v (kept_of e) (kept_of b) ≡ kept_of (cond v e b)
    go true = refl
    go false = refl

module _ (limit : Option Version) (entries : List Entry) (e : Entry) (spelled : AllByRecursion IsSpelled entries) (one : IsSpelled e) (other : List ℕ) where
  abbrev best : Option Entry
  best = best_in limit other entries

  next : option_map kept_of (best_in limit other (entries ++ e ∷ [])) ≡ option_map kept_of (best_with limit other best e)
  next = ap (option_map kept_of) (fold-append (best_with limit other) None entries (e ∷ []))

  -- a considered one was put under its package
  pub put-more : is_considered limit e ≡ true → cond (bytes_eq e.key other) (Some (later_kept (option_map kept_of best) (kept_of e))) (option_map kept_of best) ≡ option_map kept_of (best_in limit other (entries ++ e ∷ []))
  put-more considered =
      ap (λ k. cond (bytes_eq e.key other) (Some k) (option_map kept_of best)) (later-same best e (best-spelled limit other None entries tt spelled) one)
      ∙ go (bytes_eq e.key other) (is_considered limit e) considered
      ∙ sym next
    where
      go : (v w : Bool) → w ≡ true → cond v (Some (kept_of (later_of best e))) (option_map kept_of best) ≡ option_map kept_of (cond (v && w) (Some (later_of best e)) best)
      go true w is = ap (λ w. option_map kept_of (cond w (Some (later_of best e)) best)) (sym is)
      go false w is = refl

  -- another changes nothing
  pub same-more : is_considered limit e ≡ false → option_map kept_of best ≡ option_map kept_of (best_in limit other (entries ++ e ∷ []))
  same-more apart = go (bytes_eq e.key other) (is_considered limit e) apart ∙ sym next
    where
      go : (v w : Bool) → w ≡ false → option_map kept_of best ≡ option_map kept_of (cond (v && w) (Some (later_of best e)) best)
      go true w is = ap (λ w. option_map kept_of (cond w (Some (later_of best e)) best)) (sym is)
      go false w is = refl

gt-turned : (r : Ordering) → is_gt r ≡ is_lt (ordering_reverse r)
gt-turned Less = refl
gt-turned Equal = refl
gt-turned Greater = refl

-- a key comes before that of the limit if the version is earlier than it
pub before-same : (kept : Option (Vec ℕ Global)) (limit : Option Version) (e : Entry) → IsLimit kept limit → IsSpelled e → is_before_kept (option_map (λ l. l.items) kept) (version_key e.version) ≡ is_considered limit e
before-same None None e is spelled = refl
before-same None (Some limit) e is spelled = absurd is
before-same (Some key) None e is spelled = absurd is
before-same (Some key) (Some limit) e is spelled =
    ap (λ k. is_gt (byte_order k (version_key e.version))) is.0
    ∙ ap is_gt (is.1 spelled.0 e.version spelled.1)
    ∙ gt-turned (version_cmp limit e.version)
    ∙ ap is_lt (sym (reversed limit e.version))

pub all-push : (P : Entry → Type 0) (entries : List Entry) (e : Entry) → AllByRecursion P entries → P e → AllByRecursion P (entries ++ e ∷ [])
all-push P [] e all one = (one, tt)
all-push P (x ∷ entries) e all one = (all.0, all-push P entries e all.1 one)

moved-key : (f : List ℕ → Option (List ℕ × ℕ)) (key other : List ℕ) (kept : List ℕ × ℕ) (o : Option (List ℕ × ℕ)) → cond (bytes_eq key other) (Some (later_kept (f key) kept)) o ≡ cond (bytes_eq key other) (Some (later_kept (f other) kept)) o
moved-key f key other kept o =
    elim (cases_Bool (bytes_eq key other)) [
      | inl equal ↦ ap (λ l. cond (bytes_eq key other) (Some (later_kept (f l) kept)) o) ((bytes_eq-Decides key other).0 equal)
      | inr apart ↦ ap (λ v. cond v (Some (later_kept (f key) kept)) o) apart ∙ sym (ap (λ v. cond v (Some (later_kept (f other) kept)) o) apart)
    ]

-- so a map of the best paragraphs is one after a considered paragraph was put
pub bests-more : {A S : Type 0} (limit : Option Version) (entries : List Entry) (e : Entry) (old new : IndexMap (Vec ℕ A) Best S) (key version : List ℕ) (number : ℕ)
    → AllByRecursion IsSpelled entries → IsSpelled e → AreBests limit entries old → is_considered limit e ≡ true → key ≡ e.key → version ≡ version_key e.version → number ≡ e.number
    → ((other : List ℕ) → best_under new other ≡ cond (bytes_eq key other) (Some (later_kept (best_under old key) (version, number))) (best_under old other))
    → AreBests limit (entries ++ e ∷ []) new
bests-more limit entries e old new key version number spelled one are considered key_is version_is number_is put = λ other.
    let best = option_map kept_of (best_in limit other entries) in
    put other
    ∙ moved-key (λ l. best_under old l) key other (version, number) (best_under old other)
    ∙ ap (λ b. cond (bytes_eq key other) (Some (later_kept b (version, number))) b) (are other)
    ∙ ap (λ k. cond (bytes_eq k other) (Some (later_kept best (version, number))) best) key_is
    ∙ ap (λ v. cond (bytes_eq e.key other) (Some (later_kept best (v, number))) best) version_is
    ∙ ap (λ n. cond (bytes_eq e.key other) (Some (later_kept best (version_key e.version, n))) best) number_is
    ∙ put-more limit entries e spelled one other considered

pub on_ok : {T E A B : Type 0} → (A → B) → (result : Result T E) → OnOk result A → OnOk result B
on_ok f (Ok x) h = f h
on_ok f (Err e) h = h
