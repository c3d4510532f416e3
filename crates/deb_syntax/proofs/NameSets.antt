-- Names that stood before, one after another, and a set that keeps them.
use Rattle.deb_syntax.proofs.Common.{false_from_ne_true, ◌≡◌, ℕ, ◌+◌, ◌<◌, Bool, true, false, cond, ◌||◌, List, [], ◌∷◌, ◌++◌, length, map, take, drop, get_or, refl, sym, ap, ◌∙◌, subst, list_any, bytes_eq, nat_list_eq_equiv, drop_more, take_more, map_push, list_any-append, bytes_eq-Decides, folded, name_at, has_stood, is_kept, FoldedName, FieldSpan}

pub or_false : (b : Bool) → (b || false) ≡ b
or_false true = refl
or_false false = refl

-- a search from one span on
module _ (text name : List ℕ) (spans : List FieldSpan) (i : ℕ) (d : FieldSpan) (within : i < length spans) where
  step : has_stood name (map (name_at text) (drop i spans)) ≡ (bytes_eq (folded (name_at text (get_or spans i d))) (folded name) || has_stood name (map (name_at text) (drop (i + 1) spans)))
  step = ap (λ l. has_stood name (map (name_at text) l)) (drop_more spans i d within)

  pub has_stood-found : folded (name_at text (get_or spans i d)) ≡ folded name → has_stood name (map (name_at text) (drop i spans)) ≡ true
  has_stood-found same = step ∙ ap (λ t. t || has_stood name (map (name_at text) (drop (i + 1) spans))) ((bytes_eq-Decides (folded (name_at text (get_or spans i d))) (folded name)).1 same)

  pub has_stood-passed : (folded (name_at text (get_or spans i d)) ≡ folded name → ⊥) → has_stood name (map (name_at text) (drop i spans)) ≡ has_stood name (map (name_at text) (drop (i + 1) spans))
  has_stood-passed other = step ∙ ap (λ t. t || has_stood name (map (name_at text) (drop (i + 1) spans))) (false_from_ne_true _ (λ e. other ((bytes_eq-Decides (folded (name_at text (get_or spans i d))) (folded name)).0 e)))

-- one name more
pub has_stood-push : (stood : List (List ℕ)) (name other : List ℕ) → has_stood other (stood ++ name ∷ []) ≡ (has_stood other stood || bytes_eq (folded name) (folded other))
has_stood-push stood name other = list_any-append (λ s. bytes_eq (folded s) (folded other)) stood (name ∷ []) ∙ ap (λ t. has_stood other stood || t) (or_false (bytes_eq (folded name) (folded other)))

pub has_stood-more : (text name : List ℕ) (spans : List FieldSpan) (i : ℕ) (d : FieldSpan) → i < length spans → has_stood name (map (name_at text) (take (i + 1) spans)) ≡ (has_stood name (map (name_at text) (take i spans)) || bytes_eq (folded (name_at text (get_or spans i d))) (folded name))
has_stood-more text name spans i d within =
    ap (λ l. has_stood name (map (name_at text) l)) (take_more spans i d within)
    ∙ ap (has_stood name) (map_push (name_at text) (take i spans) (get_or spans i d))
    ∙ has_stood-push (map (name_at text) (take i spans)) (name_at text (get_or spans i d)) name

pub is_kept-push : (names : List FoldedName) (n : FoldedName) (other : List ℕ) → is_kept other (names ++ n ∷ []) ≡ (is_kept other names || bytes_eq (folded n.0.now) (folded other))
is_kept-push names n other =
    list_any-append (λ o. bytes_eq (folded other) (folded o.0.now)) names (n ∷ [])
    ∙ ap (λ t. is_kept other names || t) (or_false (bytes_eq (folded other) (folded n.0.now)) ∙ nat_list_eq_equiv.symm (folded other) (folded n.0.now))

-- a name that is kept already
pub is_kept-again : (names : List FoldedName) (name other : List ℕ) → is_kept name names ≡ true → is_kept other names ≡ (is_kept other names || bytes_eq (folded name) (folded other))
is_kept-again names name other kept = go (bytes_eq (folded name) (folded other)) refl
  where
    go : (b : Bool) → bytes_eq (folded name) (folded other) ≡ b → is_kept other names ≡ (is_kept other names || b)
    go true is =
        let same : is_kept other names ≡ true = subst (λ f. list_any (λ o. bytes_eq f (folded o.0.now)) names ≡ true) ((bytes_eq-Decides (folded name) (folded other)).0 is) kept in
        same ∙ ap (λ t. t || true) (sym same)
    go false is = sym (or_false (is_kept other names))

-- a name is inserted
pub is_kept-insert : (names more : List FoldedName) (n : FoldedName) (other : List ℕ) → more ≡ cond (is_kept n.0.now names) names (names ++ n ∷ []) → is_kept other more ≡ (is_kept other names || bytes_eq (folded n.0.now) (folded other))
is_kept-insert names more n other is = go (is_kept n.0.now names) refl is
  where
    go : (b : Bool) → is_kept n.0.now names ≡ b → more ≡ cond b names (names ++ n ∷ []) → is_kept other more ≡ (is_kept other names || bytes_eq (folded n.0.now) (folded other))
    go true kept e = ap (is_kept other) e ∙ is_kept-again names n.0.now other kept
    go false new e = ap (is_kept other) e ∙ is_kept-push names n other

pub ruleset standing = (has_stood-found, has_stood-passed, has_stood-more)
