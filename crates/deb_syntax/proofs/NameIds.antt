-- What is kept of the names at spans: which fields of the table stood, and all others in a set.
use Rattle.deb_syntax.proofs.Common.{row_count, ◌≡◌, ◌⊎◌, inl, inr, ℕ, zero, suc, not, true≢false, ◌<◌, ◌≤◌, ◌==◌, ◌||◌, Bool, true, false, List, [], ◌∷◌, ◌++◌, map, get_or, refl, sym, ap, subst, ◌∙◌, arith, list_all, list_any-append, bytes_eq, eqb-true, eq-eqb, and_parts, map_push, folded, known_row, row_of, name_at, lies_within, has_row, has_stood, is_kept, Keeps, KeepsNext, FieldSpan, Names, FoldedName}
use Rattle.std.proofs.lemmas.Bool.Decides.{Decides-eqb, same_from_decides}
use Rattle.deb_base.proofs.FieldLookups.{other_rows, same_rows}
use Rattle.deb_syntax.proofs.NameSets.{has_stood-push, or_false}

-- none is set
pub none_set : (marks : List Bool) → list_all not marks ≡ true → (k : ℕ) → get_or marks k false ≡ false
none_set [] none k = refl
none_set (true ∷ marks) none k = absurd (true≢false (sym none))
none_set (false ∷ marks) none zero = refl
none_set (false ∷ marks) none (suc k) = none_set marks none k

-- the last field goes on
pub Keeps-longer : (text : List ℕ) (front : List FieldSpan) (last : FieldSpan) (end : ℕ) (names : Names) → Keeps text (front ++ last ∷ []) names → Keeps text (front ++ record last { end = end } ∷ []) names
Keeps-longer text front last end names k =
    let longer : FieldSpan = record last { end = end } in
    let stood : map (name_at text) (front ++ last ∷ []) ≡ map (name_at text) (front ++ longer ∷ []) = map_push (name_at text) front last ∙ sym (map_push (name_at text) front longer) in
    record {
      known = λ row within. k.known row within ∙ list_any-append (λ p. row_of p.id == row) front (last ∷ []) ∙ sym (list_any-append (λ p. row_of p.id == row) front (longer ∷ []));
      others = subst (λ s. (names.all.keys ≡ []) ⊎ ((name : List ℕ) → row_count ≤ known_row name → is_kept name names.all.keys ≡ has_stood name s)) stood k.others;
    }

-- a name of the table stood exactly where its row did
pub has_stood-row : (text name : List ℕ) (spans : List FieldSpan) → list_all (lies_within text) spans ≡ true → known_row name < row_count → has_stood name (map (name_at text) spans) ≡ has_row (known_row name) spans
has_stood-row text name [] lie within = refl
has_stood-row text name (p ∷ spans) lie within =
    let parts = and_parts (lies_within text p) (list_all (lies_within text) spans) lie in
    let id : row_of p.id ≡ known_row (name_at text p) = eqb-true _ _ (and_parts _ (row_of p.id == known_row (name_at text p)) parts.0).1 in
    ap (λ t. t || has_stood name (map (name_at text) spans)) (same_rows (name_at text p) name within ∙ ap (λ n. n == known_row name) (sym id))
    ∙ ap (λ t. (row_of p.id == known_row name) || t) (has_stood-row text name spans parts.1 within)

has_row-push : (row : ℕ) (spans : List FieldSpan) (p : FieldSpan) → has_row row (spans ++ p ∷ []) ≡ (has_row row spans || (row_of p.id == row))
has_row-push row spans p = list_any-append (λ q. row_of q.id == row) spans (p ∷ []) ∙ ap (λ t. has_row row spans || t) (or_false (row_of p.id == row))

eqb-sym : (a b : ℕ) → (a == b) ≡ (b == a)
eqb-sym a b = same_from_decides _ _ (λ t. sym (eqb-true a b t), λ e. eq-eqb a b (sym e)) (Decides-eqb b a)

module _ (text name : List ℕ) (spans : List FieldSpan) (old new : Names) (keeps : Keeps text spans old) where
  -- of the table
  pub KeepsNext-known : known_row name < row_count → new.all.keys ≡ old.all.keys → ((k : ℕ) → get_or new.known k false ≡ (get_or old.known k false || (k == known_row name))) → KeepsNext text spans name new
  KeepsNext-known within all known = λ span named id. record {
    known = λ row small. known row ∙ ap (λ t. t || (row == known_row name)) (keeps.known row small) ∙ ap (λ t. has_row row spans || t) (eqb-sym row (known_row name) ∙ ap (λ n. n == row) (sym id)) ∙ sym (has_row-push row spans span);
    others = subst (λ keys. (keys ≡ []) ⊎ ((other : List ℕ) → row_count ≤ known_row other → is_kept other keys ≡ has_stood other (map (name_at text) (spans ++ span ∷ [])))) (sym all) (more span named keeps.others);
  }
    where
      more : (span : FieldSpan) → name_at text span ≡ name → ((old.all.keys ≡ []) ⊎ ((other : List ℕ) → row_count ≤ known_row other → is_kept other old.all.keys ≡ has_stood other (map (name_at text) spans))) → ((old.all.keys ≡ []) ⊎ ((other : List ℕ) → row_count ≤ known_row other → is_kept other old.all.keys ≡ has_stood other (map (name_at text) (spans ++ span ∷ []))))
      more span named (inl none) = inl none
      more span named (inr all) = inr (λ other behind.
          all other behind
          ∙ sym (or_false (has_stood other (map (name_at text) spans)))
          ∙ ap (λ t. has_stood other (map (name_at text) spans) || t) (sym (other_rows name other within behind) ∙ ap (λ n. bytes_eq (folded n) (folded other)) (sym named))
          ∙ sym (has_stood-push (map (name_at text) spans) (name_at text span) other)
          ∙ ap (has_stood other) (sym (map_push (name_at text) spans span)))

  -- another name
  module _ (behind : row_count ≤ known_row name) (same : new.known ≡ old.known) where
    known_after : (span : FieldSpan) → row_of span.id ≡ known_row name → (row : ℕ) → row < row_count → get_or new.known row false ≡ has_row row (spans ++ span ∷ [])
    known_after span id row small =
        ap (λ l. get_or l row false) same ∙ keeps.known row small ∙ sym (or_false (has_row row spans))
        ∙ ap (λ t. has_row row spans || t) (sym (differ (row_of span.id) row (omega (arith, id, behind, small)))) ∙ sym (has_row-push row spans span)
      where
        differ : (a b : ℕ) → b < a → (a == b) ≡ false
        differ a b h = go (a == b) refl
          where
            go : (t : Bool) → (a == b) ≡ t → (a == b) ≡ false
            go true is = absurd (omega (arith, h, eqb-true a b is))
            go false is = is

    pub KeepsNext-few : new.all.keys ≡ [] → KeepsNext text spans name new
    KeepsNext-few none = λ span named id. record { known = known_after span id; others = inl none }

    pub KeepsNext-all : (mid : List FoldedName) → ((other : List ℕ) → row_count ≤ known_row other → is_kept other mid ≡ has_stood other (map (name_at text) spans)) → ((other : List ℕ) → is_kept other new.all.keys ≡ (is_kept other mid || bytes_eq (folded name) (folded other))) → KeepsNext text spans name new
    KeepsNext-all mid all kept = λ span named id. record {
      known = known_after span id;
      others = inr (λ other beyond.
          kept other ∙ ap (λ t. t || bytes_eq (folded name) (folded other)) (all other beyond)
          ∙ ap (λ n. has_stood other (map (name_at text) spans) || bytes_eq (folded n) (folded other)) (sym named)
          ∙ sym (has_stood-push (map (name_at text) spans) (name_at text span) other)
          ∙ ap (has_stood other) (sym (map_push (name_at text) spans span)));
    }
