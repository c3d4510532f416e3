-- The values of a paragraph's fields: they are there exactly where no body is refused, and have the canonical bodies.
use Rattle.deb_control.proofs.Common.{◌≡◌, ℕ, ◌||◌, ◌&&◌, Bool, true, false, cond, is_some, Option, None, Some, List, [], ◌∷◌, map, Ordering, Less, Equal, Greater, refl, sym, ap, ◌∙◌, subst, or_parts, is_eq-slice_cmp, bytes_eq-Decides, is_eq, insert_entry, find, AllByRecursion, match_ordering, eq_by_cmp, bytes_eq, Code, Refusal, folded, canonical_name, Field, has_name, AreDistinct, byte_order, Entries, entries_after, entries_of, body_of, bytes_eq-swap, body_at-entries_of, CanonLaw, Pairwise, Rules, AreRulesOf, refusal_or, value_refusal_of, have_names, canonical_field, canonical_entries, ValueEntries, SpellsEntry, body_under, has_values}
use Rattle.deb_control.proofs.ValueBodies.{value_at, one_paragraph}

-- equal in the order of bytes is the same
pub same_from_equal : (a b : List ℕ) → byte_order a b ≡ Equal → a ≡ b
same_from_equal a b e = (bytes_eq-Decides a b).0 (sym (is_eq-slice_cmp a b) ∙ ap is_eq e)

-- no body of the fields is refused, field by field
abbrev NoneRefused : Rules → List Field → Type 0
NoneRefused rules fields = AllByRecursion (λ field. rules.refusal (canonical_name field.name) field.body ≡ None) fields

none_first : (o : Option Code) (line : ℕ) (other : Option Refusal) → refusal_or o line other ≡ None → (o ≡ None) × (other ≡ None)
none_first None line other h = (refl, h)
none_first (Some code) line other h = absurd (cc)

pub each-from_none : (rules : Rules) (fields : List Field) → value_refusal_of rules fields ≡ None → NoneRefused rules fields
each-from_none rules [] h = tt
each-from_none rules (field ∷ fields) h =
    let p = none_first (rules.refusal (canonical_name field.name) field.body) field.line (value_refusal_of rules fields) h in
    (p.0, each-from_none rules fields p.1)

none-from_each : (rules : Rules) (fields : List Field) → NoneRefused rules fields → value_refusal_of rules fields ≡ None
none-from_each rules [] h = refl
none-from_each rules (field ∷ fields) h = rw h.0 (none-from_each rules fields h.1)

-- each field's body is the one that is under its name
own_body : (field : Field) (fields : List Field) → body_of field.name (field ∷ fields) ≡ Some field.body
own_body field fields = rw ((bytes_eq-Decides (folded field.name) (folded field.name)).1 refl) refl

behind_other : (field : Field) (fields others : List Field) → has_name field.name others ≡ false → AllByRecursion (λ f. body_of f.name fields ≡ Some f.body) others → AllByRecursion (λ f. body_of f.name (field ∷ fields) ≡ Some f.body) others
behind_other field fields [] none h = tt
behind_other field fields (f ∷ others) none h =
    let p = or_parts (bytes_eq (folded f.name) (folded field.name)) (has_name field.name others) none in
    (rw (bytes_eq-swap (folded f.name) (folded field.name) p.0) h.0, behind_other field fields others p.1 h.1)

own_bodies : (fields : List Field) → AreDistinct fields → AllByRecursion (λ f. body_of f.name fields ≡ Some f.body) fields
own_bodies [] d = tt
own_bodies (field ∷ fields) d = (own_body field fields, behind_other field fields fields d.0 (own_bodies fields d.1))

-- a name is among fields exactly where a body is under it
has_name-body_of : (name : List ℕ) (fields : List Field) → is_some (body_of name fields) ≡ has_name name fields
has_name-body_of name [] = refl
has_name-body_of name (field ∷ fields) = go (bytes_eq (folded field.name) (folded name)) (has_name-body_of name fields)
  where
    go : (t : Bool) → is_some (body_of name fields) ≡ has_name name fields → is_some (cond t (Some field.body) (body_of name fields)) ≡ (t || has_name name fields)
    go true h = refl
    go false h = h

module _ {V : Type 0} (spells : List ℕ → List ℕ → V → Type 0) where
  choose : (o : Ordering) (a b c : Entries) (a' b' c' : ValueEntries V) → Pairwise (SpellsEntry spells) a a' → (o ≡ Equal → Pairwise (SpellsEntry spells) b b') → Pairwise (SpellsEntry spells) c c' → Pairwise (SpellsEntry spells) (match_ordering o a b c) (match_ordering o a' b' c')
  choose Less a b c a' b' c' p q r = p
  choose Equal a b c a' b' c' p q r = q refl
  choose Greater a b c a' b' c' p q r = r

  -- a value more is spelled by a body more
  Pairwise-insert : (name body : List ℕ) (v : V) → spells name body v → (entries : Entries) (fields : ValueEntries V) → Pairwise (SpellsEntry spells) entries fields → Pairwise (SpellsEntry spells) (insert_entry byte_order entries name body) (insert_entry byte_order fields name v)
  Pairwise-insert name body v s [] [] p = ((refl, s), tt)
  Pairwise-insert name body v s [] (field ∷ fields) p = absurd p
  Pairwise-insert name body v s (entry ∷ entries) [] p = absurd p
  Pairwise-insert name body v s (entry ∷ entries) (field ∷ fields) p =
      let rest = Pairwise-insert name body v s entries fields p.1 in
      subst (λ o. Pairwise (SpellsEntry spells) (insert_entry byte_order (entry ∷ entries) name body) (match_ordering o ((name, v) ∷ field ∷ fields) ((field.0, v) ∷ fields) (field ∷ insert_entry byte_order fields name v))) (ap (byte_order name) p.0.0)
      (choose (byte_order name entry.0) ((name, body) ∷ entry ∷ entries) ((entry.0, body) ∷ entries) (entry ∷ insert_entry byte_order entries name body) ((name, v) ∷ field ∷ fields) ((field.0, v) ∷ fields) (field ∷ insert_entry byte_order fields name v)
      ((refl, s), p) (λ e. ((p.0.0, subst (λ n. spells n body v) (same_from_equal name entry.0 e ∙ p.0.0) s), p.1)) (p.0, rest))

  -- a value is under a name exactly where a body is
  pub is_some-find : (name : List ℕ) (entries : Entries) (fields : ValueEntries V) → Pairwise (SpellsEntry spells) entries fields → is_some (find byte_order name fields) ≡ is_some (find byte_order name entries)
  is_some-find name [] [] p = refl
  is_some-find name [] (field ∷ fields) p = absurd p
  is_some-find name (entry ∷ entries) [] p = absurd p
  is_some-find name (entry ∷ entries) (field ∷ fields) p =
      go (eq_by_cmp byte_order name entry.0) (ap (eq_by_cmp byte_order name) (sym p.0.0)) (is_some-find name entries fields p.1)
    where
      go : (t : Bool) → eq_by_cmp byte_order name field.0 ≡ t → is_some (find byte_order name fields) ≡ is_some (find byte_order name entries) → is_some (find byte_order name (field ∷ fields)) ≡ is_some (cond t (Some entry.1) (find byte_order name entries))
      go true e h = rw e refl
      go false e h = rw e h

-- what is worked out of each entry is worked out of the one that is put in
pub map-insert : {V W : Type 0} (of : List ℕ → V → W) (fields : List (List ℕ × V)) (name : List ℕ) (v : V) → map (λ f. (f.0, of f.0 f.1)) (insert_entry byte_order fields name v) ≡ insert_entry byte_order (map (λ f. (f.0, of f.0 f.1)) fields) name (of name v)
map-insert of [] name v = refl
map-insert {V} {W} of (field ∷ fields) name v = go (byte_order name field.0) refl (map-insert of fields name v)
  where
    new : List ℕ × V → List ℕ × W
    new f = (f.0, of f.0 f.1)

    go : (o : Ordering) → byte_order name field.0 ≡ o → map new (insert_entry byte_order fields name v) ≡ insert_entry byte_order (map new fields) name (of name v) → map new (match_ordering o ((name, v) ∷ field ∷ fields) ((field.0, v) ∷ fields) (field ∷ insert_entry byte_order fields name v)) ≡ match_ordering o ((name, of name v) ∷ new field ∷ map new fields) ((field.0, of name v) ∷ map new fields) (new field ∷ insert_entry byte_order (map new fields) name (of name v))
    go Less e rest = refl
    go Equal e rest = ap (λ n. (field.0, of n v) ∷ map new fields) (sym (same_from_equal name field.0 e))
    go Greater e rest = ap (λ m. new field ∷ m) rest

-- the names that are asked are among the values of fields exactly where they are among the fields
pub has_values-have_names : {V : Type 0} (spells : List ℕ → List ℕ → V → Type 0) (fields : List Field) (values : ValueEntries V) → AreDistinct fields → Pairwise (SpellsEntry spells) (entries_of fields) values → (names : List (List ℕ)) → has_values names values ≡ have_names fields names
has_values-have_names spells fields values d s [] = refl
has_values-have_names spells fields values d s (name ∷ names) =
    let one : is_some (find byte_order (canonical_name name) values) ≡ has_name name fields =
    is_some-find spells (canonical_name name) (entries_of fields) values s ∙ ap is_some (body_at-entries_of fields d name) ∙ has_name-body_of name fields in
    rw one (ap (λ t. has_name name fields && t) (has_values-have_names spells fields values d s names))

module _ (V : Type 0) (spells : List ℕ → List ℕ → V → Type 0) (text_of : V → List ℕ) (law : (name : List ℕ) → CanonLaw V (spells name) text_of) (rules : Rules) (are : AreRulesOf V spells text_of rules) where
  -- values that bodies spell, and the canonical bodies of these
  record HasValues (bodies canonical : Entries) : Type 0 where
    values : ValueEntries V
    spelled : Pairwise (SpellsEntry spells) bodies values
    texts : canonical ≡ map (body_under text_of) values

  more_values : (fields : List Field) (bodies canonical : Entries) → HasValues bodies canonical → NoneRefused rules fields → HasValues (entries_after bodies fields) (entries_after canonical (map (canonical_field rules) fields))
  more_values [] bodies canonical has none = has
  more_values (field ∷ fields) bodies canonical has none =
      let name = canonical_name field.name in
      let value = are.spelled name field.body none.0 in
      more_values fields (insert_entry byte_order bodies name field.body) (insert_entry byte_order canonical name (rules.canonical name field.body))
      (record {
        values = insert_entry byte_order has.values name value.0;
        spelled = Pairwise-insert spells name field.body value.0 value.1 bodies has.values has.spelled;
        texts = ap (λ c. insert_entry byte_order c name (rules.canonical name field.body)) has.texts ∙ ap (insert_entry byte_order (map (body_under text_of) has.values) name) (are.text name field.body value.0 value.1) ∙ sym (map-insert (λ n. text_of) has.values name value.0);
      })
      none.1

  -- where no body is refused, the bodies spell values, and the canonical bodies are their texts
  pub values-from_none : (fields : List Field) → value_refusal_of rules fields ≡ None → (values : ValueEntries V) × Pairwise (SpellsEntry spells) (entries_of fields) values × (canonical_entries rules fields ≡ map (body_under text_of) values)
  values-from_none fields none =
      let has = more_values fields [] [] (record { values = []; spelled = tt; texts = refl }) (each-from_none rules fields none) in
      (has.values, has.spelled, has.texts)

  each_unrefused : (fields others : List Field) (values : ValueEntries V) → AreDistinct fields → Pairwise (SpellsEntry spells) (entries_of fields) values → AllByRecursion (λ f. body_of f.name fields ≡ Some f.body) others → NoneRefused rules others
  each_unrefused fields [] values d s own = tt
  each_unrefused fields (f ∷ others) values d s own =
      let at = value_at V spells text_of law (canonical_name f.name) f.body (entries_of fields) values s (body_at-entries_of fields d f.name ∙ own.0) in
      (are.unrefused (canonical_name f.name) f.body at.0 at.1, each_unrefused fields others values d s own.1)

  -- where the bodies spell values, none is refused
  pub none-from_values : (fields : List Field) (values : ValueEntries V) → AreDistinct fields → Pairwise (SpellsEntry spells) (entries_of fields) values → value_refusal_of rules fields ≡ None
  none-from_values fields values d s = none-from_each rules fields (each_unrefused fields fields values d s (own_bodies fields d))

  -- the canonical bodies are the texts of the values
  pub canonical-from_values : (fields : List Field) (values : ValueEntries V) → AreDistinct fields → Pairwise (SpellsEntry spells) (entries_of fields) values → canonical_entries rules fields ≡ map (body_under text_of) values
  canonical-from_values fields values d s =
      let found = values-from_none fields (none-from_values fields values d s) in
      found.2 ∙ ap (map (body_under text_of)) (one_paragraph V spells text_of law (entries_of fields) found.0 values found.1 s)
