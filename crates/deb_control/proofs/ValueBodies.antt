-- The canonical bodies of values that are spelled: they have the form of a meaning, and spell the values.
use Rattle.deb_control.proofs.Common.{◌≡◌, ℕ, Bool, true, false, cond, Some, IsTrue, List, [], ◌∷◌, map, Less, refl, sym, ap, ◌∙◌, subst, AllByRecursion, is_eq-slice_cmp, bytes_eq-Decides, find, eq_by_cmp, canonical_name, is_name, byte_order, Entries, IsNonempty, CanonLaw, Pairwise, ValueEntries, SpellsEntry, SpellsEntries, body_under, bodies_of}
use Rattle.deb_control.proofs.Entries.{IsEntry, IsAscending, AreEntries}

-- equal in the order of bytes is the same
same_name : (a b : List ℕ) → eq_by_cmp byte_order a b ≡ true → a ≡ b
same_name a b e = (bytes_eq-Decides a b).0 (sym (is_eq-slice_cmp a b) ∙ e)

module _ (V : Type 0) (spells : List ℕ → List ℕ → V → Type 0) (text_of : V → List ℕ) (law : (name : List ℕ) → CanonLaw V (spells name) text_of) where
  IsEntry-body : (entry : List ℕ × List ℕ) (field : List ℕ × V) → SpellsEntry spells entry field → IsEntry entry → IsEntry (body_under text_of field)
  IsEntry-body entry field s is =
      let body = (law field.0).is_body entry.1 field.1 (record { shape = is.shape; text = is.text }) s.1 in
      record {
        canonical = subst (λ name. canonical_name name ≡ name) s.0 is.canonical;
        name = subst (λ name. IsTrue (is_name name)) s.0 is.name;
        shape = body.shape;
        text = body.text;
      }

  each_entry : (entries : Entries) (fields : ValueEntries V) → Pairwise (SpellsEntry spells) entries fields → AllByRecursion IsEntry entries → AllByRecursion IsEntry (map (body_under text_of) fields)
  each_entry [] [] s each = tt
  each_entry [] (field ∷ fields) s each = absurd s
  each_entry (entry ∷ entries) [] s each = absurd s
  each_entry (entry ∷ entries) (field ∷ fields) s each = (IsEntry-body entry field s.0 each.0, each_entry entries fields s.1 each.1)

  less_than_each : (name same : List ℕ) → name ≡ same → (entries : Entries) (fields : ValueEntries V) → Pairwise (SpellsEntry spells) entries fields → AllByRecursion (λ other. byte_order name other.0 ≡ Less) entries → AllByRecursion (λ other. byte_order same other.0 ≡ Less) (map (body_under text_of) fields)
  less_than_each name same e [] [] s less = tt
  less_than_each name same e [] (field ∷ fields) s less = absurd s
  less_than_each name same e (entry ∷ entries) [] s less = absurd s
  less_than_each name same e (entry ∷ entries) (field ∷ fields) s less =
      (ap (λ n. byte_order n field.0) (sym e) ∙ ap (byte_order name) (sym s.0.0) ∙ less.0, less_than_each name same e entries fields s.1 less.1)

  ascending : (entries : Entries) (fields : ValueEntries V) → Pairwise (SpellsEntry spells) entries fields → IsAscending entries → IsAscending (map (body_under text_of) fields)
  ascending [] [] s a = tt
  ascending [] (field ∷ fields) s a = absurd s
  ascending (entry ∷ entries) [] s a = absurd s
  ascending (entry ∷ entries) (field ∷ fields) s a = (less_than_each entry.0 field.0 s.0.0 entries fields s.1 a.0, ascending entries fields s.1 a.1)

  some : (entries : Entries) (fields : ValueEntries V) → Pairwise (SpellsEntry spells) entries fields → IsNonempty entries → IsNonempty (map (body_under text_of) fields)
  some [] fields s n = absurd n
  some (entry ∷ entries) [] s n = absurd s
  some (entry ∷ entries) (field ∷ fields) s n = tt

  AreEntries-bodies : (entries : Entries) (fields : ValueEntries V) → Pairwise (SpellsEntry spells) entries fields → AreEntries entries → AreEntries (map (body_under text_of) fields)
  AreEntries-bodies entries fields s are = record {
    some = some entries fields s are.some;
    each = each_entry entries fields s are.each;
    ascending = ascending entries fields s are.ascending;
  }

  pub AreEntries-bodies_of : (bodies : List Entries) (meaning : List (ValueEntries V)) → SpellsEntries spells bodies meaning → AllByRecursion AreEntries bodies → AllByRecursion AreEntries (bodies_of text_of meaning)
  AreEntries-bodies_of [] [] s are = tt
  AreEntries-bodies_of [] (fields ∷ meaning) s are = absurd s
  AreEntries-bodies_of (entries ∷ bodies) [] s are = absurd s
  AreEntries-bodies_of (entries ∷ bodies) (fields ∷ meaning) s are = (AreEntries-bodies entries fields s.0 are.0, AreEntries-bodies_of bodies meaning s.1 are.1)

  paragraph_spelled : (entries : Entries) (fields : ValueEntries V) → Pairwise (SpellsEntry spells) entries fields → Pairwise (SpellsEntry spells) (map (body_under text_of) fields) fields
  paragraph_spelled [] [] s = tt
  paragraph_spelled [] (field ∷ fields) s = absurd s
  paragraph_spelled (entry ∷ entries) [] s = absurd s
  paragraph_spelled (entry ∷ entries) (field ∷ fields) s = ((refl, (law field.0).reads_back entry.1 field.1 s.0.1), paragraph_spelled entries fields s.1)

  -- the canonical bodies spell the values that other bodies spell
  pub bodies_of-spelled : (bodies : List Entries) (meaning : List (ValueEntries V)) → SpellsEntries spells bodies meaning → SpellsEntries spells (bodies_of text_of meaning) meaning
  bodies_of-spelled [] [] s = tt
  bodies_of-spelled [] (fields ∷ meaning) s = absurd s
  bodies_of-spelled (entries ∷ bodies) [] s = absurd s
  bodies_of-spelled (entries ∷ bodies) (fields ∷ meaning) s = (paragraph_spelled entries fields s.0, bodies_of-spelled bodies meaning s.1)

  one_value : (entry : List ℕ × List ℕ) (field other : List ℕ × V) → SpellsEntry spells entry field → SpellsEntry spells entry other → field ≡ other
  one_value entry field other s t =
      let names : field.0 ≡ other.0 = sym s.0 ∙ t.0 in
      let values : field.1 ≡ other.1 = (law field.0).one_meaning entry.1 field.1 other.1 s.1 (subst (λ name. spells name entry.1 other.1) (sym names) t.1) in
      let whole : (field.0, field.1) ≡ (other.0, other.1) = ap (λ name. (name, field.1)) names ∙ ap (λ v. (other.0, v)) values in
      whole

  pub one_paragraph : (entries : Entries) (fields others : ValueEntries V) → Pairwise (SpellsEntry spells) entries fields → Pairwise (SpellsEntry spells) entries others → fields ≡ others
  one_paragraph [] [] [] s t = refl
  one_paragraph [] [] (other ∷ others) s t = absurd t
  one_paragraph [] (field ∷ fields) others s t = absurd s
  one_paragraph (entry ∷ entries) [] others s t = absurd s
  one_paragraph (entry ∷ entries) (field ∷ fields) [] s t = absurd t
  one_paragraph (entry ∷ entries) (field ∷ fields) (other ∷ others) s t =
      ap (λ first. first ∷ fields) (one_value entry field other s.0 t.0) ∙ ap (λ rest. other ∷ rest) (one_paragraph entries fields others s.1 t.1)

  -- bodies spell one list of values at most
  pub one_list : (bodies : List Entries) (meaning other : List (ValueEntries V)) → SpellsEntries spells bodies meaning → SpellsEntries spells bodies other → meaning ≡ other
  one_list [] [] [] s t = refl
  one_list [] [] (others ∷ other) s t = absurd t
  one_list [] (fields ∷ meaning) other s t = absurd s
  one_list (entries ∷ bodies) [] other s t = absurd s
  one_list (entries ∷ bodies) (fields ∷ meaning) [] s t = absurd t
  one_list (entries ∷ bodies) (fields ∷ meaning) (others ∷ other) s t =
      ap (λ first. first ∷ meaning) (one_paragraph entries fields others s.0 t.0) ∙ ap (λ rest. others ∷ rest) (one_list bodies meaning other s.1 t.1)

  -- the value that is under a name where a body is
  pub value_at : (name body : List ℕ) (entries : Entries) (fields : ValueEntries V) → Pairwise (SpellsEntry spells) entries fields → find byte_order name entries ≡ Some body → (v : V) × spells name body v × (find byte_order name fields ≡ Some v)
  value_at name body [] [] s at = absurd (cc)
  value_at name body [] (field ∷ fields) s at = absurd s
  value_at name body (entry ∷ entries) [] s at = absurd s
  value_at name body (entry ∷ entries) (field ∷ fields) s at =
      go (eq_by_cmp byte_order name entry.0) refl (ap (eq_by_cmp byte_order name) (sym s.0.0)) at (value_at name body entries fields s.1)
    where
      go : (b : Bool) → b ≡ eq_by_cmp byte_order name entry.0 → eq_by_cmp byte_order name field.0 ≡ eq_by_cmp byte_order name entry.0 → cond b (Some entry.1) (find byte_order name entries) ≡ Some body → (find byte_order name entries ≡ Some body → (v : V) × spells name body v × (find byte_order name fields ≡ Some v)) → (v : V) × spells name body v × (find byte_order name (field ∷ fields) ≡ Some v)
      go true e same at rest =
          let bodies : entry.1 ≡ body = cc in
          let names : field.0 ≡ name = sym (same_name name entry.0 (sym e) ∙ s.0.0) in
          (field.1, subst (λ n. spells n body field.1) names (subst (λ b. spells field.0 b field.1) bodies s.0.1), rw (same, ← e) refl)
      go false e same at rest =
          let r = rest at in
          (r.0, r.1, rw (same, ← e) r.2)
