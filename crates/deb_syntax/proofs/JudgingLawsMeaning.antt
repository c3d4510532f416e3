-- A paragraph's meaning is what is under each name: the order of the fields is no part of it.
use Rattle.deb_syntax.proofs.Common.{◌≡◌, ℕ, zero, suc, Bool, true, false, cond, T, List, [], ◌∷◌, refl, sym, ap, ◌∙◌, subst, arith, Option, Some, None, Contains, IsPermutation, or_parts, or_from, same_from_decides, nat_list_cmp_total, Any-from_list_any, Contains-permutation, list_any-IsPermutation, is_eq-slice_cmp, bytes_eq-Decides, insert_entry, put, is_sorted, nat_cmp-IsAntisymmetric, slice_cmp-IsAntisymmetric, find-put, is_sorted-put, same_entries, by_order, list_any, eq_by_cmp, match_ordering, Ordering, Less, Equal, Greater, bytes_eq, folded, canonical_name, canonical_name-from_folded, folded-from_canonical_name, Field, has_name, AreDistinct, Entries, byte_order, entries_after, entries_of, body_at, body_of}
pub use Rattle.deb_syntax.proofs.DistinctNames.{distinct-permutation}

insert_entry-put : (entries : Entries) (k v : List ℕ) → insert_entry byte_order entries k v ≡ put byte_order k v entries
insert_entry-put [] k v = refl
insert_entry-put (e ∷ es) k v = go (byte_order k e.0) (insert_entry-put es k v)
  where
    go : (o : Ordering) → insert_entry byte_order es k v ≡ put byte_order k v es → match_ordering o ((k, v) ∷ e ∷ es) ((e.0, v) ∷ es) (e ∷ insert_entry byte_order es k v) ≡ by_order o ((k, v) ∷ e ∷ es) ((e.0, v) ∷ es) (e ∷ put byte_order k v es)
    go Less h = refl
    go Equal h = refl
    go Greater h = ap (λ fs. e ∷ fs) h

sorted-insert : (entries : Entries) (k v : List ℕ) → T (is_sorted byte_order entries) → T (is_sorted byte_order (insert_entry byte_order entries k v))
sorted-insert entries k v h = subst (λ es. T (is_sorted byte_order es)) (sym (insert_entry-put entries k v)) (is_sorted-put byte_order nat_list_cmp_total k v entries h)

sorted-after : (fields : List Field) (entries : Entries) → T (is_sorted byte_order entries) → T (is_sorted byte_order (entries_after entries fields))
sorted-after [] entries h = h
sorted-after (field ∷ fields) entries h = sorted-after fields (insert_entry byte_order entries (canonical_name field.name) field.body) (sorted-insert entries (canonical_name field.name) field.body h)

-- a meaning's names ascend
pub entries_of-sorted : (fields : List Field) → T (is_sorted byte_order (entries_of fields))
entries_of-sorted fields = sorted-after fields [] tt

-- meanings that have the same under each name are equal
pub entries_of-same : (fields others : List Field) → ((name : List ℕ) → body_at name (entries_of fields) ≡ body_at name (entries_of others)) → entries_of fields ≡ entries_of others
entries_of-same fields others h = same_entries byte_order nat_list_cmp_total (slice_cmp-IsAntisymmetric nat_cmp-IsAntisymmetric) (entries_of fields) (entries_of others) (entries_of-sorted fields) (entries_of-sorted others) h

-- whether the field is under the canonical name
abbrev stands_under : List ℕ → Field → Bool
stands_under q field = eq_by_cmp byte_order q (canonical_name field.name)

-- the body of the last field under the name, or what was there
abbrev last_under : List ℕ → List Field → Option (List ℕ) → Option (List ℕ)
last_under q [] was = was
last_under q (field ∷ fields) was = last_under q fields (cond (stands_under q field) (Some field.body) was)

body_at-after : (fields : List Field) (entries : Entries) (q : List ℕ) → body_at q (entries_after entries fields) ≡ last_under q fields (body_at q entries)
body_at-after [] entries q = refl
body_at-after (field ∷ fields) entries q =
    let k : List ℕ = canonical_name field.name in
    body_at-after fields (insert_entry byte_order entries k field.body) q
    ∙ ap (last_under q fields) (ap (body_at q) (insert_entry-put entries k field.body) ∙ find-put byte_order nat_list_cmp_total q k field.body entries)

stands_under-bytes : (q : List ℕ) (field : Field) → stands_under q field ≡ bytes_eq q (canonical_name field.name)
stands_under-bytes q field = is_eq-slice_cmp q (canonical_name field.name)

stands_under-same : (q : List ℕ) (field : Field) → stands_under q field ≡ true → q ≡ canonical_name field.name
stands_under-same q field h = (bytes_eq-Decides q (canonical_name field.name)).0 (sym (stands_under-bytes q field) ∙ h)

stands_under-name : (name : List ℕ) (field : Field) → stands_under (canonical_name name) field ≡ bytes_eq (folded field.name) (folded name)
stands_under-name name field =
    stands_under-bytes (canonical_name name) field
    ∙ same_from_decides (bytes_eq (canonical_name name) (canonical_name field.name)) (bytes_eq (folded field.name) (folded name)) (
      (λ h. sym (folded-from_canonical_name name field.name ((bytes_eq-Decides (canonical_name name) (canonical_name field.name)).0 h))),
      (λ h. (bytes_eq-Decides (canonical_name name) (canonical_name field.name)).1 (canonical_name-from_folded name field.name (sym h))),
    )
    (bytes_eq-Decides (folded field.name) (folded name))

-- where no field has the name of one, none is where that one does
others_apart : (q : List ℕ) (field : Field) (fields : List Field) → stands_under q field ≡ true → has_name field.name fields ≡ false → list_any (stands_under q) fields ≡ false
others_apart q field [] h none = refl
others_apart q field (f ∷ fields) h none =
    let p = or_parts (bytes_eq (folded f.name) (folded field.name)) (has_name field.name fields) none in
    or_from (stands_under q f) (list_any (stands_under q) fields)
    (ap (λ k. stands_under k f) (stands_under-same q field h) ∙ stands_under-name field.name f ∙ p.0)
    (others_apart q field fields h p.1)

last_under-none : (q : List ℕ) (fields : List Field) (was : Option (List ℕ)) → list_any (stands_under q) fields ≡ false → last_under q fields was ≡ was
last_under-none q [] was h = refl
last_under-none q (f ∷ fields) was h =
    let p = or_parts (stands_under q f) (list_any (stands_under q) fields) h in
    rw p.0 (last_under-none q fields was p.1)

last_under-name : (name : List ℕ) (fields : List Field) → AreDistinct fields → last_under (canonical_name name) fields None ≡ body_of name fields
last_under-name name [] d = refl
last_under-name name (f ∷ fields) d = go (bytes_eq (folded f.name) (folded name)) (stands_under-name name f) (last_under-name name fields d.1)
  where
    go : (t : Bool) → stands_under (canonical_name name) f ≡ t → last_under (canonical_name name) fields None ≡ body_of name fields → last_under (canonical_name name) (f ∷ fields) None ≡ cond t (Some f.body) (body_of name fields)
    go true e rest = rw e (last_under-none (canonical_name name) fields (Some f.body) (others_apart (canonical_name name) f fields e d.0))
    go false e rest = rw e rest

-- under the canonical spelling of a name is the body of the field that has the name
pub body_at-entries_of : (fields : List Field) → AreDistinct fields → (name : List ℕ) → body_at (canonical_name name) (entries_of fields) ≡ body_of name fields
body_at-entries_of fields d name = body_at-after fields [] (canonical_name name) ∙ last_under-name name fields d

last_under-found : (q : List ℕ) (field : Field) (fields : List Field) (was : Option (List ℕ)) → AreDistinct fields → Contains fields field → stands_under q field ≡ true → last_under q fields was ≡ Some field.body
last_under-found q field [] was d c h = absurd (omega (arith, c.1))
last_under-found q field (f ∷ fields) was d (zero, below, is) h =
    ap (λ g. last_under q fields (cond (stands_under q g) (Some g.body) was)) is
    ∙ ap (λ t. last_under q fields (cond t (Some field.body) was)) h
    ∙ last_under-none q fields (Some field.body) (others_apart q field fields h (ap (λ g. has_name g.name fields) (sym is) ∙ d.0))
last_under-found q field (f ∷ fields) was d (suc k, below, is) h = last_under-found q field fields (cond (stands_under q f) (Some f.body) was) d.1 (k, omega arith, is) h

-- the order of distinct fields is no part of the meaning
pub entries_of-permutation : (fields others : List Field) → IsPermutation fields others → AreDistinct fields → entries_of fields ≡ entries_of others
entries_of-permutation fields others p d = entries_of-same fields others (λ q. body_at-after fields [] q ∙ same q (list_any (stands_under q) fields) refl ∙ sym (body_at-after others [] q))
  where
    same : (q : List ℕ) (t : Bool) → list_any (stands_under q) fields ≡ t → last_under q fields None ≡ last_under q others None
    same q false e = last_under-none q fields None e ∙ sym (last_under-none q others None (sym (list_any-IsPermutation (stands_under q) fields others p) ∙ e))
    same q true e =
        let a = Any-from_list_any (stands_under q) fields e in
        let c : Contains fields a.1 = (a.0, a.2, a.3) in
        last_under-found q a.1 fields None d c a.4
        ∙ sym (last_under-found q a.1 others None (distinct-permutation fields others p d) (Contains-permutation fields others a.1 p c) a.4)
