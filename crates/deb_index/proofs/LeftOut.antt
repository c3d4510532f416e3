-- Packages of a store that are copied with other numbers, and those that are left where the packages of some names are left out.
use Rattle.std.proofs.Common.{◌≡◌, ℕ, ◌+◌, ◌<◌, Bool, true, false, cond, not, take, drop, get_or, List, [], ◌∷◌, ◌++◌, length, map, refl, sym, ap, ◌∙◌, subst, arith, append-nil, append_assoc}
use Rattle.std.specs.List.{All, AllByRecursion, AllPairs, drop-map, take-map}
use Rattle.std.proofs.lemmas.List.{drop_more, length-map, map-append}
use Rattle.std.proofs.lemmas.List.Elements.{All-append, All-from_recursion, All-weaker, filter_more, recursion_from_All}
use Rattle.std.proofs.lemmas.Simd.{map-map}
use Rattle.deb_version.specs.Places.{version_in}
use Rattle.deb_relation.specs.Applying.{is_among}
use Rattle.deb_index.specs.Entries.{HasNumber, IsIn, Places, entry_name, provision_at}
use Rattle.deb_index.specs.Listed.{Listed, Provision}
use Rattle.deb_index.specs.ProvidedNames.{IsNotAfter}
use Rattle.deb_index.specs.Renumbering.{Copies, left_in, with_entries, with_number}
use Rattle.deb_index.specs.Stores.{IsKept, IsStore, architecture_by, entries_by, line_by, listed_by, name_by, spelling_by, version_by}
use Rattle.deb_index.specs.Without.{counts_left, left_beside, without}
use Rattle.deb_index.specs.declared.store.Record.{Record}
use Rattle.deb_index.specs.declared.store.Store.{Store}
use Rattle.deb_index.proofs.Parts.{part-behind}
use Rattle.deb_index.proofs.Stored.{all-listed, numbered-push, own-in, stays-kept}

-- ---- a package at another place

-- no entry and no package copies none
pub none_copied : (bytes : List ℕ) (others entries : List Places) (records : List Record) → entries ≡ [] → records ≡ [] → Copies bytes others [] entries records
none_copied bytes others entries records no_entries no_records =
    rw (no_entries, no_records)
    (record {
      are_in = All-from_recursion (IsIn bytes) [] tt;
      kept = All-from_recursion (IsKept bytes []) [] tt;
      numbered = λ k d low. absurd (omega (arith, low));
      listed = refl;
      lines = refl;
      spellings = refl;
    })

module _ (bytes : List ℕ) (number : ℕ) where
  each-in : (own : List Places) → AllByRecursion (IsIn bytes) own → AllByRecursion (IsIn bytes) (map (with_number number) own)
  each-in [] all = tt
  each-in (e ∷ own) all = (record { name_end = all.0.name_end; end = all.0.end; faultless = all.0.faultless }, each-in own all.1)

  each-has : (own : List Places) → AllByRecursion (HasNumber number) (map (with_number number) own)
  each-has [] = tt
  each-has (e ∷ own) = (refl, each-has own)

listed-provides : (bytes : List ℕ) (r : Record) {ps qs : List Provision} → ps ≡ qs
    → ◌≡◌ {A = Listed} (record { name = name_by bytes r; version = version_in (version_by bytes r); architecture = architecture_by bytes r; multi_arch = r.multi_arch; provisions = ps })
    (record { name = name_by bytes r; version = version_in (version_by bytes r); architecture = architecture_by bytes r; multi_arch = r.multi_arch; provisions = qs })
listed-provides bytes r e = rw e refl

pushed : {X : Type 0} (of : Record → X) (some records : List Record) (r one : Record) → map of records ≡ map of some → of one ≡ of r → map of (records ++ one ∷ []) ≡ map of (some ++ r ∷ [])
pushed of some records r one same last =
    map-append of records (one ∷ []) ∙ ap (λ l. l ++ of one ∷ []) same ∙ ap (λ x. map of some ++ x ∷ []) last ∙ sym (map-append of some (r ∷ []))

-- one package more
module _ (bytes : List ℕ) (others : List Places) (some : List Record) (entries : List Places) (records : List Record) (copies : Copies bytes others some entries records) (within : All (IsIn bytes) others) (r : Record) (kept : IsKept bytes others r) where
  abbrev own : List Places
  own = entries_by others r

  abbrev more : List Places
  more = map (with_number (length records + 1)) own

  abbrev one : Record
  one = with_entries (length entries) (length (entries ++ more)) r

  own_within : AllByRecursion (IsIn bytes) own
  own_within = recursion_from_All (IsIn bytes) own (own-in bytes others within r)

  more_within : All (IsIn bytes) more
  more_within = All-from_recursion (IsIn bytes) more (each-in bytes (length records + 1) own own_within)

  more_are : entries_by (entries ++ more) one ≡ more
  more_are = part-behind entries more

  one_kept : IsKept bytes (entries ++ more) one
  one_kept = record {
    name_end = kept.name_end;
    version_end = kept.version_end;
    besides_end = kept.besides_end;
    architecture_end = kept.architecture_end;
    entries_end = omega arith;
    version = kept.version;
    spelling = kept.spelling;
    ascend =
        subst (λ es. AllPairs IsNotAfter (map (entry_name bytes) es)) (sym more_are)
        (subst (AllPairs IsNotAfter) (sym (map-map (entry_name bytes) (with_number (length records + 1)) own)) kept.ascend);
  }

  same_listed : listed_by bytes (entries ++ more) one ≡ listed_by bytes others r
  same_listed =
      listed-provides bytes r
      (ap (map (provision_at bytes)) more_are ∙ map-map (provision_at bytes) (with_number (length records + 1)) own)

  stays : All (IsKept bytes (entries ++ more)) records
  stays =
      subst (λ b. All (IsKept b (entries ++ more)) records) (append-nil bytes)
      (All-weaker (IsKept bytes entries) (IsKept (bytes ++ []) (entries ++ more)) (stays-kept bytes [] entries more copies.are_in) records copies.kept)

  listed_stay : map (listed_by bytes (entries ++ more)) records ≡ map (listed_by bytes entries) records
  listed_stay =
      subst (λ b. map (listed_by b (entries ++ more)) records ≡ map (listed_by bytes entries) records) (append-nil bytes)
      (all-listed bytes [] entries more copies.are_in records copies.kept)

  one_more : Copies bytes others (some ++ r ∷ []) (entries ++ more) (records ++ one ∷ [])
  one_more = record {
    are_in = All-append (IsIn bytes) entries more copies.are_in more_within;
    kept = All-append (IsKept bytes (entries ++ more)) records (one ∷ []) stays (All-from_recursion (IsKept bytes (entries ++ more)) (one ∷ []) (one_kept, tt));
    numbered =
        numbered-push bytes entries more records one copies.kept copies.numbered
        (subst (All (HasNumber (length records + 1))) (sym more_are) (All-from_recursion (HasNumber (length records + 1)) more (each-has bytes (length records + 1) own)));
    listed =
        map-append (listed_by bytes (entries ++ more)) records (one ∷ [])
        ∙ ap (λ l. l ++ listed_by bytes (entries ++ more) one ∷ []) (listed_stay ∙ copies.listed)
        ∙ ap (λ p. map (listed_by bytes others) some ++ p ∷ []) same_listed
        ∙ sym (map-append (listed_by bytes others) some (r ∷ []));
    lines = pushed line_by some records r one copies.lines refl;
    spellings = pushed (spelling_by bytes) some records r one copies.spellings refl;
  }

  -- as it is appended
  pub copied_more : (new_entries : List Places) (new_records : List Record) → new_entries ≡ entries ++ more → new_records ≡ records ++ with_entries (length entries) (length new_entries) r ∷ [] → Copies bytes others (some ++ r ∷ []) new_entries new_records
  copied_more new_entries new_records is_entries is_records =
      let last = ap (λ es. records ++ with_entries (length entries) (length es) r ∷ []) is_entries in
      rw (is_entries, is_records ∙ last) one_more

-- ---- the packages that are left

module _ (names : List (List ℕ)) (bytes : List ℕ) (entries : List Places) where
  abbrev view : Record → Listed
  view = listed_by bytes entries

  pub left_listed : (records : List Record) → map view (left_in names bytes records) ≡ without names (map view records)
  left_listed [] = refl
  left_listed (r ∷ records) = go (is_among (name_by bytes r) names) (left_listed records)
    where
      go : (t : Bool) → map view (left_in names bytes records) ≡ without names (map view records)
          → map view (cond (not t) (r ∷ left_in names bytes records) (left_in names bytes records)) ≡ cond (not t) (view r ∷ without names (map view records)) (without names (map view records))
      go true h = h
      go false h = ap (λ l. view r ∷ l) h

  pub left_seen : {X : Type 0} (of : Record → X) (records : List Record) → map of (left_in names bytes records) ≡ left_beside names (map view records) (map of records)
  left_seen of [] = refl
  left_seen of (r ∷ records) = go (is_among (name_by bytes r) names) (left_seen of records)
    where
      go : (t : Bool) → map of (left_in names bytes records) ≡ left_beside names (map view records) (map of records)
          → map of (cond (not t) (r ∷ left_in names bytes records) (left_in names bytes records)) ≡ cond t (left_beside names (map view records) (map of records)) (of r ∷ left_beside names (map view records) (map of records))
      go true h = h
      go false h = ap (λ l. of r ∷ l) h

-- one more of the packages of a store, if it has none of the names, and if it has one
module _ (names : List (List ℕ)) (store : Store) (entries : List Places) (records : List Record) (i : ℕ) (d : Record) (within : i < length store.records.items) (copies : Copies store.bytes.items store.entries.items (left_in names store.bytes.items (take i store.records.items)) entries records) where
  abbrev next : Record
  next = get_or store.records.items i d

  front : (t : Bool) → not (is_among (name_by store.bytes.items next) names) ≡ t → left_in names store.bytes.items (take (i + 1) store.records.items) ≡ left_in names store.bytes.items (take i store.records.items) ++ cond t (next ∷ []) []
  front t e =
      filter_more (λ r. not (is_among (name_by store.bytes.items r) names)) store.records.items i d within
      ∙ ap (λ b. left_in names store.bytes.items (take i store.records.items) ++ cond b (next ∷ []) []) e

  pub left_next : IsStore store → not (is_among (name_by store.bytes.items next) names) ≡ true → (new_entries : List Places) (new_records : List Record)
      → new_entries ≡ entries ++ map (with_number (length records + 1)) (entries_by store.entries.items next)
      → new_records ≡ records ++ with_entries (length entries) (length new_entries) next ∷ []
      → Copies store.bytes.items store.entries.items (left_in names store.bytes.items (take (i + 1) store.records.items)) new_entries new_records
  left_next is is_left new_entries new_records is_entries is_records =
      subst (λ some. Copies store.bytes.items store.entries.items some new_entries new_records) (sym (front true is_left))
      (copied_more store.bytes.items store.entries.items (left_in names store.bytes.items (take i store.records.items)) entries records copies is.entries next (is.records i d within) new_entries new_records is_entries is_records)

  pub out_next : not (is_among (name_by store.bytes.items next) names) ≡ false → Copies store.bytes.items store.entries.items (left_in names store.bytes.items (take (i + 1) store.records.items)) entries records
  out_next is_out =
      subst (λ some. Copies store.bytes.items store.entries.items some entries records)
      (sym (front false is_out ∙ append-nil (left_in names store.bytes.items (take i store.records.items)))) copies

-- one file more is counted
pub counted_next : (names : List (List ℕ)) (bytes : List ℕ) (entries : List Places) (files : List ℕ) (i d : ℕ) (so_far new all : List ℕ) (rest own others : List Record) → i < length files
    → own ≡ take (get_or files i d) rest → others ≡ drop (get_or files i d) rest → new ≡ so_far ++ length (left_in names bytes own) ∷ []
    → so_far ++ counts_left names (drop i files) (map (listed_by bytes entries) rest) ≡ all
    → new ++ counts_left names (drop (i + 1) files) (map (listed_by bytes entries) others) ≡ all
counted_next names bytes entries files i d so_far new all rest own others within own_is others_is new_is before =
    let view = listed_by bytes entries in
    let count = get_or files i d in
    let listed : length (left_in names bytes own) ≡ length (without names (take count (map view rest))) =
    sym (length-map (left_in names bytes own) view) ∙ ap length (left_listed names bytes entries own)
    ∙ ap (λ rs. length (without names (map view rs))) own_is ∙ ap (λ ps. length (without names ps)) (sym (take-map view count rest)) in
    let later : map view others ≡ drop count (map view rest) = ap (map view) others_is ∙ sym (drop-map view count rest) in
    ap (λ l. l ++ counts_left names (drop (i + 1) files) (map view others)) new_is
    ∙ append_assoc so_far (length (left_in names bytes own) ∷ []) (counts_left names (drop (i + 1) files) (map view others))
    ∙ ap (λ n. so_far ++ n ∷ counts_left names (drop (i + 1) files) (map view others)) listed
    ∙ ap (λ ps. so_far ++ length (without names (take count (map view rest))) ∷ counts_left names (drop (i + 1) files) ps) later
    ∙ ap (λ fs. so_far ++ counts_left names fs (map view rest)) (sym (drop_more files i d within))
    ∙ before
