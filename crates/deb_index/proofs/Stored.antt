-- What a store keeps of one package more, and of those before it.
use Rattle.std.proofs.Common.{◌≡◌, ℕ, ◌+◌, ◌-◌, ◌<◌, ◌≤◌, ◌==◌, Bool, true, false, cond, None, drop, get_or, inl, inr, List, [], ◌∷◌, ◌++◌, length, map, refl, sym, ap, ◌∙◌, subst, arith, append_assoc}
use Rattle.std.specs.List.{All, AllByRecursion, AllPairs}
use Rattle.std.proofs.lemmas.Bool.{cases_lt, ne_eqb}
use Rattle.std.proofs.lemmas.List.{get_or_append_left, get_or_push, length-append, length_push, map-append}
use Rattle.std.proofs.lemmas.List.Elements.{All-append, All-drop, All-from_recursion, All-take, All-weaker, recursion_from_All}
use Rattle.std.proofs.lemmas.Simd.{map-map}
use Rattle.std.proofs.lemmas.Slice.Eq.{bytes_eq-Decides}
use Rattle.std.specs.Str.{bytes_eq}
use Rattle.deb_version.specs.Canonical.{version_text}
use Rattle.deb_version.specs.Faults.{first_fault}
use Rattle.deb_version.specs.declared.fault.BadVersion.TheVariants.{Empty}
use Rattle.deb_version.specs.Grammar.{SpellsVersion}
use Rattle.deb_version.specs.Parts.{Meaning as Version}
use Rattle.deb_version.specs.Places.{version_in}
use Rattle.deb_version.proofs.FaultLemmas.{no_fault-from_spells}
use Rattle.deb_version.proofs.KeptVersions.{version_in-spelled}
use Rattle.deb_field.specs.declared.flag.MultiArch.{MultiArch}
use Rattle.std.proofs.Common.{Option, Some}
use Rattle.deb_index.specs.Entries.{AppendsEntries, HasNoFault, HasNumber, IsFaultless, IsIn, Places, entry_name, entry_version, provision_at}
use Rattle.deb_index.specs.Listed.{Listed, Provision, provisions_of}
use Rattle.deb_index.specs.PackageBuilder.{KeepsPackage, PackageTexts}
use Rattle.deb_index.specs.ProvidedNames.{IsNotAfter}
use Rattle.deb_index.specs.Spans.{part}
use Rattle.deb_index.specs.Stores.{IsKept, IsSpelling, IsStore, IsVersionKept, KeepsOneMore, architecture_by, besides_by, entries_by, listed_by, listed_in, name_by, spelling_by, spellings_in, version_by}
use Rattle.deb_index.specs.VersionSpellings.{spelling_or, text_besides}
use Rattle.deb_index.specs.declared.store.Record.{Record}
use Rattle.deb_index.specs.declared.store.Store.{Store}
use Rattle.deb_index.proofs.Parts.{part-append, part-behind}
use Rattle.deb_index.proofs.ProvidedOrder.{names_in, provided_ascend}

listed-same : (n m : List ℕ) (v w : Version) (a b : List ℕ) (x y : Option MultiArch) (ps qs : List Provision) → n ≡ m → v ≡ w → a ≡ b → x ≡ y → ps ≡ qs
    → ◌≡◌ {A = Listed} (record { name = n; version = v; architecture = a; multi_arch = x; provisions = ps }) (record { name = m; version = w; architecture = b; multi_arch = y; provisions = qs })
listed-same n m v w a b x y ps qs e f g h i = rw (e, f, g, h, i) refl

-- more bytes leave an entry as it is
module _ (bytes more : List ℕ) where
  name-stays : (e : Places) → IsIn bytes e → entry_name (bytes ++ more) e ≡ entry_name bytes e
  name-stays e is = part-append e.start e.name_end bytes more is.name_end

  version-stays : (e : Places) → IsIn bytes e → entry_version (bytes ++ more) e ≡ entry_version bytes e
  version-stays e is = part-append e.version e.end bytes more is.end

  provision-stays : (e : Places) → IsIn bytes e → provision_at (bytes ++ more) e ≡ provision_at bytes e
  provision-stays e is = rw (name-stays e is, version-stays e is) refl

  stays-in : (e : Places) → IsIn bytes e → IsIn (bytes ++ more) e
  stays-in e is =
      let long = length-append bytes more in
      record {
        name_end = omega (arith, is.name_end, long);
        end = omega (arith, is.end, long);
        faultless = subst HasNoFault (sym (version-stays e is)) is.faultless;
      }

-- the entries of a package are in the text of all
pub own-in : (bytes : List ℕ) (entries : List Places) → All (IsIn bytes) entries → (r : Record) → All (IsIn bytes) (entries_by entries r)
own-in bytes entries within r = All-take (IsIn bytes) (r.entries_end - r.first) (drop r.first entries) (All-drop (IsIn bytes) r.first entries within)

pub own-faultless : (bytes : List ℕ) (entries : List Places) → All (IsIn bytes) entries → (r : Record) → All (IsFaultless bytes) (entries_by entries r)
own-faultless bytes entries within r = All-weaker (IsIn bytes) (IsFaultless bytes) (λ e is. is.faultless) (entries_by entries r) (own-in bytes entries within r)

map-same : {X Y : Type 0} (P : X → Type 0) (f g : X → Y) → ((x : X) → P x → f x ≡ g x) → (xs : List X) → AllByRecursion P xs → map f xs ≡ map g xs
map-same P f g same [] all = refl
map-same P f g same (x ∷ xs) all = ap (λ y. y ∷ map f xs) (same x all.0) ∙ ap (λ ys. g x ∷ ys) (map-same P f g same xs all.1)

-- more bytes and entries leave a package as it is
module _ (bytes more : List ℕ) (entries others : List Places) (within : All (IsIn bytes) entries) (r : Record) (kept : IsKept bytes entries r) where
  name_stays : name_by (bytes ++ more) r ≡ name_by bytes r
  name_stays = part-append r.start r.name_end bytes more kept.name_end

  version_stays : version_by (bytes ++ more) r ≡ version_by bytes r
  version_stays = part-append r.name_end r.version_end bytes more kept.version_end

  architecture_stays : architecture_by (bytes ++ more) r ≡ architecture_by bytes r
  architecture_stays = part-append r.besides_end r.architecture_end bytes more kept.architecture_end

  pub spelling_stays : spelling_by (bytes ++ more) r ≡ spelling_by bytes r
  spelling_stays =
      ap (λ t. spelling_or t (besides_by (bytes ++ more) r)) version_stays
      ∙ ap (spelling_or (version_by bytes r)) (part-append r.version_end r.besides_end bytes more kept.besides_end)

  entries_stay : entries_by (entries ++ others) r ≡ entries_by entries r
  entries_stay = part-append r.first r.entries_end entries others kept.entries_end

  -- what is seen of its entries
  seen-stays : {Y : Type 0} (f g : Places → Y) → ((e : Places) → IsIn bytes e → f e ≡ g e) → map f (entries_by (entries ++ others) r) ≡ map g (entries_by entries r)
  seen-stays f g same =
      ap (map f) entries_stay ∙ map-same (IsIn bytes) f g same (entries_by entries r) (recursion_from_All (IsIn bytes) (entries_by entries r) (own-in bytes entries within r))

  pub stays-kept : IsKept (bytes ++ more) (entries ++ others) r
  stays-kept =
      let long = length-append bytes more in
      record {
        name_end = omega (arith, kept.name_end, long);
        version_end = omega (arith, kept.version_end, long);
        besides_end = omega (arith, kept.besides_end, long);
        architecture_end = omega (arith, kept.architecture_end, long);
        entries_end = omega (arith, kept.entries_end, length-append entries others);
        version = subst IsVersionKept (sym version_stays) kept.version;
        spelling = subst (λ t. IsSpelling t (spelling_by (bytes ++ more) r)) (sym version_stays) (subst (IsSpelling (version_by bytes r)) (sym spelling_stays) kept.spelling);
        ascend = subst (AllPairs IsNotAfter) (sym (seen-stays (entry_name (bytes ++ more)) (entry_name bytes) (name-stays bytes more))) kept.ascend;
      }

  pub stays-listed : listed_by (bytes ++ more) (entries ++ others) r ≡ listed_by bytes entries r
  stays-listed =
      listed-same _ _ _ _ _ _ _ _ _ _ name_stays (ap version_in version_stays) architecture_stays refl
      (seen-stays (provision_at (bytes ++ more)) (provision_at bytes) (provision-stays bytes more))

-- so all of them stay
module _ (bytes more : List ℕ) (entries others : List Places) (within : All (IsIn bytes) entries) (records : List Record) (all : All (IsKept bytes entries) records) where
  pub all-listed : map (listed_by (bytes ++ more) (entries ++ others)) records ≡ map (listed_by bytes entries) records
  all-listed = map-same (IsKept bytes entries) (listed_by (bytes ++ more) (entries ++ others)) (listed_by bytes entries) (stays-listed bytes more entries others within) records (recursion_from_All (IsKept bytes entries) records all)

  pub all-spelled : map (spelling_by (bytes ++ more)) records ≡ map (spelling_by bytes) records
  all-spelled = map-same (IsKept bytes entries) (spelling_by (bytes ++ more)) (spelling_by bytes) (spelling_stays bytes more entries others within) records (recursion_from_All (IsKept bytes entries) records all)

no_version : first_fault [] ≡ Some Empty
unfolding first_fault
no_version = refl

-- what spells a version is found again from what is kept besides the canonical text
module _ (canonical : List ℕ) (version : Version) where
  nonempty : (text : List ℕ) → SpellsVersion text version → (length text == 0) ≡ false
  nonempty [] s = absurd (go (sym no_version ∙ no_fault-from_spells [] version s))
    where
      go : {A : Type 0} {x : A} → Some x ≡ None → ⊥
      go e = cc
  nonempty (b ∷ bs) s = ne_eqb (length (b ∷ bs)) 0 (λ e. omega (arith, e))

  found_again : (text : List ℕ) → SpellsVersion text version → spelling_or canonical (text_besides canonical text) ≡ text
  found_again text s = go (bytes_eq text canonical) refl
    where
      go : (t : Bool) → bytes_eq text canonical ≡ t → spelling_or canonical (cond t [] text) ≡ text
      go true e = sym ((bytes_eq-Decides text canonical).0 e)
      go false e = ap (λ t. cond t canonical text) (nonempty text s)

-- the entries of packages have their numbers
abbrev pub AreNumbered : List Places → List Record → Type 0
AreNumbered entries records = (k : ℕ) (d : Record) → k < length records → All (HasNumber (k + 1)) (entries_by entries (get_or records k d))

pub numbered-push : (bytes : List ℕ) (entries more : List Places) (records : List Record) (r : Record) → All (IsKept bytes entries) records → AreNumbered entries records → All (HasNumber (length records + 1)) (entries_by (entries ++ more) r) → AreNumbered (entries ++ more) (records ++ r ∷ [])
numbered-push bytes entries more records r kept numbered last k d low =
    elim (cases_lt k (length records)) [
      | inl old ↦
          let q = get_or records k d in
          subst (λ x. All (HasNumber (k + 1)) (entries_by (entries ++ more) x)) (sym (get_or_append_left records (r ∷ []) d k old))
          (subst (All (HasNumber (k + 1))) (sym (part-append q.first q.entries_end entries more (kept k d old).entries_end)) (numbered k d old))
      | inr behind ↦
          let at : length records ≡ k = omega (arith, behind, low, length_push records r) in
          subst (λ x. All (HasNumber (k + 1)) (entries_by (entries ++ more) x)) (sym (get_or_push records r d k at))
          (subst (λ n. All (HasNumber (n + 1)) (entries_by (entries ++ more) r)) at last)
    ]

-- a store of no package
pub no_packages : (store : Store) → store.entries.items ≡ [] → store.records.items ≡ [] → IsStore store
no_packages store entries records = record {
  entries = subst (All (IsIn store.bytes.items)) (sym entries) (All-from_recursion (IsIn store.bytes.items) [] tt);
  records = subst (All (IsKept store.bytes.items store.entries.items)) (sym records) (All-from_recursion (IsKept store.bytes.items store.entries.items) [] tt);
  numbered = subst (λ rs. AreNumbered store.entries.items rs) (sym records) (λ k d low. absurd (omega (arith, low)));
}

-- the texts of one package more, one after another
abbrev pub bytes_with : List ℕ → PackageTexts → List ℕ → List ℕ
bytes_with bytes kept besides = ((((bytes ++ kept.name) ++ kept.version) ++ besides) ++ kept.architecture) ++ kept.provides

abbrev pub record_with : List ℕ → PackageTexts → List ℕ → ℕ → ℕ → ℕ → Record
record_with bytes kept besides first entries_end line =
    record {
      start = length bytes;
      name_end = length (bytes ++ kept.name);
      version_end = length ((bytes ++ kept.name) ++ kept.version);
      besides_end = length (((bytes ++ kept.name) ++ kept.version) ++ besides);
      architecture_end = length ((((bytes ++ kept.name) ++ kept.version) ++ besides) ++ kept.architecture);
      first = first;
      entries_end = entries_end;
      line = line;
      multi_arch = kept.multi_arch;
    }

long-append : {A : Type 0} (xs ys : List A) → length xs ≤ length (xs ++ ys)
long-append xs ys = omega (arith, length-append xs ys)

module _ (bytes : List ℕ) (entries new : List Places) (kept : PackageTexts) (text : List ℕ) (line : ℕ) (p : Listed) (keeps : KeepsPackage kept p) (spells : SpellsVersion text p.version) (number : ℕ) (cut : AppendsEntries (bytes_with bytes kept (text_besides kept.version text)) number entries new (provisions_of keeps.relation)) where
  abbrev besides : List ℕ
  besides = text_besides kept.version text

  abbrev one : List ℕ
  one = bytes ++ kept.name

  abbrev two : List ℕ
  two = one ++ kept.version

  abbrev both : List ℕ
  both = two ++ besides

  abbrev three : List ℕ
  three = both ++ kept.architecture

  abbrev four : List ℕ
  four = three ++ kept.provides

  abbrev r : Record
  r = record_with bytes kept besides (length entries) (length new) line

  name_is : name_by four r ≡ kept.name
  name_is =
      part-append (length bytes) (length one) three kept.provides (omega (arith, long-append one kept.version, long-append two besides, long-append both kept.architecture))
      ∙ part-append (length bytes) (length one) both kept.architecture (omega (arith, long-append one kept.version, long-append two besides))
      ∙ part-append (length bytes) (length one) two besides (long-append one kept.version)
      ∙ part-append (length bytes) (length one) one kept.version (omega arith)
      ∙ part-behind bytes kept.name

  version_is : version_by four r ≡ kept.version
  version_is =
      part-append (length one) (length two) three kept.provides (omega (arith, long-append two besides, long-append both kept.architecture))
      ∙ part-append (length one) (length two) both kept.architecture (long-append two besides)
      ∙ part-append (length one) (length two) two besides (omega arith)
      ∙ part-behind one kept.version

  besides_is : besides_by four r ≡ besides
  besides_is =
      part-append (length two) (length both) three kept.provides (long-append both kept.architecture)
      ∙ part-append (length two) (length both) both kept.architecture (omega arith)
      ∙ part-behind two besides

  spelling_is : spelling_by four r ≡ text
  spelling_is =
      ap (λ t. spelling_or t (besides_by four r)) version_is
      ∙ ap (spelling_or kept.version) besides_is
      ∙ found_again kept.version p.version text spells

  architecture_is : architecture_by four r ≡ kept.architecture
  architecture_is = part-append (length both) (length three) three kept.provides (omega arith) ∙ part-behind both kept.architecture

  entries_are : entries_by new r ≡ cut.more
  entries_are = ap (λ all. part (length entries) (length all) all) cut.appended ∙ part-behind entries cut.more

  version_good : IsVersionKept kept.version
  version_good =
      let same : version_in kept.version ≡ p.version = ap version_in keeps.version ∙ version_in-spelled (version_text p.version) p.version keeps.spelled in
      record {
        faultless = ap first_fault keeps.version ∙ no_fault-from_spells (version_text p.version) p.version keeps.spelled;
        canonical = ap version_text same ∙ sym keeps.version;
      }

  spelling_good : IsSpelling kept.version text
  spelling_good =
      record {
        faultless = no_fault-from_spells text p.version spells;
        canonical = ap version_text (version_in-spelled text p.version spells) ∙ sym keeps.version;
      }

  entries_ascend : AllPairs IsNotAfter (map (entry_name four) cut.more)
  entries_ascend =
      let names : names_in (provisions_of keeps.relation) ≡ map (entry_name four) cut.more = ap names_in (sym cut.provides) ∙ map-map (λ q. q.name) (provision_at four) cut.more in
      subst (AllPairs IsNotAfter) names (provided_ascend keeps.relation keeps.regular)

  new-kept : IsKept four new r
  new-kept =
      record {
        name_end = omega (arith, long-append one kept.version, long-append two besides, long-append both kept.architecture, long-append three kept.provides);
        version_end = omega (arith, long-append two besides, long-append both kept.architecture, long-append three kept.provides);
        besides_end = omega (arith, long-append both kept.architecture, long-append three kept.provides);
        architecture_end = long-append three kept.provides;
        entries_end = omega arith;
        version = subst IsVersionKept (sym version_is) version_good;
        spelling = subst (λ t. IsSpelling t (spelling_by four r)) (sym version_is) (subst (IsSpelling kept.version) (sym spelling_is) spelling_good);
        ascend = subst (λ es. AllPairs IsNotAfter (map (entry_name four) es)) (sym entries_are) entries_ascend;
      }

  new-listed : listed_by four new r ≡ p
  new-listed =
      let version : version_in kept.version ≡ p.version = ap version_in keeps.version ∙ version_in-spelled (version_text p.version) p.version keeps.spelled in
      listed-same _ _ _ _ _ _ _ _ _ _
      (name_is ∙ keeps.name) (ap version_in version_is ∙ version) (architecture_is ∙ keeps.architecture) keeps.multi_arch
      (ap (map (provision_at four)) entries_are ∙ cut.provides ∙ sym keeps.provisions)

  -- the store with the package
  pub keeps_one_more : (old store : Store) → old.bytes.items ≡ bytes → old.entries.items ≡ entries → store.bytes.items ≡ four → store.entries.items ≡ new → store.records.items ≡ old.records.items ++ r ∷ [] → number ≡ length old.records.items + 1 → IsStore old → KeepsOneMore old store p text
  keeps_one_more old store b e is_bytes is_entries is_records is_number is =
      let more : List ℕ = kept.name ++ (kept.version ++ (besides ++ (kept.architecture ++ kept.provides))) in
      let grown : four ≡ old.bytes.items ++ more = reordered bytes kept.name kept.version besides kept.architecture kept.provides ∙ ap (λ l. l ++ more) (sym b) in
      let grown_entries : new ≡ old.entries.items ++ cut.more = cut.appended ∙ ap (λ l. l ++ cut.more) (sym e) in
      record {
        kept = record {
          entries =
              subst (All (IsIn store.bytes.items)) (sym (is_entries ∙ grown_entries))
              (subst (λ l. All (IsIn l) (old.entries.items ++ cut.more)) (sym is_bytes)
              (All-append (IsIn four) old.entries.items cut.more
              (subst (λ l. All (IsIn l) old.entries.items) (sym grown) (All-weaker (IsIn old.bytes.items) (IsIn (old.bytes.items ++ more)) (stays-in old.bytes.items more) old.entries.items is.entries))
              cut.are_in));
          records =
              subst (λ rs. All (IsKept store.bytes.items store.entries.items) rs) (sym is_records)
              (All-append (IsKept store.bytes.items store.entries.items) old.records.items (r ∷ [])
              (subst (λ l. All (IsKept l store.entries.items) old.records.items) (sym (is_bytes ∙ grown)) (subst (λ l. All (IsKept (old.bytes.items ++ more) l) old.records.items) (sym (is_entries ∙ grown_entries))
              (All-weaker (IsKept old.bytes.items old.entries.items) (IsKept (old.bytes.items ++ more) (old.entries.items ++ cut.more)) (stays-kept old.bytes.items more old.entries.items cut.more is.entries) old.records.items is.records)))
              (All-from_recursion (IsKept store.bytes.items store.entries.items) (r ∷ []) (subst (λ l. IsKept l store.entries.items r) (sym is_bytes) (subst (λ l. IsKept four l r) (sym is_entries) new-kept), tt)));
          numbered =
              subst (AreNumbered store.entries.items) (sym is_records) (subst (λ es. AreNumbered es (old.records.items ++ r ∷ [])) (sym (is_entries ∙ grown_entries))
              (numbered-push old.bytes.items old.entries.items cut.more old.records.items r is.records is.numbered
              (subst (λ n. All (HasNumber n) (entries_by (old.entries.items ++ cut.more) r)) is_number (subst (All (HasNumber number)) (sym (ap (λ es. entries_by es r) (sym grown_entries) ∙ entries_are)) cut.numbered))));
        };
        listed =
            ap (map (listed_by store.bytes.items store.entries.items)) is_records
            ∙ map-append (listed_by store.bytes.items store.entries.items) old.records.items (r ∷ [])
            ∙ ap (λ l. l ++ listed_by store.bytes.items store.entries.items r ∷ [])
            (ap (λ l. map (listed_by l store.entries.items) old.records.items) (is_bytes ∙ grown) ∙ ap (λ l. map (listed_by (old.bytes.items ++ more) l) old.records.items) (is_entries ∙ grown_entries)
            ∙ all-listed old.bytes.items more old.entries.items cut.more is.entries old.records.items is.records)
            ∙ ap (λ q. listed_in old ++ q ∷ []) (ap (λ l. listed_by l store.entries.items r) is_bytes ∙ ap (λ l. listed_by four l r) is_entries ∙ new-listed);
        spellings =
            ap (map (spelling_by store.bytes.items)) is_records
            ∙ map-append (spelling_by store.bytes.items) old.records.items (r ∷ [])
            ∙ ap (λ l. l ++ spelling_by store.bytes.items r ∷ [])
            (ap (λ l. map (spelling_by l) old.records.items) (is_bytes ∙ grown) ∙ all-spelled old.bytes.items more old.entries.items cut.more is.entries old.records.items is.records)
            ∙ ap (λ q. spellings_in old ++ q ∷ []) (ap (λ l. spelling_by l r) is_bytes ∙ spelling_is);
      }
    where
      reordered : (b n v t a p : List ℕ) → ((((b ++ n) ++ v) ++ t) ++ a) ++ p ≡ b ++ (n ++ (v ++ (t ++ (a ++ p))))
      reordered b n v t a p = simp append_assoc refl
