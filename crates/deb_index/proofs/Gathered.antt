-- The offers that were gathered under a name are the versions of all packages that have or provide it.
use Rattle.std.proofs.Common.{◌≡◌, ℕ, ◌+◌, ◌-◌, ◌<◌, ◌≤◌, ◌==◌, Bool, true, false, cond, ◌&&◌, ◌||◌, List, [], ◌∷◌, ◌++◌, length, map, take, drop, get_or, length-drop, length-take-le, get_or-take, get_or-drop, slice_get, option_map, Option, None, Some, Vec, refl, sym, ap, ◌∙◌, subst, arith}
use Rattle.std.specs.List.{All, AllByRecursion, filter, list_any}
use Rattle.std.specs.Option.{option_and_then, option_map_or, unwrap_or}
use Rattle.std.specs.Str.{bytes_eq}
use Rattle.std.proofs.lemmas.List.{length-map}
use Rattle.std.proofs.lemmas.List.Elements.{recursion_from_All}
use Rattle.std.proofs.lemmas.List.Folds.{list_any-append, list_any_more}
use Rattle.std.proofs.lemmas.Option.{slice_get-get_or, slice_get-map}
use Rattle.std.proofs.lemmas.Slice.Eq.{bytes_eq-Decides}
use Rattle.indexmap.specs.IndexMap.{IndexMap, UpdatesBy}
use Rattle.deb_version.specs.Parts.{Meaning as Version}
use Rattle.deb_version.specs.Places.{version_in}
use Rattle.deb_relation.proofs.Mapped.{any-map}
use Rattle.deb_index.specs.Crowds.{AppendsOffers, AreOffers, any_numbered, has_passing, passes, provides_passing}
use Rattle.deb_index.specs.Entries.{HasNumber, Places, entry_name, entry_version, provision_at, version_kept}
use Rattle.deb_index.specs.Listed.{Listed}
use Rattle.deb_index.specs.Maps.{list_under}
use Rattle.deb_index.specs.Named.{AreNumbers, has_name, numbers_of, passes_at, provides}
use Rattle.deb_index.specs.Offers.{offered}
use Rattle.deb_index.specs.Spans.{part}
use Rattle.deb_index.specs.Stores.{IsKept, IsStore, entries_by, listed_by, listed_in, version_by}
use Rattle.deb_index.specs.declared.store.Record.{Record}
use Rattle.deb_index.specs.declared.store.Store.{Store}
use Rattle.deb_index.proofs.Lookups.{list_updated}
use Rattle.deb_index.proofs.Numbered.{numbered-asked, numbered-either, numbered-same}
use Rattle.deb_index.proofs.Offering.{any-filter}
use Rattle.deb_index.proofs.Owners.{entry-number, entry-version, own-number, own-version, version_kept-none}
use Rattle.deb_index.proofs.Picked.{numbers-listed}

or-false : (b : Bool) → (b || false) ≡ b
or-false true = refl
or-false false = refl

or-assoc : (a b c : Bool) → ((a || b) || c) ≡ (a || (b || c))
or-assoc true b c = refl
or-assoc false b c = refl

pub any-push : {X : Type 0} (f : X → Bool) (xs : List X) (x : X) → list_any f (xs ++ x ∷ []) ≡ (list_any f xs || f x)
any-push f xs x = list_any-append f xs (x ∷ []) ∙ ap (λ b. list_any f xs || b) (or-false (f x))

-- the entries of a name that a package has, where these begin at a place
module _ (store : Store) (is : IsStore store) (number : ℕ) (r : Record) (some : 1 ≤ number) (within : number ≤ length store.records.items) (at : get_or store.records.items (number - 1) r ≡ r) (start : ℕ) (named : List Places)
    (fits : start + length named ≤ length (entries_by store.entries.items r)) (place : named ≡ part start (start + length named) (entries_by store.entries.items r)) where
  index_within : number - 1 < length store.records.items
  index_within = omega (arith, some, within)

  kept : IsKept store.bytes.items store.entries.items r
  kept = subst (IsKept store.bytes.items store.entries.items) at (is.records (number - 1) r index_within)

  own_length : length (entries_by store.entries.items r) ≡ r.entries_end - r.first
  own_length = length-take-le (r.entries_end - r.first) (drop r.first store.entries.items) (omega (arith, length-drop r.first store.entries.items, kept.entries_end))

  own_found : (i : ℕ) (d : Places) → i < length named → get_or (entries_by store.entries.items r) (start + i) d ≡ get_or named i d
  own_found i d low =
      let own = entries_by store.entries.items r in
      sym (ap (λ l. get_or l i d) place ∙ get_or-take (start + length named - start) (drop start own) i d (omega (arith, low)) ∙ get_or-drop start own i d)

  entry-found : (i : ℕ) (d : Places) → i < length named → slice_get store.entries.items (r.first + start + i) ≡ Some (get_or named i d)
  entry-found i d low =
      let es = store.entries.items in
      let inside : start + i < r.entries_end - r.first = omega (arith, low, fits, own_length) in
      slice_get-get_or es (r.first + start + i) d (omega (arith, inside, kept.entries_end))
      ∙ ap (λ n. Some (get_or es n d)) (omega arith)
      ∙ ap Some (sym (get_or-take (r.entries_end - r.first) (drop r.first es) (start + i) d inside ∙ get_or-drop r.first es (start + i) d) ∙ own_found i d low)

  entry-number-is : (i : ℕ) (d : Places) → i < length named → (get_or named i d).number ≡ number
  entry-number-is i d low =
      let own = entries_by store.entries.items r in
      let numbered = subst (λ q. All (HasNumber (number - 1 + 1)) (entries_by store.entries.items q)) at (is.numbered (number - 1) r index_within) in
      ap (λ e. e.number) (sym (own_found i d low)) ∙ numbered (start + i) d (omega (arith, low, fits)) ∙ omega (arith, some)

  -- the offer of one of them
  offer-passes : (test : ℕ → Version → Bool) (o i : ℕ) (d : Places) → o ≡ length store.records.items + r.first + start + i → i < length named
      → passes test store o ≡ option_map_or (test number) (version_kept (entry_version store.bytes.items (get_or named i d))) false
  offer-passes test o i d is_offer low =
      let beyond : length store.records.items ≤ o = omega (arith, is_offer) in
      let index : o - length store.records.items ≡ r.first + start + i = omega (arith, is_offer) in
      let found = ap (slice_get store.entries.items) index ∙ entry-found i d low in
      let numbered = entry-number store o beyond ∙ ap (λ e. option_map_or (λ e. e.number) e 0) found ∙ entry-number-is i d low in
      let version_of : Places → Option Version = λ e. version_kept (entry_version store.bytes.items e) in
      ap (λ m. option_map_or (test m) (offered store o) false) numbered
      ∙ ap (λ v. option_map_or (test number) v false) (entry-version store o beyond ∙ ap (option_and_then version_of) found)

  -- a step over them
  module _ (test : ℕ → Version → Bool) (old before : List ℕ) (i : ℕ) (low : i < length named) where
    abbrev passing : Places → Bool
    passing e = option_map_or (test number) (version_kept (entry_version store.bytes.items e)) false

    more : (d : Places) → (before_is : list_any (passes test store) before ≡ (list_any (passes test store) old || list_any passing (take i named))) → (list_any (passes test store) before || passing (get_or named i d)) ≡ (list_any (passes test store) old || list_any passing (take (i + 1) named))
    more d before_is =
        ap (λ b. b || passing (get_or named i d)) before_is
        ∙ or-assoc (list_any (passes test store) old) (list_any passing (take i named)) (passing (get_or named i d))
        ∙ ap (λ b. list_any (passes test store) old || b) (sym (list_any_more passing named i d low))

    pub one-more : (after : List ℕ) (o : ℕ) → after ≡ before ++ o ∷ [] → o ≡ length store.records.items + r.first + start + i
        → list_any (passes test store) before ≡ (list_any (passes test store) old || list_any passing (take i named))
        → list_any (passes test store) after ≡ (list_any (passes test store) old || list_any passing (take (i + 1) named))
    one-more after o pushed is_offer before_is =
        let d : Places = record { start = 0; name_end = 0; version = 0; end = 0; number = number } in
        ap (list_any (passes test store)) pushed ∙ any-push (passes test store) before o
        ∙ ap (λ b. list_any (passes test store) before || b) (offer-passes test o i d is_offer low) ∙ more d before_is

    pub none-more : (d : Places) (version : List ℕ) → version ≡ entry_version store.bytes.items (get_or named i d) → (length version == 0) ≡ true
        → list_any (passes test store) before ≡ (list_any (passes test store) old || list_any passing (take i named))
        → list_any (passes test store) before ≡ (list_any (passes test store) old || list_any passing (take (i + 1) named))
    none-more d version version_is none before_is =
        sym (or-false (list_any (passes test store) before))
        ∙ ap (λ b. list_any (passes test store) before || b) (sym (ap (λ v. option_map_or (test number) v false) (ap version_kept (sym version_is) ∙ version_kept-none version none)))
        ∙ more d before_is

  -- all of them are what the package provides under the name
  pub all-named : (name : List ℕ) (test : Version → Bool) → named ≡ filter (λ e. bytes_eq (entry_name store.bytes.items e) name) (entries_by store.entries.items r)
      → list_any (λ e. option_map_or test (version_kept (entry_version store.bytes.items e)) false) named ≡ passes_at (provides_passing name test) (listed_in store) number
  all-named name test are =
      let bytes = store.bytes.items in
      let view = listed_by bytes store.entries.items in
      let has_name : Places → Bool = λ e. bytes_eq (entry_name bytes e) name in
      let passing : Places → Bool = λ e. option_map_or test (version_kept (entry_version bytes e)) false in
      let one : slice_get store.records.items (number - 1) ≡ Some r = slice_get-get_or store.records.items (number - 1) r index_within ∙ ap Some at in
      ap (list_any passing) are ∙ any-filter passing has_name (entries_by store.entries.items r)
      ∙ any-map (provision_at bytes) (λ q. bytes_eq q.name name && option_map_or test q.version false) (entries_by store.entries.items r)
      ∙ sym (ap (λ o. option_map_or (provides_passing name test) o false) (slice_get-map view store.records.items (number - 1) ∙ ap (option_map view) one))

-- tests that answer alike on what a list has
any-alike : {X : Type 0} (P : X → Type 0) (f g : X → Bool) → ((x : X) → P x → f x ≡ g x) → (xs : List X) → AllByRecursion P xs → list_any f xs ≡ list_any g xs
any-alike P f g same [] all = refl
any-alike P f g same (x ∷ xs) all = ap (λ b. b || list_any f xs) (same x all.0) ∙ ap (λ b. g x || b) (any-alike P f g same xs all.1)

-- the own versions of packages
module _ (store : Store) (test : ℕ → Version → Bool) where
  abbrev view : Record → Listed
  view = listed_by store.bytes.items store.entries.items

  own-passes : (k : ℕ) → (1 ≤ k) × (k ≤ length (listed_in store)) → passes test store (k - 1) ≡ passes_at (λ p. test k p.version) (listed_in store) k
  own-passes k is =
      let within : k - 1 < length store.records.items = omega (arith, is.0, is.1, length-map store.records.items view) in
      ap (λ m. option_map_or (test m) (offered store (k - 1)) false) (own-number store (k - 1) within ∙ omega (arith, is.0))
      ∙ ap (λ o. option_map_or (test k) o false) (own-version store (k - 1) within)
      ∙ go (slice_get store.records.items (k - 1))
      ∙ ap (λ o. option_map_or (λ p. test k p.version) o false) (sym (slice_get-map view store.records.items (k - 1)))
    where
      go : (o : Option Record) → option_map_or (test k) (option_map (λ r. version_in (version_by store.bytes.items r)) o) false ≡ option_map_or (λ p. test k p.version) (option_map view o) false
      go None = refl
      go (Some r) = refl

  all-own : (numbers : List ℕ) → AreNumbers (listed_in store) numbers → list_any (passes test store) (map (λ k. k - 1) numbers) ≡ list_any (λ k. passes_at (λ p. test k p.version) (listed_in store) k) numbers
  all-own numbers are =
      sym (any-map (λ k. k - 1) (passes test store) numbers)
      ∙ any-alike (λ k. (1 ≤ k) × (k ≤ length (listed_in store))) (λ k. passes test store (k - 1)) (λ k. passes_at (λ p. test k p.version) (listed_in store) k) own-passes numbers (recursion_from_All (λ k. (1 ≤ k) × (k ≤ length (listed_in store))) numbers are)

-- what some element passes and some passes with another test
both-any : {X : Type 0} (f g : X → Bool) (xs : List X) → (list_any f xs && list_any (λ x. f x && g x) xs) ≡ list_any (λ x. f x && g x) xs
both-any f g [] = refl
both-any f g (x ∷ xs) = go (f x) (list_any f xs) (both-any f g xs)
  where
    go : (v some : Bool) → (some && list_any (λ x. f x && g x) xs) ≡ list_any (λ x. f x && g x) xs → ((v || some) && ((v && g x) || list_any (λ x. f x && g x) xs)) ≡ ((v && g x) || list_any (λ x. f x && g x) xs)
    go true some rest = refl
    go false some rest = rest

-- all versions under a name: those of the packages that have it, and of those that provide it
pub gathered : (store : Store) (name having providing own all : List ℕ) → having ≡ numbers_of (has_name name) (listed_in store) → providing ≡ numbers_of (provides name) (listed_in store) → own ≡ map (λ k. k - 1) having
    → AppendsOffers store own all (λ test. list_any (λ k. passes_at (provides_passing name (test k)) (listed_in store) k) providing)
    → (test : ℕ → Version → Bool) → list_any (passes test store) all ≡ any_numbered (λ n p. has_passing name (test n) p) 1 (listed_in store)
gathered store name having providing own all have provide own_is appends test =
    let packages = listed_in store in
    let provided : ℕ → Listed → Bool = λ k p. provides_passing name (test k) p in
    let had : ℕ → Listed → Bool = λ k p. test k p.version in
    appends test
    ∙ ap (λ b. b || list_any (λ k. passes_at (provided k) packages k) providing)
    (ap (list_any (passes test store)) own_is
    ∙ all-own store test having (subst (AreNumbers packages) (sym have) (numbers-listed (has_name name) packages))
    ∙ ap (list_any (λ k. passes_at (had k) packages k)) have
    ∙ numbered-asked (has_name name) had packages)
    ∙ ap (λ b. any_numbered (λ k p. has_name name p && had k p) 1 packages || b)
    (ap (list_any (λ k. passes_at (provided k) packages k)) provide
    ∙ numbered-asked (provides name) provided packages
    ∙ numbered-same (λ k p. provides name p && provided k p) provided (λ k p. both-any (λ q. bytes_eq q.name name) (λ q. option_map_or (test k) q.version false) p.provisions) 1 packages)
    ∙ numbered-either (λ k p. has_name name p && had k p) provided 1 packages

-- what is kept under each name, with one more list of offers
pub kept_more : {A B S : Type 0} (store : Store) (bs : List ℕ) (old new : IndexMap (Vec ℕ A) (Vec ℕ B) S) (more : Vec ℕ B) → UpdatesBy (λ x y. bytes_eq x.items y.items) (λ k. bytes_eq bs k.items) old new (Some more) → AreOffers store bs more.items
    → ((name offers : List ℕ) → list_under old name ≡ Some offers → AreOffers store name offers) → (name offers : List ℕ) → list_under new name ≡ Some offers → AreOffers store name offers
kept_more store bs old new more updates are kept name offers is = go (bytes_eq bs name) refl (sym (list_updated bs old new more more.items updates refl name) ∙ is)
  where
    go : (same : Bool) → bytes_eq bs name ≡ same → cond same (Some more.items) (list_under old name) ≡ Some offers → AreOffers store name offers
    go true e has = subst (λ l. AreOffers store l offers) ((bytes_eq-Decides bs name).0 e) (subst (AreOffers store bs) (ap (λ o. unwrap_or o offers) has) are)
    go false e has = kept name offers has
