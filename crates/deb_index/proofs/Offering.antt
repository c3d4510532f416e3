-- The offers that meet a bound are those of packages that meet an alternative by name and bound.
use Rattle.std.proofs.Common.{◌≡◌, ℕ, Bool, true, false, cond, Bor, IfSome, option_map, ◌&&◌, ◌||◌, is_some, List, [], ◌∷◌, map, Option, None, Some, refl, sym, ap, ◌∙◌, subst}
use Rattle.std.specs.List.{filter, list_any}
use Rattle.std.specs.Option.{option_map_or, unwrap_or}
use Rattle.std.specs.Ordering.{is_eq}
use Rattle.std.specs.Str.{bytes_eq}
use Rattle.std.specs.declared.cmp.Ordering.{Ordering}
use Rattle.std.specs.declared.cmp.Ordering.TheVariants.{Less, Equal as Same, Greater}
use Rattle.std.proofs.lemmas.Bool.{false≢true}
use Rattle.deb_version.specs.Order.{version_cmp}
use Rattle.deb_version.specs.Parts.{Meaning as Version}
use Rattle.deb_relation.specs.Applying.{holds}
use Rattle.deb_relation.specs.Meaning.{Alternative}
use Rattle.deb_relation.specs.declared.operator.Op.{Op}
use Rattle.deb_relation.specs.declared.operator.Op.TheVariants.{Earlier, EarlierEqual, Equal, LaterEqual, Later}
use Rattle.deb_relation.proofs.Mapped.{any-map}
use Rattle.deb_index.specs.Crowds.{AreCrowds, AreMeeting, AreOffers, has_passing, passes}
use Rattle.deb_index.specs.Listed.{Listed, Provision}
use Rattle.deb_index.specs.Maps.{list_under}
use Rattle.deb_index.specs.Meeting.{meets_bound, meets_by_name, provided_meets_bound}
use Rattle.deb_index.specs.Offers.{number_of, offered, side, standing, standing_of}
use Rattle.deb_index.specs.Stores.{listed_in}
use Rattle.deb_index.specs.declared.crowds.Crowds.{Crowds}
use Rattle.deb_index.specs.declared.store.Store.{Store}
use Rattle.deb_index.proofs.Numbered.{numbered-same}

pub any-filter : {X : Type 0} (f g : X → Bool) (xs : List X) → list_any f (filter g xs) ≡ list_any (λ x. g x && f x) xs
any-filter f g [] = refl
any-filter f g (x ∷ xs) = go (g x) ∙ ap (λ b. (g x && f x) || b) (any-filter f g xs)
  where
    go : (v : Bool) → list_any f (cond v (x ∷ filter g xs) (filter g xs)) ≡ ((v && f x) || list_any f (filter g xs))
    go true = refl
    go false = refl

pub any-same : {X : Type 0} (f g : X → Bool) → ((x : X) → f x ≡ g x) → (xs : List X) → list_any f xs ≡ list_any g xs
any-same f g same [] = refl
any-same f g same (x ∷ xs) = ap (λ b. b || list_any f xs) (same x) ∙ ap (λ b. g x || b) (any-same f g same xs)

and-false : (b : Bool) → (b && false) ≡ false
and-false true = refl
and-false false = refl

-- a version stands among those that meet a bound if it meets the bound
side-eq : (op : Op) (order : Ordering) → is_eq (side op order) ≡ holds op order
side-eq Earlier Less = refl
side-eq Earlier Same = refl
side-eq Earlier Greater = refl
side-eq EarlierEqual Less = refl
side-eq EarlierEqual Same = refl
side-eq EarlierEqual Greater = refl
side-eq Equal Less = refl
side-eq Equal Same = refl
side-eq Equal Greater = refl
side-eq LaterEqual Less = refl
side-eq LaterEqual Same = refl
side-eq LaterEqual Greater = refl
side-eq Later Less = refl
side-eq Later Same = refl
side-eq Later Greater = refl

module _ (bound : Op × Version) where
  abbrev pub meets_it : Version → Bool
  meets_it version = holds bound.0 (version_cmp version bound.1)

  version-eq : (v : Option Version) → is_eq (standing_of bound v) ≡ option_map_or meets_it v false
  version-eq None = refl
  version-eq (Some version) = side-eq bound.0 (version_cmp version bound.1)

  with_test : (t : Bool) (v : Option Version) → (option_map_or meets_it v false && t) ≡ option_map_or (λ w. meets_it w && t) v false
  with_test t None = refl
  with_test t (Some v) = refl

  -- the name in a version that meets the bound, by name and bound
  provided-bound : (v : Option Version) → option_map_or meets_it v false ≡ provided_meets_bound (Some bound) v
  provided-bound None = refl
  provided-bound (Some v) = refl

  has-bound : (name : List ℕ) (p : Listed) → has_passing name meets_it p ≡ ((bytes_eq p.name name && meets_bound (Some bound) p.version) || list_any (λ q. bytes_eq q.name name && provided_meets_bound (Some bound) q.version) p.provisions)
  has-bound name p = ap (λ b. (bytes_eq p.name name && meets_it p.version) || b) (any-same (λ q. bytes_eq q.name name && option_map_or meets_it q.version false) (λ q. bytes_eq q.name name && provided_meets_bound (Some bound) q.version) (λ q. ap (λ b. bytes_eq q.name name && b) (provided-bound q.version)) p.provisions)

  has-named : (a : Alternative) (p : Listed) → a.bound ≡ Some bound → has_passing a.name meets_it p ≡ meets_by_name a p
  has-named a p is = has-bound a.name p ∙ ap (λ b. (bytes_eq p.name a.name && meets_bound b p.version) || list_any (λ q. bytes_eq q.name a.name && provided_meets_bound b q.version) p.provisions) (sym is)

  -- a test beside that of the version
  none-passes : (name : List ℕ) (provisions : List Provision) → list_any (λ q. bytes_eq q.name name && option_map_or (λ w. meets_it w && false) q.version false) provisions ≡ false
  none-passes name [] = refl
  none-passes name (q ∷ provisions) =
      ap (λ b. (bytes_eq q.name name && b) || list_any (λ q. bytes_eq q.name name && option_map_or (λ w. meets_it w && false) q.version false) provisions) (never q.version)
      ∙ ap (λ b. b || list_any (λ q. bytes_eq q.name name && option_map_or (λ w. meets_it w && false) q.version false) provisions) (and-false (bytes_eq q.name name))
      ∙ none-passes name provisions
    where
      never : (v : Option Version) → option_map_or (λ w. meets_it w && false) v false ≡ false
      never None = refl
      never (Some w) = and-false (meets_it w)

  and-true : (b : Bool) → (b && true) ≡ b
  and-true true = refl
  and-true false = refl

  always : (v : Option Version) → option_map_or (λ w. meets_it w && true) v false ≡ option_map_or meets_it v false
  always None = refl
  always (Some w) = and-true (meets_it w)

  beside : (name : List ℕ) (t : Bool) (p : Listed) → has_passing name (λ w. meets_it w && t) p ≡ (t && has_passing name meets_it p)
  beside name true p =
      ap (λ b. (bytes_eq p.name name && b) || list_any (λ q. bytes_eq q.name name && option_map_or (λ w. meets_it w && true) q.version false) p.provisions) (and-true (meets_it p.version))
      ∙ ap (λ b. (bytes_eq p.name name && meets_it p.version) || b) (any-same (λ q. bytes_eq q.name name && option_map_or (λ w. meets_it w && true) q.version false) (λ q. bytes_eq q.name name && option_map_or meets_it q.version false) (λ q. ap (λ b. bytes_eq q.name name && b) (always q.version)) p.provisions)
  beside name false p =
      ap (λ b. (bytes_eq p.name name && b) || list_any (λ q. bytes_eq q.name name && option_map_or (λ w. meets_it w && false) q.version false) p.provisions) (and-false (meets_it p.version))
      ∙ ap (λ b. b || list_any (λ q. bytes_eq q.name name && option_map_or (λ w. meets_it w && false) q.version false) p.provisions) (and-false (bytes_eq p.name name))
      ∙ none-passes name p.provisions

  -- an offer is among those that meet the bound
  abbrev meets_bound_of : Store → ℕ → Bool
  meets_bound_of store o = is_eq (standing store bound o)

  are_meeting : (a : Alternative) (store : Store) (offers : List ℕ) → a.bound ≡ Some bound → AreOffers store a.name offers → AreMeeting a (listed_in store) (map (number_of store) (filter (meets_bound_of store) offers))
  are_meeting a store offers is are = λ test.
      let asked : ℕ → Version → Bool = λ n w. meets_it w && test n in
      sym (any-map (number_of store) test (filter (meets_bound_of store) offers))
      ∙ any-filter (λ o. test (number_of store o)) (meets_bound_of store) offers
      ∙ any-same (λ o. meets_bound_of store o && test (number_of store o)) (passes asked store) (λ o. ap (λ b. b && test (number_of store o)) (version-eq (offered store o)) ∙ with_test (test (number_of store o)) (offered store o)) offers
      ∙ are.all asked
      ∙ numbered-same (λ n p. has_passing a.name (asked n) p) (λ n p. test n && meets_by_name a p) (λ n p. beside a.name (test n) p ∙ ap (λ b. test n && b) (has-named a p is)) 1 (listed_in store)

  if_kept : (a : Alternative) (store : Store) (kept : Option (List ℕ)) (found : List ℕ) → a.bound ≡ Some bound → ((offers : List ℕ) → kept ≡ Some offers → AreOffers store a.name offers) → option_map (filter (meets_bound_of store)) kept ≡ Some found → AreMeeting a (listed_in store) (map (number_of store) found)
  if_kept a store None found is are e = absurd (false≢true (ap is_some e))
  if_kept a store (Some offers) found is are e = subst (λ l. AreMeeting a (listed_in store) (map (number_of store) l)) (ap (λ o. unwrap_or o found) e) (are_meeting a store offers is (are offers refl))

  pub if_meeting : (a : Alternative) (store : Store) (crowds : Crowds) (name : List ℕ) (result : Option (Bor (List ℕ))) → a.bound ≡ Some bound → name ≡ a.name → AreCrowds store crowds
      → IfSome result (λ found. option_map (filter (meets_bound_of store)) (list_under crowds.offers name) ≡ Some found.now)
      → IfSome result (λ found. AreMeeting a (listed_in store) (map (number_of store) found.now))
  if_meeting a store crowds name None is named are given = given
  if_meeting a store crowds name (Some found) is named are given = if_kept a store (list_under crowds.offers a.name) found.now is (are a.name) (ap (λ l. option_map (filter (meets_bound_of store)) (list_under crowds.offers l)) (sym named) ∙ given)
