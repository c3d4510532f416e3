-- Worked cases of what the contracts see of the scope in the code's values, which are written out
-- here: the packages of an index, those of an old one, and the names that are left out.
use Rattle.std.specs.Prelude.{◌≡◌, ◌^◌, ℕ, nat_lt, true, List, [], ◌∷◌, length, map, None, Some, codes, refl}
use Rattle.std.proofs.Common.{ap, ◌∙◌}
use Rattle.deb_base.specs.Literals.{lent, vector}
use Rattle.deb_relation.specs.declared.environment.Env.{Env}
use Rattle.deb_version.specs.Places.{version_in}
use Rattle.deb_index.specs.Listed.{Listed}
use Rattle.deb_index.specs.Stores.{listed_in}
use Rattle.deb_index.specs.declared.index.Index.{Index}
use Rattle.deb_index.specs.declared.store.Store.{Store}
use Rattle.deb_unmet.specs.Own.{own_scope}
use Rattle.deb_unmet.specs.Scopes.{old_packages, scope_of}

-- a package whose name has two letters, and whose version has one
abbrev store_of : (text : List ℕ) → nat_lt (length text) (2 ^ 63) ≡ true → Store
store_of text short =
    record {
      bytes = vector text short;
      entries = vector [] refl;
      records = vector
          (record {
            start = 0;
            name_end = 2;
            version_end = 3;
            besides_end = 3;
            architecture_end = length text;
            first = 0;
            entries_end = 0;
            line = 1;
            multi_arch = None;
          } ∷ [])
          refl;
      files = vector (1 ∷ []) refl;
    }

abbrev new_store : Store
new_store = store_of (codes "aa2all") refl

abbrev old_store : Store
old_store = store_of (codes "bb1i386") refl

abbrev aa : Listed
aa = record {
  name = codes "aa";
  version = version_in (codes "2");
  architecture = codes "all";
  multi_arch = None;
  provisions = [];
}

abbrev bb : Listed
bb = record {
  name = codes "bb";
  version = version_in (codes "1");
  architecture = codes "i386";
  multi_arch = None;
  provisions = [];
}

-- no old index, and one
worked-old_packages : (index : Index) → index.store ≡ old_store
    → map old_packages (None ∷ Some (lent index) ∷ []) ≡ None ∷ Some (bb ∷ []) ∷ []
worked-old_packages index = ap (λ store. None ∷ Some (listed_in store) ∷ [])

-- over an index, without an old one and names, and with them
worked-plain : (index : Index) (environment : Env) → index.store ≡ new_store
    → scope_of (record {
      index = lent index;
      unless = None;
      without = lent [];
      environment = lent environment;
    }) ≡ record { packages = aa ∷ []; unless = None; without = [] }
worked-plain index environment =
    ap (λ store. record { packages = listed_in store; unless = None; without = [] })

worked-scope_of : (index old : Index) (environment : Env) → index.store ≡ new_store
    → old.store ≡ old_store
    → scope_of (record {
      index = lent index;
      unless = Some (lent old);
      without = lent (lent (codes "cc") ∷ lent (codes "dd") ∷ []);
      environment = lent environment;
    }) ≡ record {
      packages = aa ∷ [];
      unless = Some (bb ∷ []);
      without = codes "cc" ∷ codes "dd" ∷ [];
    }
worked-scope_of index old environment is old_is =
    ap (λ store. record {
      packages = listed_in store;
      unless = Some (listed_in old.store);
      without = codes "cc" ∷ codes "dd" ∷ [];
    }) is
    ∙ ap (λ store. record {
      packages = aa ∷ [];
      unless = Some (listed_in store);
      without = codes "cc" ∷ codes "dd" ∷ [];
    }) old_is

-- over packages that were listed before, without an old index and with one, and without a name
worked-own_scope : (old : Index) (environment : Env) → old.store ≡ old_store
    → map
    (λ unless. own_scope (aa ∷ [])
    (record {
      environment = lent environment;
      unless = unless;
      without = lent (lent (codes "cc") ∷ []);
    })) (None ∷ Some (lent old) ∷ [])
    ≡ record { packages = aa ∷ []; unless = None; without = codes "cc" ∷ [] }
    ∷ record { packages = aa ∷ []; unless = Some (bb ∷ []); without = codes "cc" ∷ [] } ∷ []
worked-own_scope old environment =
    ap (λ store. map
    (λ unless. record { packages = aa ∷ []; unless = unless; without = codes "cc" ∷ [] })
    (None ∷ Some (listed_in store) ∷ []))
