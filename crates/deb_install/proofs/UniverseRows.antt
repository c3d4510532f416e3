-- Rows in a universe, and those of source packages after those of packages.
use Rattle.std.proofs.Common.{◌≡◌, ℕ, List, [], ◌∷◌, ◌++◌, map, append-nil, append_assoc, sym, ap, ◌∙◌, subst}
use Rattle.std.proofs.lemmas.List.{map-append}
use Rattle.deb_field.specs.Values.{ValueMeaning}
use Rattle.deb_control.specs.Documents.{Meaning}
use Rattle.deb_control.specs.Pairs.{Pairwise}
use Rattle.deb_control.specs.ValueFiles.{ValueEntries}
use Rattle.deb_control.proofs.GivenValues.{pairwise-push}
use Rattle.deb_solve.specs.declared.universe.Universe.{Universe}
use Rattle.deb_install.specs.Building.{AreNumbersOf, Grows}
use Rattle.deb_install.specs.SourceRows.{AppendsSource, AppendsSources, AreRowsWith, IsUniverseWith, barred_in, built_in}
use Rattle.deb_install.specs.Universes.{AreKnownIn, AreUniverseRows, IsUniverseOf, Setting}
use Rattle.deb_install.specs.declared.universe.Building.{Building}
use Rattle.deb_install.proofs.Appended.{grows-none, grows-then, numbers-grown}

module _ (s : Setting) where
  pub rows-moved : (u : Universe) (b : Building) → u.needs ≡ b.needs → u.groups ≡ b.groups.rows → u.excludes ≡ b.excludes → AreUniverseRows s s.values b.needs b.groups.rows b.excludes → IsUniverseOf s u
  rows-moved u b needs groups excludes are =
      subst (λ n. AreUniverseRows s s.values n u.groups u.excludes) (sym needs)
      (subst (λ g. AreUniverseRows s s.values b.needs g u.excludes) (sym groups)
      (subst (AreUniverseRows s s.values b.needs b.groups.rows) (sym excludes) are))

  pub with-moved : (others : Meaning) (u : Universe) (b : Building) → u.needs ≡ b.needs → u.groups ≡ b.groups.rows → u.excludes ≡ b.excludes → AreRowsWith s others b.needs b.groups.rows b.excludes → IsUniverseWith s others u
  with-moved others u b needs groups excludes are =
      subst (λ n. AreRowsWith s others n u.groups u.excludes) (sym needs)
      (subst (λ g. AreRowsWith s others b.needs g u.excludes) (sym groups)
      (subst (AreRowsWith s others b.needs b.groups.rows) (sym excludes) are))

  -- rows of packages are as true of more groups
  pub grown : (meaning : Meaning) (needs groups more excludes : List (List ℕ)) → Grows groups more → AreUniverseRows s meaning needs groups excludes → AreUniverseRows s meaning needs more excludes
  grown meaning needs groups more excludes grows are = record {
    needs_each = are.needs_each;
    excludes_each = are.excludes_each;
    none_needed = are.none_needed;
    none_excluded = are.none_excluded;
    needed = λ k values is. numbers-grown groups more _ _ grows (are.needed k values is);
    excluded = are.excluded;
  }

  pub with-sources : (others : Meaning) (old new : Building) → AreUniverseRows s s.values old.needs old.groups.rows old.excludes → AppendsSources s others old new → AreRowsWith s others new.needs new.groups.rows new.excludes
  with-sources others old new rows more = record {
    first_needs = old.needs;
    first_excludes = old.excludes;
    packages = grown s.values old.needs old.groups.rows new.groups.rows old.excludes more.grows rows;
    rows = more.rows;
    needed = more.needs;
    are = more.are;
    excluded = more.excludes;
  }

  all-grown : (groups more : List (List ℕ)) (rows : List (List ℕ)) (needed : List (List (List ℕ))) → Grows groups more → Pairwise (AreNumbersOf groups) rows needed → Pairwise (AreNumbersOf more) rows needed
  all-grown groups more [] [] grows are = tt
  all-grown groups more [] (n ∷ needed) grows are = are
  all-grown groups more (r ∷ rows) [] grows are = are
  all-grown groups more (r ∷ rows) (n ∷ needed) grows are = (numbers-grown groups more r n grows are.0, all-grown groups more rows needed grows are.1)

  pub no-sources : (building : Building) → AreKnownIn s building → AppendsSources s [] building building
  no-sources building known = record {
    grows = grows-none building.groups.rows;
    rows = [];
    needs = sym (append-nil building.needs);
    are = tt;
    excludes = sym (append-nil building.excludes);
    known = known;
  }

  pub source-more : (sources : Meaning) (values : ValueEntries ValueMeaning) (first old new : Building) → AppendsSources s sources first old → AppendsSource s values old new → AppendsSources s (sources ++ values ∷ []) first new
  source-more sources values first old new so_far more = record {
    grows = grows-then first.groups.rows old.groups.rows new.groups.rows so_far.grows more.grows;
    rows = so_far.rows ++ more.row ∷ [];
    needs = more.needs ∙ ap (λ l. l ++ more.row ∷ []) so_far.needs ∙ append_assoc first.needs so_far.rows (more.row ∷ []);
    are = subst (Pairwise (AreNumbersOf new.groups.rows) (so_far.rows ++ more.row ∷ [])) (sym (map-append (built_in s) sources (values ∷ [])))
        (pairwise-push (AreNumbersOf new.groups.rows) so_far.rows (map (built_in s) sources) more.row (built_in s values) (all-grown old.groups.rows new.groups.rows so_far.rows (map (built_in s) sources) more.grows so_far.are) more.are);
    excludes = more.excludes
        ∙ ap (λ l. l ++ barred_in s values ∷ []) so_far.excludes
        ∙ append_assoc first.excludes (map (barred_in s) sources) (barred_in s values ∷ [])
        ∙ ap (λ l. first.excludes ++ l) (sym (map-append (barred_in s) sources (values ∷ [])));
    known = more.known;
  }
