-- What is known of an index while its file is read, and at its end.
use Rattle.std.proofs.Common.{◌≡◌, ℕ, ◌-◌, true, false, length, List, [], ◌∷◌, ◌++◌, map, append-nil, arith, append_assoc, refl, sym, ap, ◌∙◌, subst}
use Rattle.std.specs.List.{filter}
use Rattle.std.proofs.lemmas.List.{map-append}
use Rattle.deb_syntax.specs.Answers.{Seen}
use Rattle.deb_syntax.specs.Fields.{are_fields}
use Rattle.deb_base.specs.declared.doc.Doc.TheVariants.{Packages, Status}
use Rattle.deb_field.specs.Values.{ValueMeaning}
use Rattle.deb_control.specs.Checking.{is_judged}
use Rattle.deb_control.specs.Pairs.{Pairwise}
use Rattle.deb_control.specs.Paragraphs.{AreValuesOf}
use Rattle.deb_control.specs.ValueFiles.{ValueEntries}
use Rattle.deb_control.proofs.GivenValues.{accepted-given, pairwise-push}
use Rattle.deb_control.proofs.PassingParagraphs.{values-passing}
use Rattle.deb_control.proofs.ShownSoFar.{ShownAll}
use Rattle.deb_index.specs.Files.{ListsAfter, StoresFile}
use Rattle.deb_index.specs.Listed.{Listed}
use Rattle.deb_index.specs.Listing.{Lists, SeenLists}
use Rattle.deb_index.specs.Members.{HasBoth, KeepsGiven, KeepsMembers, ListsMembers, doc_of, has_seen, has_values, seen_in}
use Rattle.deb_index.specs.Stores.{IsStore, lines_in, listed_in, spellings_in}
use Rattle.deb_index.specs.VersionSpellings.{version_body}
use Rattle.deb_index.specs.declared.members.Members.{Members}
use Rattle.deb_index.specs.declared.members.Members.TheVariants.{All, Installed}
use Rattle.deb_index.specs.declared.store.Store.{Store}
use Rattle.deb_index.proofs.Filters.{filter-all, filter-skips, filter-takes}
use Rattle.deb_index.proofs.Installed.{member_passes, one_list_of, same_has}
use Rattle.deb_index.proofs.ReadLines.{all_lines, all_spellings}

-- While a file is read: what is kept of its first paragraphs after what was there, and what a keeper keeps of these after others.
pub record ReadGiven {K : Type 0} (members : Members) (Keeps : K → List Seen → Type 0) (first now : K) (old store : Store) (given : List Seen) : Type 0 where
  pub keeps_given : KeepsGiven members old store given
  pub files : store.files ≡ old.files
  pub keeps : (before : List Seen) → Keeps first before → Keeps now (before ++ given)

none_kept : (members : Members) (store : Store) → IsStore store → KeepsGiven members store store []
none_kept members store is = record {
  kept = is;
  meaning = [];
  are = tt;
  same = tt;
  passing = tt;
  packages = [];
  lists = tt;
  listed = sym (append-nil (listed_in store));
  lines = sym (append-nil (lines_in store));
  spellings = sym (append-nil (spellings_in store));
}

pub none_read : {K : Type 0} (members : Members) (Keeps : K → List Seen → Type 0) (keeper : K) (store : Store) → IsStore store → ReadGiven members Keeps keeper keeper store store []
none_read members Keeps keeper store is = record {
  keeps_given = none_kept members store is;
  files = refl;
  keeps = λ before kept. subst (Keeps keeper) (sym (append-nil before)) kept;
}

-- one item more after those that followed others
pushed : {X : Type 0} (first more old new : List X) (x : X) → old ≡ first ++ more → new ≡ old ++ x ∷ [] → new ≡ first ++ (more ++ x ∷ [])
pushed first more old new x is one = one ∙ ap (λ l. l ++ x ∷ []) is ∙ append_assoc first more (x ∷ [])

-- one paragraph more
module _ (members : Members) (given : List Seen) (seen : Seen) (passes : is_judged (doc_of members) seen ≡ true) (fields : are_fields seen.fields ≡ true) where
  abbrev values : ValueEntries ValueMeaning
  values = (values-passing (doc_of members) seen passes).0

  are : AreValuesOf (doc_of members) seen values
  are = (values-passing (doc_of members) seen passes).1

  -- that isn't a member
  pub other_kept : (old store : Store) → KeepsGiven members old store given → has_seen members seen ≡ false → KeepsGiven members old store (given ++ seen ∷ [])
  other_kept old store keeps has =
      let seen_same = filter-skips (has_seen members) given seen has in
      let meant_same = filter-skips (has_values members) keeps.meaning values (same_has members seen fields values are ∙ has) in
      record {
        kept = keeps.kept;
        meaning = keeps.meaning ++ values ∷ [];
        are = pairwise-push (AreValuesOf (doc_of members)) given keeps.meaning seen values keeps.are are;
        same = pairwise-push (HasBoth members) given keeps.meaning seen values keeps.same (sym (same_has members seen fields values are));
        passing = rw (seen_same, meant_same) keeps.passing;
        packages = keeps.packages;
        lists = rw meant_same keeps.lists;
        listed = keeps.listed;
        lines = keeps.lines ∙ ap (λ l. lines_in old ++ map (λ s. s.first) l) (sym seen_same);
        spellings = keeps.spellings ∙ ap (λ l. spellings_in old ++ map (λ s. version_body s.fields) l) (sym seen_same);
      }

  -- that is one
  pub member_kept : (first old new : Store) (p : Listed) → KeepsGiven members first old given → has_seen members seen ≡ true → SeenLists seen p → IsStore new → listed_in new ≡ listed_in old ++ p ∷ [] → lines_in new ≡ lines_in old ++ seen.first ∷ [] → spellings_in new ≡ spellings_in old ++ version_body seen.fields ∷ [] → KeepsGiven members first new (given ++ seen ∷ [])
  member_kept first old new p keeps has lists kept listed line spelling =
      let seen_more = filter-takes (has_seen members) given seen has in
      let meant_more = filter-takes (has_values members) keeps.meaning values (same_has members seen fields values are ∙ has) in
      let too = member_passes members seen fields values are has in
      let lists_these = subst (λ v. Lists v p) (one_list_of Packages seen lists.values values lists.are too) lists.lists in
      record {
        kept = kept;
        meaning = keeps.meaning ++ values ∷ [];
        are = pairwise-push (AreValuesOf (doc_of members)) given keeps.meaning seen values keeps.are are;
        same = pairwise-push (HasBoth members) given keeps.meaning seen values keeps.same (sym (same_has members seen fields values are));
        passing = rw (seen_more, meant_more) (pairwise-push (AreValuesOf Packages) (seen_in members given) (filter (has_values members) keeps.meaning) seen values keeps.passing too);
        packages = keeps.packages ++ p ∷ [];
        lists = rw meant_more (pairwise-push Lists (filter (has_values members) keeps.meaning) keeps.packages values p keeps.lists lists_these);
        listed = pushed (listed_in first) keeps.packages _ _ p keeps.listed listed;
        lines = pushed (lines_in first) _ _ _ seen.first keeps.lines line ∙ ap (λ l. lines_in first ++ l) (sym (map-append (λ s. s.first) (seen_in members given) (seen ∷ [])) ∙ ap (map (λ s. s.first)) (sym seen_more));
        spellings = pushed (spellings_in first) _ _ _ (version_body seen.fields) keeps.spellings spelling ∙ ap (λ l. spellings_in first ++ l) (sym (map-append (λ s. version_body s.fields) (seen_in members given) (seen ∷ [])) ∙ ap (map (λ s. version_body s.fields)) (sym seen_more));
      }

-- all of them
lists_members : (members : Members) (text : List ℕ) (given : List Seen) (old store : Store) → ShownAll (doc_of members) text given → (keeps : KeepsGiven members old store given) → ListsMembers members text keeps.packages
lists_members All text given old store shown keeps = record {
  meaning = keeps.meaning;
  accepted = accepted-given Packages text given keeps.meaning shown keeps.are;
  listed = subst (λ m. Pairwise Lists m keeps.packages) (filter-all (has_values All) (λ values. refl) keeps.meaning) keeps.lists;
}
lists_members Installed text given old store shown keeps = record {
  meaning = keeps.meaning;
  accepted = accepted-given Status text given keeps.meaning shown keeps.are;
  listed = keeps.lists;
}

pub stores_file : (members : Members) (text : List ℕ) (given : List Seen) (old store : Store) → ShownAll (doc_of members) text given → KeepsGiven members old store given → StoresFile members text old store
stores_file members text given old store shown keeps = record {
  listed = record { packages = keeps.packages; lists = lists_members members text given old store shown keeps; follow = keeps.listed };
  lines = keeps.lines ∙ ap (λ l. lines_in old ++ l) (all_lines members text given shown);
  spellings = keeps.spellings ∙ ap (λ l. spellings_in old ++ l) (all_spellings members text given shown);
}

-- of a first file these are all
pub lists_alone : (members : Members) (text : List ℕ) (before all : List Listed) → before ≡ [] → ListsAfter members text before all → ListsMembers members text all
lists_alone members text before all none lists = subst (ListsMembers members text) (ap (λ l. l ++ lists.packages) (sym none) ∙ sym lists.follow) lists.lists

pub counted_alone : (files : List ℕ) (n : ℕ) (before : List Listed) → files ≡ [] → before ≡ [] → files ++ (n - length before) ∷ [] ≡ n ∷ []
counted_alone files n before none no_package = let all : n - 0 ≡ n = omega arith in rw (none, no_package, all) refl

-- and what is kept of them
pub keeps_members : (members : Members) (Keeps : List Seen → Type 0) (text : List ℕ) (given : List Seen) (old store : Store) → ShownAll (doc_of members) text given → KeepsGiven members old store given → Keeps given → KeepsMembers members Keeps text
keeps_members All Keeps text given old store shown keeps kept = record {
  given = given;
  next = shown.next;
  accepted = λ values are. accepted-given Packages text given values shown are;
  keeps = kept;
}
keeps_members Installed Keeps text given old store shown keeps kept = record {
  all = record {
    given = given;
    next = shown.next;
    accepted = λ values are. accepted-given Status text given values shown are;
    keeps = kept;
  };
  meaning = keeps.meaning;
  are = keeps.are;
  same = keeps.same;
  members = keeps.passing;
}
