-- Files that are read one after another: what they list with one more file, and that it is one list.
use Rattle.std.proofs.Common.{◌≡◌, ℕ, ◌-◌, List, [], ◌∷◌, ◌++◌, length, map, refl, sym, ap, ◌∙◌, arith, append-nil}
use Rattle.std.specs.List.{flat_map}
use Rattle.std.proofs.lemmas.Grind.{flat_map-append}
use Rattle.std.proofs.lemmas.List.{length-append, map-append}
use Rattle.deb_control.specs.Pairs.{Pairwise}
use Rattle.deb_control.proofs.GivenValues.{pairwise-push}
use Rattle.deb_index.specs.Files.{CountsFiles, ListEach, ListsAfter, ListsFiles, files_lines, files_spellings}
use Rattle.deb_index.specs.Listed.{Listed}
use Rattle.deb_index.specs.Members.{ListsMembers, member_lines, member_spellings}
use Rattle.deb_index.specs.declared.members.Members.{Members}
use Rattle.deb_index.proofs.ListedOnce.{members_once}

module _ (members : Members) where
  -- no file
  pub no_file-lists : (packages : List Listed) → packages ≡ [] → ListsFiles members [] packages
  no_file-lists packages none = record { lists = []; each = tt; joined = none }

  pub no_file-counts : (counts : List ℕ) → counts ≡ [] → CountsFiles members [] counts
  no_file-counts counts none = record { lists = []; each = tt; counted = none }

  -- one file
  pub one_file-lists : (text : List ℕ) (packages : List Listed) → ListsMembers members text packages → ListsFiles members (text ∷ []) packages
  one_file-lists text packages lists = record {
    lists = packages ∷ [];
    each = (lists, tt);
    joined = sym (append-nil packages);
  }

  pub one_file-counts : (text : List ℕ) (packages : List Listed) (counts : List ℕ) → ListsMembers members text packages → counts ≡ length packages ∷ [] → CountsFiles members (text ∷ []) counts
  one_file-counts text packages counts lists are = record { lists = packages ∷ []; each = (lists, tt); counted = are }

  -- one file more
  pub more-lists : (texts : List (List ℕ)) (text : List ℕ) (before all : List Listed) → ListsFiles members texts before → ListsAfter members text before all → ListsFiles members (texts ++ text ∷ []) all
  more-lists texts text before all files after = record {
    lists = files.lists ++ after.packages ∷ [];
    each = pairwise-push (ListsMembers members) texts files.lists text after.packages files.each after.lists;
    joined =
        after.follow ∙ ap (λ l. l ++ after.packages) files.joined
        ∙ sym (flat_map-append (λ list. list) files.lists (after.packages ∷ []) ∙ ap (λ l. flat_map (λ list. list) files.lists ++ l) (append-nil after.packages));
  }

  pub more-counts : (texts : List (List ℕ)) (text : List ℕ) (before all : List Listed) (counts new : List ℕ) → CountsFiles members texts counts → ListsAfter members text before all → new ≡ counts ++ (length all - length before) ∷ [] → CountsFiles members (texts ++ text ∷ []) new
  more-counts texts text before all counts new files after are =
      let own : length all - length before ≡ length after.packages = omega (arith, ap length after.follow, length-append before after.packages) in
      record {
        lists = files.lists ++ after.packages ∷ [];
        each = pairwise-push (ListsMembers members) texts files.lists text after.packages files.each after.lists;
        counted =
            are ∙ ap (λ n. counts ++ n ∷ []) own ∙ ap (λ l. l ++ length after.packages ∷ []) files.counted
            ∙ sym (map-append length files.lists (after.packages ∷ []));
      }

  pub more-lines : (texts : List (List ℕ)) (text : List ℕ) → files_lines members (texts ++ text ∷ []) ≡ files_lines members texts ++ member_lines members text
  more-lines texts text = flat_map-append (member_lines members) texts (text ∷ []) ∙ ap (λ l. files_lines members texts ++ l) (append-nil (member_lines members text))

  pub more-spellings : (texts : List (List ℕ)) (text : List ℕ) → files_spellings members (texts ++ text ∷ []) ≡ files_spellings members texts ++ member_spellings members text
  more-spellings texts text = flat_map-append (member_spellings members) texts (text ∷ []) ∙ ap (λ l. files_spellings members texts ++ l) (append-nil (member_spellings members text))

  -- they list one list of packages at most
  each-once : (texts : List (List ℕ)) (lists others : List (List Listed)) → ListEach members texts lists → ListEach members texts others → lists ≡ others
  each-once [] [] [] one two = refl
  each-once [] [] (other ∷ others) one two = absurd two
  each-once [] (list ∷ lists) others one two = absurd one
  each-once (text ∷ texts) [] others one two = absurd one
  each-once (text ∷ texts) (list ∷ lists) [] one two = absurd two
  each-once (text ∷ texts) (list ∷ lists) (other ∷ others) one two =
      ap (λ l. l ∷ lists) (members_once members text list other one.0 two.0) ∙ ap (λ ls. other ∷ ls) (each-once texts lists others one.1 two.1)

  pub files-once : (texts : List (List ℕ)) (packages others : List Listed) → ListsFiles members texts packages → ListsFiles members texts others → packages ≡ others
  files-once texts packages others one two =
      one.joined ∙ ap (flat_map (λ list. list)) (each-once texts one.lists two.lists one.each two.each) ∙ sym two.joined
