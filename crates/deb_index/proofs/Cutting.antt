-- The groups of a canonical relation, and the entries in them.
use Rattle.std.proofs.Common.{◌≡◌, ◌≢◌, ℕ, ◌+◌, ◌-◌, ◌≤◌, ◌<◌, ◌==◌, ◌&&◌, Bool, true, false, cond, not, List, [], ◌∷◌, ◌++◌, length, take, drop, map, Option, None, Some, append_assoc, append-nil, refl, sym, ap, ◌∙◌, subst, arith, codes, IsTrue}
use Rattle.std.specs.List.{AllByRecursion, prefix_len}
use Rattle.std.specs.Option.{option_map}
use Rattle.std.proofs.lemmas.List.{drop_all, drop-drop, length-drop, length-take-le, map-append}
use Rattle.std.proofs.lemmas.List.Elements.{All-append, All-from_recursion}
use Rattle.std.proofs.Math.Seq.{drop-append_seam, take-append_seam}
use Rattle.deb_base.specs.PackageNames.{is_package_byte}
use Rattle.deb_base.proofs.AllElements.{All-weaker}
use Rattle.deb_version.specs.Parts.{Meaning as Version}
use Rattle.deb_version.specs.PartsLemmas.{cons_not_nil}
use Rattle.deb_relation.specs.Meaning.{Restrictions, Alternative, Group, Relation}
use Rattle.deb_relation.specs.declared.operator.Op.{Op}
use Rattle.deb_relation.specs.Texts.{alternative_text, architectures_text, bound_text, formula_text, group_text, qualifier_text, relation_text, separated}
use Rattle.deb_relation.proofs.Bytes.{other, package_bytes, package_some}
use Rattle.deb_relation.proofs.Regular.{IsRegular, IsRegularGroup, IsRegularRelation}
use Rattle.deb_relation.proofs.Runs.{Passes, Stops}
use Rattle.deb_index.specs.Entries.{AppendsEntries, BehindName, HasNoFault, HasNumber, IsEntry, IsIn, IsVersionPlace, Places, entry_name, entry_version, provision_at, version_kept}
use Rattle.deb_index.specs.Listed.{Provision, bound_version, is_plain, provided_by, provision_in, provisions_of}
use Rattle.deb_index.specs.Spans.{part}
use Rattle.deb_index.proofs.Commas.{group_lacks_comma, is_other}
use Rattle.deb_index.proofs.Parts.{part-part}
use Rattle.deb_index.proofs.VersionPlaces.{front_len, some_length}

-- what follows a group's text in that of a relation begins with a comma
stops-comma : (groups : Relation) → Stops (is_other 44) (separated (codes ", ") (map group_text groups))
stops-comma [] = tt
stops-comma (group ∷ groups) = refl

-- the text that is left is that of some groups
pub record LeavesGroups (text : List ℕ) (start n : ℕ) (group : Group) (groups : Relation) : Type 0 where
  pub front : part start (start + n) text ≡ group_text group
  pub left : drop (start + n + 2) text ≡ relation_text groups

-- a group ends at the first comma, and the next one begins two bytes on
pub next_group : (text : List ℕ) (start n : ℕ) (group : Group) (groups : Relation) → IsRegularGroup group → drop start text ≡ relation_text (group ∷ groups) → n ≡ prefix_len (is_other 44) (drop start text) → LeavesGroups text start n group groups
next_group text start n group groups regular is count =
    let more = separated (codes ", ") (map group_text groups) in
    let long : n ≡ length (group_text group) = count ∙ ap (prefix_len (is_other 44)) is ∙ front_len (is_other 44) (group_text group) more (group_lacks_comma group regular) (stops-comma groups) in
    let same : start + n - start ≡ length (group_text group) = omega (arith, long) in
    let sum : start + n + 2 ≡ start + (n + 2) = omega arith in
    record {
      front = ap (λ k. take k (drop start text)) same ∙ ap (take (length (group_text group))) is ∙ take-append_seam (group_text group) more;
      left =
          ap (λ k. drop k text) sum ∙ sym (drop-drop (n + 2) start text) ∙ ap (drop (n + 2)) is
          ∙ ap (λ k. drop (k + 2) (group_text group ++ more)) long ∙ sym (drop-drop 2 (length (group_text group)) (group_text group ++ more)) ∙ ap (drop 2) (drop-append_seam (group_text group) more)
          ∙ behind groups;
    }
  where
    behind : (groups : Relation) → drop 2 (separated (codes ", ") (map group_text groups)) ≡ relation_text groups
    behind [] = refl
    behind (next ∷ groups) = refl

append-some : (xs ys : List ℕ) → xs ≢ [] → xs ++ ys ≢ []
append-some [] ys some e = some refl
append-some (x ∷ xs) ys some e = cons_not_nil x (xs ++ ys) e

-- the text of an alternative and what follows it, from its name on
abbrev pub behind_name : Alternative → Group → List ℕ
behind_name a others = qualifier_text a.qualifier ++ (bound_text a.bound ++ ((architectures_text a.architectures ++ formula_text a.formula) ++ separated (codes " | ") (map alternative_text others)))

pub group_from_name : (a : Alternative) (others : Group) → group_text (a ∷ others) ≡ a.name ++ behind_name a others
unfolding group_text
group_from_name a others = split a.name (qualifier_text a.qualifier) (bound_text a.bound) (architectures_text a.architectures) (formula_text a.formula) (separated (codes " | ") (map alternative_text others))
  where
    split : (name q b l f more : List ℕ) → (name ++ (q ++ (b ++ (l ++ f)))) ++ more ≡ name ++ (q ++ (b ++ ((l ++ f) ++ more)))
    split name q b l f more = simp append_assoc refl

-- a group has a text
pub group_some : (group : Group) → IsRegularGroup group → group_text group ≢ []
group_some [] regular e = regular.some refl
group_some (a ∷ others) regular e = append-some a.name (behind_name a others) (package_some a.name regular.each.0.name) (sym (group_from_name a others) ∙ e)

-- nothing is left of a relation's text only where no group is
pub no_groups : (groups : Relation) → AllByRecursion IsRegularGroup groups → relation_text groups ≡ [] → groups ≡ []
no_groups [] regular is = refl
no_groups (group ∷ groups) regular is = absurd (append-some (group_text group) (separated (codes ", ") (map group_text groups)) (group_some group regular.0) is)

abbrev pub in_name : ℕ → Bool
in_name b = not (b == 32) && not (b == 58)

name_passes : (name : List ℕ) → Passes is_package_byte name → Passes in_name name
name_passes name all = All-weaker (λ b. IsTrue (is_package_byte b)) (λ b. IsTrue (in_name b)) (λ b h. both (b == 32) (b == 58) (other is_package_byte 32 refl b h) (other is_package_byte 58 refl b h)) name all
  where
    both : (s t : Bool) → s ≡ false → t ≡ false → (not s && not t) ≡ true
    both s t e f = rw (e, f) refl

behind_stops : (a : Alternative) (others : Group) → Stops in_name (behind_name a others)
behind_stops a others = go a.qualifier a.bound a.architectures a.formula others
  where
    go : (q : Option (List ℕ)) (bound : Option (Op × Version)) (list : Option (Bool × List (List ℕ))) (formula : List Restrictions) (others : Group) → Stops in_name (qualifier_text q ++ (bound_text bound ++ ((architectures_text list ++ formula_text formula) ++ separated (codes " | ") (map alternative_text others))))
    go (Some q) bound list formula others = refl
    go None (Some bound) list formula others = refl
    go None None (Some list) formula others = refl
    go None None None (f ∷ formula) others = refl
    go None None None [] (a ∷ others) = refl
    go None None None [] [] = tt

-- the name of the first alternative, and what follows it
pub name_at : (a : Alternative) (others : Group) → IsRegular a → prefix_len in_name (group_text (a ∷ others)) ≡ length a.name
name_at a others regular = ap (prefix_len in_name) (group_from_name a others) ∙ front_len in_name a.name (behind_name a others) (name_passes a.name (package_bytes a.name regular.name)) (behind_stops a others)

pub behind_at : (a : Alternative) (others : Group) → IsRegular a → (text : List ℕ) → text ≡ group_text (a ∷ others) → drop (prefix_len in_name text) text ≡ behind_name a others
behind_at a others regular text is =
    ap (λ t. drop (prefix_len in_name t) t) is ∙ ap (λ n. drop n (group_text (a ∷ others))) (name_at a others regular)
    ∙ ap (drop (length a.name)) (group_from_name a others) ∙ drop-append_seam a.name (behind_name a others)

pub front_at : (a : Alternative) (others : Group) → IsRegular a → (text : List ℕ) → text ≡ group_text (a ∷ others) → take (prefix_len in_name text) text ≡ a.name
front_at a others regular text is =
    ap (λ t. take (prefix_len in_name t) t) is ∙ ap (λ n. take n (group_text (a ∷ others))) (name_at a others regular)
    ∙ ap (take (length a.name)) (group_from_name a others) ∙ take-append_seam a.name (behind_name a others)

-- what a group provides, by whether its first alternative is plain and alone
pub provided-none : (a : Alternative) (others : Group) → (is_plain a && (length others == 0)) ≡ false → provided_by (a ∷ others) ≡ []
provided-none a [] e = ap (λ v. cond v (provision_in a ∷ []) []) (and-true (is_plain a) e)
  where
    and-true : (v : Bool) → (v && true) ≡ false → v ≡ false
    and-true true e = e
    and-true false e = refl
provided-none a (b ∷ others) e = refl

pub provided-one : (a : Alternative) (others : Group) → (is_plain a && (length others == 0)) ≡ true → provided_by (a ∷ others) ≡ provision_in a ∷ []
provided-one a [] e = ap (λ v. cond v (provision_in a ∷ []) []) (and-true (is_plain a) e)
  where
    and-true : (v : Bool) → (v && true) ≡ true → v ≡ true
    and-true true e = refl
    and-true false e = e
provided-one a (b ∷ others) e =
    let no : (is_plain a && (length (b ∷ others) == 0)) ≡ false = ap (λ v. is_plain a && v) (some_length b others) ∙ and-false (is_plain a) in
    let wrong : false ≡ true = sym no ∙ e in
    absurd (cc)
  where
    and-false : (v : Bool) → (v && false) ≡ false
    and-false true = refl
    and-false false = refl

some-same : (a b : Option Version) → Some a ≡ Some b → a ≡ b
some-same a b e = cc

provision-same : (n m : List ℕ) (v w : Option Version) → n ≡ m → v ≡ w → ◌≡◌ {A = List Provision} (record { name = n; version = v } ∷ []) (record { name = m; version = w } ∷ [])
provision-same n m v w e f = rw (e, f) refl

-- the entry of a group: its name and its version are at these offsets
module _ (text : List ℕ) (number start end k : ℕ) (a : Alternative) (others : Group) (regular : IsRegular a) (is : part start end text ≡ group_text (a ∷ others)) (long : k ≡ prefix_len in_name (part start end text)) (fits : start + k ≤ end) (inside : end ≤ length text) where
  pub behind_is : drop k (part start end text) ≡ behind_name a others
  behind_is = ap (λ n. drop n (part start end text)) long ∙ behind_at a others regular (part start end text) is

  pub entry_name_is : (from to : ℕ) → entry_name text (record { start = start; name_end = start + k; version = start + k + from; end = start + k + to; number = number }) ≡ a.name
  entry_name_is from to =
      let first : start ≡ start + 0 = omega arith in
      let low : 0 ≤ k = omega arith in
      let count : k - 0 ≡ prefix_len in_name (part start end text) = omega (arith, long) in
      ap (λ s. part s (start + k) text) first ∙ sym (part-part start end 0 k text low fits)
      ∙ ap (λ n. take n (part start end text)) count ∙ front_at a others regular (part start end text) is

  pub entry_version_is : (from to : ℕ) → from ≤ to → start + k + to ≤ end → entry_version text (record { start = start; name_end = start + k; version = start + k + from; end = start + k + to; number = number }) ≡ part from to (drop k (part start end text))
  entry_version_is from to order within =
      let first : start + k + from ≡ start + (k + from) = omega arith in
      let last : start + k + to ≡ start + (k + to) = omega arith in
      let low : k + from ≤ k + to = omega (arith, order) in
      let high : start + (k + to) ≤ end = omega (arith, within) in
      let count : k + to - (k + from) ≡ to - from = omega arith in
      ap (λ s. part s (start + k + to) text) first ∙ ap (λ e. part (start + (k + from)) e text) last
      ∙ sym (part-part start end (k + from) (k + to) text low high)
      ∙ ap (λ n. take n (drop (k + from) (part start end text))) count
      ∙ ap (take (to - from)) (sym (drop-drop from k (part start end text)))

  pub entry_is : (from to : ℕ) → from ≤ to → start + k + to ≤ end → IsVersionPlace a others (drop k (part start end text)) (Some (from, to)) → HasNoFault (part from to (drop k (part start end text)))
      → IsEntry text number (Some (record { start = start; name_end = start + k; version = start + k + from; end = start + k + to; number = number })) (provided_by (a ∷ others))
  entry_is from to order within place faultless = go (is_plain a && (length others == 0)) refl
    where
      go : (v : Bool) → (is_plain a && (length others == 0)) ≡ v → IsEntry text number (Some (record { start = start; name_end = start + k; version = start + k + from; end = start + k + to; number = number })) (provided_by (a ∷ others))
      go true e =
          let version : version_kept (part from to (drop k (part start end text))) ≡ option_map bound_version a.bound = some-same _ _ (place ∙ ap (λ v. cond v (Some (option_map bound_version a.bound)) None) e) in
          record {
            is_in = record { name_end = omega (arith, fits, inside); end = omega (arith, within, inside); faultless = subst HasNoFault (sym (entry_version_is from to order within)) faultless };
            numbered = refl;
            provides =
                provision-same _ _ _ _ (entry_name_is from to) (ap version_kept (entry_version_is from to order within) ∙ version) ∙ sym (provided-one a others e);
          }
      go false e = let no : Some (version_kept (part from to (drop k (part start end text)))) ≡ None = place ∙ ap (λ v. cond v (Some (option_map bound_version a.bound)) None) e in absurd (cc)

-- no entry
pub no_entry : (text behind : List ℕ) (number : ℕ) (a : Alternative) (others : Group) → IsVersionPlace a others behind None → IsEntry text number None (provided_by (a ∷ others))
no_entry text behind number a others place = go (is_plain a && (length others == 0)) refl
  where
    go : (v : Bool) → (is_plain a && (length others == 0)) ≡ v → IsEntry text number None (provided_by (a ∷ others))
    go true e = let no : None ≡ Some (option_map bound_version a.bound) = place ∙ ap (λ v. cond v (Some (option_map bound_version a.bound)) None) e in absurd (cc)
    go false e = record { is_in = tt; numbered = tt; provides = sym (provided-none a others e) }

-- what was appended of the groups so far
pub record SoFar (text : List ℕ) (number start : ℕ) (old now : List Places) (m : Relation) : Type 0 where
  pub done : List Provision
  pub left : Relation
  pub regular : AllByRecursion IsRegularGroup left
  pub rest : drop start text ≡ relation_text left
  pub appended : AppendsEntries text number old now done
  pub all : done ++ provisions_of left ≡ provisions_of m

pub so_far_none : (text : List ℕ) (number start : ℕ) (old : List Places) (m : Relation) → IsRegularRelation m → drop start text ≡ relation_text m → SoFar text number start old old m
so_far_none text number start old m regular is = record {
  done = [];
  left = m;
  regular = regular.groups;
  rest = is;
  appended = record { more = []; appended = sym (append-nil old); are_in = All-from_recursion (IsIn text) [] tt; numbered = All-from_recursion (HasNumber number) [] tt; provides = refl };
  all = refl;
}

pub so_far_all : (text : List ℕ) (number start : ℕ) (old now : List Places) (m : Relation) → SoFar text number start old now m → length text ≤ start → AppendsEntries text number old now (provisions_of m)
so_far_all text number start old now m so_far over =
    let none = no_groups so_far.left so_far.regular (sym so_far.rest ∙ drop_all start text over) in
    subst (AppendsEntries text number old now) (sym (append-nil so_far.done) ∙ ap (λ l. so_far.done ++ provisions_of l) (sym none) ∙ so_far.all) so_far.appended

appends-both : (text : List ℕ) (number : ℕ) (old now new : List Places) (done more : List Provision) → AppendsEntries text number old now done → AppendsEntries text number now new more → AppendsEntries text number old new (done ++ more)
appends-both text number old now new done more first second = record {
  more = first.more ++ second.more;
  appended = second.appended ∙ ap (λ l. l ++ second.more) first.appended ∙ append_assoc old first.more second.more;
  are_in = All-append (IsIn text) first.more second.more first.are_in second.are_in;
  numbered = All-append (HasNumber number) first.more second.more first.numbered second.numbered;
  provides = map-append (provision_at text) first.more second.more ∙ ap (λ l. l ++ map (provision_at text) second.more) first.provides ∙ ap (λ l. done ++ l) second.provides;
}

pub so_far_more : (text : List ℕ) (number start n : ℕ) (old now new : List Places) (m : Relation) → SoFar text number start old now m → start < length text → n ≡ prefix_len (is_other 44) (drop start text)
    → ((group : Group) → IsRegularGroup group → part start (start + n) text ≡ group_text group → AppendsEntries text number now new (provided_by group)) → SoFar text number (start + n + 2) old new m
so_far_more text number start n old now new m so_far under count appends = go so_far.left so_far.regular so_far.rest so_far.all
  where
    go : (left : Relation) → AllByRecursion IsRegularGroup left → drop start text ≡ relation_text left → so_far.done ++ provisions_of left ≡ provisions_of m → SoFar text number (start + n + 2) old new m
    go [] regular rest all = absurd (omega (arith, under, length-drop start text, ap length rest))
    go (group ∷ left) regular rest all =
        let next = next_group text start n group left regular.0 rest count in
        record {
          done = so_far.done ++ provided_by group;
          left = left;
          regular = regular.1;
          rest = next.left;
          appended = appends-both text number old now new so_far.done (provided_by group) so_far.appended (appends group regular.0 next.front);
          all = append_assoc so_far.done (provided_by group) (provisions_of left) ∙ all;
        }

part-length : (start end : ℕ) (text : List ℕ) → end ≤ length text → length (part start end text) ≡ end - start
part-length start end text inside = length-take-le (end - start) (drop start text) (omega (arith, length-drop start text, inside))

-- the entry of a group that was found, and none
pub entry_found : (text : List ℕ) (number start end k from to : ℕ) (behind : List ℕ) (group : Group) → IsRegularGroup group → part start end text ≡ group_text group → k ≡ prefix_len in_name (part start end text)
    → start ≤ end → end ≤ length text → k ≤ length (part start end text) → from ≤ to → to ≤ length behind → behind ≡ drop k (part start end text)
    → ((a : Alternative) (others : Group) → IsRegular a → BehindName a others behind → IsVersionPlace a others behind (Some (from, to)))
    → ((a : Alternative) (others : Group) → IsRegular a → BehindName a others behind → HasNoFault (part from to behind))
    → IsEntry text number (Some (record { start = start; name_end = start + k; version = start + k + from; end = start + k + to; number = number })) (provided_by group)
entry_found text number start end k from to behind [] regular is long low inside within order to_within behind_same place faultless = absurd (regular.some refl)
entry_found text number start end k from to behind (a ∷ others) regular is long low inside within order to_within behind_same place faultless =
    let fits : start + k ≤ end = omega (arith, low, within, part-length start end text inside) in
    let total : start + k + to ≤ end = omega (arith, low, within, to_within, ap length behind_same, length-drop k (part start end text), part-length start end text inside) in
    let name : BehindName a others behind = behind_same ∙ ap (λ n. drop n (part start end text)) long ∙ behind_at a others regular.each.0 (part start end text) is in
    entry_is text number start end k a others regular.each.0 is long fits inside from to order total
    (subst (λ t. IsVersionPlace a others t (Some (from, to))) behind_same (place a others regular.each.0 name))
    (subst (λ t. HasNoFault (part from to t)) behind_same (faultless a others regular.each.0 name))

pub entry_missing : (text : List ℕ) (number start end k : ℕ) (behind : List ℕ) (group : Group) → IsRegularGroup group → part start end text ≡ group_text group → k ≡ prefix_len in_name (part start end text) → behind ≡ drop k (part start end text)
    → ((a : Alternative) (others : Group) → IsRegular a → BehindName a others behind → IsVersionPlace a others behind None) → IsEntry text number None (provided_by group)
entry_missing text number start end k behind [] regular is long behind_same place = absurd (regular.some refl)
entry_missing text number start end k behind (a ∷ others) regular is long behind_same place =
    no_entry text behind number a others (place a others regular.each.0 (behind_same ∙ ap (λ n. drop n (part start end text)) long ∙ behind_at a others regular.each.0 (part start end text) is))

-- an entry, or none, is appended
pub append_found : (text : List ℕ) (number : ℕ) (old new : List Places) (e : Places) (provided : List Provision) → new ≡ old ++ e ∷ [] → IsEntry text number (Some e) provided → AppendsEntries text number old new provided
append_found text number old new e provided is entry = record {
  more = e ∷ [];
  appended = is;
  are_in = All-from_recursion (IsIn text) (e ∷ []) (entry.is_in, tt);
  numbered = All-from_recursion (HasNumber number) (e ∷ []) (entry.numbered, tt);
  provides = entry.provides;
}

pub append_missing : (text : List ℕ) (number : ℕ) (old : List Places) (provided : List Provision) → IsEntry text number None provided → AppendsEntries text number old old provided
append_missing text number old provided entry = record {
  more = [];
  appended = sym (append-nil old);
  are_in = All-from_recursion (IsIn text) [] tt;
  numbered = All-from_recursion (HasNumber number) [] tt;
  provides = entry.provides;
}
